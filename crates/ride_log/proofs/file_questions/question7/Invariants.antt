-- What the records met and those still to come tell is what all tell.
use lib.ListN.{length}
use Rattle.ride_log.specs.Chain.{left}
use Rattle.ride_log.proofs.file_questions.Asking.{Meeting}
use Rattle.ride_log.proofs.file_questions.question7.Given as goal

abbrev pub invariant-loop-index : goal.invariant-loop-index
invariant-loop-index l = Meeting l.file l.count l.records.left (left l.records)

abbrev pub decreases-loop-index : goal.decreases-loop-index
decreases-loop-index l = length (left l.records)
