-- What the records still to come tell is what all tell.
use Rattle.ride_log.specs.Chain.{left}
use Rattle.ride_log.proofs.file_questions.Asking.{Asking}
use Rattle.ride_log.proofs.file_questions.asks_records.Given as goal

abbrev pub invariant-loop-index : goal.invariant-loop-index
invariant-loop-index l = Asking l.file (left l.index-iterator)
