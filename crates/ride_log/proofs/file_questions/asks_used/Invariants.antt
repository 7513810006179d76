-- What the places to come are asked is what all are asked.
use Rattle.ride_log.proofs.file_questions.Asking.{Using}
use Rattle.ride_log.proofs.file_questions.asks_used.Given as goal

abbrev pub invariant-loop-k : goal.invariant-loop-k
invariant-loop-k l = Using l.file l.index l.count l.k
