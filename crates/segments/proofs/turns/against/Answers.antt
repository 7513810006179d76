-- `segments::turns::against` meets its contract: the tests are the rule's.
use Rattle.std.proofs.Common.{rules}
use Rattle.segments.specs.Turn.{against}
use Rattle.segments.proofs.turns.Testing.{against-is}
use Rattle.segments.proofs.turns.against.Goals as goal

pub returns : goal.returns
unfolding against
returns c = against-is _ c.args.a c.args.b c.is_some_and.ensures (λ known k. search rules)
