-- `rebuild::visit_sample` meets its contract.
use Rattle.rebuild.proofs.Visiting.{heard-none, heard-one}
use Rattle.rebuild.proofs.visit_sample.Goals as goal

pub returns-in_default : goal.returns-in_default
returns-in_default c = heard-none c.hear.ensures c.requires c.in_default.is

pub replay-requires : goal.replay-requires
replay-requires c = (c.reset_if.ensures c.hear.new.r).fit _ c.requires

pub returns-in-Some : goal.returns-in-Some
returns-in-Some c = heard-one c.hear.ensures c.requires c.in-Some.is c.reset_if.ensures c.replay.ensures
