-- `fix::recording::add_update` meets its contract.
use Rattle.fix.proofs.recording.Growing.{fit-grown, grown-updated}
use Rattle.fix.proofs.recording.add_update.Goals as goal

pub update-requires : goal.update-requires
update-requires c = fit-grown c.args.p c.requires.grows c.add.ensures c.requires.fit

pub returns : goal.returns
returns c = let g = c.args in grown-updated g.p c.requires.grows c.add.ensures g.course.now g.now_ms c.update.ensures.updates
