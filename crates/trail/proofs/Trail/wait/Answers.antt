-- `trail::Trail::wait` puts the place behind the others.
use Rattle.trail.proofs.Tracks.{waits}
use Rattle.trail.proofs.Trail.wait.Goals as goal

pub returns : goal.returns
returns c = waits c.args.self.now c.args.window.now c.args.p c.told-window c.requires
