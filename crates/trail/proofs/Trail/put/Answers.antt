-- `trail::Trail::put` puts a crumb behind those held.
use Rattle.trail.proofs.Tracks.{puts}
use Rattle.trail.proofs.Trail.put.Goals as goal

pub returns : goal.returns
returns c = λ w.
    puts c.args.self.now c.args.p w _ c.requires.0 c.requires.1 (rw c.new.ensures at c.recorded_m.ensures) c.put.ensures
