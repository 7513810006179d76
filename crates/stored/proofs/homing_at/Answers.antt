-- `stored::homing_at` meets its contract.
use Rattle.stored.specs.Stored.{homing_at}
use Rattle.stored.proofs.homing_at.Goals as goal

pub returns : goal.returns
unfolding homing_at
returns c =
    simp (
      ← c.shown_at.ensures,
      ← c.lap_at.ensures,
      ← c.flag_at-2.ensures,
      ← c.flag_at.ensures,
      ← c.course_at.ensures,
      ← c.follow_at.ensures,
      ← c.motion_at.ensures,
      ← c.spot_at.ensures,
      ← c.place_at.ensures,
      ← c.frame_at.ensures,
      ← c.window_at.ensures,
      ← c.trail_at.ensures,
    )
