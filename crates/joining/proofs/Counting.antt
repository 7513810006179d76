-- The count of the fixes back along the breadcrumb. Assumes nothing.
use mathlib.Core.Path.{◌≡◌}
use Prim.Native.Nat.{◌+◌}
use mathlib.Core.Bool.{true, false}
use lib.Dec.{leb}
use Rattle.plane.specs.declared.Point.{Point}
use Rattle.trail.specs.Trail.{retrace_fixes}
use Rattle.state.specs.State.{State, with_track}
use Rattle.state.specs.Rule.{done}
use Rattle.joining.specs.Retrace.{rides_back, len_before}
use Rattle.joining.specs.Join.{with_retrace, retracing}

-- ---- the count
module _ (p : Point) (s : State) where
  pub rode-back : rides_back s.motion.heading s.track.crumbs p ≡ true
      → retracing p s ≡ done (leb retrace_fixes (s.track.retrace + 1))
      (with_track (with_retrace (s.track.retrace + 1) (len_before s.track) s.track) s)
  unfolding retracing
  rode-back e = simp e

  pub rode-on : rides_back s.motion.heading s.track.crumbs p ≡ false
      → retracing p s ≡ done false (with_track (with_retrace 0 s.track.retrace_len s.track) s)
  unfolding retracing
  rode-on e = simp e
