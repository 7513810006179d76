-- `steer::way_home::near_here` meets its contract.
use mathlib.Core.Path.{sym, ap, ◌∙◌}
use lib.Ieee.{of_bits}
use Rattle.binary32.specs.Arithmetic.{constant}
use Rattle.std.specs.Prelude.{Option}
use Rattle.plane.specs.declared.Point.{Point}
use Rattle.matching.specs.Distances.{drop_m}
use Rattle.calls.specs.Follow.{near_here}
use Rattle.steer.proofs.way_home.near_here.Goals as goal

pub returns-in_err-here : goal.returns-in_err-here
unfolding near_here
returns-in_err-here c =
    c.from_residual.ensures ∙ sym (ap (λ (x : Option Point). near_here x c.args.course.now) c.in_err-here.was)

pub returns : goal.returns
unfolding near_here drop_m constant of_bits
returns c = c.course_near.ensures ∙ sym (ap (λ (x : Option Point). near_here x c.args.course.now) c.in_ok-here.was)
