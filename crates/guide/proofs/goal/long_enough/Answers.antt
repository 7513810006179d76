-- `guide::goal::long_enough` meets its contract.
use mathlib.Core.Path.{◌≡◌, sym}
use mathlib.Core.List.{List}
use lib.Ieee.{le, of_bits}
use Rattle.std.proofs.Common.{rules, Bool, false, Option, Some, None, Float, MatchOption, IsFalse}
use Rattle.binary32.specs.Arithmetic.{constant}
use Rattle.crumbs.specs.declared.Crumb.{Crumb}
use Rattle.crumbs.specs.Length.{length_m}
use Rattle.crumbs.proofs.Lengths.{long, short}
use Rattle.guide.specs.Goal.{min_track_m, long_enough}
use Rattle.guide.proofs.goal.long_enough.Goals as goal

long-is : (l : List Crumb) (x : Option Float) {r : Bool} {P : Float → Type 0} → x ≡ length_m l → MatchOption x (IsFalse r) P
    → ((m : Float) → P m → r ≡ le min_track_m m) → r ≡ long_enough false l
unfolding long_enough
long-is l None e h f = simp (short l (sym e), h)
long-is l (Some m) e h f = let k = long l (sym e) in simp (k.0, k.1, f m h)

pub returns-then-on_course : goal.returns-then-on_course
unfolding long_enough
returns-then-on_course c = simp c.if-on_course.true

pub returns : goal.returns
unfolding min_track_m constant of_bits
returns c = rw c.if-on_course.false (long-is _ _ c.length_m.ensures c.is_some_and.ensures (λ m k. search rules))
