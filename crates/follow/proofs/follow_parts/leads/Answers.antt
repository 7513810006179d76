-- `follow::follow_parts::leads` meets its contract: a breadcrumb with no length leads nowhere.
use mathlib.Core.Path.{◌≡◌, sym}
use mathlib.Core.Bool.{not}
use mathlib.Core.List.{List}
use lib.Ieee.{lt, of_bits}
use Rattle.std.proofs.Common.{rules, Bool, Option, Some, None, Float, MatchOption, IsFalse}
use Rattle.binary32.specs.Arithmetic.{constant}
use Rattle.crumbs.specs.declared.Crumb.{Crumb}
use Rattle.crumbs.specs.Length.{length_m}
use Rattle.crumbs.proofs.Lengths.{long, short}
use Rattle.trail.specs.Trail.{min_step_m}
use Rattle.follow.specs.Parts.{leads}
use Rattle.follow.proofs.follow_parts.leads.Goals as goal

leads-is : (l : List Crumb) (x : Option Float) {r : Bool} {P : Float → Type 0} → x ≡ length_m l → MatchOption x (IsFalse r) P
    → ((m : Float) → P m → r ≡ not (lt m min_step_m)) → r ≡ leads l
unfolding leads
leads-is l None e h f = simp (short l (sym e), h)
leads-is l (Some m) e h f = let k = long l (sym e) in simp (k.0, k.1, f m h)

pub returns : goal.returns
unfolding min_step_m constant of_bits
returns c = leads-is _ _ c.length_m.ensures c.is_some_and.ensures (λ m k. search rules)
