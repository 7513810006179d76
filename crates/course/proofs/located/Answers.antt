-- `course::located` meets its contract: only the first fix changes the frame.
use Prim.Native.Nat.{◌<◌, ◌^◌}
use borrow.Author.Rules.{rules}
use mathlib.Core.Path.{sym, ap, ◌∙◌}
use lib.Ieee.{Float}
use lib.Signed.{mag}
use mir.Syntax.{w32}
use mir.ValLaws.{to_z-of_z}
use Rattle.std.specs.Prelude.{Some}
use Rattle.plane.specs.Fix.{east_per_e7}
use Rattle.course.specs.Fix.{located}
use Rattle.course.proofs.Fixes.{located-later, located-first}
use Rattle.course.proofs.located.Goals as goal

pub returns-then-is_some : goal.returns-then-is_some
unfolding located
returns-then-is_some c = let g = c.args in located-later g.f.origin g.fix g.f (sym c.is_some.ensures ∙ c.if-is_some.true)

pub returns : goal.returns
unfolding located
returns c =
    let g = c.args in
    let fits : mag g.fix.lat < 2 ^ 31 = search rules in
    ap (λ (x : Float). record { origin = Some g.fix; east_per_e7 = x })
    (c.east_per_e7.ensures ∙ ap east_per_e7 (to_z-of_z w32 g.fix.lat (record { sfits = fits })))
    ∙ located-first g.f.origin g.fix g.f (sym c.is_some.ensures ∙ c.if-is_some.false)
