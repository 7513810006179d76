-- `matching::followed::way_on` meets its contract.
use mathlib.Core.Path.{ap, sym, ◌∙◌}
use mathlib.Core.Bool.{Bool}
use Rattle.binary32.specs.Arithmetic.{◌⊕◌}
use Rattle.plane.specs.declared.Point.{Point}
use Rattle.state.specs.declared.Mode.TheVariants as mode
use Rattle.matching.specs.declared.followed.Way.{Way}
use Rattle.matching.specs.Followed.{way_on}
use Rattle.matching.proofs.followed.way_on.Goals as goal

pub returns-then-off : goal.returns-then-off
unfolding way_on
returns-then-off c =
    let g = c.args in
    sym (ap (λ (x : Bool). way_on x g.line.now g.near) c.if-off.true)

pub returns : goal.returns
unfolding way_on
returns c =
    let g = c.args in
    let by : Point → Way = λ q. record { mode = mode.Track; track = g.near.along ⊕ g.near.off; off = g.near.off; target = q } in
    ap by c.ahead.ensures ∙ sym (ap (λ (x : Bool). way_on x g.line.now g.near) c.if-off.false)
