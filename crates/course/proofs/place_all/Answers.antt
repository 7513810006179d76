-- `course::place_all` places every point, the last first.
use Prim.Native.Nat.{◌-◌}
use borrow.Author.Rules.{rules}
use lib.IntN.{pos}
use lib.ListN.{get_or}
use mathlib.Core.Path.{ap, ◌∙◌}
use Rattle.course.specs.Fix.{framed}
use Rattle.course.proofs.Fixes.{handed-fix}
use Rattle.course.proofs.Placing.{placing-start, placing-on, placing-end}
use Rattle.course.proofs.place_all.Goals as goal

pub loop-k-init : goal.loop-k-init
loop-k-init c =
    placing-start c.args.f c.args.lats.now c.args.lons.now c.args.line.now c.count-n.ensures c.requires

pub loop-k-preserved : goal.loop-k-preserved
loop-k-preserved c =
    let s = c.args in
    let at = c.count-n.result - 1 - c.loop-k.k in
    placing-on c.loop-k.invariant c.loop-k-test.true
    (c.framed-p.ensures
    ∙ ap (framed s.f) (handed-fix (get_or s.lats.now at (pos 0)) (get_or s.lons.now at (pos 0)) (search rules) (search rules)))
    (rw c.new.ensures at c.recorded_m.ensures) c.put.ensures

pub returns : goal.returns
returns c = placing-end c.loop-k.invariant c.loop-k-test.false
