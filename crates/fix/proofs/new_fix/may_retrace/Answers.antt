-- `fix::new_fix::may_retrace` meets its contract.
use mathlib.Core.Path.{sym, ap, ◌∙◌, subst}
use native.Mathlib.Omega.{arith}
use lib.ListN.{length}
use Rattle.state.specs.declared.Follow.{Follow}
use Rattle.state.specs.declared.Homing.{Homing}
use Rattle.follow.specs.View.{HomingFit}
use Rattle.update.specs.View.{Updates}
use Rattle.calls.specs.Fix.{add_update}
use Rattle.fix.specs.Ready.{Grows}
use Rattle.fix.proofs.recording.Beginning.{retrace-follows, retrace-fit, retrace-few}
use Rattle.fix.proofs.recording.Turning.{idle-grows, turned_round, rode-on, never-turned}
use Rattle.fix.proofs.new_fix.may_retrace.Goals as goal
use Rattle.fix.proofs.new_fix.may_retrace.Goals.{else-h-via-then-h+else-retracing, else-h-via-else-h}

pub retracing-requires : goal.retracing-requires
retracing-requires c = (c.requires.ready.fit.trail.held, omega (arith, c.requires.ready.retrace))

pub retraced-requires : goal.retraced-requires
retraced-requires c =
    let p = c.args.p in
    let a = c.retracing.ensures in
    record {
      fit = retrace-fit p a c.requires.ready.fit;
      retrace_len_bound = (
        retrace-few p a c.if-retracing.true c.requires.ready.back,
        ap (λ (f : Follow). f.line) (retrace-follows p a) ∙ c.requires.line_value,
      );
    }

pub returns-then-retracing : goal.returns-then-retracing
returns-then-retracing c = let g = c.args in
    turned_round g.course.now g.p g.now_ms c.if-h.true c.retracing.ensures c.if-retracing.true c.retraced.ensures

pub add_update-requires : goal.add_update-requires
add_update-requires c =
    let g = c.args in
    elim c.else-h.branch [
      | else-h-via-then-h+else-retracing w ↦
          let a = w.retracing.ensures in record {
            fit = subst (λ (h : Homing). HomingFit h (length g.crumbs.now) (length g.course.now)) (sym w.h-is)
                (retrace-fit g.p a c.requires.ready.fit);
            grows = subst (λ (h : Homing). Grows h) (sym w.h-is)
                (idle-grows w.retracing.new.h (ap (λ (f : Follow). f.line) (retrace-follows g.p a) ∙ c.requires.line_value));
          }
      | else-h-via-else-h w ↦
          record {
            fit = subst (λ (h : Homing). HomingFit h (length g.crumbs.now) (length g.course.now)) (sym w.h-is) c.requires.ready.fit;
            grows = subst (λ (h : Homing). Grows h) (sym w.h-is) (idle-grows g.h.now c.requires.line_value);
          }
    ]

pub returns : goal.returns
returns c = let g = c.args in let k = c.add_update in
    let l = g.course.now in
    elim c.else-h.branch [
      | else-h-via-then-h+else-retracing w ↦
          rode-on l g.p g.now_ms w.if-h.true w.retracing.ensures w.if-retracing.false
          (subst (λ (h : Homing). Updates (λ C. add_update C l g.p g.now_ms) h g.crumbs.now k.new.h k.result k.new.crumbs) w.h-is k.ensures)
      | else-h-via-else-h w ↦
          never-turned l g.p g.now_ms w.if-h.false
          (subst (λ (h : Homing). Updates (λ C. add_update C l g.p g.now_ms) h g.crumbs.now k.new.h k.result k.new.crumbs) w.h-is k.ensures)
    ]
