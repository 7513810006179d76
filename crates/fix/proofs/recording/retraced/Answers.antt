-- `fix::recording::retraced` meets its contract.
use mathlib.Core.Path.{ap, ◌∙◌}
use Rattle.state.specs.declared.Follow.{Follow}
use Rattle.fix.proofs.recording.Beginning.{engaged-fit, unengaged-fit, unengaged-follow}
use Rattle.fix.proofs.recording.Turning.{idle-grows, back-idle, back-fit, turned_on, engaged-on, unengaged-on}
use Rattle.fix.proofs.recording.retraced.Goals as goal

pub engage-requires : goal.engage-requires
engage-requires c = (c.turned_back.ensures.fit _ c.requires.fit.trail).held

pub update-requires : goal.update-requires
update-requires c = let g = c.args in
    engaged-fit g.course.now g.now_ms c.engage.ensures c.if-engage.true (c.turned_back.ensures.fit _ c.requires.fit.trail)

pub returns-then-engage : goal.returns-then-engage
returns-then-engage c = let g = c.args in let l = g.course.now in
    turned_on c.turned_back.ensures l g.p g.now_ms (engaged-on l g.p g.now_ms c.engage.ensures c.if-engage.true c.update.ensures.updates)

pub add_update-requires : goal.add_update-requires
add_update-requires c =
    let g = c.args in
    let l = g.course.now in
    let back = c.turned_back.ensures in
    let e = c.engage.ensures in
    let idle = c.requires.retrace_len_bound.1 in record {
      fit = unengaged-fit l g.now_ms e c.if-engage.false (back-fit back idle c.requires.fit);
      grows =
          idle-grows c.engage.new.h (ap (λ (f : Follow). f.line) (unengaged-follow l g.now_ms e c.if-engage.false) ∙ back-idle back idle);
    }

pub returns : goal.returns
returns c = let g = c.args in let l = g.course.now in
    turned_on c.turned_back.ensures l g.p g.now_ms (unengaged-on l g.p g.now_ms c.engage.ensures c.if-engage.false c.add_update.ensures)
