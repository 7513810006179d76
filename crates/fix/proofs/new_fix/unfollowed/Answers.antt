-- `fix::new_fix::unfollowed` meets its contract.
use mathlib.Core.Path.{ap, ◌∙◌}
use Rattle.state.specs.declared.Follow.{Follow}
use Rattle.fix.proofs.recording.Beginning.{join-follows, joined_at, join-ready}
use Rattle.fix.proofs.recording.Turning.{joined-up, rode-by}
use Rattle.fix.proofs.new_fix.unfollowed.Goals as goal

pub joined_course-requires : goal.joined_course-requires
joined_course-requires c =
    let g = c.args in
    let l = g.course.now in
    let a = c.joining.ensures g.crumbs.now in
    record { fit = (join-ready l g.p a c.requires.ready).fit; bound = joined_at l g.p a c.if-joining.true }

pub returns-then-joining : goal.returns-then-joining
returns-then-joining c = let g = c.args in
    joined-up g.course.now g.p g.now_ms (c.joining.ensures c.args.crumbs.now) c.if-joining.true c.joined_course.ensures

pub may_retrace-requires : goal.may_retrace-requires
may_retrace-requires c =
    let g = c.args in
    let l = g.course.now in
    let a = c.joining.ensures g.crumbs.now in
    record {
      ready = join-ready l g.p a c.requires.ready;
      line_value = ap (λ (f : Follow). f.line) (join-follows l g.p a) ∙ c.requires.line_value;
    }

pub returns : goal.returns
returns c = let g = c.args in
    rode-by g.course.now g.p g.now_ms (c.joining.ensures c.args.crumbs.now) c.if-joining.false c.may_retrace.ensures
