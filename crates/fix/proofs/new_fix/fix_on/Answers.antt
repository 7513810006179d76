-- `fix::new_fix::fix_on` meets its contract.
use Rattle.state.specs.declared.Line.TheVariants as lines
use Rattle.calls.specs.Fix.{fix_on}
use Rattle.fix.proofs.recording.Turning.{course-grows, by-line}
use Rattle.fix.proofs.new_fix.fix_on.Goals as goal

pub add_update-requires : goal.add_update-requires
add_update-requires c = record { fit = c.requires.fit; grows = course-grows c.args.h.now c.in-Course.is }

pub returns-in-Breadcrumb : goal.returns-in-Breadcrumb
unfolding fix_on
returns-in-Breadcrumb c = let g = c.args in by-line lines.Breadcrumb g.course.now g.p g.now_ms c.in-Breadcrumb.is c.update.ensures.updates

pub returns-in-Course : goal.returns-in-Course
unfolding fix_on
returns-in-Course c = let g = c.args in by-line lines.Course g.course.now g.p g.now_ms c.in-Course.is c.add_update.ensures

pub returns-in-Nothing : goal.returns-in-Nothing
returns-in-Nothing c = let g = c.args in by-line lines.Nothing g.course.now g.p g.now_ms c.in-Nothing.is c.unfollowed.ensures
