-- `questions::counts::follow_fits` meets its contract: the tests are the rule's.
use Rattle.calls.specs.Questions.{follow_fits}
use Rattle.questions.proofs.counts.follow_fits.Goals as goal

pub returns-in-Nothing : goal.returns-in-Nothing
unfolding follow_fits
returns-in-Nothing c = simp c.in-Nothing.is

pub returns-in-Breadcrumb : goal.returns-in-Breadcrumb
unfolding follow_fits
returns-in-Breadcrumb c = simp c.in-Breadcrumb.is c.segment_fits.ensures

pub returns-in-Course : goal.returns-in-Course
unfolding follow_fits
returns-in-Course c = simp c.in-Course.is c.segment_fits-in-Course.ensures
