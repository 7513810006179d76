-- `follow::stop_following` meets its contract.
use mathlib.Core.Path.{refl}
use Rattle.state.specs.declared.Line.TheVariants as line
use Rattle.state.specs.Rule.{done}
use Rattle.follow.specs.Engage.{stop_nothing, stop_course, stop_breadcrumb, stop_on}
use Rattle.follow.proofs.Recording.{unmoved, stops-on}
use Rattle.follow.proofs.stop_following.Goals as goal

pub stop_breadcrumb-requires : goal.stop_breadcrumb-requires
stop_breadcrumb-requires c =
    (c.requires.0, c.requires.1 c.in-Breadcrumb.is)

pub returns-in-Nothing : goal.returns-in-Nothing
unfolding stop_on
returns-in-Nothing c = let g = c.args in let r = c.stop_nothing.new.h in
    record {
      follows =
          stops-on (λ C t. done (tt {0}) (stop_nothing t)) line.Nothing g.h.now r g.crumbs.now g.crumbs.now c.in-Nothing.is (λ C t. refl)
          (unmoved stop_nothing g.h.now r g.crumbs.now c.requires.0 c.stop_nothing.ensures);
      window = c.stop_nothing.ensures.window;
    }

pub returns-in-Course : goal.returns-in-Course
unfolding stop_on
returns-in-Course c = let g = c.args in let r = c.stop_course.new.h in
    record {
      follows =
          stops-on (λ C t. done (tt {0}) (stop_course t)) line.Course g.h.now r g.crumbs.now g.crumbs.now c.in-Course.is (λ C t. refl)
          (unmoved stop_course g.h.now r g.crumbs.now c.requires.0 c.stop_course.ensures);
      window = c.stop_course.ensures.window;
    }

pub returns-in-Breadcrumb : goal.returns-in-Breadcrumb
unfolding stop_on
returns-in-Breadcrumb c = let g = c.args in
    let k = c.stop_breadcrumb in
    record {
      follows = stops-on stop_breadcrumb line.Breadcrumb g.h.now k.new.h g.crumbs.now
          k.new.crumbs c.in-Breadcrumb.is (λ C t. refl) k.ensures.follows;
      window = k.ensures.window;
    }
