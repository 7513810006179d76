-- Which line is followed, by the derived equality of lines.
use Rattle.std.proofs.Common.{◌≡◌, refl, not}
use denote.Enum.Bare.{sameb}
use Rattle.state.specs.contracts.Line.{the_type}
use Rattle.state.specs.declared.Line.{Line}
use Rattle.state.specs.declared.Line.TheVariants as line
use Rattle.matching.specs.Match.{on_line, on_course}

pub on-line : (l : Line) → not (sameb the_type l line.Nothing) ≡ on_line l
unfolding on_line
on-line line.Nothing = refl
on-line line.Breadcrumb = refl
on-line line.Course = refl

pub on-course : (l : Line) → sameb the_type l line.Course ≡ on_course l
unfolding on_course
on-course line.Nothing = refl
on-course line.Breadcrumb = refl
on-course line.Course = refl
