-- `search::course_match::settled` meets its contract: the test is the rule's.
use mathlib.Core.Path.{◌≡◌, refl}
use Rattle.std.specs.Prelude.{Option, Some, None}
use Rattle.std.specs.Option.{option_or}
use Rattle.segments.specs.declared.costs.Nearest.{Nearest}
use Rattle.search.specs.CourseMatch.{first_found, settled}
use Rattle.search.proofs.course_match.settled.Goals as goal

or-first : (a b : Option Nearest) → option_or a b ≡ first_found a b
unfolding first_found
or-first None b = refl
or-first (Some near) b = refl

pub returns-then-slides_back : goal.returns-then-slides_back
unfolding settled
returns-then-slides_back c =
    simp (
      ← c.slides_back.ensures,
      c.if-slides_back.true,
      ← c.in_reach-ahead.ensures,
      c.or.ensures,
      or-first,
      settled,
    )

pub returns : goal.returns
unfolding settled
returns c = simp (← c.slides_back.ensures, c.if-slides_back.false, settled)
