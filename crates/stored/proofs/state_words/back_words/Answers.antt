-- `stored::state_words::back_words` meets its contract.
use Prim.Native.Nat.{◌≤◌}
use mathlib.Core.Bool.{true}
use mathlib.Core.Path.{◌≡◌, subst}
use native.Mathlib.Omega.{arith}
use Rattle.stored.specs.Fields.{within}
use Rattle.stored.specs.Words.{words_of}
use Rattle.stored.specs.Parts.{guide_mosts, guide_words}
use Rattle.stored.proofs.state_words.Placing.{back_fits}
use Rattle.stored.proofs.state_words.back_words.Goals as goal

pub returns : goal.returns
unfolding words_of
returns c =
    let h = c.args.h in
    let updated : h.updated_ms ≤ 18446744073709551615 = omega (arith, c.well_formed.0.1.1.1.1.1.1.1.1.1.1.1.1.1.1.0.1) in
    let course = c.course_words-course.ensures in
    let lap = c.lap_words-lap.ensures in
    let guide = c.guide_words-guide.ensures in (
      simp (c.from.ensures, c.from-2.ensures, c.from-3.ensures, c.is_some.ensures, c.guide_in.ensures, course.0, lap.0, guide.0),
      back_fits h course.1 lap.1 updated (subst (λ g. within guide_mosts (guide_words g) ≡ true) c.guide_in.ensures guide.1),
    )
