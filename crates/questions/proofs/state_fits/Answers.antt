-- `questions::state_fits` meets its contract: the counts are tested first, and with them the window's.
use Rattle.std.proofs.Common.{[], sym, ◌∙◌}
use Rattle.trail.specs.View.{track}
use Rattle.calls.specs.Questions.{numbers_fit, state_fits}
use Rattle.questions.proofs.Counted.{counts-counted, window-counted}
use Rattle.questions.proofs.state_fits.Goals as goal

pub returns-then-not-counts_fit : goal.returns-then-not-counts_fit
unfolding state_fits
returns-then-not-counts_fit c = λ b. simp (← c.counts_fit.ensures b, c.if-not-counts_fit.true)

pub window_fits-requires : goal.window_fits-requires
window_fits-requires c =
    let h = c.args.h.now in
    window-counted h.trail h.follow h.course.line_len
    (sym (counts-counted h []) ∙ sym (c.counts_fit.ensures []) ∙ c.if-not-counts_fit.false)

pub returns : goal.returns
unfolding state_fits numbers_fit track
returns c =
    λ b. simp (
      ← c.counts_fit.ensures b,
      c.if-not-counts_fit.false,
      ← c.window_fits.ensures,
      ← c.spots_fit.ensures b,
      ← c.along_fits.ensures,
      ← c.along_fits-2.ensures,
      ← c.heading_fits.ensures,
      ← c.shown_fits.ensures,
      ← c.factor_fits.ensures,
      ← c.tolerance_fits.ensures,
    )
