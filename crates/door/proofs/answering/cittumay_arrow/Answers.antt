-- `door::answering::cittumay_arrow` meets its contract.
use mathlib.Core.Path.{refl, sym, ap, ◌∙◌}
use Rattle.std.proofs.lemmas.Bool.{not_from_false, not_from_true}
use Rattle.std.specs.Prelude.{Some}
use Rattle.door.proofs.answering.Answers.{not-held, handed}
use Rattle.door.proofs.answering.GuideWords.{are-read, guide-read, no-guide}
use Rattle.door.proofs.answering.cittumay_arrow.Goals as goal

pub returns-then-not-are_guide : goal.returns-then-not-are_guide
returns-then-not-are_guide c = not-held (no-guide _ c.are_guide.ensures (not_from_false _ c.if-not-are_guide.true)) refl

pub guide_at-requires : goal.guide_at-requires
guide_at-requires c =
    let read = are-read _ (sym c.are_guide.ensures ∙ c.if-not-are_guide.false) in
    record { long = read.long; angles = (read.bearing, read.heading) }

pub returns : goal.returns
returns c =
    handed (guide-read _ c.are_guide.ensures (not_from_true _ c.if-not-are_guide.false) ∙ ap Some (sym c.guide_at.ensures)) _
    c.arrow.ensures c.put.ensures.value c.put.ensures.written
