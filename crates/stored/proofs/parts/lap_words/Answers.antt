-- `stored::parts::lap_words` meets its contract.
use Rattle.stored.proofs.fields.Fitting.{none_left, and_in, stage-most, some-most, flag-most}
use Rattle.stored.proofs.parts.lap_words.Goals as goal

pub returns : goal.returns
returns c = (
  simp (c.pass_tag.ensures, c.from.ensures, c.is_some.ensures, c.from-2.ensures),
  (and_in (stage-most c.args.l.pass.stage) (and_in (some-most c.args.l.start) (and_in (flag-most c.args.l.passed) none_left))).ok,
)
