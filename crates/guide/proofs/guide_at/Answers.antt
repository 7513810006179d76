-- `guide::guide_at` meets its contract.
use Rattle.guide.specs.Guide.{guide_at}
use Rattle.guide.proofs.guide_at.Goals as goal

pub returns : goal.returns
unfolding guide_at
returns c = λ b.
    simp (
      c.aim.ensures,
      c.mode_of.ensures,
      c.on_line.ensures,
      c.on_course.ensures,
      c.near_course.ensures,
      c.metres.ensures,
      c.metres-2.ensures,
      c.metres-3.ensures,
      c.bearing.ensures,
    )
