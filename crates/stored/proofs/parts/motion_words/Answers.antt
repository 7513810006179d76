-- `stored::parts::motion_words` meets its contract.
use Prim.Native.Nat.{◌≤◌}
use native.Mathlib.Omega.{arith}
use mathlib.Core.Path.{refl}
use Rattle.stored.specs.Parts.{heading_mosts, heading_words}
use Rattle.stored.proofs.fields.Fitting.{none_left, and_in, and-part, some-most}
use Rattle.stored.proofs.parts.motion_words.Goals as goal

pub returns : goal.returns
returns c =
    let ms : c.args.m.heading_ms ≤ 18446744073709551615 = omega arith in (
      simp (c.from.ensures, c.is_some.ensures, c.heading_words.ensures.0),
      (and_in (some-most c.args.m.from) (and-part heading_mosts (heading_words c.args.m.heading) refl c.heading_words.ensures.1
          (and_in ms none_left))).ok,
    )
