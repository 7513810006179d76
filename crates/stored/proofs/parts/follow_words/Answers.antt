-- `stored::parts::follow_words` meets its contract.
use Prim.Native.Nat.{◌≤◌}
use native.Mathlib.Omega.{arith}
use Rattle.stored.proofs.fields.Fitting.{none_left, and_in, line-most, some-most, flag-most}
use Rattle.stored.proofs.parts.follow_words.Goals as goal

pub returns : goal.returns
returns c =
    let at : c.args.f.segment ≤ 18446744073709551615 = omega arith in
    let ms : c.args.f.reminded_ms ≤ 18446744073709551615 = omega arith in (
      simp (c.line_tag.ensures, c.from.ensures, c.is_some.ensures, c.from-2.ensures),
      (and_in (line-most c.args.f.line) (and_in at (and_in (some-most c.args.f.matched)
          (and_in (flag-most c.args.f.off) (and_in ms none_left))))).ok,
    )
