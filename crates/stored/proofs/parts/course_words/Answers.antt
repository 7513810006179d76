-- `stored::parts::course_words` meets its contract.
use Prim.Native.Nat.{◌≤◌}
use native.Mathlib.Omega.{arith}
use Rattle.stored.proofs.fields.Fitting.{none_left, and_in, some-most, flag-most}
use Rattle.stored.proofs.parts.course_words.Goals as goal

pub returns : goal.returns
returns c =
    let len : c.args.c.line_len ≤ 18446744073709551615 = omega arith in
    let fixes : c.args.c.join_fixes ≤ 255 = omega arith in
    let end : c.args.c.join_end ≤ 18446744073709551615 = omega arith in (
      simp (c.from.ensures, c.from-2.ensures, c.from-3.ensures, c.from-4.ensures, c.is_some.ensures),
      (and_in len (and_in (flag-most c.args.c.unplaced) (and_in (flag-most c.args.c.held)
          (and_in fixes (and_in end (and_in (some-most c.args.c.fix) none_left)))))).ok,
    )
