-- `stored::parts::heading_words` meets its contract.
use Prim.Native.Nat.{◌≤◌}
use native.Mathlib.Omega.{arith}
use Rattle.std.specs.Option.{unwrap_or}
use Rattle.stored.proofs.fields.Fitting.{none_left, and_in, some-most}
use Rattle.stored.proofs.parts.heading_words.Goals as goal

pub returns : goal.returns
returns c =
    let most : unwrap_or c.args.h 0 ≤ 65535 = omega (arith, c.unwrap_or.type_inv, c.unwrap_or.ensures) in (
      simp (c.from.ensures, c.is_some.ensures, c.from-2.ensures, c.unwrap_or.ensures),
      (and_in (some-most c.args.h) (and_in most none_left)).ok,
    )
