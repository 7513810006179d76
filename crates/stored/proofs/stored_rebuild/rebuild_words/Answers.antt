-- `stored::stored_rebuild::rebuild_words` meets its contract.
use Prim.Native.Nat.{◌≤◌}
use mathlib.Core.Path.{◌≡◌, ap, ◌∙◌}
use native.Mathlib.Omega.{arith}
use Rattle.std.specs.Option.{unwrap_or}
use Rattle.stored.specs.Rebuilt.{rebuild_words, pending_in}
use Rattle.stored.proofs.fields.Fitting.{none_left, and_in, some-most}
use Rattle.stored.proofs.stored_rebuild.Fitting.{pending-most, rebuild-mark-most}
use Rattle.stored.proofs.stored_rebuild.rebuild_words.Goals as goal

pub returns : goal.returns
unfolding rebuild_words
returns c =
    let r = c.args.r in
    let recovered : r.recovered ≤ 4294967295 = omega arith in
    let slot : r.walk.slot ≤ 18446744073709551615 = omega arith in
    let clock : r.clock_ms ≤ 18446744073709551615 = omega arith in
    let same : c.unwrap_or.result ≡ unwrap_or (pending_in r.stage) 0 =
    c.unwrap_or.ensures ∙ ap (λ t. unwrap_or t 0) c.pending_in-last.ensures in
    let time : unwrap_or (pending_in r.stage) 0 ≤ 18446744073709551615 = omega (arith, same, c.unwrap_or.type_inv) in (
      simp (c.from.ensures, c.pending_flag.ensures, c.from-2.ensures, c.is_some.ensures, c.pending_in-last.ensures, same),
      (and_in rebuild-mark-most (and_in recovered (and_in slot (and_in (pending-most r.stage)
          (and_in (some-most (pending_in r.stage)) (and_in time (and_in clock none_left))))))).ok,
    )
