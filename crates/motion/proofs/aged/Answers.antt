-- `motion::aged` meets its contract: the test is the rule's.
use mathlib.Core.Path.{subst}
use Prim.Native.Nat.{ℕ, ◌<◌, ◌≤◌}
use borrow.Author.Tests.{lt-ltb, le-ltb}
use Rattle.motion.specs.Heading.{elapsed, aged}
use Rattle.motion.proofs.aged.Goals as goal

pub returns-then-elapsed-gt-HEADING_STALE_MS : goal.returns-then-elapsed-gt-HEADING_STALE_MS
unfolding aged
returns-then-elapsed-gt-HEADING_STALE_MS c =
    simp (lt-ltb 15000 (elapsed c.args.now_ms c.args.m.heading_ms)
    (subst (λ (n : ℕ). 15000 < n) c.elapsed.ensures c.if-elapsed-gt-HEADING_STALE_MS.true))

pub returns-else-elapsed-gt-HEADING_STALE_MS : goal.returns-else-elapsed-gt-HEADING_STALE_MS
unfolding aged
returns-else-elapsed-gt-HEADING_STALE_MS c =
    simp (le-ltb 15000 (elapsed c.args.now_ms c.args.m.heading_ms)
    (subst (λ (n : ℕ). n ≤ 15000) c.elapsed.ensures c.if-elapsed-gt-HEADING_STALE_MS.false))
