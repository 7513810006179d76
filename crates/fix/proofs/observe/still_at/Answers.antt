-- `fix::observe::still_at` meets its contract.
use mathlib.Core.Path.{refl, sym, ap, ◌∙◌}
use borrow.Author.Tests.{lt-ltb, le-ltb}
use Prim.Native.Nat.{ℕ}
use lib.Dec.{ltb}
use native.Mathlib.Omega.{arith}
use lib.ListN.{length}
use Rattle.crumbs.specs.Crumb.{capacity}
use Rattle.state.specs.State.{State, state_of}
use Rattle.update.specs.Update.{update}
use Rattle.calls.specs.Fix.{still_ms, still_at}
use Rattle.fix.proofs.recording.Moving.{updates-after, updates-nothing}
use Rattle.fix.proofs.observe.Seeing.{still-nowhere, still-early, still-due, turns, headed-fit}
use Rattle.fix.proofs.observe.still_at.Goals as goal

pub returns-in_default : goal.returns-in_default
returns-in_default c = let g = c.args in let h = g.h.now in let b = g.crumbs.now in
    updates-nothing (λ C. still_at h.here C g.course.now g.now_ms) h b c.requires.trail
    (still-nowhere h.here (capacity (length b)) g.course.now g.now_ms (state_of h b) c.in_default.is)

pub returns-then-elapsed-lt-STILL_MS : goal.returns-then-elapsed-lt-STILL_MS
returns-then-elapsed-lt-STILL_MS c = let g = c.args in let h = g.h.now in let b = g.crumbs.now in
    updates-nothing (λ C. still_at h.here C g.course.now g.now_ms) h b c.requires.trail
    (still-early h.here (capacity (length b)) g.course.now g.now_ms (state_of h b) c.in-Some.p c.in-Some.is
    (ap (λ (n : ℕ). ltb n still_ms) (sym c.elapsed.ensures) ∙ lt-ltb _ _ c.if-elapsed-lt-STILL_MS.true))

pub update-requires : goal.update-requires
update-requires c = let p = c.in-Some.p in let now = c.args.now_ms in
    headed-fit p now (turns p now c.track_heading-h.ensures (λ b. refl) refl refl) c.requires

pub returns : goal.returns
returns c =
    let g = c.args in
    let h = g.h.now in
    let b = g.crumbs.now in
    let l = g.course.now in
    let p = c.in-Some.p in
    let turned = turns p g.now_ms c.track_heading-h.ensures (λ b. refl) refl refl in
    let C = capacity (length b) in
    updates-after (λ C. still_at h.here C l g.now_ms) (λ C. update C l p g.now_ms) (omega arith)
    (still-due h.here C l g.now_ms (state_of h b) p c.in-Some.is
    (ap (λ (n : ℕ). ltb n still_ms) (sym c.elapsed.ensures) ∙ le-ltb _ _ c.if-elapsed-lt-STILL_MS.false)
    ∙ ap (λ (x : State). update C l p g.now_ms x) (sym (turned.same b)))
    c.update.ensures.updates
