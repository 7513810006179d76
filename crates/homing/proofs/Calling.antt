-- A call refused changes nothing; a call taken does what its rule does. Assumes nothing.
use mathlib.Core.Path.{◌≡◌, refl, sym, ap, ◌∙◌}
use Prim.Native.Nat.{ℕ, zero, suc, max}
use mathlib.Core.Bool.{true, false}
use mathlib.Core.List.{List}
use borrow.Author.Tests.{eq-eqb}
use lib.Dec.{eqb, eqb-suc-zero}
use lib.ListN.{length}
use lib.Ieee.{Float}
use Rattle.refusal.specs.declared.Refusal.{Refusal}
use Rattle.refusal.specs.Refusal.{number}
use Rattle.answers.proofs.Answering.{numbered}
use Rattle.crumbs.specs.declared.Crumb.{Crumb}
use Rattle.crumbs.specs.Crumb.{capacity, behind}
use Rattle.crumbs.proofs.Crumbs.{length-crumbs}
use Rattle.plane.specs.declared.Fix.{Fix}
use Rattle.state.specs.declared.Homing.{Homing}
use Rattle.state.specs.State.{State, state_of}
use Rattle.state.specs.Rule.{Done, done}
use Rattle.follow.specs.View.{Follows}
use Rattle.matching.proofs.Choosing.{picked, passed-by}
use Rattle.course.specs.Course.{line_of}
use Rattle.course.specs.View.{Places}
use Rattle.calls.specs.Questions.{asks_both, ◌or_else◌}
use Rattle.calls.specs.Calls.{Call, asks, performs, after_call}
use Rattle.calls.specs.Promises.{Called}
use Rattle.steer.specs.View.{SetsLine}
use Rattle.questions.proofs.Given.{both-given}
use Rattle.fix.specs.Ready.{Ready}

-- ---- the first question that says no
module _ {a : ℕ} where
  pub or-this : (q : Refusal) → number q ≡ a → (b : ℕ) → number q ≡ (a or_else b)
  or-this q e b = rw (← e, numbered q) refl

  pub or-next : {m b : ℕ} → 0 ≡ a → m ≡ b → m ≡ (a or_else b)
  or-next e f = rw (← e) f

  pub or-nothing : {n : ℕ} → n ≡ a → n ≡ (a or_else 0)
  or-nothing e = e ∙ by a
    where
      by : (x : ℕ) → x ≡ (x or_else 0)
      by zero = refl
      by (suc x) = sym (rw (eqb-suc-zero x))

-- ---- a call
module _ (c : Call) (h : Homing) (b : List Float) where
  pub refuses : (q : Refusal) → number q ≡ asks (length b) c (state_of h b) → Called c h b h b
  unfolding after_call
  refuses q e =
      let no : eqb (asks (length b) c (state_of h b)) 0 ≡ false = rw (← e) (numbered q) in
      record {
        same = sym (ap (λ (d : Done (Unit {0})). d.state)
            (passed-by (performs (capacity (length b)) c (state_of h b)) (done tt (state_of h b)) _ no));
        refused = λ _. (refl, refl);
        size = refl;
        beyond = refl;
      }

module _ (c : Call) (h r : Homing) (entry exit : List Float) where
  pub takes : asks (length entry) c (state_of h entry) ≡ 0
      → state_of r exit ≡ (performs (capacity (length entry)) c (state_of h entry)).state
      → length exit ≡ length entry
      → behind (max h.trail.len r.trail.len) exit ≡ behind (max h.trail.len r.trail.len) entry → Called c h entry r exit
  unfolding after_call
  takes e same size beyond =
      let ok : eqb (asks (length entry) c (state_of h entry)) 0 ≡ true = eq-eqb _ _ e in
      record {
        same = same ∙ sym (ap (λ (d : Done (Unit {0})). d.state)
            (picked (performs (capacity (length entry)) c (state_of h entry)) (done tt (state_of h entry)) _ ok));
        refused = λ ne. absurd (ne e);
        size = size;
        beyond = beyond;
      }

  pub takes-rule : {A : Type 0} (rule : ℕ → State → Done A) → asks (length entry) c (state_of h entry) ≡ 0
      → (rule (capacity (length entry)) (state_of h entry)).state ≡ (performs (capacity (length entry)) c (state_of h entry)).state
      → Follows rule h entry r exit → Called c h entry r exit
  takes-rule rule e is f = takes e (f.same ∙ is) f.size f.beyond

-- ---- what the inner functions require
pub ready : (size : ℕ) (line : List Float) (h : Homing) (b : List Float) → asks_both size line (state_of h b) ≡ 0
    → Ready h size h.course.line_len
ready size line h b e =
    let g = both-given size line h b e in
    record { fit = g.fit; retrace = g.held.counted.retrace; back = g.held.counted.retrace_len }

-- the line placed
pub places-line : (xs : List Fix) (h r : Homing) (entry exit : List Float) → SetsLine xs h entry r exit
    → Places (line_of h.frame xs) entry r.course.line_len exit
places-line xs h r entry exit s =
    record {
      count = sym (length-crumbs r.course.line_len exit) ∙ ap (λ (l : List Crumb). length l) s.placed;
      held = s.placed;
      beyond = s.beyond;
      size = s.size;
    }
