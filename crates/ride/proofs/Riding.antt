-- The calls performed from a new guide have the claim; where question 1 says no none is performed. Assumes nothing.
use Prim.Native.Nat.{ℕ, ◌*◌, ◌%◌, ◌≤◌}
use mathlib.Core.Path.{◌≡◌, refl, ap, ◌∙◌}
use mathlib.Core.Bool.{Bool, true, false, ◌&&◌, and-eq-true_iff}
use mathlib.Core.List.{List}
use native.Mathlib.Omega.{arith}
use borrow.Author.Tests.{leb-true, eqb-true}
use lib.Dec.{leb}
use lib.Ieee.{Float}
use lib.ListN.{length}
use Rattle.std.specs.Prelude.{Result, Ok, Err}
use Rattle.std.specs.Result.{is_err}
use Rattle.refusal.specs.declared.Refusal.{Refusal}
use Rattle.refusal.specs.Refusal.{asked}
use Rattle.crumbs.specs.Crumb.{stride, whole, capacity}
use Rattle.state.specs.declared.Homing.{Homing}
use Rattle.state.specs.State.{State, state_of}
use Rattle.state.specs.Rule.{Done}
use Rattle.calls.specs.Calls.{Call}
use Rattle.calls.specs.Questions.{question1, unless}
use Rattle.answers.proofs.Answering.{refused-not}
use Rattle.journal.specs.Journal.{run, journal}
use Rattle.journal.proofs.Programs.{run-journal}
use Rattle.history.proofs.History.{holds_same}
use Rattle.homing.specs.Promises.{MakesNew}
use Rattle.homing.proofs.Making.{asked-by}
use Rattle.ride.specs.Promises.{Rides}
use Rattle.ride.specs.Inner.{Performs}

-- what question 1 asks of a size
record Room (size : ℕ) : Type 0 where
  whole_long : whole size ≡ true
  least : 8 ≤ capacity size
  most : capacity size ≤ 4096

roomy : (size : ℕ) → question1 size ≡ true → Room size
unfolding question1
roomy size enough =
    let a = (and-eq-true_iff (whole size && leb 8 (capacity size)) (leb (capacity size) 4096)).0 enough in
    let b = (and-eq-true_iff (whole size) (leb 8 (capacity size))).0 a.0 in
    record { whole_long = b.0; least = leb-true _ _ b.1; most = leb-true _ _ a.1 }

long : (size : ℕ) → Room size → size ≡ stride * capacity size
long size r = omega (arith, eqb-true (size % stride) 0 r.whole_long)

-- its answer
yes : (q : Bool) (a : Result (Unit {0}) Refusal) → asked a ≡ unless q 1 → false ≡ is_err a → q ≡ true
yes true a e taken = refl
yes false (Ok x) e taken = absurd (omega (arith, e))
yes false (Err r) e taken = cc

no : (q : Bool) (a : Result (Unit {0}) Refusal) → asked a ≡ unless q 1 → true ≡ is_err a → q ≡ false
no true (Ok x) e refused = cc
no true (Err r) e refused = absurd (refused-not r e)
no false a e refused = refl

module _ {cs : List Call} {entry : List Float} {made : Homing} {a : Result (Unit {0}) Refusal} (m : MakesNew entry made a) where
  -- the guide was made, and performed them
  pub rides : {h : Homing} {exit line line' : List Float} → false ≡ is_err a → Performs cs made entry h exit
      → length line' ≡ length line → Rides cs entry line h a exit line'
  rides {h} {exit} taken did kept =
      let size = length entry in
      let enough : question1 size ≡ true = yes (question1 size) a (asked-by a m.answered) taken in
      let r = roomy size enough in
      let same : state_of h exit ≡ (journal (capacity size) cs).state =
      did.same
      ∙ (ap (λ (s : State). (run size cs s).state) (m.fresh entry)
      ∙ ap (λ (d : Done (Unit {0})). d.state) (run-journal size r.whole_long cs)) in
      record {
        answered = m.answered;
        holds = λ _. holds_same (capacity size) r.least r.most cs h exit (did.size ∙ long size r) same;
        refused = λ none. cc;
        size = (did.size, kept);
      }

  -- it was refused
  pub stays : (line : List Float) → true ≡ is_err a → Rides cs entry line made a entry line
  stays line refused =
      let none : question1 (length entry) ≡ false = no (question1 (length entry)) a (asked-by a m.answered) refused in
      record { answered = m.answered; holds = λ enough. cc; refused = λ _. (m.fresh, refl, refl); size = (refl, refl) }
