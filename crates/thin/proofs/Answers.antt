-- What a caller of `thin` learns of each answer. Assumes nothing.
use Prim.Native.Nat.{ℕ, ◌≤◌}
use mathlib.Core.Path.{◌≡◌, refl, sym, ap, ◌∙◌}
use mathlib.Core.Bool.{Bool, true, false}
use mathlib.Core.List.{List}
use native.Mathlib.Omega.{arith}
use lib.ListN.{length}
use lib.Ieee.{Float}
use Rattle.crumbs.specs.Crumb.{capacity, crumbs}
use Rattle.crumbs.proofs.Crumbs.{length-crumbs}
use Rattle.crumbs.proofs.Choices.{choice-length}
use Rattle.thin.specs.declared.Thinned.{Thinned}
use Rattle.std.specs.Prelude.{Result, Ok, Err}
use Rattle.refusal.specs.declared.Refusal.{Refusal}
use Rattle.refusal.specs.Refusal.{number}
use Rattle.thin.specs.Questions.{question9}
use Rattle.thin.specs.Promises.{left, refused, says, thinned, ThinDone}
use Rattle.thin.specs.Theorems.{Thins}
use Rattle.thin.proofs.Theorems.{thins}
use Rattle.thin.proofs.Thinning.{answer-left, answer-refused}

-- an answer with k crumbs left, at the tolerance d, after p passes
pub record LeftIs (n : ℕ) (t : Float) (entry exit : List Float) (k : ℕ) (d : Float) (p : ℕ) : Type 0 where
  pub admitted : question9 (length entry) n t ≡ true
  pub held : crumbs k exit ≡ (thinned n t entry).left
  pub tolerance : d ≡ (thinned n t entry).tolerance
  pub passes : p ≡ (thinned n t entry).passes
  pub fewer : k ≤ n
  pub rule : Thins (capacity (length entry)) t (crumbs n entry) (thinned n t entry)

says-left : (r : Result Thinned Refusal) (k : ℕ) (d : Float) (p : ℕ) → says r ≡ left k d p
    → r ≡ Ok (record { len = k; tolerance = d; passes = p })
says-left (Ok w) k d p e =
    let a : w.len ≡ k = cc in
    let b : w.tolerance ≡ d = cc in
    let c : w.passes ≡ p = cc in
    let at : ℕ → Float → ℕ → Thinned = λ (x : ℕ) (y : Float) (z : ℕ). record { len = x; tolerance = y; passes = z } in
    ap Ok (ap (λ (x : ℕ). at x w.tolerance w.passes) a ∙ ap (λ (y : Float). at k y w.passes) b ∙ ap (λ (z : ℕ). at k d z) c)
says-left (Err q) k d p e = let z : ◌≡◌ {A = ℕ} 0 1 = cc in absurd (omega arith)

module _ {n : ℕ} {t : Float} {entry exit : List Float} {r : Result Thinned Refusal} (f : ThinDone n t entry exit r) where
  -- a call that passes question 9 is not refused
  pub answered-left : question9 (length entry) n t ≡ true
      → r ≡ Ok
      (record { len = length (thinned n t entry).left; tolerance = (thinned n t entry).tolerance; passes = (thinned n t entry).passes })
  answered-left a =
      says-left r (length (thinned n t entry).left) (thinned n t entry).tolerance (thinned n t entry).passes
      (f.answered ∙ answer-left (length entry) t (crumbs n entry) (thinned n t entry) (rw length-crumbs a) refl)

  answered-refused : question9 (length entry) n t ≡ false → says r ≡ refused 9
  answered-refused a = f.answered ∙ answer-refused (length entry) t (crumbs n entry) (rw length-crumbs a)

  pub left_is : {w : Thinned} → r ≡ Ok w → LeftIs n t entry exit w.len w.tolerance w.passes
  left_is {w} e = by (question9 (length entry) n t) refl
    where
      by : (b : Bool) → question9 (length entry) n t ≡ b → LeftIs n t entry exit w.len w.tolerance w.passes
      by true a =
          let v = thinned n t entry in
          let same : Ok w ≡ Ok (record { len = length v.left; tolerance = v.tolerance; passes = v.passes }) = sym e ∙ answered-left a in
          let is : w ≡ record { len = length v.left; tolerance = v.tolerance; passes = v.passes } = cc in
          let i : w.len ≡ length v.left = ap (λ (x : Thinned). x.len) is in
          let rule = thins (length entry) t (crumbs n entry) (rw length-crumbs a) in
          record {
            admitted = a;
            held = rw i (f.held a);
            tolerance = ap (λ (x : Thinned). x.tolerance) is;
            passes = ap (λ (x : Thinned). x.passes) is;
            fewer = omega (arith, choice-length rule.choice, length-crumbs n entry);
            rule = rule;
          }
      by false a =
          let no : left w.len w.tolerance w.passes ≡ refused 9 = sym (ap says e) ∙ answered-refused a in
          let z : ◌≡◌ {A = ℕ} 0 1 = cc in
          absurd (omega arith)

  pub refused-is : {q : Refusal} → r ≡ Err q → (question9 (length entry) n t ≡ false) × (number q ≡ 9) × (exit ≡ entry)
  refused-is {q} e = by (question9 (length entry) n t) refl
    where
      by : (b : Bool) → question9 (length entry) n t ≡ b → (question9 (length entry) n t ≡ false) × (number q ≡ 9) × (exit ≡ entry)
      by false a = let w : refused (number q) ≡ refused 9 = sym (ap says e) ∙ answered-refused a in (a, cc, f.refused a)
      by true a =
          let v = thinned n t entry in
          let no : ◌≡◌ {A = Result Thinned Refusal} (Err q)
          (Ok (record { len = length v.left; tolerance = v.tolerance; passes = v.passes })) = sym e ∙ answered-left a in
          let z : ◌≡◌ {A = ℕ} 0 1 = cc in
          absurd (omega arith)
