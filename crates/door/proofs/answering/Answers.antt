-- An export's promise from what it read and what the call answered. Assumes nothing.
use Rattle.std.proofs.Common.{◌≡◌, ◌≢◌, ℕ, List, length, Option, Some, None, Result, Ok, Err, sym, ap, refl, subst, ◌∙◌}
use Rattle.std.proofs.lemmas.Option.{none-some, same_Some}
use Rattle.std.specs.Borrow.{Bor}
use Rattle.std.specs.Prelude.{Float, IfOk}
use Rattle.crumbs.specs.Crumb.{capacity, crumbs, in_front}
use Rattle.crumbs.proofs.Crumbs.{length-crumbs}
use Rattle.refusal.specs.declared.Refusal.{Refusal}
use Rattle.refusal.specs.Refusal.{asked}
use Rattle.door.specs.Through.{values_of}
use Rattle.door.specs.Answers.{Answers, Parts, part_count}

module _ {S A W : Type 0} {held : Option S} {unread : ℕ} {promise : S → Result A Refusal → Type 0} {write : A → W → W} {was : W} where
  pub not-held : {number : ℕ} → held ≡ None → number ≡ unread → Answers held unread promise write number was was
  not-held e told = record { nothing = λ _. (told, refl); asked = λ h f. absurd (none-some h (sym e ∙ f)) }

  pub handed : {h : S} {number : ℕ} {is : W} → held ≡ Some h → (r : Result A Refusal) → promise h r → number ≡ asked r
      → is ≡ values_of write r was
      → Answers held unread promise write number was is
  handed {h = h} e r p told written =
      record {
        nothing = λ f. absurd (none-some h (sym f ∙ e));
        asked = λ k f.
            record { answer = r; promised = subst (λ (s : S). promise s r) (same_Some h k (sym e ∙ f)) p; told = told; written = written };
      }

-- ---- parts
-- a call that was not refused returns the first n crumbs
front-of : (b : List Float) (r : Result (Bor (List Float)) Refusal) {count : ℕ} (n : ℕ) → IfOk r (λ part. part.now ≡ in_front n b)
    → IfOk r (λ part. crumbs (capacity (length part.now)) part.now ≡ crumbs n b) → count ≡ part_count r
    → IfOk r (λ part. part.now ≡ in_front count b)
front-of b (Ok part) n front same counted =
    let long = sym (length-crumbs (capacity (length part.now)) part.now) ∙ ap length same ∙ length-crumbs n b in
    front ∙ ap (λ (m : ℕ). in_front m b) (sym (counted ∙ long))
front-of b (Err q) n front same counted = tt

refused-of : (r : Result (Bor (List Float)) Refusal) {number count : ℕ} → number ≡ asked r → count ≡ part_count r → number ≢ 0 → count ≡ 0
refused-of (Ok part) told counted ne = absurd (ne told)
refused-of (Err q) told counted ne = counted

pub part-returned : {S : Type 0} {held : Option S} {unread : ℕ} {promise : S → Result (Bor (List Float)) Refusal → Type 0} {b : List Float}
    {h : S} {number count : ℕ} → held ≡ Some h → (r : Result (Bor (List Float)) Refusal) → promise h r → (n : ℕ)
    → IfOk r (λ part. part.now ≡ in_front n b) → IfOk r (λ part. crumbs (capacity (length part.now)) part.now ≡ crumbs n b)
    → number ≡ asked r → count ≡ part_count r → Parts held unread promise b number count
part-returned {promise = promise} {b = b} {h = h} e r p n front same told counted =
    record {
      nothing = λ f. absurd (none-some h (sym f ∙ e));
      asked = λ k f.
          record {
            answer = r;
            promised = subst (λ s. promise s r) (same_Some h k (sym e ∙ f)) p;
            told = told;
            counted = counted;
            front = front-of b r n front same counted;
            refused = refused-of r told counted;
          };
    }
