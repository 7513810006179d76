-- Fixes that are looked at one after another.
use Rattle.std.proofs.Common.{◌≡◌, ◌≢◌, ◌⊎◌, inl, inr, ℕ, List, [], ◌∷◌, ℤ, refl, sym, ap, ap₂, ◌∙◌, SFits, to_z, of_z, w32}
use borrow.Author.Tests.{ne_eqb}
use mir.ValLaws.{to_z-of_z}
use Rattle.course.specs.Course.{fixes}
use Rattle.calls.specs.Questions.{asks_fix, asks_fixes, ◌or_else◌}

-- a signed number is handed on by its bits
pub fix-handed : {n : ℕ} (lat lon : ℤ) → SFits w32 lat → SFits w32 lon
    → n ≡ asks_fix (record { lat = to_z w32 (of_z w32 lat); lon = to_z w32 (of_z w32 lon) })
    → n ≡ asks_fix (record { lat = lat; lon = lon })
fix-handed lat lon x y e = e ∙ ap₂ (λ a b. asks_fix (record { lat = a; lon = b })) (to_z-of_z w32 lat x) (to_z-of_z w32 lon y)

-- what is asked of the rest is what is asked of all
pub record Asking (lats lons rest_lats rest_lons : List ℤ) : Type 0 where
  pub rest : asks_fixes (fixes rest_lats rest_lons) ≡ asks_fixes (fixes lats lons)

module _ {lats lons xs ys xs' ys' : List ℤ} {x y : ℤ} (before : Asking lats lons xs ys) (first : xs ≡ x ∷ xs') (second : ys ≡ y ∷ ys') where
  split : asks_fixes (fixes lats lons) ≡ (asks_fix (record { lat = x; lon = y }) or_else asks_fixes (fixes xs' ys'))
  unfolding asks_fixes fixes
  split = sym before.rest ∙ rw (first, second)

  -- the next says no
  pub asking-no : {n : ℕ} → n ≡ asks_fix (record { lat = x; lon = y }) → n ≢ 0 → n ≡ asks_fixes (fixes lats lons)
  asking-no {n} e ne = sym (split ∙ rw (← e, ne_eqb n 0 ne))

  -- or not
  pub asking-next : 0 ≡ asks_fix (record { lat = x; lon = y }) → Asking lats lons xs' ys'
  asking-next e = record { rest = sym (split ∙ rw (← e)) }

none : (l : List ℤ) → fixes l [] ≡ []
unfolding fixes
none [] = refl
none (x ∷ l) = refl

pub asking-end : {lats lons xs ys : List ℤ} → Asking lats lons xs ys → (xs ≡ []) ⊎ (ys ≡ []) → 0 ≡ asks_fixes (fixes lats lons)
unfolding asks_fixes fixes
asking-end {ys = ys} before (inl e) = sym (ap (λ l. asks_fixes (fixes l ys)) e) ∙ before.rest
asking-end {xs = xs} before (inr e) = sym (ap (λ l. asks_fixes (fixes xs l)) e ∙ ap asks_fixes (none xs)) ∙ before.rest
