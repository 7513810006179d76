-- Rows of crumbs: one filled with a crumb, one that lies between two others, those passed from the front on. Assumes nothing.
use Prim.Native.Nat.{ℕ, ◌+◌, ◌*◌, ◌/◌, ◌%◌, ◌≤◌, ◌<◌}
use mathlib.Core.Path.{◌≡◌, refl, sym, ap, ◌∙◌, subst}
use mathlib.Core.Bool.{Bool, true, false, ◌&&◌, false≢true}
use mathlib.Core.List.{List}
use native.Mathlib.Omega.{arith}
use native.Mathlib.Decide.{ℕ_discrete}
use lib.ListN.{length, get_or}
use lib.Ieee.{Float, nan, le}
use Rattle.crumbs.specs.declared.Crumb.{Crumb}
use Rattle.crumbs.specs.Crumb.{stride, crumb_at}
use Rattle.crumbs.specs.Inner.{put_at}
use Rattle.crumbs.specs.Bounds.{between, row_length, RowOf, RowBetween, Leading}
use Rattle.crumbs.proofs.Crumbs.{length-put, put_same, put_other}

-- ---- a row filled with a crumb
-- the first i of its crumbs are c
pub record Filled (c : Crumb) (row : List Float) (i : ℕ) : Type 0 where
  pub within : i ≤ row_length
  pub size : length row ≡ stride * row_length
  pub each : (k : ℕ) → k < i → crumb_at row k ≡ c

pub filled_next : {c : Crumb} {row row' : List Float} {i : ℕ} → Filled c row i → i < row_length → row' ≡ put_at row i c
    → Filled c row' (i + 1)
filled_next {c} {row} {row'} {i} f h put =
    record {
      within = omega arith;
      size = ap length put ∙ length-put row i c ∙ f.size;
      each = λ k less. ap (λ r. crumb_at r k) put ∙ at k less (ℕ_discrete k i);
    }
  where
    at : (k : ℕ) → k < i + 1 → Dec (k ≡ i) → crumb_at (put_at row i c) k ≡ c
    at k less (yes e) = ap (crumb_at (put_at row i c)) e ∙ put_same row i c (omega (arith, f.size))
    at k less (no ne) = put_other row i c k ne ∙ f.each k (omega arith)

pub filled-end : {c : Crumb} {row : List Float} {i : ℕ} → Filled c row i → row_length ≤ i → RowOf c row
filled-end f h = record { each = λ k less. f.each k (omega arith) }

-- ---- a row between two
three : (a b c : Bool) → (a && b && c) ≡ true → (a ≡ true) × (b ≡ true) × (c ≡ true)
three true true c h = (refl, refl, h)
three true false c h = absurd (false≢true h)
three false b c h = absurd (false≢true h)

module _ (least most b : List Float) (at : ℕ) where
  -- number j of the row that begins at number `at`: not below that of `least`, not above that of `most`
  abbrev pub low : ℕ → Bool
  low j = le (get_or least j nan) (get_or b (at + j) nan)

  abbrev pub high : ℕ → Bool
  high j = le (get_or b (at + j) nan) (get_or most j nan)

  -- where `ok` holds, the first k are not
  pub record Tested (ok : Bool) (k : ℕ) : Type 0 where
    pub within : k ≤ stride * row_length
    pub each : ok ≡ true → (j : ℕ) → j < k → (low j ≡ true) × (high j ≡ true)

module _ {least most b : List Float} {at : ℕ} where
  pub tested-start : Tested least most b at true 0
  tested-start = record { within = omega arith; each = λ _ j h. absurd (omega arith) }

  pub tested-next : {ok : Bool} {k : ℕ} → Tested least most b at ok k → k < stride * row_length
      → Tested least most b at ((ok && low least most b at k) && high least most b at k) (k + 1)
  tested-next {ok} {k} t h =
      record {
        within = omega arith;
        each = λ holds j less. number (three ok (low least most b at k) (high least most b at k) holds) j less (ℕ_discrete j k);
      }
    where
      number : (ok ≡ true) × (low least most b at k ≡ true) × (high least most b at k ≡ true) → (j : ℕ) → j < k + 1 → Dec (j ≡ k)
          → (low least most b at j ≡ true) × (high least most b at j ≡ true)
      number f j less (yes e) = subst (λ (x : ℕ). (low least most b at x ≡ true) × (high least most b at x ≡ true)) (sym e) (f.1, f.2)
      number f j less (no ne) = t.each f.0 j (omega arith)

-- the numbers of the row's crumbs
pub tested-end : {least most b : List Float} {i k : ℕ} {ok : Bool} → Tested least most b (stride * i) ok k → stride * row_length ≤ k
    → ok ≡ true → RowBetween least most b i
unfolding between crumb_at
tested-end {least} {most} {b} {i} t h holds = record { each = at }
  where
    number : (j m : ℕ) → j < stride * row_length → stride * i + j ≡ m
        → (le (get_or least j nan) (get_or b m nan) ≡ true) × (le (get_or b m nan) (get_or most j nan) ≡ true)
    number j m less e =
        subst (λ (x : ℕ). (le (get_or least j nan) (get_or b x nan) ≡ true) × (le (get_or b x nan) (get_or most j nan) ≡ true)) e
        (t.each holds j (omega arith))

    at : (k : ℕ) → k < row_length → between (crumb_at least k) (crumb_at most k) (crumb_at b (i + k)) ≡ true
    at k less =
        let e = number (stride * k) (stride * (i + k)) (omega arith) (omega arith) in
        let n = number (stride * k + 1) (stride * (i + k) + 1) (omega arith) (omega arith) in
        let a = number (stride * k + 2) (stride * (i + k) + 2) (omega arith) (omega arith) in
        rw (e.0, e.1, n.0, n.1, a.0, a.1)

-- ---- those passed, row by row: each row lies between two that are filled
pub leading-rows : {least most : Crumb} {low high b : List Float} {n i : ℕ} → RowOf least low → RowOf most high → row_length * i ≤ n
    → ((k : ℕ) → k < i → RowBetween low high b (row_length * k)) → Leading least most n b (row_length * i)
leading-rows {least} {most} {low} {high} {b} {n} {i} below above h rows = record { within = h; each = at }
  where
    at : (k : ℕ) → k < row_length * i → between least most (crumb_at b k) ≡ true
    at k less =
        let q = k / row_length in
        let j = k % row_length in
        let e : row_length * q + j ≡ k = omega arith in
        let r = (rows q (omega arith)).each j (omega arith) in
        let x = below.each j (omega arith) in
        let y = above.each j (omega arith) in
        rw (x, y, e) at r
