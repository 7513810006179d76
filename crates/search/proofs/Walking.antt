-- The steps of the searches that stop at their first answer. Assumes nothing.
use Prim.Native.Nat.{ℕ, zero, suc, ◌+◌, ◌-◌, ◌≤◌, ◌<◌}
use mathlib.Core.Path.{◌≡◌, refl, sym, ap, ◌∙◌}
use mathlib.Core.Bool.{Bool, true, false, cond}
use mathlib.Core.List.{List, ◌∷◌}
use native.Mathlib.Omega.{arith}
use native.Mathlib.Numerals.{add-one}
use lib.ListN.{length, drop, drop_of_length-le}
use lib.Seq.{drop-cons}
use lib.Ieee.{Float, lt, le}
use Rattle.plane.specs.declared.Point.{Point}
use Rattle.crumbs.specs.declared.Crumb.{Crumb}
use Rattle.std.specs.Prelude.{Some, None}
use Rattle.std.specs.List.{range_with_len, prefix_len}
use Rattle.crumbs.specs.Line.{no_crumb, at}
use Rattle.search.specs.Course.{joins, joined_from}
use Rattle.search.specs.Along.{place_before, point_along, at_along, ends}

-- ---- the segment that a rider joins, from `end` down
module _ (line : List Crumb) (p : Point) (heading : ℕ) where
  pub joined-out : (end : ℕ) → end ≤ 0 → joined_from line p heading end ≡ None
  unfolding joined_from
  joined-out zero h = refl
  joined-out (suc k) h = absurd (omega arith)

  module _ (end : ℕ) (more : 1 ≤ end) {a b : Crumb} {r : Bool} (A : a ≡ at line (end - 1)) (B : b ≡ at line end)
      (R : r ≡ joins p heading a b) where
    test : {k : ℕ} → suc k ≡ end → r ≡ joins p heading (at line k) (at line (suc k))
    test {k} e = let f : end - 1 ≡ k = omega arith in cc

    pub joined-here : r ≡ true → joined_from line p heading end ≡ Some end
    unfolding joined_from
    joined-here t = at-end end refl
      where
        at-end : (n : ℕ) → n ≡ end → joined_from line p heading n ≡ Some n
        at-end zero e = absurd (omega arith)
        at-end (suc k) e = let u = sym (test e) ∙ t in rw (u, joined_from)

    pub joined-below : r ≡ false → joined_from line p heading end ≡ joined_from line p heading (end - 1)
    unfolding joined_from
    joined-below t = at-end end refl
      where
        at-end : (n : ℕ) → n ≡ end → joined_from line p heading n ≡ joined_from line p heading (n - 1)
        at-end zero e = absurd (omega arith)
        at-end (suc k) e =
            let u = sym (test e) ∙ t in
            let f : suc k - 1 ≡ k = omega arith in
            rw (u, joined_from) (sym (ap (joined_from line p heading) f))

-- ---- the last place from i down that lies no further than `along`
module _ (line : List Crumb) (along : Float) where
  pub place-first : (i : ℕ) → i ≤ 0 → place_before line along i ≡ i
  unfolding place_before
  place-first zero h = refl
  place-first (suc k) h = absurd (omega arith)

  pub place_here : (i : ℕ) {c : Crumb} → c ≡ at line i → lt along c.along ≡ false → place_before line along i ≡ i
  unfolding place_before
  place_here zero C t = refl
  place_here (suc k) C t = let u = rw C at t in rw (u, place_before)

  pub place-below : (i : ℕ) {c : Crumb} → c ≡ at line i → 0 < i → lt along c.along ≡ true
      → place_before line along (i - 1) ≡ place_before line along i
  unfolding place_before
  place-below zero C h t = absurd (omega arith)
  place-below (suc k) C h t =
      let u = rw C at t in
      let f : suc k - 1 ≡ k = omega arith in
      ap (place_before line along) f ∙ sym (rw (u, place_before))

  -- the point between the place found and the next
  pub along-there : (end : ℕ) {i : ℕ} {a b : Crumb} {r : Point} → place_before line along i ≡ i
      → place_before line along i ≡ place_before line along (end - 1)
      → a ≡ at line i → b ≡ at line (i + 1) → r ≡ point_along a b along → r ≡ at_along line end along
  unfolding at_along
  along-there end s e A B R = let f = sym s ∙ e in cc

-- ---- the leading crumbs with along ≤ limit: n of them, and those of the rest
module _ (line : List Crumb) (limit : Float) (n : ℕ) where
  pub ends-out : length line ≤ n → n + ends (drop n line) limit ≡ n
  unfolding ends
  ends-out h =
      let e : ends (drop n line) limit ≡ 0 = ap (λ l. ends l limit) (drop_of_length-le line {i = n} h) in
      omega arith

  module _ (more : n < length line) {c : Crumb} (C : c ≡ at line n) where
    split : drop n line ≡ at line n ∷ drop (n + 1) line
    unfolding at
    split = rw (add-one n, drop-cons line n no_crumb more)

    pub ends-here : le c.along limit ≡ false → n + ends (drop n line) limit ≡ n
    unfolding ends
    ends-here t =
        let u = rw C at t in
        let e : ends (drop n line) limit ≡ 0 = ap (λ l. ends l limit) split ∙ rw (u, ends) in
        omega arith

    pub ends_on : le c.along limit ≡ true → n + 1 + ends (drop (n + 1) line) limit ≡ n + ends (drop n line) limit
    unfolding ends
    ends_on t =
        let u = rw C at t in
        let e : ends (drop n line) limit ≡ suc (ends (drop (n + 1) line) limit) = ap (λ l. ends l limit) split ∙ rw (u, ends) in
        omega arith

-- of the m places from n on, those in front that hold a crumb within the limit
pub ends-taken : (line : List Crumb) (limit : Float) (m n : ℕ) → n + m ≡ length line
    → n + prefix_len (λ k. le (at line k).along limit) (range_with_len n m) ≡ n + ends (drop n line) limit
ends-taken line limit zero n e = let h = ends-out line limit n (omega arith) in omega (arith, h)
ends-taken line limit (suc m) n e = by (le (at line n).along limit) refl (ends-taken line limit m (n + 1) (omega arith))
  where
    rest : ℕ
    rest = prefix_len (λ k. le (at line k).along limit) (range_with_len (n + 1) m)

    by : (b : Bool) → le (at line n).along limit ≡ b → n + 1 + rest ≡ n + 1 + ends (drop (n + 1) line) limit
        → n + cond b (1 + rest) 0 ≡ n + ends (drop n line) limit
    by false t l = let h = ends-here line limit n (omega arith) refl t in omega (arith, h)
    by true t l = let h = ends_on line limit n (omega arith) refl t in omega (arith, h, l)
