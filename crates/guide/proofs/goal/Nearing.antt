-- The nearest segment lies within 500 m where some segment does, unless the first one tried is a NaN away: then nothing is less, and it
-- stays. Assumes nothing.
use Prim.Native.Nat.{ℕ, zero, suc, ◌-◌, ◌≤◌, ◌<◌}
use mathlib.Core.Path.{◌≡◌, refl, sym, ap, ◌∙◌, subst}
use mathlib.Core.Bool.{Bool, true, false, ◌||◌, cond, true≢false}
use mathlib.Core.List.{List}
use native.Mathlib.Omega.{arith}
use lib.Dec.{T}
use lib.ListN.{length}
use lib.Ieee.{Float, nan, inf, fin, binary32, of_bits, lt, le, eq, is_nan}
use lib.Ieee.Bits.{of_bits-fits}
use Rattle.binary32.specs.Arithmetic.{constant}
use Rattle.binary32.specs.Root.{root}
use Rattle.plane.specs.declared.Point.{Point}
use Rattle.crumbs.specs.declared.Crumb.{Crumb}
use Rattle.segments.specs.declared.costs.Nearest.{Nearest}
use Rattle.segments.specs.Cost.{plain}
use Rattle.std.specs.Prelude.{Option, Some, None}
use Rattle.matching.specs.Distances.{drop_m}
use Rattle.segments.specs.Segment.{nearest_on, cheaper, considered, found}
use Rattle.segments.specs.Square.{square_on}
use Rattle.segments.proofs.Ranging.{on-is, on_fits, on-not-below}
use Rattle.search.specs.Search.{falling, count, every}
use Rattle.search.specs.Course.{closer, cost_anywhere, course_near}
use Rattle.plane.proofs.squares.Far.{far}
use Rattle.binary32.proofs.roots.Order.{lt_irrefl, le-lt}
use Rattle.binary32.proofs.roots.Bounds.{real, root-real, not-most, by_cases, real-right}
use Rattle.guide.specs.Goal.{found_any}
use Rattle.guide.specs.Near.{lies_near, some_near}

-- ---- NaNs
no_number : (x : Float) → is_nan x ≡ true → x ≡ nan
unfolding is_nan
no_number nan h = refl
no_number (inf s) h = absurd (true≢false (sym h))
no_number (fin s m e) h = absurd (true≢false (sym h))

number : (x : Float) → is_nan x ≡ false → T (real x)
unfolding is_nan
number nan h = absurd (true≢false h)
number (inf s) h = tt
number (fin s m e) h = tt

under-nan : (x : Float) → lt x nan ≡ false
unfolding lt
under-nan nan = refl
under-nan (inf true) = refl
under-nan (inf false) = refl
under-nan (fin s m e) = refl

left-real : (x y : Float) → lt x y ≡ true → T (real x)
unfolding lt
left-real nan y h = absurd (true≢false (sym h))
left-real (inf s) y h = tt
left-real (fin s m e) y h = tt

-- ---- order
less-le : (x y : Float) → lt x y ≡ true → le x y ≡ true
unfolding le
less-le x y h = ap (λ (b : Bool). b || eq x y) h

less-most : (x y z : Float) → lt x y ≡ true → le y z ≡ true → le x z ≡ true
less-most x y z h k =
    by_cases (le x z) (λ e. e) (λ e.
    let l = not-most x z (left-real x y h) (real-right y z k) e in
    absurd (true≢false (sym (le-lt x y x (less-le x y h) (le-lt y z x k l)) ∙ lt_irrefl x)))

-- ---- the search
module _ (line : List Crumb) (p : Point) where
  abbrev rule : ℕ → Option (Nearest × Float) → Option (Nearest × Float)
  rule = considered line p (cost_anywhere line p)

  abbrev shown : Option (Nearest × Float) → Bool
  shown best = found_any (closer drop_m (found best))

  abbrev near : ℕ → Nearest
  near end = nearest_on line p end

  one_on : (k : ℕ) (best : Option (Nearest × Float))
      → shown (falling rule (suc k) (suc k) best) ≡ shown (falling rule k k (rule (suc k) best))
  unfolding falling
  one_on k best = let e : suc k - 1 ≡ k = omega arith in ap (λ (n : ℕ). shown (falling rule k n (rule (suc k) best))) e

  considers : (k : ℕ) (old : Nearest) (cost : Float)
      → rule (suc k) (Some (old, cost)) ≡ cond (lt (near (suc k)).off cost) (Some ((near (suc k)), (near (suc k)).off)) (Some (old, cost))
  unfolding considered cost_anywhere plain cheaper
  considers k old cost = refl

  -- within 500 m, and it stays so
  stays-near : (k : ℕ) (old : Nearest) (cost : Float) → old.off ≡ cost → le cost drop_m ≡ true
      → shown (falling rule k k (Some (old, cost))) ≡ true
  unfolding falling found closer found_any
  stays-near zero old cost e h = let g : le old.off drop_m ≡ true = rw e h in rw g
  stays-near (suc k) old cost e h =
      one_on k (Some (old, cost)) ∙ ap (λ (b : Option (Nearest × Float)). shown (falling rule k k b)) (considers k old cost)
      ∙ go (λ (c : Float) (n : Nearest). stays-near k n c) (lt (near (suc k)).off cost) refl
    where
      go : ((c : Float) (n : Nearest) → n.off ≡ c → le c drop_m ≡ true → shown (falling rule k k (Some (n, c))) ≡ true)
          → (b : Bool) → lt (near (suc k)).off cost ≡ b
          → shown (falling rule k k (cond b (Some ((near (suc k)), (near (suc k)).off)) (Some (old, cost)))) ≡ true
      go below true l = below (near (suc k)).off (near (suc k)) refl (less-most (near (suc k)).off cost drop_m l h)
      go below false l = below cost old e h

  -- a NaN away, and it stays so
  stays-lost : (k : ℕ) (old : Nearest) → old.off ≡ nan → shown (falling rule k k (Some (old, nan))) ≡ false
  unfolding falling found closer found_any le lt eq
  stays-lost zero old e = rw (e, closer)
  stays-lost (suc k) old e =
      one_on k (Some (old, nan)) ∙ ap (λ (b : Option (Nearest × Float)). shown (falling rule k k b)) (considers k old nan
      ∙ ap (λ (b : Bool). cond b (Some ((near (suc k)), (near (suc k)).off)) (Some (old, nan))) (under-nan (near (suc k)).off))
      ∙ stays-lost k old e

  -- further off than 500 m: those below decide
  still-far : (k : ℕ) (old : Nearest) (cost : Float) → old.off ≡ cost → T (real cost) → le cost drop_m ≡ false
      → shown (falling rule k k (Some (old, cost))) ≡ some_near line p k
  unfolding falling found closer found_any some_near lies_near
  still-far zero old cost e r h = let g : le old.off drop_m ≡ false = rw e h in rw g
  still-far (suc k) old cost e r h =
      one_on k (Some (old, cost)) ∙ ap (λ (b : Option (Nearest × Float)). shown (falling rule k k b)) (considers k old cost)
      ∙ go (λ (c : Float) (n : Nearest). still-far k n c) (le (near (suc k)).off drop_m) (lt (near (suc k)).off cost) refl refl
    where
      go : ((c : Float) (n : Nearest) → n.off ≡ c → T (real c) → le c drop_m ≡ false → shown (falling rule k k (Some (n, c)))
          ≡ some_near line p k) → (d b : Bool) → le (near (suc k)).off drop_m ≡ d → lt (near (suc k)).off cost ≡ b
          → shown (falling rule k k (cond b (Some ((near (suc k)), (near (suc k)).off)) (Some (old, cost))))
          ≡ elim d [ true ↦ true | false ↦ some_near line p k ]
      go below true true n l = stays-near k (near (suc k)) (near (suc k)).off refl n
      go below true false n l =
          let less = not-most cost drop_m r (real-right (near (suc k)).off drop_m n) h in
          absurd (true≢false (sym (le-lt (near (suc k)).off drop_m cost n less) ∙ l))
      go below false true n l = below (near (suc k)).off (near (suc k)) refl (left-real (near (suc k)).off cost l) n
      go below false false n l = below cost old e r h

  first : (k : ℕ) → rule (suc k) None ≡ Some ((near (suc k)), (near (suc k)).off)
  unfolding considered cost_anywhere plain cheaper
  first k = refl

  begins : (k : ℕ) → shown (falling rule (suc k) (suc k) None) ≡ shown (falling rule k k (Some ((near (suc k)), (near (suc k)).off)))
  begins k = one_on k None ∙ ap (λ (b : Option (Nearest × Float)). shown (falling rule k k b)) (first k)

  whole-lost : (k : ℕ) → is_nan (square_on line p (suc k)) ≡ true
      → shown (falling rule (suc k) (suc k) None) ≡ false
  unfolding root
  whole-lost k h =
      let e : (near (suc k)).off ≡ nan = on-is line p (suc k) ∙ ap (root binary32) (no_number (square_on line p (suc k)) h) in
      begins k ∙ ap (λ (c : Float). shown (falling rule k k (Some ((near (suc k)), c)))) e ∙ stays-lost k (near (suc k)) e

  whole : (k : ℕ) → is_nan (square_on line p (suc k)) ≡ false
      → shown (falling rule (suc k) (suc k) None) ≡ some_near line p (suc k)
  unfolding some_near lies_near
  whole k h = begins k ∙ go (le (near (suc k)).off drop_m) refl
    where
      r : T (real (near (suc k)).off)
      r = subst (λ (z : Float). T (real z)) (sym (on-is line p (suc k)))
          (root-real binary32 (square_on line p (suc k)) (on-not-below line p (suc k)) (number (square_on line p (suc k)) h))

      go : (d : Bool) → le (near (suc k)).off drop_m ≡ d
          → shown (falling rule k k (Some ((near (suc k)), (near (suc k)).off))) ≡ elim d [ true ↦ true | false ↦ some_near line p k ]
      go true n = stays-near k (near (suc k)) (near (suc k)).off refl n
      go false n = still-far k (near (suc k)) (near (suc k)).off refl r n

  abbrev any : Bool
  any = found_any (course_near line p drop_m)

  any-is : any ≡ shown (falling rule (length line - 1) (length line - 1) None)
  unfolding course_near
  any-is = let e : count (every line) ≡ length line - 1 = omega arith in ap (λ (n : ℕ). shown (falling rule n (length line - 1) None)) e

  module _ {len : ℕ} (L : length line ≡ len) where
    pub near_none : len < 2 → false ≡ any
    unfolding falling found closer found_any
    near_none h = let e : length line - 1 ≡ 0 = omega arith in sym (any-is ∙ ap (λ (n : ℕ). shown (falling rule n n None)) e)

    pub near-lost : {s : Float} → 2 ≤ len → s ≡ square_on line p (len - 1) → is_nan s ≡ true → false ≡ any
    near-lost {s} more S h =
        let e : length line - 1 ≡ suc (len - 2) = omega arith in
        let d : len - 1 ≡ suc (len - 2) = omega arith in
        let g = S ∙ ap (square_on line p) d in
        sym (any-is ∙ ap (λ (n : ℕ). shown (falling rule n n None)) e ∙ whole-lost (len - 2) (subst (λ (z : Float). is_nan z ≡ true) g h))

    pub near-some : {s : Float} {r : Bool} → 2 ≤ len → s ≡ square_on line p (len - 1) → is_nan s ≡ false → r ≡ some_near line p (len - 1)
        → r ≡ any
    near-some {s} {r} more S h R =
        let e : length line - 1 ≡ suc (len - 2) = omega arith in
        let d : len - 1 ≡ suc (len - 2) = omega arith in
        let g = S ∙ ap (square_on line p) d in
        R ∙ ap (some_near line p) d
        ∙ sym (any-is ∙ ap (λ (n : ℕ). shown (falling rule n n None)) e ∙ whole (len - 2) (subst (λ (z : Float). is_nan z ≡ false) g h))

  -- ---- the loop
  module _ (end : ℕ) {b : Bool} (B : b ≡ lies_near line p end) (more : 0 < end) where
    pub some-here : b ≡ true → true ≡ some_near line p end
    unfolding some_near
    some-here h =
        let e : end ≡ suc (end - 1) = omega arith in
        let g : lies_near line p (suc (end - 1)) ≡ true = ap (lies_near line p) (sym e) ∙ sym B ∙ h in
        sym (ap (some_near line p) e ∙ rw (g, some_near))

    pub some_below : b ≡ false → some_near line p end ≡ some_near line p (end - 1)
    unfolding some_near
    some_below h =
        let e : end ≡ suc (end - 1) = omega arith in
        let g : lies_near line p (suc (end - 1)) ≡ false = ap (lies_near line p) (sym e) ∙ sym B ∙ h in
        ap (some_near line p) e ∙ rw (g, some_near)

  pub some_out : (end : ℕ) → end ≤ 0 → false ≡ some_near line p end
  unfolding some_near
  some_out zero h = refl
  some_out (suc k) h = absurd (omega arith)

-- ---- a segment
-- 250000.015625
abbrev bar : Float
bar = of_bits binary32 0x4874_2401

above : lt drop_m (root binary32 bar) ≡ true
unfolding drop_m constant of_bits root lt
above = refl

module _ (line : List Crumb) (p : Point) (end : ℕ) {s : Float} (S : s ≡ square_on line p end) where
  pub lies : {r : Float} → r ≡ root binary32 s → le r drop_m ≡ lies_near line p end
  unfolding lies_near
  lies R = ap (λ (z : Float). le z drop_m) (R ∙ ap (root binary32) S ∙ sym (on-is line p end))

  pub lies-not : lt s bar ≡ false → false ≡ lies_near line p end
  unfolding lies_near
  lies-not h =
      sym (ap (λ (z : Float). le z drop_m) (on-is line p end) ∙ far (square_on line p end) bar drop_m (on_fits line p end)
      (of_bits-fits binary32 0x4874_2401) above (subst (λ (z : Float). lt z bar ≡ false) S h))
