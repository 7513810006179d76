-- The steps of a reach: what the loops over the ends, and over the points between, carry on. Assumes nothing.
use Prim.Native.Nat.{ℕ, zero, suc, ◌+◌, ◌-◌, ◌≤◌, ◌<◌, min}
use mathlib.Core.Path.{◌≡◌, refl, sym, ap, ◌∙◌, subst}
use mathlib.Core.Bool.{true, false}
use mathlib.Core.List.{List, [], ◌∷◌}
use native.Mathlib.Omega.{arith}
use lib.ListN.{length, get_or, take, drop, length-drop, drop_of_length-le}
use lib.Seq.{drop-cons, get_or-drop, get_or-take, length-take-le}
use lib.Ieee.{Float, le}
use Rattle.plane.specs.Plane.{off_segment}
use Rattle.crumbs.specs.declared.Crumb.{Crumb}
use Rattle.crumbs.specs.Crumb.{crumb_at, crumbs, point}
use Rattle.crumbs.proofs.Crumbs.{length-crumbs, get_d-crumbs}
use Rattle.thin.specs.Crumb.{clear, farther, reach}

-- ---- the rules, a step at a time
clear-on : (t : Float) (a b p : Crumb) (l : List Crumb) → le (off_segment (point p) (point a) (point b)) t ≡ true
    → clear t a b (p ∷ l) ≡ clear t a b l
unfolding clear
clear-on t a b p l h = rw (h, clear)

clear-stray : (t : Float) (a b p : Crumb) (l : List Crumb) → le (off_segment (point p) (point a) (point b)) t ≡ false
    → clear t a b (p ∷ l) ≡ false
unfolding clear
clear-stray t a b p l h = rw (h, clear)

farther-on : (t : Float) (a : Crumb) (l : List Crumb) (k n : ℕ) → clear t a (get_or l k a) (take k l) ≡ true
    → farther t a l k (suc n) ≡ farther t a l (suc k) n
unfolding farther
farther-on t a l k n h = rw (h, farther)

farther-stop : (t : Float) (a : Crumb) (l : List Crumb) (k n : ℕ) → clear t a (get_or l k a) (take k l) ≡ false
    → farther t a l k (suc n) ≡ k
unfolding farther
farther-stop t a l k n h = rw (h, farther)

-- ---- the crumbs after the anchor, and those between the anchor and an end
abbrev pub after : List Float → ℕ → ℕ → List Crumb
after buf len anchor = drop (suc anchor) (crumbs len buf)

abbrev pub between : List Float → ℕ → ℕ → ℕ → List Crumb
between buf len anchor end = take (end - (anchor + 1)) (after buf len anchor)

pub length-after : (buf : List Float) (len anchor : ℕ) → length (after buf len anchor) ≡ len - suc anchor
length-after buf len anchor = simp (length-drop, length-crumbs)

get_d_after : (buf : List Float) (len anchor k : ℕ) (d : Crumb) (i : ℕ) → suc anchor + k ≡ i → i < len
    → get_or (after buf len anchor) k d ≡ crumb_at buf i
get_d_after buf len anchor k d i e b =
    get_or-drop (suc anchor) (crumbs len buf) k d ∙ (get_d-crumbs len buf (suc anchor + k) d (omega arith) ∙ ap (crumb_at buf) e)

-- ---- what the loops carry on
-- how many ends are left to try, at an end
abbrev left : ℕ → ℕ → ℕ → ℕ
left len anchor end = min (anchor + 257) len - end

all_left : (len anchor n : ℕ) → n ≡ len - suc anchor → left len anchor (anchor + 2) ≡ min 256 n - 1
all_left len anchor n e = omega arith

one_less : (len anchor end : ℕ) → end < len → end - anchor ≤ 256 → left len anchor end ≡ suc (left len anchor (end + 1))
one_less len anchor end a b = omega arith

-- the loop over the ends: those from `end` on decide
pub record Ends (t : Float) (buf : List Float) (len anchor end : ℕ) : Type 0 where
  pub same : farther t (crumb_at buf anchor) (after buf len anchor) (end - (anchor + 1)) (left len anchor end)
      ≡ reach t (crumb_at buf anchor) (after buf len anchor)
  pub inside : anchor < len
  pub from : anchor + 2 ≤ end
  pub upto : end ≤ len + 1

-- the loop over the points between: those from j on decide
pub record Between (t : Float) (buf : List Float) (len anchor end j : ℕ) : Type 0 where
  pub same : clear t (crumb_at buf anchor) (crumb_at buf end) (drop (j - (anchor + 1)) (between buf len anchor end))
      ≡ clear t (crumb_at buf anchor) (crumb_at buf end) (between buf len anchor end)
  pub from : anchor + 1 ≤ j
  pub upto : j ≤ end

module _ {t : Float} {buf : List Float} {len anchor : ℕ} where
  pub ends-start : anchor < len → Ends t buf len anchor (anchor + 2)
  unfolding reach
  ends-start h =
      let k : anchor + 2 - (anchor + 1) ≡ 1 = omega arith in
      let n : left len anchor (anchor + 2) ≡ min 256 (length (after buf len anchor)) - 1 =
      all_left len anchor _ (length-after buf len anchor) in
      record { same = cc; inside = h; from = omega arith; upto = omega arith }

  module _ {end : ℕ} (v : Ends t buf len anchor end) where
    -- the reach ends before `end`, and that is what the function returns
    ended : reach t (crumb_at buf anchor) (after buf len anchor) ≡ end - (anchor + 1)
        → end - 1 ≡ anchor + reach t (crumb_at buf anchor) (after buf len anchor)
    ended e = omega (arith, v)

    -- no end is left to try
    pub ends-out : left len anchor end ≡ 0 → end - 1 ≡ anchor + reach t (crumb_at buf anchor) (after buf len anchor)
    unfolding farther
    ends-out e = ended (sym v.same ∙ ap (farther t (crumb_at buf anchor) (after buf len anchor) (end - (anchor + 1))) e)

    module _ (within : end < len) (near : end - anchor ≤ 256) where
      -- the end tried is the one that the rule tries
      tried : get_or (after buf len anchor) (end - (anchor + 1)) (crumb_at buf anchor) ≡ crumb_at buf end
      tried = get_d_after buf len anchor (end - (anchor + 1)) (crumb_at buf anchor) end (omega (arith, v.from)) within

      at-end : farther t (crumb_at buf anchor) (after buf len anchor) (end - (anchor + 1)) (suc (left len anchor (end + 1)))
          ≡ reach t (crumb_at buf anchor) (after buf len anchor)
      at-end = rw (← one_less len anchor end within near) v.same

      length-between : length (between buf len anchor end) ≡ end - (anchor + 1)
      length-between = length-take-le (end - (anchor + 1)) (after buf len anchor) (omega (arith, length-after buf len anchor))

      pub between_start : Between t buf len anchor end (anchor + 1)
      between_start =
          let k : anchor + 1 - (anchor + 1) ≡ 0 = omega arith in
          record { same = rw k; from = omega arith; upto = omega (arith, v.from) }

      module _ {j : ℕ} (u : Between t buf len anchor end j) where
        -- no point between strays: the end is good
        pub ends_on : end ≤ j → Ends t buf len anchor (end + 1)
        unfolding clear
        ends_on past =
            let none : drop (j - (anchor + 1)) (between buf len anchor end) ≡ [] =
            drop_of_length-le (between buf len anchor end) {i = j - (anchor + 1)} (omega (arith, length-between)) in
            let good : clear t (crumb_at buf anchor) (crumb_at buf end) (between buf len anchor end) ≡ true =
            sym u.same ∙ ap (clear t (crumb_at buf anchor) (crumb_at buf end)) none in
            let k : suc (end - (anchor + 1)) ≡ end + 1 - (anchor + 1) = omega (arith, v.from) in
            record {
              same =
                  ap (λ n. farther t (crumb_at buf anchor) (after buf len anchor) n (left len anchor (end + 1))) (sym k)
                  ∙ (sym (farther-on t (crumb_at buf anchor) (after buf len anchor) (end - (anchor + 1)) (left len anchor (end + 1))
                  (rw tried good)) ∙ at-end);
              inside = v.inside;
              from = omega (arith, v.from);
              upto = omega arith;
            }

        module _ {r : Float} (more : j < end)
            (off : r ≡ off_segment (point (crumb_at buf j)) (point (crumb_at buf anchor)) (point (crumb_at buf end))) where
          split : drop (j - (anchor + 1)) (between buf len anchor end)
              ≡ crumb_at buf j ∷ drop (j + 1 - (anchor + 1)) (between buf len anchor end)
          split =
              let k : suc (j - (anchor + 1)) ≡ j + 1 - (anchor + 1) = omega (arith, u.from) in
              let e : get_or (between buf len anchor end) (j - (anchor + 1)) (crumb_at buf j) ≡ crumb_at buf j =
              get_or-take (end - (anchor + 1)) (after buf len anchor) (j - (anchor + 1)) (crumb_at buf j) (omega (arith, u.from))
              ∙ get_d_after buf len anchor (j - (anchor + 1)) (crumb_at buf j) j (omega (arith, u.from)) (omega arith) in
              drop-cons (between buf len anchor end) (j - (anchor + 1)) (crumb_at buf j) (omega (arith, length-between, u.from)) ∙ rw (e, k)

          pub between-on : le r t ≡ true → Between t buf len anchor end (j + 1)
          between-on e =
              record {
                same =
                    sym (clear-on t (crumb_at buf anchor) (crumb_at buf end) (crumb_at buf j)
                    (drop (j + 1 - (anchor + 1)) (between buf len anchor end)) (rw off at e))
                    ∙ (ap (clear t (crumb_at buf anchor) (crumb_at buf end)) (sym split) ∙ u.same);
                from = omega (arith, u.from);
                upto = omega arith;
              }

          -- a point strays: the reach ends before this end
          pub ends-stray : le r t ≡ false → end - 1 ≡ anchor + reach t (crumb_at buf anchor) (after buf len anchor)
          ends-stray e =
              let bad : clear t (crumb_at buf anchor) (crumb_at buf end) (between buf len anchor end) ≡ false =
              sym u.same
              ∙ (ap (clear t (crumb_at buf anchor) (crumb_at buf end)) split
              ∙ clear-stray t (crumb_at buf anchor) (crumb_at buf end) (crumb_at buf j)
              (drop (j + 1 - (anchor + 1)) (between buf len anchor end)) (rw off at e)) in
              ended
              (sym at-end
              ∙ farther-stop t (crumb_at buf anchor) (after buf len anchor) (end - (anchor + 1)) (left len anchor (end + 1)) (rw tried bad))

      -- points that stay are passed over
      pub between-over : {j : ℕ} → Between t buf len anchor end j → (n : ℕ) → j + n ≤ end
          → ((i : ℕ) → j ≤ i → i < j + n
          → le (off_segment (point (crumb_at buf i)) (point (crumb_at buf anchor)) (point (crumb_at buf end))) t ≡ true)
          → Between t buf len anchor end (j + n)
      between-over {j} u zero h s = let e : j ≡ j + 0 = omega arith in subst (Between t buf len anchor end) e u
      between-over {j} u (suc n) h s =
          let e : j + n + 1 ≡ j + suc n = omega arith in
          let v = between-over u n (omega arith) (λ i low high. s i low (omega arith)) in
          subst (Between t buf len anchor end) e (between-on v (omega arith) refl (s (j + n) (omega arith) (omega arith)))
