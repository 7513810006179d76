-- The laws of the line of crumbs in a buffer: its ends, its length, and along recomputed. Assumes nothing.
use Prim.Native.Nat.{ℕ, zero, suc, ◌+◌, ◌-◌, ◌≤◌, ◌<◌}
use mathlib.Core.Path.{◌≡◌, refl, sym, ap, ap₂, ◌∙◌}
use mathlib.Core.List.{List, [], ◌∷◌, ◌++◌, append_assoc, append-nil}
use Rattle.std.specs.Prelude.{Some, None}
use native.Mathlib.Omega.{arith}
use native.Mathlib.Numerals.{add-one}
use lib.ListN.{length, take, drop, set, drop_of_length-le}
use lib.Seq.{take_all, take-suc, take-suc-set, drop-set-lt}
use lib.Ieee.{Float}
use Rattle.plane.specs.declared.Point.{Point}
use Rattle.crumbs.specs.declared.Crumb.{Crumb}
use Rattle.crumbs.specs.Crumb.{capacity, crumb_at, crumbs, behind, point}
use Rattle.crumbs.specs.Inner.{put_at}
use Rattle.crumbs.specs.Choice.{last}
use Rattle.crumbs.proofs.Choices.{last_snoc}
use Rattle.crumbs.proofs.Crumbs.{length-crumbs, get_d-crumbs, drop-crumbs, take-crumbs, crumbs-put, behind-put, length-put, put_same}
use Rattle.crumbs.specs.Along.{crumb_of, along_to, realong_behind, realong}
use Rattle.crumbs.specs.Inner.{Realongs}

-- ---- the last and the first crumb of a buffer
last-is : (n : ℕ) (b : List Float) → crumbs (suc n) b ≡ crumbs n b ++ crumb_at b n ∷ []
last-is n b =
    let l = crumbs (suc n) b in
    let h : n < length l = omega (arith, length-crumbs (suc n) b) in
    sym (take_all (suc n) l (omega (arith, length-crumbs (suc n) b)))
    ∙ (take-suc l n (crumb_at b n) h
    ∙ ap₂ (λ m c. m ++ c ∷ []) (take-crumbs n (suc n) b (omega arith)) (get_d-crumbs (suc n) b n (crumb_at b n) (omega arith)))

pub last-crumbs : (n : ℕ) (b : List Float) → 0 < n → last (crumbs n b) ≡ Some (crumb_at b (n - 1))
last-crumbs zero b h = absurd (omega arith)
last-crumbs (suc n) b h =
    let e : n ≡ suc n - 1 = omega arith in
    ap last (last-is n b) ∙ (last_snoc (crumbs n b) (crumb_at b n) ∙ ap (λ k. Some (crumb_at b k)) e)

pub last_none : (b : List Float) → last (crumbs 0 b) ≡ None
unfolding crumbs
last_none b = refl

-- ---- along recomputed
-- What the loop carries on: the crumbs whose along is recomputed, and what is still to come, are the whole.
pub record Going (n : ℕ) (b₀ b : List Float) (i : ℕ) : Type 0 where
  pub done : take i (crumbs n b) ++ realong_behind (crumb_at b (i - 1)) (drop i (crumbs n b)) ≡ realong (crumbs n b₀)
  pub beyond : behind n b ≡ behind n b₀
  pub size : length b ≡ length b₀
  pub fits : n ≤ capacity (length b₀)
  pub low : 1 ≤ i

from_first : (n : ℕ) (b : List Float) → take 1 (crumbs n b) ++ realong_behind (crumb_at b 0) (drop 1 (crumbs n b)) ≡ realong (crumbs n b)
unfolding crumbs realong realong_behind
from_first zero b = refl
from_first (suc n) b = refl

pub going_start : {n : ℕ} {b : List Float} → n ≤ capacity (length b) → Going n b b 1
going_start {n} {b} h = record { done = from_first n b; beyond = refl; size = refl; fits = h; low = omega arith }

module _ {n : ℕ} {b₀ b : List Float} {i : ℕ} (g : Going n b₀ b i) where
  module _ (more : i < n) where
    next : Crumb
    next = crumb_of (point (crumb_at b i)) (along_to (crumb_at b (i - 1)) (point (crumb_at b i)))

    room : i < capacity (length b)
    room = omega (arith, g.size, g.fits)

    put : crumbs n (put_at b i next) ≡ set (crumbs n b) i next
    put = crumbs-put b i next n room more

    front : take (i + 1) (crumbs n (put_at b i next)) ≡ take i (crumbs n b) ++ next ∷ []
    front = rw (add-one i, put) (take-suc-set (crumbs n b) i next (rw length-crumbs more))

    rest : drop (i + 1) (crumbs n (put_at b i next)) ≡ drop (suc i) (crumbs n b)
    rest = rw (add-one i, put) (drop-set-lt (suc i) (crumbs n b) i next (omega arith))

    come : realong_behind (crumb_at b (i - 1)) (drop i (crumbs n b)) ≡ next ∷ realong_behind next (drop (suc i) (crumbs n b))
    unfolding realong_behind next
    come = rw (drop-crumbs n b i more)

    going_next : Going n b₀ (put_at b i next) (i + 1)
    going_next =
        let l = take i (crumbs n b) in
        let e : i + 1 - 1 ≡ i = omega arith in
        let at : crumb_at (put_at b i next) (i + 1 - 1) ≡ next = ap (crumb_at (put_at b i next)) e ∙ put_same b i next room in
        record {
          done =
              ap₂ ◌++◌ front (ap₂ realong_behind at rest)
              ∙ (append_assoc l (next ∷ []) (realong_behind next (drop (suc i) (crumbs n b))) ∙ (ap (λ m. l ++ m) (sym come) ∙ g.done));
          beyond = behind-put b i next n more ∙ g.beyond;
          size = length-put b i next ∙ g.size;
          fits = g.fits;
          low = omega arith;
        }

    -- the same of the buffer that a put left, with the crumb before, the place and the along that were worked out
    pub going_on : {exit : List Float} {a : Crumb} {p : Point} {along : Float} → exit ≡ put_at b i (crumb_of p along)
        → a ≡ crumb_at b (i - 1)
        → p ≡ point (crumb_at b i) → along ≡ along_to a p → Going n b₀ exit (i + 1)
    unfolding next
    going_on e before place far = rw (e ∙ ap₂ (λ q m. put_at b i (crumb_of q m)) place (far ∙ ap₂ along_to before place)) going_next

  pub going_end : n ≤ i → Realongs n b₀ b
  unfolding realong_behind
  going_end h =
      let l = crumbs n b in
      let few : length l ≤ i = rw length-crumbs h in
      let none_left : drop i l ≡ [] = drop_of_length-le l {i = i} few in
      record {
        held =
            sym (take_all i l few)
            ∙ (sym (append-nil (take i l))
            ∙ (ap (λ m. take i l ++ realong_behind (crumb_at b (i - 1)) m) (sym none_left) ∙ g.done));
        beyond = g.beyond;
        size = g.size;
      }
