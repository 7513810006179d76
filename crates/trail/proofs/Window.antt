-- The laws of the places that wait, and of the window's numbers. Assumes nothing.
use Prim.Native.Nat.{ℕ, zero, suc, ◌+◌, ◌-◌, ◌*◌, ◌≤◌, ◌<◌}
use mathlib.Core.Path.{◌≡◌, refl, sym, ap, ap₂, ◌∙◌}
use mathlib.Core.Bool.{Bool, true, false, ◌||◌, or-true}
use mathlib.Core.List.{List, [], ◌∷◌, ◌++◌}
use Rattle.std.specs.Prelude.{Some, None}
use native.Mathlib.Omega.{arith}
use native.Mathlib.Numerals.{add-one}
use native.Mathlib.Decide.{ℕ_discrete}
use lib.ListN.{length, get_or, set, length-set, length-append}
use lib.Seq.{get_or-set_same, get_or-set_other}
use lib.Ieee.{Float, nan, lt}
use Rattle.plane.specs.declared.Point.{Point}
use Rattle.plane.specs.Plane.{off_segment}
use Rattle.crumbs.specs.Choice.{last}
use Rattle.crumbs.proofs.Choices.{last_snoc}
use Rattle.trail.specs.Trail.{strays}
use Rattle.trail.specs.View.{waiting_at, places}

-- ---- how many, and the last
pub length-places : (n : ℕ) (w : List Float) → length (places n w) ≡ n
unfolding places
length-places zero w = refl
length-places (suc n) w = length-append (places n w) (waiting_at w n ∷ []) ∙ omega (arith, length-places n w)

pub places-on : (n : ℕ) (w : List Float) → places (n + 1) w ≡ places n w ++ waiting_at w n ∷ []
unfolding places
places-on n w = ap (λ k. places k w) (add-one n)

pub last-places : (n : ℕ) (w : List Float) → 0 < n → last (places n w) ≡ Some (waiting_at w (n - 1))
unfolding places
last-places zero w h = absurd (omega arith)
last-places (suc n) w h = let e : n ≡ suc n - 1 = omega arith in last_snoc (places n w) (waiting_at w n) ∙ ap (λ k. Some (waiting_at w k)) e

pub none-places : (w : List Float) → last (places 0 w) ≡ None
unfolding places
none-places w = refl

-- ---- a place that is put behind those that wait
module _ (w : List Float) (n : ℕ) (p : Point) where
  -- the window's numbers with p at place n
  abbrev pub put_place : List Float
  put_place = set (set w (2 * n) p.east) (2 * n + 1) p.north

  other : (i k : ℕ) → i < n → k < 2 * i + 2 → get_or put_place k nan ≡ get_or w k nan
  other i k h l =
      get_or-set_other (set w (2 * n) p.east) (2 * n + 1) k p.north nan (omega arith)
      ∙ get_or-set_other w (2 * n) k p.east nan (omega arith)

  before : (i : ℕ) → i < n → waiting_at put_place i ≡ waiting_at w i
  unfolding waiting_at
  before i h = ap₂ (λ e m. record { east = e; north = m }) (other i (2 * i) h (omega arith)) (other i (2 * i + 1) h (omega arith))

  all-before : (k : ℕ) → k ≤ n → places k put_place ≡ places k w
  unfolding places
  all-before zero h = refl
  all-before (suc k) h = ap₂ (λ l q. l ++ q ∷ []) (all-before k (omega arith)) (before k (omega arith))

  at : 2 * n + 1 < length w → waiting_at put_place n ≡ p
  unfolding waiting_at
  at h =
      ap₂ (λ e m. record { east = e; north = m })
      (get_or-set_other (set w (2 * n) p.east) (2 * n + 1) (2 * n) p.north nan (omega arith)
      ∙ get_or-set_same w (2 * n) p.east nan (omega arith))
      (get_or-set_same (set w (2 * n) p.east) (2 * n + 1) p.north nan (simp length-set h))

  pub places-put : 2 * n + 1 < length w → places (n + 1) put_place ≡ places n w ++ p ∷ []
  places-put h = places-on n put_place ∙ ap₂ (λ l q. l ++ q ∷ []) (all-before n (omega arith)) (at h)

-- ---- whether a place strays
module _ (t : Float) (a p : Point) where
  strays-on : (l : List Point) (w : Point) → strays t a p (l ++ w ∷ []) ≡ (strays t a p l || lt t (off_segment w a p))
  unfolding strays
  strays-on [] w = pick (lt t (off_segment w a p))
    where
      pick : (b : Bool) → elim b [ true ↦ true | false ↦ false ] ≡ b
      pick true = refl
      pick false = refl
  strays-on (v ∷ l) w = pick (lt t (off_segment v a p)) (strays-on l w)
    where
      pick : (b : Bool) → strays t a p (l ++ w ∷ []) ≡ (strays t a p l || lt t (off_segment w a p))
          → elim b [ true ↦ true | false ↦ strays t a p (l ++ w ∷ []) ]
          ≡ (elim b [ true ↦ true | false ↦ strays t a p l ] || lt t (off_segment w a p))
      pick true e = refl
      pick false e = e

  module _ (w : List Float) where
    pub strays-none : strays t a p (places 0 w) ≡ false
    unfolding strays places
    strays-none = refl

    pub strays-next : (i : ℕ) → strays t a p (places i w) ≡ false → lt t (off_segment (waiting_at w i) a p) ≡ false
        → strays t a p (places (i + 1) w) ≡ false
    strays-next i e f = rw (places-on, strays-on, e) f

    -- one is enough
    pub strays-found : (n i : ℕ) → i < n → lt t (off_segment (waiting_at w i) a p) ≡ true → strays t a p (places n w) ≡ true
    unfolding places
    strays-found zero i h f = absurd (omega arith)
    strays-found (suc n) i h f = strays-on (places n w) (waiting_at w n) ∙ at (ℕ_discrete i n) (λ k. strays-found n i k f)
      where
        at : Dec (i ≡ n) → (i < n → strays t a p (places n w) ≡ true)
            → (strays t a p (places n w) || lt t (off_segment (waiting_at w n) a p)) ≡ true
        at (yes e) earlier =
            ap (λ k. strays t a p (places n w) || lt t (off_segment (waiting_at w k) a p)) (sym e)
            ∙ rw f (or-true (strays t a p (places n w)))
        at (no ne) earlier = rw (earlier (omega arith))
