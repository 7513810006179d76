-- The laws of the crumbs that a buffer holds: how many, which, after a crumb is put, and what they depend on. Assumes nothing.
use Prim.Native.Nat.{ℕ, zero, suc, ◌+◌, ◌-◌, ◌*◌, ◌≤◌, ◌<◌}
use mathlib.Core.Path.{◌≡◌, refl, sym, ap, ◌∙◌}
use mathlib.Core.List.{List, [], ◌∷◌, ◌++◌}
use mathlib.Core.Logic.{◌≢◌}
use native.Mathlib.Omega.{arith}
use native.Mathlib.Numerals.{add-one}
use native.Mathlib.Decide.{ℕ_discrete}
use lib.ListN.{length, get_or, take, drop, set, length-set, length-take}
use lib.Seq.{drop-cons, drop-drop, get_or-drop, get_or-take, get_or-set_same, get_or-set_other, drop-set-lt, take-suc-set, take_all}
use lib.Seq.{ext_get_or}
use lib.Ieee.{Float, nan}
use Rattle.crumbs.specs.declared.Crumb.{Crumb}
use Rattle.crumbs.specs.Crumb.{stride, capacity, crumb_at, crumbs, in_front, behind}
use Rattle.crumbs.specs.Line.{no_crumb, at}
use Rattle.crumbs.specs.Inner.{put_at, Front}

crumb-path : {x y : Crumb} → x.east ≡ y.east → x.north ≡ y.north → x.along ≡ y.along → x ≡ y
crumb-path p q r = λ i. record { east = p i; north = q i; along = r i }

-- ---- how many, and which
pub length-crumbs : (n : ℕ) (b : List Float) → length (crumbs n b) ≡ n
unfolding crumbs
length-crumbs zero b = refl
length-crumbs (suc n) b = ap suc (length-crumbs n (drop stride b))

-- a number one crumb on
crumb-on : (b : List Float) (j k : ℕ) → stride + j ≡ k → get_or (drop stride b) j nan ≡ get_or b k nan
crumb-on b j k e = get_or-drop stride b j nan ∙ ap (λ m. get_or b m nan) e

crumb_at-drop : (b : List Float) (i : ℕ) → crumb_at (drop stride b) i ≡ crumb_at b (suc i)
unfolding crumb_at
crumb_at-drop b i =
    crumb-path
    (crumb-on b (stride * i) (stride * suc i) (omega arith))
    (crumb-on b (stride * i + 1) (stride * suc i + 1) (omega arith))
    (crumb-on b (stride * i + 2) (stride * suc i + 2) (omega arith))

-- the crumb at place i, whatever stands for one that is missing
pub get_d-crumbs : (n : ℕ) (b : List Float) (i : ℕ) (d : Crumb) → i < n → get_or (crumbs n b) i d ≡ crumb_at b i
unfolding crumbs
get_d-crumbs zero b i d h = absurd (omega arith)
get_d-crumbs (suc n) b zero d h = refl
get_d-crumbs (suc n) b (suc i) d h = get_d-crumbs n (drop stride b) i d (omega arith) ∙ crumb_at-drop b i

pub at_held : (n : ℕ) (b : List Float) (i : ℕ) → i < n → at (crumbs n b) i ≡ crumb_at b i
unfolding at
at_held n b i h = get_d-crumbs n b i no_crumb h

-- the crumbs from place i on begin with the one there
pub drop-crumbs : (n : ℕ) (b : List Float) (i : ℕ) → i < n → drop i (crumbs n b) ≡ crumb_at b i ∷ drop (suc i) (crumbs n b)
drop-crumbs n b i h =
    drop-cons (crumbs n b) i (crumb_at b i) (rw length-crumbs h)
    ∙ ap (λ x. x ∷ drop (suc i) (crumbs n b)) (get_d-crumbs n b i (crumb_at b i) h)

-- cut to a front part
pub take-crumbs : (m n : ℕ) (b : List Float) → m ≤ n → take m (crumbs n b) ≡ crumbs m b
unfolding crumbs
take-crumbs zero n b h = refl
take-crumbs (suc m) zero b h = absurd (omega arith)
take-crumbs (suc m) (suc n) b h = ap (λ l. crumb_at b 0 ∷ l) (take-crumbs m n (drop stride b) (omega arith))

-- two buffers with the same crumb at each of the first n places
crumbs-each : (n : ℕ) (a b : List Float) → ((i : ℕ) → i < n → crumb_at a i ≡ crumb_at b i) → crumbs n a ≡ crumbs n b
unfolding crumbs
crumbs-each zero a b h = refl
crumbs-each (suc n) a b h =
    ap (λ x. x ∷ crumbs n (drop stride a)) (h 0 (omega arith))
    ∙ ap (λ l. crumb_at b 0 ∷ l)
    (crumbs-each n (drop stride a) (drop stride b) (λ i k. crumb_at-drop a i ∙ (h (suc i) (omega arith) ∙ sym (crumb_at-drop b i))))

-- ---- a crumb that is put
-- the buffer with one number of the crumb put, and with two
abbrev put1 : List Float → ℕ → Crumb → List Float
put1 b i c = set b (stride * i) c.east

abbrev put2 : List Float → ℕ → Crumb → List Float
put2 b i c = set (put1 b i c) (stride * i + 1) c.north

pub length-put : (b : List Float) (i : ℕ) (c : Crumb) → length (put_at b i c) ≡ length b
unfolding put_at
length-put b i c = simp length-set

pub put_same : (b : List Float) (i : ℕ) (c : Crumb) → i < capacity (length b) → crumb_at (put_at b i c) i ≡ c
unfolding crumb_at put_at
put_same b i c fits =
    crumb-path
    (get_or-set_other (put2 b i c) (stride * i + 2) (stride * i) c.along nan (omega arith)
    ∙ (get_or-set_other (put1 b i c) (stride * i + 1) (stride * i) c.north nan (omega arith)
    ∙ get_or-set_same b (stride * i) c.east nan (omega arith)))
    (get_or-set_other (put2 b i c) (stride * i + 2) (stride * i + 1) c.along nan (omega arith)
    ∙ get_or-set_same (put1 b i c) (stride * i + 1) c.north nan (simp length-set (omega arith)))
    (get_or-set_same (put2 b i c) (stride * i + 2) c.along nan (simp length-set (omega arith)))

module _ (b : List Float) (i : ℕ) (c : Crumb) where
  -- a number that is none of the crumb's
  other : (k : ℕ) → k ≢ stride * i → k ≢ stride * i + 1 → k ≢ stride * i + 2 → get_or (put_at b i c) k nan ≡ get_or b k nan
  unfolding put_at
  other k x y z =
      get_or-set_other (put2 b i c) (stride * i + 2) k c.along nan z
      ∙ (get_or-set_other (put1 b i c) (stride * i + 1) k c.north nan y ∙ get_or-set_other b (stride * i) k c.east nan x)

  pub put_other : (j : ℕ) → j ≢ i → crumb_at (put_at b i c) j ≡ crumb_at b j
  unfolding crumb_at
  put_other j ne =
      crumb-path
      (other (stride * j) (omega arith) (omega arith) (omega arith))
      (other (stride * j + 1) (omega arith) (omega arith) (omega arith))
      (other (stride * j + 2) (omega arith) (omega arith) (omega arith))

  -- put behind those held: they stay
  pub crumbs-before : (n : ℕ) → n ≤ i → crumbs n (put_at b i c) ≡ crumbs n b
  crumbs-before n h = crumbs-each n (put_at b i c) b (λ j k. put_other j (omega arith))

  -- the numbers behind stay
  pub behind-put : (n : ℕ) → i < n → behind n (put_at b i c) ≡ behind n b
  unfolding behind put_at
  behind-put n below =
      drop-set-lt (stride * n) (put2 b i c) (stride * i + 2) c.along (omega arith)
      ∙ (drop-set-lt (stride * n) (put1 b i c) (stride * i + 1) c.north (omega arith)
      ∙ drop-set-lt (stride * n) b (stride * i) c.east (omega arith))

  -- put in place
  pub crumbs-put : (n : ℕ) → i < capacity (length b) → i < n → crumbs n (put_at b i c) ≡ set (crumbs n b) i c
  crumbs-put n fits below =
      ext_get_or c (crumbs n (put_at b i c)) (set (crumbs n b) i c)
      (length-crumbs n (put_at b i c) ∙ sym (simp (length-set, length-crumbs)))
      (λ j h. at j (rw length-crumbs at h) (ℕ_discrete j i))
    where
      at : (j : ℕ) → j < n → Dec (j ≡ i) → get_or (crumbs n (put_at b i c)) j c ≡ get_or (set (crumbs n b) i c) j c
      at j h (yes e) =
          rw (e, get_d-crumbs n (put_at b i c) i c below, get_or-set_same (crumbs n b) i c c (rw length-crumbs below)) (put_same b i c fits)
      at j h (no ne) =
          get_d-crumbs n (put_at b i c) j c h ∙ (put_other j ne ∙ sym (get_or-set_other (crumbs n b) i j c c ne ∙ get_d-crumbs n b j c h))

-- put behind the last
pub crumbs-behind : (n : ℕ) (b : List Float) (c : Crumb) → n < capacity (length b) → crumbs (n + 1) (put_at b n c) ≡ crumbs n b ++ (c ∷ [])
crumbs-behind n b c fits =
    let l = crumbs (suc n) b in
    let e : take n l ≡ crumbs n b = take-crumbs n (suc n) b (omega arith) in
    rw (add-one n, crumbs-put b n c (suc n) fits (omega arith))
    (sym (take_all (suc n) (set l n c) (omega (arith, length-set l n c, length-crumbs (suc n) b)))
    ∙ (take-suc-set l n c (omega (arith, length-crumbs (suc n) b)) ∙ ap (λ m. m ++ (c ∷ [])) e))

-- a crumb that is copied to another place stands where it was, too
pub put-copied : (b : List Float) (i j : ℕ) → i < capacity (length b) → crumb_at (put_at b i (crumb_at b j)) j ≡ crumb_at b j
put-copied b i j fits = at (ℕ_discrete j i)
  where
    at : Dec (j ≡ i) → crumb_at (put_at b i (crumb_at b j)) j ≡ crumb_at b j
    at (yes e) = ap (crumb_at (put_at b i (crumb_at b j))) e ∙ put_same b i (crumb_at b j) fits
    at (no ne) = put_other b i (crumb_at b j) j ne

-- ---- front part and what is behind
-- the first n crumbs are those of their own numbers
pub crumbs-in_front : (n : ℕ) (b : List Float) → crumbs n (in_front n b) ≡ crumbs n b
unfolding in_front crumb_at
crumbs-in_front n b = crumbs-each n (take (stride * n) b) b at
  where
    at : (i : ℕ) → i < n → crumb_at (take (stride * n) b) i ≡ crumb_at b i
    at i h =
        crumb-path
        (get_or-take (stride * n) b (stride * i) nan (omega arith))
        (get_or-take (stride * n) b (stride * i + 1) nan (omega arith))
        (get_or-take (stride * n) b (stride * i + 2) nan (omega arith))

-- the crumbs depend only on the front part
pub crumbs-same : (n : ℕ) (a b : List Float) → in_front n a ≡ in_front n b → crumbs n a ≡ crumbs n b
crumbs-same n a b e = sym (crumbs-in_front n a) ∙ (ap (crumbs n) e ∙ crumbs-in_front n b)

pub length-in_front : (n : ℕ) (b : List Float) → n ≤ capacity (length b) → capacity (length (in_front n b)) ≡ n
unfolding in_front
length-in_front n b h = omega (arith, length-take (stride * n) b)

-- what is the same behind some crumbs is the same behind more
pub behind_more : (n m : ℕ) (a b : List Float) → n ≤ m → behind n a ≡ behind n b → behind m a ≡ behind m b
unfolding behind
behind_more n m a b h e =
    let k : stride * n + stride * (m - n) ≡ stride * m = omega arith in
    sym (ap (λ i. drop i a) k)
    ∙ (sym (drop-drop (stride * (m - n)) (stride * n) a)
    ∙ (ap (drop (stride * (m - n))) e ∙ (drop-drop (stride * (m - n)) (stride * n) b ∙ ap (λ i. drop i b) k)))

-- and so is each crumb there
number_behind : (n k : ℕ) (a b : List Float) → stride * n ≤ k → behind n a ≡ behind n b → get_or a k nan ≡ get_or b k nan
unfolding behind
number_behind n k a b h e =
    let j : stride * n + (k - stride * n) ≡ k = omega arith in
    sym (get_or-drop (stride * n) a (k - stride * n) nan ∙ ap (λ i. get_or a i nan) j)
    ∙ (ap (λ m. get_or m (k - stride * n) nan) e ∙ (get_or-drop (stride * n) b (k - stride * n) nan ∙ ap (λ i. get_or b i nan) j))

pub crumb-behind : (n i : ℕ) (a b : List Float) → n ≤ i → behind n a ≡ behind n b → crumb_at a i ≡ crumb_at b i
unfolding crumb_at
crumb-behind n i a b h e =
    crumb-path
    (number_behind n (stride * i) a b (omega arith) e)
    (number_behind n (stride * i + 1) a b (omega arith) e)
    (number_behind n (stride * i + 2) a b (omega arith) e)

-- ---- the front part that is returned
pub front-whole : (n : ℕ) (b : List Float) → n ≤ capacity (length b) → Front n b (in_front n b)
front-whole n b h =
    record {
      numbers = λ _. refl;
      held = λ _. ap (λ k. crumbs k (in_front n b)) (length-in_front n b h) ∙ crumbs-in_front n b;
      empty = λ more. absurd (omega arith);
    }

pub front-empty : (n : ℕ) (b : List Float) → capacity (length b) < n → Front n b []
front-empty n b h = record { numbers = λ fits. absurd (omega arith); held = λ fits. absurd (omega arith); empty = λ _. refl }
