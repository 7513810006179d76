-- Words held to the most that each may be. Assumes nothing.
use Prim.Native.Nat.{ℕ, zero, suc, ◌+◌, ◌≤◌, ◌<◌}
use mathlib.Core.Path.{◌≡◌, refl, ap, ◌∙◌}
use mathlib.Core.Bool.{Bool, true, false, ◌&&◌, false≢true, and-false}
use mathlib.Core.List.{List, [], ◌∷◌, ◌++◌}
use borrow.Author.Tests.{leb-true}
use Rattle.std.proofs.lemmas.List.{get_or-take}
use native.Mathlib.Omega.{arith}
use lib.Dec.{leb}
use lib.ListN.{length, get_or, take}
use Rattle.std.specs.List.{list_all, zip}
use Rattle.stored.specs.Fields.{within}

pub within-short : (ms w : List ℕ) → length w < length ms → within ms w ≡ false
unfolding within
within-short [] w h = absurd (omega arith)
within-short (m ∷ ms) [] h = refl
within-short (m ∷ ms) (x ∷ w) h = ap (λ b. leb x m && b) (within-short ms w (omega arith)) ∙ and-false (leb x m)

-- the words that are within have the room
pub within-room : (ms w : List ℕ) → within ms w ≡ true → length ms ≤ length w
unfolding within
within-room [] w h = omega arith
within-room (m ∷ ms) [] h = absurd (false≢true h)
within-room (m ∷ ms) (x ∷ w) h = let t : length ms ≤ length w = within-room ms w (second (leb x m) (within ms w) h) in omega (arith, t)
  where
    second : (a b : Bool) → (a && b) ≡ true → b ≡ true
    second true b h = h
    second false b h = absurd (false≢true h)

-- the words in front are asked, and no others
pub within-front : (ms w : List ℕ) → within ms (take (length ms) w) ≡ within ms w
unfolding within
within-front [] w = refl
within-front (m ∷ ms) [] = refl
within-front (m ∷ ms) (x ∷ w) = ap (λ b. leb x m && b) (within-front ms w)

-- what lies behind does not matter
pub within_more : (ms w ws : List ℕ) → within ms w ≡ true → within ms (w ++ ws) ≡ true
unfolding within
within_more [] w ws h = refl
within_more (m ∷ ms) [] ws h = absurd (false≢true h)
within_more (m ∷ ms) (x ∷ w) ws h = both (leb x m) (within ms w) (within ms (w ++ ws)) h (within_more ms w ws)
  where
    both : (a b d : Bool) → (a && b) ≡ true → (b ≡ true → d ≡ true) → (a && d) ≡ true
    both true b d h f = f h
    both false b d h f = h

-- each word held to its own limit
pub within-all : (ms w : List ℕ) → length ms ≤ length w → list_all (λ (p : ℕ × ℕ). leb p.1 p.0) (zip ms w) ≡ within ms w
unfolding within
within-all [] w h = refl
within-all (m ∷ ms) [] h = absurd (omega arith)
within-all (m ∷ ms) (x ∷ w) h = ap (λ b. leb x m && b) (within-all ms w (omega arith))

-- a word that is within is at most its own limit
pub within-at : (ms w : List ℕ) → within ms w ≡ true → (i : ℕ) → i < length ms → leb (get_or w i 0) (get_or ms i 0) ≡ true
unfolding within
within-at [] w h i l = absurd (omega arith)
within-at (m ∷ ms) [] h i l = absurd (false≢true h)
within-at (m ∷ ms) (x ∷ w) h zero l = both_first (leb x m) (within ms w) h
  where
    both_first : (a b : Bool) → (a && b) ≡ true → a ≡ true
    both_first true b h = refl
    both_first false b h = h
within-at (m ∷ ms) (x ∷ w) h (suc i) l = within-at ms w (both-second (leb x m) (within ms w) h) i (omega arith)
  where
    both-second : (a b : Bool) → (a && b) ≡ true → b ≡ true
    both-second true b h = h
    both-second false b h = absurd (false≢true h)

-- A place in front is read as in the whole. That it is in front is an equation, which `simp` proves of a literal.
pub front_at : {A : Type 0} (k i : ℕ) (l : List A) (d : A) → leb (i + 1) k ≡ true → get_or (take k l) i d ≡ get_or l i d
front_at k i l d h = let m : i + 1 ≤ k = leb-true (i + 1) k h in get_or-take k l i d (omega (arith, m))
