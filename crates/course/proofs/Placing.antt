-- The laws of a course placed in a line buffer, point by point from the last. Assumes nothing.
use Prim.Native.Nat.{ℕ, suc, ◌+◌, ◌-◌, ◌≤◌, ◌<◌}
use mathlib.Core.Path.{◌≡◌, refl, sym, ap, ap₂, ◌∙◌}
use mathlib.Core.Bool.{Bool, true, false, cond}
use mathlib.Core.List.{List, [], ◌∷◌, ◌++◌, reverse, append_assoc, append-nil, reverse-append}
use Rattle.std.specs.Prelude.{Some, None, Option}
use native.Mathlib.Omega.{arith}
use borrow.Author.Tests.{lt-leb, le-leb}
use lib.IntN.{ℤ, pos}
use lib.Dec.{leb}
use lib.ListN.{length, get_or, take, length-reverse}
use lib.Seq.{take_all, take-suc}
use lib.Ieee.{Float}
use Rattle.plane.specs.declared.Point.{Point}
use Rattle.crumbs.specs.declared.Crumb.{Crumb}
use Rattle.crumbs.specs.Crumb.{capacity, crumbs, behind}
use Rattle.crumbs.specs.Inner.{put_at}
use Rattle.crumbs.specs.Choice.{last}
use Rattle.crumbs.proofs.Choices.{last_snoc}
use Rattle.crumbs.proofs.Crumbs.{length-crumbs, crumbs-behind, behind-put, length-put}
use Rattle.crumbs.specs.Along.{crumb_of, along_behind, recorded_m}
use Rattle.state.specs.declared.Frame.{Frame}
use Rattle.course.specs.Fix.{framed}
use Rattle.plane.specs.declared.Fix.{Fix}
use Rattle.course.specs.Course.{fixes, no_origin, place_behind, placed, line_of, waits}
use Rattle.course.specs.View.{Places}
use Rattle.course.proofs.Fixes.{length-fixes, get_d-fixes}

-- ---- the line of a course
few-placed : (f : Frame) (xs : List Fix) → length xs < 2 → line_of f xs ≡ []
unfolding line_of
few-placed f xs h = rw (lt-leb 2 (length xs) h)

none-placed : (f : Frame) (xs : List Fix) → 2 ≤ length xs → no_origin f.origin ≡ true → line_of f xs ≡ []
unfolding line_of
none-placed f xs h o = rw (le-leb 2 (length xs) h, o)

all_placed : (f : Frame) (xs : List Fix) → 2 ≤ length xs → no_origin f.origin ≡ false → line_of f xs ≡ placed f xs
unfolding line_of
all_placed f xs h o = rw (le-leb 2 (length xs) h, o)

-- as many crumbs as points, or none
pub length-behind : (f : Frame) (o : Option Crumb) (xs : List Fix) → length (place_behind f o xs) ≡ length xs
unfolding place_behind
length-behind f o [] = refl
length-behind f o (x ∷ xs) = ap suc (length-behind f (Some (crumb_of (framed f x) (along_behind o (framed f x)))) xs)

pub length-placed : (f : Frame) (xs : List Fix) → length (placed f xs) ≡ length xs
unfolding placed
length-placed f xs = length-behind f None (reverse xs) ∙ length-reverse xs

pub length-line : (f : Frame) (xs : List Fix) → length (line_of f xs) ≤ length xs
unfolding line_of
length-line f xs = pick (leb 2 (length xs)) (no_origin f.origin)
  where
    pick : (b o : Bool) → length (cond b (cond o [] (placed f xs)) []) ≤ length xs
    pick true true = omega arith
    pick true false = omega (arith, length-placed f xs)
    pick false o = omega arith

-- ---- the loop
-- What the loop carries on: the crumbs that are placed, and the points that are still to come, are the whole.
pub record Placing (f : Frame) (lats lons : List ℤ) (b₀ b : List Float) (n k : ℕ) : Type 0 where
  pub done : crumbs k b ++ place_behind f (last (crumbs k b)) (reverse (take (n - k) (fixes lats lons))) ≡ placed f (fixes lats lons)
  pub beyond : behind n b ≡ behind n b₀
  pub size : length b ≡ length b₀
  pub count : n ≡ length (fixes lats lons)
  pub fits : n ≤ capacity (length b₀)
  pub in_lats : n ≤ length lats
  pub in_lons : n ≤ length lons
  pub within : k ≤ n

pub placing-start : (f : Frame) (lats lons : List ℤ) (b : List Float) {n : ℕ} → n ≡ length (fixes lats lons)
    → length (fixes lats lons) ≤ capacity (length b) → Placing f lats lons b b n 0
unfolding crumbs placed
placing-start f lats lons b {n} e h =
    let short = length-fixes lats lons in
    record {
      done = ap (λ l. place_behind f None (reverse l)) (take_all (n - 0) (fixes lats lons) (omega arith));
      beyond = refl;
      size = refl;
      count = e;
      fits = omega arith;
      in_lats = omega (arith, short);
      in_lons = omega (arith, short);
      within = omega arith;
    }

-- of the points still to come the last is placed next
last-next : (xs : List Fix) (m : ℕ) (d : Fix) → m < length xs → reverse (take (suc m) xs) ≡ get_or xs m d ∷ reverse (take m xs)
last-next xs m d h = ap reverse (take-suc xs m d h) ∙ reverse-append (take m xs) (get_or xs m d ∷ [])

module _ {f : Frame} {lats lons : List ℤ} {b₀ b : List Float} {n k : ℕ} (g : Placing f lats lons b₀ b n k) where
  module _ (more : k < n) where
    abbrev at : ℕ
    at = n - 1 - k

    abbrev point : Fix
    point = record { lat = get_or lats at (pos 0); lon = get_or lons at (pos 0) }

    abbrev next : Crumb
    next = crumb_of (framed f point) (recorded_m (crumbs k b) (framed f point))

    to-come : reverse (take (n - k) (fixes lats lons)) ≡ point ∷ reverse (take (n - (k + 1)) (fixes lats lons))
    to-come =
        let xs = fixes lats lons in
        let here : n - k ≡ suc (n - 1 - k) = omega arith in
        let there : n - (k + 1) ≡ n - 1 - k = omega arith in
        let below : n - 1 - k < length xs = omega (arith, g.count) in
        rw (here, there)
        (last-next xs at point below
        ∙ ap (λ y. y ∷ reverse (take at xs)) (get_d-fixes lats lons at (pos 0) (pos 0) point below))

    room : k < capacity (length b)
    room = omega (arith, g.size, g.fits)

    placing-next : Placing f lats lons b₀ (put_at b k next) n (k + 1)
    unfolding place_behind recorded_m
    placing-next =
        let l = crumbs k b in
        let rest = reverse (take (n - (k + 1)) (fixes lats lons)) in
        record {
          done =
              ap (λ m. m ++ place_behind f (last m) rest) (crumbs-behind k b next room)
              ∙ (ap (λ o. (l ++ next ∷ []) ++ place_behind f o rest) (last_snoc l next)
              ∙ (append_assoc l (next ∷ []) (place_behind f (Some next) rest)
              ∙ (ap (λ ys. l ++ place_behind f (last l) ys) (sym to-come) ∙ g.done)));
          beyond = behind-put b k next n more ∙ g.beyond;
          size = length-put b k next ∙ g.size;
          count = g.count;
          fits = g.fits;
          in_lats = g.in_lats;
          in_lons = g.in_lons;
          within = omega arith;
        }

    -- the same of the buffer that a put left, with the place and the along that were worked out
    pub placing-on : {exit : List Float} {p : Point} {along : Float}
        → p ≡ framed f (record { lat = get_or lats (n - 1 - k) (pos 0); lon = get_or lons (n - 1 - k) (pos 0) })
        → along ≡ recorded_m (crumbs k b) p → exit ≡ put_at b k (crumb_of p along) → Placing f lats lons b₀ exit n (k + 1)
    placing-on place far e = rw (e ∙ ap₂ (λ q m. put_at b k (crumb_of q m)) place (far ∙ ap (recorded_m (crumbs k b)) place)) placing-next

  pub placing-end : n ≤ k → Places (placed f (fixes lats lons)) b₀ n b
  unfolding place_behind
  placing-end over =
      let none_left : n - k ≡ 0 = omega arith in
      let all : k ≡ n = omega (arith, g.within) in
      let held : crumbs n b ≡ placed f (fixes lats lons) =
      ap (λ i. crumbs i b) (sym all)
      ∙ (sym (append-nil (crumbs k b))
      ∙ (ap (λ i. crumbs k b ++ place_behind f (last (crumbs k b)) (reverse (take i (fixes lats lons)))) (sym none_left) ∙ g.done)) in
      record { count = sym (length-crumbs n b) ∙ ap length held; held = held; beyond = g.beyond; size = g.size }

-- ---- a course placed or not
-- where no line is placed the buffer is as it was
pub unchanged : {l : List Crumb} {entry exit : List Float} {r : ℕ} → l ≡ [] → Places l entry r exit → exit ≡ entry
unfolding behind
unchanged {entry = entry} {exit} {r} e g =
    let nothing : r ≡ 0 = g.count ∙ ap length e in
    sym (ap (λ n. behind n exit) nothing) ∙ (g.beyond ∙ ap (λ n. behind n entry) nothing)

places-none : (b : List Float) → Places [] b 0 b
unfolding crumbs
places-none b = record { count = refl; held = refl; beyond = refl; size = refl }

module _ (f : Frame) (xs : List Fix) where
  pub places-few : (b : List Float) → length xs < 2 → Places (line_of f xs) b 0 b
  places-few b few = rw (few-placed f xs few) (places-none b)

  pub places-unplaced : (b : List Float) → 2 ≤ length xs → no_origin f.origin ≡ true → Places (line_of f xs) b 0 b
  places-unplaced b more o = rw (none-placed f xs more o) (places-none b)

  pub places-all : {b exit : List Float} {r : ℕ} → 2 ≤ length xs → no_origin f.origin ≡ false → Places (placed f xs) b r exit
      → Places (line_of f xs) b r exit
  places-all more o g = rw (all_placed f xs more o) g

  -- ---- a course that waits
  pub waits-few : length xs < 2 → waits f xs ≡ false
  unfolding waits
  waits-few few = rw (lt-leb 2 (length xs) few)

  pub waits-more : 2 ≤ length xs → waits f xs ≡ no_origin f.origin
  unfolding waits
  waits-more more = rw (le-leb 2 (length xs) more)
