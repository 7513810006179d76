-- The questions say yes of a state that is kept, of its line, and of places on the globe. Assumes nothing.
use Prim.Native.Nat.{ℕ, ◌≤◌}
use native.Mathlib.Omega.{arith}
use mathlib.Core.Path.{◌≡◌, refl}
use mathlib.Core.Bool.{true, ◌&&◌, and-eq-true_iff}
use mathlib.Core.List.{List, [], ◌∷◌}
use borrow.Author.Tests.{lt-ltb, le-leb, leb-true}
use lib.Dec.{leb}
use lib.ListN.{length}
use Rattle.crumbs.specs.Crumb.{whole, capacity}
use Rattle.trail.specs.Trail.{window_places}
use Rattle.std.specs.Prelude.{Option, Some, None}
use Rattle.plane.specs.declared.Fix.{Fix}
use Rattle.state.specs.declared.Line.{Line}
use Rattle.state.specs.declared.Line.TheVariants as line
use Rattle.state.specs.State.{State}
use Rattle.calls.specs.Questions.{question1, segment_fits, follow_fits, counts_fit, spots_fit, numbers_fit, state_fits, held_fits}
use Rattle.calls.specs.Questions.{latitude_fits}
use Rattle.calls.specs.Questions.{longitude_fits, asks_fix, ◌or_else◌, asks_fixes}
use Rattle.calls.specs.Calls.{point_of, asks_place}
use Rattle.taken.specs.Taken.{FixOnGlobe, FixesOnGlobe}
use Rattle.std.specs.Cmp.Derive.{both_true}
use Rattle.taken.proofs.Bounds.{along-fits, factor-fits}
use Rattle.taken.proofs.Laid.{most, laid-fits}
use Rattle.taken.proofs.Recording.{places-fit, retrace-fits}
use Rattle.taken.proofs.Moving.{spot-fits}
use Rattle.taken.proofs.State.{SegmentOn, Kept}

-- ---- question 1
pub record Room (C : ℕ) : Type 0 where
  pub least : 3 ≤ C
  pub most-room : C ≤ most

pub room_of : (size : ℕ) → question1 size ≡ true → Room (capacity size)
unfolding question1
room_of size e =
    let ab = ((and-eq-true_iff (whole size && leb 8 (capacity size)) (leb (capacity size) 4096)).0 e).0 in
    let l : 8 ≤ capacity size = leb-true 8 (capacity size) ((and-eq-true_iff (whole size) (leb 8 (capacity size))).0 ab).1 in
    let most = ((and-eq-true_iff (whole size && leb 8 (capacity size)) (leb (capacity size) 4096)).0 e).1 in
    let m : capacity size ≤ 4096 = leb-true (capacity size) 4096 most in
    record { least = omega arith; most-room = m }

-- ---- question 10
segment-fits : (on : Line) (segment len n : ℕ) → SegmentOn on segment len n → follow_fits on segment len n ≡ true
unfolding follow_fits segment_fits
segment-fits line.Nothing segment len n h = refl
segment-fits line.Breadcrumb segment len n h = both_true (le-leb 1 segment h.0) (lt-ltb segment len h.1)
segment-fits line.Course segment len n h = both_true (le-leb 1 segment h.0) (lt-ltb segment n h.1)

module _ {C n : ℕ} (s : State) (k : Kept C n s) where
  counts-fit : counts_fit s ≡ true
  unfolding counts_fit
  counts-fit =
      both_true
      (both_true (le-leb (length s.track.window) window_places k.track.sound.waiting)
      (rw k.course.len (segment-fits s.follow.line s.follow.segment (length s.track.crumbs) n k.follow.segment)))
      (retrace-fits s.track k.counted)

  spots-fit : spots_fit s ≡ true
  unfolding spots_fit
  spots-fit =
      both_true
      (both_true
      (both_true (both_true (spot-fits s.here k.here) (spot-fits s.motion.from k.motion.from))
      (spot-fits s.follow.matched k.follow.matched))
      (spot-fits s.course.fix k.course.fix)) (spot-fits s.lap.start k.lap)

  numbers_fit_lem : numbers_fit s ≡ true
  unfolding numbers_fit
  numbers_fit_lem =
      both_true
      (both_true
      (both_true
      (both_true
      (both_true
      (both_true (both_true (places-fit s.track.window k.track.waiting) spots-fit) (along-fits s.course.along k.course.along))
      (along-fits s.course.reached k.course.reached)) k.motion.heading) k.guide)
      (factor-fits s.frame.east_per_e7 k.frame.factor))
      k.track.sound.tolerance

  pub state-fits : state_fits s ≡ true
  unfolding state_fits
  state-fits = both_true counts-fit numbers_fit_lem

  pub held_fits_lem : C ≤ most → held_fits C s ≡ true
  unfolding held_fits
  held_fits_lem room = both_true (le-leb (length s.track.crumbs) C k.track.sound.held)
      (laid-fits 0 s.track.crumbs (omega (arith, k.track.sound.held)) k.track.crumbs)

-- ---- questions 2 and 3
pub fix-asked : (x : Fix) → FixOnGlobe x → asks_fix x ≡ 0
unfolding asks_fix latitude_fits longitude_fits
fix-asked x g = rw (le-leb _ 900000000 g.latitude, le-leb _ 1800000000 g.longitude)

-- neither of two questions says no
pub or_else_none : (a b : ℕ) → a ≡ 0 → b ≡ 0 → (a or_else b) ≡ 0
or_else_none a b e f = rw (e, f)

pub fixes-asked : (xs : List Fix) → FixesOnGlobe xs → asks_fixes xs ≡ 0
unfolding asks_fixes
fixes-asked [] g = refl
fixes-asked (x ∷ xs) g = or_else_none (asks_fix x) (asks_fixes xs) (fix-asked x g.0) (fixes-asked xs g.1)

pub place-asked : (x : Option Fix) → FixesOnGlobe (point_of x) → asks_place x ≡ 0
unfolding asks_place
place-asked (Some x) g = fix-asked x g.0
place-asked None g = refl
