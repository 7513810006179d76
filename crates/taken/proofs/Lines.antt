-- The guide made anew, and its course, within the state's bounds. Assumes nothing.
use Prim.Native.Nat.{ℕ, suc, ◌+◌, ◌≤◌}
use native.Mathlib.Omega.{arith}
use mathlib.Core.Path.{◌≡◌, refl, sym, subst}
use mathlib.Core.Bool.{Bool, false}
use mathlib.Core.List.{List, [], ◌∷◌, reverse, reverse_aux}
use Rattle.std.specs.Prelude.{Some, None}
use lib.Dec.{leb, lit≤}
use lib.ListN.{length, length-reverse}
use Rattle.binary32.specs.Arithmetic.{constant}
use Rattle.binary32.specs.Limits.{plus_zero}
use Rattle.binary32.proofs.magnitude.Size.{Within, frac}
use Rattle.plane.specs.Fix.{m_per_e7}
use Rattle.crumbs.specs.declared.Crumb.{Crumb}
use Rattle.crumbs.specs.Along.{along_behind}
use Rattle.state.specs.declared.Line.{Line}
use Rattle.state.specs.declared.Line.TheVariants as line
use Rattle.state.specs.declared.Frame.{Frame}
use Rattle.state.specs.declared.Course.{Course}
use Rattle.state.specs.State.{State, with_course}
use Rattle.follow.specs.Parts.{stopped}
use Rattle.follow.specs.Engage.{stop_course}
use Rattle.course.specs.Fix.{framed}
use Rattle.plane.specs.declared.Fix.{Fix}
use Rattle.course.specs.Course.{place_behind, placed, no_origin, line_of}
use Rattle.course.proofs.Placing.{length-behind}
use Rattle.calls.specs.Fix.{unheaded}
use Rattle.calls.specs.Line.{no_lap, new, lined, awaiting, reset, off_course, set_course}
use Rattle.taken.specs.Taken.{FixesOnGlobe}
use Rattle.taken.proofs.Tests.{one_of}
use Rattle.taken.proofs.Bounds.{Along, far, along-start, along-far}
use Rattle.taken.proofs.Laid.{most, CrumbAt, Laid, next, start}
use Rattle.taken.proofs.Recording.{fresh-recorded, fresh-counted, reset-recorded, reset-counted}
use Rattle.taken.proofs.Moving.{Framed, framed-place, unheaded-moving}
use Rattle.taken.proofs.State.{nothing-shown, Lined, SegmentOn, Followed, Coursed, Kept}
use Rattle.taken.proofs.Following.{stop-course-kept}

-- ---- the course placed
globe-aux : (xs ys : List Fix) → FixesOnGlobe xs → FixesOnGlobe ys → FixesOnGlobe (reverse_aux xs ys)
globe-aux [] ys h k = k
globe-aux (x ∷ xs) ys h k = globe-aux xs (x ∷ ys) h.1 (h.0, k)

globe-reverse : (xs : List Fix) → FixesOnGlobe xs → FixesOnGlobe (reverse xs)
globe-reverse xs h = globe-aux xs [] h tt

laid-behind : (i : ℕ) (a : Crumb) (f : Frame) (xs : List Fix) → i + length xs ≤ most → CrumbAt i a → Framed f → FixesOnGlobe xs
    → Laid (suc i) (place_behind f (Some a) xs)
unfolding place_behind along_behind
laid-behind i a f [] few A h g = tt
laid-behind i a f (x ∷ xs) few A h g =
    let c = next i a (framed f x) (omega arith) A (framed-place f x h g.0) in
    (c, laid-behind (suc i) _ f xs (omega arith) c h g.1)

laid_none : (f : Frame) (xs : List Fix) → length xs ≤ most → Framed f → FixesOnGlobe xs → Laid 0 (place_behind f None xs)
unfolding place_behind
laid_none f [] few h g = tt
laid_none f (x ∷ xs) few h g =
    let c = start (framed f x) (framed-place f x h g.0) in
    (c, laid-behind 0 _ f xs (omega arith) c h g.1)

-- a line of at most n crumbs
record Short (n : ℕ) (l : List Crumb) : Type 0 where
  laid : Laid 0 l
  few : length l ≤ n

empty : (n : ℕ) → Short n []
empty n = record { laid = tt; few = omega arith }

placed-short : (f : Frame) (xs : List Fix) → length xs ≤ most → Framed f → FixesOnGlobe xs → Short (length xs) (placed f xs)
unfolding placed
placed-short f xs few h g =
    record {
      laid = laid_none f (reverse xs) (rw length-reverse few) h (globe-reverse xs g);
      few = rw (length-behind, length-reverse) (omega arith);
    }

line-short : (f : Frame) (xs : List Fix) → length xs ≤ most → Framed f → FixesOnGlobe xs → Short (length xs) (line_of f xs)
unfolding line_of
line-short f xs few h g =
    one_of (Short (length xs)) (leb 2 (length xs))
    (λ t. one_of (Short (length xs)) (no_origin f.origin) (λ u. empty _) (λ u. placed-short f xs few h g)) (λ t. empty _)

pub line-few : (f : Frame) (xs : List Fix) → length xs ≤ most → Framed f → FixesOnGlobe xs → length (line_of f xs) ≤ length xs
line-few f xs few h g = (line-short f xs few h g).few

pub line-lined : (f : Frame) (xs : List Fix) → length xs ≤ most → Framed f → FixesOnGlobe xs → Lined (line_of f xs)
line-lined f xs few h g = let s = line-short f xs few h g in record { laid = s.laid; few = omega (arith, s.few) }

-- ---- made anew
zero-along : Along far plus_zero
zero-along = along-far 0 plus_zero (omega arith) along-start

pub factor-start : Within (frac 5) m_per_e7
unfolding m_per_e7 constant
factor-start = lit≤ tt

pub new-kept : (C : ℕ) → Kept C 0 new
unfolding new no_lap
new-kept C =
    record {
      track = fresh-recorded C;
      counted = fresh-counted;
      frame = record { origin = tt; factor = factor-start };
      here = tt;
      motion = unheaded-moving 0;
      follow = record { segment = tt; matched = tt };
      course = record { len = refl; along = zero-along; reached = zero-along; fix = tt };
      lap = tt;
      guide = nothing-shown;
    }

lined-coursed : (n points : ℕ) (unplaced held : Bool) (c : Course) → Coursed points c → Coursed n (lined n unplaced held c)
unfolding lined
lined-coursed n points unplaced held c h = record { len = refl; along = h.along; reached = h.reached; fix = h.fix }

awaiting-coursed : (points : ℕ) (c : Course) → Coursed points c → Coursed 0 (awaiting c)
unfolding awaiting
awaiting-coursed points c h = lined-coursed 0 points _ false c h

pub reset-kept : (C points : ℕ) (s : State) → Kept C points s → Kept C 0 (reset s).state
unfolding reset no_lap unheaded
reset-kept C points s k =
    record {
      track = reset-recorded C s.track;
      counted = reset-counted s.track;
      frame = record { origin = tt; factor = k.frame.factor };
      here = tt;
      motion = unheaded-moving s.motion.heading_ms;
      follow = record { segment = tt; matched = tt };
      course = awaiting-coursed points s.course k.course;
      lap = tt;
      guide = nothing-shown;
    }

-- ---- another course
module _ (C : ℕ) (least : 3 ≤ C) (room : C ≤ most) (points : ℕ) where
  off-kept : (on : Line) (s : State) → Kept C points s → Kept C points (off_course on s)
  unfolding off_course
  off-kept line.Course s k = stop-course-kept C least room points s k
  off-kept line.Nothing s k = k
  off-kept line.Breadcrumb s k = k

  -- what is followed then is no course
  off-followed : (on : Line) (n : ℕ) (s : State) → s.follow.line ≡ on → Kept C points s
      → Followed (length (off_course on s).track.crumbs) n (off_course on s).follow
  unfolding off_course stop_course stopped
  off-followed line.Course n s e k = record { segment = tt; matched = tt }
  off-followed line.Nothing n s e k =
      record {
        segment = subst (λ l. SegmentOn l s.follow.segment (length s.track.crumbs) n) (sym e) tt;
        matched =
            k.follow.matched;
      }
  off-followed line.Breadcrumb n s e k =
      let h = subst (λ l. SegmentOn l s.follow.segment (length s.track.crumbs) points) e k.follow.segment in
      record {
        segment = subst (λ l. SegmentOn l s.follow.segment (length s.track.crumbs) n) (sym e) h;
        matched =
            k.follow.matched;
      }

  relined : (n : ℕ) (t : State) (c : Course) → Kept C points t → Followed (length t.track.crumbs) n t.follow → Coursed n c
      → Kept C n (with_course c t)
  relined n t c k f h = record {
    track = k.track;
    counted = k.counted;
    frame = k.frame;
    here = k.here;
    motion = k.motion;
    follow =
        f;
    course = h;
    lap = k.lap;
    guide = k.guide;
  }

  pub set-course-kept : (xs : List Fix) (s : State) → Kept C points s → Kept C (length (line_of s.frame xs)) (set_course xs s).state
  unfolding set_course
  set-course-kept xs s k =
      let t = off-kept s.follow.line s k in
      relined _ _ _ t (off-followed s.follow.line _ s refl k) (lined-coursed _ points _ _ _ t.course)
