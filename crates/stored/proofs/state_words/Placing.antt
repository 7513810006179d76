-- The words of a state, each within its type. Assumes nothing.
use Prim.Native.Nat.{◌≤◌}
use mathlib.Core.Path.{◌≡◌, refl}
use mathlib.Core.Bool.{true}
use native.Mathlib.Omega.{arith}
use lib.ListN.{take, drop}
use Rattle.state.specs.declared.Homing.{Homing}
use Rattle.stored.specs.Fields.{most64, most8, within}
use Rattle.stored.specs.Words.{mark, mosts, words_of}
use Rattle.stored.specs.Parts.{place_mosts, motion_mosts, follow_mosts, course_mosts, lap_mosts, guide_mosts, place_words, motion_words}
use Rattle.stored.specs.Parts.{follow_words, course_words, lap_words, guide_words, guide_in}
use Rattle.stored.proofs.fields.Fitting.{none_left, and_in, and-part, flag-most, some-most}

pub mark-most : mark ≤ mark
mark-most = omega arith

-- the words before the course's
pub front_fits : (h : Homing) → h.trail.len ≤ most64 → h.trail.window_len ≤ most64 → h.trail.retrace ≤ most8
    → h.trail.retrace_len ≤ most64
    → within place_mosts (place_words h.frame.origin) ≡ true → within place_mosts (place_words h.fed) ≡ true → h.here_ms ≤ most64
    → within motion_mosts (motion_words h.motion) ≡ true → within follow_mosts (follow_words h.follow) ≡ true
    → within (take 22 mosts) (take 22 (words_of h)) ≡ true
unfolding mosts words_of
front_fits h a b d e f g k m n =
    (and_in mark-most (and_in a (and_in b (and_in d (and_in e
    (and-part place_mosts (place_words h.frame.origin) refl f
    (and-part place_mosts (place_words h.fed) refl g
    (and_in (some-most h.here) (and_in k
    (and-part motion_mosts (motion_words h.motion) refl m
    (and-part follow_mosts (follow_words h.follow) refl n none_left))))))))))).ok

-- the words from the course's on
pub back_fits : (h : Homing) → within course_mosts (course_words h.course) ≡ true → within lap_mosts (lap_words h.lap) ≡ true
    → h.updated_ms ≤ most64
    → within guide_mosts (guide_words (guide_in h.guide)) ≡ true → within (drop 22 mosts) (drop 22 (words_of h)) ≡ true
unfolding mosts words_of
back_fits h o p q r =
    (and-part course_mosts (course_words h.course) refl o
    (and_in (flag-most h.auto_follow) (and_in (flag-most h.arrived)
    (and-part lap_mosts (lap_words h.lap) refl p
    (and_in q (and_in (some-most h.guide) (record { ok = r }))))))).ok
