-- What was stored is read back, field by field. Assumes nothing.
use Prim.Native.Nat.{ℕ, ◌+◌, ◌<◌}
use mathlib.Core.Path.{◌≡◌, refl, ap, ◌∙◌}
use mathlib.Core.Bool.{true, ◌&&◌}
use mathlib.Core.List.{List, [], ◌++◌}
use native.Mathlib.Omega.{arith}
use borrow.Author.Tests.{le-leb}
use lib.Dec.{leb, eqb}
use lib.ListN.{length, get_or, take, drop, length-append}
use lib.Seq.{take_at}
use lib.Ieee.{Float}
use Rattle.std.specs.Prelude.{Some}
use Rattle.std.specs.Bool.{then_some}
use Rattle.std.specs.Option.{unwrap_or}
use Rattle.binary32.specs.Limits.{plus_zero}
use Rattle.plane.specs.declared.Point.{Point}
use Rattle.state.specs.declared.Guide.{Guide}
use Rattle.state.specs.declared.Homing.{Homing}
use Rattle.stored.specs.Fields.{most32, most16, most8, within, word_at, flag_at, signed_at, spot_at, heading_at, place_read, some_flag}
use Rattle.stored.specs.Stored.{mark, mosts, homing_at, holds, stored, words_of, head_of, numbers_of, StateFits, ReadBack}
use Rattle.stored.specs.Parts.{number_count, trail_at, frame_at, motion_at, follow_at, course_at, lap_at, guide_read, shown_at, guide_in}
use Rattle.stored.specs.Parts.{guide_words}
use Rattle.stored.proofs.fields.Limits.{within_more}
pub use Rattle.stored.proofs.fields.Limits.{within-at}
use Rattle.stored.proofs.fields.Same.{narrow-same, flag_same, line_same, stage-same, mode-same, some-same, heading-back}
use Rattle.stored.proofs.parts.Parts.{place-back}

-- ---- the parts
-- what is written where there is no place
abbrev nowhere : Point
nowhere = record { east = plus_zero; north = plus_zero }

-- a guide's words, whatever lies behind
pub guide-same : (g : Guide) (ws : List ℕ) → leb g.direct_m most32 ≡ true → leb g.track_m most32 ≡ true
    → leb g.off_m most32 ≡ true → leb g.bearing most16 ≡ true → leb (unwrap_or g.heading 0) most16 ≡ true
    → guide_read (guide_words g ++ ws) 0 ≡ g
unfolding guide_read heading_at
guide-same g ws direct track off bearing way = λ i. record {
  mode = mode-same g.mode i;
  following = flag_same g.following i;
  course = flag_same g.course i;
  course_near = flag_same g.course_near i;
  direct_m = narrow-same most32 g.direct_m direct i;
  track_m = narrow-same most32 g.track_m track i;
  off_m = narrow-same most32 g.off_m off i;
  bearing = narrow-same most16 g.bearing bearing i;
  heading = heading-back g.heading way i;
}

module _ (h : Homing) (fits : StateFits h) (ws : List ℕ) (ns : List Float) where
  abbrev W : List ℕ
  W = words_of h ++ ws

  abbrev N : List Float
  N = numbers_of h ++ ns

  at : (i : ℕ) → i < 45 → leb (get_or (words_of h) i 0) (get_or mosts i 0) ≡ true
  unfolding mosts
  at i l = within-at mosts (words_of h) fits.words i l

  window-back : take 96 (drop 14 N) ≡ h.window
  unfolding numbers_of head_of
  window-back = take_at h.window ns 96 fits.window

  trail-back : trail_at W N ≡ h.trail
  unfolding trail_at words_of numbers_of head_of mosts
  trail-back = λ i. record {
    len = h.trail.len;
    tolerance = h.trail.tolerance;
    window_len = h.trail.window_len;
    retrace = narrow-same most8 h.trail.retrace (at 3 (omega arith)) i;
    retrace_len = h.trail.retrace_len;
  }

  frame_back : frame_at W N ≡ h.frame
  unfolding frame_at place_read signed_at words_of numbers_of head_of mosts
  frame_back = λ i. record {
    origin = place-back h.frame.origin fits.origin (at 6 (omega arith)) (at 7 (omega arith)) i;
    east_per_e7 = h.frame.east_per_e7;
  }

  fed-back : place_read W 8 ≡ h.fed
  unfolding place_read signed_at words_of mosts
  fed-back = place-back h.fed fits.fed (at 9 (omega arith)) (at 10 (omega arith))

  here_back : spot_at W 11 N 2 ≡ h.here
  unfolding spot_at words_of numbers_of head_of
  here_back = some-same h.here nowhere

  motion-back : motion_at W N ≡ h.motion
  unfolding motion_at spot_at heading_at words_of numbers_of head_of mosts
  motion-back = λ i. record {
    from = some-same h.motion.from nowhere i;
    heading = heading-back h.motion.heading (at 15 (omega arith)) i;
    heading_ms = h.motion.heading_ms;
  }

  follow-back : follow_at W N ≡ h.follow
  unfolding follow_at spot_at words_of numbers_of head_of
  follow-back = λ i. record {
    line = line_same h.follow.line i;
    segment = h.follow.segment;
    matched = some-same h.follow.matched nowhere i;
    off = flag_same h.follow.off i;
    reminded_ms = h.follow.reminded_ms;
  }

  course-back : course_at W N ≡ h.course
  unfolding course_at spot_at words_of numbers_of head_of mosts
  course-back = λ i. record {
    line_len = h.course.line_len;
    unplaced = flag_same h.course.unplaced i;
    held = flag_same h.course.held i;
    join_fixes = narrow-same most8 h.course.join_fixes (at 25 (omega arith)) i;
    join_end = h.course.join_end;
    along = h.course.along;
    reached = h.course.reached;
    fix = some-same h.course.fix nowhere i;
  }

  lap-back : lap_at W N ≡ h.lap
  unfolding lap_at spot_at words_of numbers_of head_of
  lap-back = λ i. record {
    pass = record { stage = stage-same h.lap.pass.stage i };
    start = some-same h.lap.start nowhere i;
    passed = flag_same h.lap.passed i;
  }

  guide-back : guide_read W 35 ≡ guide_in h.guide
  unfolding guide_read heading_at words_of mosts
  guide-back =
      guide-same (guide_in h.guide) ws (at 39 (omega arith)) (at 40 (omega arith)) (at 41 (omega arith)) (at 42 (omega arith))
      (at 44 (omega arith))

  shown-back : shown_at W ≡ h.guide
  unfolding shown_at words_of
  shown-back = ap (then_some (eqb (some_flag h.guide) 1)) guide-back ∙ some-same h.guide (guide_read [] 0)

  flags-back : (flag_at W 28 ≡ h.auto_follow) × (flag_at W 29 ≡ h.arrived)
  unfolding words_of
  flags-back = (flag_same h.auto_follow, flag_same h.arrived)

  times-back : (word_at W 12 ≡ h.here_ms) × (word_at W 33 ≡ h.updated_ms)
  unfolding words_of
  times-back = (refl, refl)

  homing-back : homing_at W N ≡ h
  unfolding homing_at
  homing-back = λ i. record {
    trail = trail-back i;
    window = window-back i;
    frame = frame_back i;
    fed = fed-back i;
    here = here_back i;
    here_ms = times-back.0 i;
    motion = motion-back i;
    follow = follow-back i;
    course = course-back i;
    auto_follow = flags-back.0 i;
    arrived = flags-back.1 i;
    lap = lap-back i;
    updated_ms = times-back.1 i;
    guide = shown-back i;
  }

  marked : eqb (word_at W 0) mark ≡ true
  unfolding words_of
  marked = refl

  long : length N ≡ 110 + length ns
  unfolding numbers_of head_of
  long = length-append (numbers_of h) ns ∙ ap (λ k. k + length ns) (length-append (head_of h) h.window ∙ ap (λ k. 14 + k) fits.window)

  enough : leb number_count (length N) ≡ true
  enough = le-leb number_count (length N) (omega (arith, long))

  holds-it : holds W N ≡ true
  unfolding holds
  holds-it =
      ap (λ b. b && (within mosts W && leb number_count (length N))) marked
      ∙ ap (λ b. b && leb number_count (length N)) (within_more mosts (words_of h) ws fits.words) ∙ enough

pub read_back : ReadBack
unfolding stored
read_back h fits ws ns =
    ap (λ b. then_some b (homing_at (words_of h ++ ws) (numbers_of h ++ ns))) (holds-it h fits ws ns)
    ∙ ap Some (homing-back h fits ws ns)
