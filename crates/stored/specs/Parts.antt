-- The parts of a guide's state: how each is read, and the words that it is written as. Where a part stands among the words and the
-- numbers is in the table of crates/stored/specs/Stored.antt.
use Rattle.std.specs.Prelude.{ℕ, ◌+◌, List, [], ◌∷◌, ◌++◌, Float, Option}
use Rattle.std.specs.Bool.{then_some}
use Rattle.std.specs.Int.{w32, cast_unsigned}
use Rattle.std.specs.Option.{unwrap_or}
use Rattle.std.proofs.Common.{SFits}
use Rattle.plane.specs.declared.Fix.{Fix}
use Rattle.motion.specs.declared.Motion.{Motion}
use Rattle.lap.specs.declared.Lap.{Lap}
use Rattle.trail.specs.declared.Trail.{Trail}
use Rattle.state.specs.declared.Frame.{Frame}
use Rattle.state.specs.declared.Follow.{Follow}
use Rattle.state.specs.declared.Course.{Course}
use Rattle.state.specs.declared.Guide.{Guide}
use Rattle.state.specs.State.{course_with}
use Rattle.stored.specs.Fields.{most64, most32, most16, most8, word_at, number_at, narrow_at, flag_at, spot_at, heading_at, place_read}
use Rattle.stored.specs.Fields.{line_of_tag, stage_of_tag, mode_of_tag, flag_of, some_flag, fix_in, line_tag, stage_tag, mode_tag}

abbrev pub word_count : ℕ
word_count = 45

abbrev pub number_count : ℕ
number_count = 110

-- how many words a guide takes
abbrev pub guide_size : ℕ
guide_size = 10

-- the number at which the window begins
abbrev pub window_at : ℕ
window_at = 14

-- the most that each word may be, by its field's type
abbrev pub place_mosts : List ℕ
place_mosts = 1 ∷ most32 ∷ most32 ∷ []

abbrev pub heading_mosts : List ℕ
heading_mosts = 1 ∷ most16 ∷ []

abbrev pub motion_mosts : List ℕ
motion_mosts = 1 ∷ heading_mosts ++ most64 ∷ []

abbrev pub follow_mosts : List ℕ
follow_mosts = 2 ∷ most64 ∷ 1 ∷ 1 ∷ most64 ∷ []

abbrev pub course_mosts : List ℕ
course_mosts = most64 ∷ 1 ∷ 1 ∷ most8 ∷ most64 ∷ 1 ∷ []

abbrev pub lap_mosts : List ℕ
lap_mosts = 2 ∷ 1 ∷ 1 ∷ []

abbrev pub guide_mosts : List ℕ
guide_mosts = 3 ∷ 1 ∷ 1 ∷ 1 ∷ most32 ∷ most32 ∷ most32 ∷ most16 ∷ heading_mosts

-- ---- read
unfoldable pub trail_at : List ℕ → List Float → Trail
trail_at w n =
    record {
      len = word_at w 1;
      tolerance = number_at n 0;
      window_len = word_at w 2;
      retrace = narrow_at most8 w 3;
      retrace_len = word_at w 4;
    }

unfoldable pub frame_at : List ℕ → List Float → Frame
frame_at w n = record { origin = place_read w 5; east_per_e7 = number_at n 1 }

unfoldable pub motion_at : List ℕ → List Float → Motion
motion_at w n = record { from = spot_at w 13 n 4; heading = heading_at w 14; heading_ms = word_at w 16 }

unfoldable pub follow_at : List ℕ → List Float → Follow
follow_at w n =
    record {
      line = line_of_tag (word_at w 17);
      segment = word_at w 18;
      matched = spot_at w 19 n 6;
      off = flag_at w 20;
      reminded_ms = word_at w 21;
    }

unfoldable pub course_at : List ℕ → List Float → Course
course_at w n =
    course_with (word_at w 22) (flag_at w 23) (flag_at w 24) (narrow_at most8 w 25) (word_at w 26) (number_at n 8) (number_at n 9)
    (spot_at w 27 n 10)

unfoldable pub lap_at : List ℕ → List Float → Lap
lap_at w n = record { pass = record { stage = stage_of_tag (word_at w 30) }; start = spot_at w 31 n 12; passed = flag_at w 32 }

-- a guide whose words begin at word i
unfoldable pub guide_read : List ℕ → ℕ → Guide
guide_read w i =
    record {
      mode = mode_of_tag (word_at w i);
      following = flag_at w (i + 1);
      course = flag_at w (i + 2);
      course_near = flag_at w (i + 3);
      direct_m = narrow_at most32 w (i + 4);
      track_m = narrow_at most32 w (i + 5);
      off_m = narrow_at most32 w (i + 6);
      bearing = narrow_at most16 w (i + 7);
      heading = heading_at w (i + 8);
    }

unfoldable pub shown_at : List ℕ → Option Guide
shown_at w = then_some (flag_at w 34) (guide_read w 35)

-- ---- written
-- where no guide is shown, one whose words are 0
abbrev pub guide_in : Option Guide → Guide
guide_in s = unwrap_or s (guide_read [] 0)

-- the words of each part
abbrev pub place_words : Option Fix → List ℕ
place_words p = some_flag p ∷ cast_unsigned w32 (fix_in p).lat ∷ cast_unsigned w32 (fix_in p).lon ∷ []

abbrev pub heading_words : Option ℕ → List ℕ
heading_words h = some_flag h ∷ unwrap_or h 0 ∷ []

abbrev pub motion_words : Motion → List ℕ
motion_words m = some_flag m.from ∷ heading_words m.heading ++ m.heading_ms ∷ []

abbrev pub follow_words : Follow → List ℕ
follow_words f = line_tag f.line ∷ f.segment ∷ some_flag f.matched ∷ flag_of f.off ∷ f.reminded_ms ∷ []

abbrev pub course_words : Course → List ℕ
course_words c = c.line_len ∷ flag_of c.unplaced ∷ flag_of c.held ∷ c.join_fixes ∷ c.join_end ∷ some_flag c.fix ∷ []

abbrev pub lap_words : Lap → List ℕ
lap_words l = stage_tag l.pass.stage ∷ some_flag l.start ∷ flag_of l.passed ∷ []

abbrev pub guide_words : Guide → List ℕ
guide_words g =
    mode_tag g.mode ∷ flag_of g.following ∷ flag_of g.course ∷ flag_of g.course_near
    ∷ g.direct_m ∷ g.track_m ∷ g.off_m ∷ g.bearing ∷ heading_words g.heading

-- ---- what is promised
-- a place's latitude and longitude are each an i32
pub record PlaceFits (p : Option Fix) : Type 0 where
  pub lat : SFits w32 (fix_in p).lat
  pub lon : SFits w32 (fix_in p).lon
