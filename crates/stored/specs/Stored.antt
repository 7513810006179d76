-- Which guide's state two slices hold, a slice of words and a slice of numbers.
--
-- | words | field | | words | field |
-- |--:|---|---|--:|---|
-- | 0 | the mark | | 22 | course: line_len |
-- | 1 to 4 | trail: len, window_len, retrace, retrace_len | | 23, 24 | course: unplaced, held |
-- | 5 to 7 | frame: origin | | 25, 26 | course: join_fixes, join_end |
-- | 8 to 10 | fed | | 27 | course: fix |
-- | 11, 12 | here, here_ms | | 28, 29 | auto_follow, arrived |
-- | 13 to 16 | motion: from, heading (two), heading_ms | | 30 to 32 | lap: pass, start, passed |
-- | 17 to 19 | follow: line, segment, matched | | 33 | updated_ms |
-- | 20, 21 | follow: off, reminded_ms | | 34 to 44 | guide: whether there is one, and its fields in their order |
--
-- | numbers | field |
-- |--:|---|
-- | 0, 1 | trail: tolerance; frame: east_per_e7 |
-- | 2 to 7 | the points of here, motion's from, follow's matched |
-- | 8, 9 | course: along, reached |
-- | 10 to 13 | the points of course's fix, lap's start |
-- | 14 to 109 | trail: window |
use Rattle.std.specs.Prelude.{ℕ, ◌≤◌, ◌≡◌, Bool, true, ◌&&◌, List, [], ◌∷◌, ◌++◌, leb, eqb, length, take, drop, Float, Option, Some}
use Rattle.std.specs.Bool.{then_some}
use Rattle.state.specs.declared.Homing.{Homing}
use Rattle.stored.specs.Fields.{within, word_at, flag_at, spot_at, place_read, point_in}
unfoldable pub use Rattle.stored.specs.Parts.{trail_at, frame_at, motion_at, follow_at, course_at, lap_at, guide_read, shown_at}
pub use Rattle.stored.specs.Parts.{word_count, number_count, window_at, place_mosts, heading_mosts, motion_mosts, follow_mosts}
pub use Rattle.stored.specs.Parts.{course_mosts, lap_mosts, guide_mosts, guide_in, place_words, heading_words}
pub use Rattle.stored.specs.Parts.{motion_words, follow_words, course_words, lap_words, guide_words, PlaceFits}
unfoldable pub use Rattle.stored.specs.Words.{mosts, words_of}
pub use Rattle.stored.specs.Words.{mark}

-- ---- read
unfoldable pub homing_at : List ℕ → List Float → Homing
homing_at w n =
    record {
      trail = trail_at w n;
      window = take 96 (drop window_at n);
      frame = frame_at w n;
      fed = place_read w 8;
      here = spot_at w 11 n 2;
      here_ms = word_at w 12;
      motion = motion_at w n;
      follow = follow_at w n;
      course = course_at w n;
      auto_follow = flag_at w 28;
      arrived = flag_at w 29;
      lap = lap_at w n;
      updated_ms = word_at w 33;
      guide = shown_at w;
    }

-- whether there is room for a state
abbrev pub room_for : List ℕ → List Float → Bool
room_for w n = leb word_count (length w) && leb number_count (length n)

-- whether two slices hold a state: the mark, each field within its type, and the numbers
unfoldable pub holds : List ℕ → List Float → Bool
holds w n = eqb (word_at w 0) mark && (within mosts w && leb number_count (length n))

unfoldable pub stored : List ℕ → List Float → Option Homing
stored w n = then_some (holds w n) (homing_at w n)

-- ---- written
-- the numbers before the window
unfoldable pub head_of : Homing → List Float
head_of h =
    h.trail.tolerance ∷ h.frame.east_per_e7
    ∷ (point_in h.here).east ∷ (point_in h.here).north
    ∷ (point_in h.motion.from).east ∷ (point_in h.motion.from).north
    ∷ (point_in h.follow.matched).east ∷ (point_in h.follow.matched).north
    ∷ h.course.along ∷ h.course.reached
    ∷ (point_in h.course.fix).east ∷ (point_in h.course.fix).north
    ∷ (point_in h.lap.start).east ∷ (point_in h.lap.start).north
    ∷ []

unfoldable pub numbers_of : Homing → List Float
numbers_of h = head_of h ++ h.window

-- ---- what is promised
-- each field of a state fits its type, and the window has its 96 numbers
pub record StateFits (h : Homing) : Type 0 where
  pub words : within mosts (words_of h) ≡ true
  pub origin : PlaceFits h.frame.origin
  pub fed : PlaceFits h.fed
  pub window : length h.window ≡ 96

-- Reading back what was stored gives the same state, every field, whatever lies behind.
abbrev pub ReadBack : Type 0
ReadBack = (h : Homing) → StateFits h → (ws : List ℕ) (ns : List Float) → stored (words_of h ++ ws) (numbers_of h ++ ns) ≡ Some h

-- Slices that hold a state have the room for one.
abbrev pub HasRoom : Type 0
HasRoom = (w : List ℕ) (n : List Float) (h : Homing) → stored w n ≡ Some h → (word_count ≤ length w) × (number_count ≤ length n)

-- A state h is stored: its words and its numbers stand in front, and what lies behind them is as it was. Each field fits its type, on which
-- reading back rests.
pub record Stores (h : Homing) (w : List ℕ) (n : List Float) (w' : List ℕ) (n' : List Float) : Type 0 where
  pub words : w' ≡ words_of h ++ drop word_count w
  pub numbers : n' ≡ numbers_of h ++ drop number_count n
  pub fits : StateFits h

-- Slices in which a state is stored hold that state, every field.
abbrev pub HoldsStored : Type 0
HoldsStored = (h : Homing) (w : List ℕ) (n : List Float) (w' : List ℕ) (n' : List Float) → Stores h w n w' n' → stored w' n' ≡ Some h
