-- What an export promises that only answers: it answers what the call answers about the state it reads.
use Rattle.std.specs.Prelude.{ℕ, ◌≡◌, ◌≢◌, Bool, cond, List, ◌++◌, leb, length, drop, Float, Option, Some, None, Result, Ok, Err, IfOk}
use Rattle.std.specs.Borrow.{Bor}
use Rattle.refusal.specs.declared.Refusal.{Refusal}
use Rattle.refusal.specs.Refusal.{asked}
use Rattle.state.specs.declared.Guide.{Guide}
use Rattle.plane.specs.declared.Point.{Point}
use Rattle.crumbs.specs.Crumb.{capacity, in_front}
use Rattle.state.specs.declared.Homing.{Homing}
use Rattle.state.specs.declared.Ahead.{Ahead}
use Rattle.state.specs.declared.Back.{Back}
use Rattle.stored.specs.Fields.{flag_of}
use Rattle.stored.specs.Parts.{guide_words}
use Rattle.door.specs.Through.{values_of}
use Rattle.door.specs.GuideWords.{guide_size}

-- ---- an answer as values
-- The call was asked: `answer` keeps the call's promise, and the export's number and values are those of `answer`.
pub record AnsweredBy {A W : Type 0} (promise : Result A Refusal → Type 0) (write : A → W → W) (number : ℕ) (was is : W) : Type 0 where
  pub answer : Result A Refusal
  pub promised : promise answer
  pub told : number ≡ asked answer
  pub written : is ≡ values_of write answer was

-- An export that reads `held` from what it is lent: the call is asked about what is held. Where nothing is, the number is `unread`, and the
-- values stay.
pub record Answers {S A W : Type 0} (held : Option S) (unread : ℕ) (promise : S → Result A Refusal → Type 0) (write : A → W → W)
    (number : ℕ)
    (was is : W) : Type 0 where
  pub nothing : held ≡ None → (number ≡ unread) × (is ≡ was)
  pub asked : (h : S) → held ≡ Some h → AnsweredBy (promise h) write number was is

-- ---- what is written
-- `len`, `arrow`
abbrev pub itself : {W : Type 0} → W → W → W
itself v was = v

-- `following`, `following_course`
abbrev pub flagged : Bool → ℕ → ℕ
flagged b was = flag_of b

-- a point that may be missing: matched, 1 where there is one, and its metres
pub data SpotValues : Type 0 where
  spot_values : (matched : ℕ) (east north : Float) → SpotValues

abbrev pub spotted : Option Point → SpotValues → SpotValues
spotted (Some p) (spot_values matched east north) = spot_values 1 p.east p.north
spotted None (spot_values matched east north) = spot_values 0 east north

-- `course_ahead`, `route_home`: known, 1 where a line is followed; how many of its points are ahead, and the point behind them
pub data AheadValues : Type 0 where
  ahead_values : (known count : ℕ) → SpotValues → AheadValues

abbrev pub leading : Option Ahead → AheadValues → AheadValues
leading (Some a) (ahead_values known count point) = ahead_values 1 a.end (spotted a.point point)
leading None (ahead_values known count point) = ahead_values 0 count point

-- `heading`
pub data HeadingValues : Type 0 where
  heading_values : (known angle : ℕ) → HeadingValues

abbrev pub riding : Option ℕ → HeadingValues → HeadingValues
riding (Some x) (heading_values known angle) = heading_values 1 x
riding None (heading_values known angle) = heading_values 0 angle

-- `guide`: the guide's words come in front, and those behind them stay
pub data GuideValues : Type 0 where
  guide_values : (known : ℕ) (words : List ℕ) → GuideValues

abbrev pub showing : Option Guide → GuideValues → GuideValues
showing (Some g) (guide_values known words) = guide_values 1 (guide_words g ++ drop guide_size words)
showing None (guide_values known words) = guide_values 0 words

-- a state counts as held only where there is room for the guide's words
abbrev pub with_room : List ℕ → Option Homing → Option Homing
with_room guide held = cond (leb guide_size (length guide)) held None

-- `way_back`
pub data BackValues : Type 0 where
  back_values : (known direct track : ℕ) → BackValues

abbrev pub returning : Option Back → BackValues → BackValues
returning (Some b) (back_values known direct track) = back_values 1 b.direct b.track
returning None (back_values known direct track) = back_values 0 direct track

-- ---- a part of a lent buffer
-- how many crumbs the part has that a call returns; "where a part is returned that part is empty" on a refusal
abbrev pub part_count : Result (Bor (List Float)) Refusal → ℕ
part_count (Ok part) = capacity (length part.now)
part_count (Err q) = 0

-- `crumbs`, `course`: the part that the call returns is the front part of the buffer b, and `count` is how many crumbs it has. On a
-- refusal the count is 0.
pub record Returns (promise : Result (Bor (List Float)) Refusal → Type 0) (b : List Float) (number count : ℕ) : Type 0 where
  pub answer : Result (Bor (List Float)) Refusal
  pub promised : promise answer
  pub told : number ≡ asked answer
  pub counted : count ≡ part_count answer
  pub front : IfOk answer (λ part. part.now ≡ in_front count b)
  pub refused : number ≢ 0 → count ≡ 0

pub record Parts {S : Type 0} (held : Option S) (unread : ℕ) (promise : S → Result (Bor (List Float)) Refusal → Type 0) (b : List Float)
    (number count : ℕ) : Type 0 where
  pub nothing : held ≡ None → (number ≡ unread) × (count ≡ 0)
  pub asked : (h : S) → held ≡ Some h → Returns (promise h) b number count
