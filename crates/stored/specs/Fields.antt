-- How one field lies in words and numbers, and how it is read back. A flag_of is 0 or 1, a case that may be missing is a flag_of with its
-- parts behind it, which are 0 where it is missing and are then not read.
use Rattle.std.specs.Prelude.{ℕ, ◌-◌, ◌+◌, ◌^◌, Bool, true, false, cond, ◌&&◌, List, [], ◌∷◌, leb, eqb, ℤ, pos, get_or, Float, Option}
use Rattle.std.specs.Bool.{then_some}
use Rattle.std.specs.Int.{w32, cast_signed, from_bool}
use Rattle.std.specs.Option.{is_some, unwrap_or}
use Rattle.std.specs.Float.{nan}
use Rattle.binary32.specs.Limits.{plus_zero}
use Rattle.plane.specs.declared.Point.{Point}
use Rattle.plane.specs.declared.Fix.{Fix}
use Rattle.lap.specs.declared.Stage.{Stage}
use Rattle.lap.specs.declared.Stage.TheVariants as stage
use Rattle.state.specs.declared.Line.{Line}
use Rattle.state.specs.declared.Line.TheVariants as line
use Rattle.state.specs.declared.Mode.{Mode}
use Rattle.state.specs.declared.Mode.TheVariants as mode

-- the most that a field of a type may be
abbrev pub most64 : ℕ
most64 = 2 ^ 64 - 1

abbrev pub most32 : ℕ
most32 = 2 ^ 32 - 1

abbrev pub most16 : ℕ
most16 = 2 ^ 16 - 1

abbrev pub most8 : ℕ
most8 = 2 ^ 8 - 1

-- Each of the words in front is at most what a list says, and there are as many.
unfoldable pub within : List ℕ → List ℕ → Bool
within [] w = true
within (m ∷ ms) [] = false
within (m ∷ ms) (x ∷ w) = leb x m && within ms w

-- ---- read
abbrev pub word_at : List ℕ → ℕ → ℕ
word_at w i = get_or w i 0

abbrev pub number_at : List Float → ℕ → Float
number_at n i = get_or n i nan

-- Word i of a narrower type. A word that does not fit is no part of a state; it is read as 0.
abbrev pub narrow_at : ℕ → List ℕ → ℕ → ℕ
narrow_at most w i = cond (leb (word_at w i) most) (word_at w i) 0

abbrev pub flag_at : List ℕ → ℕ → Bool
flag_at w i = eqb (word_at w i) 1

-- an i32, in two's complement
unfoldable pub signed_at : List ℕ → ℕ → ℤ
signed_at w i = cast_signed w32 (narrow_at most32 w i)

abbrev pub point_at : List Float → ℕ → Point
point_at n j = record { east = number_at n j; north = number_at n (j + 1) }

-- word i says whether there is a place, which stands at number j
unfoldable pub spot_at : List ℕ → ℕ → List Float → ℕ → Option Point
spot_at w i n j = then_some (flag_at w i) (point_at n j)

unfoldable pub heading_at : List ℕ → ℕ → Option ℕ
heading_at w i = then_some (flag_at w i) (narrow_at most16 w (i + 1))

unfoldable pub place_read : List ℕ → ℕ → Option Fix
place_read w i = then_some (flag_at w i) (record { lat = signed_at w (i + 1); lon = signed_at w (i + 2) })

abbrev pub line_of_tag : ℕ → Line
line_of_tag n = get_or (line.Nothing ∷ line.Breadcrumb ∷ line.Course ∷ []) n line.Nothing

abbrev pub stage_of_tag : ℕ → Stage
stage_of_tag n = get_or (stage.Spent ∷ stage.Armed ∷ stage.Inside ∷ []) n stage.Spent

abbrev pub mode_of_tag : ℕ → Mode
mode_of_tag n = get_or (mode.Direct ∷ mode.Track ∷ mode.OffTrack ∷ mode.Arrived ∷ []) n mode.Direct

-- ---- written
abbrev pub flag_of : Bool → ℕ
flag_of b = from_bool b

-- whether there is a value
abbrev pub some_flag : {A : Type 0} → Option A → ℕ
some_flag o = flag_of (is_some o)

abbrev pub point_in : Option Point → Point
point_in s = unwrap_or s (record { east = plus_zero; north = plus_zero })

abbrev pub fix_in : Option Fix → Fix
fix_in p = unwrap_or p (record { lat = pos 0; lon = pos 0 })

abbrev pub line_tag : Line → ℕ
line_tag line.Nothing = 0
line_tag line.Breadcrumb = 1
line_tag line.Course = 2

abbrev pub stage_tag : Stage → ℕ
stage_tag stage.Spent = 0
stage_tag stage.Armed = 1
stage_tag stage.Inside = 2

abbrev pub mode_tag : Mode → ℕ
mode_tag mode.Direct = 0
mode_tag mode.Track = 1
mode_tag mode.OffTrack = 2
mode_tag mode.Arrived = 3
