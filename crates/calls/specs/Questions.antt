-- Document 01, "Questions put to a call, first no wins". A NaN is neither of a size nor 0 or more.
use Rattle.std.specs.Prelude.{ℕ, ◌*◌, ◌^◌, Bool, true, false, ◌&&◌, ◌||◌, cond, List, [], ◌∷◌, leb, ltb, eqb, ℤ, nat_abs, length}
use Rattle.std.specs.Prelude.{Float}
use Rattle.std.specs.Float.{nan, inf, fin}
use Rattle.std.specs.Float.Ieee.{up, down, le}
pub use Rattle.refusal.specs.Refusal.{unless}
use Rattle.binary32.specs.Limits.{plus_zero, size_of}
use Rattle.plane.specs.declared.Point.{Point}
use Rattle.std.specs.Prelude.{Option, Some, None}
use Rattle.plane.specs.declared.Fix.{Fix}
use Rattle.plane.specs.Plane.{turn}
use Rattle.crumbs.specs.declared.Crumb.{Crumb}
use Rattle.crumbs.specs.Crumb.{whole, capacity, crumbs, point}
use Rattle.trail.specs.Trail.{retrace_fixes, Track, window_places}
use Rattle.state.specs.declared.Line.{Line}
use Rattle.state.specs.declared.Line.TheVariants as line
use Rattle.state.specs.declared.Course.{Course}
use Rattle.state.specs.declared.Guide.{Guide}
use Rattle.state.specs.State.{State}
use Rattle.course.specs.Course.{points}

-- ---- 1: "is the crumb buffer a multiple of 3 long, capacity 8 to 4,096?"
unfoldable pub question1 : ℕ → Bool
question1 size = whole size && leb 8 (capacity size) && leb (capacity size) 4096

-- ---- 10, of numbers
-- whether x is at most num / den. The numbers themselves are compared: the fraction is not rounded to a binary32.
unfoldable pub up_to : ℕ → ℕ → Float → Bool
up_to num den nan = false
up_to num den (inf negative) = negative
up_to num den (fin negative m e) = negative || leb (m * up e * den) (num * down e)

-- "at most 100,000,000 m in size"
unfoldable pub sized : Float → Bool
sized x = up_to (10 ^ 8) 1 (size_of x)

unfoldable pub place_fits : Point → Bool
place_fits p = sized p.east && sized p.north

-- "each along 0 to 10^16"
unfoldable pub along_fits : Float → Bool
along_fits x = le plus_zero x && up_to (10 ^ 16) 1 x

-- "the east factor at most 0.02 in size"
unfoldable pub factor_fits : Float → Bool
factor_fits x = up_to 2 100 (size_of x)

-- "each heading and bearing, the guide's too, below 4,096"
unfoldable pub heading_fits : Option ℕ → Bool
heading_fits (Some heading) = ltb heading turn
heading_fits None = true

unfoldable pub guide_fits : Guide → Bool
guide_fits g = ltb g.bearing turn && heading_fits g.heading

unfoldable pub shown_fits : Option Guide → Bool
shown_fits (Some g) = guide_fits g
shown_fits None = true

unfoldable pub spot_fits : Option Point → Bool
spot_fits (Some p) = place_fits p
spot_fits None = true

unfoldable pub places_fit : List Point → Bool
places_fit [] = true
places_fit (p ∷ l) = place_fits p && places_fit l

unfoldable pub crumb_fits : Crumb → Bool
crumb_fits c = place_fits (point c) && along_fits c.along

unfoldable pub crumbs_fit : List Crumb → Bool
crumbs_fit [] = true
crumbs_fit (c ∷ l) = crumb_fits c && crumbs_fit l

-- ---- 10, of the state alone
-- "segment 1 to the followed line's len − 1 when following"
unfoldable pub segment_fits : ℕ → ℕ → Bool
segment_fits segment len = leb 1 segment && ltb segment len

unfoldable pub follow_fits : Line → ℕ → ℕ → ℕ → Bool
follow_fits line.Nothing segment len line_len = true
follow_fits line.Breadcrumb segment len line_len = segment_fits segment len
follow_fits line.Course segment len line_len = segment_fits segment line_len

-- "retrace below 8 and `retrace_len` ≤ len when it is above 0"
unfoldable pub retrace_fits : Track → Bool
retrace_fits t = ltb t.retrace retrace_fixes && (eqb t.retrace 0 || leb t.retrace_len (length t.crumbs))

unfoldable pub counts_fit : State → Bool
counts_fit s =
    leb (length s.track.window) window_places
    && follow_fits s.follow.line s.follow.segment (length s.track.crumbs) s.course.line_len
    && retrace_fits s.track

unfoldable pub spots_fit : State → Bool
spots_fit s =
    spot_fits s.here && spot_fits s.motion.from && spot_fits s.follow.matched && spot_fits s.course.fix
    && spot_fits s.lap.start

unfoldable pub numbers_fit : State → Bool
numbers_fit s =
    places_fit s.track.window
    && spots_fit s
    && along_fits s.course.along
    && along_fits s.course.reached
    && heading_fits s.motion.heading
    && shown_fits s.guide
    && factor_fits s.frame.east_per_e7
    && le plus_zero s.track.tolerance

unfoldable pub state_fits : State → Bool
state_fits s = counts_fit s && numbers_fit s

-- ---- 10, of the held crumbs where a crumb buffer with room for C is lent
unfoldable pub held_fits : ℕ → State → Bool
held_fits C s = leb (length s.track.crumbs) C && crumbs_fit s.track.crumbs

-- ---- 10, of the placed line where a line buffer is lent
unfoldable pub line_fits : List Float → Course → Bool
line_fits b c = leb c.line_len (capacity (length b)) && crumbs_fit (crumbs c.line_len b)

-- ---- 4: "line buffer a multiple of 3 long, line at most 2,048, no more points than it holds?"
unfoldable pub question4 : ℕ → ℕ → Bool
question4 size n = whole size && leb (capacity size) points && leb n (capacity size)

-- ---- 2 and 3: "Each place: latitude within ±900,000,000? No: 2. Longitude within ±1,800,000,000? No: 3."
unfoldable pub latitude_fits : ℤ → Bool
latitude_fits lat = leb (nat_abs lat) 900000000

unfoldable pub longitude_fits : ℤ → Bool
longitude_fits lon = leb (nat_abs lon) 1800000000

unfoldable pub asks_fix : Fix → ℕ
asks_fix x = cond (latitude_fits x.lat) (cond (longitude_fits x.lon) 0 3) 2

-- the first of two questions that says no; 0 where neither does
infixr 3 ◌or_else◌
abbrev pub ◌or_else◌ : ℕ → ℕ → ℕ
◌or_else◌ a b = cond (eqb a 0) b a

unfoldable pub asks_fixes : List Fix → ℕ
asks_fixes [] = 0
asks_fixes (x ∷ xs) = asks_fix x or_else asks_fixes xs

-- ---- the questions a call is asked, by what it is given
-- the state alone
unfoldable pub asks_state : State → ℕ
asks_state s = unless (state_fits s) 10

-- the state and a crumb buffer of `size` numbers
unfoldable pub asks_crumbs : ℕ → State → ℕ
asks_crumbs size s = unless (question1 size) 1 or_else unless (state_fits s && held_fits (capacity size) s) 10

-- the state and a lent line, and n points for it
unfoldable pub asks_line : List Float → ℕ → State → ℕ
asks_line b n s = unless (state_fits s && line_fits b s.course) 10 or_else unless (question4 (length b) n) 4

-- the state, a crumb buffer and a lent line
unfoldable pub asks_both : ℕ → List Float → State → ℕ
asks_both size b s =
    unless (question1 size) 1
    or_else unless (state_fits s && held_fits (capacity size) s && line_fits b s.course) 10
    or_else unless (question4 (length b) 0) 4

-- a guide's own bearing and heading
unfoldable pub asks_guide : Guide → ℕ
asks_guide g = unless (guide_fits g) 10
