-- For the functions inside: rows of segments, by the least of their squares. What the search gives is `nearest_on_breadcrumb`.
use Rattle.std.specs.Prelude.{ℕ, ◌+◌, ◌-◌, ◌≤◌, ◌<◌, ◌≡◌, true, false, cond, List, ◌⊎◌, T, get_or, Float}
use Rattle.std.specs.Float.{binary32, nan}
use Rattle.std.specs.Float.Ieee.{fits, lt, le}
use Rattle.binary32.specs.Root.{root}
use Rattle.plane.specs.declared.Point.{Point}
use Rattle.crumbs.specs.declared.Crumb.{Crumb}
use Rattle.segments.specs.declared.Stretch.{Stretch}
use Rattle.segments.specs.Segment.{nearest_on}
use Rattle.segments.specs.Square.{square_on}
use Rattle.search.specs.declared.Range.{Range}
use Rattle.search.specs.declared.rows.Front.{Front}
use Rattle.search.specs.Search.{anywhere}
use Rattle.search.specs.Square.{reaches}

-- the segments of a row
abbrev pub row_length : ℕ
row_length = 16

-- none of a row of segments, from `end` down, reaches into a stretch
pub record NoneReaches (line : List Crumb) (within : Stretch) (end : ℕ) : Type 0 where
  pub each : (k : ℕ) → k < row_length → reaches line within (end - k) ≡ false

-- a row holds the squares of the segments from `first` on
pub record SquaresFrom (line : List Crumb) (p : Point) (first : ℕ) (row : List Float) : Type 0 where
  pub each : (k : ℕ) → k < row_length → get_or row k nan ≡ square_on line p (first + k)

unfoldable pub lesser : Float → Float → Float
lesser x bar = cond (lt x bar) x bar

-- `least` is `bar` or one of the first k numbers of a row: none of them is less, and nothing is that is not less than `bar`
pub record LeastSoFar (bar : Float) (row : List Float) (k : ℕ) (least : Float) : Type 0 where
  pub none : (j : ℕ) → j < k → lt (get_or row j nan) least ≡ false
  pub carried : (x : Float) → lt x bar ≡ false → lt x least ≡ false
  pub fitting : T (fits binary32 bar) → ((j : ℕ) → j < k → T (fits binary32 (get_or row j nan))) → T (fits binary32 least)

-- no segment from `from` on and before `end` has a square less than `bar`, which binary32 holds
pub record NoneLess (line : List Crumb) (p : Point) (from end : ℕ) (bar : Float) : Type 0 where
  pub fitting : T (fits binary32 bar)
  pub each : (e : ℕ) → from ≤ e → e < end → lt (square_on line p e) bar ≡ false

-- the row in front of those of a range that are tried, up to `end`; or the segment, where `width` is 1
pub record InFront (line : List Crumb) (p : Point) (ends : Range) (width end : ℕ) (front : Front) : Type 0 where
  pub from : ends.from ≤ front.first
  pub to : front.first + width ≤ ends.to + 1
  pub least : NoneLess line p ends.from end front.least
  pub before : NoneLess line p ends.from front.first front.before

-- what is before the segment in front lies farther away than `off`: the first segment does, which is a number of metres away, and so does
-- every one whose square is not less than `before`; or there is nothing
pub record Farther (line : List Crumb) (p : Point) (from : ℕ) (front : Front) (off : Float) : Type 0 where
  pub counts : reaches line anywhere from ≡ true
  pub first : lt off (nearest_on line p from).off ≡ true
  pub others : lt off (root binary32 front.before) ≡ true

abbrev pub Behind : List Crumb → Point → ℕ → Front → Float → Type 0
Behind line p from front off = (front.first ≡ from) ⊎ Farther line p from front off

-- the segment in front is certainly the nearest: it counts, nothing is less far away, and what is before it lies farther
pub record Settled (line : List Crumb) (p : Point) (from : ℕ) (front : Front) (off : Float) : Type 0 where
  pub counts : reaches line anywhere front.first ≡ true
  pub low : le off (root binary32 front.least) ≡ true
  pub behind : Behind line p from front off
