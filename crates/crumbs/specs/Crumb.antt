-- Document 01, "Crumb": "A crumb is east, north and along, three f32 in metres. The caller lends one f32 buffer, three numbers a crumb."
-- How crumbs lie in a buffer, and the list of crumbs that a buffer holds.
use Rattle.std.specs.Prelude.{ℕ, zero, suc, ◌+◌, ◌*◌, ◌/◌, ◌%◌, Bool, List, [], ◌∷◌, get_or, take, drop, eqb, Float}
use Rattle.std.specs.Float.{nan}
use Rattle.crumbs.specs.declared.Crumb.{Crumb}
use Rattle.plane.specs.declared.Point.{Point}

-- how many numbers a crumb takes
abbrev pub stride : ℕ
stride = 3

-- whether a buffer of `size` numbers is a whole number of crumbs long
abbrev pub whole : ℕ → Bool
whole size = eqb (size % stride) 0

-- how many crumbs a buffer of `size` numbers has room for
abbrev pub capacity : ℕ → ℕ
capacity size = size / stride

-- the crumb at place i of a buffer; a number that the buffer lacks reads as a NaN
unfoldable pub crumb_at : List Float → ℕ → Crumb
crumb_at b i = record { east = get_or b (stride * i) nan; north = get_or b (stride * i + 1) nan; along = get_or b (stride * i + 2) nan }

-- the first n crumbs of a buffer
unfoldable pub crumbs : ℕ → List Float → List Crumb
crumbs zero b = []
crumbs (suc n) b = crumb_at b 0 ∷ crumbs n (drop stride b)

-- the numbers of the first n crumbs
unfoldable pub in_front : ℕ → List Float → List Float
in_front n b = take (stride * n) b

-- the numbers behind the first n crumbs
unfoldable pub behind : ℕ → List Float → List Float
behind n b = drop (stride * n) b

-- where a crumb lies in the plane
abbrev pub point : Crumb → Point
point c = record { east = c.east; north = c.north }
