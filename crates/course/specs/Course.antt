-- The course line. Document 01, "Course line": "Points are placed last first, along counted from the finish. Fewer than 2 points: line
-- emptied. No origin yet: line emptied, `unplaced` set. Both are outcomes, not refusals."
use Rattle.std.specs.Prelude.{ℕ, Bool, true, false, ◌&&◌, cond, List, [], ◌∷◌, reverse, leb, ℤ, length, Option, Some, None}
use Rattle.plane.specs.declared.Fix.{Fix}
use Rattle.crumbs.specs.declared.Crumb.{Crumb}
use Rattle.crumbs.specs.Along.{crumb_of, along_behind}
use Rattle.state.specs.declared.Frame.{Frame}
use Rattle.course.specs.Fix.{framed}

-- the most points a course has
abbrev pub points : ℕ
points = 2048

-- latitudes and longitudes side by side, as many as there are of both
unfoldable pub fixes : List ℤ → List ℤ → List Fix
fixes [] lons = []
fixes (lat ∷ lats) [] = []
fixes (lat ∷ lats) (lon ∷ lons) = record { lat = lat; lon = lon } ∷ fixes lats lons

-- each behind the one before it, the first at 0
unfoldable pub place_behind : Frame → Option Crumb → List Fix → List Crumb
place_behind f before [] = []
place_behind f before (x ∷ xs) = let c = crumb_of (framed f x) (along_behind before (framed f x)) in c ∷ place_behind f (Some c) xs

-- "placed last first"
unfoldable pub placed : Frame → List Fix → List Crumb
placed f xs = place_behind f None (reverse xs)

unfoldable pub no_origin : Option Fix → Bool
no_origin (Some origin) = false
no_origin None = true

-- the line after a course was set
unfoldable pub line_of : Frame → List Fix → List Crumb
line_of f xs = cond (leb 2 (length xs)) (cond (no_origin f.origin) [] (placed f xs)) []

-- whether the course waits for the ride's first fix
unfoldable pub waits : Frame → List Fix → Bool
waits f xs = leb 2 (length xs) && no_origin f.origin
