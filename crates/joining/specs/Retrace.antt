-- Whether a fix runs back over the breadcrumb. homing.rs, `retracing`.
use Rattle.std.specs.Prelude.{ℕ, ◌-◌, ◌*◌, ◌/◌, Bool, false, ◌&&◌, cond, List, leb, ltb, eqb, length, Float, Option, Some, None}
use Rattle.std.specs.Float.Ieee.{lt}
use Rattle.binary32.specs.Arithmetic.{◌⊖◌, constant}
use Rattle.plane.specs.declared.Point.{Point}
use Rattle.segments.specs.declared.costs.Nearest.{Nearest}
use Rattle.plane.specs.Plane.{turn}
use Rattle.crumbs.specs.declared.Crumb.{Crumb}
use Rattle.segments.specs.Turn.{turned_from}
use Rattle.crumbs.specs.Line.{at}
use Rattle.search.specs.Search.{nearest_on_breadcrumb}
use Rattle.search.specs.Along.{ends}
use Rattle.trail.specs.Trail.{Track}

-- ---- back along the breadcrumb
-- this close to it
unfoldable pub retrace_m : Float
retrace_m = constant 20 1

-- away from its newest 300 m
unfoldable pub retrace_skip_m : Float
retrace_skip_m = constant 300 1

-- whether a heading goes against a segment: more than three eighths of a turn aside, and less than five
unfoldable pub backwards : ℕ → Crumb → Crumb → Bool
backwards heading a b = let t = turned_from heading a b in ltb (turn * 3 / 8) t && ltb t (turn * 5 / 8)

-- whether the nearest segment is close, and ridden against
unfoldable pub against_near : List Crumb → ℕ → Option Nearest → Bool
against_near crumbs heading None = false
against_near crumbs heading (Some near) =
    lt near.off retrace_m && backwards heading (at crumbs (near.end - 1)) (at crumbs near.end)

-- the breadcrumb's nearest segment to p among those up to the crumb `n`
unfoldable pub nearest_before : List Crumb → Point → ℕ → Option Nearest
nearest_before crumbs p n = cond (leb 2 n) (nearest_on_breadcrumb crumbs p (record { from = 1; to = n - 1 })) None

unfoldable pub rides_back : Option ℕ → List Crumb → Point → Bool
rides_back None crumbs p = false
rides_back (Some heading) crumbs p =
    cond (leb 2 (length crumbs))
    (against_near crumbs heading (nearest_before crumbs p (ends crumbs ((at crumbs (length crumbs - 1)).along ⊖ retrace_skip_m))))
    false

-- the first fix back remembers how long the breadcrumb was
unfoldable pub len_before : Track → ℕ
len_before t = cond (eqb t.retrace 0) (length t.crumbs) t.retrace_len
