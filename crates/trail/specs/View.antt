-- What a trail, its window and the lent buffer stand for, and what the functions promise of it.
use Rattle.std.specs.Prelude.{ℕ, zero, suc, ◌+◌, ◌*◌, ◌≤◌, ◌≡◌, true, List, [], ◌∷◌, ◌++◌, get_or, replicate, Float}
use Rattle.std.specs.Float.{nan}
use Rattle.std.specs.Float.Ieee.{le}
use Rattle.binary32.specs.Limits.{plus_zero}
use Rattle.plane.specs.declared.Point.{Point}
use Rattle.crumbs.specs.Crumb.{whole, capacity, crumbs}
use Rattle.trail.specs.declared.Trail.{Trail}
use Rattle.trail.specs.Trail.{window_places, Track}

-- "places at 2i and 2i+1": the place i of the window's numbers
unfoldable pub waiting_at : List Float → ℕ → Point
waiting_at w i = record { east = get_or w (2 * i) nan; north = get_or w (2 * i + 1) nan }

-- the first n places
unfoldable pub places : ℕ → List Float → List Point
places zero w = []
places (suc n) w = places n w ++ waiting_at w n ∷ []

-- a trail with the window's numbers w and the crumb buffer b
unfoldable pub track : Trail → List Float → List Float → Track
track t w b =
    record {
      crumbs = crumbs t.len b;
      tolerance = t.tolerance;
      window = places t.window_len w;
      retrace = t.retrace;
      retrace_len = t.retrace_len;
    }

-- "Window as [0.0; 96] of f32 inside the state": its numbers before a place has waited in it
unfoldable pub empty_window : List Float
empty_window = replicate 96 plus_zero

-- What questions 1 and 10 ask of a trail and a buffer of `size` numbers, as far as the recording needs it.
pub record TrailFit (t : Trail) (size : ℕ) : Type 0 where
  pub whole_long : whole size ≡ true
  pub least : 8 ≤ capacity size
  pub most : capacity size ≤ 4096
  pub held : t.len ≤ capacity size
  pub waiting : t.window_len ≤ window_places
  pub tolerance : le plus_zero t.tolerance ≡ true
