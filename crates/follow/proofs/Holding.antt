-- A trail that is the same holds the same. Assumes nothing.
use mathlib.Core.Path.{◌≡◌, ap}
use Rattle.trail.specs.declared.Trail.{Trail}
use Rattle.follow.specs.View.{SameHeld}

pub same-held : (t r : Trail) → r ≡ t → SameHeld t r
same-held t r e =
    record {
      len = ap (λ (x : Trail). x.len) e;
      tolerance = ap (λ (x : Trail). x.tolerance) e;
      waiting = ap (λ (x : Trail). x.window_len) e;
    }
