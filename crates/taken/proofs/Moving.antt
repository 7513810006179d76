-- Places, the heading and the passes of the start stay within their bounds. Assumes nothing.
use Prim.Native.Nat.{ℕ}
use mathlib.Core.Path.{◌≡◌, refl}
use mathlib.Core.Bool.{Bool, true, false}
use borrow.Author.Tests.{lt-ltb}
use lib.Dec.{ltb}
use lib.Ieee.{Float, le}
use Rattle.binary32.proofs.magnitude.Size.{Within, frac}
use Rattle.plane.specs.declared.Point.{Point}
use Rattle.std.specs.Prelude.{Option, Some, None, ℕ}
use Rattle.plane.specs.declared.Fix.{Fix}
use Rattle.plane.specs.Plane.{turn, distance, bearing}
use Rattle.plane.proofs.Place.{Place}
use Rattle.plane.specs.Globe.{OnGlobe}
use Rattle.plane.proofs.Theorems.{bearing-below, east-factor, frame-place}
use Rattle.motion.specs.declared.Motion.{Motion}
use Rattle.lap.specs.declared.Lap.{Lap}
use Rattle.motion.specs.Heading.{elapsed, heading_step_m, heading_stale_ms, spot_or, renewed, aged, track_heading}
use Rattle.lap.specs.Lap.{moving_at, lap_start, step_from, step_pass}
use Rattle.state.specs.declared.Frame.{Frame}
use Rattle.course.specs.Fix.{located_from, located, framed_from, framed}
use Rattle.calls.specs.Questions.{heading_fits, spot_fits}
use Rattle.taken.specs.Taken.{FixOnGlobe}
use Rattle.taken.proofs.Tests.{one_of}
use Rattle.taken.proofs.Bounds.{place-fits}

-- ---- a place that may be missing
abbrev pub Spotted : Option Point → Type 0
Spotted (Some p) = Place p
Spotted None = Unit {0}

pub spot-fits : (x : Option Point) → Spotted x → spot_fits x ≡ true
unfolding spot_fits
spot-fits (Some p) h = place-fits p h
spot-fits None h = refl

-- ---- the ride's frame
abbrev pub Origin : Option Fix → Type 0
Origin (Some x) = OnGlobe x.lat x.lon
Origin None = Unit {0}

pub record Framed (f : Frame) : Type 0 where
  pub origin : Origin f.origin
  pub factor : Within (frac 5) f.east_per_e7

located-from : (o : Option Fix) (x : Fix) (f : Frame) → FixOnGlobe x → Framed f → Framed (located_from o x f)
unfolding located_from
located-from (Some y) x f g h = h
located-from None x f g h = record { origin = g; factor = east-factor x.lat g.latitude }

pub located-framed : (x : Fix) (f : Frame) → FixOnGlobe x → Framed f → Framed (located x f)
unfolding located
located-framed x f g h = located-from f.origin x f g h

framed-from : (o : Option Fix) (factor : Float) (x : Fix) → Origin o → Within (frac 5) factor → FixOnGlobe x
    → Place (framed_from o factor x)
unfolding framed_from
framed-from (Some y) factor x o w g = frame-place y x factor o g w
framed-from None factor x o w g = frame-place x x factor g g w

pub framed-place : (f : Frame) (x : Fix) → Framed f → FixOnGlobe x → Place (framed f x)
unfolding framed
framed-place f x h g = framed-from f.origin f.east_per_e7 x h.origin h.factor g

-- ---- the heading
pub record Moving (m : Motion) : Type 0 where
  pub from : Spotted m.from
  pub heading : heading_fits m.heading ≡ true

pub known-fits : (a b : Point) → heading_fits (Some (bearing a b)) ≡ true
unfolding heading_fits
known-fits a b = lt-ltb (bearing a b) turn (bearing-below a b)

pub unknown-fits : heading_fits None ≡ true
unfolding heading_fits
unknown-fits = refl

pub unheaded-moving : (ms : ℕ) → Moving (record { from = None; heading = None; heading_ms = ms })
unheaded-moving ms = record { from = tt; heading = unknown-fits }

spot-or : (x : Option Point) (p : Point) → Spotted x → Place p → Place (spot_or x p)
unfolding spot_or
spot-or (Some q) p h P = h
spot-or None p h P = P

renewed-moving : (from p : Point) (now : ℕ) → Place p → Moving (renewed from p now)
unfolding renewed
renewed-moving from p now P = record { from = P; heading = known-fits from p }

aged-moving : (m : Motion) (from : Point) (now : ℕ) → Moving m → Place from → Moving (aged m from now)
unfolding aged
aged-moving m from now h P =
    record {
      from = P;
      heading =
          one_of (λ x. heading_fits x ≡ true) (ltb heading_stale_ms (elapsed now m.heading_ms)) (λ t. unknown-fits) (λ t. h.heading);
    }

pub heading-moving : (m : Motion) (p : Point) (now : ℕ) → Moving m → Place p → Moving (track_heading m p now)
unfolding track_heading
heading-moving m p now h P =
    let from = spot_or m.from p in
    one_of Moving (le heading_step_m (distance from p)) (λ t. renewed-moving from p now P)
    (λ t. aged-moving m from now h (spot-or m.from p h.from P))

-- ---- the start
lap-start : (moving : Bool) (x : Option Point) (p : Point) → Spotted x → Place p → Spotted (lap_start moving x p)
unfolding lap_start
lap-start true (Some q) p h P = h
lap-start false (Some q) p h P = h
lap-start true None p h P = P
lap-start false None p h P = tt

step_from_lem : (x : Option Point) (l : Lap) (p : Point) (moving : Bool) → Spotted x → Spotted (step_from x l p moving).start
unfolding step_from
step_from_lem (Some q) l p moving h = h
step_from_lem None l p moving h = h

pub step_start : (l : Lap) (p : Point) (heading : Option ℕ) → Spotted l.start → Place p → Spotted (step_pass l p heading).start
unfolding step_pass
step_start l p heading h P =
    let moving = moving_at heading in
    step_from_lem (lap_start moving l.start p) l p moving (lap-start moving l.start p h P)
