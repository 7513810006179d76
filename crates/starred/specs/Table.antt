-- Document 01, "For those who test": "Prove the starred lines together as one table about the rules". `proofs/Table.antt` proves it.
use Rattle.std.specs.Prelude.{ℕ, ◌+◌, ◌*◌, ◌%◌, ◌^◌, ◌≤◌, ◌≡◌, Bool, true, false, List, [], ◌∷◌, map, ℤ, pos, negsuc, nat_abs, Float, Some}
use Rattle.std.specs.Float.{binary32}
use Rattle.std.specs.Float.Ieee.{of_bits, neg, eq}
use Rattle.binary32.specs.Arithmetic.{constant}
use Rattle.binary32.specs.Limits.{plus_zero, one}
use Rattle.plane.specs.declared.Fix.{Fix}
use Rattle.plane.specs.Plane.{bearing, metres}
use Rattle.plane.specs.Fix.{east_per_e7, frame}
use Rattle.crumbs.specs.declared.Crumb.{Crumb}
use Rattle.crumbs.specs.Crumb.{stride}
use Rattle.thin.specs.Crumb.{thinning}
use Rattle.thin.specs.Promises.{left, refused, thin_answer}
use Rattle.lap.specs.declared.Stage.TheVariants.{Spent}
use Rattle.lap.specs.declared.StartPass.{StartPass}
use Rattle.lap.specs.Pass.{step_of}
use Rattle.state.specs.declared.Guide.{Guide}
use Rattle.state.specs.Guide.{arrow}
use Rattle.matching.specs.Match.{off_now}
use Rattle.calls.specs.Calls.{Reset}
use Rattle.rebuild.specs.declared.Rebuild.{Rebuild}
use Rattle.rebuild.specs.Rebuild.{decide}

-- a whole number as an f32
abbrev pub number : ℕ → Float
number n = constant n 1

-- "(10i, 0)", whatever the crumbs' alongs
abbrev pub straight : (ℕ → Float) → ℕ → Crumb
straight along i = record { east = number (10 * i); north = number 0; along = along i }

-- "Same, north alternately 0 and 10,000,000"
abbrev pub zigzag : (ℕ → Float) → ℕ → Crumb
zigzag along i = record { east = number (10 * i); north = number (i % 2 * 10000000); along = along i }

-- "i = 0 to 7"
abbrev pub eight : List ℕ
eight = 0 ∷ 1 ∷ 2 ∷ 3 ∷ 4 ∷ 5 ∷ 6 ∷ 7 ∷ []

-- the bearing from the origin to a place
abbrev pub towards : Float → Float → ℕ
towards east north = bearing (record { east = plus_zero; north = plus_zero }) (record { east = east; north = north })

-- the places at a latitude where the longitudes begin and end
abbrev pub westernmost : ℤ → Fix
westernmost lat = record { lat = lat; lon = negsuc 1799999999 }

abbrev pub easternmost : ℤ → Fix
easternmost lat = record { lat = lat; lon = pos 1800000000 }

-- a `StartPass` as a ride begins with it
abbrev pub spent : StartPass
spent = record { stage = Spent }

-- the answers of a `StartPass` at one distance after another, moving
abbrev pub passes : StartPass → List Float → List Bool
passes p [] = []
passes p (d ∷ ds) = let s = step_of p d true in s.passed ∷ passes s.pass ds

pub record Table : Type 0 where
  -- "`thin`, C = 8, tolerance 6: (10i, 0), i = 0 to 7: 2 left, 1 pass."
  pub straight-answer : (along : ℕ → Float) → thin_answer (stride * 8) (number 6) (map (straight along) eight) ≡ left 2 (number 6) 1
  pub straight-left : (along : ℕ → Float) → (thinning 8 (number 6) (map (straight along) eight)).left ≡ map (straight along) (0 ∷ 7 ∷ [])
  -- "Same, north alternately 0 and 10,000,000: points 0, 2, 4, 6, 7, 18 passes, tolerance 786,432."
  pub zigzag-answer : (along : ℕ → Float) → thin_answer (stride * 8) (number 6) (map (zigzag along) eight) ≡ left 5 (number 786432) 18
  pub zigzag-left : (along : ℕ → Float)
      → (thinning 8 (number 6) (map (zigzag along) eight)).left ≡ map (zigzag along) (0 ∷ 2 ∷ 4 ∷ 6 ∷ 7 ∷ [])
  -- "C = 2: 9.", whatever the tolerance and the line
  pub room-for-two : (t : Float) (l : List Crumb) → thin_answer (stride * 2) t l ≡ refused 9
  -- "Bearings north, east, south, west: 0, 1024, 2048, 3072.", from the origin to places 1 m away
  pub north : towards plus_zero one ≡ 0
  pub east : towards one plus_zero ≡ 1024
  pub south : towards plus_zero (neg one) ≡ 2048
  pub west : towards (neg one) plus_zero ≡ 3072
  -- "Bearing 0, heading 4095: arrow 1.", whatever else the guide shows
  pub arrow-one : (g : Guide) → g.bearing ≡ 0 → g.heading ≡ Some 4095 → arrow g ≡ 1
  -- "`metres` 0.5 is 1; 0.49999997 (3EFFFFFF hexadecimal) is 1."
  pub half-metre : metres (constant 5 10) ≡ 1
  pub under-half : metres (constant 49999997 (10 ^ 8)) ≡ 1
  pub under-half-bits : constant 49999997 (10 ^ 8) ≡ of_bits binary32 0x3eff_ffff
  -- "Longitude −1,800,000,000 to 1,800,000,000: east 0.", a zero of either sign, from every latitude on the globe to every latitude
  pub half-round :
      (lat0 lat : ℤ) → nat_abs lat0 ≤ 900000000
      → eq (frame (westernmost lat0) (east_per_e7 lat0) (easternmost lat)).east plus_zero ≡ true
  -- "`StartPass` at 101, 39, 51 m moving: no, no, yes; 100 m doesn't arm.", moving or not
  pub one-pass : passes spent (number 101 ∷ number 39 ∷ number 51 ∷ []) ≡ false ∷ false ∷ true ∷ []
  pub not-armed : (moving : Bool) → (step_of spent (number 100) moving).pass ≡ spent
  -- "Off 50 stays on; 25 clears."
  pub stays_on : off_now false (number 50) ≡ false
  pub clears : off_now true (number 25) ≡ false
  -- "UTC 1,800,000 ms apart carries on; 1,800,001 resets.", whichever of the two times is the later
  pub carries-on : (t : ℕ) (r : Rebuild) → (decide (Some t) (Some (t + 1800000)) r).calls ≡ []
  pub carries-on-back : (t : ℕ) (r : Rebuild) → (decide (Some (t + 1800000)) (Some t) r).calls ≡ []
  pub resets : (t : ℕ) (r : Rebuild) → (decide (Some t) (Some (t + 1800001)) r).calls ≡ Reset ∷ []
  pub resets-back : (t : ℕ) (r : Rebuild) → (decide (Some (t + 1800001)) (Some t) r).calls ≡ Reset ∷ []
