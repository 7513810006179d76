-- A fix on the globe.
use Rattle.std.specs.Prelude.{◌≤◌, ℤ, unsigned_abs}

-- "latitude within ±900,000,000", "longitude within ±1,800,000,000"
pub record OnGlobe (lat lon : ℤ) : Type 0 where
  pub latitude : unsigned_abs lat ≤ 900000000
  pub longitude : unsigned_abs lon ≤ 1800000000
