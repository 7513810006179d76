-- Document 01's starred line of the rebuild, and its example of a chain file as far as the rebuild's rules go. Assumes nothing.
use mathlib.Core.Path.{◌≡◌, refl, ap}
use Prim.Native.Nat.{ℕ, ◌+◌, ◌≤◌, ◌<◌}
use native.Mathlib.Omega.{arith}
use mathlib.Core.Bool.{Bool, true, false, cond}
use mathlib.Core.List.{[], ◌∷◌}
use lib.Dec.{leb}
use lib.IntN.{pos}
use borrow.Author.Tests.{lt-leb, le-leb}
use Rattle.std.specs.Prelude.{Some, None}
use Rattle.std.specs.Int.{abs_diff}
use Rattle.plane.specs.declared.Fix.{Fix}
use Rattle.calls.specs.Calls.{Reset, Replay}
use Rattle.ride_log.specs.declared.Kind.TheVariants as kind
use Rattle.ride_log.specs.declared.Sample.{Sample}
use Rattle.ride_log.specs.declared.Entry.{Entry}
use Rattle.rebuild.specs.declared.Stage.TheVariants as stage
use Rattle.rebuild.specs.declared.Rebuild.{Rebuild}
use Rattle.ride_log.specs.Entry.{used}
use Rattle.rebuild.specs.Rebuild.{continue_ms, new_rebuild, ticked, carries_on, decide, skips, before_replay, replays}
use Rattle.rebuild.specs.Rebuild.{visit_fix, visit_place, visit_sample, visit_samples, is_later, visit_kind, visit}

-- ---- "UTC 1,800,000 ms apart carries on; 1,800,001 resets", whichever of the two is the later
called : (r : Rebuild) (last first : ℕ) (b : Bool) → leb (abs_diff last first) continue_ms ≡ b
    → (decide (Some last) (Some first) r).calls ≡ cond b [] (Reset ∷ [])
unfolding decide carries_on
called r last first b e = ap (λ (t : Bool). cond t [] (Reset ∷ [])) e

close : (t : ℕ) → abs_diff t (t + 1800000) ≤ continue_ms
close t = omega arith

close-back : (t : ℕ) → abs_diff (t + 1800000) t ≤ continue_ms
close-back t = omega arith

far : (t : ℕ) → continue_ms < abs_diff t (t + 1800001)
far t = omega arith

far-back : (t : ℕ) → continue_ms < abs_diff (t + 1800001) t
far-back t = omega arith

module _ (t : ℕ) (r : Rebuild) where
  pub carries-on : (decide (Some t) (Some (t + 1800000)) r).calls ≡ []
  carries-on = called r t (t + 1800000) true (le-leb _ _ (close t))

  pub carries-on-back : (decide (Some (t + 1800000)) (Some t) r).calls ≡ []
  carries-on-back = called r (t + 1800000) t true (le-leb _ _ (close-back t))

  pub resets : (decide (Some t) (Some (t + 1800001)) r).calls ≡ Reset ∷ []
  resets = called r t (t + 1800001) false (lt-leb _ _ (far t))

  pub resets-back : (decide (Some (t + 1800001)) (Some t) r).calls ≡ Reset ∷ []
  resets-back = called r (t + 1800001) t false (lt-leb _ _ (far-back t))

-- ---- "recovered 5, one Samples entry of ride 5 with (0, 0) twice": "clock 2000 stage pending"
abbrev pub at-origin : Sample
at-origin = record { place = Some (record { lat = pos 0; lon = pos 0 }); utc = None }

abbrev pub twice : Entry
twice = record { ride = 5; kind = kind.Samples; count = 2; samples = at-origin ∷ at-origin ∷ at-origin ∷ at-origin ∷ [] }

abbrev pub origin : Fix
origin = record { lat = pos 0; lon = pos 0 }

pub clock-2000 : (visit twice (new_rebuild 5)).rebuild
    ≡ record { recovered = 5; walk = record { slot = 0 }; stage = stage.Pending None; clock_ms = 2000 }
unfolding new_rebuild ticked skips before_replay replays visit_fix visit_place visit_sample visit_samples used is_later visit_kind
    visit
clock-2000 = refl

pub replayed-twice : (visit twice (new_rebuild 5)).calls ≡ Replay origin 1000 ∷ Replay origin 2000 ∷ []
unfolding new_rebuild ticked skips before_replay replays visit_fix visit_place visit_sample visit_samples used is_later visit_kind
    visit
replayed-twice = refl
