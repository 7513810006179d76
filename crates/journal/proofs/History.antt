-- Demand 3: the claim holds of every list of calls. Assumes nothing.
use Prim.Native.Nat.{ℕ, ◌*◌, ◌≤◌}
use mathlib.Core.Path.{◌≡◌}
use mathlib.Core.List.{List, [], ◌∷◌}
use native.Mathlib.Omega.{arith}
use Rattle.crumbs.specs.Crumb.{stride, capacity}
use Rattle.trail.specs.Trail.{fresh}
use Rattle.calls.specs.Line.{new}
use Rattle.calls.specs.Calls.{Call}
use Rattle.journal.specs.Claim.{Claim, EveryJournal}
use Rattle.journal.specs.Journal.{run, journal, held_in}
use Rattle.journal.proofs.Trace.{claim}
use Rattle.journal.proofs.Sound.{Holds, Good, still, then}
use Rattle.journal.proofs.Following.{nothing-followed}
use Rattle.journal.proofs.Calls.{new-tolerance, turn-good}

room : (C : ℕ) → capacity (stride * C) ≡ C
room C = omega arith

-- the guide begins so
new-holds : (C : ℕ) → Holds C new
unfolding new fresh
new-holds C =
    record {
      track = record { held = omega arith; waiting = omega arith; tolerance = new-tolerance };
      segment = nothing-followed;
      back = λ n. absurd (omega arith);
    }

module _ (C : ℕ) (least : 3 ≤ C) where
  run-good : (calls : List Call) → Good C (run (stride * C) calls)
  unfolding run
  run-good [] s h = still tt s h
  run-good (c ∷ calls) s h = then (turn-good C least c (stride * C) (room C) s h) λ _ after k. run-good calls after k

  -- what the state after the calls is
  pub holds : (calls : List Call) → Holds C (journal C calls).state
  unfolding journal
  holds calls = (run-good calls new (new-holds C)).sound

  -- of any capacity that leaves room behind a thinning
  pub claimed : (calls : List Call) → Claim C (journal C calls).notes (held_in (journal C calls).state)
  unfolding journal new fresh
  claimed calls = claim (run-good calls new (new-holds C)).trace

pub history : EveryJournal
history C least most calls = claimed C (omega arith) calls
