-- The loop over the calls: those still to come, performed on the guide as it is, give what the whole list gives. Assumes nothing.
use Prim.Native.Nat.{ℕ, ◌+◌, ◌≤◌, ◌<◌}
use mathlib.Core.Path.{◌≡◌, sym, ap, ◌∙◌}
use mathlib.Core.Bool.{Bool, true, false, cond}
use mathlib.Core.List.{List, [], ◌∷◌}
use native.Mathlib.Numerals.{add-one}
use denote.Bor.{Bor}
use lib.Ieee.{Float}
use lib.ListN.{length, drop, get_or, drop_of_length-le}
use lib.Seq.{drop-cons}
use Rattle.state.specs.declared.Homing.{Homing}
use Rattle.state.specs.State.{State, state_of}
use Rattle.calls.specs.Calls as rule
use Rattle.calls.specs.Calls.{after_call}
use Rattle.calls.specs.Promises.{Called}
use Rattle.journal.specs.Journal.{run}
use Rattle.journal.proofs.Programs.{run-first}
use Rattle.ride.specs.declared.Call.{Call}
use Rattle.ride.specs.Script.{call_of, has_room, written, pointed}
use Rattle.ride.specs.Inner.{Performs}

-- what the loop carries on, with the calls from the i-th on still to come
pub record Performing (room : ℕ) (calls : List (Bor Call)) (h₀ : Homing) (entry : List Float) (i : ℕ) (crumbs : List Float) (h : Homing)
    : Type 0 where
  pub to-come : (run (length entry) (written room (pointed (drop i calls))) (state_of h crumbs)).state
      ≡ (run (length entry) (written room (pointed calls)) (state_of h₀ entry)).state
  pub long : length crumbs ≡ length entry

module _ {room : ℕ} {calls : List (Bor Call)} {h₀ : Homing} {entry : List Float} {i : ℕ} {crumbs : List Float} {h : Homing}
    (p : Performing room calls h₀ entry i crumbs h) where
  ended : written room (pointed (drop i calls)) ≡ [] → Performs (written room (pointed calls)) h₀ entry h crumbs
  unfolding run
  ended e =
      record {
        same = ap (λ (l : List rule.Call). (run (length entry) l (state_of h crumbs)).state) (sym e) ∙ p.to-come;
        size = p.long;
      }

  -- no call is left
  pub ends : length calls ≤ i → Performs (written room (pointed calls)) h₀ entry h crumbs
  unfolding written
  ends over = ended (ap (λ (l : List (Bor Call)). written room (pointed l)) (drop_of_length-le calls over))

  module _ (d : Bor Call) (more : i < length calls) where
    abbrev this : Call
    this = (get_or calls i d).now

    abbrev rest : List rule.Call
    rest = written room (pointed (drop (i + 1) calls))

    next : written room (pointed (drop i calls)) ≡ cond (has_room room this) (call_of this ∷ rest) []
    unfolding written
    next =
        ap (λ (l : List (Bor Call)). written room (pointed l))
        (drop-cons calls i d more ∙ ap (λ j. get_or calls i d ∷ drop j calls) (sym (add-one i)))

    -- whether there is room for the copy of its line, as the working line of w numbers tells
    told : {w : ℕ} {b : Bool} → w ≡ room → b ≡ has_room w this → written room (pointed (drop i calls)) ≡ cond b (call_of this ∷ rest) []
    told {w} {b} same e = next ∙ ap (λ b. cond b (call_of this ∷ rest) []) (sym (e ∙ ap (λ n. has_room n this) same))

    pub breaks-off : {w : ℕ} → w ≡ room → false ≡ has_room w this → Performs (written room (pointed calls)) h₀ entry h crumbs
    breaks-off same none = ended (told same none)

    -- it is performed
    pub goes_on : {w : ℕ} {r : Homing} {exit : List Float} → w ≡ room → true ≡ has_room w this → Called (call_of this) h crumbs r exit
        → Performing room calls h₀ entry (i + 1) exit r
    goes_on {r = r} {exit = exit} same some did =
        let step : state_of r exit ≡ (after_call (length entry) (call_of this) (state_of h crumbs)).state =
        did.same ∙ ap (λ (n : ℕ). (after_call n (call_of this) (state_of h crumbs)).state) p.long in
        record {
          to-come =
              ap (λ (x : State). (run (length entry) rest x).state) step
              ∙ (sym (run-first (length entry) (call_of this) rest (state_of h crumbs))
              ∙ (ap (λ (l : List rule.Call). (run (length entry) l (state_of h crumbs)).state) (sym (told same some)) ∙ p.to-come));
          long = did.size ∙ p.long;
        }
