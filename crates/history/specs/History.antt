-- Demand 3 of the program: what holds of a guide after a list of calls, and every way to come there. Document 01, "Journal".
use Rattle.std.specs.Prelude.{ℕ, ◌*◌, ◌≤◌, ◌≡◌, List, [], ◌∷◌, ◌++◌, map, length, Float}
use Rattle.plane.specs.declared.Point.{Point}
use Rattle.crumbs.specs.Crumb.{stride, capacity, crumbs, in_front, point}
use Rattle.state.specs.declared.Homing.{Homing}
use Rattle.state.specs.State.{state_of}
use Rattle.calls.specs.Line as rule
use Rattle.calls.specs.Calls.{Call}
use Rattle.calls.specs.Promises.{Called}
use Rattle.journal.specs.Claim.{Claim}
use Rattle.journal.specs.Journal.{journal}

-- "the front part that `crumbs` would return after the list's last call, were no question put to it"
unfoldable pub front : Homing → List Float → List Float
front h b = in_front h.trail.len b

-- "Places held are east and north of each crumb in the front part"
unfoldable pub held : Homing → List Float → List Point
held h b = map point (crumbs (capacity (length (front h b))) (front h b))

-- A guide with room for C crumbs, its state h and its crumb buffer b, after the calls cs.
pub record Holds (C : ℕ) (cs : List Call) (h : Homing) (b : List Float) : Type 0 where
  -- the state is the journal's own, and so are the crumbs, number for number
  pub same : state_of h b ≡ (journal C cs).state
  -- those all lie in the buffer
  pub within : h.trail.len ≤ capacity (length b)
  -- the places held are, in order and to the bit, those that the journal then holds
  pub places : held h b ≡ map point (journal C cs).state.track.crumbs
  pub claim : Claim C (journal C cs).notes (held h b)

-- `Ran C cs h b`: a new guide on a buffer for C crumbs, whatever that held, came by the calls cs, in this order, to the state h and the
-- buffer b. Each call did what its contract promises, refused or not.
pub data Ran (C : ℕ) : List Call → Homing → List Float → Type 0 where
  new : {h : Homing} {b : List Float} → length b ≡ stride * C → state_of h b ≡ rule.new → Ran C [] h b
  called : {cs : List Call} {h r : Homing} {b b' : List Float} (c : Call) → Ran C cs h b → Called c h b r b' → Ran C (cs ++ c ∷ []) r b'

-- every way to come by calls to a state and a buffer, of every capacity a guide may have
abbrev pub EveryHistory : Type 0
EveryHistory = (C : ℕ) → 8 ≤ C → C ≤ 4096 → (cs : List Call) (h : Homing) (b : List Float) → Ran C cs h b → Holds C cs h b
