-- What a rule of the rebuild gives. Document 01, "Journal": "A call of `Rebuild` counts as the guide's calls it makes": a rule gives those
-- calls, and what it does to the guide is what they do.
use Rattle.std.specs.Prelude.{ℕ, max, List, [], ◌∷◌, ◌++◌, length}
use Rattle.state.specs.State.{State}
use Rattle.state.specs.Rule.{Done, done, and_then}
use Rattle.calls.specs.Calls.{Call, performs}
use Rattle.rebuild.specs.declared.Rebuild.{Rebuild}

-- the rebuild after a rule, and the guide's calls it makes, in order
pub record Made : Type 0 where
  pub rebuild : Rebuild
  pub calls : List Call

abbrev pub making : List Call → Rebuild → Made
making calls r = record { rebuild = r; calls = calls }

-- no call is made
abbrev pub quiet : Rebuild → Made
quiet r = making [] r

-- one thing, and then another that goes by the rebuild after it
infixl 1 ◌then◌
abbrev pub ◌then◌ : Made → (Rebuild → Made) → Made
◌then◌ m f = let n = f m.rebuild in record { rebuild = n.rebuild; calls = m.calls ++ n.calls }

-- ---- what the calls do, in the guide's own rules
-- one after the other; C is how many crumbs there is room for
unfoldable pub perform : ℕ → List Call → State → Done (Unit {0})
perform C [] s = done tt s
perform C (c ∷ calls) s = and_then (performs C c s) λ _ after. perform C calls after

-- a rule of the rebuild as a rule of the guide: the rebuild after it, the guide's state after it, and what is noted
abbrev pub effect : Made → ℕ → State → Done Rebuild
effect m C s = let d = perform C m.calls s in record { answer = m.rebuild; state = d.state; notes = d.notes }

-- the most crumbs held before, between and after the calls
unfoldable pub most_held : ℕ → List Call → State → ℕ
most_held C [] s = length s.track.crumbs
most_held C (c ∷ calls) s = max (length s.track.crumbs) (most_held C calls (performs C c s).state)
