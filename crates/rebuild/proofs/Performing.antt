-- Calls performed one after the other: in two parts, and the most crumbs held on the way. Assumes nothing.
use mathlib.Core.Path.{◌≡◌, refl, sym, ap, ◌∙◌}
use Prim.Native.Nat.{ℕ, ◌≤◌, max}
use native.Mathlib.Omega.{arith}
use native.Mathlib.Nat.{le_refl}
use mathlib.Core.List.{List, [], ◌∷◌, ◌++◌, append_assoc}
use lib.ListN.{length}
use Rattle.trail.specs.Notes.{Note}
use Rattle.state.specs.State.{State}
use Rattle.state.specs.Rule.{Done, and_then}
use Rattle.calls.specs.Calls.{Call, performs}
use Rattle.rebuild.specs.Made.{perform, most_held}

-- three things one after the other, the last two taken together or the first two
abbrev following : {A : Type 0} → List Note → Done A → Done A
following notes d = record { answer = d.answer; state = d.state; notes = notes ++ d.notes }

pub performed-both : (C : ℕ) (xs ys : List Call) (s : State)
    → perform C (xs ++ ys) s ≡ and_then (perform C xs s) λ _ after. perform C ys after
unfolding perform
performed-both C [] ys s = refl
performed-both C (c ∷ xs) ys s =
    let d = performs C c s in
    let mid = perform C xs d.state in
    let last = perform C ys mid.state in
    ap (following d.notes) (performed-both C xs ys d.state)
    ∙ ap (λ (notes : List Note). record { answer = last.answer; state = last.state; notes = notes })
    (sym (append_assoc d.notes mid.notes last.notes))

-- ---- the most crumbs held
max-same-left : (a b c : ℕ) → b ≤ c → max a b ≤ max a c
max-same-left a b c h = omega arith

max-right : (a b c : ℕ) → b ≤ c → b ≤ max a c
max-right a b c h = omega arith

max-left : (a b : ℕ) → a ≤ max a b
max-left a b = omega arith

held_first : (C : ℕ) (calls : List Call) (s : State) → length s.track.crumbs ≤ most_held C calls s
unfolding most_held
held_first C [] s = le_refl _
held_first C (c ∷ calls) s = max-left _ _

pub most-front : (C : ℕ) (xs ys : List Call) (s : State) → most_held C xs s ≤ most_held C (xs ++ ys) s
unfolding most_held
most-front C [] ys s = held_first C ys s
most-front C (c ∷ xs) ys s = max-same-left (length s.track.crumbs) _ _ (most-front C xs ys (performs C c s).state)

pub most-rest : (C : ℕ) (xs ys : List Call) (s : State) → most_held C ys (perform C xs s).state ≤ most_held C (xs ++ ys) s
unfolding most_held perform
most-rest C [] ys s = le_refl _
most-rest C (c ∷ xs) ys s = max-right (length s.track.crumbs) _ _ (most-rest C xs ys (performs C c s).state)
