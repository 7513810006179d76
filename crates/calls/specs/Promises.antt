-- What a call promises: its answer in document 01's terms, and what it does to the state and the crumb buffer.
use Rattle.std.specs.Prelude.{ℕ, max, ◌≡◌, cond, List, eqb, length, Float, Result, Ok, Err}
use Rattle.refusal.specs.declared.Refusal.{Refusal}
use Rattle.refusal.specs.Refusal.{number}
use Rattle.crumbs.specs.Crumb.{behind}
use Rattle.state.specs.declared.Homing.{Homing}
use Rattle.state.specs.State.{state_of}
use Rattle.calls.specs.Calls.{Call, asks, after_call}

-- "A refusal carries its number"; otherwise the rule's answer
pub data Answer (A : Type 0) : Type 0 where
  refused : ℕ → Answer A
  gives : A → Answer A

-- what a call's result says: "A refusal carries its number"
abbrev pub says : {A : Type 0} → Result A Refusal → Answer A
says (Ok x) = gives x
says (Err q) = refused (number q)

-- the answer of a call, by the number of the first question that says no, 0 where none does
unfoldable pub answer : {A : Type 0} → ℕ → A → Answer A
answer number a = cond (eqb number 0) (gives a) (refused number)

-- The call c takes the state h and its crumb buffer to the state r and its crumb buffer.
pub record Called (c : Call) (h : Homing) (entry : List Float) (r : Homing) (exit : List Float) : Type 0 where
  pub same : state_of r exit ≡ (after_call (length entry) c (state_of h entry)).state
  -- "changes nothing"
  pub refused : (asks (length entry) c (state_of h entry) ≡ 0 → ⊥) → (r ≡ h) × (exit ≡ entry)
  pub size : length exit ≡ length entry
  -- The numbers behind the crumbs held before and after are unchanged. Free are those behind the crumbs held after, where there are fewer,
  -- and the numbers of the window that belong to no waiting place.
  pub beyond : behind (max h.trail.len r.trail.len) exit ≡ behind (max h.trail.len r.trail.len) entry
