-- Calls of which none is refused.
use Prim.Native.Nat.{ℕ}
use mathlib.Core.Path.{◌≡◌}
use mathlib.Core.List.{List, [], ◌∷◌}
use Rattle.state.specs.State.{State}
use Rattle.calls.specs.Calls.{Call, asks, after_call}

abbrev pub NoneRefused : ℕ → State → List Call → Type 0
NoneRefused size s [] = Unit {0}
NoneRefused size s (c ∷ cs) = (asks size c s ≡ 0) × NoneRefused size (after_call size c s).state cs
