-- What a call with both buffers is asked: what it is asked beside its line, and then what the line adds. Assumes nothing.
use Prim.Native.Nat.{ℕ}
use mathlib.Core.Path.{◌≡◌, refl}
use mathlib.Core.Bool.{Bool, true, false, ◌&&◌}
use mathlib.Core.List.{List}
use lib.Ieee.{Float}
use lib.ListN.{length}
use Rattle.crumbs.specs.Crumb.{capacity}
use Rattle.state.specs.State.{State}
use Rattle.calls.specs.Questions.{question1, question4, state_fits, held_fits, line_fits, asks_crumbs, asks_both, unless, ◌or_else◌}

split : (q1 held line : Bool) (four : ℕ)
    → (unless q1 1 or_else unless (held && line) 10 or_else four)
    ≡ ((unless q1 1 or_else unless held 10) or_else unless line 10 or_else four)
split false held line four = refl
split true false line four = refl
split true true line four = refl

pub both_split : (size : ℕ) (b : List Float) (s : State)
    → asks_both size b s ≡ (asks_crumbs size s or_else unless (line_fits b s.course) 10 or_else unless (question4 (length b) 0) 4)
unfolding asks_both asks_crumbs
both_split size b s =
    let four = unless (question4 (length b) 0) 4 in
    split (question1 size) (state_fits s && held_fits (capacity size) s) (line_fits b s.course) four
