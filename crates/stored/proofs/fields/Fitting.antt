-- Each word of a field is within its type. Assumes nothing.
use Prim.Native.Nat.{ℕ, ◌≤◌, ◌-◌, ◌^◌}
use lib.IntN.{ℤ, pos, negsuc}
use mir.Syntax.{w32}
use mir.Val.{SFits}
use Rattle.std.specs.Int.{cast_unsigned}
use mathlib.Core.Path.{◌≡◌, refl, ap, ◌∙◌}
use mathlib.Core.Bool.{Bool, true, false, ◌&&◌}
use mathlib.Core.List.{List, [], ◌∷◌, ◌++◌}
use native.Mathlib.Omega.{arith}
use borrow.Author.Tests.{le-leb}
use lib.Dec.{leb}
use lib.ListN.{length}
use Rattle.std.specs.Prelude.{Option, Some, None}
use Rattle.lap.specs.declared.Stage.{Stage}
use Rattle.lap.specs.declared.Stage.TheVariants as stage
use Rattle.state.specs.declared.Line.{Line}
use Rattle.state.specs.declared.Line.TheVariants as line
use Rattle.state.specs.declared.Mode.{Mode}
use Rattle.state.specs.declared.Mode.TheVariants as mode
use Rattle.stored.specs.Fields.{within, flag_of, some_flag, line_tag, stage_tag, mode_tag}

-- words that are within
pub record Inside (ms w : List ℕ) : Type 0 where
  pub ok : within ms w ≡ true

pub none_left : Inside [] []
unfolding within
none_left = record { ok = refl }

pub and_in : {x m : ℕ} {ms w : List ℕ} → x ≤ m → Inside ms w → Inside (m ∷ ms) (x ∷ w)
unfolding within
and_in {x} {m} {ms} {w} h r = record { ok = ap (λ b. b && within ms w) (le-leb x m h) ∙ r.ok }

pub append-in : (ms w ns v : List ℕ) → length ms ≡ length w → within ms w ≡ true → within ns v ≡ true → within (ms ++ ns) (w ++ v) ≡ true
unfolding within
append-in [] [] ns v e a b = b
append-in [] (x ∷ w) ns v e a b = absurd (omega arith)
append-in (m ∷ ms) [] ns v e a b = absurd (omega arith)
append-in (m ∷ ms) (x ∷ w) ns v e a b =
    both (leb x m) (within ms w) (within (ms ++ ns) (w ++ v)) a (λ t. append-in ms w ns v (omega arith) t b)
  where
    both : (a b d : Bool) → (a && b) ≡ true → (b ≡ true → d ≡ true) → (a && d) ≡ true
    both true b d h f = f h
    both false b d h f = h

pub and-part : (ms w : List ℕ) {ns v : List ℕ} → length ms ≡ length w → within ms w ≡ true → Inside ns v → Inside (ms ++ ns) (w ++ v)
and-part ms w {ns} {v} e a b = record { ok = append-in ms w ns v e a b.ok }

pub flag-most : (b : Bool) → flag_of b ≤ 1
flag-most true = omega arith
flag-most false = omega arith

pub some-most : {A : Type 0} (o : Option A) → some_flag o ≤ 1
some-most (Some x) = omega arith
some-most None = omega arith

pub line-most : (l : Line) → line_tag l ≤ 2
line-most line.Nothing = omega arith
line-most line.Breadcrumb = omega arith
line-most line.Course = omega arith

pub stage-most : (s : Stage) → stage_tag s ≤ 2
stage-most stage.Spent = omega arith
stage-most stage.Armed = omega arith
stage-most stage.Inside = omega arith

pub mode-most : (m : Mode) → mode_tag m ≤ 3
mode-most mode.Direct = omega arith
mode-most mode.Track = omega arith
mode-most mode.OffTrack = omega arith
mode-most mode.Arrived = omega arith

pub bits-most : (z : ℤ) → SFits w32 z → cast_unsigned w32 z ≤ 2 ^ 32 - 1
bits-most (pos n) f = omega (arith, f.sfits)
bits-most (negsuc n) f = omega arith
