-- What one field wrote is read back. Assumes nothing.
use Prim.Native.Nat.{ℕ}
use mathlib.Core.Path.{◌≡◌, refl, ap, ◌∙◌}
use mathlib.Core.Bool.{Bool, true, false, cond}
use lib.Dec.{leb, eqb}
use lib.IntN.{ℤ}
use mir.Syntax.{w32}
use mir.Val.{SFits}
use mir.ValLaws.{to_z-of_z}
use Rattle.std.specs.Prelude.{Option, Some, None}
use Rattle.std.proofs.lemmas.Option.{none-some}
use Rattle.std.specs.Bool.{then_some}
use Rattle.std.specs.Int.{cast_signed, cast_unsigned}
use Rattle.std.specs.Option.{is_some, unwrap_or, IfSome}
use Rattle.lap.specs.declared.Stage.{Stage}
use Rattle.lap.specs.declared.Stage.TheVariants as stage
use Rattle.state.specs.declared.Line.{Line}
use Rattle.state.specs.declared.Line.TheVariants as line
use Rattle.state.specs.declared.Mode.{Mode}
use Rattle.state.specs.declared.Mode.TheVariants as mode
use Rattle.stored.specs.Fields.{most32, most16, line_of_tag, stage_of_tag, mode_of_tag, flag_of, some_flag, line_tag, stage_tag, mode_tag}

pub narrow-same : (most x : ℕ) → leb x most ≡ true → cond (leb x most) x 0 ≡ x
narrow-same most x h = ap (λ b. cond b x 0) h

pub flag_same : (b : Bool) → eqb (flag_of b) 1 ≡ b
flag_same true = refl
flag_same false = refl

pub line_same : (l : Line) → line_of_tag (line_tag l) ≡ l
line_same line.Nothing = refl
line_same line.Breadcrumb = refl
line_same line.Course = refl

pub stage-same : (s : Stage) → stage_of_tag (stage_tag s) ≡ s
stage-same stage.Spent = refl
stage-same stage.Armed = refl
stage-same stage.Inside = refl

pub mode-same : (m : Mode) → mode_of_tag (mode_tag m) ≡ m
mode-same mode.Direct = refl
mode-same mode.Track = refl
mode-same mode.OffTrack = refl
mode-same mode.Arrived = refl

-- a value that was given was held
pub then-held : {A : Type 0} (b : Bool) (x y : A) → then_some b x ≡ Some y → b ≡ true
then-held true x y e = refl
then-held false x y e = absurd (none-some y e)

-- a value that is made where a test holds
pub then-made : {A : Type 0} (o : Option A) (b : Bool) (x : A) {Q : A → Type 0} → is_some o ≡ b → IfSome o Q → ((y : A) → Q y → y ≡ x)
    → o ≡ then_some b x
then-made (Some y) b x e h k = ap Some (k y h) ∙ ap (λ t. then_some t x) e
then-made None b x e h k = ap (λ t. then_some t x) e

pub some-same : {A : Type 0} (o : Option A) (d : A) → then_some (eqb (some_flag o) 1) (unwrap_or o d) ≡ o
some-same (Some x) d = refl
some-same None d = refl

pub heading-back : (h : Option ℕ) → leb (unwrap_or h 0) most16 ≡ true
    → then_some (eqb (some_flag h) 1) (cond (leb (unwrap_or h 0) most16) (unwrap_or h 0) 0) ≡ h
heading-back h l = ap (then_some (eqb (some_flag h) 1)) (narrow-same most16 (unwrap_or h 0) l) ∙ some-same h 0

pub signed_back : (z : ℤ) → SFits w32 z → leb (cast_unsigned w32 z) most32 ≡ true
    → cast_signed w32 (cond (leb (cast_unsigned w32 z) most32) (cast_unsigned w32 z) 0) ≡ z
signed_back z f l = ap (cast_signed w32) (narrow-same most32 (cast_unsigned w32 z) l) ∙ to_z-of_z w32 z f
