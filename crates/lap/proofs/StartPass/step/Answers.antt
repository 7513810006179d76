-- `lap::StartPass::step` meets its contract. Each return goes by the stage that the match told and by the test that led there.
use mathlib.Core.Path.{◌≡◌, refl, sym, ap, ◌∙◌}
use mathlib.Core.Bool.{Bool}
use lib.Ieee
use lib.Ieee.{Float}
use Rattle.binary32.specs.Arithmetic.{constant}
use Rattle.lap.specs.declared.Stage.{Stage}
use Rattle.lap.specs.declared.StartPass.{StartPass}
use Rattle.lap.specs.Pass.{Stepped, stepped, pass_arm_m, pass_m, pass_end_m, from_stage, step_of}
use Rattle.lap.proofs.StartPass.step.Goals as goal

-- what comes of a stage comes of the pass that is at it
module _ (p : StartPass) (d : Float) (moving : Bool) {k : Stage} (is : p.stage ≡ k) {l : Stage} {b : Bool}
    (comes : from_stage k d moving ≡ stepped l b) where
  told : step_of p d moving ≡ stepped l b
  unfolding step_of
  told = ap (λ (s : Stage). from_stage s d moving) is ∙ comes

  moves : (record { stage = l } ≡ (step_of p d moving).pass) × (b ≡ (step_of p d moving).passed)
  moves = (ap (λ (s : Stepped). s.pass) (sym told), ap (λ (s : Stepped). s.passed) (sym told))

  stays : k ≡ l → (p ≡ (step_of p d moving).pass) × (b ≡ (step_of p d moving).passed)
  stays same = (ap (λ (s : Stage). record { stage = s }) (is ∙ same) ∙ moves.0, moves.1)

pub returns-then-direct : goal.returns-then-direct
unfolding from_stage pass_arm_m constant Ieee.of_bits
returns-then-direct c = moves c.args.self.now c.args.direct c.args.moving c.in-Spent.is (rw c.if-direct.true)

pub returns-then-direct-2 : goal.returns-then-direct-2
unfolding from_stage pass_m constant Ieee.of_bits
returns-then-direct-2 c = moves c.args.self.now c.args.direct c.args.moving c.in-Armed.is (rw c.if-direct-2.true)

pub returns-then-direct-3 : goal.returns-then-direct-3
unfolding from_stage pass_end_m constant Ieee.of_bits
returns-then-direct-3 c = moves c.args.self.now c.args.direct c.args.moving c.in-Inside.is (rw c.if-direct-3.true)

pub returns-else-direct : goal.returns-else-direct
unfolding from_stage pass_arm_m constant Ieee.of_bits
returns-else-direct c = stays c.args.self.now c.args.direct c.args.moving c.in-Spent.is (rw c.if-direct.false) refl

pub returns-else-direct-2 : goal.returns-else-direct-2
unfolding from_stage pass_m constant Ieee.of_bits
returns-else-direct-2 c = stays c.args.self.now c.args.direct c.args.moving c.in-Armed.is (rw c.if-direct-2.false) refl

pub returns-else-direct-3 : goal.returns-else-direct-3
unfolding from_stage pass_end_m constant Ieee.of_bits
returns-else-direct-3 c = stays c.args.self.now c.args.direct c.args.moving c.in-Inside.is (rw c.if-direct-3.false) refl
