-- The lap at a position, by whether the rider has moved. Assumes nothing.
use mathlib.Core.Path.{◌≡◌, refl, sym, ap, ◌∙◌}
use mathlib.Core.Bool.{Bool, true, false, ◌||◌}
use lib.Ieee.{Float}
use Rattle.plane.specs.declared.Point.{Point}
use Rattle.std.specs.Prelude.{Option, Some, None, ℕ}
use Rattle.std.specs.Option.{is_some}
use Rattle.plane.specs.Plane.{distance}
use Rattle.lap.specs.declared.Lap.{Lap}
use Rattle.lap.specs.declared.StartPass.{StartPass}
use Rattle.lap.specs.Pass.{Stepped, step_of}
use Rattle.lap.specs.Lap.{moving_at, lap_start, step_from, step_pass}

moves : (heading : Option ℕ) → is_some heading ≡ moving_at heading
unfolding moving_at
moves (Some h) = refl
moves None = refl

module _ (l : Lap) (p : Point) (heading : Option ℕ) (m : Bool) (s t : Option Point) (is : m ≡ is_some heading)
    (starts : s ≡ lap_start m l.start p) (told : s ≡ t) where
  from : step_from t l p m ≡ step_pass l p heading
  unfolding step_pass
  from = ap (λ (x : Option Point). step_from x l p m) (sym told ∙ starts)
      ∙ ap (λ (x : Bool). step_from (lap_start x l.start p) l p x) (is ∙ moves heading)

-- before the rider has moved
pub unmoved : (l : Lap) (p : Point) (heading : Option ℕ) (m : Bool) (s : Option Point) → m ≡ is_some heading → s ≡ lap_start m l.start p
    → s ≡ None → record { pass = l.pass; start = s; passed = l.passed } ≡ step_pass l p heading
unfolding step_from
unmoved l p heading m s is starts told =
    let lap : Option Point → Lap = λ (x : Option Point). record { pass = l.pass; start = x; passed = l.passed } in
    ap lap told ∙ from l p heading m s None is starts told

abbrev pub lap_of : Lap → StartPass → Option Point → Bool → Lap
lap_of l pass start completed = record { pass = pass; start = start; passed = completed || l.passed }

-- a pass completed, or not
module _ (l : Lap) (p q : Point) (heading : Option ℕ) (m : Bool) (s : Option Point) (is : m ≡ is_some heading)
    (starts : s ≡ lap_start m l.start p) (told : s ≡ Some q) (d : Float) (far : d ≡ distance p q) (pass : StartPass) (passed : Bool)
    (steps : (pass ≡ (step_of l.pass d m).pass) × (passed ≡ (step_of l.pass d m).passed)) where
  after : lap_of l pass s passed ≡ step_pass l p heading
  unfolding step_from
  after =
      let e = step_of l.pass (distance p q) m in
      let at : (step_of l.pass d m ≡ e) = ap (λ (x : Float). step_of l.pass x m) far in
      ap (λ (x : StartPass). lap_of l x s passed) (steps.0 ∙ ap (λ (x : Stepped). x.pass) at)
      ∙ ap (λ (x : Option Point). lap_of l e.pass x passed) told
      ∙ ap (λ (x : Bool). lap_of l e.pass (Some q) x) (steps.1 ∙ ap (λ (x : Stepped). x.passed) at)
      ∙ from l p heading m s (Some q) is starts told

  pub completed : passed ≡ true → record { pass = pass; start = s; passed = true } ≡ step_pass l p heading
  completed t = ap (λ (x : Bool). lap_of l pass s x) (sym t) ∙ after

  pub went_on : passed ≡ false → record { pass = pass; start = s; passed = l.passed } ≡ step_pass l p heading
  went_on t = ap (λ (x : Bool). lap_of l pass s x) (sym t) ∙ after
