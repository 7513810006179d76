-- What the exported `thin` gives, by the promise of `thin` itself.
use Rattle.std.specs.Prelude.{ℕ, List, ◌≡◌, Float, Result, Ok, Err}
use Rattle.refusal.specs.declared.Refusal.{Refusal}
use Rattle.refusal.specs.Refusal.{number}
use Rattle.thin.specs.declared.Thinned.{Thinned}
use Rattle.thin.specs.Promises.{ThinDone}

-- what is written of an answer of `thin`: how many are left, the tolerance, the passes and the refusal's number; where it was refused the
-- tolerance and the passes are those that came in
abbrev pub thin_written : Result Thinned Refusal → Float → ℕ → ℕ × (Float × (ℕ × ℕ))
thin_written (Ok t) tolerance passes = (t.len, (t.tolerance, (t.passes, 0)))
thin_written (Err q) tolerance passes = (0, (tolerance, (passes, number q)))

pub record ThinsLent (n : ℕ) (entry : List Float) (tolerance : Float) (passes : ℕ) (exit : List Float) (tolerance' : Float)
    (passes' refused left : ℕ) : Type 0 where
  pub answer : Result Thinned Refusal
  pub thins : ThinDone n tolerance entry exit answer
  pub written : (left, (tolerance', (passes', refused))) ≡ thin_written answer tolerance passes
