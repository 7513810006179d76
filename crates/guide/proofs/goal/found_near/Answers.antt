-- `guide::goal::found_near` meets its contract: the nearest segment lies near where some does.
use Prim.Native.Nat.{◌-◌}
use mathlib.Core.Path.{sym, ap, ◌∙◌}
use Rattle.guide.specs.Near.{some_near}
use native.Mathlib.Omega.{arith}
use Rattle.guide.proofs.goal.Nearing.{near_none, near-lost, near-some}
use Rattle.guide.proofs.goal.found_near.Goals as goal

pub returns-then-len-lt2 : goal.returns-then-len-lt2
returns-then-len-lt2 c = near_none _ _ (sym c.len-len.ensures) (omega arith)

pub returns-then-not-is_nan : goal.returns-then-not-is_nan
returns-then-not-is_nan c =
    near-some _ _ (sym c.len-len.ensures) (omega arith) c.square_on-first.ensures (sym c.is_nan.ensures.value ∙ c.if-not-is_nan.true)
    (c.some_near.ensures ∙ ap (λ n. some_near c.args.course.now c.args.p (n - 1)) (sym c.len-len.ensures))

pub returns : goal.returns
returns c =
    near-lost _ _ (sym c.len-len.ensures) (omega arith) c.square_on-first.ensures (sym c.is_nan.ensures.value ∙ c.if-not-is_nan.false)
