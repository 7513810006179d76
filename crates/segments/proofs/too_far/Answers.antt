-- `segments::too_far` meets its contract: what its square says is further off than 25 m has no cost.
use mathlib.Core.Logic.{inl, inr}
use Rattle.segments.proofs.Ranging.{not-told, far-on, far-ahead}
use Rattle.segments.proofs.too_far.Goals as goal

pub returns-in-Plain : goal.returns-in-Plain
returns-in-Plain c e = not-told e

pub returns-in-On : goal.returns-in-On
returns-in-On c h end =
    elim c.in-On.is [
      | inl e ↦ far-on _ _ _ _ c.square-square.ensures e.2 h end
      | inr e ↦ far-ahead _ _ _ _ c.square-square.ensures e.1 h end
    ]
