-- `search::quick::plainly_within` meets its contract: the lead by squares follows the rule's best.
use Prim.Native.Nat.{◌+◌, ◌-◌}
use mathlib.Core.Path.{◌≡◌, subst}
use native.Mathlib.Nat.{lt_of_le_of_lt}
use native.Mathlib.Omega.{arith}
use Rattle.search.specs.Search.{nearest_within}
use Rattle.search.proofs.quick.Leading.{Chases, chases-start, chases-on, chases-none, chases-one, counted}
use Rattle.search.proofs.quick.Passing.{chases-passed}
use Rattle.search.proofs.quick.plainly_within.Goals as goal

pub loop-end-init : goal.loop-end-init
loop-end-init c =
    let last = c.over_rows-passed.result.end in
    let z : last ≡ last + 1 - 1 = omega arith in
    subst (Chases _ _ _ _ _) z (chases-passed _ _ _ _ c.requires.0 (chases-start _ _ _ _ _ _) c.over_rows-passed.ensures)

pub crumb-a-requires : goal.crumb-a-requires
crumb-a-requires c = omega (arith, c.loop-end.invariant.falls.upto)

pub crumb-b-requires : goal.crumb-b-requires
crumb-b-requires c = omega (arith, c.loop-end.invariant.falls.upto)

pub loop-end-preserved : goal.loop-end-preserved
loop-end-preserved c =
    chases-on _ _ _ _ c.loop-end.invariant c.requires.0 (omega arith)
    (c.consider-lead.ensures _ c.crumb-a.ensures c.crumb-b.ensures)

pub returns-then-lead-eq0 : goal.returns-then-lead-eq0
unfolding nearest_within
returns-then-lead-eq0 c = chases-none _ _ _ _ c.loop-end.invariant (omega arith) c.if-lead-eq0.true

pub nearest_on-near-requires : goal.nearest_on-near-requires
nearest_on-near-requires c =
    (counted _ c.if-lead-eq0.false, lt_of_le_of_lt c.loop-end.invariant.upto c.requires.1)

pub returns-then-sqrtf : goal.returns-then-sqrtf
unfolding nearest_within
returns-then-sqrtf c =
    chases-one _ _ _ _ c.loop-end.invariant (omega arith) c.if-lead-eq0.false c.sqrtf.ensures
    c.sqrtf-2.ensures c.if-sqrtf.true c.nearest_on-near.ensures

pub returns : goal.returns
returns c = c.nearest_within.ensures
