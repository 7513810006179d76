-- `search::quick::nearest_on_breadcrumb` meets its contract: the lead by squares follows the rule's best.
use native.Mathlib.Nat.{lt_of_le_of_lt}
use native.Mathlib.Omega.{arith}
use Rattle.search.proofs.Searching.{breadcrumb-is}
use Rattle.search.proofs.quick.Leading.{Raced, races-start, races-on, raced, races-none, races-one, counted}
use Rattle.search.proofs.quick.nearest_on_breadcrumb.Goals as goal
use Rattle.search.proofs.quick.nearest_on_breadcrumb.Goals.{Left-loop-end, else-loop-end-test, then-loop-end-test+else-end-end-end}

pub loop-end-init : goal.loop-end-init
loop-end-init c = races-start _ _ _ _ _ _

pub crumb-a-requires : goal.crumb-a-requires
crumb-a-requires c = omega (arith, c.loop-end.invariant.rises.from)

pub crumb-b-requires : goal.crumb-b-requires
crumb-b-requires c = omega (arith, c.loop-end.invariant.rises.from)

pub loop-end-preserved : goal.loop-end-preserved
loop-end-preserved c =
    races-on _ _ _ _ c.loop-end.invariant c.requires.0 (omega arith)
    (c.consider-lead.ensures _ c.crumb-a.ensures c.crumb-b.ensures)

-- behind the loop no end is left
behind : (c : Left-loop-end) → Raced c.args.line.now c.args.p c.anywhere-within.result c.args.ends c.loop-end-test.lead
behind c =
    elim c.loop-end-test.branch [
      | else-loop-end-test w ↦ raced _ _ _ _ c.loop-end.invariant (omega arith) w.lead-is
      | then-loop-end-test+else-end-end-end w ↦
          raced _ _ _ _ (races-on _ _ _ _ c.loop-end.invariant c.requires.0 (omega arith)
          (w.consider-lead.ensures _ w.crumb-a.ensures w.crumb-b.ensures)) (omega arith) w.lead-is
    ]

pub returns-then-lead-eq0 : goal.returns-then-lead-eq0
returns-then-lead-eq0 c =
    breadcrumb-is _ _ _ (races-none _ _ _ _ (behind (goal.at.returns-then-lead-eq0 c).Left-loop-end) c.if-lead-eq0.true)
    c.anywhere-within.ensures

pub nearest_on-near-requires : goal.nearest_on-near-requires
nearest_on-near-requires c =
    let v = behind (goal.at.nearest_on-near-requires c).Left-loop-end in
    (counted _ c.if-lead-eq0.false, lt_of_le_of_lt v.races.upto c.requires.1)

pub returns-then-sqrtf : goal.returns-then-sqrtf
returns-then-sqrtf c =
    breadcrumb-is _ _ _ (races-one _ _ _ _ (behind (goal.at.returns-then-sqrtf c).Left-loop-end) c.if-lead-eq0.false
    c.sqrtf.ensures c.sqrtf-2.ensures c.if-sqrtf.true c.nearest_on-near.ensures) c.anywhere-within.ensures

pub returns : goal.returns
returns c = c.nearest_on_breadcrumb.ensures
