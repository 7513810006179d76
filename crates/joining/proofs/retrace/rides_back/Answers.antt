-- `joining::retrace::rides_back` meets its contract.
use mathlib.Core.Path.{sym, subst, ◌∙◌}
use lib.Ieee.{of_bits}
use lib.ListN.{length}
use Rattle.binary32.specs.Arithmetic.{constant}
use Rattle.std.specs.Prelude.{Option}
use Rattle.segments.specs.declared.costs.Nearest.{Nearest}
use Rattle.segments.specs.Inner.{InLine}
use Rattle.crumbs.proofs.Lengths.{long, short}
use Rattle.search.proofs.Theorems.{ends-at-most}
use Rattle.joining.specs.Retrace.{retrace_skip_m, rides_back}
use Rattle.joining.proofs.retrace.Turning.{before-in-line}
use Rattle.joining.proofs.retrace.rides_back.Goals as goal

pub returns-in_default : goal.returns-in_default
unfolding rides_back
returns-in_default c = simp c.in_default.is

pub returns-in_default-length_m : goal.returns-in_default-length_m
unfolding rides_back
returns-in_default-length_m c = simp (c.in-Some.is, short c.args.crumbs.now (sym c.length_m.ensures ∙ c.in_default-length_m.is))

pub nearest_before-best-requires : goal.nearest_before-best-requires
nearest_before-best-requires c = rw c.ends-n.ensures (ends-at-most _ _)

pub against_near-requires : goal.against_near-requires
against_near-requires c =
    let l = c.args.crumbs.now in
    subst (λ (best : Option Nearest). InLine (length l) best) (sym c.nearest_before-best.ensures)
    (before-in-line l c.args.p c.ends-n.result (length l) (rw c.ends-n.ensures (ends-at-most _ _)))

pub returns : goal.returns
unfolding rides_back retrace_skip_m constant of_bits
returns c =
    let k = long c.args.crumbs.now (sym c.length_m.ensures ∙ c.in-Some-length_m.is) in
    simp (
      c.in-Some.is,
      k.0,
      k.1,
      c.against_near.ensures,
      c.nearest_before-best.ensures,
      c.ends-n.ensures,
    )
