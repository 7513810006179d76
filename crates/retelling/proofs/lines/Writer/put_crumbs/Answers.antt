-- `retelling::lines::Writer::put_crumbs` meets its contract.
use native.Mathlib.Omega.{arith}
use Rattle.retelling.proofs.lines.Numbers.{puts-no-crumb, puts-crumb, puts-crumbs}
use Rattle.retelling.proofs.lines.Writer.put_crumbs.Goals as goal

pub loop-i-init : goal.loop-i-init
loop-i-init c = puts-no-crumb _ _

pub crumb_at-requires : goal.crumb_at-requires
crumb_at-requires c = omega (arith, c.requires)

pub loop-i-preserved : goal.loop-i-preserved
loop-i-preserved c = puts-crumb _ _ c.crumb_at.ensures c.loop-i.invariant c.put_crumb.ensures

pub returns : goal.returns
returns c = puts-crumbs _ (omega arith) (omega arith) c.loop-i.invariant
