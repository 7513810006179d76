-- `crumbs::put` writes the crumb's numbers.
use mathlib.Core.Path.{refl}
use native.Mathlib.Omega.{arith}
use lib.ListN.{length-set}
use Rattle.crumbs.specs.Inner.{put_at}
use Rattle.crumbs.proofs.put.Goals as goal

pub bounds-buf-at-2 : goal.bounds-buf-at-2
bounds-buf-at-2 c = simp length-set (omega arith)

pub bounds-buf-at-3 : goal.bounds-buf-at-3
bounds-buf-at-3 c = simp length-set (omega arith)

pub returns : goal.returns
unfolding put_at
returns c = refl
