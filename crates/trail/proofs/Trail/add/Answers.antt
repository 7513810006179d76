-- `trail::Trail::add` keeps the first place, ignores one that is too near, and has any other wait.
use native.Mathlib.Omega.{arith}
use lib.Ieee.{of_bits, round}
use Rattle.binary32.specs.Arithmetic.{constant}
use Rattle.trail.specs.Trail.{min_step_m}
use Rattle.crumbs.proofs.Crumbs.{length-crumbs}
use Rattle.trail.proofs.Recording.{adds-first, adds-near, adds-far}
use Rattle.trail.proofs.Trail.add.Goals as goal

pub returns-then-self-eq0 : goal.returns-then-self-eq0
returns-then-self-eq0 c =
    let a = c.args in
    adds-first a.self.now _ _ a.p c.if-self-eq0.true (c.keep.ensures a.window.now)

pub end-anchor-requires : goal.end-anchor-requires
end-anchor-requires c = rw (c.new.ensures, length-crumbs) (omega arith)

pub returns-then-distance : goal.returns-then-distance
unfolding min_step_m constant round of_bits
returns-then-distance c =
    adds-near c.args.self.now _ _ c.args.p (omega (arith, c.if-self-eq0.false))
    (rw c.new.ensures at c.end-anchor.ensures) (rw c.last.ensures at c.unwrap_or-before.ensures) c.requires
    (rw c.distance.ensures at c.if-distance.true)

pub returns : goal.returns
unfolding min_step_m constant round of_bits
returns c =
    adds-far c.args.self.now _ _ c.args.p (omega (arith, c.if-self-eq0.false)) (rw c.new.ensures at c.end-anchor.ensures)
    (rw c.last.ensures at c.unwrap_or-before.ensures)
    (rw c.distance.ensures at c.if-distance.false) c.simplify.ensures
