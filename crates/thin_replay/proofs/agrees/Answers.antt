-- `thin_replay::agrees` stays within the text and the buffer: no more crumbs are left than came in, in a buffer as long as before.
use Rattle.std.proofs.Common.{arith, ℕ}
use lib.Ieee.{Float}
use lib.ListN.{length-take}
use Rattle.thin.proofs.Answers.{left_is}
use Rattle.thin_replay.proofs.agrees.Goals as goal

pub slice_bounds-holds-end : goal.slice_bounds-holds-end
slice_bounds-holds-end g c =
    let l = left_is c.thin.ensures c.in-Ok.is in
    omega (arith, l.fewer, c.requires)

pub slice_bounds-holds-end-2 : goal.slice_bounds-holds-end-2
slice_bounds-holds-end-2 g c =
    let l = left_is c.thin.ensures c.in-Ok.is in
    omega (arith, length-take {A = ℕ}, l.fewer, c.requires)

pub slice_bounds-holds-end-3 : goal.slice_bounds-holds-end-3
slice_bounds-holds-end-3 g c =
    let l = left_is c.thin.ensures c.in-Ok.is in
    omega (arith, l.fewer, c.requires, c.thin.ensures.size)

pub slice_bounds-holds-end-4 : goal.slice_bounds-holds-end-4
slice_bounds-holds-end-4 g c =
    let l = left_is c.thin.ensures c.in-Ok.is in
    omega (arith, length-take {A = Float}, l.fewer, c.requires, c.thin.ensures.size)
