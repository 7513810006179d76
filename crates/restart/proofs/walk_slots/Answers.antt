-- `restart::walk_slots` meets its contract: each slot with a record is looked at, and those behind the chain's end are passed at once.
use native.Mathlib.Omega.{arith}
use Rattle.std.proofs.lemmas.List.{length_push}
use Rattle.std.proofs.lemmas.Iterator.Consumers.{YieldsList-turn, YieldsList-end}
use Rattle.restart.proofs.Slots.{meets}
use Rattle.restart.proofs.Stepping.{going_start, going-count, going-room, going-stays, going_on, going-end}
use Rattle.restart.proofs.walk_slots.Goals as goal

pub loop-index-init : goal.loop-index-init
loop-index-init c = (
  going_start c.stop_at-stop.ensures c.requires.trail_fit,
  meets c.args.file.now c.of.ensures.which c.skip.ensures.source c.skip.ensures.count c.take-index-items.ensures.source
      c.take-index-items.ensures.count
      c.into_iter-index-iterator.ensures.into_iter_gives,
)

pub look-requires-clause-count_bound : goal.look-requires-clause-count_bound
look-requires-clause-count_bound c =
    let l = c.loop-index in
    let t = YieldsList-turn l.invariant.1 l.yielded _ l.yielded_by _ _ c.in-Some.index c.in-Some.is c.next.ensures.steps in
    going-count l.invariant.0 t.0 t.1 c.entry_at.ensures c.requires.file_value

pub overflow_add-r : goal.overflow_add-r
overflow_add-r c =
    let l = c.loop-index in
    let t = YieldsList-turn l.invariant.1 l.yielded _ l.yielded_by _ _ c.in-Some.index c.in-Some.is c.next.ensures.steps in
    let room = going-room l.invariant.0 t.0 t.1 in
    let same = going-stays l.invariant.0 t.0 t.1 c.entry_at.ensures c.look.ensures in
    record { fits = omega (arith, room, same, c.stop_at-stop.type_inv) }

pub loop-index-preserved : goal.loop-index-preserved
loop-index-preserved c =
    let l = c.loop-index in
    let t = YieldsList-turn l.invariant.1 l.yielded _ l.yielded_by _ _ c.in-Some.index c.in-Some.is c.next.ensures.steps in
    (rw (length_push l.yielded c.in-Some.index) (going_on l.invariant.0 t.0 t.1 c.entry_at.ensures c.look.ensures), l.invariant.1)

pub returns : goal.returns
returns c =
    let l = c.loop-index in
    going-end l.invariant.0 (YieldsList-end l.invariant.1 l.yielded _ l.yielded_by _ _ c.in-None.is c.next.ensures.steps).1
