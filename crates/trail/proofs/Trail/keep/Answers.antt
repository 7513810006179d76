-- `trail::Trail::keep` puts the crumb behind those held, or behind those that a thinning leaves.
use mathlib.Core.Path.{sym, ◌∙◌}
use mathlib.Core.List.{[]}
use Rattle.trail.proofs.Recording.{room-behind, keeps-full, keeps-room}
use Rattle.trail.proofs.Trail.keep.Goals as goal

pub put-requires : goal.put-requires
put-requires c =
    let thinned = c.thin.ensures [] in
    (thinned.fit, room-behind c.requires thinned)

pub returns-then-self-capacity : goal.returns-then-self-capacity
returns-then-self-capacity c =
    λ w.
    keeps-full c.args.self.now w _ c.args.p c.requires
    (c.if-self-capacity.true
    ∙ c.capacity.ensures)
    (c.thin.ensures w) (c.put.ensures w)

pub returns-else-self-capacity : goal.returns-else-self-capacity
returns-else-self-capacity c = λ w.
    keeps-room c.args.self.now w _ c.args.p
    (λ e. c.if-self-capacity.false (e ∙ sym c.capacity.ensures))
    (c.put-else-self-capacity.ensures w)
