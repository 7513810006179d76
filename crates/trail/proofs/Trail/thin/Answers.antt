-- `trail::Trail::thin` thins, and recomputes along: the call of `thin::thin` is never refused.
use Rattle.trail.proofs.Tracks.{taken, room-left, thins}
use Rattle.trail.proofs.Trail.thin.Goals as goal

pub returns-in_default : goal.returns-in_default
returns-in_default c = λ w.
    absurd (taken c.requires c.thin.ensures c.in_default.is)

pub realong-requires : goal.realong-requires
realong-requires c =
    room-left c.requires c.thin.ensures c.in-Ok.is

pub returns : goal.returns
returns c = λ w.
    thins c.requires c.thin.ensures c.in-Ok.is w
    c.realong.ensures
