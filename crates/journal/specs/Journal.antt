-- The journal. Document 01, "Journal": it "is fed C, `new` and the list's calls with their arguments, to which the lent line belongs,
-- whoever wrote it. From these alone it runs demand 2's rules, additions and questions included, on a state and crumbs of its own".
use Rattle.std.specs.Prelude.{ℕ, ◌*◌, List, [], ◌∷◌, map}
use Rattle.plane.specs.declared.Point.{Point}
use Rattle.crumbs.specs.Crumb.{stride, point}
use Rattle.state.specs.State.{State}
use Rattle.state.specs.Rule.{Done, done, and_then}
use Rattle.calls.specs.Line.{new}
use Rattle.calls.specs.Calls.{Call, after_call}

-- the calls one after the other, on a crumb buffer of `size` numbers: the state after them, and what they noted
unfoldable pub run : ℕ → List Call → State → Done (Unit {0})
run size [] s = done tt s
run size (c ∷ calls) s = and_then (after_call size c s) λ _ after. run size calls after

-- "It starts empty", with room for C crumbs
unfoldable pub journal : ℕ → List Call → Done (Unit {0})
journal C calls = run (stride * C) calls new

-- "Places held are east and north of each crumb"; "the journal's are those of its own crumbs"
abbrev pub held_in : State → List Point
held_in s = map point s.track.crumbs
