-- `trail::Trail::simplify` flushes the window where it has to, and then has the place wait.
use native.Mathlib.Omega.{arith}
use Rattle.std.proofs.lemmas.Bool.{eq-eqb, ne_eqb}
use Rattle.trail.specs.Trail.{window_places}
use Rattle.trail.proofs.Recording.{room-to-wait, strayed, filled, straight, simplifies-bends, simplifies-straight}
use Rattle.trail.proofs.Trail.simplify.Goals as goal
use Rattle.trail.proofs.Trail.simplify.Goals.{then-strays-via-then-strays, then-strays-via-else-strays+then-self-eq-WINDOW}

pub wait-requires : goal.wait-requires
wait-requires c =
    room-to-wait c.flush-thinned.ensures

pub returns-then-strays : goal.returns-then-strays
returns-then-strays c =
    let is = c.strays.ensures in
    let a = c.args in
    simplifies-bends a.self.now _ _ a.anchor a.p
    (elim c.then-strays.branch [
      | then-strays-via-then-strays w ↦ strayed a.self.now _ _ a.anchor a.p is w.if-strays.true
      | then-strays-via-else-strays+then-self-eq-WINDOW w ↦
          filled a.self.now _ _ a.anchor a.p is (eq-eqb a.self.now.window_len window_places w.if-self-eq-WINDOW.true)
    ])
    c.flush-thinned.ensures c.wait.ensures

pub wait-requires-2 : goal.wait-requires-2
wait-requires-2 c =
    omega arith

pub returns : goal.returns
returns c =
    let a = c.args in
    simplifies-straight a.self.now _ _ a.anchor a.p c.requires
    (straight a.self.now _ _ a.anchor a.p c.strays.ensures c.if-strays.false
    (ne_eqb a.self.now.window_len window_places c.if-self-eq-WINDOW.false))
    c.wait-2.ensures
