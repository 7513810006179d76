-- `trail::Trail::strays` looks at each place that waits: none before the present one strays.
use mathlib.Core.Path.{◌≡◌, sym}
use mathlib.Core.Bool.{true, false}
use lib.Ieee.{lt}
use Rattle.plane.specs.Plane.{off_segment}
use native.Mathlib.Omega.{arith}
use Rattle.trail.specs.View.{waiting_at}
use Rattle.trail.proofs.Window.{strays-none, strays-next, strays-found}
use Rattle.trail.proofs.Trail.strays.Goals as goal

pub loop-i-init : goal.loop-i-init
loop-i-init c = (omega arith, strays-none _ _ _ _)

pub returns-then-off_segment-self : goal.returns-then-off_segment-self
returns-then-off_segment-self c =
    let a = c.args in
    let far : lt a.self.now.tolerance (off_segment (waiting_at a.window.now c.loop-i.i) a.anchor a.p)
    ≡ true =
    simp (← c.waiting-w.ensures, ← c.off_segment.ensures) c.if-off_segment-self.true in
    sym (strays-found a.self.now.tolerance a.anchor a.p a.window.now a.self.now.window_len c.loop-i.i
    c.loop-i-test.true far)

pub loop-i-preserved : goal.loop-i-preserved
loop-i-preserved c =
    let a = c.args in
    let near : lt a.self.now.tolerance (off_segment (waiting_at a.window.now c.loop-i.i) a.anchor a.p)
    ≡ false =
    simp (← c.waiting-w.ensures, ← c.off_segment.ensures) c.if-off_segment-self.false in (
      omega arith,
      strays-next a.self.now.tolerance a.anchor a.p a.window.now c.loop-i.i
          c.loop-i.invariant.1 near,
    )

pub returns : goal.returns
returns c =
    let e : c.loop-i.i ≡ c.args.self.now.window_len = omega arith in
    sym (rw e at c.loop-i.invariant.1)
