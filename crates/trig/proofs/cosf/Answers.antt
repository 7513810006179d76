-- `trig::cosf` meets its contract: each answer by the test that led there.
use Rattle.trig.specs.Fix.{cos}
use Rattle.trig.proofs.Constants.{half_pi-is, quarter_pi-is}
use Rattle.trig.proofs.cosf.Goals as goal

pub returns-then-a : goal.returns-then-a
unfolding cos
returns-then-a c = rw (c.near_cos.ensures, ← c.fabsf-a.ensures, ← quarter_pi-is, c.if-a.true, cos)

pub returns-else-a : goal.returns-else-a
unfolding cos
returns-else-a c =
    let t = rw (c.fabsf-a.ensures, quarter_pi-is) at c.if-a.false in
    rw (c.far_cos.ensures, c.fabsf-a.ensures, half_pi-is, t, cos)
