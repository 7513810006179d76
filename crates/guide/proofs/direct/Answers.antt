-- `guide::direct` meets its contract.
use lib.Ieee.{of_bits}
use Rattle.guide.proofs.Showing.{tells-straight}
use Rattle.guide.proofs.direct.Goals as goal

pub returns : goal.returns
unfolding of_bits
returns c = λ b.
    let g = c.args in
    tells-straight g.h.now b g.crumbs.now g.course.now g.p c.recorded_m.ensures c.start.ensures (c.finished.ensures b)
