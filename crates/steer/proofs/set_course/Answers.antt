-- `steer::set_course` meets its contract.
use mathlib.Core.Path.{refl}
use Rattle.course.specs.Course.{fixes}
use Rattle.steer.proofs.Setting.{course-set}
use Rattle.steer.proofs.set_course.Goals as goal

pub returns : goal.returns
returns c =
    let g = c.args in
    let k = c.place-line_len in
    course-set (fixes g.lats.now g.lons.now) g.h.now c.off_course.new.h _ k.result c.waits-unplaced.result g.line.now k.new.line
    c.off_course.ensures k.ensures c.waits-unplaced.ensures c.lined-h.ensures (λ b. refl) refl
