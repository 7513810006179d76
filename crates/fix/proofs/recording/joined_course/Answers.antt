-- `fix::recording::joined_course` meets its contract.
use Rattle.fix.proofs.recording.Turning.{on-fit, on-grows, joined-on}
use Rattle.fix.proofs.recording.joined_course.Goals as goal

pub add_update-requires : goal.add_update-requires
add_update-requires c =
    let g = c.args in
    let l = g.course.now in
    let on = c.engage_at.ensures in
    record {
      fit = on-fit l g.h.now.course.join_end g.now_ms on c.requires.bound c.requires.fit;
      grows = on-grows l g.h.now.course.join_end g.now_ms on;
    }

pub returns : goal.returns
returns c = let g = c.args in joined-on g.course.now g.p g.now_ms c.engage_at.ensures c.add_update.ensures
