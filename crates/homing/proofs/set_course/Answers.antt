-- `homing::set_course` meets its contract.
use Rattle.std.proofs.Common.{rules, ◌≡◌, refl, sym, ◌∙◌, [], Err}
use Rattle.course.specs.Course.{fixes}
use Rattle.calls.specs.Calls as call
use Rattle.calls.specs.Calls.{asks, asks_place, course_in, performs}
use Rattle.questions.proofs.Given.{line-given, neither}
use Rattle.answers.proofs.Answering.{no, yes, refused-not}
use Rattle.homing.proofs.Calling.{refuses, takes, places-line}
use Rattle.homing.proofs.set_course.Goals as goal

pub returns-in_err-asks_course : goal.returns-in_err-asks_course
returns-in_err-asks_course c =
    let g = c.args in
    let l = g.line.now in
    let xs = fixes g.lats.now g.lons.now in
    let e : c.from_residual.result ≡ Err c.in_err-asks_course.field-0.0 = search rules in
    let told = c.in_err-asks_course.ensures in
    record {
      answered = λ b. no e (told b) tt;
      called = λ b. refuses (call.SetCourse l xs) g.h.now b _ (told b);
      placed = λ b z. absurd (refused-not _ (told b ∙ z));
      refused = λ b _. refl;
      size = refl;
    }

pub set_course-requires : goal.set_course-requires
unfolding asks
set_course-requires c =
    let g = c.args in
    (line-given g.line.now _ g.h.now [] (neither _ _ (sym (c.in_ok-asks_course.ensures []))).0).1.room

pub returns : goal.returns
unfolding performs
returns c =
    let g = c.args in
    let l = g.line.now in
    let xs = fixes g.lats.now g.lons.now in
    let told = c.in_ok-asks_course.ensures in
    let k = c.set_course in
    record {
      answered = λ b. yes (told b) refl;
      called = λ b. takes (call.SetCourse l xs) g.h.now k.new.h b b (sym (told b)) (k.ensures.same b) refl refl;
      placed = λ b _. places-line xs g.h.now k.new.h l k.new.line k.ensures;
      refused = λ b ne. absurd (ne (sym (told b)));
      size = k.ensures.size;
    }
