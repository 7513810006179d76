-- A course set. Assumes nothing.
use mathlib.Core.Path.{◌≡◌, refl, sym, ap, ◌∙◌, subst}
use Prim.Native.Nat.{ℕ}
use denote.Enum.Bare.{sameb}
use mathlib.Core.Bool.{Bool, cond}
use mathlib.Core.List.{List}
use lib.ListN.{length}
use lib.Ieee.{Float}
use Rattle.crumbs.specs.Crumb.{crumbs, behind}
use Rattle.state.specs.contracts.Line.{the_type}
use Rattle.state.specs.declared.Line.{Line}
use Rattle.state.specs.declared.Line.TheVariants as line
use Rattle.state.specs.declared.Course.{Course}
use Rattle.state.specs.declared.Homing.{Homing}
use Rattle.state.specs.State.{State, state_of, with_course}
use Rattle.follow.specs.Engage.{stop_course}
use Rattle.follow.specs.View.{Changes}
use Rattle.plane.specs.declared.Fix.{Fix}
use Rattle.course.specs.Course.{line_of, waits}
use Rattle.course.specs.View.{Places}
use Rattle.calls.specs.Line.{lined, off_course, set_course}
use Rattle.steer.specs.View.{SetsLine}

-- by whether the course is followed
off-on : (l : Line) (s : State) → off_course l s ≡ cond (sameb the_type l line.Course) (stop_course s) s
unfolding off_course
off-on line.Nothing s = refl
off-on line.Breadcrumb s = refl
off-on line.Course s = refl

pub off-by : {b : Bool} (h r : Homing) → b ≡ sameb the_type h.follow.line line.Course
    → ((x : List Float) → state_of r x ≡ cond b (stop_course (state_of h x)) (state_of h x))
    → r.trail ≡ h.trail → r.window ≡ h.window → Changes (off_course h.follow.line) h r
off-by h r is same kept stays =
    record {
      same = λ x.
          let s = state_of h x in
          same x ∙ ap (λ (b : Bool). cond b (stop_course s) s) is ∙ sym (off-on h.follow.line s);
      trail = kept;
      window = stays;
    }

-- the course of a state replaced by one that was placed or waits
module _ (xs : List Fix) (h off r : Homing) (n : ℕ) (unplaced : Bool) (entry exit : List Float) where
  abbrev lines : ℕ → Bool → State → State
  lines k u s = with_course (lined k u s.course.held s.course) s

  lined-len : r.course ≡ lined n unplaced off.course.held off.course → r.course.line_len ≡ n
  unfolding lined
  lined-len is = ap (λ (c : Course). c.line_len) is

  pub course-set : Changes (off_course h.follow.line) h off → Places (line_of h.frame xs) entry n exit → unplaced ≡ waits h.frame xs
      → r.course ≡ lined n unplaced off.course.held off.course
      → ((b : List Float) → state_of r b ≡ with_course r.course (state_of off b)) → r.trail ≡ off.trail
      → SetsLine xs h entry r exit
  unfolding set_course
  course-set c p w is same kept =
      record {
        same = λ b.
            same b
            ∙ ap (λ (x : Course). with_course x (state_of off b)) is
            ∙ ap (λ (k : ℕ). lines k unplaced (state_of off b)) p.count
            ∙ ap (λ (u : Bool). lines (length (line_of h.frame xs)) u (state_of off b)) w
            ∙ ap (lines (length (line_of h.frame xs)) (waits h.frame xs)) (c.same b);
        trail = kept ∙ c.trail;
        placed = ap (λ (k : ℕ). crumbs k exit) (lined-len is) ∙ p.held;
        beyond = subst (λ (k : ℕ). behind k exit ≡ behind k entry) (sym (lined-len is)) p.beyond;
        size = p.size;
      }
