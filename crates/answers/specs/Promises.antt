-- What the calls promise that only answer, one record a call. Those that are lent no crumb buffer promise it whatever the buffer holds.
use Rattle.std.specs.Prelude.{ℕ, Bool, ◌≡◌, List, length, Float, Option, Result, IfOk}
use Rattle.std.specs.Borrow.{Bor}
use Rattle.refusal.specs.declared.Refusal.{Refusal}
use Rattle.refusal.specs.Refusal.{asked}
use Rattle.crumbs.specs.Crumb.{capacity, crumbs, in_front}
use Rattle.state.specs.declared.Ahead.{Ahead}
use Rattle.state.specs.declared.Back.{Back}
use Rattle.state.specs.declared.Guide.{Guide}
use Rattle.state.specs.declared.Homing.{Homing}
use Rattle.state.specs.State.{State, state_of}
use Rattle.state.specs.Guide.{arrow}
use Rattle.calls.specs.Ask.{len, following, following_course, course_ahead, route_home, way_back, heading, guide}
use Rattle.calls.specs.Questions.{asks_guide}
use Rattle.calls.specs.Calls as call
use Rattle.calls.specs.Calls.{Loan, Query, Ask, asks}
use Rattle.calls.specs.Promises.{Answer, answer, says}

-- the answer to q, for which the rule gives a
abbrev pub answer_to : {A : Type 0} {loan : Loan} → Query loan → (State → A) → Homing → List Float → Answer A
answer_to q a h b = answer (asks (length b) (Ask q) (state_of h b)) (a (state_of h b))

-- ---- of the state alone
pub record AnswersLen (h : Homing) (r : Result ℕ Refusal) : Type 0 where
  pub said : (b : List Float) → says r ≡ answer_to call.Len len h b

pub record AnswersFollowing (h : Homing) (r : Result Bool Refusal) : Type 0 where
  pub said : (b : List Float) → says r ≡ answer_to call.Following following h b

pub record AnswersFollowingCourse (h : Homing) (r : Result Bool Refusal) : Type 0 where
  pub said : (b : List Float) → says r ≡ answer_to call.FollowingCourse following_course h b

pub record AnswersCourseAhead (h : Homing) (r : Result (Option Ahead) Refusal) : Type 0 where
  pub said : (b : List Float) → says r ≡ answer_to call.CourseAhead course_ahead h b

pub record AnswersRouteHome (h : Homing) (r : Result (Option Ahead) Refusal) : Type 0 where
  pub said : (b : List Float) → says r ≡ answer_to call.RouteHome route_home h b

pub record AnswersHeading (h : Homing) (r : Result (Option ℕ) Refusal) : Type 0 where
  pub said : (b : List Float) → says r ≡ answer_to call.Heading heading h b

pub record AnswersGuide (h : Homing) (r : Result (Option Guide) Refusal) : Type 0 where
  pub said : (b : List Float) → says r ≡ answer_to call.Guide guide h b

-- ---- of the state and its crumb buffer b
pub record AnswersWayBack (h : Homing) (b : List Float) (r : Result (Option Back) Refusal) : Type 0 where
  pub said : says r ≡ answer_to call.WayBack way_back h b

-- "The held crumbs come back as the front part of the lent buffer"; "A refusal carries its number", and returns no part.
pub record ReturnsCrumbs (h : Homing) (b : List Float) (r : Result (Bor (List Float)) Refusal) : Type 0 where
  pub answered : asked r ≡ asks (length b) (Ask call.Crumbs) (state_of h b)
  pub numbers : IfOk r (λ part. part.now ≡ in_front h.trail.len b)
  pub held : IfOk r (λ part. crumbs (capacity (length part.now)) part.now ≡ crumbs h.trail.len b)

-- ---- of the state and a lent line
-- the placed course, in the same way
pub record ReturnsCourse (h : Homing) (line : List Float) (r : Result (Bor (List Float)) Refusal) : Type 0 where
  pub answered : (b : List Float) → asked r ≡ asks (length b) (Ask (call.Course line)) (state_of h b)
  pub numbers : IfOk r (λ part. part.now ≡ in_front h.course.line_len line)
  pub held : IfOk r (λ part. crumbs (capacity (length part.now)) part.now ≡ crumbs h.course.line_len line)

-- ---- of a guide
pub record AnswersArrow (g : Guide) (r : Result ℕ Refusal) : Type 0 where
  pub said : says r ≡ answer (asks_guide g) (arrow g)
