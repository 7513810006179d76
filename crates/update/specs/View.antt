-- For the functions inside: what becomes of a following at a fix, and what the guide after it promises of a state and its two lent buffers.
use Rattle.std.specs.Prelude.{ℕ, ◌≤◌, ◌<◌, ◌≡◌, List, length, Float}
use Rattle.plane.specs.declared.Point.{Point}
use Rattle.crumbs.specs.declared.Crumb.{Crumb}
use Rattle.crumbs.specs.Crumb.{capacity}
use Rattle.state.specs.declared.Event.{Event}
use Rattle.state.specs.declared.Event.TheVariants as event
use Rattle.state.specs.declared.Homing.{Homing}
use Rattle.state.specs.State.{State, state_of}
use Rattle.state.specs.Rule.{Done, done}
use Rattle.follow.specs.View.{Follows}
use Rattle.matching.specs.declared.followed.Followed.{Followed}
use Rattle.matching.specs.View.{WhereFollowed}
use Rattle.guide.specs.Guide.{direct}
use Rattle.update.specs.declared.Outcome.{Outcome}
use Rattle.update.specs.declared.Outcome.TheVariants.{Straight, Stays, Ends, GoesOn}
use Rattle.update.specs.Update.{begun, ended_with, matched_at, update}

-- A rule that tells an event, from a state and its crumb buffer to a state and its crumb buffer.
pub record Updates (rule : ℕ → State → Done Event) (h : Homing) (entry : List Float) (r : Homing) (e : Event) (exit : List Float) :
    Type 0 where
  pub told : e ≡ (rule (capacity (length entry)) (state_of h entry)).answer
  pub follows : Follows rule h entry r exit

-- what an outcome does to a state
unfoldable pub comes_to : Outcome → ℕ → List Crumb → Point → ℕ → State → Done Event
comes_to Straight C course p now s = direct course p s
comes_to Stays C course p now s = done event.Nothing s
comes_to (Ends e) C course p now s = ended_with e C course p now s
comes_to (GoesOn near) C course p now s = matched_at course p now near s

-- the match that a following goes on from lies on a line of `len` crumbs
abbrev pub MatchedIn : ℕ → Outcome → Type 0
MatchedIn len Straight = Unit {0}
MatchedIn len Stays = Unit {0}
MatchedIn len (Ends e) = Unit {0}
MatchedIn len (GoesOn near) = (1 ≤ near.end) × (near.end < len)

-- In every state in which f is followed, an update does what the outcome does.
pub record Becomes (f : Followed) (p : Point) (r : Outcome) : Type 0 where
  pub does : WhereFollowed f (λ course s. (C now : ℕ) → update C course p now s ≡ comes_to r C course p now (begun p now s))
  pub matched : WhereFollowed f (λ course s. MatchedIn (length f.line.now) r)
