-- For the functions inside: what is followed, as a part of the state; in which of the lent buffers its line lies; the match of a fix.
use Rattle.std.specs.Prelude.{ℕ, ◌≡◌, List, length, Option, Some, None}
use Rattle.segments.specs.declared.costs.Nearest.{Nearest}
use Rattle.plane.specs.declared.Point.{Point}
use Rattle.crumbs.specs.declared.Crumb.{Crumb}
use Rattle.state.specs.declared.Follow.{Follow}
use Rattle.state.specs.declared.Course.{Course}
use Rattle.state.specs.State.{State}
use Rattle.matching.specs.declared.followed.Followed.{Followed}
use Rattle.matching.specs.Match.{around_segment}
use Rattle.matching.specs.Followed.{followed_on, followed, nearest, widened}

-- r is what is followed, by the groups of the state, the heading and its two lines
pub record IsFollowedBy (f : Follow) (c : Course) (heading : Option ℕ) (course crumbs : List Crumb) (r : Followed) : Type 0 where
  pub on : r.on ≡ f.line
  pub line : r.line.now ≡ followed_on f.line course crumbs
  pub segment : r.segment ≡ f.segment
  pub off : r.off ≡ f.off
  pub was : r.was ≡ (record { along = c.along; reached = c.reached; fix = c.fix; heading = heading })

-- r is what is followed in a state
pub record IsFollowed (r : Followed) (course : List Crumb) (s : State) : Type 0 where
  pub parts : IsFollowedBy s.follow s.course s.motion.heading course s.track.crumbs r

-- in every state in which f is followed
abbrev pub WhereFollowed : Followed → (List Crumb → State → Type 0) → Type 0
WhereFollowed f fact = (course : List Crumb) (s : State) → IsFollowed f course s → fact course s

-- the match of a fix: the nearest segment around the last match; off the line, on the whole of it
unfoldable pub widened_from : Option Nearest → List Crumb → Point → State → Option Nearest
widened_from None course p s = None
widened_from (Some near) course p s = Some (widened course p near s)

unfoldable pub match_in : List Crumb → Point → State → Option Nearest
match_in course p s =
    let ends = around_segment s.follow.segment (length (followed course s)) in
    widened_from (nearest s.follow.line course p ends s) course p s
