-- A call that only answers leaves the state as it is, asked or refused. Assumes nothing.
use Prim.Native.Nat.{ℕ}
use mathlib.Core.Path.{◌≡◌, refl, sym}
use mathlib.Core.Bool.{Bool, true, false}
use mathlib.Core.List.{List}
use lib.Dec.{eqb}
use lib.Ieee.{Float}
use lib.ListN.{length}
use Rattle.crumbs.specs.Crumb.{capacity}
use Rattle.state.specs.declared.Homing.{Homing}
use Rattle.state.specs.State.{State, state_of}
use Rattle.state.specs.Rule.{Done, done}
use Rattle.calls.specs.Calls as rule
use Rattle.calls.specs.Calls.{Loan, asks, performs, after_call}
use Rattle.calls.specs.Promises.{Called}
use Rattle.ride.specs.declared.Query.{Query}
use Rattle.ride.specs.declared.Query.TheVariants as query
use Rattle.ride.specs.Script.{query_of}

leaves : {loan : Loan} (size : ℕ) (q : rule.Query loan) (s : State) → (after_call size (rule.Ask q) s).state ≡ s
unfolding after_call performs
leaves size q s = go (eqb (asks size (rule.Ask q) s) 0)
  where
    after : Done (Unit {0}) → State
    after d = d.state

    go : (b : Bool) → after (elim b [ true ↦ performs (capacity size) (rule.Ask q) s | false ↦ done tt s ]) ≡ s
    go true = refl
    go false = refl

-- such a call promises what doing nothing to the state and the buffer does
left_alone : {loan : Loan} (q : rule.Query loan) (h : Homing) (b : List Float) → Called (rule.Ask q) h b h b
left_alone q h b = record { same = sym (leaves (length b) q (state_of h b)); refused = λ _. (refl, refl); size = refl; beyond = refl }

pub only-answers : (q : Query) (h : Homing) (b : List Float) → Called (query_of q) h b h b
only-answers query.Len h b = left_alone rule.Len h b
only-answers query.Following h b = left_alone rule.Following h b
only-answers query.FollowingCourse h b = left_alone rule.FollowingCourse h b
only-answers (query.Course line) h b = left_alone (rule.Course line.now) h b
only-answers query.CourseAhead h b = left_alone rule.CourseAhead h b
only-answers query.Crumbs h b = left_alone rule.Crumbs h b
only-answers query.WayBack h b = left_alone rule.WayBack h b
only-answers query.Heading h b = left_alone rule.Heading h b
only-answers query.RouteHome h b = left_alone rule.RouteHome h b
only-answers query.Guide h b = left_alone rule.Guide h b
