-- `matching::followed::followed_on` meets its contract.
use mathlib.Core.Logic.{inl, inr}
use Rattle.matching.specs.Followed.{followed_on}
use Rattle.matching.proofs.followed.followed_on.Goals as goal

pub returns-in-Course : goal.returns-in-Course
unfolding followed_on
returns-in-Course c = rw c.in-Course.is

pub returns-in-Nothing : goal.returns-in-Nothing
unfolding followed_on
returns-in-Nothing c = elim c.in-Nothing.is [ inl e ↦ rw e | inr e ↦ rw e ]
