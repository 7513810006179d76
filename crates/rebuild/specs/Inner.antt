-- For the functions inside: what a fix decides before it is replayed (`before_replay`), as a yes or no and a stage; and what a sample gives
-- to replay by that.
use Rattle.std.specs.Prelude.{Bool, true, false, not, cond, List, [], ◌∷◌, Option, Some, None, ℕ}
use Rattle.std.specs.Option.{option_or}
use Rattle.state.specs.declared.Homing.{Homing}
use Rattle.calls.specs.Calls.{Call, Reset}
use Rattle.rebuild.specs.declared.Stage.{Stage}
use Rattle.rebuild.specs.declared.Stage.TheVariants as stage
use Rattle.rebuild.specs.declared.Rebuild.{Rebuild}
use Rattle.rebuild.specs.declared.Heard.{Heard}
use Rattle.rebuild.specs.Made.{Made, making, quiet, ◌then◌}
use Rattle.rebuild.specs.Rebuild.{carries_on, replays}
use Rattle.rebuild.specs.View.{Settles}

-- whether the guide is reset
unfoldable pub starts_anew : Stage → Bool → Option ℕ → Bool
starts_anew (stage.Pending last) true t = not (carries_on last t)
starts_anew (stage.Pending last) false t = false
starts_anew stage.Decided later t = false

-- the stage behind the fix
unfoldable pub stage_behind : Stage → Bool → Option ℕ → Stage
stage_behind (stage.Pending last) true t = stage.Decided
stage_behind (stage.Pending last) false t = stage.Pending (option_or t last)
stage_behind stage.Decided later t = stage.Decided

-- the guide is reset, or nothing is done
abbrev pub reset_if : Bool → List Call
reset_if anew = cond anew (Reset ∷ []) []

-- a guide's state h becomes n by that, whatever the rebuild
abbrev pub Begins : Bool → Homing → Homing → Type 0
Begins anew h n = (r : Rebuild) → Settles (making (reset_if anew) r) h r n

-- what a sample gives to replay, where it gives anything
unfoldable pub heard_makes : Option Heard → Rebuild → Made
heard_makes (Some x) r = making (reset_if x.anew) r then replays x.fix
heard_makes None r = quiet r
