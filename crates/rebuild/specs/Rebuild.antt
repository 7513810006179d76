-- A ride that a restart cut short, read back from the log for the ride that carries on from it. Document 01, "Entry"; rebuild.rs.
use Rattle.std.specs.Prelude.{ℕ, zero, suc, ◌+◌, ◌-◌, ◌^◌, min, Bool, true, false, ◌&&◌, not, cond, List, [], ◌∷◌, leb, eqb}
use Rattle.std.specs.Prelude.{Option, Some, None}
use Rattle.std.specs.Int.{abs_diff}
use Rattle.std.specs.Option.{option_or}
use Rattle.plane.specs.declared.Fix.{Fix}
use Rattle.ride_log.specs.declared.Kind.{Kind}
use Rattle.ride_log.specs.declared.Kind.TheVariants as kind
use Rattle.ride_log.specs.declared.Sample.{Sample}
use Rattle.ride_log.specs.declared.Entry.{Entry}
use Rattle.ride_log.specs.Entry.{used}
use Rattle.calls.specs.Calls.{Reset, Replay}
use Rattle.rebuild.specs.declared.Stage.{Stage}
use Rattle.rebuild.specs.declared.Stage.TheVariants as stage
use Rattle.rebuild.specs.declared.Walk.{Walk}
use Rattle.rebuild.specs.declared.Rebuild.{Rebuild}
use Rattle.rebuild.specs.Made.{Made, making, quiet, ◌then◌}

-- "at most 1,800,000 ms apart"
abbrev pub continue_ms : ℕ
continue_ms = 1800000

-- "Clock +1,000 per sample"
abbrev pub sample_ms : ℕ
sample_ms = 1000

-- where a clock of 64 bits stops
abbrev pub clock_most : ℕ
clock_most = 2 ^ 64 - 1

-- ---- the rebuild
-- `new`: "slot k is the k-th record after record 0 along the chain below, from 0". No fix of the recovered ride is read yet.
unfoldable pub new_rebuild : ℕ → Rebuild
new_rebuild recovered = record { recovered = recovered; walk = record { slot = 0 }; stage = stage.Pending None; clock_ms = 0 }

abbrev pub with_stage : Stage → Rebuild → Rebuild
with_stage x r = record { recovered = r.recovered; walk = r.walk; stage = x; clock_ms = r.clock_ms }

abbrev pub with_walk : Walk → Rebuild → Rebuild
with_walk x r = record { recovered = r.recovered; walk = x; stage = r.stage; clock_ms = r.clock_ms }

-- "Clock +1,000 per sample, located or not."
unfoldable pub ticked : Rebuild → Rebuild
ticked r =
    record { recovered = r.recovered; walk = r.walk; stage = r.stage; clock_ms = min (r.clock_ms + sample_ms) clock_most }

-- ---- whether the later ride carries on
-- "The later ride carries on if both UTC times are known and at most 1,800,000 ms apart": the recovered ride's last and the later ride's
-- first
unfoldable pub carries_on : Option ℕ → Option ℕ → Bool
carries_on (Some last) (Some first) = leb (abs_diff last first) continue_ms
carries_on (Some last) None = false
carries_on None first = false

-- `decide`: "else reset"
unfoldable pub decide : Option ℕ → Option ℕ → Rebuild → Made
decide last first r = making (cond (carries_on last first) [] (Reset ∷ [])) (with_stage stage.Decided r)

-- ---- a sample
-- once the later ride's first fix came, the recovered ride's fixes are read no more
unfoldable pub skips : Stage → Bool → Bool
skips (stage.Pending last) later = false
skips stage.Decided later = not later

-- what a fix decides before it is replayed: the later ride's first whether that ride carries on, one of the recovered ride when it was last
-- fixed
unfoldable pub before_replay : Stage → Bool → Option ℕ → Rebuild → Made
before_replay (stage.Pending last) true t r = decide last t r
before_replay (stage.Pending last) false t r = quiet (with_stage (stage.Pending (option_or t last)) r)
before_replay stage.Decided later t r = quiet r

-- the guide's `replay`, at the clock
unfoldable pub replays : Fix → Rebuild → Made
replays x r = making (Replay x r.clock_ms ∷ []) r

unfoldable pub visit_fix : Fix → Bool → Option ℕ → Rebuild → Made
visit_fix x later t r = elim (skips r.stage later) [ true ↦ quiet r | false ↦ before_replay r.stage later t r then replays x ]

unfoldable pub visit_place : Option Fix → Bool → Option ℕ → Rebuild → Made
visit_place (Some x) later t r = visit_fix x later t r
visit_place None later t r = quiet r

unfoldable pub visit_sample : Bool → Sample → Rebuild → Made
visit_sample later x r = visit_place x.place later x.utc (ticked r)

unfoldable pub visit_samples : Bool → List Sample → Rebuild → Made
visit_samples later [] r = quiet r
visit_samples later (x ∷ xs) r = visit_sample later x r then λ next. visit_samples later xs next

-- ---- an entry
-- whether an entry is of the ride that may carry on, and not of the recovered one
unfoldable pub is_later : Entry → Rebuild → Bool
is_later e r = not (eqb e.ride r.recovered)

unfoldable pub visit_kind : Kind → Entry → Rebuild → Made
visit_kind kind.Samples e r = visit_samples (is_later e r) (used e) r
visit_kind kind.Start e r = quiet r
visit_kind kind.Pause e r = quiet r
visit_kind kind.Resume e r = quiet r
visit_kind kind.Finish e r = quiet r
visit_kind kind.Recovered e r = quiet r
visit_kind kind.Full e r = quiet r

unfoldable pub visit : Entry → Rebuild → Made
visit e r = visit_kind e.kind e r

-- ---- the slots
-- "Caught up means the next slot is not below upper."
unfoldable pub caught_up : ℕ → Rebuild → Bool
caught_up upper r = leb upper r.walk.slot

-- "an entry with ride_id ≥ recovered is visited"
unfoldable pub look : Option Entry → Rebuild → Made
look None r = quiet r
look (Some e) r = elim (leb r.recovered e.ride) [ true ↦ visit e r | false ↦ quiet r ]

abbrev pub past_slot : Rebuild → Rebuild
past_slot r = with_walk (record { slot = suc r.walk.slot }) r

-- "slots are looked at in rising order below upper, each costing 1 of the budget, also one without a record"
unfoldable pub walk : ℕ → ℕ → (ℕ → Option Entry) → Rebuild → Made
walk zero upper slots r = quiet r
walk (suc budget) upper slots r =
    elim (caught_up upper r) [
      | true ↦ quiet r
      | false ↦ look (slots r.walk.slot) r then λ next. quiet (past_slot next) then λ on. walk budget upper slots on
    ]

unfoldable pub is_decided : Stage → Bool
is_decided (stage.Pending last) = false
is_decided stage.Decided = true

-- every slot is read, and the breadcrumb is settled
unfoldable pub takes_over : ℕ → Rebuild → Bool
takes_over upper r = is_decided r.stage && caught_up upper r

-- `step`: the walk, and whether live fixes take over
pub record Step : Type 0 where
  pub made : Made
  pub answer : Bool

unfoldable pub step : ℕ → ℕ → (ℕ → Option Entry) → Rebuild → Step
step budget upper slots r = let m = walk budget upper slots r in record { made = m; answer = takes_over upper m.rebuild }

-- ---- a live fix
-- `settle`: it decides as well, where none of the log did
unfoldable pub settle_from : Stage → Option ℕ → Rebuild → Made
settle_from (stage.Pending last) t r = decide last t r
settle_from stage.Decided t r = quiet r

unfoldable pub settle : Option ℕ → Rebuild → Made
settle t r = settle_from r.stage t r
