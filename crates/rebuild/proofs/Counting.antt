-- None of the calls that a rebuild makes of a guide's own state is refused, where the places it reads are in range: it counts as those
-- calls. Assumes nothing.
use mathlib.Core.Path.{◌≡◌}
use Prim.Native.Nat.{ℕ, zero, suc}
use mathlib.Core.Bool.{Bool, true, false, cond}
use mathlib.Core.List.{List, [], ◌∷◌, ◌++◌}
use lib.Dec.{leb}
use Rattle.crumbs.specs.declared.Crumb.{Crumb}
use Rattle.crumbs.specs.Crumb.{capacity}
use Rattle.std.specs.Prelude.{Option, Some, None, ℕ}
use Rattle.plane.specs.declared.Fix.{Fix}
use Rattle.state.specs.State.{State}
use Rattle.calls.specs.Questions.{question1}
use Rattle.calls.specs.Calls.{Call, point_of, Reset, Replay, after_call}
use Rattle.taken.specs.Taken.{FixOnGlobe, FixesOnGlobe, Own, called}
use Rattle.taken.proofs.Refusals.{NoneRefused}
use Rattle.taken.proofs.Taken.{taken}
use Rattle.journal.specs.Journal.{run}
use Rattle.ride_log.specs.declared.Kind.{Kind}
use Rattle.ride_log.specs.declared.Kind.TheVariants as kind
use Rattle.ride_log.specs.declared.Sample.{Sample}
use Rattle.ride_log.specs.declared.Entry.{Entry}
use Rattle.rebuild.specs.declared.Stage.{Stage}
use Rattle.rebuild.specs.declared.Stage.TheVariants as stage
use Rattle.rebuild.specs.declared.Rebuild.{Rebuild}
use Rattle.rebuild.specs.Made.{quiet, ◌then◌, perform}
use Rattle.ride_log.specs.Entry.{used}
use Rattle.rebuild.specs.Rebuild.{ticked, carries_on, decide, skips, before_replay, replays, visit_fix, visit_place, visit_sample}
use Rattle.rebuild.specs.Rebuild.{visit_samples, is_later, visit_kind, visit, caught_up, look, past_slot, walk, settle_from, settle}
use Rattle.rebuild.proofs.Keeping.{one_of}
use Rattle.rebuild.proofs.Theorems.{journal-same}

-- resets, and replays of fixes in range
pub data Rebuilding : List Call → Type 0 where
  nothing : Rebuilding []
  reset : {cs : List Call} → Rebuilding cs → Rebuilding (Reset ∷ cs)
  replay : {cs : List Call} (x : Fix) (now : ℕ) → FixOnGlobe x → Rebuilding cs → Rebuilding (Replay x now ∷ cs)

-- ---- such calls are not refused
module _ (size : ℕ) (room : question1 size ≡ true) where
  pub none-refused : {s : State} {l : List Crumb} {cs : List Call} → Own size s l → Rebuilding cs → NoneRefused size s cs
  none-refused own nothing = tt
  none-refused {s = s} {l = l} own (reset {cs = cs} m) = (
    taken size room _ _ own Reset tt tt,
    none-refused {s = (after_call size Reset s).state} {cs = cs} (called own Reset tt tt) m,
  )
  none-refused {s = s} {l = l} own (replay {cs = cs} x now on m) = (
    taken size room _ _ own (Replay x now) tt (on, tt),
    none-refused {s = (after_call size (Replay x now) s).state} {cs = cs} (called own (Replay x now) tt (on, tt)) m,
  )

-- ---- a rebuild makes no others
both : {xs ys : List Call} → Rebuilding xs → Rebuilding ys → Rebuilding (xs ++ ys)
both nothing m = m
both (reset l) m = reset (both l m)
both (replay x now on l) m = replay x now on (both l m)

-- every place that is used is in range
abbrev pub SamplesOnGlobe : List Sample → Type 0
SamplesOnGlobe [] = Unit {0}
SamplesOnGlobe (x ∷ xs) = FixesOnGlobe (point_of x.place) × SamplesOnGlobe xs

abbrev pub SlotOnGlobe : Option Entry → Type 0
SlotOnGlobe None = Unit {0}
SlotOnGlobe (Some e) = SamplesOnGlobe (used e)

decide-makes : (last first : Option ℕ) (r : Rebuild) → Rebuilding (decide last first r).calls
unfolding decide
decide-makes last first r = by (carries_on last first)
  where
    by : (b : Bool) → Rebuilding (cond b [] (Reset ∷ []))
    by true = nothing
    by false = reset nothing

meets-makes : (was : Stage) (later : Bool) (t : Option ℕ) (r : Rebuild) → Rebuilding (before_replay was later t r).calls
unfolding before_replay
meets-makes (stage.Pending last) true t r = decide-makes last t r
meets-makes (stage.Pending last) false t r = nothing
meets-makes stage.Decided later t r = nothing

fix-makes : (x : Fix) (later : Bool) (t : Option ℕ) (r : Rebuild) → FixOnGlobe x → Rebuilding (visit_fix x later t r).calls
unfolding visit_fix replays
fix-makes x later t r on = by (skips r.stage later)
  where
    by : (b : Bool) → Rebuilding (one_of b (quiet r) (before_replay r.stage later t r then replays x)).calls
    by true = nothing
    by false = both (meets-makes r.stage later t r) (replay x _ on nothing)

place-makes : (p : Option Fix) (later : Bool) (t : Option ℕ) (r : Rebuild) → FixesOnGlobe (point_of p)
    → Rebuilding (visit_place p later t r).calls
unfolding visit_place
place-makes (Some x) later t r on = fix-makes x later t r on.0
place-makes None later t r on = nothing

samples-make : (later : Bool) (xs : List Sample) (r : Rebuild) → SamplesOnGlobe xs → Rebuilding (visit_samples later xs r).calls
unfolding visit_samples visit_sample
samples-make later [] r on = nothing
samples-make later (x ∷ xs) r on = both (place-makes x.place later x.utc (ticked r) on.0) (samples-make later xs _ on.1)

kind-makes : (k : Kind) (e : Entry) (r : Rebuild) → SamplesOnGlobe (used e) → Rebuilding (visit_kind k e r).calls
unfolding visit_kind
kind-makes kind.Samples e r on = samples-make (is_later e r) (used e) r on
kind-makes kind.Start e r on = nothing
kind-makes kind.Pause e r on = nothing
kind-makes kind.Resume e r on = nothing
kind-makes kind.Finish e r on = nothing
kind-makes kind.Recovered e r on = nothing
kind-makes kind.Full e r on = nothing

pub visit-makes : (e : Entry) (r : Rebuild) → SamplesOnGlobe (used e) → Rebuilding (visit e r).calls
unfolding visit
visit-makes e r on = kind-makes e.kind e r on

look-makes : (slot : Option Entry) (r : Rebuild) → SlotOnGlobe slot → Rebuilding (look slot r).calls
unfolding look
look-makes None r on = nothing
look-makes (Some e) r on = by (leb r.recovered e.ride)
  where
    by : (b : Bool) → Rebuilding (one_of b (visit e r) (quiet r)).calls
    by true = visit-makes e r on
    by false = nothing

pub walk-makes : (budget upper : ℕ) (slots : ℕ → Option Entry) (r : Rebuild) → ((k : ℕ) → SlotOnGlobe (slots k))
    → Rebuilding (walk budget upper slots r).calls
unfolding walk
walk-makes zero upper slots r on = nothing
walk-makes (suc budget) upper slots r on =
    by (caught_up upper r) (walk-makes budget upper slots (past_slot (look (slots r.walk.slot) r).rebuild) on)
  where
    by : (b : Bool) → Rebuilding (walk budget upper slots (past_slot (look (slots r.walk.slot) r).rebuild)).calls
        → Rebuilding (one_of b (quiet r)
        (look (slots r.walk.slot) r then λ next. quiet (past_slot next) then λ next. walk budget upper slots next)).calls
    by true rest = nothing
    by false rest = both (look-makes (slots r.walk.slot) r (on r.walk.slot)) rest

settle-from-makes : (was : Stage) (t : Option ℕ) (r : Rebuild) → Rebuilding (settle_from was t r).calls
unfolding settle_from
settle-from-makes (stage.Pending last) t r = decide-makes last t r
settle-from-makes stage.Decided t r = nothing

pub settle-makes : (t : Option ℕ) (r : Rebuild) → Rebuilding (settle t r).calls
unfolding settle
settle-makes t r = settle-from-makes r.stage t r

-- ---- "A call of `Rebuild` counts as the guide's calls it makes": the journal that is fed them has the same state and the same notes
module _ (size : ℕ) (room : question1 size ≡ true) {s : State} {l : List Crumb} (own : Own size s l) where
  pub walk-counts : (budget upper : ℕ) (slots : ℕ → Option Entry) (r : Rebuild) → ((k : ℕ) → SlotOnGlobe (slots k))
      → run size (walk budget upper slots r).calls s ≡ perform (capacity size) (walk budget upper slots r).calls s
  walk-counts budget upper slots r on =
      journal-same size (walk budget upper slots r).calls s (none-refused size room own (walk-makes budget upper slots r on))

  pub settle-counts : (t : Option ℕ) (r : Rebuild) → run size (settle t r).calls s ≡ perform (capacity size) (settle t r).calls s
  settle-counts t r = journal-same size (settle t r).calls s (none-refused size room own (settle-makes t r))
