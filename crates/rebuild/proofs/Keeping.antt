-- A visit moves neither the walk nor the recovered ride. Assumes nothing.
use mathlib.Core.Path.{◌≡◌, refl, ◌∙◌}
use mathlib.Core.Bool.{Bool, true, false}
use mathlib.Core.List.{List, [], ◌∷◌}
use lib.Dec.{leb}
use Rattle.std.specs.Prelude.{Option, Some, None, ℕ}
use Rattle.plane.specs.declared.Fix.{Fix}
use Rattle.ride_log.specs.declared.Kind.{Kind}
use Rattle.ride_log.specs.declared.Kind.TheVariants as kind
use Rattle.ride_log.specs.declared.Sample.{Sample}
use Rattle.ride_log.specs.declared.Entry.{Entry}
use Rattle.rebuild.specs.declared.Stage.{Stage}
use Rattle.rebuild.specs.declared.Stage.TheVariants as stage
use Rattle.rebuild.specs.declared.Rebuild.{Rebuild}
use Rattle.rebuild.specs.Made.{Made, quiet, ◌then◌}
use Rattle.ride_log.specs.Entry.{used}
use Rattle.rebuild.specs.Rebuild.{ticked, decide, skips, before_replay, replays, visit_fix, visit_place, visit_sample, visit_samples}
use Rattle.rebuild.specs.Rebuild.{is_later, visit_kind, visit, look}

pub record Keeps (r n : Rebuild) : Type 0 where
  pub walk : n.walk ≡ r.walk
  pub recovered : n.recovered ≡ r.recovered

kept : (r : Rebuild) → Keeps r r
kept r = record { walk = refl; recovered = refl }

both : {a b c : Rebuild} → Keeps a b → Keeps b c → Keeps a c
both p q = record { walk = q.walk ∙ p.walk; recovered = q.recovered ∙ p.recovered }

-- one of two by a test, as the rules have it
abbrev pub one_of : Bool → Made → Made → Made
one_of b x y = elim b [ true ↦ x | false ↦ y ]

ticked-keeps : (r : Rebuild) → Keeps r (ticked r)
unfolding ticked
ticked-keeps r = record { walk = refl; recovered = refl }

meets-keeps : (was : Stage) (later : Bool) (t : Option ℕ) (r : Rebuild) → Keeps r (before_replay was later t r).rebuild
unfolding before_replay decide
meets-keeps (stage.Pending last) true t r = record { walk = refl; recovered = refl }
meets-keeps (stage.Pending last) false t r = record { walk = refl; recovered = refl }
meets-keeps stage.Decided later t r = kept r

fix-keeps : (x : Fix) (later : Bool) (t : Option ℕ) (r : Rebuild) → Keeps r (visit_fix x later t r).rebuild
unfolding visit_fix replays
fix-keeps x later t r = by (skips r.stage later)
  where
    by : (b : Bool) → Keeps r (one_of b (quiet r) (before_replay r.stage later t r then replays x)).rebuild
    by true = kept r
    by false = meets-keeps r.stage later t r

place-keeps : (p : Option Fix) (later : Bool) (t : Option ℕ) (r : Rebuild) → Keeps r (visit_place p later t r).rebuild
unfolding visit_place
place-keeps (Some x) later t r = fix-keeps x later t r
place-keeps None later t r = kept r

sample-keeps : (later : Bool) (x : Sample) (r : Rebuild) → Keeps r (visit_sample later x r).rebuild
unfolding visit_sample
sample-keeps later x r = both (ticked-keeps r) (place-keeps x.place later x.utc (ticked r))

samples-keep : (later : Bool) (xs : List Sample) (r : Rebuild) → Keeps r (visit_samples later xs r).rebuild
unfolding visit_samples
samples-keep later [] r = kept r
samples-keep later (x ∷ xs) r = both (sample-keeps later x r) (samples-keep later xs (visit_sample later x r).rebuild)

kind-keeps : (k : Kind) (e : Entry) (r : Rebuild) → Keeps r (visit_kind k e r).rebuild
unfolding visit_kind
kind-keeps kind.Samples e r = samples-keep (is_later e r) (used e) r
kind-keeps kind.Start e r = kept r
kind-keeps kind.Pause e r = kept r
kind-keeps kind.Resume e r = kept r
kind-keeps kind.Finish e r = kept r
kind-keeps kind.Recovered e r = kept r
kind-keeps kind.Full e r = kept r

pub visit-keeps : (e : Entry) (r : Rebuild) → Keeps r (visit e r).rebuild
unfolding visit
visit-keeps e r = kind-keeps e.kind e r

pub look-keeps : (slot : Option Entry) (r : Rebuild) → Keeps r (look slot r).rebuild
unfolding look
look-keeps None r = kept r
look-keeps (Some e) r = by (leb r.recovered e.ride)
  where
    by : (b : Bool) → Keeps r (one_of b (visit e r) (quiet r)).rebuild
    by true = visit-keeps e r
    by false = kept r
