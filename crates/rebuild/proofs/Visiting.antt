-- Samples visited one after the other. Assumes nothing.
use mathlib.Core.Path.{◌≡◌, sym, ap, ◌∙◌, subst}
use Prim.Native.Nat.{ℕ, ◌+◌, ◌≤◌, ◌<◌}
use mathlib.Core.Bool.{Bool, false}
use mathlib.Core.List.{List, [], ◌∷◌, ◌++◌, append_assoc, append-nil}
use lib.ListN.{length, take, get_or}
use Rattle.std.proofs.lemmas.List.{take_more, take_all}
use lib.Ieee.{Float}
use Rattle.trail.specs.View as trail
use Rattle.std.specs.Prelude.{Option, Some, None}
use Rattle.plane.specs.declared.Fix.{Fix}
use Rattle.state.specs.declared.Homing.{Homing}
use Rattle.update.proofs.Choosing.{passed-by}
use Rattle.follow.specs.View.{Follows}
use Rattle.calls.specs.Fix.{replay}
use Rattle.calls.specs.Calls.{Call}
use Rattle.ride_log.specs.declared.Sample.{Sample}
use Rattle.rebuild.specs.declared.Stage.{Stage}
use Rattle.rebuild.specs.declared.Rebuild.{Rebuild}
use Rattle.rebuild.specs.declared.Heard.{Heard}
use Rattle.rebuild.specs.Made.{Made, making, quiet, ◌then◌}
use Rattle.rebuild.specs.Rebuild.{with_stage, skips, before_replay, replays, visit_fix}
use Rattle.rebuild.specs.Rebuild.{visit_sample, visit_samples}
use Rattle.rebuild.specs.Inner.{starts_anew, stage_behind, reset_if, Begins, heard_makes}
use Rattle.rebuild.specs.View.{Makes}
use Rattle.rebuild.proofs.Making.{settled, makes-quiet, decides, replayed, one_then}

-- ---- what a fix gives to replay, where it is not skipped
pub taken-up : (f : Fix) (later : Bool) (t : Option ℕ) (r : Rebuild) {behind : Stage} {anew : Bool} → skips r.stage later ≡ false
    → behind ≡ stage_behind r.stage later t → anew ≡ starts_anew r.stage later t
    → visit_fix f later t r ≡ heard_makes (Some (record { anew = anew; fix = f })) (with_stage behind r)
unfolding visit_fix heard_makes
taken-up f later t r {behind = behind} s b a =
    passed-by (quiet r) (before_replay r.stage later t r then replays f) _ s
    ∙ ap (λ (m : Made). m then replays f) (decides later t r b)
    ∙ ap (λ (t : Bool). making (reset_if t) (with_stage behind r) then replays f) (sym a)

-- ---- what a sample gives is done
module _ {rule : Made} {x : Option Heard} {r : Rebuild} {h : Homing} {entry : List Float} (says : rule ≡ heard_makes x r)
    (fit : trail.TrailFit h.trail (length entry)) where
  pub heard-none : x ≡ None → Makes rule h entry r h entry
  unfolding heard_makes
  heard-none e = rw (says, e) (makes-quiet r h entry fit)

  pub heard-one : {y : Heard} {n n' : Homing} {exit : List Float} → x ≡ Some y → Begins y.anew h n
      → Follows (λ C. replay C y.fix r.clock_ms) n entry n' exit → Makes rule h entry r n' exit
  unfolding heard_makes
  heard-one {y = y} {n = n} {n' = n'} {exit = exit} e b k =
      rw (says, e)
      (one_then (making (reset_if y.anew) r) (replays y.fix) h entry entry exit r r n n' (settled _ _ entry _ _ fit (b r))
      (replayed y.fix r n n' entry exit k))

-- ---- one sample more
one_more : (later : Bool) (xs : List Sample) (x : Sample) (r : Rebuild)
    → visit_samples later (xs ++ x ∷ []) r ≡ (visit_samples later xs r then λ next. visit_sample later x next)
unfolding visit_samples
one_more later [] x r =
    ap (λ (calls : List Call). making calls (visit_sample later x r).rebuild) (append-nil (visit_sample later x r).calls)
one_more later (y ∷ xs) x r =
    let a = visit_sample later y r in
    let b = visit_samples later xs a.rebuild in
    let c = visit_sample later x b.rebuild in
    ap (λ (m : Made). record { rebuild = m.rebuild; calls = a.calls ++ m.calls }) (one_more later xs x a.rebuild)
    ∙ ap (λ (calls : List Call). making calls c.rebuild) (sym (append_assoc a.calls b.calls c.calls))

-- ---- the first i samples are visited
pub record Going (later : Bool) (xs : List Sample) (r : Rebuild) (h : Homing) (entry : List Float) (i : ℕ) (n : Rebuild) (k : Homing)
    (b : List Float) : Type 0 where
  pub made : Makes (visit_samples later (take i xs) r) h entry n k b

module _ {later : Bool} {xs : List Sample} {r : Rebuild} {h : Homing} where
  pub going_start : {b : List Float} → trail.TrailFit h.trail (length b) → Going later xs r h b 0 r h b
  unfolding visit_samples
  going_start {b = b} f = record { made = makes-quiet r h b f }

  module _ {entry mid : List Float} {i : ℕ} {n : Rebuild} {k : Homing} (g : Going later xs r h entry i n k mid)
      (within : i < length xs) where
    pub going_on : {exit : List Float} {n' : Rebuild} {k' : Homing} (d : Sample)
        → Makes (visit_sample later (get_or xs i d) n) k mid n' k' exit → Going later xs r h entry (i + 1) n' k' exit
    going_on {exit = exit} {n' = n'} {k' = k'} d m =
        let whole : visit_samples later (take (i + 1) xs) r
        ≡ (visit_samples later (take i xs) r then λ next. visit_sample later (get_or xs i d) next) =
        ap (λ (l : List Sample). visit_samples later l r) (take_more xs i d within) ∙ one_more later (take i xs) (get_or xs i d) r in
        record {
          made =
              subst (λ (rule : Made). Makes rule h entry n' k' exit) (sym whole)
              (one_then (visit_samples later (take i xs) r)
              (λ next. visit_sample later (get_or xs i d) next) h entry mid exit n n' k k' g.made m);
        }

  pub going-out : {entry exit : List Float} {i : ℕ} {n : Rebuild} {k : Homing} → Going later xs r h entry i n k exit → length xs ≤ i
      → Makes (visit_samples later xs r) h entry n k exit
  going-out {entry = entry} {exit = exit} {i = i} {n = n} {k = k} g past =
      subst (λ (l : List Sample). Makes (visit_samples later l r) h entry n k exit) (take_all i xs past) g.made
