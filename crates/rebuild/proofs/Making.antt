-- The rebuild's rules followed, one after the other. Assumes nothing.
use mathlib.Core.Path.{◌≡◌, refl, sym, ap, ap₂, ◌∙◌, subst}
use Prim.Native.Nat.{ℕ, max}
use mathlib.Core.Bool.{Bool, true, false, cond, not}
use mathlib.Core.List.{List, [], ◌∷◌}
use lib.ListN.{length}
use lib.Ieee.{Float}
use Rattle.crumbs.specs.Crumb.{capacity, behind}
use Rattle.crumbs.proofs.Crumbs.{length-crumbs, behind_more}
use Rattle.trail.specs.View.{track}
use Rattle.trail.specs.View as trail
use Rattle.state.specs.declared.Homing.{Homing}
use Rattle.state.specs.State.{State, state_of}
use Rattle.state.specs.Rule.{Done}
use Rattle.follow.specs.View.{Follows}
use Rattle.std.specs.Prelude.{Option, ℕ}
use Rattle.plane.specs.declared.Fix.{Fix}
use Rattle.calls.specs.Fix.{replay}
use Rattle.calls.specs.Calls.{Call, Reset, Replay, performs}
use Rattle.steer.specs.View.{Resets}
use Rattle.rebuild.specs.declared.Stage.{Stage}
use Rattle.rebuild.specs.declared.Stage.TheVariants as stage
use Rattle.rebuild.specs.declared.Rebuild.{Rebuild}
use Rattle.rebuild.specs.Made.{Made, making, quiet, ◌then◌, perform, most_held}
use Rattle.rebuild.specs.Rebuild.{with_stage, carries_on, decide, before_replay, replays, settle_from}
use Rattle.rebuild.specs.Inner.{starts_anew, stage_behind, reset_if, Begins}
use Rattle.rebuild.specs.View.{Makes, Settles}
use Rattle.rebuild.proofs.Performing.{performed-both, most-front, most-rest}

-- ---- nothing is done
pub settles-quiet : (r : Rebuild) (h : Homing) → Settles (quiet r) h r h
unfolding perform
settles-quiet r h = record { rebuilt = refl; same = λ C b. refl; fit = λ size f. f }

-- ---- what writes to no buffer, on the buffer at hand
pub settled : (rule : Made) (h : Homing) (b : List Float) (r : Rebuild) (n : Homing) → trail.TrailFit h.trail (length b)
    → Settles rule h r n → Makes rule h b r n b
settled rule h b r n f s =
    record { rebuilt = s.rebuilt; same = s.same (capacity (length b)) b; fit = s.fit (length b) f; size = refl; beyond = refl }

pub makes-quiet : (r : Rebuild) (h : Homing) (b : List Float) → trail.TrailFit h.trail (length b) → Makes (quiet r) h b r h b
makes-quiet r h b f = settled (quiet r) h b r h f (settles-quiet r h)

-- ---- what a fix decides before it is replayed
turned_round : (t : Bool) → cond t [] (Reset ∷ []) ≡ reset_if (not t)
turned_round true = refl
turned_round false = refl

decides-so : (s : Stage) (later : Bool) (t : Option ℕ) (r : Rebuild) → r.stage ≡ s
    → before_replay s later t r ≡ making (reset_if (starts_anew s later t)) (with_stage (stage_behind s later t) r)
unfolding before_replay decide starts_anew stage_behind
decides-so (stage.Pending last) true t r e =
    ap (λ (l : List Call). making l (with_stage stage.Decided r)) (turned_round (carries_on last t))
decides-so (stage.Pending last) false t r e = refl
decides-so stage.Decided later t r e = ap (λ (s : Stage). quiet (with_stage s r)) e

pub decides : (later : Bool) (t : Option ℕ) (r : Rebuild) {behind : Stage} → behind ≡ stage_behind r.stage later t
    → before_replay r.stage later t r ≡ making (reset_if (starts_anew r.stage later t)) (with_stage behind r)
decides later t r e =
    decides-so r.stage later t r refl ∙ ap (λ (s : Stage). making (reset_if (starts_anew r.stage later t)) (with_stage s r)) (sym e)

-- a live fix decides as the later ride's first does
pub decides-live : (s : Stage) (t : Option ℕ) (r : Rebuild) → r.stage ≡ s
    → settle_from s t r ≡ making (reset_if (starts_anew s true t)) (with_stage stage.Decided r)
unfolding settle_from decide starts_anew
decides-live (stage.Pending last) t r e = ap (λ (l : List Call). making l (with_stage stage.Decided r)) (turned_round (carries_on last t))
decides-live stage.Decided t r e = ap (λ (s : Stage). quiet (with_stage s r)) e

module _ {anew : Bool} (h : Homing) where
  pub carried_on : anew ≡ false → Begins anew h h
  carried_on e r = rw e (settles-quiet r h)

  pub begun-anew : {n : Homing} → anew ≡ true → Resets h n → Begins anew h n
  unfolding perform performs
  begun-anew e a r = rw e (record { rebuilt = refl; same = λ C b. a.same b; fit = (a.trail []).fit })

-- ---- a fix replayed
module _ (x : Fix) (r : Rebuild) (h n : Homing) (entry exit : List Float) where
  abbrev C : ℕ
  C = capacity (length entry)

  -- how many crumbs were held before and after
  held : state_of n exit ≡ (replay C x r.clock_ms (state_of h entry)).state
      → most_held C (Replay x r.clock_ms ∷ []) (state_of h entry) ≡ max h.trail.len n.trail.len
  unfolding most_held performs track
  held e =
      ap₂ max (length-crumbs h.trail.len entry)
      (ap (λ (s : State). length s.track.crumbs) (sym e) ∙ length-crumbs n.trail.len exit)

  pub replayed : Follows (λ C. replay C x r.clock_ms) h entry n exit → Makes (replays x r) h entry r n exit
  unfolding replays perform performs
  replayed f =
      record {
        rebuilt = refl;
        same = f.same;
        fit = f.fit;
        size = f.size;
        beyond = subst (λ (k : ℕ). behind k exit ≡ behind k entry) (sym (held f.same)) f.beyond;
      }

-- ---- one thing, and then another
module _ (m : Made) (next : Rebuild → Made) (h : Homing) (entry mid exit : List Float) (r r' : Rebuild) (k k' : Homing) where
  abbrev n : Made
  n = next m.rebuild

  pub one_then : Makes m h entry r k mid → Makes (next r) k mid r' k' exit → Makes (m then next) h entry r' k' exit
  one_then a b₀ =
      let C = capacity (length entry) in
      let s = state_of h entry in
      let b : Makes n k mid r' k' exit = subst (λ (x : Rebuild). Makes (next x) k mid r' k' exit) a.rebuilt b₀ in
      let room : capacity (length mid) ≡ C = ap (λ (k : ℕ). capacity k) a.size in
      let from : most_held (capacity (length mid)) n.calls (state_of k mid)
      ≡ most_held C n.calls (perform C m.calls s).state =
      ap₂ (λ (c : ℕ) (t : State). most_held c n.calls t) room a.same in
      let far : behind (most_held C n.calls (perform C m.calls s).state) exit
      ≡ behind (most_held C n.calls (perform C m.calls s).state) mid =
      subst (λ (k : ℕ). behind k exit ≡ behind k mid) from b.beyond in
      record {
        rebuilt = b.rebuilt;
        same =
            b.same
            ∙ ap₂ (λ (c : ℕ) (t : State). (perform c n.calls t).state) room a.same
            ∙ sym (ap (λ (d : Done (Unit {0})). d.state) (performed-both C m.calls n.calls s));
        fit = b.fit;
        size = b.size ∙ a.size;
        beyond =
            behind_more _ _ exit mid (most-rest C m.calls n.calls s) far
            ∙ behind_more _ _ mid entry (most-front C m.calls n.calls s) a.beyond;
      }
