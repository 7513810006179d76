-- One rule after another, in the whole state. Assumes nothing.
use mathlib.Core.Path.{◌≡◌, refl, sym, ap, ◌∙◌, subst}
use Prim.Native.Nat.{ℕ, ◌≤◌, max}
use native.Mathlib.Omega.{arith}
use mathlib.Core.Bool.{Bool, true, false}
use mathlib.Core.List.{List}
use lib.ListN.{length}
use lib.Ieee.{Float}
use Rattle.plane.specs.declared.Point.{Point}
use Rattle.std.specs.Prelude.{Option, Some, None}
use Rattle.crumbs.specs.declared.Crumb.{Crumb}
use Rattle.crumbs.specs.Crumb.{capacity, behind}
use Rattle.crumbs.proofs.Crumbs.{behind_more}
use Rattle.trail.specs.declared.Trail.{Trail}
use Rattle.trail.specs.View as trail
use Rattle.state.specs.declared.Homing.{Homing}
use Rattle.state.specs.State.{State, state_of, with_auto_follow}
use Rattle.state.specs.Rule.{Done, done, and_then}
use Rattle.follow.specs.Record.{flush_in}
use Rattle.follow.specs.Engage.{engage, stop}
use Rattle.follow.specs.View.{Changes, Follows, Asks}
use Rattle.update.proofs.Keeping.{Loose, len-held, update-crumbs}
use Rattle.update.proofs.Updating.{follows-from}
use Rattle.calls.specs.Follow.{update_here, brought, engaged_or, way_home, set_following, auto_off}
use Rattle.steer.specs.Decides.{Decides}
use Rattle.steer.proofs.way_home.Fitting.{stopped-loose, home-loose, fit-held}

-- ---- one rule for another
-- a rule that is another at this state
pub follows-as : {A B : Type 0} {rule : ℕ → State → Done A} {other : ℕ → State → Done B} {h r : Homing} {entry exit : List Float}
    → Follows other h entry r exit
    → (rule (capacity (length entry)) (state_of h entry)).state ≡ (other (capacity (length entry)) (state_of h entry)).state
    → Follows rule h entry r exit
follows-as f is = record { same = f.same ∙ sym is; fit = f.fit; size = f.size; beyond = f.beyond }

pub decides-as : {rule other : ℕ → State → Done Bool} {h r : Homing} {entry exit : List Float} {yes : Bool}
    → Decides other h entry r yes exit
    → rule (capacity (length entry)) (state_of h entry) ≡ other (capacity (length entry)) (state_of h entry)
    → Decides rule h entry r yes exit
decides-as d is =
    record {
      answered = d.answered ∙ sym (ap (λ (x : Done Bool). x.answer) is);
      follows = follows-as d.follows (ap (λ (x : Done Bool). x.state) is);
    }

-- one that changes nothing
pub decides-still : {answer : Bool} {h : Homing} {b : List Float} → trail.TrailFit h.trail (length b)
    → Decides (λ C s. done answer s) h b h answer b
decides-still f = record { answered = refl; follows = record { same = refl; fit = f; size = refl; beyond = refl } }

-- ---- one rule after another
-- what came before left the trail alone
pub decides-from : {before : State → State} {rule : ℕ → State → Done Bool} {h g r : Homing} {entry exit : List Float} {yes : Bool}
    → Changes before h g → Decides rule g entry r yes exit → Decides (λ C s. rule C (before s)) h entry r yes exit
decides-from {before = before} {rule = rule} {h = h} {g = g} {r = r} {entry = entry} {exit = exit} c d =
    record {
      answered = d.answered ∙ ap (λ (s : State). (rule (capacity (length entry)) s).answer) (c.same entry);
      follows = follows-from before rule h g entry r exit c d.follows;
    }

-- what came before asked, and kept no crumb
decides-asked : {ask : State → Done Bool} (rule : Bool → ℕ → State → Done Bool) {h a r : Homing} {said yes : Bool}
    {entry exit : List Float} → Asks ask h entry a said
    → Decides (rule said) a entry r yes exit → Decides (λ C s. and_then (ask s) λ b after. rule b C after) h entry r yes exit
decides-asked {ask = ask} rule {h = h} {a = a} {r = r} {entry = entry} {exit = exit} k d =
    let C = capacity (length entry) in
    let s = state_of h entry in
    record {
      answered =
          d.answered
          ∙ ap (λ (b : Bool). (rule b C (state_of a entry)).answer) k.answered
          ∙ ap (λ (t : State). (rule (ask s).answer C t).answer) k.same;
      follows =
          record {
            same =
                d.follows.same
                ∙ ap (λ (b : Bool). (rule b C (state_of a entry)).state) k.answered
                ∙ ap (λ (t : State). (rule (ask s).answer C t).state) k.same;
            fit = d.follows.fit;
            size = d.follows.size;
            beyond = subst (λ (n : ℕ). behind (max n r.trail.len) exit ≡ behind (max n r.trail.len) entry) k.held.len d.follows.beyond;
          };
    }

-- what comes after holds as many crumbs
decides-then : {A : Type 0} {first : ℕ → State → Done A} {rule : ℕ → State → Done Bool} {h m r : Homing} {entry mid exit : List Float}
    {yes : Bool} → Follows first h entry m mid → Decides rule m mid r yes exit → r.trail.len ≡ m.trail.len
    → Decides (λ C s. and_then (first C s) λ _ after. rule C after) h entry r yes exit
decides-then {first = first} {rule = rule} {h = h} {m = m} {r = r} {entry = entry} {mid = mid} {exit = exit} f d len =
    let C = capacity (length entry) in
    let goes_on : rule (capacity (length mid)) (state_of m mid) ≡ rule C (first C (state_of h entry)).state =
    ap (λ (n : ℕ). rule (capacity n) (state_of m mid)) f.size ∙ ap (λ (s : State). rule C s) f.same in
    let most : max m.trail.len r.trail.len ≤ max h.trail.len r.trail.len = omega (arith, len) in
    record {
      answered = d.answered ∙ ap (λ (x : Done Bool). x.answer) goes_on;
      follows =
          record {
            same = d.follows.same ∙ ap (λ (x : Done Bool). x.state) goes_on;
            fit = d.follows.fit;
            size = d.follows.size ∙ f.size;
            beyond =
                behind_more (max m.trail.len r.trail.len) (max h.trail.len r.trail.len) exit mid most d.follows.beyond
                ∙ subst (λ (n : ℕ). behind (max h.trail.len n) mid ≡ behind (max h.trail.len n) entry) (sym len) f.beyond;
          };
    }

-- ---- brought up to date
brought-crumbs : (C : ℕ) (course : List Crumb) (now : ℕ) (s : State) → Loose s
    → (brought C course now s).state.track.crumbs ≡ s.track.crumbs
unfolding brought update_here
brought-crumbs C course now s loose = by s.here
  where
    by : (here : Option Point) → (update_here here C course now s).state.track.crumbs ≡ s.track.crumbs
    by None = refl
    by (Some p) = update-crumbs C course p now s loose

module _ (course : List Crumb) (now : ℕ) {m r : Homing} {yes : Bool} {mid exit : List Float} where
  brought-len : Loose (state_of m mid) → Decides (λ C. brought C course now) m mid r yes exit → r.trail.len ≡ m.trail.len
  brought-len loose d =
      sym (len-held r exit)
      ∙ ap (λ (s : State). length s.track.crumbs) d.follows.same
      ∙ ap (λ (l : List Crumb). length l) (brought-crumbs _ course now (state_of m mid) loose)
      ∙ len-held m mid

  -- once following ended
  pub ends : {h : Homing} {entry : List Float} → Follows stop h entry m mid → Decides (λ C. brought C course now) m mid r yes exit
      → Decides (λ C. set_following false C course now) h entry r yes exit
  unfolding set_following
  ends d k = decides-then d k (brought-len (stopped-loose d) k)

-- ---- the way home
module _ (course : List Crumb) (now : ℕ) {h f : Homing} {entry mid : List Float} (d : Follows flush_in h entry f mid) where
  abbrev home : Bool → ℕ → State → Done Bool
  home b C = engaged_or b C course now

  pub goes-home : {e r : Homing} {yes : Bool} {exit : List Float} → Asks (engage course now) f mid e true
      → Decides (λ C. brought C course now) e mid r yes exit → Decides (λ C. way_home C course now) h entry r yes exit
  unfolding way_home engaged_or
  goes-home a k = decides-then d (decides-asked home a k) (brought-len course now (home-loose course now a) k ∙ a.held.len)

  pub no-way : {e : Homing} → Asks (engage course now) f mid e false → Decides (λ C. way_home C course now) h entry e false mid
  unfolding way_home engaged_or
  no-way a = decides-then d (decides-asked home a (decides-still (fit-held d.fit a.held))) a.held.len

-- ---- following by itself
-- turned off, by what was done before
pub turned-off : {A : Type 0} {rule : ℕ → State → Done A} {h m : Homing} (r : Homing) {entry exit : List Float} {was : Bool}
    → Follows rule h entry m exit → Changes (with_auto_follow false) m r → h.auto_follow ≡ was
    → ((C : ℕ) (s : State) → (auto_off was C s).state ≡ with_auto_follow false (rule C s).state)
    → Follows (auto_off h.auto_follow) h entry r exit
turned-off {h = h} r {entry = entry} {exit = exit} f c told is =
    record {
      same =
          c.same exit
          ∙ ap (with_auto_follow false) f.same
          ∙ sym (is (capacity (length entry)) (state_of h entry))
          ∙ sym (ap (λ (b : Bool). (auto_off b (capacity (length entry)) (state_of h entry)).state) told);
      fit = subst (λ (t : Trail). trail.TrailFit t (length exit)) (sym c.trail) f.fit;
      size = f.size;
      beyond = subst (λ (t : Trail). behind (max h.trail.len t.len) exit ≡ behind (max h.trail.len t.len) entry)
          (sym c.trail) f.beyond;
    }
