-- One thing after another in the whole state. Assumes nothing.
use mathlib.Core.Path.{◌≡◌, refl, sym, ap, ◌∙◌, subst}
use Prim.Native.Nat.{ℕ, ◌≤◌, ◌<◌, max}
use native.Mathlib.Omega.{arith}
use mathlib.Core.Bool.{Bool}
use mathlib.Core.List.{List}
use lib.ListN.{length}
use lib.Ieee.{Float}
use Rattle.crumbs.specs.Crumb.{capacity}
use Rattle.crumbs.proofs.Crumbs.{behind_more}
use Rattle.trail.specs.declared.Trail.{Trail}
use Rattle.trail.specs.View as trail
use Rattle.state.specs.declared.Event.{Event}
use Rattle.state.specs.declared.Event.TheVariants as event
use Rattle.state.specs.declared.Homing.{Homing}
use Rattle.state.specs.State.{State, state_of}
use Rattle.state.specs.Rule.{Done, done, and_then}
use Rattle.follow.specs.View.{Asks}
use Rattle.follow.proofs.Recording.{max-le}
use Rattle.update.specs.View.{Updates}
use Rattle.update.proofs.Updating.{fit_same}
use Rattle.calls.specs.Fix.{tell_following}
use Rattle.fix.specs.Ready.{Ready}

len-le : (a b : ℕ) → a ≡ b → a ≤ b
len-le a b e = omega (arith, e)

-- a rule from a state g that the state h came to with its buffer untouched
pub updates-after : (whole rule : ℕ → State → Done Event) {h g : Homing} {entry exit : List Float} {r : Homing} {e : Event}
    → g.trail.len ≤ h.trail.len
    → whole (capacity (length entry)) (state_of h entry) ≡ rule (capacity (length entry)) (state_of g entry)
    → Updates rule g entry r e exit → Updates whole h entry r e exit
updates-after whole rule {h} {g} {entry} {exit} {r} few is u =
    let l = r.trail.len in
    record {
      told = u.told ∙ sym (ap (λ (d : Done Event). d.answer) is);
      follows =
          record {
            same = u.follows.same ∙ sym (ap (λ (d : Done Event). d.state) is);
            fit = u.follows.fit;
            size = u.follows.size;
            beyond = behind_more (max g.trail.len l) (max h.trail.len l) exit entry (max-le g.trail.len h.trail.len l few)
                u.follows.beyond;
          };
    }

-- a question is asked that keeps no crumb, and what comes next goes by its answer
pub updates-asked : (ask : State → Done Bool) (next : Bool → ℕ → State → Done Event) {h : Homing} {entry exit : List Float} {a : Homing}
    {yes b : Bool} {r : Homing} {e : Event} → Asks ask h entry a yes → yes ≡ b
    → Updates (next b) a entry r e exit → Updates (λ C s. and_then (ask s) λ x after. next x C after) h entry r e exit
updates-asked ask next {h} {entry} {exit} {a} {yes} {b} {r} asked is u =
    let C = capacity (length entry) in
    let said : b ≡ (ask (state_of h entry)).answer = sym is ∙ asked.answered in
    let whole : next b C (state_of a entry) ≡ next (ask (state_of h entry)).answer C (ask (state_of h entry)).state =
    ap (λ (x : Bool). next x C (state_of a entry)) said
    ∙ ap (λ (s : State). next (ask (state_of h entry)).answer C s) asked.same in
    record {
      told = u.told ∙ ap (λ (d : Done Event). d.answer) whole;
      follows =
          record {
            same = u.follows.same ∙ ap (λ (d : Done Event). d.state) whole;
            fit = u.follows.fit;
            size = u.follows.size;
            beyond = behind_more (max a.trail.len r.trail.len) (max h.trail.len r.trail.len) exit entry
                (max-le a.trail.len h.trail.len r.trail.len (len-le _ _ asked.held.len)) u.follows.beyond;
          };
    }

-- whatever is told, that following began is
pub updates-following : (rule : ℕ → State → Done Event) {h : Homing} {entry : List Float} {r : Homing} {e : Event} {exit : List Float}
    → Updates rule h entry r e exit → Updates (λ C s. tell_following (rule C s)) h entry r event.Following exit
unfolding tell_following
updates-following rule u =
    record {
      told = refl;
      follows =
          record { same = u.follows.same; fit = u.follows.fit; size = u.follows.size; beyond = u.follows.beyond };
    }

-- nothing happens
pub updates-nothing : (whole : ℕ → State → Done Event) (h : Homing) (b : List Float) → trail.TrailFit h.trail (length b)
    → whole (capacity (length b)) (state_of h b) ≡ done event.Nothing (state_of h b)
    → Updates whole h b h event.Nothing b
updates-nothing whole h b f is =
    record {
      told = sym (ap (λ (d : Done Event). d.answer) is);
      follows = record { same = sym (ap (λ (d : Done Event). d.state) is); fit = f; size = refl; beyond = refl };
    }

-- ---- what the questions give
pub same_len : (h r : Homing) → r.trail ≡ h.trail → r.trail.len ≤ h.trail.len
same_len h r e = len-le _ _ (ap (λ (t : Trail). t.len) e)

pub ready-same : {h r : Homing} {room n : ℕ} → Ready h room n → r.trail ≡ h.trail → r.follow ≡ h.follow → Ready r room n
ready-same {h} {r} {room} {n} q t w =
    record {
      fit = fit_same h r room n q.fit t w;
      retrace = subst (λ (x : Trail). x.retrace < 8) (sym t) q.retrace;
      back = subst (λ (x : Trail). (x.retrace ≡ 0 → ⊥) → x.retrace_len ≤ x.len) (sym t) q.back;
    }
