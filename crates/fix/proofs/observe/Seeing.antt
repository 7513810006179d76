-- A fix repeated or new, in the whole state. Assumes nothing.
use mathlib.Core.Path.{◌≡◌, refl, sym, ap, ◌∙◌}
use Prim.Native.Nat.{ℕ}
use mathlib.Core.Bool.{true, false}
use mathlib.Core.List.{List, []}
use lib.Dec.{ltb}
use lib.Ieee.{Float}
use Rattle.plane.specs.declared.Point.{Point}
use Rattle.std.specs.Prelude.{Option, Some, None}
use Rattle.plane.specs.declared.Fix.{Fix}
use Rattle.crumbs.specs.declared.Crumb.{Crumb}
use Rattle.motion.specs.declared.Motion.{Motion}
use Rattle.motion.specs.Heading.{elapsed, track_heading}
use Rattle.state.specs.declared.Event.TheVariants as event
use Rattle.state.specs.declared.Frame.{Frame}
use Rattle.state.specs.declared.Follow.{Follow}
use Rattle.state.specs.declared.Homing.{Homing}
use Rattle.state.specs.State.{State, state_of, with_frame, with_fed, with_here, with_here_ms, with_motion}
use Rattle.state.specs.Rule.{done}
use Rattle.follow.specs.View.{HomingFit, Changes}
use Rattle.update.specs.Update.{update}
use Rattle.matching.proofs.Choosing.{picked, passed-by}
use Rattle.update.proofs.Updating.{fit_same}
use Rattle.course.specs.Fix.{located, framed}
use Rattle.calls.specs.Fix.{still_ms, same_fix, headed, still_at, fix_on, arrived_at, new_fix, seen}
use Rattle.fix.specs.Ready.{Ready}
use Rattle.fix.proofs.recording.Moving.{ready-same}

-- ---- a repeated fix
module _ (here : Option Point) (C : ℕ) (course : List Crumb) (now : ℕ) (s : State) where
  pub still-nowhere : here ≡ None → still_at here C course now s ≡ done event.Nothing s
  unfolding still_at
  still-nowhere e = ap (λ (x : Option Point). still_at x C course now s) e

  module _ (p : Point) (e : here ≡ Some p) where
    pub still-early : ltb (elapsed now s.updated_ms) still_ms ≡ true → still_at here C course now s ≡ done event.Nothing s
    unfolding still_at
    still-early t =
        ap (λ (x : Option Point). still_at x C course now s) e
        ∙ picked (done event.Nothing s) (update C course p now (headed p now s)) (ltb (elapsed now s.updated_ms) still_ms) t

    pub still-due : ltb (elapsed now s.updated_ms) still_ms ≡ false → still_at here C course now s ≡ update C course p now (headed p now s)
    unfolding still_at
    still-due t =
        ap (λ (x : Option Point). still_at x C course now s) e
        ∙ passed-by (done event.Nothing s) (update C course p now (headed p now s)) (ltb (elapsed now s.updated_ms) still_ms) t

-- ---- repeated or new
module _ (C : ℕ) (course : List Crumb) (x : Fix) (now : ℕ) (s : State) where
  pub seen-again : same_fix s.fed x ≡ true → seen C course x now s ≡ still_at s.here C course now (with_here_ms now s)
  unfolding seen
  seen-again t =
      picked (still_at s.here C course now (with_here_ms now s)) (new_fix C course x now (with_here_ms now s)) (same_fix s.fed x) t

  pub seen-new : same_fix s.fed x ≡ false → seen C course x now s ≡ new_fix C course x now (with_here_ms now s)
  unfolding seen
  seen-new t =
      passed-by (still_at s.here C course now (with_here_ms now s)) (new_fix C course x now (with_here_ms now s)) (same_fix s.fed x) t

-- ---- the state at a fix
pub arrives : (x : Fix) (now : ℕ) {h r : Homing} {f : Frame} {p : Point} {m : Motion} → f ≡ located x h.frame → p ≡ framed f x
    → m ≡ track_heading h.motion p now
    → ((b : List Float) → state_of r b ≡ with_motion m (with_here (Some p) (with_frame f (with_fed (Some x) (state_of h b)))))
    → r.trail ≡ h.trail → r.window ≡ h.window → Changes (arrived_at x now) h r
unfolding arrived_at headed
arrives x now {h} {f = f} {p} ef ep em is kept stays =
    record {
      same = λ b.
          let s = state_of h b in
          let at : Frame → Point → State =
          λ g q. headed q now (with_here (Some q) (with_frame g (with_fed (Some x) s))) in
          is b
          ∙ ap (λ (n : Motion). with_motion n (with_here (Some p) (with_frame f (with_fed (Some x) s)))) em
          ∙ ap (λ (q : Point). at f q) ep
          ∙ ap (λ (g : Frame). at g (framed g x)) ef;
      trail = kept;
      window = stays;
    }

pub turns : (p : Point) (now : ℕ) {h r : Homing} {m : Motion} → m ≡ track_heading h.motion p now
    → ((b : List Float) → state_of r b ≡ with_motion m (state_of h b)) → r.trail ≡ h.trail → r.window ≡ h.window
    → Changes (headed p now) h r
unfolding headed
turns p now {h} e is kept stays =
    record { same = λ b. is b ∙ ap (λ (m : Motion). with_motion m (state_of h b)) e; trail = kept; window = stays }

-- ---- a change of what neither the trail nor a following goes by
module _ (rule : State → State) {h r : Homing} (c : Changes rule h r) (same-follow : (s : State) → (rule s).follow ≡ s.follow) where
  changed-follow : r.follow ≡ h.follow
  changed-follow = ap (λ (s : State). s.follow) (c.same []) ∙ same-follow (state_of h [])

  changed-fit : {room n : ℕ} → HomingFit h room n → HomingFit r room n
  changed-fit {room} {n} f = fit_same h r room n f c.trail changed-follow

  changed-ready : {room n : ℕ} → Ready h room n → Ready r room n
  changed-ready q = ready-same q c.trail changed-follow

module _ (p : Point) (now : ℕ) {h r : Homing} (c : Changes (headed p now) h r) where
  headed-follows : (s : State) → (headed p now s).follow ≡ s.follow
  unfolding headed
  headed-follows s = refl

  pub headed-fit : {room n : ℕ} → HomingFit h room n → HomingFit r room n
  headed-fit = changed-fit (headed p now) c headed-follows

module _ (x : Fix) (now : ℕ) {h r : Homing} (c : Changes (arrived_at x now) h r) where
  arrived-follows : (s : State) → (arrived_at x now s).follow ≡ s.follow
  unfolding arrived_at headed
  arrived-follows s = refl

  pub arrived-ready : {room n : ℕ} → Ready h room n → Ready r room n
  arrived-ready = changed-ready (arrived_at x now) c arrived-follows

  -- what is done at the fix, from the state before it
  pub new-fix : {f : Frame} {p : Point} → p ≡ framed f x → f ≡ located x h.frame → (course : List Crumb) (b : List Float) (C : ℕ)
      → new_fix C course x now (state_of h b) ≡ fix_on r.follow.line C course p now (state_of r b)
  unfolding new_fix
  new-fix {f} {p} ep ef course b C =
      sym
      (ap (λ (k : Follow). fix_on k.line C course p now (state_of r b)) (changed-follow (arrived_at x now) c arrived-follows)
      ∙ ap (λ (q : Point). fix_on h.follow.line C course q now (state_of r b)) (ep ∙ ap (λ (f : Frame). framed f x) ef)
      ∙ ap (λ (s : State). fix_on h.follow.line C course (framed (located x h.frame) x) now s) (c.same b))
