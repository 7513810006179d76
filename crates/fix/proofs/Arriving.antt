-- A fix missing, or from before a restart, in the whole state. Assumes nothing.
use mathlib.Core.Path.{◌≡◌, refl, sym, ap, ◌∙◌, subst}
use Prim.Native.Nat.{ℕ, max}
use mathlib.Core.Bool.{Bool, true, false, ◌&&◌, cond}
use mathlib.Core.List.{List}
use lib.Dec.{ltb}
use lib.Ieee.{Float}
use lib.ListN.{length}
use Rattle.plane.specs.declared.Point.{Point}
use Rattle.crumbs.specs.Crumb.{capacity, behind}
use Rattle.trail.specs.declared.Trail.{Trail}
use Rattle.trail.specs.View as trail
use Rattle.motion.specs.Heading.{elapsed}
use Rattle.state.specs.declared.Frame.{Frame}
use Rattle.state.specs.declared.Homing.{Homing}
use Rattle.state.specs.State.{State, state_of, with_frame}
use Rattle.std.specs.Prelude.{ℕ}
use Rattle.plane.specs.declared.Fix.{Fix}
use Rattle.motion.specs.declared.Motion.{Motion}
use Rattle.motion.specs.Heading.{track_heading}
use Rattle.lap.specs.declared.Lap.{Lap}
use Rattle.state.specs.State.{with_motion, with_lap}
use Rattle.follow.specs.Record.{add_in}
use Rattle.fix.specs.Pass.{passing}
use Rattle.follow.specs.View.{Changes, Follows}
use Rattle.course.specs.Fix.{located, framed}
use Rattle.std.specs.Option.{is_some}
use Rattle.calls.specs.Fix.{fix_lost_ms, cleared, missing, headed, pass_only, replay}

-- ---- a missing fix
module _ (now : ℕ) (h r : Homing) where
  abbrev lost_now : Bool
  lost_now = is_some h.here && ltb fix_lost_ms (elapsed now h.here_ms)

  tested : (t : Bool) → lost_now ≡ t → (b : List Float)
      → (missing now (state_of h b)).state ≡ cond t (cleared (state_of h b)) (state_of h b)
  unfolding missing
  tested t e b = ap (λ (x : Bool). cond x (cleared (state_of h b)) (state_of h b)) e

  pub misses : lost_now ≡ true → Changes cleared h r → Changes (λ s. (missing now s).state) h r
  misses e c = record { same = λ b. c.same b ∙ sym (tested true e b); trail = c.trail; window = c.window }

  pub waits : lost_now ≡ false → Changes (λ s. (missing now s).state) h h
  waits e = record { same = λ b. sym (tested false e b); trail = refl; window = refl }

-- ---- a fix from before a restart
module _ (x : Fix) (now : ℕ) {h on grown r : Homing} {f : Frame} (p : Point) {entry exit : List Float} where
  pub replays : f ≡ located x h.frame → p ≡ framed f x → Changes (λ s. headed p now (with_frame f s)) h on
      → Follows (λ C. add_in C p) on entry grown exit → Changes (pass_only p) grown r → Follows (λ C. replay C x now) h entry r exit
  unfolding replay
  replays ef ep c d e =
      let C = capacity (length entry) in
      let by : Frame → Point → State = λ g q. pass_only q (add_in C q (headed q now (with_frame g (state_of h entry)))).state in
      record {
        same =
            e.same exit
            ∙ ap (λ (s : State). pass_only p s) d.same
            ∙ ap (λ (s : State). pass_only p (add_in C p s).state) (c.same entry)
            ∙ ap (λ (q : Point). by f q) ep
            ∙ ap (λ (g : Frame). by g (framed g x)) ef;
        fit = subst (λ (t : Trail). trail.TrailFit t (length exit)) (sym e.trail) d.fit;
        size = d.size;
        beyond =
            subst (λ (t : Trail). behind (max h.trail.len t.len) exit ≡ behind (max h.trail.len t.len) entry) (sym e.trail)
            (subst (λ (t : Trail). behind (max t.len grown.trail.len) exit ≡ behind (max t.len grown.trail.len) entry) c.trail
            d.beyond);
      }

pub on-it : (now : ℕ) {h on : Homing} {f : Frame} (p : Point) {m : Motion} → m ≡ track_heading h.motion p now
    → ((b : List Float) → state_of on b ≡ with_motion m (with_frame f (state_of h b))) → on.trail ≡ h.trail
    → on.window ≡ h.window → Changes (λ s. headed p now (with_frame f s)) h on
unfolding headed
on-it now {h} {f = f} p e is kept stays =
    record { same = λ b. is b ∙ ap (λ (n : Motion). with_motion n (with_frame f (state_of h b))) e; trail = kept; window = stays }

pub passes : (p : Point) {grown r : Homing} {l : Lap} → l ≡ passing p grown.motion.heading grown.lap
    → ((b : List Float) → state_of r b ≡ with_lap l (state_of grown b)) → r.trail ≡ grown.trail → r.window ≡ grown.window
    → Changes (pass_only p) grown r
unfolding pass_only passing
passes p {grown} e is kept stays =
    record { same = λ b. is b ∙ ap (λ (n : Lap). with_lap n (state_of grown b)) e; trail = kept; window = stays }
