-- The breadcrumb grows, and the guide is brought up to date. Assumes nothing.
use mathlib.Core.Path.{◌≡◌, refl, sym, ap, ◌∙◌, subst}
use Prim.Native.Nat.{ℕ, ◌≤◌, ◌<◌, max}
use native.Mathlib.Omega.{arith}
use mathlib.Core.Bool.{Bool, true, false}
use mathlib.Core.List.{List}
use lib.ListN.{length}
use lib.Ieee.{Float}
use Rattle.plane.specs.declared.Point.{Point}
use Rattle.crumbs.specs.declared.Crumb.{Crumb}
use Rattle.crumbs.specs.Crumb.{capacity}
use Rattle.crumbs.proofs.Crumbs.{behind_more}
use Rattle.trail.specs.Notes.{thinned_in}
use Rattle.trail.specs.Trail as trail_rules
use Rattle.state.specs.declared.Line.{Line}
use Rattle.state.specs.declared.Line.TheVariants as lines
use Rattle.state.specs.declared.Event.{Event}
use Rattle.state.specs.declared.Follow.{Follow}
use Rattle.state.specs.declared.Homing.{Homing}
use Rattle.state.specs.State.{State, state_of}
use Rattle.state.specs.Rule.{Done}
use Rattle.follow.specs.Parts.{ended_by_thinning}
use Rattle.follow.specs.Record.{after_thinning, recorded_in, recorded, add_in}
use Rattle.follow.specs.View.{HomingFit, Follows}
use Rattle.update.specs.Update.{update}
use Rattle.update.specs.View.{Updates}
use Rattle.update.proofs.Keeping.{update-len}
use Rattle.calls.specs.Fix.{add_update}
use Rattle.fix.specs.Ready.{Grows}

-- ---- adding leaves a following alone that is not of the breadcrumb
left_alone : (on : Line) (f : Follow) → (on ≡ lines.Breadcrumb → ⊥) → ended_by_thinning on f ≡ f
unfolding ended_by_thinning
left_alone lines.Breadcrumb f never = absurd (never refl)
left_alone lines.Nothing f never = refl
left_alone lines.Course f never = refl

after-alone : (thinned : Bool) (f : Follow) → (f.line ≡ lines.Breadcrumb → ⊥) → after_thinning thinned f ≡ f
unfolding after_thinning
after-alone true f never = left_alone f.line f never
after-alone false f never = refl

add-follow : (C : ℕ) (p : Point) (s : State) → (s.follow.line ≡ lines.Breadcrumb → ⊥) → (add_in C p s).state.follow ≡ s.follow
unfolding add_in recorded recorded_in
add-follow C p s never = after-alone (thinned_in (trail_rules.add C p s.track).notes) s.follow never

between-max : (a b c : ℕ) → c ≡ b → max a b ≤ max a c
between-max a b c e = omega (arith, e)

same-max : (b c : ℕ) → c ≡ b → (a : ℕ) → max b c ≤ max a c
same-max b c e a = omega (arith, e)

module _ (p : Point) {h r : Homing} {entry mid : List Float} (grows : Grows h) (f : Follows (λ C. add_in C p) h entry r mid) where
  pub grown-follow : r.follow ≡ h.follow
  grown-follow = ap (λ (s : State). s.follow) f.same ∙ add-follow _ p (state_of h entry) grows

  grown-off : r.follow.line ≡ lines.Breadcrumb → ⊥
  grown-off e = grows (ap (λ (x : Follow). x.line) (sym grown-follow) ∙ e)

  pub fit-grown : {n : ℕ} → HomingFit h (length entry) n → HomingFit r (length mid) n
  fit-grown {n} fit =
      record {
        trail = f.fit;
        on_trail = λ e. absurd (grown-off e);
        on_course = λ e.
            let on = fit.on_course (ap (λ (x : Follow). x.line) (sym grown-follow) ∙ e) in (
              subst (λ (x : Follow). 1 ≤ x.segment) (sym grown-follow) on.0,
              subst (λ (x : Follow). x.segment < n) (sym grown-follow) on.1,
            );
      }

  pub grown-updated : (course : List Crumb) (now : ℕ) {t : Homing} {e : Event} {exit : List Float}
      → Updates (λ C. update C course p now) r mid t e exit
      → Updates (λ C. add_update C course p now) h entry t e exit
  unfolding add_update
  grown-updated course now {t} {e} {exit} u =
      let C = capacity (length entry) in
      let room : capacity (length mid) ≡ C = ap (λ (n : ℕ). capacity n) f.size in
      let len = update-len course p now r mid t e exit (λ e. absurd (grown-off e)) u in
      let whole : update (capacity (length mid)) course p now (state_of r mid)
      ≡ update C course p now (add_in C p (state_of h entry)).state =
      ap (λ (n : ℕ). update n course p now (state_of r mid)) room
      ∙ ap (λ (s : State). update C course p now s) f.same in
      let m = max h.trail.len t.trail.len in
      record {
        told = u.told ∙ ap (λ (d : Done Event). d.answer) whole;
        follows =
            record {
              same = u.follows.same ∙ ap (λ (d : Done Event). d.state) whole;
              fit = u.follows.fit;
              size = u.follows.size ∙ f.size;
              beyond =
                  behind_more (max r.trail.len t.trail.len) m exit mid
                  (same-max r.trail.len t.trail.len len h.trail.len) u.follows.beyond
                  ∙ behind_more (max h.trail.len r.trail.len) m mid entry
                  (between-max h.trail.len r.trail.len t.trail.len len) f.beyond;
            };
      }
