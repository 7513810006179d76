-- Whether the breadcrumb leads anywhere, and what a following of it begins with. Assumes nothing.
use mathlib.Core.Path.{◌≡◌, refl, sym, ap, ◌∙◌, subst}
use Prim.Native.Nat.{ℕ, ◌-◌, ◌≤◌}
use mathlib.Core.Bool.{Bool, true, false, cond, and-eq-true_iff}
use mathlib.Core.List.{List}
use lib.ListN.{length}
use lib.Dec.{leb}
use lib.Ieee.{Float}
use borrow.Author.Tests.{leb-true}
use Rattle.crumbs.specs.declared.Crumb.{Crumb}
use Rattle.crumbs.specs.Crumb.{crumbs}
use Rattle.crumbs.proofs.Crumbs.{length-crumbs}
use Rattle.trail.specs.View.{track}
use Rattle.state.specs.declared.Line.TheVariants as line
use Rattle.state.specs.declared.Homing.{Homing}
use Rattle.state.specs.State.{state_of}
use Rattle.state.specs.Rule.{Done, done}
use Rattle.follow.specs.Parts.{leads}
use Rattle.follow.specs.Engage.{engage_at, engage}
use Rattle.follow.specs.View.{Changes, Asks}
use Rattle.follow.proofs.Holding.{same-held}

pub long : (l : List Crumb) → leads l ≡ true → 2 ≤ length l
unfolding leads
long l e = leb-true 2 (length l) ((and-eq-true_iff (leb 2 (length l)) _).0 e).0

pub leads-some : (n : ℕ) (b : List Float) → leads (crumbs n b) ≡ true → 2 ≤ n
leads-some n b e = subst (λ (k : ℕ). 2 ≤ k) (length-crumbs n b) (long (crumbs n b) e)

module _ (course : List Crumb) (now : ℕ) (h : Homing) (b : List Float) where
  chosen : (t : Bool) → leads (crumbs h.trail.len b) ≡ t
      → engage course now (state_of h b) ≡ cond t (done true (engage_at course line.Breadcrumb (h.trail.len - 1) now (state_of h b)))
      (done false (state_of h b))
  unfolding engage track
  chosen t e = simp (e, length-crumbs)

  pub engaged : (r : Homing) → leads (crumbs h.trail.len b) ≡ true → Changes
      (engage_at course line.Breadcrumb (h.trail.len - 1) now) h r → Asks (engage course now) h b r true
  engaged r e c =
      record {
        answered = sym (ap (λ (d : Done Bool). d.answer) (chosen true e));
        same = c.same b ∙ sym (ap (λ (d : Done Bool). d.state) (chosen true e));
        held = same-held h.trail r.trail c.trail;
        window = c.window;
      }

  pub refused : leads (crumbs h.trail.len b) ≡ false → Asks (engage course now) h b h false
  refused e =
      record {
        answered = sym (ap (λ (d : Done Bool). d.answer) (chosen false e));
        same = sym (ap (λ (d : Done Bool). d.state) (chosen false e));
        held = same-held h.trail h.trail refl;
        window = refl;
      }
