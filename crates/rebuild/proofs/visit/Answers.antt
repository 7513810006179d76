-- `rebuild::visit` meets its contract.
use mathlib.Core.Path.{◌≡◌, refl, sym, subst}
use Rattle.ride_log.specs.declared.Kind.{Kind}
use Rattle.ride_log.specs.declared.Kind.TheVariants as kind
use Rattle.ride_log.specs.declared.Entry.{Entry}
use Rattle.rebuild.specs.declared.Rebuild.{Rebuild}
use Rattle.rebuild.specs.Made.{Made, quiet}
use Rattle.rebuild.specs.Rebuild.{visit_kind, visit}
use Rattle.rebuild.specs.View.{Makes}
use Rattle.rebuild.proofs.Making.{makes-quiet}
use Rattle.rebuild.proofs.visit.Goals as goal

not-samples : (k : Kind) (e : Entry) (r : Rebuild) → (k ≡ kind.Samples → ⊥) → visit_kind k e r ≡ quiet r
unfolding visit_kind
not-samples kind.Samples e r o = absurd (o refl)
not-samples kind.Start e r o = refl
not-samples kind.Pause e r o = refl
not-samples kind.Resume e r o = refl
not-samples kind.Finish e r o = refl
not-samples kind.Recovered e r o = refl
not-samples kind.Full e r o = refl

pub returns-in_default : goal.returns-in_default
unfolding visit
returns-in_default c =
    let g = c.args in
    subst (λ (m : Made). Makes m g.h.now g.crumbs.now g.r.now g.h.now g.crumbs.now)
    (sym (not-samples g.e.kind g.e g.r.now c.in_default.not-Samples))
    (makes-quiet g.r.now g.h.now g.crumbs.now c.requires.trail_fit)

pub returns-in-Samples : goal.returns-in-Samples
unfolding visit visit_kind
returns-in-Samples c =
    let g = c.args in
    let k = c.visit_samples in
    subst (λ (x : Kind). Makes (visit_kind x g.e g.r.now) g.h.now g.crumbs.now k.new.r k.new.h k.new.crumbs)
    (sym c.in-Samples.is) k.ensures
