-- A crumb between the two bounds fits. Assumes nothing.
use Prim.Native.Nat.{◌^◌}
use mathlib.Core.Path.{◌≡◌, sym, ap, ◌∙◌}
use mathlib.Core.Bool.{Bool, true, ◌&&◌, and-eq-true_iff}
use lib.Ieee.{Float, neg, le}
use Rattle.binary32.specs.Arithmetic.{constant}
use Rattle.binary32.specs.Limits.{plus_zero}
use Rattle.crumbs.specs.declared.Crumb.{Crumb}
use Rattle.crumbs.specs.Bounds.{between}
use Rattle.calls.specs.Questions.{sized, place_fits, up_to, along_fits, crumb_fits}
use Rattle.questions.specs.Sure.{place_most, along_sure, least_sure, most_sure}
use Rattle.questions.proofs.limits.Numbers.{sized-within}
use Rattle.questions.proofs.Exact.{sized-tested, sure-along}

fits-size : (x : Float) → le (neg place_most) x ≡ true → le x place_most ≡ true → sized x ≡ true
unfolding place_most constant neg
fits-size x l h = sym (sized-tested x) ∙ sym (sized-within _ _ x) ∙ ap (λ (b : Bool). b && le x place_most) l ∙ h

fits_along : (x : Float) → le plus_zero x ≡ true → le x along_sure ≡ true → along_fits x ≡ true
unfolding along_fits along_sure
fits_along x l h = ap (λ (b : Bool). b && up_to (10 ^ 16) 1 x) l ∙ sure-along x h

six : (a b c d e f : Bool) → (a && b && c && d && e && f) ≡ true
    → (a ≡ true) × (b ≡ true) × (c ≡ true) × (d ≡ true) × (e ≡ true) × (f ≡ true)
six a b c d e f h =
    let p = (and-eq-true_iff (a && b && c && d && e) f).0 h in
    let q = (and-eq-true_iff (a && b && c && d) e).0 p.0 in
    let r = (and-eq-true_iff (a && b && c) d).0 q.0 in
    let s = (and-eq-true_iff (a && b) c).0 r.0 in
    let t = (and-eq-true_iff a b).0 s.0 in
    (t.0, t.1, s.1, r.1, q.1, p.1)

pub sure-fits : (c : Crumb) → between least_sure most_sure c ≡ true → crumb_fits c ≡ true
unfolding between least_sure most_sure crumb_fits place_fits
sure-fits c h =
    let t = six (le (neg place_most) c.east) (le c.east place_most) (le (neg place_most) c.north) (le c.north place_most)
    (le plus_zero c.along) (le c.along along_sure) h in
    rw (fits-size c.east t.0 t.1, fits-size c.north t.2 t.3, fits_along c.along t.4 t.5)
