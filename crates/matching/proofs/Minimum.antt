-- Which of two is the minimum, by the tests that a program makes. Assumes nothing.
use mathlib.Core.Path.{◌≡◌, refl, sym, ap, subst, ◌∙◌}
use mathlib.Core.Bool.{Bool, true, false, not, cond, false≢true}
use lib.Dec.{T}
use lib.Ieee.{Float, nan, inf, fin, le, lt, eq, ne}
use lib.Ieee.Compare.{differs_from_itself}
use Rattle.matching.specs.Match.{minimum}

-- what is at most the other
pub first-smaller : (a b : Float) → le a b ≡ true → minimum a b ≡ a
unfolding minimum le lt eq
first-smaller nan b h = absurd (false≢true h)
first-smaller (inf s) nan h = absurd (false≢true h)
first-smaller (fin s m e) nan h = absurd (false≢true h)
first-smaller (inf s) (inf t) h = ap (λ (c : Bool). cond c (inf s) (inf t)) h
first-smaller (inf s) (fin t n d) h = ap (λ (c : Bool). cond c (inf s) (fin t n d)) h
first-smaller (fin s m e) (inf t) h = ap (λ (c : Bool). cond c (fin s m e) (inf t)) h
first-smaller (fin s m e) (fin t n d) h = ap (λ (c : Bool). cond c (fin s m e) (fin t n d)) h

-- a number, which equals itself, where the other is not at most it
pub second-smaller : (a b : Float) → le a b ≡ false → eq b b ≡ true → minimum a b ≡ b
unfolding minimum le lt eq
second-smaller nan nan h k = refl
second-smaller nan (inf t) h k = refl
second-smaller nan (fin t n d) h k = refl
second-smaller (inf s) nan h k = absurd (false≢true k)
second-smaller (fin s m e) nan h k = absurd (false≢true k)
second-smaller (inf s) (inf t) h k = ap (λ (c : Bool). cond c (inf s) (inf t)) h
second-smaller (inf s) (fin t n d) h k = ap (λ (c : Bool). cond c (inf s) (fin t n d)) h
second-smaller (fin s m e) (inf t) h k = ap (λ (c : Bool). cond c (fin s m e) (inf t)) h
second-smaller (fin s m e) (fin t n d) h k = ap (λ (c : Bool). cond c (fin s m e) (fin t n d)) h

before-nan : (a : Float) → minimum a nan ≡ a
unfolding minimum
before-nan nan = refl
before-nan (inf s) = refl
before-nan (fin s m e) = refl

-- the first where the second is a NaN, which differs from itself
pub only-first : (a b : Float) → eq b b ≡ false → minimum a b ≡ a
unfolding ne
only-first a b h = ap (minimum a) (differs_from_itself b (subst (λ (t : Bool). T (not t)) (sym h) tt)) ∙ before-nan a
