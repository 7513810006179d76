-- A root is at most g where its operand is at most g * g, for a whole number g that the format holds, and it is 0 or more. Assumes nothing.
use Rattle.std.proofs.Common.{◌≡◌, ℕ, zero, suc, ◌*◌, ◌^◌, ◌≤◌, true, false, T, pos, sym, refl, ap, ◌∙◌, inl, inr, le_trans, le_of_eq}
use Rattle.std.proofs.Common.{le_of_lt, mul-le-mul_right, zero-lt-suc, mul_assoc, mul_comm, eq-or-lt_of_le, mul-pos, zero-mul, mul-one}
use Rattle.std.proofs.Common.{mul_left_comm, arith, pow_pos}
use lib.Ieee.{Float, nan, inf, fin, Format, low, up, down}
use lib.Ieee.Fits.{down_pos}
use lib.Ieee.Scale.{finite}
use Rattle.binary32.specs.Root.{root, root_of, halves}
use Rattle.binary32.proofs.Sides.{halves-below, halves-exact}
use Rattle.binary32.proofs.magnitude.Size.{Within, NonNeg}
use Rattle.binary32.proofs.magnitude.Round.{round-held, Held}
use Rattle.binary32.proofs.magnitude.Signs.{round-nonneg}

halves-le : (n h : ℕ) → n ≤ h * h → halves n ≤ 2 * h
halves-le n h l = elim (eq-or-lt_of_le l) [ inl e ↦ le_of_eq (halves-exact n h (sym e)) | inr g ↦ le_of_lt (halves-below n h g) ]

squares : (a c g h : ℕ) → a ≤ g * g * c → a * c * (h * h) ≤ g * (c * h) * (g * (c * h))
squares a c g h l = le_trans (mul-le-mul_right (h * h) (mul-le-mul_right c l)) (le_of_eq (simp (mul_assoc, mul_comm, mul_left_comm)))

least : (z : ℕ) → 0 ≤ z
least z = omega arith

pub root-within : (f : Format) (n k : ℕ) (x : Float) → Held f n (pos k) → NonNeg x → Within (fin false (n * 2 ^ k * (n * 2 ^ k)) (pos 0)) x
    → Within (fin false n (pos k)) (root f x)
unfolding root root_of
root-within f n k nan p h w = absurd h
root-within f n k (inf s) p h w = absurd h
root-within f n k (fin s zero e) p h w = le_trans (le_of_eq (mul-one (0 * up e) ∙ zero-mul (up e))) (least (n * 2 ^ k * down e))
root-within f n k (fin true (suc m) e) p h w = absurd (no m h)
  where
    no : (m : ℕ) → suc m ≡ 0 → ⊥
    no m e = omega arith
root-within f n k (fin false (suc m) e) p h w =
    let a = suc m * up e in
    let c = down e in
    let g = n * 2 ^ k in
    let r = 2 ^ suc (low f) in
    let l : a ≤ g * g * c = le_trans (le_of_eq (sym (mul-one a))) (le_trans w (le_of_eq (ap (λ (z : ℕ). z * c) (mul-one (g * g))))) in
    let u : halves (a * c * (r * r)) * 1 ≤ g * (2 * (c * r)) =
    le_trans (le_of_eq (mul-one (halves (a * c * (r * r)))))
    (le_trans (halves-le (a * c * (r * r)) (g * (c * r)) (squares a c g r l)) (le_of_eq (mul_left_comm 2 g (c * r)))) in
    round-held f false (halves (a * c * (r * r))) (2 * (c * r)) false n (pos k) p
    (mul-pos (zero-lt-suc 1) (mul-pos (down_pos e) (pow_pos (suc (low f))))) u

pub root-nonneg : (f : Format) (x : Float) → NonNeg x → T (finite (root f x)) → NonNeg (root f x)
unfolding root root_of
root-nonneg f nan h t = absurd h
root-nonneg f (inf s) h t = absurd h
root-nonneg f (fin true zero e) h t = refl
root-nonneg f (fin false zero e) h t = tt
root-nonneg f (fin true (suc m) e) h t = absurd t
root-nonneg f (fin false (suc m) e) h t =
    let c = down e in
    let r = 2 ^ suc (low f) in
    round-nonneg f false (halves (suc m * up e * c * (r * r))) (2 * (c * r))
    (mul-pos (zero-lt-suc 1) (mul-pos (down_pos e) (pow_pos (suc (low f))))) (λ p. absurd p) t
