-- What the tests of `pattern` and `as_f32` tell of the value. Assumes nothing.
use Rattle.std.proofs.Common.{◌≡◌, ℕ, zero, suc, ◌+◌, ◌*◌, ◌^◌, ◌<◌, min, Bool, true, false, cond, T, ltb, ℤ, pos, negsuc, nat_abs, sym}
use Rattle.std.proofs.Common.{refl, ap}
use Rattle.std.proofs.Common.{◌∙◌, subst, add-one, arith, ltb→lt}
use lib.Signed.{lt_z}
use lib.Ieee.{Float, nan, inf, fin, Format, binary32, prec, emax, low, odd, units, round, neg, is_nan, of_int, to_bits}
use lib.Ieee.Fits.{round_is}
use Rattle.binary32.specs.Inner.{as_f32}

-- ---- patterns
pub nan_pattern : (x : Float) → is_nan x ≡ true → 0x7fc0_0000 ≡ to_bits binary32 x
unfolding is_nan to_bits
nan_pattern nan h = refl
nan_pattern (inf s) h = cc
nan_pattern (fin s m e) h = cc

-- ---- as f32
neg-odd : (d q k l : ℕ) → neg (odd d false q k l) ≡ odd d true q k l
unfolding neg odd
neg-odd d zero k l = refl
neg-odd d (suc q) k l = refl

neg-units : (f : Format) (q k : ℕ) → neg (units f false q k) ≡ units f true q k
unfolding units neg
neg-units f q k = go (ltb (q * 2 ^ k) (2 ^ (low f + suc (emax f))))
  where
    go : (b : Bool)
        → neg (cond b (odd (suc (prec f)) false q k (low f)) (inf false)) ≡ cond b (odd (suc (prec f)) true q k (low f)) (inf true)
    go true = neg-odd (suc (prec f)) q k (low f)
    go false = refl

negated : (f : Format) (n : ℕ) → neg (of_int f (pos (n + 1))) ≡ of_int f (negsuc n)
unfolding of_int
negated f n = ap (λ (x : ℕ). neg (round f false x 1)) (add-one n) ∙ ap neg (round_is f false (suc n) 1) ∙ neg-units f _ _
    ∙ sym (round_is f true (suc n) 1)

-- the size of d, as far as it counts
abbrev pub counted : ℤ → ℕ
counted d = min (nat_abs d) 0xffff_ffff

pub below_zero : (d : ℤ) → lt_z d (pos 0) ≡ true → neg (of_int binary32 (pos (counted d))) ≡ as_f32 d
unfolding as_f32
below_zero (pos n) t = absurd (none n (ltb→lt n 0 (subst T (sym t) tt)))
  where
    none : (x : ℕ) → x < 0 → ⊥
    none x h = omega arith
below_zero (negsuc n) t =
    let e : min (suc n) 0xffff_ffff ≡ min n 0xffff_fffe + 1 = omega arith in
    ap (λ (x : ℕ). neg (of_int binary32 (pos x))) e ∙ negated binary32 (min n 0xffff_fffe)

pub not_below : (d : ℤ) → lt_z d (pos 0) ≡ false → of_int binary32 (pos (counted d)) ≡ as_f32 d
unfolding as_f32
not_below (pos n) t = refl
not_below (negsuc n) t = cc
