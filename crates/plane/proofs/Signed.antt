-- Differences of coordinates: how large they are, what the wrap makes of them, and that the machine's steps are defined. Assumes nothing.
use Rattle.std.proofs.Common.{◌≡◌, ℕ, zero, suc, ◌+◌, ◌-◌, ◌^◌, ◌<◌, ◌≤◌, min, Bool, true, false, cond, not, T, ltb, ℤ, pos, negsuc, ◌+ℤ◌}
use Rattle.std.proofs.Common.{◌-ℤ◌, nat_abs, sym, refl, ap, ◌∙◌, subst, arith, ltb→lt, nltb→le, w32, w64, SFits, to_z, of_z}
use mathlib.Core.Bool.{false≢true}
use lib.IntN.{sub_ℕ}
use lib.Signed.{mag, lt_z}
use lib.Ieee.{binary32, of_int}
use mir.ValLaws.{to_z-of_z}
use Rattle.binary32.specs.Inner.{as_f32}
use Rattle.plane.specs.Fix.{wrapped}

-- ---- sizes
-- a - b is no larger in size than a and b
sub-size : (a b M : ℕ) → a ≤ M → b ≤ M → nat_abs (sub_ℕ a b) ≤ M
sub-size a b M A B = go (ltb a b) (ltb→lt a b) (nltb→le a b)
  where
    go : (t : Bool) → (T t → a < b) → (T (not t) → b ≤ a) → nat_abs (cond t (negsuc (b - suc a)) (pos (a - b))) ≤ M
    go true y n = let l : a < b = y tt in omega arith
    go false y n = omega arith

pub minus-size : (a b : ℤ) → SFits w32 a → SFits w32 b → nat_abs (a -ℤ b) ≤ 2 ^ 32 - 1
minus-size (pos a) (pos zero) A B = let h : a < 2 ^ 31 = A.sfits in omega arith
minus-size (pos a) (pos (suc b)) A B = let h : a < 2 ^ 31 = A.sfits in let k : suc b < 2 ^ 31 = B.sfits in
    sub-size a (suc b) (2 ^ 32 - 1) (omega arith) (omega arith)
minus-size (pos a) (negsuc b) A B = let h : a < 2 ^ 31 = A.sfits in let k : b < 2 ^ 31 = B.sfits in omega arith
minus-size (negsuc a) (pos zero) A B = let h : a < 2 ^ 31 = A.sfits in sub-size 0 (suc a) (2 ^ 32 - 1) (omega arith) (omega arith)
minus-size (negsuc a) (pos (suc b)) A B = let h : a < 2 ^ 31 = A.sfits in let k : suc b < 2 ^ 31 = B.sfits in omega arith
minus-size (negsuc a) (negsuc b) A B = let h : a < 2 ^ 31 = A.sfits in let k : b < 2 ^ 31 = B.sfits in
    sub-size (suc b) (suc a) (2 ^ 32 - 1) (omega arith) (omega arith)

-- a difference of two numbers of at most N in size
pub minus-within : (a b : ℤ) (N : ℕ) → nat_abs a ≤ N → nat_abs b ≤ N → nat_abs (a -ℤ b) ≤ N + N
minus-within (pos a) (pos zero) N A B = omega arith
minus-within (pos a) (pos (suc b)) N A B = sub-size a (suc b) (N + N) (omega arith) (omega arith)
minus-within (pos a) (negsuc b) N A B = omega arith
minus-within (negsuc a) (pos zero) N A B = sub-size 0 (suc a) (N + N) (omega arith) (omega arith)
minus-within (negsuc a) (pos (suc b)) N A B = omega arith
minus-within (negsuc a) (negsuc b) N A B = sub-size (suc b) (suc a) (N + N) (omega arith) (omega arith)

mag-le : (z : ℤ) → mag z ≤ nat_abs z
mag-le (pos n) = omega arith
mag-le (negsuc n) = omega arith

pub small-fits : (z : ℤ) → nat_abs z ≤ 2 ^ 32 - 1 → SFits w64 z
small-fits z h = record { sfits = room (mag z) (nat_abs z) (mag-le z) h }
  where
    room : (m n : ℕ) → m ≤ n → n ≤ 2 ^ 32 - 1 → m < 2 ^ 63
    room m n a b = omega arith

-- a difference of two i32 is rounded as it stands
pub as_f32-small : (z : ℤ) → nat_abs z ≤ 2 ^ 32 - 1 → as_f32 z ≡ of_int binary32 z
unfolding as_f32
as_f32-small (pos n) h = ap (λ (x : ℕ). of_int binary32 (pos x)) (same n h)
  where
    same : (x : ℕ) → x ≤ 2 ^ 32 - 1 → min x (2 ^ 32 - 1) ≡ x
    same x g = omega arith
as_f32-small (negsuc n) h = ap (λ (x : ℕ). of_int binary32 (negsuc x)) (same n h)
  where
    same : (x : ℕ) → suc x ≤ 2 ^ 32 - 1 → min x (2 ^ 32 - 2) ≡ x
    same x g = omega arith

-- ---- the wrap
-- which of its three cases d meets
data Wrap (d : ℤ) : ℤ → Type 0 where
  east : (n : ℕ) → d ≡ pos n → 1800000000 < n → Wrap d (sub_ℕ n 3600000000)
  west : (n : ℕ) → d ≡ negsuc n → 1800000000 ≤ n → Wrap d (sub_ℕ 3600000000 (suc n))
  stays : nat_abs d ≤ 1800000000 → Wrap d d

wrap : (d : ℤ) → Wrap d (wrapped d)
unfolding wrapped
wrap (pos n) = go (ltb 1800000000 n) (ltb→lt 1800000000 n) (nltb→le 1800000000 n)
  where
    go : (t : Bool) → (T t → 1800000000 < n) → (T (not t) → n ≤ 1800000000) → Wrap (pos n) (cond t (sub_ℕ n 3600000000) (pos n))
    go true y k = east n refl (y tt)
    go false y k = stays (k tt)
wrap (negsuc n) = go (ltb 1799999999 n) (ltb→lt 1799999999 n) (nltb→le 1799999999 n)
  where
    go : (t : Bool) → (T t → 1799999999 < n) → (T (not t) → n ≤ 1799999999) → Wrap (negsuc n) (cond t (sub_ℕ 3600000000 (suc n)) (negsuc n))
    go true y k = west n refl (let l : 1799999999 < n = y tt in omega arith)
    go false y k = stays (let l : n ≤ 1799999999 = k tt in omega arith)

pub wrapped-size : (d : ℤ) → nat_abs d ≤ 2 ^ 32 - 1 → nat_abs (wrapped d) ≤ 2 ^ 32 - 1
wrapped-size d h = go (wrapped d) (wrap d)
  where
    go : (z : ℤ) → Wrap d z → nat_abs z ≤ 2 ^ 32 - 1
    go z (east n e l) = sub-size n 3600000000 (2 ^ 32 - 1) (subst (λ (y : ℤ). nat_abs y ≤ 2 ^ 32 - 1) e h) (omega arith)
    go z (west n e l) = sub-size 3600000000 (suc n) (2 ^ 32 - 1) (omega arith) (subst (λ (y : ℤ). nat_abs y ≤ 2 ^ 32 - 1) e h)
    go z (stays k) = h

-- a difference of two longitudes on the globe is at most half a turn once wrapped
pub wrapped-half : (d : ℤ) → nat_abs d ≤ 3600000000 → nat_abs (wrapped d) ≤ 1800000000
wrapped-half d h = go (wrapped d) (wrap d)
  where
    near : (a b : ℕ) → a ≤ b + 1800000000 → b ≤ a + 1800000000 → nat_abs (sub_ℕ a b) ≤ 1800000000
    near a b A B = go' (ltb a b) (ltb→lt a b)
      where
        go' : (t : Bool) → (T t → a < b) → nat_abs (cond t (negsuc (b - suc a)) (pos (a - b))) ≤ 1800000000
        go' true y = let l : a < b = y tt in omega arith
        go' false y = omega arith

    go : (z : ℤ) → Wrap d z → nat_abs z ≤ 1800000000
    go z (east n e l) = let k : n ≤ 3600000000 = subst (λ (y : ℤ). nat_abs y ≤ 3600000000) e h in
        near n 3600000000 (omega arith) (omega arith)
    go z (west n e l) = let k : suc n ≤ 3600000000 = subst (λ (y : ℤ). nat_abs y ≤ 3600000000) e h in
        near 3600000000 (suc n) (omega arith) (omega arith)
    go z (stays k) = k

-- ---- the machine's steps: it writes each signed result as bits and reads it back
abbrev back : ℤ → ℤ
back z = to_z w64 (of_z w64 z)

-- y is what the machine makes of d by a step: it fits, and is the wrapped number
pub record Wrapped (d y : ℤ) : Type 0 where
  pub fits : SFits w64 y
  pub result : to_z w64 (of_z w64 y) ≡ wrapped d

stepped : (d y : ℤ) → SFits w64 y → y ≡ wrapped d → Wrapped d y
stepped d y F e = record { fits = F; result = to_z-of_z w64 y F ∙ e }

mag-sub : (a b : ℕ) → a < 2 ^ 63 → b < 2 ^ 63 + 1 → mag (sub_ℕ a b) < 2 ^ 63
mag-sub a b A B = go (ltb a b) (ltb→lt a b)
  where
    go : (t : Bool) → (T t → a < b) → mag (cond t (negsuc (b - suc a)) (pos (a - b))) < 2 ^ 63
    go true y = let l : a < b = y tt in omega arith
    go false y = omega arith

module _ (d : ℤ) (F : SFits w64 d) where
  pub loses : lt_z (pos 1800000000) (back d) ≡ true → Wrapped d (back d -ℤ pos 3600000000)
  unfolding wrapped
  loses t = subst (λ (y : ℤ). Wrapped d (y -ℤ pos 3600000000)) (sym e) (stepped d (d -ℤ pos 3600000000) (fits d F u)
      (sym (ap (λ (b : Bool). cond b (d -ℤ pos 3600000000) (cond (lt_z d (negsuc 1799999999)) (d +ℤ pos 3600000000) d)) u)))
    where
      e : back d ≡ d
      e = to_z-of_z w64 d F

      u : lt_z (pos 1800000000) d ≡ true
      u = ap (lt_z (pos 1800000000)) (sym e) ∙ t

      fits : (z : ℤ) → SFits w64 z → lt_z (pos 1800000000) z ≡ true → SFits w64 (z -ℤ pos 3600000000)
      fits (pos n) G h = record { sfits = mag-sub n 3600000000 G.sfits (omega arith) }
      fits (negsuc n) G h = absurd (false≢true h)

  pub gains : lt_z (pos 1800000000) (back d) ≡ false → lt_z (back d) (negsuc 1799999999) ≡ true → Wrapped d (back d +ℤ pos 3600000000)
  unfolding wrapped
  gains s t = subst (λ (y : ℤ). Wrapped d (y +ℤ pos 3600000000)) (sym e) (stepped d (d +ℤ pos 3600000000) (fits d F v) (sym (simp (u, v))))
    where
      e : back d ≡ d
      e = to_z-of_z w64 d F

      u : lt_z (pos 1800000000) d ≡ false
      u = ap (lt_z (pos 1800000000)) (sym e) ∙ s

      v : lt_z d (negsuc 1799999999) ≡ true
      v = ap (λ (y : ℤ). lt_z y (negsuc 1799999999)) (sym e) ∙ t

      fits : (z : ℤ) → SFits w64 z → lt_z z (negsuc 1799999999) ≡ true → SFits w64 (z +ℤ pos 3600000000)
      fits (pos n) G h = absurd (false≢true h)
      fits (negsuc n) G h = record { sfits = mag-sub 3600000000 (suc n) (omega arith) (let k : n < 2 ^ 63 = G.sfits in omega arith) }

  pub unmoved : lt_z (pos 1800000000) (back d) ≡ false → lt_z (back d) (negsuc 1799999999) ≡ false → back d ≡ wrapped d
  unfolding wrapped
  unmoved s t = e ∙ sym (simp (u, v))
    where
      e : back d ≡ d
      e = to_z-of_z w64 d F

      u : lt_z (pos 1800000000) d ≡ false
      u = ap (lt_z (pos 1800000000)) (sym e) ∙ s

      v : lt_z d (negsuc 1799999999) ≡ false
      v = ap (λ (y : ℤ). lt_z y (negsuc 1799999999)) (sym e) ∙ t
