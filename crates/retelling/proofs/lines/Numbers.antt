-- Numbers and crumbs as text, digit by digit and line by line. Assumes nothing.
use Prim.Native.Nat.{ℕ, zero, suc, ◌+◌, ◌-◌, ◌*◌, ◌/◌, ◌%◌, ◌^◌, ◌≤◌, ◌<◌}
use mathlib.Core.Path.{◌≡◌, refl, sym, ap, ◌∙◌, subst}
use mathlib.Core.Bool.{Bool, true, false, cond, true≢false, false≢true}
use mathlib.Core.Logic.{◌≢◌}
use mathlib.Core.List.{List, [], ◌∷◌, ◌++◌, append_assoc, append-nil}
use native.Mathlib.Omega.{arith}
use native.Mathlib.Numerals.{add-one}
use native.Mathlib.Nat.{pow-suc}
use borrow.Author.Tests.{lt-ltb, le-ltb, ltb-true, ltb-false}
use lib.Dec.{ltb}
use lib.ListN.{length, get_or}
use lib.Seq.{take_all, take-suc}
use lib.Ieee.{Float}
use Rattle.io.specs.Digits.{hex_digit_ascii, last_digits, IsDigitCount}
use Rattle.crumbs.specs.declared.Crumb.{Crumb}
use Rattle.crumbs.specs.Crumb.{crumb_at, crumbs}
use Rattle.crumbs.proofs.Crumbs.{length-crumbs, get_d-crumbs, take-crumbs}
use Rattle.retelling.specs.Text.{numeral, capital, numerals, decimal, capitals, crumb_line, crumb_lines, first_line, rebuilt_text}
use Rattle.retelling.specs.Writing.{Puts}
use Rattle.retelling.specs.declared.lines.Writer.{Writer}
use Rattle.retelling.proofs.lines.Writing.{puts-none, puts_then}

-- ---- one of two by a test
module _ {A : Type 0} (x y : A) where
  pub picked : (b : Bool) → b ≡ true → elim b [ true ↦ x | false ↦ y ] ≡ x
  picked true e = refl
  picked false e = absurd (false≢true e)

  pub passed-by : (b : Bool) → b ≡ false → elim b [ true ↦ x | false ↦ y ] ≡ y
  passed-by true e = absurd (true≢false e)
  passed-by false e = refl

-- ---- "decimal"
tenth : (n : ℕ) → 10 ≤ n → n / 10 < n
tenth n h = omega arith

digits-one : (most n : ℕ) → n < 10 → numerals most n ≡ numeral n ∷ []
unfolding numerals
digits-one zero n h = refl
digits-one (suc most) n h = picked _ _ (ltb n 10) (lt-ltb n 10 h)

digits_more : (most n : ℕ) → 10 ≤ n → numerals (suc most) n ≡ numerals most (n / 10) ++ numeral (n % 10) ∷ []
unfolding numerals
digits_more most n h = passed-by _ _ (ltb n 10) (le-ltb n 10 h)

-- more places than a number has digits make no difference
digits_same : (f g n : ℕ) → n ≤ f → n ≤ g → numerals f n ≡ numerals g n
digits_same zero g n a b = digits-one zero n (omega arith) ∙ sym (digits-one g n (omega arith))
digits_same (suc f) zero n a b = digits-one (suc f) n (omega arith) ∙ sym (digits-one zero n (omega arith))
digits_same (suc f) (suc g) n a b = by (digits_same f g (n / 10)) (ltb n 10) refl
  where
    by : (n / 10 ≤ f → n / 10 ≤ g → numerals f (n / 10) ≡ numerals g (n / 10)) → (t : Bool) → ltb n 10 ≡ t
        → numerals (suc f) n ≡ numerals (suc g) n
    by again true e = digits-one (suc f) n (ltb-true n 10 e) ∙ sym (digits-one (suc g) n (ltb-true n 10 e))
    by again false e =
        let h : 10 ≤ n = ltb-false n 10 e in
        let less : n / 10 < n = tenth n h in
        digits_more f n h
        ∙ ap (λ (l : List ℕ). l ++ numeral (n % 10) ∷ []) (again (omega arith) (omega arith))
        ∙ sym (digits_more g n h)

pub decimal-one : (n : ℕ) → n < 10 → decimal n ≡ numeral n ∷ []
unfolding decimal
decimal-one n h = digits-one n n h

pub decimal-more : (n : ℕ) → 10 ≤ n → decimal n ≡ decimal (n / 10) ++ numeral (n % 10) ∷ []
unfolding decimal
decimal-more zero h = absurd (omega arith)
decimal-more (suc n) h =
    let less : suc n / 10 < suc n = tenth (suc n) h in
    digits_more n (suc n) h
    ∙ ap (λ (l : List ℕ). l ++ numeral (suc n % 10) ∷ []) (digits_same n (suc n / 10) (suc n / 10) (omega arith) (omega arith))

-- the fewest digits that hold a number are its decimal
positive : (k : ℕ) → 1 ≤ 10 ^ k
positive zero = omega arith
positive (suc k) = let h : 1 ≤ 10 ^ k = positive k in rw pow-suc (omega arith)

below : (n p : ℕ) → n < p * 10 → n / 10 < p
below n p h = omega arith

above : (n p : ℕ) → p * 10 ≤ n → p ≤ n / 10
above n p h = omega arith

glyph-is : (n : ℕ) → hex_digit_ascii (n % 10) ≡ numeral (n % 10)
glyph-is n = by (ltb (n % 10) 10) (lt-ltb (n % 10) 10 (omega arith))
  where
    by : (b : Bool) → b ≡ true → cond b (48 + n % 10) (87 + n % 10) ≡ 48 + n % 10
    by true e = refl
    by false e = absurd (false≢true e)

decimal-is : (k n : ℕ) → IsDigitCount 10 1 n k → last_digits 10 k n ≡ decimal n
decimal-is zero n h = absurd (omega (arith, h.0))
decimal-is (suc zero) n h =
    let less : n < 10 = h.1 in
    let same : n % 10 ≡ n = omega arith in
    ap (λ (d : ℕ). d ∷ []) (glyph-is n ∙ ap numeral same) ∙ sym (decimal-one n less)
decimal-is (suc (suc k)) n h =
    let most : n < 10 ^ suc k * 10 = rw pow-suc at h.1 in
    let down : suc (suc k) - 1 ≡ suc k = omega arith in
    let again : k ≡ suc k - 1 = omega arith in
    let least : 10 ^ suc k ≤ n = subst (λ (j : ℕ). 10 ^ j ≤ n) down (h.2 (omega arith)) in
    let some : 1 ≤ 10 ^ k = positive k in
    let tens : 10 ^ k * 10 ≤ n = rw pow-suc at least in
    let ten : 10 ≤ n = omega arith in
    let rest : 1 < suc k → 10 ^ (suc k - 1) ≤ n / 10 = λ more.
    subst (λ (j : ℕ). 10 ^ j ≤ n / 10) again (above n (10 ^ k) tens) in
    ap (λ (l : List ℕ). l ++ hex_digit_ascii (n % 10) ∷ []) (decimal-is (suc k) (n / 10) (omega arith, below n (10 ^ suc k) most, rest))
    ∙ ap (λ (d : ℕ). decimal (n / 10) ++ d ∷ []) (glyph-is n)
    ∙ sym (decimal-more n ten)

-- ---- "hexadecimal capitals"
pub capitals-none : (k n : ℕ) → k ≡ 0 → capitals k n ≡ []
unfolding capitals
capitals-none zero n e = refl
capitals-none (suc k) n e = absurd (omega arith)

pub capitals-more : (k n : ℕ) → k ≢ 0 → capitals k n ≡ capitals (k - 1) (n / 16) ++ capital (n % 16) ∷ []
unfolding capitals
capitals-more zero n e = absurd (e refl)
capitals-more (suc k) n e = let p : suc k - 1 ≡ k = omega arith in ap (λ (j : ℕ). capitals j (n / 16) ++ capital (n % 16) ∷ []) (sym p)

-- ---- crumbs
pub crumbs-on : (i : ℕ) (b : List Float) → crumbs (i + 1) b ≡ crumbs i b ++ crumb_at b i ∷ []
crumbs-on i b =
    let l = crumbs (suc i) b in
    let n : length l ≡ suc i = length-crumbs (suc i) b in
    rw (add-one i)
    (sym (take_all (suc i) l (omega arith))
    ∙ take-suc l i (crumb_at b i) (omega arith)
    ∙ ap (λ (m : List Crumb). m ++ get_or l i (crumb_at b i) ∷ []) (take-crumbs i (suc i) b (omega arith))
    ∙ ap (λ (c : Crumb). crumbs i b ++ c ∷ []) (get_d-crumbs (suc i) b i (crumb_at b i) (omega arith)))

lines-append : (l : List Crumb) (c : Crumb) → crumb_lines (l ++ c ∷ []) ≡ crumb_lines l ++ crumb_line c
unfolding crumb_lines
lines-append [] c = append-nil (crumb_line c)
lines-append (a ∷ l) c =
    ap (λ (t : List ℕ). crumb_line a ++ t) (lines-append l c) ∙ sym (append_assoc (crumb_line a) (crumb_lines l) (crumb_line c))

pub lines-on : (i : ℕ) (b : List Float) → crumb_lines (crumbs (i + 1) b) ≡ crumb_lines (crumbs i b) ++ crumb_line (crumb_at b i)
lines-on i b = ap crumb_lines (crumbs-on i b) ∙ lines-append (crumbs i b) (crumb_at b i)

-- ---- written
pub puts-decimal : (k n : ℕ) {text : List ℕ} {t u : Writer} → IsDigitCount 10 1 n k → text ≡ last_digits 10 k n → Puts text t u
    → Puts (decimal n) t u
puts-decimal k n h e w = rw (e ∙ decimal-is k n h) at w

pub puts-no-capital : (k n : ℕ) {t u : Writer} → k ≡ 0 → Puts [] t u → Puts (capitals k n) t u
puts-no-capital k n h w = rw (capitals-none k n h) w

module _ {t m u : Writer} where
  pub puts-capital : (k n : ℕ) {d : ℕ} → k ≢ 0 → d ≡ capital (n % 16) → Puts (capitals (k - 1) (n / 16)) t m → Puts (d ∷ []) m u
      → Puts (capitals k n) t u
  puts-capital k n h d w v = rw (capitals-more k n h, ← d) (puts_then w v)

  pub puts-crumb : (i : ℕ) (b : List Float) {c : Crumb} → c ≡ crumb_at b i → Puts (crumb_lines (crumbs i b)) t m
      → Puts (crumb_line c) m u
      → Puts (crumb_lines (crumbs (i + 1) b)) t u
  puts-crumb i b c w v = rw (lines-on i b, ← c) (puts_then w v)

  pub puts-rebuilt : (n : ℕ) (b : List Float) (clock : ℕ) (decided : Bool) → Puts (first_line n clock decided) t m
      → Puts (crumb_lines (crumbs n b)) m u → Puts (rebuilt_text (crumbs n b) clock decided) t u
  unfolding rebuilt_text
  puts-rebuilt n b clock decided w v = rw (length-crumbs n b) (puts_then w v)

pub puts-no-crumb : (b : List Float) (t : Writer) → Puts (crumb_lines (crumbs 0 b)) t t
unfolding crumbs crumb_lines
puts-no-crumb b t = puts-none t

-- all of them, once the last is passed
pub puts-crumbs : (b : List Float) {i n : ℕ} {t u : Writer} → i ≤ n → n ≤ i → Puts (crumb_lines (crumbs i b)) t u
    → Puts (crumb_lines (crumbs n b)) t u
puts-crumbs b {i} {n} x y w = let same : i ≡ n = omega arith in rw same at w
