-- How long a text is. Assumes nothing.
use Prim.Native.Nat.{ℕ, zero, suc, ◌*◌, ◌/◌, ◌^◌, ◌≤◌, ◌<◌}
use mathlib.Core.Path.{◌≡◌, refl}
use mathlib.Core.Bool.{Bool, true, false}
use mathlib.Core.List.{List, [], ◌∷◌}
use native.Mathlib.Omega.{arith}
use native.Mathlib.Nat.{pow-suc}
use borrow.Author.Tests.{ltb-true, ltb-false}
use lib.Dec.{ltb}
use lib.ListN.{length, length-append}
use lib.Ieee.{Float}
use Rattle.crumbs.specs.declared.Crumb.{Crumb}
use Rattle.crumbs.specs.Crumb.{crumbs}
use Rattle.crumbs.proofs.Crumbs.{length-crumbs}
use Rattle.retelling.specs.Text.{decimal, capitals, pattern, crumb_line, crumb_lines}
use Rattle.retelling.specs.Text.{stage_text, first_line, rebuilt_text, refused_text}
use Rattle.retelling.specs.Retold.{text_most}
use Rattle.retelling.specs.Writing.{Puts, PutsWhole}
use Rattle.retelling.specs.declared.lines.Writer.{Writer}
use Rattle.retelling.proofs.lines.Numbers.{decimal-one, decimal-more, puts-rebuilt}

-- ---- numbers
power : (n p : ℕ) → n < p * 10 → n / 10 < p
power n p h = omega arith

-- a number below 10^k has at most k digits
decimal-within : (k n : ℕ) → n < 10 ^ suc k → length (decimal n) ≤ suc k
decimal-within zero n h = rw (decimal-one n h) (omega arith)
decimal-within (suc k) n h = by (decimal-within k (n / 10)) (ltb n 10) refl
  where
    by : (n / 10 < 10 ^ suc k → length (decimal (n / 10)) ≤ suc k) → (t : Bool) → ltb n 10 ≡ t → length (decimal n) ≤ suc (suc k)
    by again true e = rw (decimal-one n (ltb-true n 10 e)) (omega arith)
    by again false e =
        let less : n < 10 ^ suc k * 10 = rw pow-suc at h in
        let fewer : length (decimal (n / 10)) ≤ suc k = again (power n (10 ^ suc k) less) in
        rw (decimal-more n (ltb-false n 10 e), length-append) (omega arith)

-- a number of 64 bits
pub decimal-length : (n : ℕ) → n < 2 ^ 64 → length (decimal n) ≤ 20
decimal-length n h = decimal-within 19 n (omega arith)

capitals-length : (k n : ℕ) → length (capitals k n) ≡ k
unfolding capitals
capitals-length zero n = refl
capitals-length (suc k) n = let e : length (capitals k (n / 16)) ≡ k = capitals-length k (n / 16) in simp length-append (omega arith)

pattern-length : (x : Float) → length (pattern x) ≡ 8
unfolding pattern
pattern-length x = capitals-length 8 _

-- ---- lines
line-length : (c : Crumb) → length (crumb_line c) ≡ 27
unfolding crumb_line
line-length c = simp (length-append, pattern-length)

lines-length : (l : List Crumb) → length (crumb_lines l) ≡ 27 * length l
unfolding crumb_lines
lines-length [] = refl
lines-length (c ∷ l) =
    let e : length (crumb_line c) ≡ 27 = line-length c in
    let again : length (crumb_lines l) ≡ 27 * length l = lines-length l in
    rw length-append (omega arith)

stage-length : (decided : Bool) → length (stage_text decided) ≡ 7
unfolding stage_text
stage-length true = refl
stage-length false = refl

first-length : (len clock : ℕ) (decided : Bool) → len < 2 ^ 64 → clock < 2 ^ 64 → length (first_line len clock decided) ≤ 69
unfolding first_line
first-length len clock decided a b =
    let x : length (decimal len) ≤ 20 = decimal-length len a in
    let y : length (decimal clock) ≤ 20 = decimal-length clock b in
    let z : length (stage_text decided) ≡ 7 = stage-length decided in
    simp length-append (omega arith)

-- ---- all that is printed
rebuilt-length : (l : List Crumb) (clock : ℕ) (decided : Bool) → length l ≤ 512 → clock < 2 ^ 64
    → length (rebuilt_text l clock decided) ≤ text_most
unfolding rebuilt_text
rebuilt-length l clock decided a b =
    let x : length (first_line (length l) clock decided) ≤ 69 = first-length (length l) clock decided (omega arith) b in
    let y : length (crumb_lines l) ≡ 27 * length l = lines-length l in
    rw length-append (omega arith)

refused-length : (number : ℕ) → number < 2 ^ 64 → length (refused_text number) ≤ text_most
unfolding refused_text
refused-length number h = let x : length (decimal number) ≤ 20 = decimal-length number h in simp length-append (omega arith)

-- ---- written
pub puts-first : (n : ℕ) (b : List Float) (clock : ℕ) (decided : Bool) {t m u : Writer} → n ≤ 512 → clock < 2 ^ 64
    → Puts (first_line n clock decided) t m → Puts (crumb_lines (crumbs n b)) m u
    → PutsWhole (rebuilt_text (crumbs n b) clock decided) t u
puts-first n b clock decided most fits w v =
    record {
      puts = puts-rebuilt n b clock decided w v;
      short = rebuilt-length (crumbs n b) clock decided (omega (arith, length-crumbs n b)) fits;
    }

pub puts-number : (number : ℕ) {t u : Writer} → number < 2 ^ 64 → Puts (refused_text number) t u → PutsWhole (refused_text number) t u
puts-number number fits w = record { puts = w; short = refused-length number fits }
