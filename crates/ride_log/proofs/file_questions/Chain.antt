-- A chain that ends reaches no record twice, and one that reaches as many records as there are has reached one of them twice: what the
-- count of records reached tells is what question 7 asks. Assumes nothing.
use Prim.Native.Nat.{ℕ, zero, suc, ◌+◌, ◌≤◌, ◌<◌}
use mathlib.Core.Path.{◌≡◌, refl, sym, ap, ◌∙◌}
use mathlib.Core.Bool.{Bool, true, false, not, ◌||◌, cond, true≢false, false≢true, and-eq-true_iff}
use mathlib.Core.Logic.{◌≢◌}
use mathlib.Core.List.{List, [], ◌∷◌}
use native.Mathlib.Nat.{le_of_suc-le-suc}
use native.Mathlib.Omega.{arith}
use borrow.Author.Tests.{ltb-true, ltb-false, lt-ltb, eqb-true, eqb-false, ne_eqb}
use lib.Dec.{ltb, eqb}
use lib.ListN.{length}
use Rattle.ride_log.specs.Entry.{next_of, records_from, record_count, chain}
use Rattle.ride_log.specs.Questions.{below, stands, twice, question7}
use Rattle.ride_log.specs.Theorems.{Ends, over, on}

-- ---- tests
pub by : {P : Type 0} (b : Bool) → (b ≡ true → P) → (b ≡ false → P) → P
by true y n = y refl
by false y n = n refl

pub or_left : (a b : Bool) → (a || b) ≡ false → a ≡ false
or_left true b e = absurd (true≢false e)
or_left false b e = refl

pub or_right : (a b : Bool) → (a || b) ≡ false → b ≡ false
or_right true b e = absurd (true≢false e)
or_right false b e = e

-- ---- a chain that ends
-- a walk with enough steps finds them
pub walked : {f : List ℕ} {r : ℕ} {l : List ℕ} (n : ℕ) → Ends f r l → length l < n → records_from n f r ≡ l
unfolding records_from
walked zero e h = absurd (omega arith)
walked (suc n) over h = refl
walked {f = f} (suc n) (on {r = r} {l = l} e) h =
    ap (λ m. suc r ∷ m) (walked {f = f} {r = next_of f (suc r)} {l = l} n e (le_of_suc-le-suc h))

-- how a walker goes on, with the next alone in hand
pub ends-over : {f : List ℕ} {r : ℕ} {l : List ℕ} → Ends f r l → r ≡ 0 → l ≡ []
ends-over over h = refl
ends-over (on e) h = absurd (omega arith)

pub record Onward (f : List ℕ) (r : ℕ) (l : List ℕ) : Type 0 where
  pub rest : List ℕ
  pub here : l ≡ r ∷ rest
  pub ends : Ends f (next_of f r) rest

pub ends_on : {f : List ℕ} {r : ℕ} {l : List ℕ} → Ends f r l → r ≢ 0 → Onward f r l
ends_on over h = absurd (h refl)
ends_on (on {l = l} e) h = record { rest = l; here = refl; ends = e }

same_length : {f : List ℕ} {r : ℕ} {l m : List ℕ} → Ends f r l → Ends f r m → length l ≡ length m
same_length {f} {r} {l} {m} x y =
    let n = suc (length l + length m) in
    ap length (sym (walked n x (omega arith)) ∙ walked n y (omega arith))

-- from a record that is reached on, no more are reached
record After (f : List ℕ) (x : ℕ) (most : ℕ) : Type 0 where
  rest : List ℕ
  ends : Ends f x rest
  short : length rest ≤ most

after : {f : List ℕ} {r : ℕ} {l : List ℕ} (x : ℕ) → Ends f r l → stands x l ≡ true → After f x (length l)
unfolding stands
after x over h = absurd (false≢true h)
after {f} x (on {r = r} {l = l} e) h =
    by (eqb x (suc r))
    (λ t. rw (eqb-true x (suc r) t) (record { rest = suc r ∷ l; ends = on e; short = omega arith }))
    (λ t. let a = after x e (rw t at h) in record { rest = a.rest; ends = a.ends; short = let s = a.short in omega arith })

pub ends-once : {f : List ℕ} {r : ℕ} {l : List ℕ} → Ends f r l → twice l ≡ false
unfolding twice
ends-once over = refl
ends-once {f} (on {r = r} {l = l} e) =
    by (stands (suc r) l)
    (λ t. let a = after (suc r) e t in let s = a.short in let z = same_length (on e) a.ends in absurd (omega arith))
    (λ t. rw (t, ends-once e))

-- ---- records below n of which none stands twice are at most n
without : ℕ → List ℕ → List ℕ
without x [] = []
without x (y ∷ l) = cond (eqb x y) (without x l) (y ∷ without x l)

without-none : (x : ℕ) (l : List ℕ) → stands x l ≡ false → without x l ≡ l
unfolding stands without
without-none x [] h = refl
without-none x (y ∷ l) h = rw (or_left (eqb x y) (stands x l) h) (ap (λ m. y ∷ m) (without-none x l (or_right (eqb x y) (stands x l) h)))

stands-without : (x y : ℕ) (l : List ℕ) → stands y l ≡ false → stands y (without x l) ≡ false
unfolding stands without
stands-without x y [] h = refl
stands-without x y (z ∷ l) h =
    let later = stands-without x y l (or_right (eqb y z) (stands y l) h) in
    by (eqb x z)
    (λ t. rw t later)
    (λ t. rw (t, or_left (eqb y z) (stands y l) h) later)

twice-without : (x : ℕ) (l : List ℕ) → twice l ≡ false → twice (without x l) ≡ false
unfolding twice without
twice-without x [] h = refl
twice-without x (z ∷ l) h =
    let later = twice-without x l (or_right (stands z l) (twice l) h) in
    by (eqb x z)
    (λ t. rw t later)
    (λ t. rw (t, stands-without x z l (or_left (stands z l) (twice l) h)) later)

below-without : (n : ℕ) (l : List ℕ) → below (suc n) l ≡ true → below n (without n l) ≡ true
unfolding below without
below-without n [] h = refl
below-without n (z ∷ l) h =
    let later = below-without n l ((and-eq-true_iff (ltb z (suc n)) (below (suc n) l)).0 h).1 in
    let under = ltb-true z (suc n) ((and-eq-true_iff (ltb z (suc n)) (below (suc n) l)).0 h).0 in
    by (eqb n z)
    (λ t. rw t later)
    (λ t.
    let other = eqb-false n z t in
    let less : z < n = omega arith in
    rw (t, lt-ltb z n less) later)

longest : (x : ℕ) (l : List ℕ) → twice l ≡ false → length l ≤ suc (length (without x l))
unfolding twice without
longest x [] h = omega arith
longest x (z ∷ l) h =
    by (eqb x z)
    (λ t.
    let e = eqb-true x z t in
    let none : stands x l ≡ false = rw e (or_left (stands z l) (twice l) h) in
    rw (t, without-none x l none) (omega arith))
    (λ t. let later = longest x l (or_right (stands z l) (twice l) h) in rw t (omega arith))

few : (n : ℕ) (l : List ℕ) → below n l ≡ true → twice l ≡ false → length l ≤ n
unfolding below
few zero [] b h = omega arith
few zero (z ∷ l) b h = let under = ltb-true z 0 ((and-eq-true_iff (ltb z 0) (below 0 l)).0 b).0 in absurd (omega arith)
few (suc n) l b h =
    let less = few n (without n l) (below-without n l b) (twice-without n l h) in
    let most = longest n l h in
    omega arith

-- ---- the count of records reached
-- fewer than a walk may take: the chain ended
pub short-ends : (n : ℕ) (f : List ℕ) (r : ℕ) → length (records_from n f r) < n → Ends f r (records_from n f r)
unfolding records_from
short-ends zero f r h = absurd (omega arith)
short-ends (suc n) f zero h = over
short-ends (suc n) f (suc r) h = on (short-ends n f (next_of f (suc r)) (le_of_suc-le-suc h))

no_zero : (n : ℕ) (f : List ℕ) (r : ℕ) → stands zero (records_from n f r) ≡ false
unfolding stands records_from
no_zero zero f r = refl
no_zero (suc n) f zero = refl
no_zero (suc n) f (suc r) = rw (ne_eqb zero (suc r) (λ e. omega arith)) (no_zero n f (next_of f (suc r)))

-- as many as there are records below n: one of them twice
long-twice : (n : ℕ) (f : List ℕ) (r : ℕ) → 1 ≤ n → n ≤ length (records_from n f r) → below n (records_from n f r) ≡ true
    → twice (records_from n f r) ≡ true
unfolding twice below
long-twice n f r some long inside =
    let l = records_from n f r in
    by (twice l)
    (λ t. t)
    (λ t.
    let fits : below n (zero ∷ l) ≡ true = rw (lt-ltb zero n some) inside in
    let once : twice (zero ∷ l) ≡ false = rw (no_zero n f r) t in
    let most = few n (zero ∷ l) fits once in
    absurd (omega arith))

module _ (f : List ℕ) where
  pub length-tells : 1 ≤ record_count f → below (record_count f) (chain f) ≡ true → ltb (length (chain f)) (record_count f) ≡ question7 f
  unfolding question7 chain
  length-tells some inside =
      let n = record_count f in
      let l = records_from n f (next_of f 0) in
      by (ltb (length l) n)
      (λ t. t ∙ sym (rw (inside, ends-once (short-ends n f (next_of f 0) (ltb-true (length l) n t)))))
      (λ t. t ∙ sym (rw (inside, long-twice n f (next_of f 0) some (ltb-false (length l) n t) inside)))

  pub outside-tells : below (record_count f) (chain f) ≡ false → false ≡ question7 f
  unfolding question7
  outside-tells h = sym (rw h)

  pub chain-ends : 1 ≤ record_count f → question7 f ≡ true → Ends f (next_of f 0) (chain f)
  unfolding question7 chain
  chain-ends some h =
      let n = record_count f in
      let inside = ((and-eq-true_iff (below n (chain f)) (not (twice (chain f)))).0 h).0 in
      short-ends n f (next_of f 0) (ltb-true (length (chain f)) n (length-tells some inside ∙ h))
