-- The row in front, and the nearest segment of the whole range. Assumes nothing.
use Prim.Native.Nat.{ℕ, zero, suc, ◌+◌, ◌-◌, ◌≤◌, ◌<◌}
use mathlib.Core.Path.{◌≡◌, refl, sym, ap, ◌∙◌, subst}
use mathlib.Core.Bool.{Bool, true, false, not, ◌&&◌, ◌||◌, cond, true≢false, and-eq-true_iff}
use mathlib.Core.List.{List}
use mathlib.Core.Logic.{inl, inr}
use native.Mathlib.Omega.{arith}
use native.Mathlib.Decide.{ℕ_discrete}
use borrow.Author.Tests.{ltb-true, ltb-false, not-false}
use lib.Dec.{T, ltb}
use lib.Ieee.{Float, binary32, of_bits, fits, is_nan, lt, le}
use lib.Ieee.Bits.{of_bits-fits}
use Rattle.binary32.specs.Root.{root}
use Rattle.binary32.proofs.roots.Order.{le-lt, lt-le, total, less-number, at-most-number}
use Rattle.binary32.proofs.roots.Monotone.{root-less}
use Rattle.plane.specs.declared.Point.{Point}
use Rattle.crumbs.specs.declared.Crumb.{Crumb}
use Rattle.segments.specs.declared.costs.Nearest.{Nearest}
use Rattle.std.specs.Prelude.{Option, Some, None, Float}
use Rattle.segments.specs.declared.costs.Ranking.TheVariants.{Plain}
use Rattle.segments.specs.Cost.{plain, cost_of}
use Rattle.segments.specs.declared.Stretch.{Stretch}
use Rattle.crumbs.specs.Line.{at}
use Rattle.segments.specs.Segment.{nearest_on, cheaper, cost_within, considered, found}
use Rattle.segments.specs.Square.{square_on}
use Rattle.segments.proofs.Ranging.{on-is, on_fits}
use Rattle.search.specs.declared.Range.{Range}
use Rattle.search.specs.declared.rows.Front.{Front}
use Rattle.search.specs.Search.{rising, count, anywhere, nearest_on_breadcrumb}
use Rattle.search.specs.Square.{reaches}
use Rattle.search.specs.Rows.{row_length, SquaresFrom, LeastSoFar, NoneLess, InFront, Behind, Settled}
use Rattle.search.proofs.Choosing.{Leads, Chosen, Tried, rising-all}
use Rattle.search.proofs.Theorems.{Lower, lower-one-way}

abbrev Number : Float → Type 0
Number x = T (not (is_nan x))

module _ (line : List Crumb) (p : Point) where
  -- ---- no row yet
  pub front-start : (ends : Range) → ends.from + row_length ≤ ends.to + 1
      → InFront line p ends row_length ends.from
      (record { first = ends.from; least = of_bits binary32 0x7f7f_ffff; before = of_bits binary32 0x7f7f_ffff })
  front-start ends h = record { from = omega arith; to = h; least = none; before = none }
    where
      none : NoneLess line p ends.from ends.from (of_bits binary32 0x7f7f_ffff)
      none = record { fitting = of_bits-fits binary32 0x7f7f_ffff; each = λ e f t. absurd (omega arith) }

  -- ---- behind a bar that no square before a row is less than, the first k numbers of it
  tried : {from first : ℕ} {bar least : Float} {row : List Float} → NoneLess line p from first bar → (k : ℕ) → k ≤ row_length
      → SquaresFrom line p first row → LeastSoFar bar row k least → NoneLess line p from (first + k) least
  tried {from} {first} {bar} {least} {row} v k K squares l =
      record {
        fitting = l.fitting v.fitting
            (λ j h. subst (λ s. T (fits binary32 s)) (sym (squares.each j (omega arith))) (on_fits line p (first + j)));
        each = λ e f t. by e f t (ltb e first) refl;
      }
    where
      by : (e : ℕ) → from ≤ e → e < first + k → (b : Bool) → ltb e first ≡ b → lt (square_on line p e) least ≡ false
      by e f t true h = l.carried (square_on line p e) (v.each e f (ltb-true e first h))
      by e f t false h =
          let g = ltb-false e first h in
          let j : first + (e - first) ≡ e = omega arith in
          subst (λ i. lt (square_on line p i) least ≡ false) j
          (ap (λ s. lt s least) (sym (squares.each (e - first) (omega arith))) ∙ l.none (e - first) (omega arith))

  -- ---- one more row
  module _ (ends : Range) {end first : ℕ} {front : Front} {row : List Float} {least : Float} (from : ends.from ≤ first)
      (next : first ≤ end)
      (to : first + row_length ≤ ends.to + 1) (v : InFront line p ends row_length end front) (squares : SquaresFrom line p first row)
      (l : LeastSoFar front.least row row_length least) where
    lowered : NoneLess line p ends.from (first + row_length) least
    lowered =
        tried (record { fitting = v.least.fitting; each = λ e f t. v.least.each e f (omega arith) }) row_length (omega arith) squares l

    pub leads-now : InFront line p ends row_length (first + row_length) (record { first = first; least = least; before = front.least })
    leads-now =
        record {
          from = from;
          to = to;
          least = lowered;
          before = record { fitting = v.least.fitting; each = λ e f t. v.least.each e f (omega arith) };
        }

    pub leads-still : InFront line p ends row_length (first + row_length)
        (record { first = front.first; least = least; before = front.before })
    leads-still = record { from = v.from; to = v.to; least = lowered; before = v.before }

  -- ---- the rule's best so far stays a number of metres away once it is one
  abbrev cost : ℕ → Option Float
  cost = cost_within line p anywhere Plain

  abbrev rule : ℕ → Option (Nearest × Float) → Option (Nearest × Float)
  rule = considered line p cost

  record Counted (best : Option (Nearest × Float)) : Type 0 where
    near : Nearest
    metres : Float
    is : best ≡ Some (near, metres)
    number : Number metres

  counted_next : (near : Nearest) (metres : Float) → Number metres → (end : ℕ) → Counted (rule end (Some (near, metres)))
  unfolding considered cheaper
  counted_next near metres N end = by-cost (cost end)
    where
      by-test : (x : Float) (b : Bool) → lt x metres ≡ b → Counted (cond b (Some ((nearest_on line p end), x)) (Some (near, metres)))
      by-test x true h = record { near = nearest_on line p end; metres = x; is = refl; number = (less-number x metres h).0 }
      by-test x false h = record { near = near; metres = metres; is = refl; number = N }

      by-cost : (k : Option Float) → Counted (cheaper (Some (near, metres)) (nearest_on line p end) k)
      by-cost None = record { near = near; metres = metres; is = refl; number = N }
      by-cost (Some x) = by-test x (lt x metres) refl

  counted : (left end : ℕ) (best : Option (Nearest × Float)) → Counted best → Counted (rising rule left end best)
  unfolding rising
  counted zero end best v = v
  counted (suc left) end best v =
      counted left (end + 1) (rule end best)
      (subst (λ b. Counted (rule end b)) (sym v.is) (counted_next v.near v.metres v.number end))

  -- a segment that has a cost costs how far off it is, the root of its square
  cost-is : (e : ℕ) (c : Float) → cost e ≡ Some c → c ≡ root binary32 (square_on line p e)
  unfolding cost_within cost_of plain
  cost-is e c h = by (lt (at line e).along anywhere.floor || lt anywhere.ceiling (at line (e - 1)).along) h
    where
      by : (o : Bool) → elim o [ true ↦ None | false ↦ cost_of Plain (nearest_on line p e) (at line (e - 1)) (at line e) ] ≡ Some c
          → c ≡ root binary32 (square_on line p e)
      by true k = let z : ◌≡◌ {A = ℕ} 0 1 = cc in absurd (omega arith)
      by false k = let f : (nearest_on line p e).off ≡ c = cc in sym f ∙ on-is line p e

  first-costs : (e : ℕ) → reaches line anywhere e ≡ true → cost e ≡ Some (nearest_on line p e).off
  unfolding reaches cost_within cost_of plain
  first-costs e h = by (lt (at line e).along anywhere.floor || lt anywhere.ceiling (at line (e - 1)).along) h
    where
      by : (o : Bool) → not o ≡ true
          → elim o [ true ↦ None | false ↦ cost_of Plain (nearest_on line p e) (at line (e - 1)) (at line e) ]
          ≡ Some (nearest_on line p e).off
      by true k = absurd (true≢false (sym k))
      by false k = refl

  abbrev state : Range → Option (Nearest × Float)
  state ends = rising rule (count ends) ends.from None

  chosen : (ends : Range) → Chosen line p cost Lower lower-one-way (Tried line p cost Lower lower-one-way ends) (state ends)
  chosen ends = rising-all line p cost Lower lower-one-way (λ e f h. h) ends

  abbrev LeadsAll : Range → Nearest → Float → Type 0
  LeadsAll ends = Leads line p cost Lower lower-one-way (Tried line p cost Lower lower-one-way ends)

  -- ---- the segment in front is the nearest of the range
  module _ (ends : Range) (front : Front) (v : InFront line p ends 1 (ends.to + 1) front)
      (w : Settled line p ends.from front (nearest_on line p front.first).off) where
    abbrev near : Nearest
    near = nearest_on line p front.first

    costs : cost front.first ≡ Some near.off
    costs = first-costs front.first w.counts

    is_number : Number near.off
    is_number = (at-most-number near.off (root binary32 front.least) w.low).0

    -- the first segment is a number of metres away, and so is what the range gives
    first-number : reaches line anywhere ends.from ≡ true → Number (nearest_on line p ends.from).off → Counted (state ends)
    unfolding rising considered cheaper
    first-number r N =
        let n : count ends ≡ suc (count ends - 1) = omega (arith, v.from, v.to) in
        let first = nearest_on line p ends.from in
        subst Counted (sym (ap (λ k. rising rule k ends.from None) n))
        (counted (count ends - 1) (ends.from + 1) (rule ends.from None)
        (record { near = first; metres = first.off; is = ap (cheaper None first) (first-costs ends.from r); number = N }))

    all : Counted (state ends)
    all = elim w.behind [
      | inl e ↦ first-number (subst (λ i. reaches line anywhere i ≡ true) e w.counts)
          (subst (λ i. Number (nearest_on line p i).off) e is_number)
      | inr far ↦ first-number far.counts (less-number near.off (nearest_on line p ends.from).off far.first).1
    ]

    -- and it is the same segment
    module _ (other : Nearest) (c : Float) (l : LeadsAll ends other c) (N : Number c) where
      inside : Tried line p cost Lower lower-one-way ends front.first
      inside = (v.from, omega (arith, v.to))

      no_more : le c near.off ≡ true
      no_more = total near.off c is_number N (l.none-less front.first near.off inside costs)

      other-is : c ≡ root binary32 (square_on line p other.end)
      other-is = cost-is other.end c l.own

      not-before : other.end < front.first → ⊥
      not-before h = elim w.behind [
        | inl e ↦ omega (arith, l.among.0)
        | inr far ↦
            let r : lt (root binary32 (square_on line p other.end)) (root binary32 front.before) ≡ true =
            subst (λ x. lt x (root binary32 front.before) ≡ true) other-is
            (le-lt c near.off (root binary32 front.before) no_more far.others)
            in
            true≢false (sym
            (root-less binary32 (square_on line p other.end) front.before (on_fits line p other.end) v.before.fitting r)
            ∙ v.before.each other.end l.among.0 h)
      ]

      -- none is less than the row's own, and so an earlier one of the two would be no more than the other
      not-less : lt c near.off ≡ false
      not-less = by (lt c near.off) refl
        where
          by : (b : Bool) → lt c near.off ≡ b → b ≡ false
          by true h =
              let r : lt (root binary32 (square_on line p other.end)) (root binary32 front.least) ≡ true =
              subst (λ x. lt x (root binary32 front.least) ≡ true) other-is
              (lt-le c near.off (root binary32 front.least) h w.low) in
              absurd (true≢false
              (sym (root-less binary32 (square_on line p other.end) front.least (on_fits line p other.end) v.least.fitting r)
              ∙ v.least.each other.end l.among.0 (omega (arith, l.among.1))))
          by false h = refl

      as-much : le near.off c ≡ true
      as-much = total c near.off N is_number not-less

      not_after : front.first < other.end → ⊥
      not_after h = true≢false (sym as-much ∙ l.first front.first near.off inside h costs)

      same_end : other.end ≡ front.first
      same_end = elim (ℕ_discrete other.end front.first) [
        | yes q ↦ q
        | no q ↦ absurd (by (ltb other.end front.first) refl q)
      ]
        where
          by : (b : Bool) → ltb other.end front.first ≡ b → (other.end ≡ front.first → ⊥) → ⊥
          by true h q = not-before (ltb-true other.end front.first h)
          by false h q = let k = ltb-false other.end front.first h in not_after (omega (arith, k, q))

      same : other ≡ near
      same = l.there ∙ ap (nearest_on line p) same_end

    nearest-of-all : Some near ≡ nearest_on_breadcrumb line p ends
    unfolding nearest_on_breadcrumb found
    nearest-of-all =
        let a = all in
        let l = subst (Chosen line p cost Lower lower-one-way (Tried line p cost Lower lower-one-way ends)) a.is (chosen ends) in
        sym (ap found a.is ∙ ap Some (same a.near a.metres l a.number))

-- ---- the cases of the functions
reaches-anywhere : (line : List Crumb) (end : ℕ) {within : Stretch} {r : Bool} → within ≡ anywhere → r ≡ reaches line within end
    → not r ≡ false → reaches line anywhere end ≡ true
reaches-anywhere line end {within} {r} W R h = ap (λ w. reaches line w end) (sym W) ∙ (sym R ∙ not-false r h)

module _ {line : List Crumb} {p : Point} {from : ℕ} {front : Front} {off : Float} {within : Stretch} {r : Bool} {s : Float}
    (W : within ≡ anywhere) where
  pub farther : {near : Nearest} → r ≡ reaches line within from → not r ≡ false → near ≡ nearest_on line p from
      → s ≡ root binary32 front.before → (lt off near.off && lt off s) ≡ true → Behind line p from front off
  farther {near} R h N S t =
      let both = (and-eq-true_iff (lt off near.off) (lt off s)).0 t in
      inr (record {
        counts = reaches-anywhere line from W R h;
        first = ap (λ (n : Nearest). lt off n.off) (sym N) ∙ both.0;
        others = ap (λ x. lt off x) (sym S) ∙ both.1;
      })

  pub settles : r ≡ reaches line within front.first → not r ≡ false → s ≡ root binary32 front.least → le off s ≡ true
      → Behind line p from front off → Settled line p from front off
  settles R h S low behind =
      record { counts = reaches-anywhere line front.first W R h; low = ap (λ x. le off x) (sym S) ∙ low; behind = behind }

pub nearest-in-front : {line : List Crumb} {p : Point} {ends : Range} {front : Front} {near : Nearest}
    → InFront line p ends 1 (ends.to + 1) front → near ≡ nearest_on line p front.first → Settled line p ends.from front near.off
    → Some near ≡ nearest_on_breadcrumb line p ends
nearest-in-front {line} {p} {ends} {front} {near} v N w =
    ap Some N ∙ nearest-of-all line p ends front v (subst (λ (n : Nearest). Settled line p ends.from front n.off) N w)

pub front-end : {line : List Crumb} {p : Point} {ends : Range} {front : Front} {end : ℕ} → end ≤ ends.to + 1 → ends.to < end
    → InFront line p ends row_length end front → InFront line p ends row_length (ends.to + 1) front
front-end {line} {p} {ends} {front} {end} h past v =
    let e : end ≡ ends.to + 1 = omega arith in subst (λ n. InFront line p ends row_length n front) e v

-- ---- the segment of the row in front
pub one-of-row : {line : List Crumb} {p : Point} {front : Front} {row : List Float} {k : ℕ} {before : Float} (ends : Range) → k < row_length
    → SquaresFrom line p front.first row → LeastSoFar front.before row k before → InFront line p ends row_length (ends.to + 1) front
    → InFront line p ends 1 (ends.to + 1) (record { first = front.first + k; least = front.least; before = before })
one-of-row {line} {p} {front} {row} {k} {before} ends h squares l v =
    record {
      from = omega (arith, v.from);
      to = omega (arith, v.to);
      least = v.least;
      before = tried line p v.before k (omega arith) squares l;
    }
