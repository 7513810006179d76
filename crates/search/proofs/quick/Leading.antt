-- The segment in the lead by squares, and the one that the rule has by roots. The root of the least square is always the rule's least cost.
-- Which segment has it can differ only where two roots tie; where the least square tried before has a larger root, none does. Assumes
-- nothing.
use Prim.Native.Nat.{ℕ, zero, suc, ◌+◌, ◌-◌, ◌≤◌, ◌<◌}
use mathlib.Core.Path.{◌≡◌, refl, sym, ap, ◌∙◌, subst}
use mathlib.Core.Bool.{Bool, true, false, not, ◌||◌, cond, true≢false}
use mathlib.Core.List.{List}
use native.Mathlib.Omega.{arith}
use borrow.Author.Tests.{eqb-true, eqb-false}
use lib.Dec.{T, eqb}
use lib.Ieee.{Float, binary32, lt, fits}
use Rattle.binary32.specs.Root.{root}
use Rattle.plane.specs.declared.Point.{Point}
use Rattle.plane.specs.Square.{off_square}
use Rattle.crumbs.specs.declared.Crumb.{Crumb}
use Rattle.crumbs.specs.Crumb.{point}
use Rattle.segments.specs.declared.costs.Nearest.{Nearest}
use Rattle.std.specs.Prelude.{Option, Some, None}
use Rattle.segments.specs.declared.costs.Ranking.TheVariants.{Plain}
use Rattle.segments.specs.Cost.{plain, cost_of}
use Rattle.segments.specs.declared.Stretch.{Stretch}
use Rattle.crumbs.specs.Line.{at}
use Rattle.segments.specs.Segment.{nearest_on, cheaper, cost_within, considered, found}
use Rattle.search.specs.declared.Range.{Range}
use Rattle.search.specs.Search.{rising, falling, count}
use Rattle.search.proofs.Searching.{Rises, rises-start, rises-on, rises-out, Falls, falls-start, falls-on, falls_out}
use Rattle.binary32.proofs.roots.Monotone.{root-less, root-tie}
use Rattle.search.specs.declared.quick.Lead.{Lead}
use Rattle.segments.specs.Square.{square_on}
use Rattle.segments.proofs.Ranging.{on-is, on_fits, on-not-below}
use Rattle.search.specs.Square.{reaches, overtakes, takes_lead}

module _ (line : List Crumb) (p : Point) where
  abbrev pub Tracks : Option (Nearest × Float) → Lead → Type 0
  Tracks None lead = lead.best ≡ 0
  Tracks (Some (near, cost)) lead =
      (0 < lead.best) × (cost ≡ root binary32 lead.least) × T (fits binary32 lead.least)
      × (lt (root binary32 lead.least) (root binary32 lead.before) ≡ true → near ≡ nearest_on line p lead.best)

  off-is : (end : ℕ) → (nearest_on line p end).off ≡ root binary32 (square_on line p end)
  off-is = on-is line p

  -- one more, by the test of the squares and that of the roots
  step : (near : Nearest) (cost : Float) (end : ℕ) (lead : Lead) → 0 < end → Tracks (Some (near, cost)) lead → (b d : Bool)
      → lt (square_on line p end) lead.least ≡ b → lt (nearest_on line p end).off cost ≡ d
      → Tracks (cond d (Some ((nearest_on line p end), (nearest_on line p end).off)) (Some (near, cost)))
      (cond b (record { best = end; least = square_on line p end; before = lead.least }) lead)
  step near cost end lead E t true true B D = (E, off-is end, on_fits line p end, λ k. refl)
  step near cost end lead E t true false B D =
      let s = square_on line p end in
      let k : lt (root binary32 s) (root binary32 lead.least) ≡ false = subst (λ (z : Float). lt z (root binary32 lead.least) ≡ false)
      (off-is end) (subst (λ (z : Float). lt (nearest_on line p end).off z ≡ false) t.1 D) in (
        E,
        t.1 ∙ sym (root-tie binary32 s lead.least (on_fits line p end) t.2 (on-not-below line p end) B k),
        on_fits line p end,
        λ h. absurd (true≢false (sym h ∙ k)),
      )
  step near cost end lead E t false true B D =
      let s = square_on line p end in
      let k : lt (root binary32 s) (root binary32 lead.least) ≡ true = subst (λ (z : Float). lt z (root binary32 lead.least) ≡ true)
      (off-is end) (subst (λ (z : Float). lt (nearest_on line p end).off z ≡ true) t.1 D) in
      absurd (true≢false (sym (root-less binary32 s lead.least (on_fits line p end) t.2 k) ∙ B))
  step near cost end lead E t false false B D = t

  first : (end : ℕ) (lead : Lead) (b : Bool) → eqb lead.best 0 ≡ b → lead.best ≡ 0 → 0 < end
      → Tracks (Some ((nearest_on line p end), (nearest_on line p end).off))
      (cond b (record { best = end; least = square_on line p end; before = lead.before })
      (cond (lt (square_on line p end) lead.least) (record { best = end; least = square_on line p end; before = lead.least }) lead))
  first end lead true e z E = (E, off-is end, on_fits line p end, λ k. refl)
  first end lead false e z E = absurd (eqb-false lead.best 0 e z)

  later : (near : Nearest) (cost : Float) (end : ℕ) (lead : Lead) (b : Bool) → eqb lead.best 0 ≡ b → 0 < end
      → Tracks (Some (near, cost)) lead
      → Tracks
      (cond (lt (nearest_on line p end).off cost) (Some ((nearest_on line p end), (nearest_on line p end).off)) (Some (near, cost)))
      (cond b (record { best = end; least = square_on line p end; before = lead.before })
      (cond (lt (square_on line p end) lead.least) (record { best = end; least = square_on line p end; before = lead.least }) lead))
  later near cost end lead true e E t = let z = eqb-true lead.best 0 e in let g = t.0 in absurd (omega arith)
  later near cost end lead false e E t =
      step near cost end lead E t (lt (square_on line p end) lead.least) (lt (nearest_on line p end).off cost) refl refl

  inside : (sofar : Option (Nearest × Float)) (end : ℕ) (lead : Lead) → 0 < end → Tracks sofar lead
      → Tracks (cheaper sofar (nearest_on line p end) (Some (nearest_on line p end).off)) (overtakes end (square_on line p end) lead)
  unfolding cheaper overtakes
  inside None end lead E t = first end lead (eqb lead.best 0) refl t E
  inside (Some (near, cost)) end lead E t = later near cost end lead (eqb lead.best 0) refl E t

  module _ (within : Stretch) where
    pub tracks_on : (sofar : Option (Nearest × Float)) (end : ℕ) (lead : Lead) → 0 < end → Tracks sofar lead
        → Tracks (considered line p (cost_within line p within Plain) end sofar) (takes_lead line p within end lead)
    unfolding considered cost_within takes_lead reaches cost_of plain cheaper
    tracks_on sofar end lead E t = go (lt (at line end).along within.floor || lt within.ceiling (at line (end - 1)).along)
      where
        go : (o : Bool)
            → Tracks (cheaper sofar (nearest_on line p end)
            (elim o [ true ↦ None | false ↦ cost_of Plain (nearest_on line p end) (at line (end - 1)) (at line end) ]))
            (cond (not o) (overtakes end (square_on line p end) lead) lead)
        go true = t
        go false = inside sofar end lead E t

  -- ---- what is found
  pub none_found : (sofar : Option (Nearest × Float)) (lead : Lead) → Tracks sofar lead → lead.best ≡ 0 → found sofar ≡ None
  unfolding found
  none_found None lead t z = refl
  none_found (Some (near, cost)) lead t z = let g = t.0 in absurd (omega arith)

  pub one_found : (sofar : Option (Nearest × Float)) (lead : Lead) → Tracks sofar lead → (lead.best ≡ 0 → ⊥)
      → lt (root binary32 lead.least) (root binary32 lead.before) ≡ true
      → found sofar ≡ Some (nearest_on line p lead.best)
  unfolding found
  one_found None lead t z k = absurd (z t)
  one_found (Some (near, cost)) lead t z k = ap Some (t.3 k)

-- ---- the cases of the functions
pub counted : (n : ℕ) → (n ≡ 0 → ⊥) → 1 ≤ n
counted zero h = absurd (h refl)
counted (suc n) h = omega arith

nil : (n : ℕ) → n ≡ 0 → eqb n 0 ≡ true
nil n e = ap (λ (k : ℕ). eqb k 0) e

nonnil : (n : ℕ) → (n ≡ 0 → ⊥) → eqb n 0 ≡ false
nonnil n h = go (eqb n 0) refl
  where
    go : (b : Bool) → eqb n 0 ≡ b → b ≡ false
    go true e = absurd (h (eqb-true n 0 e))
    go false e = refl

module _ (end : ℕ) (s : Float) (lead : Lead) where
  pub overtakes-first : lead.best ≡ 0 → record { best = end; least = s; before = lead.before } ≡ overtakes end s lead
  unfolding overtakes
  overtakes-first z = let e = nil lead.best z in rw e

  pub overtakes-less : (lead.best ≡ 0 → ⊥) → lt s lead.least ≡ true
      → record { best = end; least = s; before = lead.least } ≡ overtakes end s lead
  unfolding overtakes
  overtakes-less z h = let e = nonnil lead.best z in rw (e, h)

  pub overtakes-not : (lead.best ≡ 0 → ⊥) → lt s lead.least ≡ false → lead ≡ overtakes end s lead
  unfolding overtakes
  overtakes-not z h = let e = nonnil lead.best z in rw (e, h)

pub square-is : (line : List Crumb) (p : Point) (end : ℕ) {a b : Crumb} {s : Float} → a ≡ at line (end - 1) → b ≡ at line end
    → s ≡ off_square p (point a) (point b) → s ≡ square_on line p end
unfolding square_on
square-is line p end A B S = cc

module _ (line : List Crumb) (p : Point) (within : Stretch) (end : ℕ) (lead : Lead) where
  pub leads-in : {r : Bool} {s : Float} {next : Lead} → r ≡ reaches line within end → r ≡ true → s ≡ square_on line p end
      → next ≡ overtakes end s lead → next ≡ takes_lead line p within end lead
  unfolding takes_lead
  leads-in {r} {s} {next} e t S N = let u = sym e ∙ t in
      N ∙ ap (λ (z : Float). overtakes end z lead) S ∙ sym (ap (λ (b : Bool). cond b (overtakes end (square_on line p end) lead) lead) u)

  pub leads-out : {r : Bool} → r ≡ reaches line within end → r ≡ false → lead ≡ takes_lead line p within end lead
  unfolding takes_lead
  leads-out {r} e t = let u = sym e ∙ t in sym (ap (λ (b : Bool). cond b (overtakes end (square_on line p end) lead) lead) u)

pub reaches-is : (line : List Crumb) (within : Stretch) (end : ℕ) {a b : Crumb} {r : Bool} → b ≡ at line end → a ≡ at line (end - 1)
    → r ≡ not (lt b.along within.floor || lt within.ceiling a.along) → r ≡ reaches line within end
unfolding reaches
reaches-is line within end B A R = cc

-- ---- the loop: the rule's best so far, of which the ends still to be considered decide, and the lead that tracks it
module _ (line : List Crumb) (p : Point) (within : Stretch) (ends : Range) where
  abbrev rule : ℕ → Option (Nearest × Float) → Option (Nearest × Float)
  rule = considered line p (cost_within line p within Plain)

  pub record Races (lead : Lead) (end : ℕ) : Type 0 where
    pub sofar : Option (Nearest × Float)
    pub rises : Rises rule ends sofar end
    pub tracks : Tracks line p sofar lead
    pub upto : lead.best ≤ ends.to

  pub races-start : (least before : Float) → Races (record { best = 0; least = least; before = before }) ends.from
  races-start least before = record { sofar = None; rises = rises-start; tracks = refl; upto = omega arith }

  upto-on : (end : ℕ) (lead : Lead) → lead.best ≤ ends.to → end ≤ ends.to → (takes_lead line p within end lead).best ≤ ends.to
  unfolding takes_lead overtakes
  upto-on end lead h g = go (reaches line within end)
    where
      inner : (b : Bool) → (cond b (record { best = end; least = square_on line p end; before = lead.least }) lead).best ≤ ends.to
      inner true = g
      inner false = h

      outer : (b : Bool) → (cond b (record { best = end; least = square_on line p end; before = lead.before }) (cond
          (lt (square_on line p end) lead.least) (record { best = end; least = square_on line p end; before = lead.least }) lead)).best
          ≤ ends.to
      outer true = g
      outer false = inner (lt (square_on line p end) lead.least)

      go : (b : Bool) → (cond b (overtakes end (square_on line p end) lead) lead).best ≤ ends.to
      go true = outer (eqb lead.best 0)
      go false = h

  pub races-on : {lead next : Lead} {end : ℕ} → Races lead end → 1 ≤ ends.from → end ≤ ends.to → next ≡ takes_lead line p within end lead
      → Races next (end + 1)
  races-on {lead} {next} {end} v one more e =
      let f = v.rises.from in
      record {
        sofar = rule end v.sofar;
        rises = rises-on v.rises more refl;
        tracks =
            subst (Tracks line p (rule end v.sofar)) (sym e) (tracks_on line p within v.sofar end lead (omega arith) v.tracks);
        upto = subst (λ (z : Lead). z.best ≤ ends.to) (sym e) (upto-on end lead v.upto more);
      }

  abbrev result : Option Nearest
  result = found (rising rule (count ends) ends.from None)

  -- no end is left
  pub record Raced (lead : Lead) : Type 0 where
    pub end : ℕ
    pub races : Races lead end
    pub past : ends.to < end

  pub raced : {lead last : Lead} {end : ℕ} → Races lead end → ends.to < end → last ≡ lead → Raced last
  raced {end = end} v past e = record { end = end; races = subst (λ l. Races l end) (sym e) v; past = past }

  pub races-none : {lead : Lead} → Raced lead → lead.best ≡ 0 → None ≡ result
  races-none {lead} v z =
      let w = v.races in
      sym (none_found line p w.sofar lead w.tracks z) ∙ ap found (rises-out w.rises v.past)

  pub races-one : {lead : Lead} {a b : Float} {near : Nearest} → Raced lead → (lead.best ≡ 0 → ⊥)
      → a ≡ root binary32 lead.least → b ≡ root binary32 lead.before → lt a b ≡ true → near ≡ nearest_on line p lead.best
      → Some near ≡ result
  races-one {lead} v z A B h N =
      let w = v.races in
      let k : lt (root binary32 lead.least) (root binary32 lead.before) ≡ true = rw (← A, ← B) h in
      ap Some N ∙ sym (one_found line p w.sofar lead w.tracks z k) ∙ ap found (rises-out w.rises v.past)

  -- ---- the same downwards
  pub record Chases (lead : Lead) (end : ℕ) : Type 0 where
    pub sofar : Option (Nearest × Float)
    pub falls : Falls rule ends sofar end
    pub tracks : Tracks line p sofar lead
    pub upto : lead.best ≤ ends.to

  pub chases-start : (least before : Float) → Chases (record { best = 0; least = least; before = before }) ends.to
  chases-start least before = record { sofar = None; falls = falls-start; tracks = refl; upto = omega arith }

  pub chases-on : {lead next : Lead} {end : ℕ} → Chases lead end → 1 ≤ ends.from → ends.from ≤ end
      → next ≡ takes_lead line p within end lead → Chases next (end - 1)
  chases-on {lead} {next} {end} v one more e =
      let f = v.falls.upto in
      record {
        sofar = rule end v.sofar;
        falls = falls-on v.falls one more refl;
        tracks =
            subst (Tracks line p (rule end v.sofar)) (sym e) (tracks_on line p within v.sofar end lead (omega arith) v.tracks);
        upto = subst (λ (z : Lead). z.best ≤ ends.to) (sym e) (upto-on end lead v.upto f);
      }

  abbrev down : Option Nearest
  down = found (falling rule (count ends) ends.to None)

  pub chases-none : {lead : Lead} {end : ℕ} → Chases lead end → end < ends.from → lead.best ≡ 0 → None ≡ down
  chases-none {lead} v past z = sym (none_found line p v.sofar lead v.tracks z) ∙ ap found (falls_out v.falls past)

  pub chases-one : {lead : Lead} {end : ℕ} {a b : Float} {near : Nearest} → Chases lead end → end < ends.from → (lead.best ≡ 0 → ⊥)
      → a ≡ root binary32 lead.least → b ≡ root binary32 lead.before → lt a b ≡ true → near ≡ nearest_on line p lead.best
      → Some near ≡ down
  chases-one {lead} v past z A B h N =
      let k : lt (root binary32 lead.least) (root binary32 lead.before) ≡ true = rw (← A, ← B) h in
      ap Some N ∙ sym (one_found line p v.sofar lead v.tracks z k) ∙ ap found (falls_out v.falls past)
