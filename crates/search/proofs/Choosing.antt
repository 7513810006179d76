-- What is chosen so far, of the ends that are done: where it is, and that it is the first of least cost. Assumes nothing.
use Prim.Native.Nat.{ℕ, zero, suc, ◌+◌, ◌-◌, ◌≤◌, ◌<◌}
use mathlib.Core.Path.{◌≡◌, refl, sym, ap, ◌∙◌, subst}
use mathlib.Core.Bool.{Bool, true, false, cond, true≢false}
use mathlib.Core.List.{List}
use mathlib.Core.Logic.{◌⊎◌, inl, inr}
use native.Mathlib.Omega.{arith}
use native.Mathlib.Decide.{ℕ_discrete}
use lib.Ieee.{Float, lt, le}
use Rattle.plane.specs.declared.Point.{Point}
use Rattle.crumbs.specs.declared.Crumb.{Crumb}
use Rattle.segments.specs.declared.costs.Nearest.{Nearest}
use Rattle.std.specs.Prelude.{Option, Some, None, Float}
use Rattle.search.specs.declared.Range.{Range}
use Rattle.segments.specs.Segment.{meets, nearest_on, cheaper, considered, found}
use Rattle.search.specs.Search.{rising, falling, count}
use Rattle.search.specs.Theorems.{Met, FirstOfLeast, Finds}
use Rattle.binary32.proofs.roots.Order.{not-less, lt_irrefl, le-lt}

-- whatever is found is where p meets a segment tried
abbrev pub OnlyMet : List Crumb → Point → Range → Option Nearest → Type 0
OnlyMet line p ends best = (near : Nearest) → best ≡ Some near → Met line p ends near

-- a test that cannot pass
refuted : (b : Bool) → (b ≡ true → ⊥) → b ≡ false
refuted true wrong = absurd (wrong refl)
refuted false wrong = refl

module _ (line : List Crumb) (p : Point) (cost : ℕ → Option Float) (earlier : ℕ → ℕ → Type 0)
    (one_way : (e f : ℕ) → earlier e f → earlier f e → ⊥) where
  pub record Leads (done : ℕ → Type 0) (near : Nearest) (least : Float) : Type 0 where
    pub among : done near.end
    pub there : near ≡ nearest_on line p near.end
    pub own : cost near.end ≡ Some least
    pub none-less : (e : ℕ) (c : Float) → done e → cost e ≡ Some c → lt c least ≡ false
    pub first : (e : ℕ) (c : Float) → done e → earlier e near.end → cost e ≡ Some c → le c least ≡ false

  -- of the ends done; while nothing is chosen, none of them has a cost
  abbrev pub Chosen : (ℕ → Type 0) → Option (Nearest × Float) → Type 0
  Chosen done None = (e : ℕ) (c : Float) → done e → cost e ≡ Some c → ⊥
  Chosen done (Some (near, least)) = Leads done near least

  chosen-same : (done done' : ℕ → Type 0) → ((e : ℕ) → done e → done' e) → ((e : ℕ) → done' e → done e) → (best : Option (Nearest × Float))
      → Chosen done best
      → Chosen done' best
  chosen-same done done' to from None h = λ e c d. h e c (from e d)
  chosen-same done done' to from (Some (near, least)) h =
      record {
        among = to _ h.among;
        there = h.there;
        own = h.own;
        none-less = λ e c d. h.none-less e c (from e d);
        first = λ e c d. h.first e c (from e d);
      }

  -- one more end
  module _ (done done' : ℕ → Type 0) (end : ℕ) (more : (e : ℕ) → done e → done' e) (last : done' end)
      (either : (e : ℕ) → done' e → done e ⊎ (e ≡ end)) (later : (e : ℕ) → done e → earlier e end) where
    out : (best : Option (Nearest × Float)) → cost end ≡ None → Chosen done best → Chosen done' best
    out best k = chosen-out best
      where
        none : {A : Type 0} (e : ℕ) (c : Float) → e ≡ end → cost e ≡ Some c → A
        none e c f g = let h : Some c ≡ None = sym g ∙ (ap cost f ∙ k) in let z : ◌≡◌ {A = ℕ} 0 1 = cc in absurd (omega arith)

        chosen-out : (best : Option (Nearest × Float)) → Chosen done best → Chosen done' best
        chosen-out None h = λ e c d g. elim (either e d) [ inl x ↦ h e c x g | inr x ↦ none e c x g ]
        chosen-out (Some (near, least)) h =
            record {
              among = more _ h.among;
              there = h.there;
              own = h.own;
              none-less = λ e c d g. elim (either e d) [ inl x ↦ h.none-less e c x g | inr x ↦ none e c x g ];
              first = λ e c d r g. elim (either e d) [ inl x ↦ h.first e c x r g | inr x ↦ none e c x g ];
            }

    -- the end has the cost c₀, and is chosen where nothing was or the best so far costs more
    module _ (c₀ : Float) (k : cost end ≡ Some c₀) where
      same : (e : ℕ) (c : Float) → e ≡ end → cost e ≡ Some c → c ≡ c₀
      same e c f g = let h : Some c ≡ Some c₀ = sym g ∙ (ap cost f ∙ k) in cc

      itself : (e : ℕ) (c : Float) → e ≡ end → cost e ≡ Some c → lt c c₀ ≡ false
      itself e c f g = ap (λ x. lt x c₀) (same e c f g) ∙ lt_irrefl c₀

      not_earlier : {A : Type 0} (e : ℕ) → e ≡ end → earlier e end → A
      not_earlier e f r = let s : earlier end end = subst (λ x. earlier x end) f r in absurd (one_way end end s s)

      -- no end done costs as little as c₀
      leads : ((e : ℕ) (c : Float) → done e → cost e ≡ Some c → le c c₀ ≡ false) → Leads done' (nearest_on line p end) c₀
      unfolding nearest_on meets
      leads over =
          record {
            among = last;
            there = refl;
            own = k;
            none-less = λ e c d g. elim (either e d) [ inl x ↦ not-less c c₀ (over e c x g) | inr x ↦ itself e c x g ];
            first = λ e c d r g. elim (either e d) [ inl x ↦ over e c x g | inr x ↦ not_earlier e x r ];
          }

      keeps : (near : Nearest) (least : Float) → lt c₀ least ≡ false → Leads done near least → Leads done' near least
      keeps near least t h =
          let after : (e : ℕ) → e ≡ end → earlier near.end e =
          λ e x. subst (earlier near.end) (sym x) (later near.end h.among) in
          record {
            among = more _ h.among;
            there = h.there;
            own = h.own;
            none-less = λ e c d g. elim (either e d) [ inl x ↦ h.none-less e c x g | inr x ↦ ap (λ y. lt y least) (same e c x g) ∙ t ];
            first = λ e c d r g. elim (either e d) [ inl x ↦ h.first e c x r g | inr x ↦ absurd (one_way e near.end r (after e x)) ];
          }

      chosen : (best : Option (Nearest × Float)) → Chosen done best → Chosen done' (cheaper best (nearest_on line p end) (Some c₀))
      unfolding cheaper
      chosen None h = leads (λ e c d g. absurd (h e c d g))
      chosen (Some (near, least)) h = by-test (lt c₀ least) refl
        where
          by-test : (b : Bool) → lt c₀ least ≡ b → Chosen done' (cond b (Some ((nearest_on line p end), c₀)) (Some (near, least)))
          by-test true t =
              leads (λ e c d g. refuted (le c c₀) (λ u. absurd (true≢false (sym (le-lt c c₀ least u t) ∙ h.none-less e c d g))))
          by-test false t = keeps near least t h

    next : (best : Option (Nearest × Float)) → Chosen done best → Chosen done' (considered line p cost end best)
    unfolding considered cheaper
    next best h = at-cost (cost end) refl
      where
        at-cost : (k : Option Float) → cost end ≡ k → Chosen done' (cheaper best (nearest_on line p end) k)
        at-cost None e = out best e h
        at-cost (Some c) e = chosen c e best h

  -- ---- all ends
  rising-chosen : (from left end : ℕ) (best : Option (Nearest × Float)) → from ≤ end → ((e f : ℕ) → e < f → earlier e f)
      → Chosen (λ e. (from ≤ e) × (e < end)) best
      → Chosen (λ e. (from ≤ e) × (e < end + left)) (rising (considered line p cost) left end best)
  unfolding rising
  rising-chosen from zero end best h o v = chosen-same _ _ (λ e d. (d.0, omega (arith, d.1))) (λ e d. (d.0, omega (arith, d.1))) best v
  rising-chosen from (suc left) end best h o v =
      chosen-same _ _ (λ e d. (d.0, omega (arith, d.1))) (λ e d. (d.0, omega (arith, d.1)))
      (rising (considered line p cost) left (end + 1) (considered line p cost end best))
      (rising-chosen from left (end + 1) (considered line p cost end best) (omega arith) o
      (next (λ e. (from ≤ e) × (e < end)) (λ e. (from ≤ e) × (e < end + 1)) end (λ e d. (d.0, omega (arith, d.1))) (h, omega arith)
      (λ e d. elim (ℕ_discrete e end) [ yes q ↦ inr q | no q ↦ inl (d.0, omega (arith, d.1)) ]) (λ e d. o e end d.1) best v))

  falling-chosen : (to left end : ℕ) (best : Option (Nearest × Float)) → end ≤ to → left ≤ end → ((e f : ℕ) → f < e → earlier e f)
      → Chosen (λ e. (end < e) × (e ≤ to)) best → Chosen (λ e. (end < e + left) × (e ≤ to)) (falling (considered line p cost) left end best)
  unfolding falling
  falling-chosen to zero end best h l o v = chosen-same _ _ (λ e d. (omega (arith, d.0), d.1)) (λ e d. (omega (arith, d.0), d.1)) best v
  falling-chosen to (suc left) end best h l o v =
      chosen-same _ _ (λ e d. (omega (arith, d.0), d.1)) (λ e d. (omega (arith, d.0), d.1))
      (falling (considered line p cost) left (end - 1) (considered line p cost end best))
      (falling-chosen to left (end - 1) (considered line p cost end best) (omega arith) (omega arith) o
      (next (λ e. (end < e) × (e ≤ to)) (λ e. (end - 1 < e) × (e ≤ to)) end (λ e d. (omega (arith, d.0), d.1)) (omega arith, h)
      (λ e d. elim (ℕ_discrete e end) [ yes q ↦ inr q | no q ↦ inl (omega (arith, d.0), d.1) ]) (λ e d. o e end d.0) best v))

  -- ---- what the ends of a range leave
  abbrev pub Tried : Range → ℕ → Type 0
  Tried ends e = (ends.from ≤ e) × (e ≤ ends.to)

  pub rising-all : ((e f : ℕ) → e < f → earlier e f) → (ends : Range)
      → Chosen (Tried ends) (rising (considered line p cost) (count ends) ends.from None)
  rising-all o ends =
      chosen-same _ _ (λ e d. (d.0, omega (arith, d.0, d.1))) (λ e d. (d.0, omega (arith, d.0, d.1)))
      (rising (considered line p cost) (count ends) ends.from None)
      (rising-chosen ends.from (count ends) ends.from None (omega arith) o (λ e c d g. absurd (omega (arith, d.0, d.1))))

  pub falling-all : ((e f : ℕ) → f < e → earlier e f) → (ends : Range) → 1 ≤ ends.from
      → Chosen (Tried ends) (falling (considered line p cost) (count ends) ends.to None)
  falling-all o ends h =
      chosen-same _ _ (λ e d. (omega (arith, d.0, d.1), d.1)) (λ e d. (omega (arith, d.0, d.1), d.1))
      (falling (considered line p cost) (count ends) ends.to None)
      (falling-chosen ends.to (count ends) ends.to None (omega arith) (omega arith) o
      (λ e c d g. absurd (omega (arith, d.0, d.1))))

  module _ (ends : Range) where
    pub chosen-met : (best : Option (Nearest × Float)) → Chosen (Tried ends) best → (near : Nearest) → found best ≡ Some near
        → Met line p ends near × ((least : Float) × FirstOfLeast cost earlier ends near.end least)
    unfolding found
    chosen-met None v near e = let z : ◌≡◌ {A = ℕ} 0 1 = cc in absurd (omega arith)
    chosen-met (Some (near, least)) v other e =
        let f : near ≡ other = cc in
        subst (λ n. Met line p ends n × ((least : Float) × FirstOfLeast cost earlier ends n.end least)) f (
          record { from = v.among.0; to = v.among.1; there = v.there },
          (
            least,
            record { own = v.own; none-less = λ e c a b. v.none-less e c (a, b); first = λ e c a b. v.first e c (a, b) },
          ),
        )

    pub chosen-finds : (best : Option (Nearest × Float)) → Chosen (Tried ends) best → (e : ℕ) (c : Float) → Tried ends e → cost e ≡ Some c
        → Finds (found best)
    unfolding found
    chosen-finds None v e c t k = absurd (v e c t k)
    chosen-finds (Some (near, least)) v e c t k = (near, refl)
