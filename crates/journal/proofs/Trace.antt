-- What may happen to what is held, one thing at a time, with the note that it leaves; from an empty guide any run of these gives the claim.
-- Assumes nothing.
use Prim.Native.Nat.{ℕ, ◌+◌, ◌-◌, ◌≤◌}
use mathlib.Core.Path.{◌≡◌, refl, ap, ◌∙◌}
use mathlib.Core.List.{List, [], ◌∷◌, ◌++◌, map, map-append}
use native.Mathlib.Omega.{arith}
use lib.ListN.{length, take, length-append, length-take}
use lib.Ieee.{Float}
use Rattle.plane.specs.declared.Point.{Point}
use Rattle.std.proofs.lemmas.List.{take-map}
use Rattle.crumbs.specs.declared.Crumb.{Crumb}
use Rattle.crumbs.specs.Crumb.{point}
use Rattle.crumbs.specs.Choice.{end}
use Rattle.crumbs.proofs.Choices.{choice-trans, choice-snoc, choice-take, first-snoc, first-take}
use Rattle.thin.specs.Crumb.{target}
use Rattle.thin.specs.Theorems.{doubled_by}
use Rattle.trail.specs.Notes.{Note, Kept, Thinned, Reset}
use Rattle.trail.specs.Trail.{tolerance_m}
use Rattle.trail.proofs.Theorems.{Holding, with_crumb, Leaves}
use Rattle.journal.specs.Kept.{kept_after, kept_in, tolerance_after}
use Rattle.journal.specs.Claim.{Chosen, NotesThinning, KeepsNext, Claim}

-- the first n crumbs
abbrev pub front : ℕ → Holding → Holding
front n x = record { crumbs = take n x.crumbs; tolerance = x.tolerance }

abbrev pub nothing_held : Holding
nothing_held = record { crumbs = []; tolerance = tolerance_m }

-- `Trace C x ns y`: of x the things noted in ns left y
pub data Trace (C : ℕ) : Holding → List Note → Holding → Type 0 where
  over : {x : Holding} → Trace C x [] x
  kept : {x y : Holding} {ns : List Note} (p : Point) (c : Crumb) → point c ≡ p → Trace C (with_crumb c x) ns y → Trace C x (Kept p ∷ ns) y
  -- with the crumb that set it off
  thinned : {x y : Holding} {ns : List Note} (n : ℕ) (z : Holding) (p : Point) (c : Crumb) → point c ≡ p → length x.crumbs ≡ C
      → Leaves C x z n → Trace C (with_crumb c z) ns y → Trace C x (Thinned n z.crumbs ∷ Kept p ∷ ns) y
  cut : {x y : Holding} {ns : List Note} (n : ℕ) → 1 ≤ n → Trace C (front n x) ns y → Trace C x ns y
  reset : {x y : Holding} {ns : List Note} → Trace C nothing_held ns y → Trace C x (Reset ∷ ns) y

-- ---- what is held is chosen from what was kept, and the tolerance is that of the notes
chosen-then : {k m l : List Point} → Chosen k m → Chosen m l → Chosen k l
chosen-then c d = record { choice = choice-trans c.choice d.choice; begins = c.begins ∙ d.begins }

record From (x : Holding) (ks : List Point) (t : Float) : Type 0 where
  chosen : Chosen (map point x.crumbs) ks
  tolerance : x.tolerance ≡ t

from_nothing : From nothing_held [] tolerance_m
from_nothing = record { chosen = record { choice = end; begins = refl }; tolerance = refl }

module _ {x : Holding} {ks : List Point} {t : Float} (f : From x ks t) where
  from-kept : (c : Crumb) {p : Point} → point c ≡ p → From (with_crumb c x) (ks ++ p ∷ []) t
  from-kept c {p} e =
      let m = map point x.crumbs in
      let places : map point (x.crumbs ++ c ∷ []) ≡ m ++ p ∷ [] = map-append point x.crumbs (c ∷ []) ∙ ap (λ q. m ++ q ∷ []) e in
      record {
        chosen = rw places (record { choice = choice-snoc p f.chosen.choice; begins = first-snoc m ks p f.chosen.begins });
        tolerance = f.tolerance;
      }

  from-thinned : {C n : ℕ} {y : Holding} → Leaves C x y n → From y ks (doubled_by (n - 1) t)
  from-thinned {n = n} d =
      record {
        chosen = chosen-then (record { choice = d.choice; begins = d.begins }) f.chosen;
        tolerance = d.last-tolerance ∙ ap (doubled_by (n - 1)) f.tolerance;
      }

  from_cut : (n : ℕ) → 1 ≤ n → From (front n x) ks t
  from_cut n h =
      let m = map point x.crumbs in
      let first : Chosen (take n m) m = record { choice = choice-take n m; begins = first-take n m h } in
      record { chosen = chosen-then (rw (← take-map point n x.crumbs) first) f.chosen; tolerance = f.tolerance }

  notes-thinning : {C n : ℕ} {y : Holding} → length x.crumbs ≡ C → Leaves C x y n → NotesThinning C ks t n y.crumbs
  notes-thinning {C} full d =
      record {
        found = x.crumbs;
        full = full;
        chosen = f.chosen;
        counted = rw f.tolerance at d.counted;
        leaves = rw f.tolerance at d.leaves;
        some-pass = d.some-pass;
        few-passes = d.few-passes;
        few-left = d.few-left;
      }

module _ {C : ℕ} where
  pub same : {x y : Holding} → x ≡ y → Trace C x [] y
  same e = rw (← e) over

  pub after : {x y z : Holding} {ns ms : List Note} → Trace C x ns y → Trace C y ms z → Trace C x (ns ++ ms) z
  after over u = u
  after (kept p c e t) u = kept p c e (after t u)
  after (thinned n z p c e f d t) u = thinned n z p c e f d (after t u)
  after (cut n h t) u = cut n h (after t u)
  after (reset t) u = reset (after t u)

  chosen-from : {x y : Holding} {ns : List Note} (ks : List Point) (t : Float) → From x ks t → Trace C x ns y
      → Chosen (map point y.crumbs) (kept_after ks ns)
  chosen-from ks t f over = f.chosen
  chosen-from ks t f (kept p c e r) = chosen-from (ks ++ p ∷ []) t (from-kept f c e) r
  chosen-from ks t f (thinned n z p c e full d r) = chosen-from (ks ++ p ∷ []) _ (from-kept (from-thinned f d) c e) r
  chosen-from ks t f (cut n h r) = chosen-from ks t (from_cut f n h) r
  chosen-from ks t f (reset r) = chosen-from [] tolerance_m from_nothing r

  -- ---- the thinnings among the notes
  -- before any thinning to come, as many crumbs are kept as there is room for
  far : {x y : Holding} {ns : List Note} (b c : List Note) (n : ℕ) (l : List Crumb) → Trace C x ns y → ns ≡ b ++ Thinned n l ∷ c
      → C ≤ length x.crumbs + kept_in b
  far [] c n l over e = cc
  far (v ∷ b) c n l over e = cc
  far [] c n l (kept p a q t) e = cc
  far {x} (v ∷ b) c n l (kept p a q t) e =
      let ih = far b c n l t (cc) in
      let y : kept_in (v ∷ b) ≡ kept_in (Kept p ∷ b) = cc in
      omega (arith, y, ih, length-append x.crumbs (a ∷ []))
  far b c n l (thinned m z p a q f d t) e = omega arith
  far {x} b c n l (cut m h t) e = omega (arith, far b c n l t e, length-take m x.crumbs)
  far [] c n l (reset t) e = cc
  far (v ∷ b) c n l (reset t) e =
      let ih = far b c n l t (cc) in
      let y : kept_in (v ∷ b) ≡ kept_in (Reset ∷ b) = cc in
      omega (arith, y, ih)

  -- between any two thinnings as many crumbs are kept as the first makes room for
  spaced : {x y : Holding} {ns : List Note} (a b c : List Note) (n m : ℕ) (l k : List Crumb) → Trace C x ns y
      → ns ≡ a ++ Thinned n l ∷ b ++ Thinned m k ∷ c → C - target C ≤ kept_in b
  spaced [] b c n m l k over e = cc
  spaced (v ∷ a) b c n m l k over e = cc
  spaced [] b c n m l k (kept p o q t) e = cc
  spaced (v ∷ a) b c n m l k (kept p o q t) e = spaced a b c n m l k t (cc)
  spaced [] b c n m l k (thinned i z p o q f d t) e = omega (arith, d.few-left, far {x = z} b c m k (kept p o q t) (cc))
  spaced (v ∷ []) b c n m l k (thinned i z p o q f d t) e = cc
  spaced (v ∷ w ∷ a) b c n m l k (thinned i z p o q f d t) e = spaced a b c n m l k t (cc)
  spaced a b c n m l k (cut i h t) e = spaced a b c n m l k t e
  spaced [] b c n m l k (reset t) e = cc
  spaced (v ∷ a) b c n m l k (reset t) e = spaced a b c n m l k t (cc)

  -- each is as it must be, and is followed by the crumb that set it off
  each-noted : {x y : Holding} {ns : List Note} (ks : List Point) (u : Float) → From x ks u → (a b : List Note) (n : ℕ) (l : List Crumb)
      → Trace C x ns y → ns ≡ a ++ Thinned n l ∷ b → NotesThinning C (kept_after ks a) (tolerance_after u a) n l × KeepsNext b
  each-noted ks u f [] b n l over e = cc
  each-noted ks u f (v ∷ a) b n l over e = cc
  each-noted ks u f [] b n l (kept p c q t) e = cc
  each-noted ks u f (v ∷ a) b n l (kept p c q t) e =
      let is : v ≡ Kept p = cc in
      rw is (each-noted (ks ++ p ∷ []) u (from-kept f c q) a b n l t (cc))
  each-noted ks u f [] b n l (thinned {ns} i z p c q full d t) e =
      let count : i ≡ n = cc in
      let left : z.crumbs ≡ l = cc in
      let next : b ≡ Kept p ∷ ns = cc in
      (rw (← count, ← left) (notes-thinning f full d), (p, (ns, next)))
  each-noted ks u f (v ∷ []) b n l (thinned i z p c q full d t) e = cc
  each-noted ks u f (v ∷ w ∷ a) b n l (thinned i z p c q full d t) e =
      let is : v ≡ Thinned i z.crumbs = cc in
      let next : w ≡ Kept p = cc in
      rw (is, next) (each-noted (ks ++ p ∷ []) _ (from-kept (from-thinned f d) c q) a b n l t (cc))
  each-noted ks u f a b n l (cut i h t) e = each-noted ks u (from_cut f i h) a b n l t e
  each-noted ks u f [] b n l (reset t) e = cc
  each-noted ks u f (v ∷ a) b n l (reset t) e =
      let is : v ≡ Reset = cc in
      rw is (each-noted [] tolerance_m from_nothing a b n l t (cc))

  pub claim : {ns : List Note} {y : Holding} → Trace C nothing_held ns y → Claim C ns (map point y.crumbs)
  claim t =
      record {
        chosen = chosen-from [] tolerance_m from_nothing t;
        apart = λ a b c n m l k e. spaced a b c n m l k t e;
        sets-off = λ a b n l e. (each-noted [] tolerance_m from_nothing a b n l t e).1;
        each = λ a b n l e. (each-noted [] tolerance_m from_nothing a b n l t e).0;
      }
