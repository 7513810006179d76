-- The steps of a thinning over a buffer: what the loop over the passes carries on. Assumes nothing.
use Prim.Native.Nat.{ℕ, suc, ◌+◌, ◌-◌, ◌≤◌, ◌<◌}
use mathlib.Core.Path.{◌≡◌, refl, sym, ap, ◌∙◌}
use mathlib.Core.Bool.{Bool, true, false}
use mathlib.Core.List.{List}
use native.Mathlib.Omega.{arith}
use native.Mathlib.Numerals.{add-one}
use native.Mathlib.Decide.{dec_le, dec_lt}
use borrow.Author.Tests.{le-leb, lt-leb, lt-ltb, le-ltb}
use lib.Dec.{ltb}
use lib.ListN.{length}
use lib.Ieee.{Float}
use Rattle.crumbs.specs.declared.Crumb.{Crumb}
use Rattle.crumbs.specs.Crumb.{capacity, crumb_at, crumbs, behind}
use Rattle.crumbs.proofs.Crumbs.{length-crumbs, behind_more, crumb-behind}
use Rattle.crumbs.proofs.Choices.{choice-length}
use Rattle.std.specs.Prelude.{Ok, Err}
use Rattle.refusal.specs.declared.Refusal.{Refusal}
use Rattle.refusal.specs.Refusal.{number, unless}
use mathlib.Core.Logic.{◌≢◌}
use Rattle.thin.specs.Crumb.{measuring_pass, halving_pass, doubled, target, Thinning, passes_from, thinning}
use Rattle.thin.specs.Questions.{question9}
use Rattle.thin.specs.Promises.{Stood, left, refused, thin_answer, thinned, ThinDone}
use Rattle.thin.specs.Inner.{step_by, Passed}
use Rattle.thin.proofs.Passes.{pass-choice}
use Rattle.thin.proofs.Passing.{stood-here, stood-then}
use Rattle.thin.proofs.Asked.{true-false, asked}
use Rattle.thin.proofs.Theorems.{halving-room}

-- ---- the rule, a pass at a time
module _ (most p : ℕ) (t : Float) (l : List Crumb) (early : p ≤ 17) where
  again : 18 - p ≡ suc (18 - (p + 1))
  again = omega arith

  rule-stop : length (measuring_pass t l) ≤ most
      → passes_from most p (18 - p) t l ≡ record { left = measuring_pass t l; tolerance = t; passes = p }
  unfolding passes_from
  rule-stop h = rw (again, le-leb _ _ h, passes_from)

  rule-on : most < length (measuring_pass t l)
      → passes_from most p (18 - p) t l ≡ passes_from most (p + 1) (18 - (p + 1)) (doubled t) (measuring_pass t l)
  unfolding passes_from
  rule-on h =
      rw (again, lt-leb _ _ h, passes_from) (ap (λ k. passes_from most k (18 - (p + 1)) (doubled t) (measuring_pass t l)) (sym (add-one p)))

rule-last : (most p : ℕ) (t : Float) (l : List Crumb) → 18 - p ≡ 0
    → passes_from most p (18 - p) t l ≡ record { left = halving_pass l; tolerance = t; passes = p }
unfolding passes_from
rule-last most p t l e = rw e

pub answer-left : (size : ℕ) (t : Float) (l : List Crumb) (w : Thinning) → question9 size (length l) t ≡ true
    → thinning (capacity size) t l ≡ w
    → thin_answer size t l ≡ left (length w.left) w.tolerance w.passes
unfolding thin_answer
answer-left size t l w h e = rw (h, thin_answer) (ap (λ v. left (length v.left) v.tolerance v.passes) e)

pub answer-refused : (size : ℕ) (t : Float) (l : List Crumb) → question9 size (length l) t ≡ false → thin_answer size t l ≡ refused 9
unfolding thin_answer
answer-refused size t l h = rw (h, thin_answer)

-- ---- the code, a pass at a time
module _ {p n r : ℕ} {t : Float} {entry exit : List Float} (d : Passed (ltb 17 p) t n entry exit r) where
  was-measured : p ≤ 17 → crumbs r exit ≡ measuring_pass t (crumbs n entry)
  unfolding step_by measuring_pass
  was-measured h = d.kept ∙ rw (le-ltb 17 p h, step_by)

  was-halved : 17 < p → crumbs r exit ≡ halving_pass (crumbs n entry)
  unfolding step_by halving_pass
  was-halved h = d.kept ∙ rw (lt-ltb 17 p h, step_by)

-- what the loop carries on: the passes from here on are the thinning
pub record Going (len : ℕ) (t : Float) (most : ℕ) (buf₀ buf : List Float) (kept : ℕ) (d : Float) (passes : ℕ) : Type 0 where
  pub same : passes_from most passes (18 - passes) d (crumbs kept buf) ≡ thinned len t buf₀
  pub aim : most ≡ target (capacity (length buf₀))
  pub admitted : question9 (length buf₀) len t ≡ true
  pub high : passes ≤ 18
  pub fewer : kept ≤ len
  pub beyond : behind len buf ≡ behind len buf₀
  pub stood : Stood len buf₀ buf
  pub size : length buf ≡ length buf₀

pub going_start : {len : ℕ} {t : Float} {most : ℕ} {buf : List Float} → question9 (length buf) len t ≡ true
    → most ≡ target (capacity (length buf))
    → Going len t most buf buf len t 1
unfolding thinning
going_start {len} {t} {most} {buf} a e =
    record {
      same = ap (λ m. passes_from m 1 17 t (crumbs len buf)) e;
      aim = e;
      admitted = a;
      high = omega arith;
      fewer = omega arith;
      beyond = refl;
      stood = stood-here len buf;
      size = refl;
    }

module _ {len : ℕ} {t : Float} {most : ℕ} {buf₀ buf : List Float} {kept : ℕ} {d : Float} {p : ℕ}
    (g : Going len t most buf₀ buf kept d p) where
  pub room : kept ≤ capacity (length buf)
  room = let a = asked (length buf₀) len t g.admitted in omega (arith, a.fits, g.fewer, g.size)

  module _ {exit : List Float} {r : ℕ} (q : Passed (ltb 17 p) d kept buf exit r) where
    still-beyond : behind len exit ≡ behind len buf₀
    still-beyond = behind_more kept len exit buf g.fewer q.beyond ∙ g.beyond

    -- the pass moved crumbs of those still kept, and those behind them stay
    still-stood : Stood len buf₀ exit
    still-stood = stood-then g.stood (record { among = λ i h. at i h (dec_lt i kept) })
      where
        at : (i : ℕ) → i < len → Dec (i < kept) → (j : ℕ) × ((j < len) × (crumb_at exit i ≡ crumb_at buf j))
        at i h (yes k) = let j = q.stood.among i k in (j.0, (omega (arith, j.1.0, g.fewer), j.1.1))
        at i h (no k) = (i, (h, crumb-behind kept i exit buf (omega arith) q.beyond))

    pub still-size : length exit ≡ length buf₀
    still-size = q.size ∙ g.size

    count : {l : List Crumb} → crumbs r exit ≡ l → length l ≡ r
    count e = sym (ap length e) ∙ length-crumbs r exit

    fewer-left : r ≤ kept
    fewer-left =
        omega (arith, choice-length (pass-choice (step_by (ltb 17 p) d) 0 (crumbs kept buf)), count q.kept, length-crumbs kept buf)

    -- the halving pass leaves no more than T, so a pass that leaves more is not the last
    pub not_last : most < r → p ≤ 17
    not_last more = decide (dec_le p 17)
      where
        decide : Dec (p ≤ 17) → p ≤ 17
        decide (yes h) = h
        decide (no h) =
            absurd
            (let a = asked (length buf₀) len t g.admitted in
            let e = count (was-halved {p = p} q (omega arith)) in
            let few = halving-room (capacity (length buf₀)) (crumbs kept buf) a.least
            (omega (arith, length-crumbs kept buf, g.fewer, a.fits)) in
            omega (arith, g.aim))

    pub going_on : most < r → Going len t most buf₀ exit r (doubled d) (p + 1)
    going_on more =
        let early = not_last more in
        let e = was-measured q early in
        record {
          same =
              ap (passes_from most (p + 1) (18 - (p + 1)) (doubled d)) e
              ∙ (sym (rule-on most p d (crumbs kept buf) early (omega (arith, count e))) ∙ g.same);
          aim = g.aim;
          admitted = g.admitted;
          high = omega arith;
          fewer = omega (arith, fewer-left, g.fewer);
          beyond = still-beyond;
          stood = still-stood;
          size = still-size;
        }

    rule-done : r ≤ most → thinned len t buf₀ ≡ record { left = crumbs r exit; tolerance = d; passes = p }
    rule-done few = decide (dec_le p 17)
      where
        decide : Dec (p ≤ 17) → thinned len t buf₀ ≡ record { left = crumbs r exit; tolerance = d; passes = p }
        decide (yes h) =
            sym g.same
            ∙ (rule-stop most p d (crumbs kept buf) h (omega (arith, count (was-measured q h)))
            ∙ ap (λ l. record { left = l; tolerance = d; passes = p }) (sym (was-measured q h)))
        decide (no h) =
            sym g.same
            ∙ (rule-last most p d (crumbs kept buf) (omega (arith, g.high))
            ∙ ap (λ l. record { left = l; tolerance = d; passes = p }) (sym (was-halved {p = p} q (omega arith))))

    pub thin-done : r ≤ most → ThinDone len t buf₀ exit (Ok (record { len = r; tolerance = d; passes = p }))
    thin-done few =
        let e = rule-done few in
        record {
          answered =
              sym (answer-left (length buf₀) t (crumbs len buf₀) _ (rw length-crumbs g.admitted) e
              ∙ ap (λ n. left n d p) (length-crumbs r exit));
          refused = λ b. absurd (true-false (sym g.admitted ∙ b));
          held = λ _. rw (e, length-crumbs r exit);
          beyond = still-beyond;
          free = still-stood;
          size = still-size;
        }

pub thin-refused : {n : ℕ} {t : Float} {b : List Float} (ok : Bool) (q : Refusal) → ok ≡ question9 (length b) n t
    → number q ≡ unless ok 9
    → number q ≢ 0
    → ThinDone n t b b (Err q)
thin-refused true q told e ne = absurd (ne e)
thin-refused {n} {t} {b} false q told e ne =
    record {
      answered = ap refused e ∙ sym (answer-refused (length b) t (crumbs n b) (rw length-crumbs (sym told)));
      refused = λ _. refl;
      held = λ h. absurd (true-false (sym h ∙ sym told));
      beyond = refl;
      free = stood-here n b;
      size = refl;
    }
