-- The steps of a pass over a buffer: what its loop carries on. Assumes nothing.
use Prim.Native.Nat.{ℕ, zero, suc, ◌+◌, ◌-◌, ◌*◌, ◌≤◌, ◌<◌}
use mathlib.Core.Path.{◌≡◌, refl, sym, ap, ap₂, ◌∙◌, subst}
use mathlib.Core.Bool.{Bool, true}
use mathlib.Core.List.{List, [], ◌∷◌, ◌++◌, append_assoc, append-nil}
use native.Mathlib.Omega.{arith}
use native.Mathlib.Numerals.{add-one}
use native.Mathlib.Decide.{ℕ_discrete}
use lib.ListN.{length, take, drop, set, drop_of_length-le}
use lib.Seq.{drop-drop, drop-set-lt, take-suc-set, set-get_or}
use lib.Ieee.{Float, nan}
use Rattle.crumbs.specs.declared.Crumb.{Crumb}
use Rattle.crumbs.specs.Crumb.{capacity, stride, crumb_at, crumbs, behind}
use Rattle.crumbs.specs.Inner.{put_at}
use Rattle.crumbs.proofs.Crumbs.{length-crumbs, drop-crumbs, take-crumbs}
use Rattle.crumbs.proofs.Crumbs.{crumbs-put, behind-put, length-put, put_same, put_other, put-copied}
use Rattle.thin.specs.Crumb.{two_on, pass_by}
use Rattle.thin.specs.Promises.{Stood}
use Rattle.thin.specs.Inner.{step_by, OneByOne, Passed}
use Rattle.thin.proofs.Passes.{step-within, pass-drop, pass-none, pass-keep, pass-few}
use Rattle.thin.proofs.Reaching.{after, length-after}

-- a halving pass goes two on where two follow
pub step-halving : (t : Float) (buf : List Float) (len anchor : ℕ) → anchor + 2 < len
    → step_by true t (crumb_at buf anchor) (after buf len anchor) ≡ 2
unfolding step_by two_on
step-halving t buf len anchor h = omega (arith, length-after buf len anchor)

-- what is still to come of a pass, behind the crumb that it stands at
abbrev to_come : Bool → Float → ℕ → List Float → ℕ → List Crumb
to_come halve t len buf anchor =
    pass_by (step_by halve t) (step_by halve t (crumb_at buf anchor) (after buf len anchor) - 1) (after buf len anchor)

-- ---- where each crumb stood before
pub stood-here : (n : ℕ) (buf : List Float) → Stood n buf buf
stood-here n buf = record { among = λ i h. (i, (h, refl)) }

pub stood-then : {n : ℕ} {a b c : List Float} → Stood n a b → Stood n b c → Stood n a c
stood-then p q =
    record { among = λ i h. let j = q.among i h in let k = p.among j.0 j.1.0 in (k.0, (k.1.0, j.1.1 ∙ k.1.1)) }

-- after a crumb of them was copied to another place of them
stood-put : (n : ℕ) (buf : List Float) (to from : ℕ) → to < capacity (length buf) → from < n
    → Stood n buf (put_at buf to (crumb_at buf from))
stood-put n buf to from fits inside = record { among = λ i h. at i h (ℕ_discrete i to) }
  where
    at : (i : ℕ) → i < n → Dec (i ≡ to) → (j : ℕ) × ((j < n) × (crumb_at (put_at buf to (crumb_at buf from)) i ≡ crumb_at buf j))
    at i h (yes e) = (from, (inside, ap (crumb_at (put_at buf to (crumb_at buf from))) e ∙ put_same buf to (crumb_at buf from) fits))
    at i h (no ne) = (i, (h, put_other buf to (crumb_at buf from) i ne))

-- a crumb put where it is
put_back : (buf : List Float) (i : ℕ) → put_at buf i (crumb_at buf i) ≡ buf
unfolding put_at crumb_at
put_back buf i = rw (set-get_or buf (stride * i) nan, set-get_or buf (stride * i + 1) nan) (set-get_or buf (stride * i + 2) nan)

-- What the loop carries on: the crumbs kept so far, and what is still to come, are what the pass leaves.
pub record Kept (halve : Bool) (t : Float) (len : ℕ) (buf₀ buf : List Float) (kept anchor : ℕ) : Type 0 where
  pub done : take kept (crumbs len buf) ++ to_come halve t len buf anchor ≡ pass_by (step_by halve t) 0 (crumbs len buf₀)
  pub beyond : behind len buf ≡ behind len buf₀
  pub stood : Stood len buf₀ buf
  pub size : length buf ≡ length buf₀
  pub front : kept ≤ anchor + 1
  pub inside : anchor < len
  pub fits : len ≤ capacity (length buf₀)

module _ {halve : Bool} {t : Float} {len : ℕ} where
  -- two crumbs or fewer are left as they are
  pub passed-few : (buf : List Float) → len ≤ 2 → Passed halve t len buf buf len
  passed-few buf h =
      record {
        kept = sym (pass-few (step-within halve t) (crumbs len buf) (omega (arith, length-crumbs len buf)));
        beyond = refl;
        stood = stood-here len buf;
        size = refl;
      }

  pub kept-start : {buf : List Float} → 0 < len → len ≤ capacity (length buf) → Kept halve t len buf buf 1 0
  kept-start {buf} h fits =
      let e : crumbs len buf ≡ crumb_at buf 0 ∷ after buf len 0 = drop-crumbs len buf 0 h in
      record {
        done =
            ap (λ l. take 1 l ++ to_come halve t len buf 0) e
            ∙ sym (ap (pass_by (step_by halve t) 0) e ∙ pass-keep (step_by halve t) (crumb_at buf 0) (after buf len 0));
        beyond = refl;
        stood = stood-here len buf;
        size = refl;
        front = omega arith;
        inside = h;
        fits = fits;
      }

  module _ {buf₀ buf : List Float} {kept anchor : ℕ} (k : Kept halve t len buf₀ buf kept anchor) where
    -- at the last crumb nothing is to come
    pub kept-end : anchor + 1 ≡ len → Passed halve t len buf₀ buf kept
    kept-end e =
        let none : after buf len anchor ≡ [] =
        drop_of_length-le (crumbs len buf) {i = suc anchor} (omega (arith, length-crumbs len buf)) in
        let no_more : to_come halve t len buf anchor ≡ [] =
        ap (pass_by (step_by halve t) (step_by halve t (crumb_at buf anchor) (after buf len anchor) - 1)) none
        ∙ pass-none (step_by halve t) (step_by halve t (crumb_at buf anchor) (after buf len anchor) - 1) in
        record {
          kept =
              sym (take-crumbs kept len buf (omega (arith, k)))
              ∙ (sym (append-nil (take kept (crumbs len buf))) ∙ (ap (λ l. take kept (crumbs len buf) ++ l) (sym no_more) ∙ k.done));
          beyond = k.beyond;
          stood = k.stood;
          size = k.size;
        }

    -- where a crumb follows, the next is past the anchor and within the line
    pub next-on : anchor + 1 < len → 1 ≤ step_by halve t (crumb_at buf anchor) (after buf len anchor)
    next-on more = (step-within halve t).low (crumb_at buf anchor) (after buf len anchor) (omega (arith, length-after buf len anchor))

    next-high : anchor + 1 < len → step_by halve t (crumb_at buf anchor) (after buf len anchor) ≤ len - suc anchor
    next-high more =
        omega (
          arith,
          (step-within halve t).high (crumb_at buf anchor) (after buf len anchor) (omega (arith, length-after buf len anchor)),
          length-after buf len anchor,
        )

    -- where one crumb follows, the next is that one
    pub next_last : anchor + 2 ≡ len → len - 1 ≡ anchor + step_by halve t (crumb_at buf anchor) (after buf len anchor)
    next_last e = omega (arith, next-on (omega arith), next-high (omega arith))

    module _ {next : ℕ} (more : anchor + 1 < len) (is : next ≡ anchor + step_by halve t (crumb_at buf anchor) (after buf len anchor)) where
      pub next-inside : next < len
      next-inside = omega (arith, next-high more)

      -- the rule goes on at the next
      come : to_come halve t len buf anchor ≡ crumb_at buf next ∷ to_come halve t len buf next
      come =
          let n = step_by halve t (crumb_at buf anchor) (after buf len anchor) - 1 in
          let at : suc anchor + (step_by halve t (crumb_at buf anchor) (after buf len anchor) - 1) ≡ next = omega (arith, next-on more) in
          pass-drop (step_by halve t) n (after buf len anchor)
          ∙ (ap (pass_by (step_by halve t) 0)
          (drop-drop n (suc anchor) (crumbs len buf) ∙ (ap (λ i. drop i (crumbs len buf)) at ∙ drop-crumbs len buf next next-inside))
          ∙ pass-keep (step_by halve t) (crumb_at buf next) (after buf len next))

      -- the next is put behind those kept, at or before where it was
      before : kept ≤ next
      before = omega (arith, k.front, next-on more)

      room : kept < capacity (length buf)
      room = omega (arith, before, next-inside, k.fits, k.size)

      put : crumbs len (put_at buf kept (crumb_at buf next)) ≡ set (crumbs len buf) kept (crumb_at buf next)
      put = crumbs-put buf kept (crumb_at buf next) len room (omega (arith, before, next-inside))

      after-put : after (put_at buf kept (crumb_at buf next)) len next ≡ after buf len next
      after-put = ap (drop (suc next)) put ∙ drop-set-lt (suc next) (crumbs len buf) kept (crumb_at buf next) (omega (arith, before))

      to-come : to_come halve t len (put_at buf kept (crumb_at buf next)) next ≡ to_come halve t len buf next
      to-come = rw (after-put, put-copied buf kept next room)

      front-put : take (kept + 1) (crumbs len (put_at buf kept (crumb_at buf next)))
          ≡ take kept (crumbs len buf) ++ (crumb_at buf next ∷ [])
      front-put =
          rw (add-one kept, put)
          (take-suc-set (crumbs len buf) kept (crumb_at buf next) (omega (arith, before, next-inside, length-crumbs len buf)))

      kept_next : Kept halve t len buf₀ (put_at buf kept (crumb_at buf next)) (kept + 1) next
      kept_next =
          record {
            done =
                ap₂ ◌++◌ front-put to-come
                ∙ (append_assoc (take kept (crumbs len buf)) (crumb_at buf next ∷ []) (to_come halve t len buf next)
                ∙ (ap (λ l. take kept (crumbs len buf) ++ l) (sym come) ∙ k.done));
            beyond = behind-put buf kept (crumb_at buf next) len (omega (arith, before, next-inside)) ∙ k.beyond;
            stood = stood-then k.stood (stood-put len buf kept next room next-inside);
            size = length-put buf kept (crumb_at buf next) ∙ k.size;
            front = omega (arith, before);
            inside = next-inside;
            fits = k.fits;
          }

      -- the same of a buffer that a put left, with the crumb that was read
      pub kept_put : {exit : List Float} {x : Crumb} → exit ≡ put_at buf kept x → x ≡ crumb_at buf next
          → Kept halve t len buf₀ exit (kept + 1) next
      kept_put e f = rw (e, f) kept_next

  -- where it goes on by one, the crumbs stay where they are
  pub kept-along : {buf : List Float} {r : ℕ} → len ≤ capacity (length buf) → OneByOne halve t len buf r → (n : ℕ) → n ≤ r
      → Kept halve t len buf buf (n + 1) n
  kept-along fits o zero h = kept-start (omega (arith, o.within)) fits
  kept-along {buf} fits o (suc n) h =
      let one : n + 1 ≡ n + step_by halve t (crumb_at buf n) (after buf len n) = omega (arith, o.each n (omega arith)) in
      let k = kept-along fits o n (omega arith) in
      let e : n + 1 ≡ suc n = omega arith in
      subst (λ m. Kept halve t len buf buf (m + 1) m) e (kept_put k (omega (arith, o.within)) one (sym (put_back buf (n + 1))) refl)
