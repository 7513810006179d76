-- No call of a guide's own is refused whose places are in range. Assumes nothing.
use Prim.Native.Nat.{ℕ, ◌≤◌}
use native.Mathlib.Omega.{arith}
use mathlib.Core.Path.{◌≡◌, refl, sym, ap, ◌∙◌, subst}
use mathlib.Core.Logic.{◌≢◌}
use mathlib.Core.Bool.{true, ◌&&◌, and-eq-true_iff}
use mathlib.Core.List.{List, []}
use borrow.Author.Tests.{le-leb, leb-true, eqb-true, eqb-false}
use lib.Dec.{leb, eqb}
use lib.ListN.{length, take}
use lib.Seq.{take-length, take-take}
use lib.Ieee.{Float}
use Rattle.crumbs.specs.declared.Crumb.{Crumb}
use Rattle.crumbs.specs.Crumb.{whole, capacity, crumbs}
use Rattle.crumbs.proofs.Crumbs.{take-crumbs}
use Rattle.state.specs.State.{State}
use Rattle.state.specs.Rule.{Done}
use Rattle.plane.specs.declared.Fix.{Fix}
use Rattle.course.specs.Course.{points}
use Rattle.calls.specs.Questions.{question1, question4, state_fits, held_fits, line_fits, crumbs_fit, asks_state, asks_crumbs}
use Rattle.calls.specs.Questions.{asks_line}
use Rattle.calls.specs.Questions.{asks_both}
use Rattle.calls.specs.Line.{new, set_course}
use Rattle.calls.specs.Calls.{Loan, no_buffer, crumb_buffer, line_buffer, both_buffers, line_for_course, Query, Call, Ask, Reset, EndReplay}
use Rattle.calls.specs.Calls.{SetCourse, SetAutoFollow, Observe, Replay, SetFollowing, arguments, asks_lent, asks, course_in, performs}
use Rattle.calls.specs.Calls.{after_call}
use Rattle.taken.specs.Taken.{FixesOnGlobe, InRange, placed_of, Lendable, LendsLine, Lent, line_left, line_after, Own, start, called}
use Rattle.taken.specs.Taken.{refused, BufferAfter, EveryTaken, AnyLineAtFirst, EveryLineAgain}
use Rattle.taken.proofs.Tests.{either, says-yes}
use Rattle.std.specs.Cmp.Derive.{both_true}
use Rattle.taken.proofs.Laid.{most, laid-fits}
use Rattle.taken.proofs.State.{Lined, Kept}
use Rattle.taken.proofs.Calls.{replay-kept, end-replay-kept, auto-follow-kept, following-kept, observe-kept}
use Rattle.taken.proofs.Lines.{line-few, line-lined, new-kept, reset-kept, set-course-kept}
use Rattle.taken.proofs.Asking.{room_of, state-fits, held_fits_lem, fix-asked, fixes-asked, place-asked, or_else_none}

-- ---- a line buffer that passes question 4 with n points
record Roomy (size n : ℕ) : Type 0 where
  short : capacity size ≤ points
  room : n ≤ capacity size
  -- and with none
  none : question4 size 0 ≡ true

roomy : (size n : ℕ) → question4 size n ≡ true → Roomy size n
unfolding question4
roomy size n e =
    let long = whole size && leb (capacity size) points in
    let fits : long ≡ true = ((and-eq-true_iff long (leb n (capacity size))).0 e).0 in
    record {
      short = leb-true (capacity size) points ((and-eq-true_iff (whole size) (leb (capacity size) points)).0 fits).1;
      room = leb-true n (capacity size) ((and-eq-true_iff long (leb n (capacity size))).0 e).1;
      none = both_true fits (le-leb 0 (capacity size) (omega arith));
    }

-- ---- a state and the line that `set_course` left, as a guide's own calls make them
pub record Sane (C : ℕ) (s : State) (l : List Crumb) : Type 0 where
  pub lined : Lined (placed_of l s)
  pub kept : Kept C (length (placed_of l s)) s

module _ (C : ℕ) (t : State) (l : List Crumb) where
  -- what is placed is p
  sane-as : (p : List Crumb) → placed_of l t ≡ p → Lined p → Kept C (length p) t → Sane C t l
  sane-as p e h k = record { lined = subst Lined (sym e) h; kept = subst (λ q. Kept C (length q) t) (sym e) k }

  -- how much of the line is placed stays
  same_line : (s : State) → Sane C s l → Kept C (length (placed_of l s)) t → Sane C t l
  same_line s h k = sane-as (placed_of l s) (ap (λ n. take n l) (k.course.len ∙ sym h.kept.course.len)) h.lined k

  -- nothing is placed
  no_line : Kept C 0 t → Sane C t l
  no_line k = sane-as [] (ap (λ n. take n l) k.course.len) (record { laid = tt; few = omega arith }) k

  -- all of it is
  whole-line : Lined l → Kept C (length l) t → Sane C t l
  whole-line h k = sane-as l (ap (λ n. take n l) k.course.len ∙ take-length l) h k

-- ---- a line that was lent
-- as before, with no more of it placed
lent_again : (l : List Crumb) (s t : State) (b after : List Float) → t.course.line_len ≤ s.course.line_len
    → Lendable l s 0 b → after ≡ b → Lendable l t 0 after
lent_again l s t b after fewer lent e =
    let n = t.course.line_len in
    let m = s.course.line_len in
    let front : crumbs n b ≡ take n l = sym (take-crumbs n m b fewer) ∙ (ap (λ k. take n k) lent.placed ∙ take-take n m l fewer) in
    subst (λ y. Lendable l t 0 y) (sym e) (record { passes = lent.passes; room = omega (arith, lent.room); placed = front })

-- with the whole line l in front
lent-whole : (l : List Crumb) (t : State) (after : List Float) → t.course.line_len ≡ length l → question4 (length after) 0 ≡ true
    → length l ≤ capacity (length after) → crumbs (length l) after ≡ l → Lendable l t 0 after
lent-whole l t after e q r p =
    record { passes = q; room = rw e r; placed = ap (λ n. crumbs n after) e ∙ (p ∙ sym (ap (λ n. take n l) e ∙ take-length l)) }

module _ (size : ℕ) (passes : question1 size ≡ true) where
  least : 3 ≤ capacity size
  least = (room_of size passes).least

  most-room : capacity size ≤ most
  most-room = (room_of size passes).most-room

  -- ---- the questions
  module _ {s : State} {l : List Crumb} (h : Sane (capacity size) s l) where
    state-asked : asks_state s ≡ 0
    unfolding asks_state
    state-asked = says-yes 10 (state-fits s h.kept)

    held : (state_fits s && held_fits (capacity size) s) ≡ true
    held = both_true (state-fits s h.kept) (held_fits_lem s h.kept most-room)

    crumbs-asked : asks_crumbs size s ≡ 0
    unfolding asks_crumbs
    crumbs-asked = or_else_none _ _ (says-yes 1 passes) (says-yes 10 held)

    -- lent a line
    module _ {n : ℕ} {b : List Float} (lent : Lendable l s n b) where
      line-fits : line_fits b s.course ≡ true
      unfolding line_fits
      line-fits =
          let fits : crumbs_fit (course_in b s) ≡ true =
          ap (λ k. crumbs_fit k) lent.placed ∙ laid-fits 0 (placed_of l s) (omega (arith, h.lined.few)) h.lined.laid in
          both_true (le-leb s.course.line_len (capacity (length b)) lent.room) fits

      line-asked : asks_line b n s ≡ 0
      unfolding asks_line
      line-asked = or_else_none _ _ (says-yes 10 (both_true (state-fits s h.kept) line-fits)) (says-yes 4 lent.passes)

    both-asked : {b : List Float} → Lendable l s 0 b → asks_both size b s ≡ 0
    unfolding asks_both
    both-asked lent =
        or_else_none _ _ (says-yes 1 passes) (or_else_none _ _ (says-yes 10 (both_true held (line-fits lent))) (says-yes 4 lent.passes))

    lent-asked : (loan : Loan) → LendsLine l s loan → asks_lent size loan s ≡ 0
    unfolding asks_lent
    lent-asked no_buffer w = state-asked
    lent-asked crumb_buffer w = crumbs-asked
    lent-asked (line_buffer b) w = line-asked w
    lent-asked (both_buffers b) w = both-asked w
    lent-asked (line_for_course b xs) w = line-asked w

    not-refused : (c : Call) → Lent l s c → InRange c → asks size c s ≡ 0
    unfolding asks
    not-refused (Ask {loan = loan} q) w g = lent-asked loan w
    not-refused Reset w g = state-asked
    not-refused EndReplay w g = state-asked
    not-refused (SetCourse b xs) w g = or_else_none _ _ (line-asked w) (fixes-asked xs g)
    not-refused (SetAutoFollow on) w g = crumbs-asked
    not-refused (Observe b x now) w g = or_else_none _ _ (both-asked w) (place-asked x g)
    not-refused (Replay x now) w g = or_else_none _ _ crumbs-asked (fix-asked x g.0)
    not-refused (SetFollowing b on now) w g = both-asked w

    -- ---- what is done then
    -- the state t, the line l' that is left, and what is left of a buffer that was lent
    record Turned (t : State) (l' : List Crumb) (left : List Float → List Float → Type 0) : Type 0 where
      sane-then : Sane (capacity size) t l'
      again : (b after : List Float) → Lendable l s 0 b → left b after → Lendable l' t 0 after

    -- by a call
    abbrev By : Call → State → Type 0
    By c t = Turned t (line_after l s c) (BufferAfter s (arguments c).loan)

    -- nothing is written to the line
    abbrev Unwritten : State → Type 0
    Unwritten t = Turned t l (λ b after. after ≡ b)

    unwritten : {t : State} → Sane (capacity size) t l → t.course.line_len ≤ s.course.line_len → Unwritten t
    unwritten {t = t} k fewer = record { sane-then = k; again = λ b after. lent_again l s t b after fewer }

    answered : Unwritten s
    answered = unwritten h (omega arith)

    -- a call that only answers is lent no line to write to
    asked : (loan : Loan) → Query loan → Turned s (line_left l s loan) (BufferAfter s loan)
    asked no_buffer q = answered
    asked crumb_buffer q = answered
    asked (line_buffer b) q = answered
    asked (both_buffers b) q = answered
    asked (line_for_course b xs) q = elim q [ ]

    stays : {t : State} → Kept (capacity size) (length (placed_of l s)) t → Unwritten t
    stays {t = t} k = unwritten (same_line (capacity size) t l s h k) (omega (arith, k.course.len, h.kept.course.len))

    emptied : {t : State} → Kept (capacity size) 0 t → Unwritten t
    emptied {t = t} k = unwritten (no_line (capacity size) t l k) (omega (arith, k.course.len))

    course-set : (b : List Float) (xs : List Fix) → Lendable l s (length xs) b → FixesOnGlobe xs
        → By (SetCourse b xs) (set_course xs s).state
    course-set b xs w g =
        let r = roomy (length b) (length xs) w.passes in
        let short : length xs ≤ most = omega (arith, r.short, r.room) in
        let few = line-few s.frame xs short h.kept.frame g in
        let k = set-course-kept (capacity size) least most-room _ xs s h.kept in
        record {
          sane-then = whole-line (capacity size) _ _ (line-lined s.frame xs short h.kept.frame g) k;
          again =
              λ was after lent left.
              lent-whole _ _ after k.course.len (rw left.0 r.none) (rw left.0 (omega (arith, few, r.room))) left.1;
        }

    performed : (c : Call) → Lent l s c → InRange c → By c (performs (capacity size) c s).state
    unfolding performs
    performed (Ask {loan = loan} q) w g = asked loan q
    performed Reset w g = emptied (reset-kept (capacity size) _ s h.kept)
    performed EndReplay w g = stays (end-replay-kept (capacity size) least most-room _ s h.kept)
    performed (SetCourse b xs) w g = course-set b xs w g
    performed (SetAutoFollow on) w g = stays (auto-follow-kept (capacity size) least most-room _ on s h.kept)
    performed (Observe b x now) w g =
        rw w.placed (stays (observe-kept (capacity size) least most-room (placed_of l s) h.lined x now s h.kept g))
    performed (Replay x now) w g = stays (replay-kept (capacity size) least most-room _ x now s h.kept g.0)
    performed (SetFollowing b on now) w g =
        rw w.placed (stays (following-kept (capacity size) least most-room (placed_of l s) h.lined on now s h.kept))

    turned : (c : Call) → Lent l s c → InRange c → By c (after_call size c s).state
    unfolding after_call
    turned c w g =
        either (λ (d : Done (Unit {0})). By c d.state) (eqb (asks size c s) 0) (λ e. performed c w g)
        (λ e. absurd (eqb-false (asks size c s) 0 e (not-refused c w g)))

    left-as-it-was : (c : Call) → asks size c s ≢ 0 → Sane (capacity size) (after_call size c s).state l
    unfolding after_call
    left-as-it-was c ne =
        either (λ (d : Done (Unit {0})). Sane (capacity size) d.state l) (eqb (asks size c s) 0)
        (λ e. absurd (ne (eqb-true (asks size c s) 0 e))) (λ e. h)

  -- ---- every state that a guide's own calls make
  sane : {s : State} {l : List Crumb} → Own size s l → Sane (capacity size) s l
  sane start = no_line (capacity size) new [] (new-kept (capacity size))
  sane (called own c w g) = (turned (sane own) c w g).sane-then
  sane (refused own c ne) = left-as-it-was (sane own) c ne

pub taken : EveryTaken
taken size passes s l own c w g = not-refused size passes (sane size passes own) c w g

pub any-line-at-first : AnyLineAtFirst
unfolding new crumbs
any-line-at-first b q = record { passes = q; room = omega arith; placed = refl }

pub every-line-again : EveryLineAgain
every-line-again size passes s l own c w g b after lent left = (turned size passes (sane size passes own) c w g).again b after lent left
