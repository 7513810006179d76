-- `fix::observe::seen` meets its contract.
use lib.Ieee.{Float}
use Rattle.state.specs.declared.Homing.{Homing}
use mathlib.Core.Path.{◌≡◌, refl, sym, ap, ◌∙◌, subst}
use Prim.Native.Nat.{ℕ}
use native.Mathlib.Omega.{arith}
use mathlib.Core.List.{List}
use lib.ListN.{length}
use Rattle.crumbs.specs.declared.Crumb.{Crumb}
use Rattle.crumbs.specs.Crumb.{capacity, crumbs}
use Rattle.crumbs.proofs.Crumbs.{length-crumbs}
use Rattle.state.specs.State.{state_of}
use Rattle.calls.specs.Fix.{still_at, new_fix, seen}
use Rattle.fix.specs.Ready.{Ready}
use Rattle.fix.proofs.recording.Moving.{updates-after, ready-same}
use Rattle.fix.proofs.observe.Seeing.{seen-again, seen-new}
use Rattle.fix.proofs.observe.seen.Goals as goal

-- the course is as long as the state says
long : (n : ℕ) (line : List Float) {course : List Crumb} → course ≡ crumbs n line → n ≡ length course
long n line e = sym (ap (λ (l : List Crumb). length l) e ∙ length-crumbs n line)

-- what the questions give, said of the course
given : {h : Homing} {room : ℕ} (line : List Float) {course : List Crumb} → course ≡ crumbs h.course.line_len line
    → Ready h room h.course.line_len → Ready h room (length course)
given {h} {room} line e q = subst (λ (k : ℕ). Ready h room k) (long h.course.line_len line e) q

pub still_at-requires : goal.still_at-requires
still_at-requires c = (ready-same (given c.args.line.now c.new-course.ensures c.requires.0) refl refl).fit

pub new_fix-requires : goal.new_fix-requires
new_fix-requires c = ready-same (given c.args.line.now c.new-course.ensures c.requires.0) refl refl

pub returns-then-same_fix : goal.returns-then-same_fix
returns-then-same_fix c =
    let g = c.args in
    let h = g.h.now in
    let b = g.crumbs.now in
    let x = g.fix in
    let l = crumbs h.course.line_len g.line.now in
    updates-after (λ C. seen C l x g.now_ms) (λ C. still_at h.here C l g.now_ms) (omega arith)
    (seen-again (capacity (length b)) l x g.now_ms (state_of h b) (sym c.same_fix.ensures ∙ c.if-same_fix.true))
    (rw c.new-course.ensures at c.still_at.ensures)

pub returns : goal.returns
returns c =
    let g = c.args in
    let h = g.h.now in
    let b = g.crumbs.now in
    let x = g.fix in
    let l = crumbs h.course.line_len g.line.now in
    updates-after (λ C. seen C l x g.now_ms) (λ C. new_fix C l x g.now_ms) (omega arith)
    (seen-new (capacity (length b)) l x g.now_ms (state_of h b) (sym c.same_fix.ensures ∙ c.if-same_fix.false))
    (rw c.new-course.ensures at c.new_fix.ensures)
