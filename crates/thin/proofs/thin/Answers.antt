-- `thin::thin` answers and leaves what the rule says.
use mathlib.Core.Path.{◌≡◌, sym, ap, ◌∙◌}
use mathlib.Core.Bool.{true}
use Rattle.std.proofs.Common.{rules, ◌≢◌}
use Rattle.std.proofs.lemmas.Result.{err_from_is_err_and}
use Rattle.refusal.specs.Refusal.{number}
use native.Mathlib.Omega.{arith}
use lib.Ieee.{of_bits}
use Rattle.binary32.specs.Arithmetic.{constant}
use Rattle.thin.specs.Crumb.{doubled, target}
use Rattle.thin.proofs.Thinning.{going_start, room, still-size, not_last, going_on, thin-done, thin-refused}
use Rattle.thin.proofs.thin.Goals as goal

pub returns-in_err-unless : goal.returns-in_err-unless
returns-in_err-unless c =
    let p = err_from_is_err_and c.from_residual.result c.from_residual.ensures.1 in
    let ne : number c.in_err-unless.field-0.0 ≢ 0 = search rules in
    rw (p.1, p.2) (thin-refused c.may_thin.result c.in_err-unless.field-0.0 c.may_thin.ensures c.in_err-unless.ensures ne)

pub overflow_mul-target : goal.overflow_mul-target
overflow_mul-target c = omega arith

pub loop-kept-init : goal.loop-kept-init
loop-kept-init c =
    let ok : c.may_thin.result ≡ true = search rules in
    going_start (sym c.may_thin.ensures ∙ ok) (ap target c.capacity.ensures)

pub pass-kept-requires : goal.pass-kept-requires
pass-kept-requires c = room c.loop-kept.invariant

pub shape_of-buf-then-kept-target : goal.shape_of-buf-then-kept-target
shape_of-buf-then-kept-target c = still-size c.loop-kept.invariant c.pass-kept.ensures

pub returns-then-kept-target : goal.returns-then-kept-target
returns-then-kept-target c = thin-done c.loop-kept.invariant c.pass-kept.ensures c.if-kept-target.true

pub overflow_add-passes : goal.overflow_add-passes
overflow_add-passes c = omega (arith, c.loop-kept.invariant)

pub loop-kept-smaller : goal.loop-kept-smaller
loop-kept-smaller c =
    let early = not_last c.loop-kept.invariant c.pass-kept.ensures c.if-kept-target.false in
    omega arith

pub loop-kept-preserved : goal.loop-kept-preserved
unfolding doubled constant of_bits
loop-kept-preserved c = going_on c.loop-kept.invariant c.pass-kept.ensures c.if-kept-target.false
