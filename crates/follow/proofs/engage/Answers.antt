-- `follow::engage` meets its contract.
use mathlib.Core.Path.{sym, ◌∙◌}
use Prim.Native.Nat.{◌≤◌}
use native.Mathlib.Omega.{arith}
use Rattle.follow.proofs.Engaging.{leads-some, engaged, refused}
use Rattle.follow.proofs.engage.Goals as goal

pub overflow_sub-len : goal.overflow_sub-len
overflow_sub-len c =
    let g = c.args in
    let n = g.h.now.trail.len in
    let h : 2 ≤ n = leads-some n g.crumbs.now (sym (rw c.new.ensures at c.leads.ensures) ∙ c.if-leads.true) in
    omega arith

pub returns-then-leads : goal.returns-then-leads
returns-then-leads c =
    let g = c.args in
    engaged g.course.now g.now_ms g.h.now g.crumbs.now c.engage_at.new.h
    (sym (rw c.new.ensures at c.leads.ensures) ∙ c.if-leads.true) c.engage_at.ensures

pub returns : goal.returns
returns c =
    let g = c.args in
    refused g.course.now g.now_ms g.h.now g.crumbs.now
    (sym (rw c.new.ensures at c.leads.ensures) ∙ c.if-leads.false)
