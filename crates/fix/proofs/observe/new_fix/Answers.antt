-- `fix::observe::new_fix` meets its contract.
use mathlib.Core.Path.{refl}
use native.Mathlib.Omega.{arith}
use lib.ListN.{length}
use Rattle.crumbs.specs.Crumb.{capacity}
use Rattle.calls.specs.Fix.{fix_on, new_fix}
use Rattle.fix.proofs.recording.Moving.{updates-after}
use Rattle.fix.proofs.observe.Seeing.{arrives, arrived-ready, new-fix}
use Rattle.fix.proofs.observe.new_fix.Goals as goal

pub fix_on-requires : goal.fix_on-requires
fix_on-requires c =
    let g = c.args in
    arrived-ready g.fix g.now_ms
    (arrives g.fix g.now_ms c.located-h.ensures c.framed-p.ensures c.track_heading-h.ensures (λ b. refl) refl refl) c.requires

pub returns : goal.returns
returns c =
    let g = c.args in
    let h = g.h.now in
    let b = g.crumbs.now in
    let l = g.course.now in
    let C = capacity (length b) in
    let ef = c.located-h.ensures in
    let there = arrives g.fix g.now_ms ef c.framed-p.ensures c.track_heading-h.ensures (λ b. refl) refl refl in
    updates-after (λ C. new_fix C l g.fix g.now_ms) (λ C. fix_on h.follow.line C l c.framed-p.result g.now_ms) (omega arith)
    (new-fix g.fix g.now_ms there c.framed-p.ensures ef l b C) c.fix_on.ensures
