-- `questions::globe::asks_fixes` meets its contract: none of those passed says no.
use Rattle.std.proofs.Common.{rules, SFits, w32, ◌≡◌, ◌∙◌}
use Rattle.std.proofs.lemmas.Slice.Zip.{either_empty_from_Zip}
use Rattle.refusal.specs.Refusal.{asked}
use Rattle.refusal.specs.Refusal.{number}
use Rattle.std.specs.Slice.Iter.{iter_rest}
use Rattle.std.specs.Iterator.Adapters.{zip_first, zip_second}
use Rattle.questions.proofs.globe.Fixes.{fix-handed, asking-no, asking-next, asking-end}
use Rattle.questions.proofs.globe.asks_fixes.Goals as goal

pub loop-lat-init : goal.loop-lat-init
loop-lat-init c = record { rest = search rules }

pub loop-lat-preserved : goal.loop-lat-preserved
loop-lat-preserved c =
    let x : SFits w32 c.in-Some.field-0-0.now = search rules in
    let y : SFits w32 c.in-Some.field-0-1.now = search rules in
    asking-next c.loop-lat.invariant (search rules) (search rules) (fix-handed _ _ x y c.in_ok-asks_fix.ensures)

pub returns-in_err-asks_fix : goal.returns-in_err-asks_fix
returns-in_err-asks_fix c =
    let x : SFits w32 c.in-Some.field-0-0.now = search rules in
    let y : SFits w32 c.in-Some.field-0-1.now = search rules in
    let no : asked c.from_residual.result ≡ number c.in_err-asks_fix.field-0.0 = search rules in
    asking-no {xs' = iter_rest (zip_first c.next.new.self)} {ys' = iter_rest (zip_second c.next.new.self)} c.loop-lat.invariant
    (search rules) (search rules) (no ∙ fix-handed _ _ x y c.in_err-asks_fix.ensures) (search rules)

pub returns : goal.returns
returns c = asking-end c.loop-lat.invariant
    (either_empty_from_Zip c.loop-lat.lat-iterator c.next.new.self c.next.result c.in-None.is c.next.ensures.steps)
