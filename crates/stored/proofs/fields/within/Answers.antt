-- `stored::fields::within` meets its contract.
use Rattle.std.proofs.Common.{ℕ, leb, ◌∙◌, rules}
use native.Mathlib.Omega.{arith}
use Rattle.std.proofs.lemmas.Iterator.{YieldsList-from_slice, YieldsList-from_zip}
use Rattle.std.proofs.lemmas.Iterator.Search.{all_from_yields_List}
use Rattle.stored.proofs.fields.Limits.{within-all}
use Rattle.stored.proofs.fields.within.Goals as goal

pub returns : goal.returns
returns g c =
    all_from_yields_List (λ (p : ℕ × ℕ). leb p.1 p.0) c.all.new.self _ _ c.all.ensures.ran
    (YieldsList-from_zip {s = c.zip.result} (YieldsList-from_slice c.args.most.now cc) (YieldsList-from_slice c.args.words.now cc))
    (λ x b q k. search rules)
    ∙ within-all _ _ (omega arith)
