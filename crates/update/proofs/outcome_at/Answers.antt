-- `update::outcome_at` meets its contract.
use mathlib.Core.Path.{sym, ◌∙◌}
use Rattle.update.specs.View.{comes_to}
use Rattle.update.proofs.Deciding.{follows_on, goes-straight, begun-followed, leads-here, two-of}
use Rattle.update.proofs.outcome_at.Goals as goal

pub follow_on-requires : goal.follow_on-requires
follow_on-requires c =
    let leads = two-of _ _ (sym c.leads_on.ensures ∙ c.if-leads_on.true) in
    (leads.0, c.requires leads.1)

pub returns-then-leads_on : goal.returns-then-leads_on
returns-then-leads_on c =
    let p = c.args.p in
    let leads = sym c.leads_on.ensures ∙ c.if-leads_on.true in
    let on = c.follow_on.ensures in
    record {
      does = λ course s i C now. follows_on C now course p s (leads-here i p now leads) ∙ (on course _ (begun-followed i p now)).0 C now;
      matched = λ course s i. (on course s i).1;
    }

pub returns : goal.returns
unfolding comes_to
returns c =
    let p = c.args.p in
    let leads = sym c.leads_on.ensures ∙ c.if-leads_on.false in
    record { does = λ course s i C now. goes-straight C now course p s (leads-here i p now leads); matched = λ course s i. tt }
