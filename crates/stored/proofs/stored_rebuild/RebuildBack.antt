-- A rebuild that was stored is read back, field by field. Assumes nothing.
use Rattle.std.specs.Prelude.{ℕ, Some}
use mathlib.Core.Path.{◌≡◌, refl, ap, ◌∙◌}
use mathlib.Core.Bool.{true, cond}
use mathlib.Core.List.{List, ◌++◌}
use native.Mathlib.Omega.{arith}
use lib.Dec.{leb, eqb}
use Rattle.std.specs.Bool.{then_some}
use Rattle.rebuild.specs.declared.Stage.{Stage}
use Rattle.rebuild.specs.declared.Stage.TheVariants as stage
use Rattle.rebuild.specs.declared.Rebuild.{Rebuild}
use Rattle.stored.specs.Fields.{most32, within}
use Rattle.stored.specs.Rebuilt.{rebuild_mosts, utc_read, stage_read, rebuild_at, holds_rebuild, stored_rebuild, pending_flag}
use Rattle.stored.specs.Rebuilt.{pending_in, rebuild_words, RebuildReadBack}
use Rattle.stored.proofs.fields.Limits.{within_more, within-at}
use Rattle.stored.proofs.fields.Same.{narrow-same, some-same}

pending-same : (s : Stage) → cond (eqb (pending_flag s) 1) (stage.Pending (pending_in s)) stage.Decided ≡ s
pending-same (stage.Pending t) = refl
pending-same stage.Decided = refl

module _ (r : Rebuild) (fits : within rebuild_mosts (rebuild_words r) ≡ true) (ws : List ℕ) where
  recovered-fits : leb r.recovered most32 ≡ true
  unfolding rebuild_words
  recovered-fits = within-at rebuild_mosts (rebuild_words r) fits 1 (omega arith)

  rebuild-back : rebuild_at (rebuild_words r ++ ws) ≡ r
  unfolding rebuild_at stage_read utc_read rebuild_words
  rebuild-back = λ i. record {
    recovered = narrow-same most32 r.recovered recovered-fits i;
    walk = r.walk;
    stage = (ap (λ t. cond (eqb (pending_flag r.stage) 1) (stage.Pending t) stage.Decided) (some-same (pending_in r.stage) 0)
        ∙ pending-same r.stage) i;
    clock_ms = r.clock_ms;
  }

  holds-rebuild : holds_rebuild (rebuild_words r ++ ws) ≡ true
  unfolding holds_rebuild rebuild_words
  holds-rebuild = within_more rebuild_mosts (rebuild_words r) ws fits

pub rebuild-read-back : RebuildReadBack
unfolding stored_rebuild
rebuild-read-back r fits ws =
    ap (λ b. then_some b (rebuild_at (rebuild_words r ++ ws))) (holds-rebuild r fits ws) ∙ ap Some (rebuild-back r fits ws)
