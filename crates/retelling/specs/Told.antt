-- For the functions inside: what is told of a chain, in the functions' own values.
use Rattle.std.specs.Prelude.{ℕ, ◌≤◌, ◌≡◌, List, Float, Result, Ok, Err, IfOk}
use Rattle.refusal.specs.declared.Refusal.{Refusal}
use Rattle.refusal.specs.Refusal.{number}
use Rattle.crumbs.specs.Crumb.{crumbs}
use Rattle.rebuild.specs.Rebuild.{is_decided}
use Rattle.retelling.specs.declared.Rebuilt.{Rebuilt}
use Rattle.retelling.specs.Text.{rebuilt_text, refused_text}
use Rattle.retelling.specs.Retold.{retold}

-- the rebuild and the crumbs held after it in the crumb buffer b, or "only `refused N`"
unfoldable pub told : Result Rebuilt Refusal → List Float → List ℕ
told (Ok x) b = rebuilt_text (crumbs x.len b) x.rebuild.clock_ms (is_decided x.rebuild.stage)
told (Err q) b = refused_text (number q)

-- A new guide's step of the whole chain of the file gave `chain`, and left the crumb buffer b.
pub record Rebuilds (file : List ℕ) (chain : Result Rebuilt Refusal) (b : List Float) : Type 0 where
  pub tells : told chain b ≡ retold file
  pub held : IfOk chain (λ x. x.len ≤ 512)
