-- `thin::strays` meets its contract.
use mathlib.Core.Path.{refl}
use Rattle.thin.proofs.Bounding.{surely-in, surely-out, by-root}
use Rattle.thin.proofs.bounds.Bounds.strays.Goals as goal

pub returns-then-s-self : goal.returns-then-s-self
returns-then-s-self c = surely-in _ _ _ c.off_square-s.ensures _ c.args.self.under c.if-s-self.true

pub returns-then-self-s : goal.returns-then-self-s
returns-then-self-s c = surely-out _ _ _ c.off_square-s.ensures _ c.args.self.over c.if-self-s.true

pub returns : goal.returns
returns c = by-root _ _ _ c.off_square-s.ensures _ c.sqrtf.ensures refl
