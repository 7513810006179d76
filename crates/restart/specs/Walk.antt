-- For the functions inside: where a walk over a file's slots is.
use Rattle.std.specs.Prelude.{ℕ}
use Rattle.rebuild.specs.declared.Rebuild.{Rebuild}
use Rattle.rebuild.specs.Rebuild.{with_walk}

-- the next slot is k
abbrev pub with_slot : ℕ → Rebuild → Rebuild
with_slot k r = with_walk (record { slot = k }) r
