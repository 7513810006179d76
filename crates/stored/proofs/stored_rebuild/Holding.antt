-- Whether a rebuild is held, and what loading gives. Assumes nothing.
use Prim.Native.Nat.{ℕ, ◌≤◌, ◌<◌}
use mathlib.Core.Path.{◌≡◌}
use mathlib.Core.Bool.{true, and-eq-true_iff, and-false}
use mathlib.Core.List.{List}
use lib.Dec.{eqb}
use lib.ListN.{length, take}
use Rattle.std.specs.Array.{IsFirstChunk}
use Rattle.std.specs.Bool.{then_some}
use Rattle.std.specs.Prelude.{None}
use Rattle.stored.specs.Fields.{within, word_at}
use Rattle.stored.specs.Rebuilt.{rebuild_mark, rebuild_count, rebuild_mosts, holds_rebuild, rebuild_at, stage_read, utc_read}
use Rattle.stored.specs.Rebuilt.{stored_rebuild, RebuildHasRoom}
use Rattle.stored.proofs.fields.Limits.{within-room, within-short, within-front, front_at}
use Rattle.stored.proofs.fields.Same.{then-held}

pub few-rebuild : (w : List ℕ) → length w < rebuild_count → None ≡ stored_rebuild w
unfolding stored_rebuild holds_rebuild
few-rebuild w h = simp (within-short rebuild_mosts w h, and-false)

rebuild-front : (w : List ℕ) → rebuild_at (take rebuild_count w) ≡ rebuild_at w
unfolding rebuild_at stage_read utc_read
rebuild-front w = simp front_at

holds-front : (w : List ℕ) → holds_rebuild (take rebuild_count w) ≡ holds_rebuild w
unfolding holds_rebuild
holds-front w = simp (front_at, within-front rebuild_mosts w)

-- what is read in front is what is stored
pub stored-front : {w v : List ℕ} → IsFirstChunk w v rebuild_count → then_some (holds_rebuild v) (rebuild_at v) ≡ stored_rebuild w
unfolding stored_rebuild
stored-front {w} p = simp (p.same, holds-front w, rebuild-front w)

pub loads-room-rebuild : (w : List ℕ) → holds_rebuild w ≡ true → rebuild_count ≤ length w
unfolding holds_rebuild
loads-room-rebuild w h = within-room rebuild_mosts w ((and-eq-true_iff (eqb (word_at w 0) rebuild_mark) (within rebuild_mosts w)).0 h).1

pub rebuild-has-room : RebuildHasRoom
unfolding stored_rebuild
rebuild-has-room w r e = loads-room-rebuild w (then-held (holds_rebuild w) (rebuild_at w) r e)
