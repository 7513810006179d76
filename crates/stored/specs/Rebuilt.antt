-- Which rebuild a slice of words holds.
--
-- | words | field |
-- |--:|---|
-- | 0 | the mark |
-- | 1, 2 | recovered, walk: slot |
-- | 3 to 5 | stage: whether it is pending, and the time (two) that it then has |
-- | 6 | clock_ms |
use Rattle.std.specs.Prelude.{ℕ, ◌+◌, ◌≤◌, ◌≡◌, Bool, true, ◌&&◌, cond, List, [], ◌∷◌, ◌++◌, eqb, length, drop, Option, Some, None}
use Rattle.std.specs.Bool.{then_some}
use Rattle.std.specs.Option.{unwrap_or}
use Rattle.rebuild.specs.declared.Stage.{Stage}
use Rattle.rebuild.specs.declared.Stage.TheVariants as stage
use Rattle.rebuild.specs.declared.Rebuild.{Rebuild}
use Rattle.stored.specs.Fields.{most64, most32, within, word_at, narrow_at, flag_at, some_flag}

-- the letters CITTUMAR
abbrev pub rebuild_mark : ℕ
rebuild_mark = 4848499195026162002

abbrev pub rebuild_count : ℕ
rebuild_count = 7

abbrev pub rebuild_mosts : List ℕ
rebuild_mosts = rebuild_mark ∷ most32 ∷ most64 ∷ 1 ∷ 1 ∷ most64 ∷ most64 ∷ []

-- ---- read
unfoldable pub utc_read : List ℕ → ℕ → Option ℕ
utc_read w i = then_some (flag_at w i) (word_at w (i + 1))

unfoldable pub stage_read : List ℕ → Stage
stage_read w = cond (flag_at w 3) (stage.Pending (utc_read w 4)) stage.Decided

unfoldable pub rebuild_at : List ℕ → Rebuild
rebuild_at w =
    record { recovered = narrow_at most32 w 1; walk = record { slot = word_at w 2 }; stage = stage_read w; clock_ms = word_at w 6 }

unfoldable pub holds_rebuild : List ℕ → Bool
holds_rebuild w = eqb (word_at w 0) rebuild_mark && within rebuild_mosts w

unfoldable pub stored_rebuild : List ℕ → Option Rebuild
stored_rebuild w = then_some (holds_rebuild w) (rebuild_at w)

-- ---- written
abbrev pub pending_flag : Stage → ℕ
pending_flag (stage.Pending t) = 1
pending_flag stage.Decided = 0

abbrev pub pending_in : Stage → Option ℕ
pending_in (stage.Pending t) = t
pending_in stage.Decided = None

unfoldable pub rebuild_words : Rebuild → List ℕ
rebuild_words r =
    rebuild_mark
    ∷ r.recovered ∷ r.walk.slot
    ∷ pending_flag r.stage ∷ some_flag (pending_in r.stage) ∷ unwrap_or (pending_in r.stage) 0
    ∷ r.clock_ms
    ∷ []

-- ---- what is promised
-- Reading back what was stored gives the same rebuild, every field, where each fits its type, whatever lies behind.
abbrev pub RebuildReadBack : Type 0
RebuildReadBack = (r : Rebuild) → within rebuild_mosts (rebuild_words r) ≡ true → (ws : List ℕ)
    → stored_rebuild (rebuild_words r ++ ws) ≡ Some r

-- Words that hold a rebuild have the room for one.
abbrev pub RebuildHasRoom : Type 0
RebuildHasRoom = (w : List ℕ) (r : Rebuild) → stored_rebuild w ≡ Some r → rebuild_count ≤ length w

-- A rebuild r is stored: its words stand in front, and what lies behind them is as it was. Each field fits its type, on which reading back
-- rests.
pub record StoresRebuild (r : Rebuild) (w w' : List ℕ) : Type 0 where
  pub words : w' ≡ rebuild_words r ++ drop rebuild_count w
  pub fits : within rebuild_mosts (rebuild_words r) ≡ true

-- Words in which a rebuild is stored hold that rebuild, every field.
abbrev pub RebuildHoldsStored : Type 0
RebuildHoldsStored = (r : Rebuild) (w w' : List ℕ) → StoresRebuild r w w' → stored_rebuild w' ≡ Some r
