-- A guide as ten words: mode, following, course, course_near, direct_m, track_m, off_m, bearing, whether a heading is known, and the
-- heading, 0 where it is not. They are written as in a stored state (`guide_words`).
use Rattle.std.specs.Prelude.{ℕ, ◌≡◌, Bool, true, ◌&&◌, List, ◌++◌, leb, length, Option, Some}
use Rattle.std.specs.Bool.{then_some}
use Rattle.state.specs.declared.Guide.{Guide}
use Rattle.stored.specs.Fields.{most16, within, word_at}
use Rattle.stored.specs.Parts.{guide_mosts, guide_read, guide_words}
pub use Rattle.stored.specs.Parts.{guide_size}

-- ---- read
-- whether words are a guide: the mode has a case, a flag is 0 or 1, and a bearing and a heading have 16 bits
unfoldable pub are_guide : List ℕ → Bool
are_guide w =
    leb guide_size (length w)
    && leb (word_at w 0) 3
    && (leb (word_at w 1) 1 && leb (word_at w 2) 1 && leb (word_at w 3) 1 && leb (word_at w 8) 1)
    && (leb (word_at w 7) most16 && leb (word_at w 9) most16)

-- the guide that words are, if they are one; what lies behind the ten is not read
unfoldable pub guide_of : List ℕ → Option Guide
guide_of w = then_some (are_guide w) (guide_read w 0)

-- Reading back what was written gives the same guide, where each field fits its type, whatever lies behind.
abbrev pub GuideReadBack : Type 0
GuideReadBack = (g : Guide) → within guide_mosts (guide_words g) ≡ true → (ws : List ℕ) → guide_of (guide_words g ++ ws) ≡ Some g
