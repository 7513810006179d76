-- What storing writes, and that it is held then. Assumes nothing.
use borrow.Rule.Slice.PartMut.{put_mid}
use lib.Ieee.{Float}
use lib.ListN.{take, drop}
use lib.Seq.{drop-drop}
use mathlib.Core.List.{List, ◌++◌}
use mathlib.Core.Path.{◌≡◌, ap, ◌∙◌}
use Prim.Native.Nat.{ℕ}
use Rattle.state.specs.declared.Homing.{Homing}
use Rattle.stored.specs.Parts.{word_count, number_count}
use Rattle.stored.specs.Stored.{stored, words_of, head_of, numbers_of, HoldsStored}
use Rattle.stored.proofs.ReadBack.{read_back}
pub use Rattle.stored.proofs.stored_rebuild.Storing.{rebuild-holds-stored}

-- the words before the course's, then the others
pub words-front : (h : Homing) (w : List ℕ) {f b : List ℕ} → f ≡ take 22 (words_of h) → b ≡ drop 22 (words_of h)
    → put_mid 22 23 (f ++ drop 22 w) b ≡ words_of h ++ drop word_count w
unfolding words_of
words-front h w {f} {b} e g =
    ap (λ x. put_mid 22 23 (x ++ drop 22 w) b) e ∙ ap (put_mid 22 23 (take 22 (words_of h) ++ drop 22 w)) g
    ∙ ap (λ x. words_of h ++ x) (drop-drop 23 22 w)

-- the numbers before the window, then the window
pub numbers-front : (h : Homing) (n : List Float) {f b : List Float} → f ≡ head_of h → b ≡ h.window
    → put_mid 14 96 (f ++ drop 14 n) b ≡ numbers_of h ++ drop number_count n
unfolding numbers_of head_of
numbers-front h n {f} {b} e g =
    ap (λ x. put_mid 14 96 (x ++ drop 14 n) b) e ∙ ap (put_mid 14 96 (head_of h ++ drop 14 n)) g
    ∙ ap (λ x. numbers_of h ++ x) (drop-drop 96 14 n)

pub holds-stored : HoldsStored
holds-stored h w n w' n' s =
    ap (λ x. stored x n') s.words ∙ ap (stored (words_of h ++ drop word_count w)) s.numbers
    ∙ read_back h s.fits (drop word_count w) (drop number_count n)
