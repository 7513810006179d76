-- Whether a state is held, and what loading gives. Assumes nothing.
use Prim.Native.Nat.{ℕ, ◌≤◌, ◌<◌}
use mathlib.Core.Path.{◌≡◌, ap, ◌∙◌}
use mathlib.Core.Bool.{true, ◌&&◌, and-eq-true_iff, and-true, and-false}
use mathlib.Core.List.{List}
use native.Mathlib.Omega.{arith}
use borrow.Author.Tests.{leb-true, le-leb, lt-leb}
use lib.Dec.{leb, eqb}
use lib.ListN.{length, take, drop}
use lib.Ieee.{Float}
use Rattle.std.specs.Prelude.{None}
use Rattle.std.specs.Array.{IsFirstChunk}
use Rattle.std.specs.Bool.{then_some}
use Rattle.std.proofs.lemmas.List.{drop-take, take-take}
use Rattle.stored.specs.Fields.{within, word_at, signed_at, spot_at, heading_at, place_read}
use Rattle.stored.specs.Stored.{mark, mosts, holds, homing_at, stored, HasRoom}
use Rattle.stored.specs.Parts.{word_count, number_count, window_at, trail_at, frame_at, motion_at, follow_at, course_at, lap_at}
use Rattle.stored.specs.Parts.{guide_read, shown_at}
use Rattle.stored.proofs.fields.Limits.{within-room, within-short, within-front, front_at}
use Rattle.stored.proofs.fields.Same.{then-held}
pub use Rattle.stored.proofs.stored_rebuild.Holding.{rebuild-has-room}

pub few-words : (w : List ℕ) (n : List Float) → length w < word_count → None ≡ stored w n
unfolding stored holds mosts
few-words w n h = simp (within-short mosts w h, and-false)

pub few-numbers : (w : List ℕ) (n : List Float) → length n < number_count → None ≡ stored w n
unfolding stored holds
few-numbers w n h = simp (lt-leb _ _ h, and-false)

holds-front : (w : List ℕ) (n : List Float) → number_count ≤ length n
    → (eqb (word_at (take word_count w) 0) mark && within mosts (take word_count w)) ≡ holds w n
unfolding holds mosts
holds-front w n h = simp (front_at, within-front mosts w, le-leb _ _ h, and-true)

window-front : (n : List Float) → take 96 (drop window_at (take number_count n)) ≡ take 96 (drop window_at n)
window-front n = ap (take 96) (drop-take window_at 96 n) ∙ take-take 96 96 (drop window_at n) (omega arith)

homing-front : (w : List ℕ) (n : List Float) → homing_at (take word_count w) (take number_count n) ≡ homing_at w n
unfolding homing_at trail_at frame_at motion_at follow_at course_at lap_at shown_at guide_read spot_at heading_at place_read signed_at
homing-front w n = simp (front_at, window-front n)

-- what is read in front is what is stored
pub stored-front : {w v : List ℕ} {n m : List Float} → IsFirstChunk w v word_count → IsFirstChunk n m number_count
    → then_some (eqb (word_at v 0) mark && within mosts v) (homing_at v m) ≡ stored w n
unfolding stored
stored-front {w} {n = n} p q = simp (p.same, q.same, holds-front w n q.enough, homing-front w n)

pub loads-room : (w : List ℕ) (n : List Float) → holds w n ≡ true → (word_count ≤ length w) × (number_count ≤ length n)
unfolding holds mosts
loads-room w n h =
    let rest = ((and-eq-true_iff (eqb (word_at w 0) mark) (within mosts w && leb number_count (length n))).0 h).1 in
    let two = (and-eq-true_iff (within mosts w) (leb number_count (length n))).0 rest in
    (within-room mosts w two.0, leb-true number_count (length n) two.1)

pub has_room : HasRoom
unfolding stored
has_room w n h e = loads-room w n (then-held (holds w n) (homing_at w n) h e)
