-- A guide's words, written and read. Assumes nothing.
use Prim.Native.Nat.{ℕ, suc, ◌≤◌, ◌<◌}
use native.Mathlib.Omega.{arith}
use mathlib.Core.Path.{◌≡◌, refl, sym, ap, ◌∙◌}
use mathlib.Core.Bool.{Bool, true, false, ◌&&◌, not, and-eq-true_iff}
use mathlib.Core.List.{List, ◌++◌}
use borrow.Author.Tests.{leb-true, le-leb, lt-leb, not-true, not-false}
use lib.Dec.{leb}
use lib.ListN.{length}
use Rattle.std.specs.Prelude.{Some, None}
use Rattle.state.specs.declared.Mode.{Mode}
use Rattle.state.specs.declared.Mode.TheVariants as mode
use Rattle.state.specs.declared.Guide.{Guide}
use Rattle.stored.specs.Fields.{most32, most16, word_at, flag_at, mode_of_tag, heading_at, mode_tag, flag_of}
use Rattle.std.specs.Bool.{then_some}
use Rattle.std.specs.Option.{unwrap_or}
use Rattle.stored.specs.Parts.{guide_mosts, guide_read, guide_words}
use Rattle.stored.proofs.ReadBack.{within-at, guide-same}
use Rattle.door.specs.GuideWords.{guide_size, are_guide, guide_of, GuideReadBack}

-- ---- read
module _ (w : List ℕ) where
  pub too_short : length w < guide_size → false ≡ are_guide w
  unfolding are_guide
  too_short short = simp (lt-leb guide_size (length w) short)

  pub tested : guide_size ≤ length w
      → ((leb (word_at w 0) 3 && (((leb (word_at w 1) 1 && leb (word_at w 2) 1) && leb (word_at w 3) 1) && leb (word_at w 8) 1))
      && (leb (word_at w 7) most16 && leb (word_at w 9) most16))
      ≡ are_guide w
  unfolding are_guide
  tested long = simp (le-leb guide_size (length w) long)

-- what words that are a guide allow
pub record Read (w : List ℕ) : Type 0 where
  pub long : guide_size ≤ length w
  pub bearing : word_at w 7 ≤ most16
  pub heading : word_at w 9 ≤ most16

pub are-read : (w : List ℕ) → are_guide w ≡ true → Read w
unfolding are_guide
are-read w e =
    let both = (and-eq-true_iff _ _).0 e in
    let angles = (and-eq-true_iff _ _).0 both.1 in
    record {
      long = leb-true guide_size (length w) ((and-eq-true_iff _ _).0 ((and-eq-true_iff _ _).0 both.0).0).0;
      bearing = leb-true (word_at w 7) most16 angles.0;
      heading = leb-true (word_at w 9) most16 angles.1;
    }

-- the guide that such words are, whose other words are of 32 bits
pub read_plain : (w : List ℕ) → Read w → word_at w 4 ≤ most32 → word_at w 5 ≤ most32 → word_at w 6 ≤ most32
    → record {
      mode = mode_of_tag (word_at w 0);
      following = flag_at w 1;
      course = flag_at w 2;
      course_near = flag_at w 3;
      direct_m = word_at w 4;
      track_m = word_at w 5;
      off_m = word_at w 6;
      bearing = word_at w 7;
      heading = then_some (flag_at w 8) (word_at w 9);
    } ≡ guide_read w 0
unfolding guide_read heading_at
read_plain w r a b c =
    simp (le-leb _ most32 a, le-leb _ most32 b, le-leb _ most32 c, le-leb _ most16 r.bearing, le-leb _ most16 r.heading)

pub guide-read : {b : Bool} (w : List ℕ) → b ≡ are_guide w → not b ≡ false → guide_of w ≡ Some (guide_read w 0)
unfolding guide_of
guide-read w told e = let yes : are_guide w ≡ true = sym told ∙ not-false _ e in simp yes

pub no-guide : {b : Bool} (w : List ℕ) → b ≡ are_guide w → not b ≡ true → guide_of w ≡ None
unfolding guide_of
no-guide w told e = let no : are_guide w ≡ false = sym told ∙ not-true _ e in simp no

-- ---- read back
mode-most : (m : Mode) → leb (mode_tag m) 3 ≡ true
mode-most mode.Direct = refl
mode-most mode.Track = refl
mode-most mode.OffTrack = refl
mode-most mode.Arrived = refl

flag-most : (b : Bool) → leb (flag_of b) 1 ≡ true
flag-most true = refl
flag-most false = refl

long-enough : (n : ℕ) → guide_size ≤ suc (suc (suc (suc (suc (suc (suc (suc (suc (suc n)))))))))
long-enough n = omega arith

are_words : (g : Guide) → leb g.bearing most16 ≡ true → leb (unwrap_or g.heading 0) most16 ≡ true → (ws : List ℕ)
    → are_guide (guide_words g ++ ws) ≡ true
unfolding are_guide
are_words g bearing way ws =
    let long : leb guide_size (length (guide_words g ++ ws)) ≡ true =
    le-leb guide_size (length (guide_words g ++ ws)) (long-enough (length ws)) in
    simp (long, mode-most, flag-most, bearing, way)

pub guide-read-back : GuideReadBack
unfolding guide_of
guide-read-back g fits ws =
    let at : (i : ℕ) → i < guide_size → leb (word_at (guide_words g) i) (word_at guide_mosts i) ≡ true =
    within-at guide_mosts (guide_words g) fits in
    let bearing : leb g.bearing most16 ≡ true = at 7 (omega arith) in
    let way : leb (unwrap_or g.heading 0) most16 ≡ true = at 9 (omega arith) in
    let yes = are_words g bearing way ws in
    ap (λ b. then_some b (guide_read (guide_words g ++ ws) 0)) yes
    ∙ ap Some (guide-same g ws (at 4 (omega arith)) (at 5 (omega arith)) (at 6 (omega arith)) bearing way)
