-- Bytes written one behind the other. Assumes nothing.
use Prim.Native.Nat.{ℕ, zero, suc, ◌+◌, ◌-◌, ◌≤◌, ◌<◌}
use mathlib.Core.Path.{◌≡◌, refl, sym, ap, ◌∙◌}
use mathlib.Core.List.{List, [], ◌∷◌, ◌++◌, append_assoc, append-nil}
use native.Mathlib.Omega.{arith}
use native.Mathlib.Nat.{le_refl, le_trans}
use native.Mathlib.Numerals.{add-one}
use lib.ListN.{length, take, drop, set, get_or, length-set, length-take, length-append}
use lib.Seq.{take_all, take-append_seam, take-suc, take-suc-set, drop-set-lt, drop-drop}
use Rattle.retelling.specs.Writing.{Writes, Puts}
use Rattle.retelling.specs.declared.lines.Writer.{Writer}

-- what is cut off is not missed where it would be cut off again
take-cut : (n : ℕ) (s t : List ℕ) → take n (take n s ++ t) ≡ take n (s ++ t)
take-cut zero s t = refl
take-cut (suc n) [] t = refl
take-cut (suc n) (x ∷ s) t = ap (λ (l : List ℕ). x ∷ l) (take-cut n s t)

take-front : (at : ℕ) (e : List ℕ) → take (length e) (take at e) ≡ take at e
take-front at e = take_all (length e) (take at e) (simp length-take (omega arith))

drop_more : (x r : ℕ) (a b : List ℕ) → x ≤ r → drop x a ≡ drop x b → drop r a ≡ drop r b
drop_more x r a b h e =
    let d : x + (r - x) ≡ r = omega arith in
    ap (λ (k : ℕ). drop k a) (sym d) ∙ sym (drop-drop (r - x) x a) ∙ ap (λ (l : List ℕ). drop (r - x) l) e ∙ drop-drop (r - x) x b
    ∙ ap (λ (k : ℕ). drop k b) d

pub writes-none : (e : List ℕ) (at : ℕ) → Writes [] e at e at
writes-none e at =
    record {
      text = sym (ap (λ (l : List ℕ). take (length e) l) (append-nil (take at e)) ∙ take-front at e);
      size = refl;
      on = le_refl at;
      inside = λ h. h;
      behind = refl;
    }

pub writes_byte : (e : List ℕ) (at b : ℕ) → at < length e → Writes (b ∷ []) e at (set e at b) (at + 1)
writes_byte e at b h =
    let fits : length (take at e ++ b ∷ []) ≤ length e = simp (length-append, length-take) (omega arith) in
    record {
      text = ap (λ (k : ℕ). take k (set e at b)) (add-one at) ∙ take-suc-set e at b h
          ∙ sym (take_all (length e) (take at e ++ b ∷ []) fits);
      size = length-set e at b;
      on = omega arith;
      inside = λ _. omega arith;
      behind = drop-set-lt (at + 1) e at b (omega arith);
    }

-- no room is left
pub writes_full : (l e : List ℕ) (at : ℕ) → length e ≤ at → Writes l e at e at
writes_full l e at h =
    record {
      text = take_all at e h ∙ sym (ap (λ (s : List ℕ). take (length e) (s ++ l)) (take_all at e h) ∙ take-append_seam e l);
      size = refl;
      on = le_refl at;
      inside = λ i. i;
      behind = refl;
    }

module _ {a b e m f : List ℕ} {at x r : ℕ} (w : Writes a e at m x) (v : Writes b m x f r) where
  pub writes_then : Writes (a ++ b) e at f r
  writes_then =
      record {
        text =
            v.text
            ∙ ap (λ (n : ℕ). take n (take x m ++ b)) w.size
            ∙ ap (λ (s : List ℕ). take (length e) (s ++ b)) w.text
            ∙ take-cut (length e) (take at e ++ a) b
            ∙ ap (λ (s : List ℕ). take (length e) s) (append_assoc (take at e) a b);
        size = v.size ∙ w.size;
        on = le_trans w.on v.on;
        inside = λ h. let i : x ≤ length m = omega (arith, w.inside h, w.size) in omega (arith, v.inside i, w.size);
        behind = v.behind ∙ drop_more x r m e v.on w.behind;
      }

-- ---- a writer
pub puts-none : (t : Writer) → Puts [] t t
puts-none t = record { writes = writes-none t.text.now t.at; same = refl }

pub puts_byte : {t u : Writer} {b : ℕ} → t.at < length t.text.now → u.text.now ≡ set t.text.now t.at b → u.at ≡ t.at + 1
    → u.text.ghost_name ≡ t.text.ghost_name → Puts (b ∷ []) t u
puts_byte {t = t} {b = b} h put on same = record { writes = rw (put, on) (writes_byte t.text.now t.at b h); same = same }

pub puts-full : (l : List ℕ) (t : Writer) → length t.text.now ≤ t.at → Puts l t t
puts-full l t h = record { writes = writes_full l t.text.now t.at h; same = refl }

pub puts_then : {a b : List ℕ} {t m u : Writer} → Puts a t m → Puts b m u → Puts (a ++ b) t u
puts_then w v = record { writes = writes_then w.writes v.writes; same = v.same ∙ w.same }

-- a word's next byte behind those before it
pub puts-next : (word : List ℕ) (i : ℕ) {t m u : Writer} {b : ℕ} → Puts (take i word) t m → i < length word → b ≡ get_or word i 0
    → Puts (b ∷ []) m u → Puts (take (i + 1) word) t u
puts-next word i w h e v = rw (add-one i, take-suc word i 0 h, ← e) (puts_then w v)

-- the whole word, once its last byte is passed
pub puts-whole : (word : List ℕ) (i : ℕ) {t u : Writer} → length word ≤ i → Puts (take i word) t u → Puts word t u
puts-whole word i h w = rw (take_all i word h) at w
