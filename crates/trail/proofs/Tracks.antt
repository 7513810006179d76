-- What each step of the recording does to a trail and its buffer, by the rules. Assumes nothing.
use Prim.Native.Nat.{ℕ, ◌+◌, ◌≤◌, ◌<◌, max}
use mathlib.Core.Path.{◌≡◌, refl, sym, ap, ap₂, ◌∙◌}
use mathlib.Core.Bool.{true, false}
use mathlib.Core.List.{List, [], ◌∷◌, ◌++◌}
use native.Mathlib.Omega.{arith}
use borrow.Author.Tests.{le-leb}
use lib.ListN.{length}
use lib.Ieee.{Float, of_int}
use Rattle.plane.specs.declared.Point.{Point}
use Rattle.crumbs.specs.Crumb.{capacity, crumbs, behind}
use Rattle.crumbs.specs.Inner.{put_at}
use Rattle.crumbs.proofs.Choices.{choice-length}
use Rattle.crumbs.proofs.Crumbs.{length-crumbs, crumbs-behind, behind-put, behind_more, length-put}
use Rattle.thin.specs.declared.Thinned.{Thinned}
use Rattle.std.specs.Prelude.{Result, Ok, Err}
use Rattle.refusal.specs.declared.Refusal.{Refusal}
use Rattle.thin.specs.Questions.{question9}
use Rattle.thin.specs.Promises.{thinned, ThinDone}
use Rattle.thin.proofs.Answers.{LeftIs, left_is, refused-is}
use Rattle.thin.proofs.Asked.{true-false}
use Rattle.trail.specs.declared.Trail.{Trail}
use Rattle.trail.specs.Notes.{thinned_in}
use Rattle.crumbs.specs.Along.{crumb_of, recorded_m, realong}
use Rattle.trail.specs.Trail.{window_places, Track, with_crumbs, with_window, Rule, ◌>>◌, still, thin, put, wait}
use Rattle.crumbs.specs.Inner.{Realongs}
use Rattle.trail.specs.View.{places, track, TrailFit}
use Rattle.trail.specs.Inner.{TrailFollows, Recorded, Records, TrailChanges}
use Rattle.trail.proofs.Window.{length-places, put_place, places-put}
use Rattle.trail.proofs.Rules.{thinned-then}
use Rattle.trail.proofs.Theorems.{Sound, thin-sound}

-- ---- a trail that fits, and its track
pub sound-of : {t : Trail} (w b : List Float) → TrailFit t (length b) → Sound (capacity (length b)) (track t w b)
unfolding track
sound-of w b f = record { held = rw length-crumbs f.held; waiting = rw length-places f.waiting; tolerance = f.tolerance }

-- a trail r in place of t, on a buffer of the same length
fit_of : {t : Trail} (r : Trail) (w b exit : List Float) → TrailFit t (length b) → length exit ≡ length b
    → Sound (capacity (length b)) (track r w exit)
    → TrailFit r (length exit)
unfolding track
fit_of r w b exit f e s =
    rw e
    (record {
      whole_long = f.whole_long;
      least = f.least;
      most = f.most;
      held = rw length-crumbs at s.held;
      waiting = rw length-places at s.waiting;
      tolerance = s.tolerance;
    })

-- ---- a rule after a rule, and a rule that is another at this track
module _ {t t₁ t₂ : Trail} {w w₁ w₂ b b₁ b₂ : List Float} {R S : ℕ → Rule} where
  pub follows_then : TrailFollows R t w b t₁ w₁ b₁ → TrailFollows S t₁ w₁ b₁ t₂ w₂ b₂ → t₁.len ≤ max t.len t₂.len
      → TrailFollows (λ C. R C >> S C) t w b t₂ w₂ b₂
  follows_then f g h =
      let n = max t.len t₂.len in
      record {
        same = g.same ∙ ap₂ (λ C u. (S C u).track) (ap capacity f.size) f.same;
        fit = g.fit;
        size = g.size ∙ f.size;
        beyond =
            behind_more (max t₁.len t₂.len) n b₂ b₁ (omega arith) g.beyond
            ∙ behind_more (max t.len t₁.len) n b₁ b (omega arith) f.beyond;
      }

pub records-then : {t t₂ : Trail} {r : Recorded} {w w₁ w₂ b b₁ b₂ : List Float} {R S : ℕ → Rule} → Records R t w b r w₁ b₁
    → TrailFollows S r.trail w₁ b₁ t₂ w₂ b₂
    → r.trail.len ≤ max t.len t₂.len → ((C : ℕ) (u : Track) → thinned_in (S C u).notes ≡ false)
    → Records (λ C. R C >> S C) t w b (record { trail = t₂; thinned = r.thinned }) w₂ b₂
records-then {t} {w = w} {b = b} {R = R} {S} f g h quiet =
    let C = capacity (length b) in
    let d = R C (track t w b) in
    record {
      follows = follows_then f.follows g h;
      thinned = f.thinned ∙ sym (thinned-then d.notes (S C d.track).notes (quiet C d.track));
    }

pub records-as : {t : Trail} {r : Recorded} {w b w' exit : List Float} {R S : ℕ → Rule} → Records R t w b r w' exit
    → R (capacity (length b)) (track t w b) ≡ S (capacity (length b)) (track t w b) → Records S t w b r w' exit
records-as f e =
    record {
      follows =
          record {
            same = f.follows.same ∙ ap (λ d. d.track) e;
            fit = f.follows.fit;
            size = f.follows.size;
            beyond = f.follows.beyond;
          };
      thinned = f.thinned ∙ ap (λ d. thinned_in d.notes) e;
    }

pub records-still : {t : Trail} (w b : List Float) → TrailFit t (length b)
    → Records (λ C. still) t w b (record { trail = t; thinned = false }) w b
records-still w b f = record { follows = record { same = refl; fit = f; size = refl; beyond = refl }; thinned = refl }

-- ---- a place waits
abbrev waited : Trail → Trail
waited t =
    record {
      len = t.len;
      tolerance = t.tolerance;
      window_len = t.window_len + 1;
      retrace = t.retrace;
      retrace_len = t.retrace_len;
    }

pub waits : (t : Trail) (w : List Float) (p : Point) → length w ≡ 96 → t.window_len < window_places
    → TrailChanges (wait p) t w (waited t) (put_place w t.window_len p)
unfolding track wait
waits t w p long few =
    record {
      same = λ b. ap (λ l. with_window l (track t w b)) (places-put w t.window_len p (omega arith));
      fit = λ size f.
          record {
            whole_long = f.whole_long;
            least = f.least;
            most = f.most;
            held = f.held;
            waiting = omega arith;
            tolerance = f.tolerance;
          };
    }

-- ---- a crumb is put behind those held
abbrev put_one : Trail → Trail
put_one t =
    record {
      len = t.len + 1;
      tolerance = t.tolerance;
      window_len = t.window_len;
      retrace = t.retrace;
      retrace_len = t.retrace_len;
    }

pub puts : (t : Trail) (p : Point) (w b : List Float) {along : Float} {exit : List Float} → TrailFit t (length b)
    → t.len < capacity (length b)
    → along ≡ recorded_m (crumbs t.len b) p → exit ≡ put_at b t.len (crumb_of p along)
    → TrailFollows (λ C. put p) t w b (put_one t) w exit
unfolding track put
puts t p w b {along} {exit} f room far e =
    let n = t.len in
    let long : length exit ≡ length b = ap length e ∙ length-put b n (crumb_of p along) in
    record {
      same =
          ap (λ l. with_crumbs l (track t w b))
          (ap (crumbs (n + 1)) e
          ∙ (crumbs-behind n b (crumb_of p along) room ∙ ap (λ m. crumbs n b ++ crumb_of p m ∷ []) far));
      fit =
          rw long
          (record {
            whole_long = f.whole_long;
            least = f.least;
            most = f.most;
            held = omega arith;
            waiting = f.waiting;
            tolerance = f.tolerance;
          });
      size = long;
      beyond = ap (behind (max n (n + 1))) e ∙ behind-put b n (crumb_of p along) (max n (n + 1)) (omega arith);
    }

-- ---- a thinning
abbrev thinned_to : Trail → ℕ → Float → Trail
thinned_to t k d =
    record { len = k; tolerance = d; window_len = t.window_len; retrace = 0; retrace_len = t.retrace_len }

track-thin : (t : Trail) (w b exit : List Float) (k : ℕ) {d : Float} → crumbs k exit ≡ realong (thinned t.len t.tolerance b).left
    → d ≡ (thinned t.len t.tolerance b).tolerance → track (thinned_to t k d) w exit ≡ (thin (capacity (length b)) (track t w b)).track
unfolding track thin
track-thin t w b exit k p q =
    ap₂
    (λ l x. record { crumbs = l; tolerance = x; window = places t.window_len w; retrace = 0; retrace_len = t.retrace_len })
    p q

asked : {t : Trail} {size : ℕ} → TrailFit t size → question9 size t.len t.tolerance ≡ true
unfolding question9 of_int
asked {t} {size} f =
    rw (
      f.whole_long,
      le-leb 3 (capacity size) (omega arith),
      le-leb (capacity size) 4096 f.most,
      le-leb t.len (capacity size) f.held,
    )
    f.tolerance

module _ {t : Trail} {b b₁ : List Float} {r : Result Thinned Refusal} (f : TrailFit t (length b))
    (done : ThinDone t.len t.tolerance b b₁ r) where
  pub taken : {q : Refusal} → r ≡ Err q → ⊥
  taken e = true-false (sym (asked f) ∙ (refused-is done e).0)

  module _ {left : Thinned} (e : r ≡ Ok left) where
    abbrev k : ℕ
    k = left.len

    is : LeftIs t.len t.tolerance b b₁ k left.tolerance left.passes
    is = left_is done e

    count : k ≡ length (thinned t.len t.tolerance b).left
    count = sym (length-crumbs k b₁) ∙ ap length is.held

    fewer : k ≤ t.len
    fewer = omega (arith, count, choice-length is.rule.choice, length-crumbs t.len b)

    pub room-left : k ≤ capacity (length b₁)
    room-left = omega (arith, fewer, f.held, done.size)

    pub thins : (w : List Float) {exit : List Float} → Realongs k b₁ exit → TrailFollows thin t w b (thinned_to t k left.tolerance) w exit
    thins w {exit} g =
        let long : length exit ≡ length b = g.size ∙ done.size in
        let same = track-thin t w b exit k (g.held ∙ ap realong is.held) is.tolerance in
        record {
          same = same;
          fit = fit_of (thinned_to t k left.tolerance) w b exit f long
              (rw same (thin-sound (capacity (length b)) (omega arith) (track t w b) (sound-of w b f)));
          size = long;
          beyond =
              behind_more k (max t.len k) exit b₁ (omega arith) g.beyond
              ∙ behind_more t.len (max t.len k) b₁ b (omega arith) done.beyond;
        }
