-- What `keep`, `flush`, `simplify` and `add` do to a trail and its buffer, from what their parts do. Assumes nothing.
use Prim.Native.Nat.{ℕ, ◌-◌, ◌≤◌, ◌<◌}
use mathlib.Core.Path.{◌≡◌, refl, sym, ap, ◌∙◌}
use mathlib.Core.Bool.{Bool, true, false, ◌||◌, or-true}
use mathlib.Core.List.{List, []}
use Rattle.std.specs.Prelude.{Some, None, option_map}
use Rattle.std.specs.Option.{unwrap_or}
use native.Mathlib.Omega.{arith}
use lib.ListN.{length}
use lib.Dec.{eqb}
use lib.Ieee.{Float, lt}
use Rattle.plane.specs.declared.Point.{Point}
use Rattle.plane.specs.Plane.{distance}
use Rattle.crumbs.specs.Crumb.{capacity, crumb_at, crumbs, point}
use Rattle.crumbs.specs.Choice.{last}
use Rattle.crumbs.proofs.Crumbs.{length-crumbs}
use Rattle.trail.specs.declared.Trail.{Trail}
use Rattle.trail.specs.Notes.{thinned_in}
use Rattle.trail.specs.Trail.{window_places, min_step_m, Track, with_window, become, thin, put, keep, flush, wait, strays, simplify, add}
use Rattle.trail.specs.View.{places, track, TrailFit}
use Rattle.trail.specs.Inner.{TrailFollows, Recorded, Records, TrailChanges}
use Rattle.trail.proofs.Window.{length-places}
use Rattle.crumbs.proofs.along.Line.{last-crumbs, last_none}
use Rattle.trail.proofs.Rules.{keep-full, keep-room, flush-none, flush-some, bends, simplify-bends, simplify-straight, add-first}
use Rattle.trail.proofs.Rules.{near, add-near, add-far}
use Rattle.trail.proofs.Theorems.{thin-room, flush-empties}
use Rattle.trail.proofs.Tracks.{sound-of, records-then, records-as, records-still}

-- ---- how long a track's lists are
module _ (t : Trail) (w b : List Float) where
  held-long : length (track t w b).crumbs ≡ t.len
  unfolding track
  held-long = length-crumbs t.len b

  waiting-long : length (track t w b).window ≡ t.window_len
  unfolding track
  waiting-long = length-places t.window_len w

-- ---- keep
thin-noted : (C : ℕ) (u : Track) → true ≡ thinned_in (thin C u).notes
unfolding thin
thin-noted C u = refl

put-noted : (p : Point) (u : Track) → thinned_in (put p u).notes ≡ false
unfolding put
put-noted p u = refl

-- there is room behind a thinning
pub room-behind : {t t₁ : Trail} {w b b₁ : List Float} → TrailFit t (length b) → TrailFollows thin t w b t₁ w b₁
    → t₁.len < capacity (length b₁)
room-behind {t} {t₁} {w} {b} {b₁} f g =
    let C = capacity (length b) in
    let few = thin-room C (omega arith) (track t w b) (sound-of w b f) in
    let long : t₁.len ≡ length (thin C (track t w b)).track.crumbs = sym (held-long t₁ w b₁) ∙ ap (λ u. length u.crumbs) g.same in
    omega (arith, g.size)

module _ (t : Trail) (w b : List Float) (p : Point) where
  pub keeps-full : {t₁ t₂ : Trail} {b₁ b₂ : List Float} → TrailFit t (length b) → t.len ≡ capacity (length b)
      → TrailFollows thin t w b t₁ w b₁
      → TrailFollows (λ C. put p) t₁ w b₁ t₂ w b₂ → Records (λ C. keep C p) t w b (record { trail = t₂; thinned = true }) w b₂
  keeps-full {t₁} f e g h =
      let C = capacity (length b) in
      let within : t₁.len ≤ t.len = omega (arith, room-behind f g, g.size) in
      records-as
      (records-then {R = thin} {S = λ C. put p} (record { follows = g; thinned = thin-noted C (track t w b) }) h (omega arith)
      (λ C u. put-noted p u))
      (sym (keep-full C p (track t w b) (held-long t w b ∙ e)))

  pub keeps-room : {r : Trail} {exit : List Float} → (t.len ≡ capacity (length b) → ⊥) → TrailFollows (λ C. put p) t w b r w exit
      → Records (λ C. keep C p) t w b (record { trail = r; thinned = false }) w exit
  keeps-room ne h =
      records-as {R = λ C. put p} (record { follows = h; thinned = sym (put-noted p (track t w b)) })
      (sym (keep-room (capacity (length b)) p (track t w b) (λ e. ne (sym (held-long t w b) ∙ e))))

-- ---- flush
abbrev emptied : Trail → Trail
emptied t =
    record {
      len = t.len;
      tolerance = t.tolerance;
      window_len = 0;
      retrace = t.retrace;
      retrace_len = t.retrace_len;
    }

empties : (t : Trail) (w b : List Float) → TrailFit t (length b) → TrailFollows (λ C. become (with_window [])) t w b (emptied t) w b
unfolding track places
empties t w b f =
    record {
      same = refl;
      fit =
          record {
            whole_long = f.whole_long;
            least = f.least;
            most = f.most;
            held = f.held;
            waiting = omega arith;
            tolerance = f.tolerance;
          };
      size = refl;
      beyond = refl;
    }

pub flushes-none : {t : Trail} (w b : List Float) → TrailFit t (length b) → None ≡ last (places t.window_len w)
    → Records flush t w b (record { trail = t; thinned = false }) w b
unfolding track
flushes-none {t} w b f e = records-as (records-still w b f) (sym (flush-none (capacity (length b)) (track t w b) (sym e)))

pub flushes : (t : Trail) (w b : List Float) (p : Point) {r : Recorded} {exit : List Float} → Some p ≡ last (places t.window_len w)
    → Records (λ C. keep C p) t w b r w exit → Records flush t w b (record { trail = emptied r.trail; thinned = r.thinned }) w exit
unfolding track
flushes t w b p {r} {exit} is k =
    records-as
    (records-then {R = λ C. keep C p} {S = λ C. become (with_window [])} k (empties r.trail w exit k.follows.fit) (omega arith)
    (λ C u. refl))
    (sym (flush-some (capacity (length b)) p (track t w b) (sym is)))

-- ---- simplify
waits-follows : (p : Point) {t r : Trail} {w w' b : List Float} → TrailFit t (length b) → TrailChanges (wait p) t w r w'
    → TrailFollows (λ C. wait p) t w b r w' b
waits-follows p {b = b} f c = record { same = c.same b; fit = c.fit (length b) f; size = refl; beyond = refl }

wait-holds : (p : Point) {t r : Trail} {w w' : List Float} → TrailChanges (wait p) t w r w' → r.len ≡ t.len
unfolding wait
wait-holds p {t} {r} {w} {w'} c = sym (held-long r w' []) ∙ (ap (λ u. length u.crumbs) (c.same []) ∙ held-long t w [])

wait-noted : (p : Point) (u : Track) → thinned_in (wait p u).notes ≡ false
unfolding wait
wait-noted p u = refl

-- a place can wait once the window is flushed
pub room-to-wait : {t : Trail} {r : Recorded} {w b exit : List Float} → Records flush t w b r w exit → r.trail.window_len < window_places
room-to-wait {t} {r} {w} {b} {exit} k =
    let none_left : r.trail.window_len ≡ 0 =
    sym (waiting-long r.trail w exit)
    ∙ ap length (ap (λ u. u.window) k.follows.same ∙ flush-empties (capacity (length b)) (track t w b)) in
    omega arith

module _ (t : Trail) (w b : List Float) (anchor p : Point) where
  -- whether the rule keeps the last that waits, from the code's test of the window
  module _ {far : Bool} (is : far ≡ strays t.tolerance anchor p (places t.window_len w)) where
    bends-is : (far || eqb t.window_len window_places) ≡ bends (capacity (length b)) p (track t w b) anchor
    unfolding track
    bends-is = rw (is, length-places)

    pub strayed : far ≡ true → bends (capacity (length b)) p (track t w b) anchor ≡ true
    strayed e = sym bends-is ∙ rw e

    pub filled : eqb t.window_len window_places ≡ true → bends (capacity (length b)) p (track t w b) anchor ≡ true
    filled e = sym bends-is ∙ rw e (or-true far)

    pub straight : far ≡ false → eqb t.window_len window_places ≡ false → bends (capacity (length b)) p (track t w b) anchor ≡ false
    straight e f = sym bends-is ∙ rw (e, f)

  pub simplifies-bends : {r : Recorded} {t₂ : Trail} {w' exit : List Float} → bends (capacity (length b)) p (track t w b) anchor ≡ true
      → Records flush t w b r w exit → TrailChanges (wait p) r.trail w t₂ w'
      → Records (λ C. simplify C anchor p) t w b (record { trail = t₂; thinned = r.thinned }) w' exit
  simplifies-bends e k c =
      records-as
      (records-then {R = flush} {S = λ C. wait p} k (waits-follows p k.follows.fit c) (omega (arith, wait-holds p c))
      (λ C u. wait-noted p u))
      (sym (simplify-bends (capacity (length b)) p (track t w b) anchor e))

  pub simplifies-straight : {r : Trail} {w' : List Float} → TrailFit t (length b)
      → bends (capacity (length b)) p (track t w b) anchor ≡ false
      → TrailChanges (wait p) t w r w' → Records (λ C. simplify C anchor p) t w b (record { trail = r; thinned = false }) w' b
  simplifies-straight f e c =
      records-as {R = λ C. wait p} (record { follows = waits-follows p f c; thinned = sym (wait-noted p (track t w b)) })
      (sym (simplify-straight (capacity (length b)) p (track t w b) anchor e))

-- ---- add
none-held : (t : Trail) (w b : List Float) → t.len ≡ 0 → last (track t w b).crumbs ≡ None
unfolding track
none-held t w b e = rw e (last_none b)

last-held : (t : Trail) (w b : List Float) → 0 < t.len → last (track t w b).crumbs ≡ Some (crumb_at b (t.len - 1))
unfolding track
last-held t w b h = last-crumbs t.len b h

module _ (t : Trail) (w b : List Float) (p : Point) where
  pub adds-first : {r : Recorded} {exit : List Float} → t.len ≡ 0 → Records (λ C. keep C p) t w b r w exit
      → Records (λ C. add C p) t w b r w exit
  adds-first e k = records-as k (sym (add-first (capacity (length b)) p (track t w b) (none-held t w b e)))

  -- the anchor and the last place, as the code has them
  module _ (some-held : 0 < t.len) {anchor place : Point} (ends : Some anchor ≡ option_map point (last (crumbs t.len b)))
      (is : place ≡ unwrap_or (last (places t.window_len w)) anchor) where
    anchored : anchor ≡ point (crumb_at b (t.len - 1))
    anchored = let e = ends ∙ ap (option_map point) (last-crumbs t.len b some-held) in cc

    near-is : lt (distance place p) min_step_m ≡ near (capacity (length b)) p (track t w b) (crumb_at b (t.len - 1))
    unfolding track
    near-is = rw (is, anchored)

    pub adds-near : TrailFit t (length b) → lt (distance place p) min_step_m ≡ true
        → Records (λ C. add C p) t w b (record { trail = t; thinned = false }) w b
    adds-near f e =
        records-as (records-still w b f)
        (sym (add-near (capacity (length b)) p (track t w b) (crumb_at b (t.len - 1)) (last-held t w b some-held) (sym near-is ∙ e)))

    pub adds-far : {r : Recorded} {w' exit : List Float} → lt (distance place p) min_step_m ≡ false
        → Records (λ C. simplify C anchor p) t w b r w' exit → Records (λ C. add C p) t w b r w' exit
    adds-far e k =
        records-as k
        (ap (λ a. simplify (capacity (length b)) a p (track t w b)) anchored
        ∙ sym (add-far (capacity (length b)) p (track t w b) (crumb_at b (t.len - 1)) (last-held t w b some-held) (sym near-is ∙ e)))
