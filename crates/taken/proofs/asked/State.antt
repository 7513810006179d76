-- Question 10 of a whole state, part by part, and what `replay` and `reset` do to the parts. Assumes nothing.
use Prim.Native.Nat.{ℕ, ◌≤◌, ◌<◌}
use native.Mathlib.Omega.{arith}
use mathlib.Core.Path.{◌≡◌, refl, sym, subst}
use mathlib.Core.Bool.{Bool, true, false, ◌&&◌, ◌||◌, and-eq-true_iff}
use borrow.Author.Tests.{leb-true, ltb-true, le-leb, lt-ltb, ne_eqb}
use lib.Dec.{leb, ltb, eqb}
use lib.ListN.{length}
use lib.Ieee.{le}
use Rattle.binary32.specs.Limits.{plus_zero}
use Rattle.plane.specs.declared.Point.{Point}
use Rattle.std.specs.Prelude.{Option, Some, None, ℕ}
use Rattle.plane.specs.declared.Fix.{Fix}
use Rattle.plane.specs.Plane.{distance}
use Rattle.motion.specs.declared.Motion.{Motion}
use Rattle.lap.specs.declared.Lap.{Lap}
use Rattle.motion.specs.Heading.{elapsed, heading_step_m, heading_stale_ms, spot_or, renewed, aged, track_heading}
use Rattle.lap.specs.Lap.{moving_at, lap_start, step_from, step_pass}
use Rattle.trail.specs.Notes.{thinned_in}
use Rattle.trail.specs.Trail.{retrace_fixes, Track, window_places}
use Rattle.trail.specs.Trail as trail
use Rattle.trail.proofs.Theorems.{Sound, add-sound, add-keeps}
use Rattle.state.specs.declared.Line.{Line}
use Rattle.state.specs.declared.Line.TheVariants as line
use Rattle.state.specs.declared.Frame.{Frame}
use Rattle.state.specs.declared.Follow.{Follow}
use Rattle.state.specs.State.{State, with_frame}
use Rattle.follow.specs.Parts.{ended_by_thinning}
use Rattle.follow.specs.Record.{after_thinning, recorded_in, recorded, add_in}
use Rattle.course.specs.Fix.{located}
use Rattle.calls.specs.Questions.{places_fit, spot_fits, along_fits, heading_fits, shown_fits, factor_fits, segment_fits, follow_fits}
use Rattle.calls.specs.Questions.{retrace_fits}
use Rattle.calls.specs.Questions.{counts_fit, spots_fit, numbers_fit, state_fits, crumbs_fit, held_fits, place_fits}
use Rattle.calls.specs.Fix.{headed, pass_only, replay, unheaded}
use Rattle.calls.specs.Line.{no_lap, lined, awaiting, reset}
use Rattle.taken.specs.Taken.{FixOnGlobe}
use Rattle.taken.proofs.Tests.{one_of}
use Rattle.std.specs.Cmp.Derive.{both_true}
use Rattle.taken.proofs.Bounds.{place-fits, factor-fits}
use Rattle.taken.proofs.Onward.{Counted}
use Rattle.taken.proofs.Recording.{retrace-fits, grows, reset-recorded, reset-counted}
use Rattle.taken.proofs.Moving.{Framed, located-framed, framed-place, known-fits, unknown-fits}
use Rattle.taken.proofs.State.{nothing-shown}
use Rattle.taken.proofs.asked.Recording.{Rounded, crumbs-given, crumbs-pass, window-given, window-passes, Recorded, Onward}
use Rattle.taken.proofs.asked.Recording.{add-onward}

-- ---- the parts
pub record Passing (C : ℕ) (s : State) : Type 0 where
  pub track : Recorded C s.track
  pub counted : Counted s.track
  pub follow : follow_fits s.follow.line s.follow.segment (length s.track.crumbs) s.course.line_len ≡ true
  pub here : spot_fits s.here ≡ true
  pub from : spot_fits s.motion.from ≡ true
  pub matched : spot_fits s.follow.matched ≡ true
  pub fix : spot_fits s.course.fix ≡ true
  pub start : spot_fits s.lap.start ≡ true
  pub along : along_fits s.course.along ≡ true
  pub reached : along_fits s.course.reached ≡ true
  pub heading : heading_fits s.motion.heading ≡ true
  pub guide : shown_fits s.guide ≡ true
  pub factor : factor_fits s.frame.east_per_e7 ≡ true

-- ---- every test of several that say yes together
yes3 : (a b c : Bool) → (a && b && c) ≡ true → (a ≡ true) × (b ≡ true) × (c ≡ true)
yes3 a b c e = let abc = (and-eq-true_iff (a && b) c).0 e in let ab = (and-eq-true_iff a b).0 abc.0 in (ab.0, ab.1, abc.1)

yes5 : (a b c d f : Bool) → (a && b && c && d && f) ≡ true → (a ≡ true) × (b ≡ true) × (c ≡ true) × (d ≡ true) × (f ≡ true)
yes5 a b c d f e =
    let abc = yes3 (a && b && c) d f e in
    let ab = yes3 a b c abc.0 in
    (ab.0, ab.1, ab.2, abc.1, abc.2)

yes8 : (a b c d f g h i : Bool) → (a && b && c && d && f && g && h && i) ≡ true
    → (a ≡ true) × (b ≡ true) × (c ≡ true) × (d ≡ true) × (f ≡ true) × (g ≡ true) × (h ≡ true) × (i ≡ true)
yes8 a b c d f g h i e =
    let last = yes3 (a && b && c && d && f && g) h i e in
    let mid = yes3 (a && b && c && d) f g last.0 in
    let ab = yes3 (a && b) c d mid.0 in
    (((and-eq-true_iff a b).0 ab.0).0, ((and-eq-true_iff a b).0 ab.0).1, ab.1, ab.2, mid.1, mid.2, last.1, last.2)

-- ---- what question 10 says of each
retrace-given : (t : Track) → retrace_fits t ≡ true → Counted t
unfolding retrace_fits
retrace-given t e =
    let few = ltb t.retrace retrace_fixes in
    let back = eqb t.retrace 0 || leb t.retrace_len (length t.crumbs) in
    let b : back ≡ true = ((and-eq-true_iff few back).0 e).1 in
    record {
      few = ltb-true t.retrace retrace_fixes ((and-eq-true_iff few back).0 e).0;
      back = λ ne. leb-true _ _ (rw (ne_eqb _ _ ne) at b);
    }

module _ (s : State) (e : state_fits s ≡ true) where
  abbrev on : Bool
  on = follow_fits s.follow.line s.follow.segment (length s.track.crumbs) s.course.line_len

  counts-given : (leb (length s.track.window) window_places ≡ true) × (on ≡ true) × (retrace_fits s.track ≡ true)
  unfolding state_fits counts_fit
  counts-given =
      yes3 (leb (length s.track.window) window_places) on (retrace_fits s.track)
      ((and-eq-true_iff (counts_fit s) (numbers_fit s)).0 e).0

  numbers-given : (places_fit s.track.window ≡ true)
      × (spots_fit s ≡ true)
      × (along_fits s.course.along ≡ true)
      × (along_fits s.course.reached ≡ true)
      × (heading_fits s.motion.heading ≡ true)
      × (shown_fits s.guide ≡ true)
      × (factor_fits s.frame.east_per_e7 ≡ true)
      × (le plus_zero s.track.tolerance ≡ true)
  unfolding state_fits numbers_fit
  numbers-given =
      yes8 (places_fit s.track.window) (spots_fit s) (along_fits s.course.along) (along_fits s.course.reached)
      (heading_fits s.motion.heading)
      (shown_fits s.guide) (factor_fits s.frame.east_per_e7) (le plus_zero s.track.tolerance)
      ((and-eq-true_iff (counts_fit s) (numbers_fit s)).0 e).1

  spots-given : (spot_fits s.here ≡ true)
      × (spot_fits s.motion.from ≡ true)
      × (spot_fits s.follow.matched ≡ true)
      × (spot_fits s.course.fix ≡ true)
      × (spot_fits s.lap.start ≡ true)
  unfolding spots_fit
  spots-given =
      yes5 (spot_fits s.here) (spot_fits s.motion.from) (spot_fits s.follow.matched) (spot_fits s.course.fix)
      (spot_fits s.lap.start) numbers-given.1

  pub parts-given : (C : ℕ) → Rounded s.track.crumbs → held_fits C s ≡ true → Passing C s
  unfolding held_fits
  parts-given C f k =
      let t = s.track in
      record {
        track =
            record {
              sound =
                  record {
                    held = leb-true (length t.crumbs) C ((and-eq-true_iff (leb (length t.crumbs) C) (crumbs_fit t.crumbs)).0 k).0;
                    waiting = leb-true (length t.window) window_places counts-given.0;
                    tolerance = numbers-given.7;
                  };
              crumbs = crumbs-given t.crumbs f ((and-eq-true_iff (leb (length t.crumbs) C) (crumbs_fit t.crumbs)).0 k).1;
              waiting = window-given t.window numbers-given.0;
            };
        counted = retrace-given t counts-given.2;
        follow = counts-given.1;
        here = spots-given.0;
        from = spots-given.1;
        matched = spots-given.2;
        fix = spots-given.3;
        start = spots-given.4;
        along = numbers-given.2;
        reached = numbers-given.3;
        heading = numbers-given.4;
        guide = numbers-given.5;
        factor = numbers-given.6;
      }

module _ {C : ℕ} (s : State) (k : Passing C s) where
  pub state-passes : state_fits s ≡ true
  unfolding state_fits counts_fit spots_fit numbers_fit
  state-passes =
      both_true (both_true (both_true (le-leb (length s.track.window) window_places k.track.sound.waiting) k.follow)
      (retrace-fits s.track k.counted))
      (both_true
      (both_true
      (both_true
      (both_true
      (both_true
      (both_true
      (both_true (window-passes s.track.window k.track.waiting)
      (both_true (both_true (both_true (both_true k.here k.from) k.matched) k.fix) k.start))
      k.along) k.reached) k.heading) k.guide) k.factor) k.track.sound.tolerance)

  pub held-passes : held_fits C s ≡ true
  unfolding held_fits
  held-passes = both_true (le-leb (length s.track.crumbs) C k.track.sound.held) (crumbs-pass s.track.crumbs k.track.crumbs)

-- ---- the breadcrumb in the whole state
longer-follow : (on : Line) (segment len len' n : ℕ) → len ≤ len' → follow_fits on segment len n ≡ true
    → follow_fits on segment len' n ≡ true
unfolding follow_fits segment_fits
longer-follow line.Nothing segment len len' n g h = refl
longer-follow line.Breadcrumb segment len len' n g h =
    let below : segment < len = ltb-true segment len ((and-eq-true_iff (leb 1 segment) (ltb segment len)).0 h).1 in
    both_true ((and-eq-true_iff (leb 1 segment) (ltb segment len)).0 h).0 (lt-ltb segment len' (omega arith))
longer-follow line.Course segment len len' n g h = h

record Followed (len n : ℕ) (f : Follow) : Type 0 where
  on : follow_fits f.line f.segment len n ≡ true
  matched : spot_fits f.matched ≡ true

nowhere-fits : spot_fits None ≡ true
unfolding spot_fits
nowhere-fits = refl

nothing-fits : (segment len n : ℕ) → follow_fits line.Nothing segment len n ≡ true
unfolding follow_fits
nothing-fits segment len n = refl

course-fits : (segment len len' n : ℕ) → follow_fits line.Course segment len n ≡ true → follow_fits line.Course segment len' n ≡ true
unfolding follow_fits
course-fits segment len len' n e = e

left-followed : (on : Line) (len len' n : ℕ) (f : Follow) → f.line ≡ on → Followed len n f → Followed len' n (ended_by_thinning on f)
unfolding ended_by_thinning
left-followed line.Breadcrumb len len' n f e h = record { on = nothing-fits 0 len' n; matched = nowhere-fits }
left-followed line.Nothing len len' n f e h =
    record { on = subst (λ l. follow_fits l f.segment len' n ≡ true) (sym e) (nothing-fits f.segment len' n); matched = h.matched }
left-followed line.Course len len' n f e h =
    record {
      on = subst (λ l. follow_fits l f.segment len' n ≡ true) (sym e)
          (course-fits f.segment len len' n (subst (λ l. follow_fits l f.segment len n ≡ true) e h.on));
      matched = h.matched;
    }

after-followed : (thinned : Bool) (len len' n : ℕ) (f : Follow) → (thinned ≡ false → len ≤ len') → Followed len n f
    → Followed len' n (after_thinning thinned f)
unfolding after_thinning
after-followed true len len' n f g h = left-followed f.line len len' n f refl h
after-followed false len len' n f g h =
    record { on = longer-follow f.line f.segment len len' n (g refl) h.on; matched = h.matched }

recorded-passing : {C : ℕ} {s : State} (d : trail.TrailDone) → Passing C s → Sound C d.track → Onward s.track d.track
    → (thinned_in d.notes ≡ false → length s.track.crumbs ≤ length d.track.crumbs) → Passing C (recorded d s).state
unfolding recorded recorded_in
recorded-passing {C} {s} d k sound o g =
    let f = after-followed (thinned_in d.notes) (length s.track.crumbs) (length d.track.crumbs) s.course.line_len
    s.follow g (record { on = k.follow; matched = k.matched }) in
    record {
      track = record { sound = sound; crumbs = o.crumbs; waiting = o.waiting };
      counted = o.counted k.counted;
      follow = f.on;
      here = k.here;
      from = k.from;
      matched = f.matched;
      fix = k.fix;
      start = k.start;
      along = k.along;
      reached = k.reached;
      heading = k.heading;
      guide = k.guide;
      factor = k.factor;
    }

add-passing : (C : ℕ) (least : 3 ≤ C) (p : Point) (s : State) → Passing C s → place_fits p ≡ true → Passing C (add_in C p s).state
unfolding add_in
add-passing C least p s k P =
    let t = s.track in
    recorded-passing (trail.add C p t) k (add-sound C least p t k.track.sound) (add-onward C least p t k.track P)
    (grows C _ _ _ (add-keeps C least p t k.track.sound))

-- ---- the heading and the start
record Moves (m : Motion) : Type 0 where
  from : spot_fits m.from ≡ true
  heading : heading_fits m.heading ≡ true

at-fits : (p : Point) → place_fits p ≡ true → spot_fits (Some p) ≡ true
unfolding spot_fits
at-fits p P = P

spot-or : (x : Option Point) (p : Point) → spot_fits x ≡ true → place_fits p ≡ true → place_fits (spot_or x p) ≡ true
unfolding spot_or spot_fits
spot-or (Some q) p h P = h
spot-or None p h P = P

renewed-moves : (from p : Point) (now : ℕ) → place_fits p ≡ true → Moves (renewed from p now)
unfolding renewed
renewed-moves from p now P = record { from = at-fits p P; heading = known-fits from p }

aged-moves : (m : Motion) (from : Point) (now : ℕ) → heading_fits m.heading ≡ true → place_fits from ≡ true → Moves (aged m from now)
unfolding aged
aged-moves m from now h P =
    record {
      from = at-fits from P;
      heading =
          one_of (λ x. heading_fits x ≡ true) (ltb heading_stale_ms (elapsed now m.heading_ms)) (λ t. unknown-fits) (λ t. h);
    }

heading-moves : (m : Motion) (p : Point) (now : ℕ) → Moves m → place_fits p ≡ true → Moves (track_heading m p now)
unfolding track_heading
heading-moves m p now h P =
    let from = spot_or m.from p in
    one_of Moves (le heading_step_m (distance from p)) (λ t. renewed-moves from p now P)
    (λ t. aged-moves m from now h.heading (spot-or m.from p h.from P))

lap-start : (moving : Bool) (x : Option Point) (p : Point) → spot_fits x ≡ true → place_fits p ≡ true
    → spot_fits (lap_start moving x p) ≡ true
unfolding lap_start
lap-start true (Some q) p h P = h
lap-start false (Some q) p h P = h
lap-start true None p h P = at-fits p P
lap-start false None p h P = h

step_from_lem : (x : Option Point) (l : Lap) (p : Point) (moving : Bool) → spot_fits x ≡ true
    → spot_fits (step_from x l p moving).start ≡ true
unfolding step_from
step_from_lem (Some q) l p moving h = h
step_from_lem None l p moving h = h

step_start : (l : Lap) (p : Point) (heading : Option ℕ) → spot_fits l.start ≡ true → place_fits p ≡ true
    → spot_fits (step_pass l p heading).start ≡ true
unfolding step_pass
step_start l p heading h P =
    let moving = moving_at heading in
    step_from_lem (lap_start moving l.start p) l p moving (lap-start moving l.start p h P)

-- ---- `replay`
module _ {C : ℕ} where
  frame-passing : (f : Frame) (s : State) → Framed f → Passing C s → Passing C (with_frame f s)
  frame-passing f s h k =
      record {
        track = k.track;
        counted = k.counted;
        follow = k.follow;
        here = k.here;
        from = k.from;
        matched = k.matched;
        fix = k.fix;
        start = k.start;
        along = k.along;
        reached = k.reached;
        heading = k.heading;
        guide = k.guide;
        factor = factor-fits f.east_per_e7 h.factor;
      }

  headed-passing : (p : Point) (now : ℕ) (s : State) → Passing C s → place_fits p ≡ true → Passing C (headed p now s)
  unfolding headed
  headed-passing p now s k P =
      let m = heading-moves s.motion p now (record { from = k.from; heading = k.heading }) P in
      record {
        track = k.track;
        counted = k.counted;
        follow = k.follow;
        here = k.here;
        from = m.from;
        matched = k.matched;
        fix = k.fix;
        start = k.start;
        along = k.along;
        reached = k.reached;
        heading = m.heading;
        guide = k.guide;
        factor = k.factor;
      }

  pass-only : (p : Point) (s : State) → Passing C s → place_fits p ≡ true → Passing C (pass_only p s)
  unfolding pass_only
  pass-only p s k P =
      record {
        track = k.track;
        counted = k.counted;
        follow = k.follow;
        here = k.here;
        from = k.from;
        matched = k.matched;
        fix = k.fix;
        start = step_start s.lap p s.motion.heading k.start P;
        along = k.along;
        reached = k.reached;
        heading = k.heading;
        guide = k.guide;
        factor = k.factor;
      }

pub replay-passing : (C : ℕ) (least : 3 ≤ C) (x : Fix) (now : ℕ) (s : State) → Framed s.frame → FixOnGlobe x → Passing C s
    → Passing C (replay C x now s).state
unfolding replay
replay-passing C least x now s h g k =
    let f = located-framed x s.frame g h in
    let P = place-fits _ (framed-place (located x s.frame) x f g) in
    pass-only _ _ (add-passing C least _ _ (headed-passing _ now _ (frame-passing _ s f k) P) P) P

-- ---- `reset`
pub reset-passing : (C : ℕ) (s : State) → state_fits s ≡ true → Passing C (reset s).state
unfolding reset no_lap unheaded awaiting lined trail.reset_track
reset-passing C s e =
    record {
      track = record { sound = (reset-recorded C s.track).sound; crumbs = tt; waiting = tt };
      counted = reset-counted s.track;
      follow = nothing-fits 0 0 0;
      here = nowhere-fits;
      from = nowhere-fits;
      matched = nowhere-fits;
      fix = (spots-given s e).3;
      start = nowhere-fits;
      along = (numbers-given s e).2;
      reached = (numbers-given s e).3;
      heading = unknown-fits;
      guide = nothing-shown;
      factor = (numbers-given s e).6;
    }
