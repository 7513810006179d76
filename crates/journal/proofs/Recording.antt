-- A crumb kept, a place added, the window flushed, in the whole state: each keeps at most one crumb, behind a thinning where there is no
-- room. Assumes nothing.
use Prim.Native.Nat.{ℕ, ◌≤◌}
use mathlib.Core.Path.{◌≡◌, refl}
use mathlib.Core.Bool.{Bool, true, false}
use mathlib.Core.List.{List}
use native.Mathlib.Omega.{arith}
use Rattle.plane.specs.declared.Point.{Point}
use Rattle.trail.specs.Notes.{Note, thinned_in}
use Rattle.trail.specs.Trail.{Track, thin, put, wait}
use Rattle.trail.specs.Trail as trail
use Rattle.trail.proofs.Theorems as track
use Rattle.trail.proofs.Theorems.{Holding, holding, Keeps, room, full, MayKeep, nothing, one}
use Rattle.state.specs.declared.Line.{Line}
use Rattle.state.specs.declared.Line.TheVariants.{Nothing, Breadcrumb, Course}
use Rattle.state.specs.declared.Follow.{Follow}
use Rattle.state.specs.State.{State}
use Rattle.follow.specs.Parts.{ended_by_thinning}
use Rattle.follow.specs.Record.{after_thinning, recorded_in, recorded, keep_in, add_in, flush_in}
use Rattle.journal.proofs.Walking.{Steps, keeps, flushes, adds}
use Rattle.journal.proofs.Trace.{Trace, over, kept, thinned}
use Rattle.journal.proofs.Sound.{Sound, Ran, Good}

-- ---- the turn-round
abbrev Back : Track → Type 0
Back t = 1 ≤ t.retrace → 1 ≤ t.retrace_len

thin-back : (C : ℕ) (t : Track) → Back (thin C t).track
unfolding thin
thin-back C t n = absurd (omega arith)

back-steps : (C : ℕ) → Steps C (λ _. Unit {0}) Back Back
unfolding put wait
back-steps C =
    record {
      thins = λ t e h. thin-back C t;
      puts = λ p t a h. h;
      stays = λ t h. h;
      empties = λ t h. h;
      waits = λ p t a h. h;
      waited = λ t p h e. tt;
    }

-- ---- the following
-- ended by a thinning, the breadcrumb is followed no longer
left-segment : (l : Line) (f : Follow) → l ≡ f.line → (f.line ≡ Breadcrumb → 1 ≤ f.segment) → (ended_by_thinning l f).line ≡ Breadcrumb
    → 1 ≤ (ended_by_thinning l f).segment
unfolding ended_by_thinning
left-segment Breadcrumb f e h on = cc
left-segment Nothing f e h on = h on
left-segment Course f e h on = h on

after-segment : (b : Bool) (f : Follow) → (f.line ≡ Breadcrumb → 1 ≤ f.segment) → (after_thinning b f).line ≡ Breadcrumb
    → 1 ≤ (after_thinning b f).segment
unfolding after_thinning
after-segment true f h on = left-segment f.line f refl h on
after-segment false f h on = h on

-- ---- the crumbs
module _ {C : ℕ} where
  keeps-trace : {p : Point} {x y : Holding} {notes : List Note} → Keeps C p x y notes → Trace C x notes y
  keeps-trace {p} (room c e ne) = kept p c e over
  keeps-trace {p} (full y n c e f d) = thinned n y p c e f d over

  may-trace : {x y : Holding} {notes : List Note} → MayKeep C x y notes → Trace C x notes y
  may-trace nothing = over
  may-trace (one p k) = keeps-trace k

  records : (d : trail.TrailDone) (s : State) → Sound C s.track s.follow
      → MayKeep C (holding s.track) (holding d.track) d.notes
      → track.Sound C d.track → Back d.track → Ran C (holding s.track) (recorded d s)
  unfolding recorded recorded_in
  records d s h k t b =
      record {
        trace = may-trace k;
        sound = record { track = t; segment = after-segment (thinned_in d.notes) s.follow h.segment; back = b };
      }

module _ (C : ℕ) (least : 3 ≤ C) where
  pub keep-good : (p : Point) → Good C (keep_in C p)
  unfolding keep_in
  keep-good p s h =
      records (trail.keep C p s.track) s h (one p (track.keep-keeps C least p s.track h.track))
      (track.keep-sound C least p s.track h.track) (keeps (back-steps C) p s.track tt h.back)

  pub add-good : (p : Point) → Good C (add_in C p)
  unfolding add_in
  add-good p s h =
      records (trail.add C p s.track) s h (track.add-keeps C least p s.track h.track)
      (track.add-sound C least p s.track h.track) (adds (back-steps C) p s.track tt h.back)

  pub flush-good : Good C (flush_in C)
  unfolding flush_in
  flush-good s h =
      records (trail.flush C s.track) s h (track.flush-keeps C least s.track h.track)
      (track.flush-sound C least s.track h.track) (flushes (back-steps C) s.track h.back)
