-- What a step of the whole chain from a new guide gives is what the rules tell of the file. Assumes nothing.
use Prim.Native.Nat.{ℕ, ◌≤◌}
use mathlib.Core.Path.{◌≡◌, refl, sym, ap, ◌∙◌}
use mathlib.Core.Bool.{Bool, true, false}
use mathlib.Core.Logic.{◌≢◌}
use mathlib.Core.List.{List}
use native.Mathlib.Omega.{arith}
use borrow.Author.Tests.{eq-eqb, eqb-true, eqb-false}
use lib.Dec.{eqb}
use lib.ListN.{length}
use lib.Seq.{take_all}
use lib.Ieee.{Float}
use Rattle.crumbs.specs.declared.Crumb.{Crumb}
use Rattle.crumbs.specs.Crumb.{capacity, crumbs}
use Rattle.trail.specs.View.{track}
use Rattle.state.specs.declared.Homing.{Homing}
use Rattle.state.specs.State.{State, state_of}
use Rattle.calls.specs.Line as guide
use Rattle.calls.specs.Questions.{question1, question4, asks_crumbs}
use Rattle.calls.specs.Calls.{Ask, Crumbs, asks_lent, asks}
use Rattle.calls.specs.Promises.{Answer, refused, gives, answer, says}
use Rattle.std.specs.Prelude.{Result, Ok, Err}
use Rattle.refusal.specs.declared.Refusal.{Refusal}
use Rattle.refusal.specs.Refusal.{number}
use Rattle.taken.specs.Taken.{start}
use Rattle.taken.proofs.Taken.{taken}
use Rattle.ride_log.specs.Entry.{recovered, slot}
use Rattle.ride_log.specs.Questions.{asks_file}
use Rattle.rebuild.specs.declared.Rebuild.{Rebuild}
use Rattle.rebuild.specs.Made.{effect}
use Rattle.rebuild.specs.Rebuild.{new_rebuild, step, is_decided}
use Rattle.rebuild.specs.View.{Makes}
use Rattle.retelling.specs.declared.Rebuilt.{Rebuilt}
use Rattle.restart.specs.Promises.{asks_step, Steps}
use Rattle.retelling.specs.Text.{rebuilt_text, refused_text}
use Rattle.retelling.specs.Writing.{Writes, PutsWhole}
use Rattle.retelling.specs.declared.lines.Writer.{Writer}
use Rattle.retelling.proofs.lines.Numbers.{picked}
use Rattle.retelling.specs.Retold.{slots, rebuilt, held_after, retold, Retells}
use Rattle.retelling.specs.Told.{told, Rebuilds}
use Rattle.retelling.proofs.Theorems.{retold-refused}

-- ---- a new guide
new-taken : asks_crumbs 1536 guide.new ≡ 0
unfolding asks asks_lent question1 question4
new-taken = taken 1536 refl _ _ start (Ask Crumbs) tt tt

-- ---- "rebuilds the whole chain"
module _ (file : List ℕ) {h n : Homing} {b exit : List Float} {r : Rebuild} (size : length b ≡ 1536) (fresh : state_of h b ≡ guide.new)
    (asked : asks_file file ≡ 0) (made : Makes (step slots slots (slot file) (new_rebuild (recovered file))).made h b r n exit) where
  held : crumbs n.trail.len exit ≡ held_after file
  unfolding held_after rebuilt track
  held =
      ap (λ (s : State). s.track.crumbs) made.same
      ∙ ap (λ (n : ℕ). (effect (step slots slots (slot file) (new_rebuild (recovered file))).made (capacity n)
      (state_of h b)).state.track.crumbs) size
      ∙ ap (λ (s : State). (effect (step slots slots (slot file) (new_rebuild (recovered file))).made 512 s).state.track.crumbs) fresh

  pub retold-rebuilt : rebuilt_text (crumbs n.trail.len exit) r.clock_ms (is_decided r.stage) ≡ retold file
  unfolding retold rebuilt
  retold-rebuilt =
      ap (λ (l : List Crumb). rebuilt_text l r.clock_ms (is_decided r.stage)) held
      ∙ ap (λ r. rebuilt_text (held_after file) r.clock_ms (is_decided r.stage)) made.rebuilt
      ∙ sym (picked _ _ (eqb (asks_file file) 0) (eq-eqb (asks_file file) 0 asked))

-- ---- an answer, and the question that gave it
module _ {A : Type 0} (n : ℕ) (x : A) where
  not-refused : (d : A) → gives d ≡ answer n x → n ≡ 0
  unfolding answer
  not-refused d e = by (eqb n 0) refl
    where
      by : (b : Bool) → eqb n 0 ≡ b → n ≡ 0
      by true t = eqb-true n 0 t
      by false t = let f : gives d ≡ refused n = rw t at e in let z : ◌≡◌ {A = ℕ} 0 1 = cc in absurd (omega arith)

  refused-by : (k : ℕ) → refused k ≡ answer n x → (n ≢ 0) × (k ≡ n)
  unfolding answer
  refused-by k e = by (eqb n 0) refl
    where
      by : (b : Bool) → eqb n 0 ≡ b → (n ≢ 0) × (k ≡ n)
      by true t = let f : refused k ≡ gives x = rw t at e in let z : ◌≡◌ {A = ℕ} 0 1 = cc in absurd (omega arith)
      by false t = let f : ◌≡◌ {A = Answer A} (refused k) (refused n) = rw t at e in (eqb-false n 0 t, cc)

-- ---- the step of a new guide
step-asked : (file : List ℕ) (h : Homing) (b : List Float) → length b ≡ 1536 → state_of h b ≡ guide.new
    → asks_step (length b) file (state_of h b) ≡ asks_file file
unfolding asks_step
step-asked file h b size fresh = rw (size, fresh, new-taken)

module _ (file : List ℕ) {h n : Homing} {r x : Rebuild} {b exit : List Float} (size : length b ≡ 1536)
    (fresh : state_of h b ≡ guide.new) (begun : r ≡ new_rebuild (recovered file)) where
  same-answer : {a : Result Bool Refusal} → Steps slots slots file r h b x n a exit
      → says a ≡ answer (asks_file file) (step slots slots (slot file) r).answer
  same-answer done = done.answered ∙ ap (λ (n : ℕ). answer n (step slots slots (slot file) r).answer) (step-asked file h b size fresh)

  pub rebuilds-chain : {d : Bool} → Steps slots slots file r h b x n (Ok d) exit
      → Rebuilds file (Ok (record { rebuild = x; len = n.trail.len })) exit
  unfolding told
  rebuilds-chain {d = d} done =
      let z : asks_file file ≡ 0 = not-refused _ _ d (same-answer done) in
      let m : Makes (step slots slots (slot file) (new_rebuild (recovered file))).made h b x n exit =
      rw begun at (done.taken (step-asked file h b size fresh ∙ z)) in
      let long : length exit ≡ 1536 = m.size ∙ size in
      let held : n.trail.len ≤ capacity (length exit) = m.fit.held in
      record { tells = retold-rebuilt file size fresh z m; held = omega arith }

  pub rebuilds-no-chain : {q : Refusal} → Steps slots slots file r h b x n (Err q) exit → Rebuilds file (Err q) exit
  unfolding told
  rebuilds-no-chain {q = q} done =
      let z : (asks_file file ≢ 0) × (number q ≡ asks_file file) = refused-by _ _ (number q) (same-answer done) in
      record { tells = ap refused_text z.1 ∙ sym (retold-refused file z.0); held = tt }

-- ---- what is told
module _ {chain : Result Rebuilt Refusal} (b : List Float) {t u : Writer} where
  pub tells-rebuilt : {x : Rebuilt} {is : Bool} → chain ≡ Ok x → is ≡ is_decided x.rebuild.stage
      → PutsWhole (rebuilt_text (crumbs x.len b) x.rebuild.clock_ms is) t u → PutsWhole (told chain b) t u
  unfolding told
  tells-rebuilt h decided w = rw (h, ← decided) w

  pub tells-refused : {q : Refusal} {n : ℕ} → chain ≡ Err q → n ≡ number q → PutsWhole (refused_text n) t u → PutsWhole (told chain b) t u
  unfolding told
  tells-refused h same w = rw h (rw same at w)

pub retells : {file : List ℕ} {chain : Result Rebuilt Refusal} {b : List Float} {t u : Writer} {f : List ℕ} → Rebuilds file chain b
    → t.at ≡ 0 → PutsWhole (told chain b) t u → f ≡ u.text.now → Retells file t.text.now f u.at
retells {file} {chain} {b} {t} {u} m first w left = rw left (from (rw m.tells at w))
  where
    from : PutsWhole (retold file) t u → Retells file t.text.now u.text.now u.at
    from w =
        let v : Writes (retold file) t.text.now 0 u.text.now u.at = rw first at w.puts.writes in
        record {
          whole = λ room. v.text ∙ take_all (length t.text.now) (retold file) (omega (arith, w.short));
          text = v.text;
          inside = v.inside (omega arith);
          size = v.size;
          behind = v.behind;
        }
