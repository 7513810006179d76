-- The words of a whole state, each within its type. Assumes nothing.
use mathlib.Core.Path.{◌≡◌, refl}
use mathlib.Core.Bool.{true}
use lib.ListN.{length, take, drop}
use Rattle.state.specs.declared.Homing.{Homing}
use Rattle.stored.specs.Fields.{within}
use Rattle.stored.specs.Parts.{PlaceFits}
use Rattle.stored.specs.Stored.{mosts, words_of, StateFits}
use Rattle.stored.proofs.fields.Fitting.{append-in}

pub words-fit : (h : Homing) → within (take 22 mosts) (take 22 (words_of h)) ≡ true → within (drop 22 mosts) (drop 22 (words_of h)) ≡ true
    → PlaceFits h.frame.origin → PlaceFits h.fed → length h.window ≡ 96 → StateFits h
unfolding mosts words_of
words-fit h a b s t u =
    record {
      words = append-in (take 22 mosts) (take 22 (words_of h)) (drop 22 mosts) (drop 22 (words_of h)) refl a b;
      origin = s;
      fed = t;
      window = u;
    }
