-- `stored::state_words::front_words` meets its contract.
use Prim.Native.Nat.{◌≤◌}
use mathlib.Core.Path.{◌≡◌}
use native.Mathlib.Omega.{arith}
use lib.ListN.{length}
use borrow.Author.Rules.{rules}
use Rattle.stored.specs.Words.{words_of}
use Rattle.stored.proofs.state_words.Placing.{front_fits}
use Rattle.stored.proofs.state_words.front_words.Goals as goal

pub returns : goal.returns
unfolding words_of
returns c =
    let h = c.args.h in
    let held : h.trail.len ≤ 18446744073709551615 = omega arith in
    let waiting : h.trail.window_len ≤ 18446744073709551615 = omega arith in
    let turning : h.trail.retrace ≤ 255 = omega arith in
    let turned : h.trail.retrace_len ≤ 18446744073709551615 = omega arith in
    let seen : h.here_ms ≤ 18446744073709551615 = omega (arith, c.well_formed.0.1.1.1.1.1.1.1.0.1) in
    let long : length h.window ≡ 96 = search rules in
    let origin = c.place_words-origin.ensures in
    let fed = c.place_words-fed.ensures in
    let motion = c.motion_words-motion.ensures in
    let follow = c.follow_words-follow.ensures in (
      simp (c.from.ensures, c.from-2.ensures, c.is_some.ensures, origin.0, fed.0, motion.0, follow.0),
      front_fits h held waiting turning turned origin.1 fed.1 seen motion.1 follow.1,
      origin.2,
      fed.2,
      long,
    )
