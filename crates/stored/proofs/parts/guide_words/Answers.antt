-- `stored::parts::guide_words` meets its contract.
use Prim.Native.Nat.{◌≤◌}
use native.Mathlib.Omega.{arith}
use Rattle.stored.proofs.fields.Fitting.{and_in, mode-most, flag-most}
use Rattle.stored.proofs.parts.guide_words.Goals as goal

pub returns : goal.returns
returns c =
    let g = c.args.g in
    let direct : g.direct_m ≤ 4294967295 = omega arith in
    let track : g.track_m ≤ 4294967295 = omega arith in
    let off : g.off_m ≤ 4294967295 = omega arith in
    let bearing : g.bearing ≤ 65535 = omega arith in (
      simp (
        c.mode_tag.ensures,
        c.from.ensures,
        c.from-2.ensures,
        c.from-3.ensures,
        c.from-4.ensures,
        c.from-5.ensures,
        c.from-6.ensures,
        c.from-7.ensures,
        c.heading_words.ensures.0,
      ),
      (and_in (mode-most g.mode) (and_in (flag-most g.following) (and_in (flag-most g.course) (and_in (flag-most g.course_near)
          (and_in direct (and_in track (and_in off (and_in bearing (record { ok = c.heading_words.ensures.1 }))))))))).ok,
    )
