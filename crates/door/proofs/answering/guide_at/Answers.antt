-- `door::answering::guide_at` meets its contract.
use native.Mathlib.Omega.{arith}
use Rattle.door.proofs.answering.GuideWords.{read_plain}
use Rattle.door.proofs.answering.guide_at.Goals as goal

pub returns : goal.returns
returns c =
    let w = c.args.words.now in
    let direct = c.type_inv.words 4 in
    let track = c.type_inv.words 5 in
    let off = c.type_inv.words 6 in
    simp (c.mode_of.ensures, c.from.ensures, c.then_some.ensures)
    (read_plain w (record { long = c.requires.long; bearing = c.requires.angles.0; heading = c.requires.angles.1 })
    (omega (arith, direct.fits)) (omega (arith, track.fits)) (omega (arith, off.fits)))
