-- `plane::squares::off_square` meets its contract.
use Rattle.plane.specs.Square.{off_square}
use Rattle.plane.proofs.squares.off_square.Goals as goal

pub returns : goal.returns
unfolding off_square
returns c = cc
