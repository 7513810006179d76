-- `plane::squares::square` meets its contract.
use Rattle.plane.specs.Square.{square}
use Rattle.plane.proofs.squares.square.Goals as goal

pub returns : goal.returns
unfolding square
returns c = cc
