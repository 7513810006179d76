-- For the functions inside: two crumbs between which every crumb fits. What a crumb must meet is `crumb_fits`.
use Rattle.std.specs.Prelude.{◌^◌, Float}
use Rattle.std.specs.Float.Ieee.{neg}
use Rattle.binary32.specs.Arithmetic.{constant}
use Rattle.binary32.specs.Limits.{plus_zero}
use Rattle.crumbs.specs.declared.Crumb.{Crumb}

unfoldable pub place_most : Float
place_most = constant (10 ^ 8) 1

unfoldable pub along_sure : Float
along_sure = constant (10 ^ 15) 1

unfoldable pub least_sure : Crumb
least_sure = record { east = neg place_most; north = neg place_most; along = plus_zero }

unfoldable pub most_sure : Crumb
most_sure = record { east = place_most; north = place_most; along = along_sure }
