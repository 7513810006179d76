-- A fix placed in the ride's frame. Document 01, "Fix"; homing.rs, `frame`.
use Rattle.std.specs.Prelude.{Float, Option, Some, None}
use Rattle.plane.specs.declared.Point.{Point}
use Rattle.plane.specs.Fix.{east_per_e7, frame}
use Rattle.plane.specs.declared.Fix.{Fix}
use Rattle.state.specs.declared.Frame.{Frame}

-- the first fix is the origin, and gives the east factor; later ones change neither
unfoldable pub located_from : Option Fix → Fix → Frame → Frame
located_from (Some origin) x f = f
located_from None x f = record { origin = Some x; east_per_e7 = east_per_e7 x.lat }

unfoldable pub located : Fix → Frame → Frame
located x f = located_from f.origin x f

-- the place of a fix; without an origin the fix itself is where places are counted from
unfoldable pub framed_from : Option Fix → Float → Fix → Point
framed_from (Some origin) factor x = frame origin factor x
framed_from None factor x = frame x factor x

unfoldable pub framed : Frame → Fix → Point
framed f x = framed_from f.origin f.east_per_e7 x
