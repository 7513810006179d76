-- That `ride` speaks of every list of calls of machine size: each is what a slice of calls says. `proofs/Covers.antt` proves it.
use Rattle.std.specs.Prelude.{ℕ, ◌*◌, ◌^◌, ◌<◌, ◌≡◌, List, [], ◌∷◌, T, length, Float, ℤ, Option, Some, None}
use Rattle.std.specs.Borrow.{Bor}
use Rattle.std.specs.Int.{w32, w64}
use Rattle.std.proofs.Common.{Fits, SFits}
use Rattle.std.specs.Float.{binary32}
use Rattle.std.specs.Float.Ieee.{fits}
use Rattle.plane.specs.declared.Fix.{Fix}
use Rattle.calls.specs.Calls as rule
use Rattle.calls.specs.Calls.{Loan, no_buffer, crumb_buffer, line_buffer, both_buffers, line_for_course, arguments}
use Rattle.ride.specs.declared.Query.{Query}
use Rattle.ride.specs.declared.Query.TheVariants as query
use Rattle.ride.specs.declared.Call.{Call}
use Rattle.ride.specs.declared.Call.TheVariants as call
use Rattle.ride.specs.Script.{written, pointed}

-- ---- machine size
abbrev pub Each : {A : Type 0} → (A → Type 0) → List A → Type 0
Each P [] = Unit {0}
Each P (x ∷ xs) = P x × Each P xs

-- a slice of elements of a type, of so many bytes each: every slice takes fewer than 2^63 bytes
abbrev pub SliceOf : {A : Type 0} → (A → Type 0) → ℕ → List A → Type 0
SliceOf P bytes xs = Each P xs × (length xs * bytes < 2 ^ 63)

-- the bytes of a reference on a 64-bit machine
abbrev pub reference_bytes : ℕ
reference_bytes = 8

abbrev pub IsF32 : Float → Type 0
IsF32 x = T (fits binary32 x)

-- ---- a call of the rules
abbrev pub lent_line : Loan → List Float
lent_line no_buffer = []
lent_line crumb_buffer = []
lent_line (line_buffer b) = b
lent_line (both_buffers b) = b
lent_line (line_for_course b xs) = b

-- The numbers of the line that it is lent fit in a slice of f32, the latitudes and the longitudes that it is given in one of i32 each, and
-- its clock in a u64.
pub record CallOfMachineSize (c : rule.Call) : Type 0 where
  pub line : SliceOf IsF32 4 (lent_line (arguments c).loan)
  pub lats : SliceOf (λ x. SFits w32 x.lat) 4 (arguments c).points
  pub lons : SliceOf (λ x. SFits w32 x.lon) 4 (arguments c).points
  pub clock : Fits w64 (arguments c).clock

-- And references to all of them fit in a slice. That all their lines fit in one slice, and all their points in one, is not asked.
abbrev pub MachineSize : List rule.Call → Type 0
MachineSize cs = SliceOf CallOfMachineSize reference_bytes cs

-- ---- a call as `ride` is given it
abbrev pub IsFix : Fix → Type 0
IsFix x = SFits w32 x.lat × SFits w32 x.lon

abbrev pub IsPlace : Option Fix → Type 0
IsPlace (Some x) = IsFix x
IsPlace None = Unit {0}

abbrev pub IsLine : List Float → Type 0
IsLine line = SliceOf IsF32 4 line

abbrev pub IsDegrees : List ℤ → Type 0
IsDegrees xs = SliceOf (SFits w32) 4 xs

abbrev pub IsQuery : Query → Type 0
IsQuery (query.Course line) = IsLine line.now
IsQuery _ = Unit {0}

abbrev pub IsCall : Call → Type 0
IsCall (call.Ask q) = IsQuery q
IsCall call.Reset = Unit {0}
IsCall call.EndReplay = Unit {0}
IsCall (call.SetCourse line lats lons) = IsLine line.now × IsDegrees lats.now × IsDegrees lons.now
IsCall (call.SetAutoFollow on) = Unit {0}
IsCall (call.Observe line place now_ms) = IsLine line.now × IsPlace place × Fits w64 now_ms
IsCall (call.Replay fix at_ms) = IsFix fix × Fits w64 at_ms
IsCall (call.SetFollowing line follow now_ms) = IsLine line.now × Fits w64 now_ms

-- a slice of references that says the calls cs, as `ride` is given it, beside a working line of `room` f32
-- Where a reference lies is left open: what `ride` promises sees only what it points to.
pub record Written (cs : List rule.Call) : Type 0 where
  pub room : ℕ
  pub roomy : room * 4 < 2 ^ 63
  pub calls : List (Bor Call)
  pub sized : SliceOf (λ c. IsCall c.now) reference_bytes calls
  pub says : written room (pointed calls) ≡ cs

-- what `ride` promises of the calls that its slice says is so promised of every list of calls
abbrev pub EveryListWritten : Type 0
EveryListWritten = (cs : List rule.Call) → MachineSize cs → Written cs
