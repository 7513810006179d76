-- What an export does with what it is lent: it does what the call does on the state it reads.
use Rattle.std.specs.Prelude.{ℕ, ◌≡◌, ◌≢◌, Bool, not, List, eqb, Float, Some, None, Result, Ok, Err}
use Rattle.refusal.specs.declared.Refusal.{Refusal}
use Rattle.state.specs.declared.Homing.{Homing}
use Rattle.calls.specs.Questions.{question1, unless, ◌or_else◌}
use Rattle.stored.specs.Stored.{stored, Stores}

-- ---- answers as numbers
-- The values behind an export's `&mut` parameters: `write a` makes those of the answer a from those that came in, and a refusal leaves
-- these.
abbrev pub values_of : {A W : Type 0} → (A → W → W) → Result A Refusal → W → W
values_of write (Err q) was = was
values_of write (Ok a) was = write a was

-- a flag that comes in: anything but 0 means yes
abbrev pub is_set : ℕ → Bool
is_set flag = not (eqb flag 0)

-- ---- slices that hold no state
-- the number where nothing else is asked first
abbrev pub no_state : ℕ
no_state = 10

-- the number where a crumb buffer of `size` numbers is lent: question 1 comes first
abbrev pub no_state_with : ℕ → ℕ
no_state_with size = unless (question1 size) 1 or_else no_state

-- ---- a call that changes the guide
-- What becomes of the words w and the numbers n when a call gives the state h: taken, they hold that state, and what lies behind it is as
-- it was; refused, they are as they were.
pub record Leaves (number : ℕ) (h : Homing) (w : List ℕ) (n : List Float) (w' : List ℕ) (n' : List Float) : Type 0 where
  pub taken : number ≡ 0 → Stores h w n w' n'
  pub refused : number ≢ 0 → (w' ≡ w) × (n' ≡ n)

-- `does h r number`: the call takes the state h to r and is refused by the question with this number, 0 where by none. `unread` is the
-- number where the slices hold no state, and `untouched` says that what else is lent is as it was.
pub record ChangesStored (unread : ℕ) (does : Homing → Homing → ℕ → Type 0) (untouched : Type 0) (w : List ℕ) (n : List Float) (number : ℕ)
    (w' : List ℕ) (n' : List Float) : Type 0 where
  pub nothing : stored w n ≡ None → (number ≡ unread) × ((w' ≡ w) × ((n' ≡ n) × untouched))
  pub state : (h : Homing) → stored w n ≡ Some h → (r : Homing) × (does h r number × Leaves number r w n w' n')
