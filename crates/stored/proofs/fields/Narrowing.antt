-- A word read as a narrower type, as 0 where it does not fit. Assumes nothing.
use Rattle.std.proofs.Common.{◌≡◌, ℕ, ◌+◌, ◌<◌, Result, Ok, Err, cond, leb, sym, ap, ◌∙◌, arith}
use Rattle.std.specs.Result.{OkIff, result_unwrap_or}
use borrow.Author.Tests.{le-leb, lt-leb}

pub narrowed : {E : Type 0} (most n : ℕ) (r : Result ℕ E) → OkIff r (n < most + 1) n → result_unwrap_or r 0 ≡ cond (leb n most) n 0
narrowed most n (Ok x) h = h.1 ∙ sym (ap (λ b. cond b n 0) (le-leb n most (omega (arith, h.0))))
narrowed most n (Err e) h = sym (ap (λ b. cond b n 0) (lt-leb n most (above n most h)))
  where
    above : (n most : ℕ) → (n < most + 1 → ⊥) → most < n
    above n most h = omega arith
