-- What an evaluation is answered with, in numbers.
use Rattle.std.specs.Prelude.{ℕ, Result, Ok, Err}
use Rattle.fields.specs.declared.Refusal.{Refusal}
use Rattle.fields.specs.Refusals.{refusal_number}

-- so many results, or the number of a refusal
pub data Answer : Type 0 where
  value : ℕ → Answer
  refused : ℕ → Answer

-- the numbers that a result stands for
abbrev pub in_numbers : Result ℕ Refusal → Answer
in_numbers (Ok n) = value n
in_numbers (Err r) = refused (refusal_number r)
