-- What is read at a grid index, in numbers.
use Rattle.std.specs.Prelude.{ℕ, Option, Some, None}

-- the entry as it is stored, or none
pub data Answer : Type 0 where
  value : ℕ → Answer
  absent : Answer

-- the numbers that a result stands for
abbrev pub in_numbers : Option ℕ → Answer
in_numbers (Some n) = value n
in_numbers None = absent

-- and the result that stands for numbers
abbrev pub result_from : Answer → Option ℕ
result_from (value n) = Some n
result_from absent = None
