-- One call, one answer: a result is determined by the numbers that it stands for, and those by the meaning.
-- Assumes nothing.
use mathlib.Core.Path.{◌≡◌, refl, ap}
use Rattle.fields.proofs.Numbers.{name_of, named}
use Rattle.fields.proofs.Once.{once}
use Rattle.fields.specs.declared.Refusal.{Refusal}
use Rattle.std.specs.Prelude.{Result, Ok, Err}
use Rattle.lut_clut_meaning.specs.Answer.{Answer, value, refused, in_numbers}
use Rattle.lut_clut_meaning.specs.declared.ColourTable.{ColourTable}

-- the result that stands for an answer
abbrev result_from : Answer → Result ColourTable Refusal
result_from (value points start bytes size) = Ok (record { points = points; start = record { 0 = start }; length = bytes; entry_size = size })
result_from (refused n) = Err (name_of n)

back : (r : Result ColourTable Refusal) → result_from (in_numbers r) ≡ r
back (Ok table) = refl
back (Err why) = ap Err (named why)

-- two results that stand for the same answer are one
pub unique : (a : Answer) (r s : Result ColourTable Refusal) → in_numbers r ≡ a → in_numbers s ≡ a → r ≡ s
unique = once in_numbers result_from back
