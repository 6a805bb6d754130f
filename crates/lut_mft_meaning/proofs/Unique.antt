-- One call, one answer: a result is determined by the numbers that it stands for, and those by the meaning.
-- Assumes nothing.
use mathlib.Core.Path.{◌≡◌, refl, ap}
use Rattle.fields.proofs.Numbers.{name_of, named}
use Rattle.fields.proofs.Once.{once}
use Rattle.lut_mft_meaning.specs.Answer.{Fields, State, value, refused, Answer, in_numbers}
use Rattle.lut_mft_meaning.specs.declared.Mft.{Mft}
use Rattle.fields.specs.declared.Refusal.{Refusal}
use Rattle.std.specs.Prelude.{ℕ, List, Result, Ok, Err}
use Rattle.lut_mft_meaning.specs.declared.MftTable.{MftTable}

-- the result that stands for an answer
abbrev pub table_from : Fields → MftTable
table_from f =
    record {
      entry_size = f.size;
      inputs = f.inputs;
      outputs = f.outputs;
      grid = f.grid;
      input_entries = f.input_entries_of;
      output_entries = f.output_entries_of;
      input_start = record { 0 = f.input_start_of };
      input_length = f.input_bytes;
      clut_start = record { 0 = f.clut_start_of };
      clut_length = f.clut_bytes;
      output_start = record { 0 = f.output_start_of };
      output_length = f.output_bytes;
    }

abbrev result_by : State → List ℕ → Result Mft Refusal
result_by (value f) matrix = Ok (record { table = table_from f; matrix = matrix })
result_by (refused n) matrix = Err (name_of n)

abbrev result_from : Answer → Result Mft Refusal
result_from a = result_by a.state a.matrix

back : (r : Result Mft Refusal) → result_from (in_numbers r) ≡ r
back (Ok m) = refl
back (Err why) = ap Err (named why)

-- two results that stand for the same answer are one
pub unique : (a : Answer) (r s : Result Mft Refusal) → in_numbers r ≡ a → in_numbers s ≡ a → r ≡ s
unique = once in_numbers result_from back
