-- What the reader of `mft1` and `mft2` answers, in numbers.
use Rattle.std.specs.Prelude.{ℕ, List, replicate, Result, Ok, Err}
use Rattle.lut_clut_meaning.specs.Table.{Table, length_of}
use Rattle.fields.specs.Refusals.{refusal_number}
use Rattle.lut_mft_meaning.specs.Layout.{entry_size_of, inputs, outputs, grid_points, matrix_of, input_entries_of, output_entries_of, tables_start, input_length_of, colour_table, output_start_of, output_length_of}
use Rattle.lut_mft_meaning.specs.declared.Mft.{Mft}
use Rattle.fields.specs.declared.Refusal.{Refusal}
use Rattle.lut_mft_meaning.specs.declared.MftTable.{MftTable}

-- the bytes of an entry, which tell the type; channels, grid points, entries, and where each table starts and how many bytes it has
pub record Fields : Type 0 where
  pub size : ℕ
  pub inputs : ℕ
  pub outputs : ℕ
  pub grid : ℕ
  pub input_entries_of : ℕ
  pub output_entries_of : ℕ
  pub input_start_of : ℕ
  pub input_bytes : ℕ
  pub clut_start_of : ℕ
  pub clut_bytes : ℕ
  pub output_start_of : ℕ
  pub output_bytes : ℕ

pub data State : Type 0 where
  value : Fields → State
  refused : ℕ → State

-- the matrix stands beside it
pub record Answer : Type 0 where
  pub state : State
  pub matrix : List ℕ

-- the numbers that a result stands for
abbrev pub fields_from : MftTable → Fields
fields_from t =
    record {
      size = t.entry_size;
      inputs = t.inputs;
      outputs = t.outputs;
      grid = t.grid;
      input_entries_of = t.input_entries;
      output_entries_of = t.output_entries;
      input_start_of = t.input_start.0;
      input_bytes = t.input_length;
      clut_start_of = t.clut_start.0;
      clut_bytes = t.clut_length;
      output_start_of = t.output_start.0;
      output_bytes = t.output_length;
    }

abbrev pub state_from : Result MftTable Refusal → State
state_from (Ok t) = value (fields_from t)
state_from (Err why) = refused (refusal_number why)

-- a refusal has no matrix: zeros stand beside it
abbrev pub in_numbers : Result Mft Refusal → Answer
in_numbers (Ok m) = record { state = value (fields_from m.table); matrix = m.matrix }
in_numbers (Err why) = record { state = refused (refusal_number why); matrix = replicate 9 0 }

-- what is answered of a tag that is good
unfoldable pub fields_of : List ℕ → Fields
fields_of t =
    record {
      size = entry_size_of t;
      inputs = inputs t;
      outputs = outputs t;
      grid = grid_points t;
      input_entries_of = input_entries_of t;
      output_entries_of = output_entries_of t;
      input_start_of = tables_start t;
      input_bytes = input_length_of t;
      clut_start_of = (colour_table t).start;
      clut_bytes = length_of (colour_table t);
      output_start_of = output_start_of t;
      output_bytes = output_length_of t;
    }

-- the colour table that an answer tells of
abbrev pub told_table : Fields → Table
told_table f = record { grid = replicate f.inputs f.grid; outputs = f.outputs; start = f.clut_start_of; size = f.size }

-- the matrix of a value, and zeros beside a refusal
unfoldable pub answer_of : List ℕ → State → Answer
answer_of t (value f) = record { state = value f; matrix = matrix_of t }
answer_of t (refused n) = record { state = refused n; matrix = replicate 9 0 }
