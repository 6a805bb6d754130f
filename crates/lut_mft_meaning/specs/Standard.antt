-- A lut16Type or lut8Type as the standard writes it (crate `icc`), what this library asks of one besides, and what it answers: channels, grid,
-- entries, and where the three tables lie.
use Rattle.std.specs.Prelude.{ℕ, ◌+◌, ◌*◌, ◌^◌, ◌≤◌, ◌≡◌, List, ◌++◌, ◌⊎◌, length}
use Rattle.icc.specs.Numbers.{Each16, Each32}
use Rattle.icc.specs.Tables.{Lut, nine, Sized, Entries16, lut16_type, lut8_type}
use Rattle.lut_mft_meaning.specs.Answer.{Fields}

-- entries of so many bytes; the first table starts there, and each other behind the one before
abbrev pub fields_told : (size start input_entries_of output_entries_of : ℕ) → Lut → Fields
fields_told size start input_entries_of output_entries_of l =
    let a = size * length l.input_tables in
    let b = size * length l.clut in
    let c = size * length l.output_tables in
    record {
      size = size;
      inputs = l.input_channels;
      outputs = l.output_channels;
      grid = l.grid_points;
      input_entries_of = input_entries_of;
      output_entries_of = output_entries_of;
      input_start_of = start;
      input_bytes = a;
      clut_start_of = start + a;
      clut_bytes = b;
      output_start_of = start + a + b;
      output_bytes = c;
    }

abbrev pub fields_told16 : (input_entries_of output_entries_of : ℕ) → Lut → Fields
fields_told16 input_entries_of output_entries_of l = fields_told 2 52 input_entries_of output_entries_of l

abbrev pub fields_told8 : Lut → Fields
fields_told8 l = fields_told 1 48 256 256 l

-- what this library asks: one to four channels on each side, three on one of them, two points or more in each dimension, no more in all
-- than the limit, and numbers of 32 bits
pub record Taken (limit : ℕ) (l : Lut) : Type 0 where
  pub some_inputs : 1 ≤ l.input_channels
  pub few_inputs : l.input_channels ≤ 4
  pub some_outputs : 1 ≤ l.output_channels
  pub few_outputs : l.output_channels ≤ 4
  pub three : (l.input_channels ≡ 3) ⊎ (l.output_channels ≡ 3)
  pub wide : 2 ≤ l.grid_points
  pub within : l.grid_points ^ l.input_channels ≤ limit
  pub matrix : Each32 (nine l.matrix)

-- the bytes t begin with a lut16Type that is answered by the fields; with a lut8Type
pub record Begins16 (limit : ℕ) (t : List ℕ) (f : Fields) (m : List ℕ) : Type 0 where
  pub reserved : ℕ
  pub reserved2 : ℕ
  pub input_entries_of : ℕ
  pub output_entries_of : ℕ
  pub lut : Lut
  pub rest : List ℕ
  pub input_entries_lem : Entries16 input_entries_of
  pub output_entries_lem : Entries16 output_entries_of
  pub sized : Sized input_entries_of output_entries_of lut
  pub taken : Taken limit lut
  pub entries_fit : Each16 lut.clut
  pub told_is : f ≡ fields_told16 input_entries_of output_entries_of lut
  pub matrix_is : m ≡ nine lut.matrix
  pub is : t ≡ lut16_type reserved reserved2 input_entries_of output_entries_of lut ++ rest

pub record Begins8 (limit : ℕ) (t : List ℕ) (f : Fields) (m : List ℕ) : Type 0 where
  pub reserved : ℕ
  pub reserved2 : ℕ
  pub lut : Lut
  pub rest : List ℕ
  pub sized : Sized 256 256 lut
  pub taken : Taken limit lut
  pub told_is : f ≡ fields_told8 lut
  pub matrix_is : m ≡ nine lut.matrix
  pub is : t ≡ lut8_type reserved reserved2 lut ++ rest
