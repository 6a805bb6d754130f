-- The status and the words of a lookup table's answer, and of an entry's, and how they are laid out.
use Rattle.std.specs.Prelude.{ℕ, ◌-◌, ◌%◌, cond, List, [], ◌∷◌, ◌++◌, eqb, get_or}
use Rattle.fields.specs.Tag.{signature_of}
use Rattle.fields.specs.declared.Kind.TheVariants.{Mft1, Mft2, Mab, Mba}
use Rattle.lut_mft_meaning.specs.Answer.{Fields}
use Rattle.lut_mft_meaning.specs.Answer.{fields_from}
use Rattle.lut_meaning.specs.Answer.{Abm, State, Answer, table_from}
use Rattle.lut_meaning.specs.declared.Lut.{Lut}
use Rattle.lut_view_meaning.specs.Answer.{Answer as Entry-as-Answer}
use Rattle.lut_view_meaning.specs.View.{no_numbers}
use Rattle.lut_view_meaning.specs.declared.TableNumbers.{TableNumbers}
use Rattle.export_words.specs.Exported.{Exported, value, only, absent, unsigned, signed_from}
use Rattle.export_words.specs.declared.Layout.{Layout}

-- `mft1` and `mft2`: the type, channels, grid points, entries; the matrix; the range of each table
abbrev pub mft_head : Fields → List ℕ
mft_head f =
    cond (eqb f.size 1) (signature_of Mft1) (signature_of Mft2) ∷ f.inputs ∷ f.outputs ∷ f.grid ∷ f.input_entries_of ∷ f.output_entries_of ∷ []

abbrev pub mft_ranges : Fields → List ℕ
mft_ranges f = f.input_start_of ∷ f.input_bytes ∷ f.clut_start_of ∷ f.clut_bytes ∷ f.output_start_of ∷ f.output_bytes ∷ []

-- `mAB ` and `mBA `: the type, channels; grid bytes, matrix and bias; the range of the colour table, the bytes of an entry, and the curves of
-- each run
abbrev pub abm_head : Abm → List ℕ
abm_head f = cond f.to_pcs_of (signature_of Mab) (signature_of Mba) ∷ f.inputs ∷ f.outputs ∷ []

abbrev pub abm_parts : Abm → List ℕ
abm_parts f = f.start ∷ f.bytes ∷ f.size ∷ f.a ∷ f.m ∷ f.b ∷ []

abbrev pub lut_exported_by : State → List ℕ → List ℕ → List ℕ → Exported
lut_exported_by (State.mft f) grid matrix bias = value (mft_head f ++ matrix ++ mft_ranges f)
lut_exported_by (State.abm f) grid matrix bias = value (abm_head f ++ grid ++ matrix ++ bias ++ abm_parts f)
lut_exported_by State.absent grid matrix bias = absent
lut_exported_by (State.refused n) grid matrix bias = only n

abbrev pub lut_exported : Answer → Exported
lut_exported a = lut_exported_by a.state a.grid a.matrix a.bias

-- the words of a lookup table
abbrev pub lut_words : Lut → List ℕ
lut_words (Lut.Mft m) = mft_head (fields_from m.table) ++ m.matrix ++ mft_ranges (fields_from m.table)
lut_words (Lut.Abm l) = abm_head (table_from l.table) ++ l.grid ++ l.matrix ++ l.bias ++ abm_parts (table_from l.table)

-- the entry
abbrev pub entry_words : ℕ → List ℕ
entry_words n = n ∷ []

abbrev pub entry_exported : Entry-as-Answer → Exported
entry_exported (Entry-as-Answer.value n) = value (n ∷ [])
entry_exported Entry-as-Answer.absent = absent

-- of `mft1` and `mft2` the matrix is signed, of `mAB ` and `mBA ` the matrix and the bias
abbrev pub mft_layout : Layout
mft_layout = signed_from 21 6 15

abbrev pub abm_layout : Layout
abm_layout = signed_from 37 19 31

-- by the first word, the type's signature
unfoldable pub lut_layout : ℕ → Layout
lut_layout type = cond (eqb type (signature_of Mft1)) mft_layout (cond (eqb type (signature_of Mft2)) mft_layout abm_layout)

abbrev pub entry_layout : Layout
entry_layout = unsigned 1

-- the numbers of the colour table, taken from the words as a caller must: those that are bytes from the low byte of a word. The grid of `mft1`
-- and `mft2` is byte 10 for all dimensions, that of `mAB ` and `mBA ` stands 20 before the entries
abbrev pub mft_numbers : ℕ → List ℕ → TableNumbers
mft_numbers size ws =
    record { start = record { 0 = get_or ws 17 0 }; entry_size = size; inputs = get_or ws 1 0 % 256; outputs = get_or ws 2 0 % 256; grid_at = record { 0 = 10 }; grid_step = 0 }

abbrev pub abm_numbers : List ℕ → TableNumbers
abm_numbers ws =
    record { start = record { 0 = get_or ws 31 0 }; entry_size = get_or ws 33 0 % 256; inputs = get_or ws 1 0 % 256; outputs = get_or ws 2 0 % 256; grid_at = record { 0 = get_or ws 31 0 - 20 }; grid_step = 1 }

unfoldable pub numbers_in : List ℕ → TableNumbers
numbers_in ws =
    cond (eqb (get_or ws 0 0) (signature_of Mft1)) (mft_numbers 1 ws) (
    cond (eqb (get_or ws 0 0) (signature_of Mft2)) (mft_numbers 2 ws) (
    cond (eqb (get_or ws 0 0) (signature_of Mab)) (abm_numbers ws) (
    cond (eqb (get_or ws 0 0) (signature_of Mba)) (abm_numbers ws)
    no_numbers)))
