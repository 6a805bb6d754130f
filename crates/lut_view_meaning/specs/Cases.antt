-- The worked cases of a table view: what is read at a grid index and an output channel, and the numbers of each kind of answer.
use Rattle.std.specs.Prelude.{ℕ, ◌≡◌, true, List, [], ◌∷◌, ◌++◌, replicate}
use Rattle.lut_meaning.specs.Answer.{State, mft, abm, absent as State·absent, refused}
use Rattle.lut_view_meaning.specs.Answer.{Answer, value, absent}
use Rattle.lut_view_meaning.specs.View.{no_numbers, numbers_of, table_by, entry_of}
use Rattle.lut_view_meaning.specs.declared.TableNumbers.{TableNumbers}

-- tag, the numbers of the view, index, channel, and the answer; and an answer of the reader of lookup tables, and its numbers
pub data Case : Type 0 where
  reads : List ℕ → TableNumbers → List ℕ → ℕ → Answer → Case
  numbers : State → TableNumbers → Case

unfoldable pub Holds : Case → Type 0
Holds (reads t v index channel a) = entry_of t (table_by t v) index channel ≡ a
Holds (numbers s v) = numbers_of s ≡ v

-- the colour table of an `mAB ` tag alone: two points in each of three dimensions, three outputs, the entries 0 to 23 of one byte
abbrev pub cube : List ℕ
cube =
    2 ∷ 2 ∷ 2 ∷ (replicate 13 0 ++ (1 ∷ 0 ∷ 0 ∷ 0 ∷ 0 ∷ 1 ∷ 2 ∷ 3 ∷ 4 ∷ 5 ∷ 6 ∷ 7 ∷ 8 ∷ 9 ∷ 10 ∷ 11 ∷ 12 ∷ 13 ∷ 14 ∷ 15 ∷ 16 ∷ 17 ∷ 18 ∷ 19 ∷ 20 ∷ 21 ∷ 22 ∷ 23 ∷ []))

abbrev pub of_cube : ℕ → ℕ → TableNumbers
of_cube start grid = record { start = record { 0 = start }; entry_size = 1; inputs = 3; outputs = 3; grid_at = record { 0 = grid }; grid_step = 1 }

-- as `mft2` has it: byte 10 is the points of each dimension, and four entries of two bytes follow, 1, 256, 65535 and 7
abbrev pub square : List ℕ
square = replicate 10 0 ++ (2 ∷ 0 ∷ 0 ∷ 1 ∷ 1 ∷ 0 ∷ 255 ∷ 255 ∷ 0 ∷ 7 ∷ [])

abbrev pub of_square : ℕ → TableNumbers
of_square start = record { start = record { 0 = start }; entry_size = 2; inputs = 2; outputs = 1; grid_at = record { 0 = 10 }; grid_step = 0 }

-- an `mft2` with such a table at 60, and an `mAB ` with a cube at 52, whose grid bytes are those from 32 on
abbrev pub square_answer : State
square_answer =
    mft record { size = 2; inputs = 2; outputs = 1; grid = 2; input_entries_of = 2; output_entries_of = 2; input_start_of = 52; input_bytes = 8; clut_start_of = 60; clut_bytes = 8; output_start_of = 68; output_bytes = 4 }

abbrev pub cube_answer : State
cube_answer = abm record { to_pcs_of = true; inputs = 3; outputs = 3; start = 52; bytes = 24; size = 1; a = 3; m = 0; b = 3 }

abbrev pub zeros : TableNumbers
zeros = record { start = record { 0 = 0 }; entry_size = 0; inputs = 0; outputs = 0; grid_at = record { 0 = 0 }; grid_step = 0 }

-- the eighth view starts one byte too far, so that its last entry is not in the tag
abbrev pub cases : List Case
cases =
    reads cube (of_cube 20 0) (0 ∷ 0 ∷ 1 ∷ []) 0 (value 3) ∷
    reads cube (of_cube 20 0) (1 ∷ 0 ∷ 0 ∷ []) 0 (value 12) ∷
    reads cube (of_cube 20 0) (1 ∷ 1 ∷ 1 ∷ []) 2 (value 23) ∷
    reads cube (of_cube 20 0) (0 ∷ 0 ∷ 0 ∷ []) 3 absent ∷
    reads cube (of_cube 20 0) (0 ∷ 0 ∷ 2 ∷ []) 0 absent ∷
    reads cube (of_cube 20 0) (1 ∷ 1 ∷ []) 0 absent ∷
    reads cube (of_cube 20 0) (1 ∷ 1 ∷ 1 ∷ 0 ∷ []) 0 absent ∷
    reads cube (of_cube 21 0) (1 ∷ 1 ∷ 1 ∷ []) 2 absent ∷
    reads square (of_square 12) (0 ∷ 1 ∷ []) 0 (value 256) ∷
    reads square (of_square 12) (1 ∷ 0 ∷ []) 0 (value 65535) ∷
    reads square no_numbers [] 0 absent ∷
    numbers square_answer (of_square 60) ∷
    numbers cube_answer (of_cube 52 32) ∷
    numbers State·absent zeros ∷
    numbers (refused 9) zeros ∷
    []
