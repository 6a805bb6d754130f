-- What each call must answer, and what it leaves in the lent buffer: of one pixel, and of a row of them, whose coordinates and results stand
-- pixel after pixel. The table is the one that a view shows by the same numbers (`table_by`).
use Rattle.std.specs.Prelude.{ℕ, zero, suc, ◌+◌, ◌*◌, ◌/◌, ◌%◌, ◌≡◌, Bool, cond, ◌||◌, not, Result, List, [], ◌++◌, ltb, eqb, length, take, drop}
use Rattle.fields.specs.declared.Refusal.{Refusal}
use Rattle.fields.specs.Refusals.{no_colour_table, too_few_slots}
use Rattle.fields.specs.Some.{some}
use Rattle.lut_clut_meaning.specs.Clut.{is_flat}
use Rattle.lut_clut_meaning.specs.Table.{Table, length_of}
use Rattle.lut_view_meaning.specs.View.{table_by}
use Rattle.lut_view_meaning.specs.declared.TableNumbers.{TableNumbers}
use Rattle.evaluate_meaning.specs.Answer.{Answer, value, refused, in_numbers}
use Rattle.evaluate_meaning.specs.Colour.{colour}

-- not 1 to 4 inputs, no output, or entries of neither one byte nor two
unfoldable pub odd_numbers : TableNumbers → Bool
odd_numbers n = ltb n.inputs 1 || ltb 4 n.inputs || ltb n.outputs 1 || ltb n.entry_size 1 || ltb 2 n.entry_size

-- a dimension below 2, or entries past the tag
unfoldable pub outside : List ℕ → Table → Bool
outside t table = some is_flat table.grid || ltb (length t) (table.start + length_of table)

-- the numbers name no colour table of 1 to 4 inputs in the tag
unfoldable pub no_table : List ℕ → TableNumbers → Bool
no_table t n = odd_numbers n || outside t (table_by t n)

-- results in front of the words that stood behind them, or all words as they were
abbrev pub written : Answer → List ℕ → List ℕ → List ℕ
written (value k) results words = results ++ drop k words
written (refused e) results words = words

-- ---- one pixel

-- 19 without a table or a coordinate for each of its inputs, then 14, else as many results as it has outputs
unfoldable pub pixel_answer : List ℕ → TableNumbers → List ℕ → ℕ → Answer
pixel_answer t n xs room =
    cond (no_table t n || not (eqb (length xs) n.inputs)) (refused no_colour_table) (
    cond (ltb room n.outputs) (refused too_few_slots) (
    value n.outputs))

unfoldable pub pixel_after : List ℕ → TableNumbers → List ℕ → List ℕ → List ℕ
pixel_after t n xs words = written (pixel_answer t n xs (length words)) (colour t (table_by t n) xs) words

-- what a call promises: its answer, and the words of the buffer after it
pub record Evaluated (t : List ℕ) (n : TableNumbers) (xs words : List ℕ) (r : Result ℕ Refusal) (after : List ℕ) : Type 0 where
  pub answer : in_numbers r ≡ pixel_answer t n xs (length words)
  pub left : after ≡ pixel_after t n xs words

-- ---- a row

-- the results of so many pixels
unfoldable pub colours_of : List ℕ → TableNumbers → List ℕ → ℕ → List ℕ
colours_of t n xs zero = []
colours_of t n xs (suc k) = colour t (table_by t n) (take n.inputs xs) ++ colours_of t n (drop n.inputs xs) k

-- how many pixels the coordinates are
abbrev pub pixels_of : TableNumbers → List ℕ → ℕ
pixels_of n xs = length xs / n.inputs

-- 19 without a table or where the coordinates are no whole number of pixels, then 14, else as many results as all pixels have
unfoldable pub row_answer : List ℕ → TableNumbers → List ℕ → ℕ → Answer
row_answer t n xs room =
    cond (no_table t n || not (eqb (length xs % n.inputs) 0)) (refused no_colour_table) (
    cond (ltb room (pixels_of n xs * n.outputs)) (refused too_few_slots) (
    value (pixels_of n xs * n.outputs)))

unfoldable pub row_after : List ℕ → TableNumbers → List ℕ → List ℕ → List ℕ
row_after t n xs words = written (row_answer t n xs (length words)) (colours_of t n xs (pixels_of n xs)) words

pub record RowEvaluated (t : List ℕ) (n : TableNumbers) (xs words : List ℕ) (r : Result ℕ Refusal) (after : List ℕ) : Type 0 where
  pub answer : in_numbers r ≡ row_answer t n xs (length words)
  pub left : after ≡ row_after t n xs words
