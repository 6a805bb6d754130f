-- The worked cases of an evaluation: calls with a tag, the numbers of a table, coordinates and a lent buffer, what is answered and the words
-- of the buffer after it; and which corners are used.
use Rattle.std.specs.Prelude.{ℕ, ◌≡◌, List, [], ◌∷◌, length, take, replicate}
use Rattle.lut_view_meaning.specs.View.{no_numbers}
use Rattle.lut_view_meaning.specs.declared.TableNumbers.{TableNumbers}
use Rattle.evaluate_meaning.specs.Answer.{Answer, value, refused}
use Rattle.evaluate_meaning.specs.Corners.{corners_of, least, greatest, OnGrid}
use Rattle.evaluate_meaning.specs.Evaluate.{pixel_answer, pixel_after, row_answer, row_after}

pub data Case : Type 0 where
  -- tag, numbers, coordinates, the words lent, and the words after: of one pixel, with as many results as a number says, and of a row
  pixel : List ℕ → TableNumbers → List ℕ → List ℕ → ℕ → List ℕ → Case
  row : List ℕ → TableNumbers → List ℕ → List ℕ → ℕ → List ℕ → Case
  -- the same with the number of a refusal: the words stay
  pixel_refused : List ℕ → TableNumbers → List ℕ → List ℕ → ℕ → Case
  row_refused : List ℕ → TableNumbers → List ℕ → List ℕ → ℕ → Case
  -- a grid and coordinates, and the corners used
  corners : List ℕ → List ℕ → List (List ℕ) → Case
  -- a grid, coordinates of a point of it, and its index
  point : List ℕ → List ℕ → List ℕ → Case
  -- some values, the least and the greatest
  extremes : List ℕ → ℕ → ℕ → Case

-- an answer and the words after it
abbrev Call : Type 0
Call = Answer × List ℕ

abbrev pixel_call : List ℕ → TableNumbers → List ℕ → List ℕ → Call
pixel_call t n xs words = (pixel_answer t n xs (length words), pixel_after t n xs words)

abbrev row_call : List ℕ → TableNumbers → List ℕ → List ℕ → Call
row_call t n xs words = (row_answer t n xs (length words), row_after t n xs words)

unfoldable pub Holds : Case → Type 0
Holds (pixel t n xs words k after) = pixel_call t n xs words ≡ (value k, after)
Holds (row t n xs words k after) = row_call t n xs words ≡ (value k, after)
Holds (pixel_refused t n xs words e) = pixel_call t n xs words ≡ (refused e, words)
Holds (row_refused t n xs words e) = row_call t n xs words ≡ (refused e, words)
Holds (corners gs xs is) = corners_of gs xs ≡ is
Holds (point gs xs i) = OnGrid gs xs i
Holds (extremes vs low high) = (least vs ∷ greatest vs ∷ []) ≡ (low ∷ high ∷ [])

-- start of the entries, bytes of one, inputs and outputs, place of the first grid byte, and the step to the next
abbrev numbers : ℕ → ℕ → ℕ → ℕ → ℕ → ℕ → TableNumbers
numbers start size inputs outputs grid step =
    record { start = record { 0 = start }; entry_size = size; inputs = inputs; outputs = outputs; grid_at = record { 0 = grid }; grid_step = step }

-- two points in each of two dimensions, entries of two bytes, 0, 0, 0 and 2
abbrev square : List ℕ
square = 2 ∷ 2 ∷ 0 ∷ 0 ∷ 0 ∷ 0 ∷ 0 ∷ 0 ∷ 0 ∷ 2 ∷ []

abbrev of_square : TableNumbers
of_square = numbers 2 2 2 1 0 1

-- three points in one dimension: 10, 300 and 65535
abbrev line : List ℕ
line = 3 ∷ 0 ∷ 10 ∷ 1 ∷ 44 ∷ 255 ∷ 255 ∷ []

abbrev of_line : TableNumbers
of_line = numbers 1 2 1 1 0 1

-- the neighbours 1 and 2 of two bytes; and 0 and 1 of one
abbrev wide : List ℕ
wide = 2 ∷ 0 ∷ 1 ∷ 0 ∷ 2 ∷ []

abbrev thin : List ℕ
thin = 2 ∷ 0 ∷ 1 ∷ []

abbrev of_thin : TableNumbers
of_thin = numbers 1 1 1 1 0 1

-- three outputs at each of two points, behind a byte that is none of the table's
abbrev trio : List ℕ
trio = 9 ∷ 2 ∷ 0 ∷ 255 ∷ 100 ∷ 255 ∷ 0 ∷ 50 ∷ []

abbrev of_trio : TableNumbers
of_trio = numbers 2 1 1 3 1 1

-- two points by three, two outputs, the entries 0, 20 and so on
abbrev oblong : List ℕ
oblong = 2 ∷ 3 ∷ 0 ∷ 20 ∷ 40 ∷ 60 ∷ 80 ∷ 100 ∷ 120 ∷ 140 ∷ 160 ∷ 180 ∷ 200 ∷ 220 ∷ []

abbrev of_oblong : TableNumbers
of_oblong = numbers 2 1 2 2 0 1

-- four dimensions of two points, the one grid byte standing for each
abbrev four : List ℕ
four = 2 ∷ 0 ∷ 10 ∷ 34 ∷ 72 ∷ 124 ∷ 190 ∷ 14 ∷ 108 ∷ 216 ∷ 82 ∷ 218 ∷ 112 ∷ 20 ∷ 198 ∷ 134 ∷ 84 ∷ []

abbrev of_four : TableNumbers
of_four = numbers 1 1 4 1 0 0

-- a tag of that shape with room for five dimensions, and a table with a single point in its second dimension
abbrev five : List ℕ
five = 2 ∷ replicate 32 1

abbrev flat : List ℕ
flat = 2 ∷ 1 ∷ 5 ∷ 6 ∷ []

abbrev pub cases : List Case
cases =
    -- the first coordinate is outermost: with the last one outermost the first of these would be 1, and the second 0
    pixel square of_square (16384 ∷ 32768 ∷ []) (9 ∷ []) 1 (0 ∷ []) ∷
    pixel square of_square (32768 ∷ 16384 ∷ []) (9 ∷ []) 1 (1 ∷ []) ∷
    -- both ends of a dimension, and between
    pixel line of_line (0 ∷ []) (9 ∷ []) 1 (10 ∷ []) ∷
    pixel line of_line (65535 ∷ []) (9 ∷ []) 1 (65535 ∷ []) ∷
    pixel line of_line (16384 ∷ []) (9 ∷ []) 1 (155 ∷ []) ∷
    pixel line of_line (32767 ∷ []) (9 ∷ []) 1 (300 ∷ []) ∷
    -- a rest of 1
    pixel line of_line (32768 ∷ []) (9 ∷ []) 1 (301 ∷ []) ∷
    pixel line of_line (65534 ∷ []) (9 ∷ []) 1 (65533 ∷ []) ∷
    -- rounded to the nearest: 32767 65535ths above 1 are 1, and 32768 are 2
    pixel wide of_line (32767 ∷ []) (9 ∷ []) 1 (1 ∷ []) ∷
    pixel wide of_line (32768 ∷ []) (9 ∷ []) 1 (2 ∷ []) ∷
    -- a byte is widened by 257, and before the blend
    pixel thin of_thin (65535 ∷ []) (9 ∷ []) 1 (257 ∷ []) ∷
    pixel thin of_thin (16384 ∷ []) (9 ∷ []) 1 (64 ∷ []) ∷
    pixel thin of_thin (32768 ∷ []) (9 ∷ []) 1 (129 ∷ []) ∷
    -- more outputs and more dimensions; the rest of a longer buffer stays
    pixel trio of_trio (20000 ∷ []) (7 ∷ 7 ∷ 7 ∷ []) 3 (20000 ∷ 45535 ∷ 21778 ∷ []) ∷
    pixel oblong of_oblong (20000 ∷ 50000 ∷ []) (7 ∷ 8 ∷ 9 ∷ 10 ∷ []) 2 (25098 ∷ 30238 ∷ 9 ∷ 10 ∷ []) ∷
    pixel oblong of_oblong (65535 ∷ 0 ∷ []) (7 ∷ 8 ∷ []) 2 (30840 ∷ 35980 ∷ []) ∷
    pixel four of_four (10000 ∷ 20000 ∷ 40000 ∷ 60000 ∷ []) (9 ∷ []) 1 (20228 ∷ []) ∷
    -- no table: no numbers, no inputs, five, no outputs, and entries of no byte and of three
    pixel_refused square no_numbers [] (9 ∷ []) 19 ∷
    pixel_refused line (numbers 1 2 0 1 0 1) [] (9 ∷ []) 19 ∷
    pixel_refused five (numbers 1 1 5 1 0 0) (0 ∷ 0 ∷ 0 ∷ 0 ∷ 0 ∷ []) (9 ∷ []) 19 ∷
    pixel_refused line (numbers 1 2 1 0 0 1) (0 ∷ []) (9 ∷ []) 19 ∷
    pixel_refused line (numbers 1 0 1 1 0 1) (0 ∷ []) (9 ∷ []) 19 ∷
    pixel_refused five (numbers 1 3 1 1 0 1) (0 ∷ []) (9 ∷ []) 19 ∷
    -- one point in a dimension; a grid byte past the tag is 0
    pixel_refused flat (numbers 2 1 2 1 0 1) (0 ∷ 0 ∷ []) (9 ∷ []) 19 ∷
    pixel_refused flat (numbers 0 1 1 1 4 1) (0 ∷ []) (9 ∷ []) 19 ∷
    -- the last entry is one byte past the tag
    pixel_refused (take 6 line) of_line (0 ∷ []) (9 ∷ []) 19 ∷
    -- a coordinate too few, and one too many
    pixel_refused square of_square (0 ∷ []) (9 ∷ []) 19 ∷
    pixel_refused square of_square (0 ∷ 0 ∷ 0 ∷ []) (9 ∷ []) 19 ∷
    -- a short buffer; 19 comes before it
    pixel_refused trio of_trio (0 ∷ []) (7 ∷ 8 ∷ []) 14 ∷
    pixel_refused trio of_trio (0 ∷ 0 ∷ []) (7 ∷ 8 ∷ []) 19 ∷
    pixel_refused (take 7 trio) of_trio (0 ∷ []) (7 ∷ 8 ∷ []) 19 ∷
    -- a row of two pixels, and the rest of its buffer stays; a row of none
    row oblong of_oblong (20000 ∷ 50000 ∷ 65535 ∷ 0 ∷ []) (1 ∷ 2 ∷ 3 ∷ 4 ∷ 5 ∷ []) 4 (25098 ∷ 30238 ∷ 30840 ∷ 35980 ∷ 5 ∷ []) ∷
    row oblong of_oblong [] (1 ∷ 2 ∷ []) 0 (1 ∷ 2 ∷ []) ∷
    row oblong of_oblong [] [] 0 [] ∷
    -- no whole number of pixels; no table, also for a row of none
    row_refused oblong of_oblong (20000 ∷ 50000 ∷ 65535 ∷ []) (1 ∷ 2 ∷ 3 ∷ 4 ∷ []) 19 ∷
    row_refused (take 13 oblong) of_oblong (0 ∷ 0 ∷ []) (1 ∷ 2 ∷ []) 19 ∷
    row_refused oblong no_numbers [] [] 19 ∷
    -- room for one pixel of two; 19 comes before it
    row_refused oblong of_oblong (20000 ∷ 50000 ∷ 65535 ∷ 0 ∷ []) (1 ∷ 2 ∷ 3 ∷ []) 14 ∷
    row_refused oblong of_oblong (20000 ∷ 50000 ∷ 65535 ∷ []) [] 19 ∷
    -- the corners of a cell, of an edge, and of a point
    corners (2 ∷ 3 ∷ []) (1 ∷ 40000 ∷ []) ((0 ∷ 1 ∷ []) ∷ (0 ∷ 2 ∷ []) ∷ (1 ∷ 1 ∷ []) ∷ (1 ∷ 2 ∷ []) ∷ []) ∷
    corners (2 ∷ 3 ∷ []) (65535 ∷ 1 ∷ []) ((1 ∷ 0 ∷ []) ∷ (1 ∷ 1 ∷ []) ∷ []) ∷
    corners (2 ∷ 3 ∷ []) (65535 ∷ 65535 ∷ []) ((1 ∷ 2 ∷ []) ∷ []) ∷
    point (2 ∷ 4 ∷ []) (65535 ∷ 21845 ∷ []) (1 ∷ 1 ∷ []) ∷
    extremes (5 ∷ 2 ∷ 9 ∷ 4 ∷ []) 2 9 ∷
    extremes (0 ∷ []) 0 0 ∷
    []
