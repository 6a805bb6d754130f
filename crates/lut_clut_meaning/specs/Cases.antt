-- The worked cases of the colour table: calls at an offset of a tag, and their answers.
use Rattle.std.specs.Prelude.{ℕ, pred, ◌≡◌, List, [], ◌∷◌, ◌++◌, map, take, replicate}
use Rattle.fields.specs.Checked.{Checked, good, bad}
use Rattle.lut_clut_meaning.specs.Answer.{Answer, value, refused, answer_of}
use Rattle.lut_clut_meaning.specs.Clut.{clut_of}
use Rattle.lut_clut_meaning.specs.Table.{Table, entries_of, point_of, entry_number}

pub data Case : Type 0 where
  -- tag, input and output channels, and the answer at offset 0
  gives : List ℕ → ℕ → ℕ → Answer → Case
  -- tag, offset, input and output channels, and the answer
  gives_at : List ℕ → ℕ → ℕ → ℕ → Answer → Case
  -- tag, input and output channels, and of the table there the entries and the last entry's number
  numbers : List ℕ → ℕ → ℕ → List ℕ → Case
  -- a grid, and the number of one of its points
  point : List ℕ → List ℕ → ℕ → Case

unfoldable pub numbers_in : Checked Table → List ℕ
numbers_in (good table) = entries_of table ∷ entry_number table (map pred table.grid) (pred table.outputs) ∷ []
numbers_in (bad n) = []

unfoldable pub Holds : Case → Type 0
Holds (gives t inputs outputs a) = answer_of (clut_of t 0 inputs outputs) ≡ a
Holds (gives_at t at inputs outputs a) = answer_of (clut_of t at inputs outputs) ≡ a
Holds (numbers t inputs outputs ns) = numbers_in (clut_of t 0 inputs outputs) ≡ ns
Holds (point grid index n) = point_of grid index ≡ n

-- a tag: four bytes of the grid and twelve more, the bytes of an entry, three reserved, and 24 bytes of data
abbrev pub tag : List ℕ → ℕ → List ℕ
tag grid size = grid ++ (replicate 12 0 ++ (size ∷ 0 ∷ 0 ∷ 0 ∷ replicate 24 0))

abbrev pub cube : List ℕ
cube = 2 ∷ 2 ∷ 2 ∷ 0 ∷ []

-- a tag of sixteen grid bytes, and an entry has one byte
abbrev pub shape_only : List ℕ → List ℕ
shape_only grid = grid ++ (1 ∷ 0 ∷ 0 ∷ 0 ∷ [])

-- the fifth has the 10,000,000 entries that a table may have, but not their bytes; the product of the eighth is 2^32; the ninth is too
-- large and has a dimension of 1 besides
abbrev pub cases : List Case
cases =
    gives (tag cube 1) 3 3 (value 8 20 24 1) ∷
    numbers (tag cube 1) 3 3 (24 ∷ 23 ∷ []) ∷
    gives (tag cube 2) 3 3 (refused 2) ∷
    gives (tag cube 3) 3 3 (refused 8) ∷
    gives (tag (200 ∷ 200 ∷ 50 ∷ 0 ∷ []) 1) 3 5 (refused 2) ∷
    gives (tag (201 ∷ 200 ∷ 50 ∷ 0 ∷ []) 1) 3 5 (refused 6) ∷
    gives (tag (255 ∷ 255 ∷ 255 ∷ 255 ∷ []) 1) 4 2 (refused 4) ∷
    gives (tag (128 ∷ 128 ∷ 128 ∷ 128 ∷ []) 1) 4 16 (refused 4) ∷
    gives (tag (255 ∷ 255 ∷ 255 ∷ 1 ∷ []) 1) 4 1 (refused 6) ∷
    gives (tag (1 ∷ 2 ∷ 2 ∷ 0 ∷ []) 1) 3 3 (refused 7) ∷
    -- six points of two entries of two bytes each, two bytes behind the front of the tag
    gives_at (9 ∷ 9 ∷ tag (2 ∷ 3 ∷ 0 ∷ 0 ∷ []) 2) 2 2 2 (value 6 22 24 2) ∷
    numbers (tag (2 ∷ 3 ∷ 0 ∷ 0 ∷ []) 2) 2 2 (12 ∷ 11 ∷ []) ∷
    -- the points of the last dimension stand side by side
    point (2 ∷ 3 ∷ []) (0 ∷ 1 ∷ []) 1 ∷
    point (2 ∷ 3 ∷ []) (1 ∷ 0 ∷ []) 3 ∷
    -- without input channels there is one point
    gives (tag cube 1) 0 3 (value 1 20 3 1) ∷
    numbers (tag cube 1) 0 3 (3 ∷ 2 ∷ []) ∷
    -- no byte an entry; a dimension of 1 comes before that
    gives (tag cube 0) 3 3 (refused 8) ∷
    gives (tag (2 ∷ 1 ∷ 2 ∷ 0 ∷ []) 0) 3 3 (refused 7) ∷
    -- a product of 0 by a dimension, and by the output channels
    gives (tag (2 ∷ 0 ∷ 2 ∷ 0 ∷ []) 1) 3 3 (refused 5) ∷
    gives (tag cube 1) 3 0 (refused 5) ∷
    -- 40 times 53 times 53 times 89, the least product of bytes above 10,000,000
    gives (tag (40 ∷ 53 ∷ 53 ∷ 89 ∷ []) 1) 4 1 (refused 6) ∷
    -- a product below 2^32; one that has passed it is refused though a later factor is 0
    gives (tag (255 ∷ 255 ∷ 255 ∷ 255 ∷ []) 1) 4 1 (refused 6) ∷
    gives (shape_only (replicate 5 255 ++ replicate 11 0)) 6 1 (refused 4) ∷
    -- the first 20 bytes are cut off: that comes before a dimension of 1
    gives (take 19 (tag (1 ∷ 2 ∷ 2 ∷ 0 ∷ []) 1)) 3 3 (refused 2) ∷
    -- of seventeen channels sixteen have a grid byte: the seventeenth byte, 1, is no dimension
    gives (shape_only (replicate 16 2)) 17 1 (refused 2) ∷
    []
