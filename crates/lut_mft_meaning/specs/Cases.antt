-- The worked cases of `mft1` and `mft2`: a limit and a tag's bytes, and the answer.
use Rattle.std.specs.Prelude.{ℕ, ◌≡◌, List, [], ◌∷◌, ◌++◌, replicate}
use Rattle.lut_mft_meaning.specs.Answer.{Fields, State, value, refused, answer_of}
use Rattle.lut_mft_meaning.specs.Mft.{mft_of}

-- limit, tag, and the answer and the matrix beside it
pub data Case : Type 0 where
  gives : ℕ → List ℕ → State → List ℕ → Case

unfoldable pub Holds : Case → Type 0
Holds (gives limit t s matrix) = answer_of t (mft_of limit t) ≡ record { state = s; matrix = matrix }

-- the first 48 bytes of a tag with this last byte of its signature, so many channels and so many points in each dimension; its matrix is
-- the numbers 1 to 9
abbrev pub head_of : ℕ → ℕ → ℕ → ℕ → List ℕ
head_of type inputs outputs grid =
    (0x6d ∷ 0x66 ∷ 0x74 ∷ type ∷ 0 ∷ 0 ∷ 0 ∷ 0 ∷ inputs ∷ outputs ∷ grid ∷ 0 ∷ [])
    ++ (0 ∷ 0 ∷ 0 ∷ 1 ∷ 0 ∷ 0 ∷ 0 ∷ 2 ∷ 0 ∷ 0 ∷ 0 ∷ 3 ∷ [])
    ++ (0 ∷ 0 ∷ 0 ∷ 4 ∷ 0 ∷ 0 ∷ 0 ∷ 5 ∷ 0 ∷ 0 ∷ 0 ∷ 6 ∷ [])
    ++ (0 ∷ 0 ∷ 0 ∷ 7 ∷ 0 ∷ 0 ∷ 0 ∷ 8 ∷ 0 ∷ 0 ∷ 0 ∷ 9 ∷ [])

-- with two points
abbrev pub head : ℕ → ℕ → ℕ → List ℕ
head type inputs outputs = head_of type inputs outputs 2

-- an `mft2` tag with so many channels, two entries for each, and so many bytes of tables
abbrev pub wide : ℕ → ℕ → ℕ → List ℕ
wide inputs outputs bytes = head 0x32 inputs outputs ++ (0 ∷ 2 ∷ 0 ∷ 2 ∷ []) ++ replicate bytes 0

-- an `mft2` tag of one input and three outputs, with these two bytes for the entries of the input table and these for those of the output
-- table, and so many bytes of tables
abbrev pub counted : ℕ → ℕ → ℕ → ℕ → ℕ → List ℕ
counted i j k l bytes = head 0x32 1 3 ++ (i ∷ j ∷ k ∷ l ∷ []) ++ replicate bytes 0

-- an `mft1` tag of three inputs, one output and four points, with so many bytes of tables
abbrev pub narrow : ℕ → List ℕ
narrow bytes = head_of 0x31 3 1 4 ++ replicate bytes 0

-- the numbers of `wide 1 3 28`: tables of 4, 12 and 12 bytes, the colour table of two points and six entries
abbrev pub wide_fields : Fields
wide_fields =
    record { size = 2; inputs = 1; outputs = 3; grid = 2; input_entries_of = 2; output_entries_of = 2; input_start_of = 52; input_bytes = 4; clut_start_of = 56; clut_bytes = 12; output_start_of = 68; output_bytes = 12 }

abbrev pub one_to_nine : List ℕ
one_to_nine = 1 ∷ 2 ∷ 3 ∷ 4 ∷ 5 ∷ 6 ∷ 7 ∷ 8 ∷ 9 ∷ []

abbrev pub refusal : ℕ → List ℕ → ℕ → Case
refusal limit t n = gives limit t (refused n) (replicate 9 0)

abbrev pub cases : List Case
cases =
    gives 2 (wide 1 3 28) (value wide_fields) one_to_nine ∷
    -- two entries in the input table and three in the output table, which has 18 bytes
    gives 2 (counted 0 2 0 3 34) (value record { size = 2; inputs = 1; outputs = 3; grid = 2; input_entries_of = 2; output_entries_of = 3; input_start_of = 52; input_bytes = 4; clut_start_of = 56; clut_bytes = 12; output_start_of = 68; output_bytes = 18 }) one_to_nine ∷
    refusal 2 (counted 0 2 0 3 33) 2 ∷
    -- `mft1`: tables of 3 times 256, 4 times 4 times 4, and 256 bytes
    gives 64 (narrow 1088) (value record { size = 1; inputs = 3; outputs = 1; grid = 4; input_entries_of = 256; output_entries_of = 256; input_start_of = 48; input_bytes = 768; clut_start_of = 816; clut_bytes = 64; output_start_of = 880; output_bytes = 256 }) one_to_nine ∷
    refusal 64 (narrow 1087) 2 ∷
    refusal 63 (narrow 1088) 16 ∷
    -- 1 or 4,097 entries in either table; 4,096 in both, but not their bytes
    refusal 2 (counted 0 1 0 2 34) 15 ∷
    refusal 2 (counted 0 2 0 1 34) 15 ∷
    refusal 2 (counted 16 1 0 2 34) 15 ∷
    refusal 2 (counted 0 2 16 1 34) 15 ∷
    refusal 2 (counted 16 0 16 0 34) 2 ∷
    -- no channels or five on a side; four pass, and the points are over the limit
    refusal 2 (wide 0 3 28) 15 ∷
    refusal 2 (wide 3 0 28) 15 ∷
    refusal 2 (wide 5 3 28) 15 ∷
    refusal 2 (wide 3 5 28) 15 ∷
    refusal 15 (wide 4 3 28) 16 ∷
    refusal 7 (wide 3 4 28) 16 ∷
    -- one point in each dimension
    refusal 2 (head_of 0x31 1 3 1) 15 ∷
    -- fewer than 48 bytes
    refusal 2 [] 2 ∷
    refusal 1 (wide 1 3 28) 16 ∷
    refusal 2 (wide 1 3 27) 2 ∷
    -- no side has three channels
    refusal 4 (wide 2 4 28) 15 ∷
    -- nor is the grid within the limit
    refusal 3 (wide 2 4 28) 15 ∷
    -- `mft2` without its numbers of entries, `mft1`, which has none, without its tables, and another type
    refusal 2 (head 0x32 1 3) 2 ∷
    refusal 1 (head 0x31 1 3) 16 ∷
    refusal 2 (head 0x31 1 3) 2 ∷
    refusal 2 (head 0x33 1 3) 3 ∷
    []
