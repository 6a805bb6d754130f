-- The worked cases of lookup tables: calls of the reader at offset 0 under the house defaults, and what they answer and leave.
use Rattle.std.specs.Prelude.{ℕ, ◌*◌, ◌≡◌, true, false, List, [], ◌∷◌, ◌++◌, length, replicate}
use Rattle.fields.specs.House.{house_entries, house_points}
use Rattle.curve_meaning.specs.Cases.{two}
use Rattle.curve_meaning.specs.Shape.{record_words}
use Rattle.curve_meaning.specs.declared.Walk.{Walk}
use Rattle.curve_meaning.specs.declared.Walk.TheVariants.{Crate, Book}
use Rattle.lut_run_meaning.specs.Cases.{single, gamma}
use Rattle.lut_mft_meaning.specs.Cases.{wide_fields, one_to_nine}
use Rattle.lut_meaning.specs.Answer.{State, mft, abm, absent, refused, Answer}
use Rattle.lut_meaning.specs.Lut.{lut_of, slots_after}

-- walk, profile and size, the lent words, and the answer and the words as they are left
pub data Case : Type 0 where
  gives : Walk → List ℕ → ℕ → List ℕ → Answer → List ℕ → Case

unfoldable pub Holds : Case → Type 0
Holds (gives walk profile size slots a left) =
    (lut_of walk house_entries house_points profile 0 size (length slots) ≡ a)
    × (slots_after walk house_entries house_points profile 0 size slots ≡ left)

-- the first 32 bytes of a tag with these letters in the middle of its signature, so many channels, and B curves, matrix, M curves, colour
-- table and A curves at these offsets
abbrev pub head_of : ℕ → ℕ → ℕ → ℕ → ℕ → ℕ → ℕ → ℕ → ℕ → List ℕ
head_of x y inputs outputs b matrix m clut a =
    (0x6d ∷ x ∷ y ∷ 0x20 ∷ 0 ∷ 0 ∷ 0 ∷ 0 ∷ inputs ∷ outputs ∷ 0 ∷ 0 ∷ 0 ∷ 0 ∷ 0 ∷ b ∷ [])
    ++ (0 ∷ 0 ∷ 0 ∷ matrix ∷ 0 ∷ 0 ∷ 0 ∷ m ∷ 0 ∷ 0 ∷ 0 ∷ clut ∷ 0 ∷ 0 ∷ 0 ∷ a ∷ [])

-- of an `mAB ` tag that has nothing but B curves, matrix and M curves
abbrev pub head : ℕ → ℕ → ℕ → ℕ → ℕ → List ℕ
head inputs outputs b matrix m = head_of 0x41 0x42 inputs outputs b matrix m 0 0

abbrev pub empty_curve : List ℕ
empty_curve = 0x63 ∷ 0x75 ∷ 0x72 ∷ 0x76 ∷ 0 ∷ 0 ∷ 0 ∷ 0 ∷ 0 ∷ 0 ∷ 0 ∷ 0 ∷ []

-- a function of type 0 with 65536
abbrev pub straight_curve : List ℕ
straight_curve = 0x70 ∷ 0x61 ∷ 0x72 ∷ 0x61 ∷ 0 ∷ 0 ∷ 0 ∷ 0 ∷ 0 ∷ 0 ∷ 0 ∷ 0 ∷ 0 ∷ 1 ∷ 0 ∷ 0 ∷ []

-- three channels on each side, only B curves, at 32: empty, empty at 44, a function of type 0 at 56
abbrev pub tag : List ℕ
tag = head 3 3 32 0 0 ++ empty_curve ++ empty_curve ++ straight_curve

-- one input and two outputs, only M curves, at 32: two empty ones
abbrev pub tag_of_m : List ℕ
tag_of_m = head 1 2 0 0 32 ++ empty_curve ++ empty_curve

-- five channels on each side, only B curves, at 32, of which the first is empty
abbrev pub tag_of_five : List ℕ
tag_of_five = head 5 5 32 0 0 ++ empty_curve ++ (0 ∷ 0 ∷ 0 ∷ 0 ∷ [])

-- a matrix of the numbers 1 to 9, and behind them the bias, 10 to 12
abbrev pub matrix_bytes : List ℕ
matrix_bytes =
    (0 ∷ 0 ∷ 0 ∷ 1 ∷ 0 ∷ 0 ∷ 0 ∷ 2 ∷ 0 ∷ 0 ∷ 0 ∷ 3 ∷ 0 ∷ 0 ∷ 0 ∷ 4 ∷ [])
    ++ (0 ∷ 0 ∷ 0 ∷ 5 ∷ 0 ∷ 0 ∷ 0 ∷ 6 ∷ 0 ∷ 0 ∷ 0 ∷ 7 ∷ 0 ∷ 0 ∷ 0 ∷ 8 ∷ [])
    ++ (0 ∷ 0 ∷ 0 ∷ 9 ∷ 0 ∷ 0 ∷ 0 ∷ 10 ∷ 0 ∷ 0 ∷ 0 ∷ 11 ∷ 0 ∷ 0 ∷ 0 ∷ 12 ∷ [])

-- only a matrix, at 32
abbrev pub tag_of_matrix : List ℕ
tag_of_matrix = head 3 3 0 32 0 ++ matrix_bytes

-- sixteen different grid bytes, of which the first two are these
abbrev pub grid_with : ℕ → ℕ → List ℕ
grid_with x y = x ∷ y ∷ 4 ∷ 5 ∷ 6 ∷ 7 ∷ 8 ∷ 9 ∷ 10 ∷ 11 ∷ 12 ∷ 13 ∷ 14 ∷ 15 ∷ 16 ∷ 17 ∷ []

-- an `mAB ` tag of two inputs and one output with all five parts: the matrix at 32, a colour table of 2 times 3 points and two bytes an
-- entry at 80, its data at 100, A curves at 112 and 128, an M curve at 152, a B curve at 168, up to 184
abbrev pub full_tag : List ℕ
full_tag =
    head_of 0x41 0x42 2 1 168 32 152 80 112
    ++ matrix_bytes
    ++ (grid_with 2 3 ++ (2 ∷ 0 ∷ 0 ∷ 0 ∷ replicate 12 9))
    ++ (single ++ gamma)
    ++ straight_curve
    ++ two

-- an `mBA ` tag of one input and two outputs with all five parts: A curves at 32 and 48, a B curve at 72, an M curve at 88, the matrix at 104, a
-- colour table of 3 points and one byte an entry at 152, its data at 172, up to 178
abbrev pub full_back : List ℕ
full_back =
    head_of 0x42 0x41 1 2 72 104 88 152 32
    ++ (single ++ gamma)
    ++ straight_curve
    ++ two
    ++ matrix_bytes
    ++ (grid_with 3 2 ++ (1 ∷ 0 ∷ 0 ∷ 0 ∷ replicate 6 9))

-- a tag of 52 bytes whose B curve, at 32, is no curve, and which may have a matrix there that is cut off, and a colour table of three bytes an
-- entry
abbrev pub faulty : ℕ → ℕ → List ℕ
faulty matrix clut = head_of 0x41 0x42 1 1 32 matrix 0 clut 0 ++ grid_with 2 3 ++ (3 ∷ 0 ∷ 0 ∷ 0 ∷ [])

-- an `mft2` tag of one input and three outputs whose first matrix number is 52, where an empty curve would be if it were an `mAB ` tag
abbrev pub mft_tag : List ℕ
mft_tag =
    (0x6d ∷ 0x66 ∷ 0x74 ∷ 0x32 ∷ 0 ∷ 0 ∷ 0 ∷ 0 ∷ 1 ∷ 3 ∷ 2 ∷ 0 ∷ 0 ∷ 0 ∷ 0 ∷ 52 ∷ [])
    ++ replicate 32 0
    ++ (0 ∷ 2 ∷ 0 ∷ 2 ∷ [])
    ++ empty_curve
    ++ replicate 16 0

-- a tag with these letters and so many channels that has no part, of 48 bytes
abbrev pub bare : ℕ → ℕ → ℕ → ℕ → List ℕ
bare x y inputs outputs = head_of x y inputs outputs 0 0 0 0 0 ++ replicate 16 0

-- so many channels, M curves and B curves, and no colour table
abbrev pub curves_only : ℕ → ℕ → ℕ → ℕ → State
curves_only inputs outputs m b =
    abm record { to_pcs_of = true; inputs = inputs; outputs = outputs; start = 0; bytes = 0; size = 0; a = 0; m = m; b = b }

abbrev pub three_b : State
three_b = curves_only 3 3 0 3

-- the answer with a matrix and its bias, and the answer without one
abbrev pub with_matrix : State → List ℕ → List ℕ → Answer
with_matrix s matrix bias = record { state = s; grid = replicate 16 0; matrix = matrix; bias = bias }

abbrev pub plain : State → Answer
plain s = with_matrix s (65536 ∷ 0 ∷ 0 ∷ 0 ∷ 65536 ∷ 0 ∷ 0 ∷ 0 ∷ 65536 ∷ []) (0 ∷ 0 ∷ 0 ∷ [])

-- zeros stand beside an absence and a refusal
abbrev pub none : Answer
none = with_matrix absent (replicate 9 0) (0 ∷ 0 ∷ 0 ∷ [])

abbrev pub refusal : ℕ → Answer
refusal n = with_matrix (refused n) (replicate 9 0) (0 ∷ 0 ∷ 0 ∷ [])

-- the answer with a colour table, and the numbers 1 to 12 of the matrix and its bias
abbrev pub full : State → List ℕ → Answer
full s grid = record { state = s; grid = grid; matrix = one_to_nine; bias = 10 ∷ 11 ∷ 12 ∷ [] }

-- so many slots, each word 7
abbrev pub slots : ℕ → List ℕ
slots n = replicate (n * record_words) 7

-- the records of an empty curve, of a function of type 0 with 65536, of a table, and of a function of type 1 with 5, 6 and 7
abbrev pub empty_at : ℕ → List ℕ
empty_at start = 0 ∷ start ∷ 0 ∷ 0 ∷ 0 ∷ 0 ∷ 0 ∷ 0 ∷ 0 ∷ 0 ∷ []

abbrev pub straight_at : ℕ → List ℕ
straight_at start = 2 ∷ start ∷ 1 ∷ 65536 ∷ 0 ∷ 0 ∷ 0 ∷ 0 ∷ 0 ∷ 0 ∷ []

abbrev pub table_at : ℕ → ℕ → List ℕ
table_at start n = 1 ∷ start ∷ n ∷ 0 ∷ 0 ∷ 0 ∷ 0 ∷ 0 ∷ 0 ∷ 0 ∷ []

abbrev pub gamma_at : ℕ → List ℕ
gamma_at start = 3 ∷ start ∷ 3 ∷ 5 ∷ 6 ∷ 7 ∷ 0 ∷ 0 ∷ 0 ∷ 0 ∷ []

abbrev pub cases : List Case
cases =
    gives Crate tag 72 (slots 3) (plain three_b) (empty_at 44 ++ empty_at 44 ++ empty_at 44) ∷
    gives Book tag 72 (slots 3) (plain three_b) (empty_at 44 ++ empty_at 56 ++ straight_at 68) ∷
    gives Book tag 72 (slots 4) (plain three_b) (empty_at 44 ++ empty_at 56 ++ straight_at 68 ++ slots 1) ∷
    gives Crate tag 72 (slots 2) (refusal 14) (slots 2) ∷
    gives Book tag 72 (slots 2) (refusal 14) (slots 2) ∷
    -- all five parts; the first A curve has 14 bytes, and the second starts at the next multiple of 4
    gives Book full_tag 184 (slots 4) (full (abm record { to_pcs_of = true; inputs = 2; outputs = 1; start = 100; bytes = 12; size = 2; a = 2; m = 1; b = 1 }) (grid_with 2 3)) (table_at 124 1 ++ gamma_at 140 ++ straight_at 164 ++ table_at 180 2) ∷
    -- all five parts of `mBA `: the A curves are the outputs', and the colour table is by the inputs as well
    gives Crate full_back 178 (slots 4) (full (abm record { to_pcs_of = false; inputs = 1; outputs = 2; start = 172; bytes = 6; size = 1; a = 2; m = 1; b = 1 }) (grid_with 3 2)) (table_at 44 1 ++ gamma_at 60 ++ table_at 100 2 ++ straight_at 84) ∷
    -- the matrix is judged first, then the colour table, then the curves
    gives Book (faulty 32 32) 52 [] (refusal 2) [] ∷
    gives Book (faulty 0 32) 52 [] (refusal 8) [] ∷
    gives Book (faulty 0 0) 52 [] (refusal 9) [] ∷
    -- `mft2` takes no slots, and has neither sixteen grid bytes nor a bias
    gives Book mft_tag 80 (slots 1) record { state = mft wide_fields; grid = replicate 16 0; matrix = 52 ∷ replicate 8 0; bias = 0 ∷ 0 ∷ 0 ∷ [] } (slots 1) ∷
    -- past the profile, also where it is under 48 bytes; under 48 bytes; a size of 0 counts as 12; another type
    gives Crate tag 73 (slots 3) (refusal 1) (slots 3) ∷
    gives Crate [] 0 [] (refusal 1) [] ∷
    gives Crate tag 47 (slots 3) (refusal 2) (slots 3) ∷
    gives Crate tag 0 (slots 3) (refusal 2) (slots 3) ∷
    gives Crate (bare 0x41 0x41 3 3) 48 [] (refusal 3) [] ∷
    -- more than four channels on one side alone are no absence; nor is it one to have no channels
    gives Crate (bare 0x41 0x42 5 4) 48 [] (plain (curves_only 5 4 0 0)) [] ∷
    gives Crate (bare 0x41 0x42 4 5) 48 [] (plain (curves_only 4 5 0 0)) [] ∷
    gives Crate (bare 0x41 0x42 0 0) 48 [] (plain (curves_only 0 0 0 0)) [] ∷
    -- more than four channels on each side are absent, whatever the curves
    gives Crate tag_of_five 48 (slots 5) none (slots 5) ∷
    -- a run that is cut off is refused before the slots are counted
    gives Book tag 60 [] (refusal 2) [] ∷
    gives Book tag_of_m 56 (slots 2) (plain (curves_only 1 2 2 0)) (empty_at 44 ++ empty_at 56) ∷
    gives Book tag_of_matrix 80 [] (with_matrix (curves_only 3 3 0 0) one_to_nine (10 ∷ 11 ∷ 12 ∷ [])) [] ∷
    -- a matrix and its bias have 48 bytes
    gives Book tag_of_matrix 79 [] (refusal 2) [] ∷
    []
