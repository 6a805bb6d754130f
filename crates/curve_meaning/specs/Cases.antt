-- The worked cases of the tone curve: calls of the lone reader, and their answers; and calls that write a curve's record.
use Rattle.std.specs.Prelude.{ℕ, ◌+◌, ◌-◌, ◌≡◌, List, [], ◌∷◌, ◌++◌, map, ℤ, pos, negsuc, take, drop, replicate}
use Rattle.fields.specs.Checked.{Checked, good, bad}
use Rattle.fields.specs.Bytes.{signed}
use Rattle.fields.specs.House.{tag_size}
use Rattle.curve_meaning.specs.Answer.{Answer, value, absent, refused, step_checked, slot_with, in_slot}
use Rattle.curve_meaning.specs.Curve.{trc_of, curve_of}
use Rattle.curve_meaning.specs.Shape.{Shape, empty, table, table_shape, record_words}
use Rattle.curve_meaning.specs.declared.Walk.{Walk}
use Rattle.curve_meaning.specs.declared.Walk.TheVariants.{Crate, Book}

pub data Case : Type 0 where
  -- walk, limit, profile and size, and the answer at offset 0
  gives : Walk → ℕ → List ℕ → ℕ → Answer → Case
  -- at another offset, on the crate walk, with a limit of 2
  gives_at : List ℕ → ℕ → ℕ → Answer → Case
  -- walk, limit, profile and size, and the parameters of the answer's record as signed numbers
  means : Walk → ℕ → List ℕ → ℕ → List ℤ → Case
  -- walk, limit, a curve's bytes and a slot, and how far the walk goes on and the slot as it is left
  leaves : Walk → ℕ → List ℕ → List ℕ → Checked ℕ → List ℕ → Case
  -- a number of entries, and the curve
  counts : ℕ → Shape → Case

-- the seven parameters of a record, signed
unfoldable pub signed_parameters : Answer → List ℤ
signed_parameters (value ws consumed) = map signed (drop 3 ws)
signed_parameters absent = []
signed_parameters (refused n) = []

unfoldable pub Holds : Case → Type 0
Holds (gives walk limit profile size a) = trc_of walk limit profile 0 size ≡ a
Holds (gives_at profile entry size a) = trc_of Crate 2 profile entry size ≡ a
Holds (means walk limit profile size zs) = signed_parameters (trc_of walk limit profile 0 size) ≡ zs
Holds (leaves walk limit t slot g left) =
    let x = in_slot slot (curve_of limit t) in
    (step_checked walk x ≡ g) × (slot_with tag_size slot x ≡ left)
Holds (counts n s) = table_shape n ≡ s

-- a signature and four reserved bytes
abbrev pub curv : List ℕ
curv = 0x63 ∷ 0x75 ∷ 0x72 ∷ 0x76 ∷ 0 ∷ 0 ∷ 0 ∷ 0 ∷ []

abbrev pub para : List ℕ
para = 0x70 ∷ 0x61 ∷ 0x72 ∷ 0x61 ∷ 0 ∷ 0 ∷ 0 ∷ 0 ∷ []

-- no entry
abbrev pub none : List ℕ
none = curv ++ (0 ∷ 0 ∷ 0 ∷ 0 ∷ [])

-- two entries, 0 and 65535
abbrev pub two : List ℕ
two = curv ++ (0 ∷ 0 ∷ 0 ∷ 2 ∷ 0 ∷ 0 ∷ 0xFF ∷ 0xFF ∷ [])

-- the limit that the cases state
abbrev pub stated_limit : ℕ
stated_limit = 4096

-- a count of one more, and bytes for two entries
abbrev pub many : List ℕ
many = curv ++ (0 ∷ 0 ∷ 0x10 ∷ 0x01 ∷ 0 ∷ 0 ∷ 0 ∷ 0 ∷ [])

-- a function of a type, and behind it the numbers 1 to 7
abbrev pub counting : ℕ → List ℕ
counting type =
    para
    ++ (0 ∷ type ∷ 0 ∷ 0 ∷ 0 ∷ 0 ∷ 0 ∷ 1 ∷ 0 ∷ 0 ∷ 0 ∷ 2 ∷ 0 ∷ 0 ∷ 0 ∷ 3 ∷ [])
    ++ (0 ∷ 0 ∷ 0 ∷ 4 ∷ 0 ∷ 0 ∷ 0 ∷ 5 ∷ 0 ∷ 0 ∷ 0 ∷ 6 ∷ 0 ∷ 0 ∷ 0 ∷ 7 ∷ [])

-- a function of a type whose second parameter is 0, and the others 5 to 10
abbrev pub divisor : ℕ → List ℕ
divisor type =
    para
    ++ (0 ∷ type ∷ 0 ∷ 0 ∷ 0 ∷ 0 ∷ 0 ∷ 5 ∷ 0 ∷ 0 ∷ 0 ∷ 0 ∷ 0 ∷ 0 ∷ 0 ∷ 6 ∷ [])
    ++ (0 ∷ 0 ∷ 0 ∷ 7 ∷ 0 ∷ 0 ∷ 0 ∷ 8 ∷ 0 ∷ 0 ∷ 0 ∷ 9 ∷ 0 ∷ 0 ∷ 0 ∷ 10 ∷ [])

-- the parameters of a curve that has none
abbrev pub unused : List ℕ
unused = 0 ∷ 0 ∷ 0 ∷ 0 ∷ 0 ∷ 0 ∷ 0 ∷ []

abbrev pub cases : List Case
cases =
    gives Crate stated_limit none 12 (value (0 ∷ 12 ∷ 0 ∷ unused) 0) ∷
    gives Book stated_limit none 12 (value (0 ∷ 12 ∷ 0 ∷ unused) 12) ∷
    gives Crate stated_limit two 16 (value (1 ∷ 12 ∷ 2 ∷ unused) 16) ∷
    gives Crate stated_limit two 15 (refused 11) ∷
    gives Crate stated_limit many 16 (refused 10) ∷
    gives Crate (stated_limit + 1) many 16 (refused 11) ∷
    gives Crate stated_limit (para ++ (0 ∷ 0 ∷ 0 ∷ 0 ∷ 0x00 ∷ 0x02 ∷ 0x33 ∷ 0x33 ∷ [])) 16 (value (2 ∷ 12 ∷ 1 ∷ 144179 ∷ 0 ∷ 0 ∷ 0 ∷ 0 ∷ 0 ∷ 0 ∷ []) 16) ∷
    means Crate stated_limit (para ++ (0 ∷ 0 ∷ 0 ∷ 0 ∷ 0xFF ∷ 0xFF ∷ 0 ∷ 0 ∷ [])) 16 (negsuc 65535 ∷ pos 0 ∷ pos 0 ∷ pos 0 ∷ pos 0 ∷ pos 0 ∷ pos 0 ∷ []) ∷
    gives Crate stated_limit (para ++ (0 ∷ 1 ∷ 0 ∷ 0 ∷ 0 ∷ 1 ∷ 0 ∷ 0 ∷ 0 ∷ 0 ∷ 0 ∷ 0 ∷ 0 ∷ 1 ∷ 0 ∷ 0 ∷ [])) 24 (refused 13) ∷
    gives Crate stated_limit (para ++ (0 ∷ 5 ∷ 0 ∷ 0 ∷ [])) 12 (refused 12) ∷
    -- each type has its number of parameters
    gives Crate stated_limit (counting 1) 24 (value (3 ∷ 12 ∷ 3 ∷ 1 ∷ 2 ∷ 3 ∷ 0 ∷ 0 ∷ 0 ∷ 0 ∷ []) 24) ∷
    gives Crate stated_limit (counting 2) 28 (value (4 ∷ 12 ∷ 4 ∷ 1 ∷ 2 ∷ 3 ∷ 4 ∷ 0 ∷ 0 ∷ 0 ∷ []) 28) ∷
    gives Crate stated_limit (counting 3) 32 (value (5 ∷ 12 ∷ 5 ∷ 1 ∷ 2 ∷ 3 ∷ 4 ∷ 5 ∷ 0 ∷ 0 ∷ []) 32) ∷
    gives Crate stated_limit (counting 4) 40 (value (6 ∷ 12 ∷ 7 ∷ 1 ∷ 2 ∷ 3 ∷ 4 ∷ 5 ∷ 6 ∷ 7 ∷ []) 40) ∷
    -- type 2 divides by its second parameter too; the others do not
    gives Book stated_limit (divisor 2) 28 (refused 13) ∷
    gives Book stated_limit (divisor 0) 16 (value (2 ∷ 12 ∷ 1 ∷ 5 ∷ 0 ∷ 0 ∷ 0 ∷ 0 ∷ 0 ∷ 0 ∷ []) 16) ∷
    gives Book stated_limit (divisor 3) 32 (value (5 ∷ 12 ∷ 5 ∷ 5 ∷ 0 ∷ 6 ∷ 7 ∷ 8 ∷ 0 ∷ 0 ∷ []) 32) ∷
    gives Book stated_limit (divisor 4) 40 (value (6 ∷ 12 ∷ 7 ∷ 5 ∷ 0 ∷ 6 ∷ 7 ∷ 8 ∷ 9 ∷ 10 ∷ []) 40) ∷
    -- a parameter is cut off
    gives Book stated_limit (divisor 1) 23 (refused 11) ∷
    -- another type, and a curve at its own offset, whose data start at 12 all the same
    gives_at (9 ∷ 9 ∷ 9 ∷ two) 2 16 (refused 9) ∷
    gives_at (9 ∷ 9 ∷ 9 ∷ two) 3 16 (value (1 ∷ 12 ∷ 2 ∷ unused) 16) ∷
    -- past the profile; with size 0 the tag reaches up to its end, and must have 12 bytes
    gives_at (9 ∷ 9 ∷ 9 ∷ two) 3 17 (refused 11) ∷
    gives_at (9 ∷ 9 ∷ 9 ∷ two) 3 0 (value (1 ∷ 12 ∷ 2 ∷ unused) 16) ∷
    gives_at (9 ∷ 9 ∷ 9 ∷ take 11 two) 3 0 (refused 11) ∷
    -- a size of 1 to 11 is absent; so is a tag of which fewer than 4 bytes are left, whatever its size
    gives_at (9 ∷ 9 ∷ 9 ∷ two) 3 1 absent ∷
    gives_at (9 ∷ 9 ∷ 9 ∷ two) 3 11 absent ∷
    gives_at (9 ∷ 9 ∷ 9 ∷ take 3 two) 3 0 absent ∷
    gives_at (9 ∷ 9 ∷ 9 ∷ take 3 two) 3 12 absent ∷
    gives_at (9 ∷ 9 ∷ 9 ∷ take 4 two) 3 0 (refused 11) ∷
    gives_at (9 ∷ 9 ∷ 9 ∷ take 4 two) 3 12 (refused 11) ∷
    -- no entries are an empty curve at every limit, and one is a table
    gives Crate 0 none 12 (value (0 ∷ 12 ∷ 0 ∷ unused) 0) ∷
    gives Book 1 (curv ++ (0 ∷ 0 ∷ 0 ∷ 1 ∷ 1 ∷ 2 ∷ [])) 14 (value (1 ∷ 12 ∷ 1 ∷ unused) 14) ∷
    counts 0 empty ∷
    counts 1 (table 1) ∷
    leaves Crate stated_limit two (replicate (record_words + 1) 7) (good 16) (1 ∷ 12 ∷ 2 ∷ unused ++ (7 ∷ [])) ∷
    leaves Crate stated_limit many (replicate record_words 7) (bad 10) (replicate record_words 7) ∷
    leaves Crate stated_limit many (replicate (record_words - 1) 7) (bad 14) (replicate (record_words - 1) 7) ∷
    []
