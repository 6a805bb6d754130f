-- The worked cases of docs/SCOPE.md, as one list: what the definitions answer to a call and leave in its slots. Every call is at offset 0.
use Rattle.std.specs.Prelude.{ℕ, ◌≡◌, List, [], ◌∷◌, ◌++◌, ℤ, pos, negsuc, replicate}
use Rattle.fields.specs.House.{house_entries, house_points}
use Rattle.lut_clut_meaning.specs.Cases.{tag as clut, cube, numbers_in}
use Rattle.lut_clut_meaning.specs.Clut.{clut_of}
use Rattle.curve_meaning.specs.Answer.{value}
use Rattle.curve_meaning.specs.Cases.{para, none, two, many, signed_parameters}
use Rattle.curve_meaning.specs.Curve.{trc_of}
use Rattle.curve_meaning.specs.declared.Walk.TheVariants.{Crate, Book}
use Rattle.lut_meaning.specs.Cases.{tag as threeCurves, three_b, plain, slots, empty_at, straight_at}
use Rattle.text_meaning.specs.Answer.{mluc}
use Rattle.text_meaning.specs.Cases.{five, slots as textSlots, english_record}
use Rattle.demands.specs.Readers.{Reader, lut, trc, string, Call, Numbers, meaning, slots_after, outcome, refused}

pub data Case : Type 0 where
  -- a reader and a call, and the numbers of the answer
  answers : (r : Reader) → Call → Numbers r → Case
  -- the words that are left in the slots
  leaves : Reader → Call → List ℕ → Case
  -- the number of a refusal, which leaves the slots as they were
  refuses : Reader → Call → ℕ → Case
  -- the parameters of a lone curve, as signed numbers
  means : Call → List ℤ → Case
  -- a colour table with so many input and output channels: its entries and the last entry's number
  counts : List ℕ → ℕ → ℕ → List ℕ → Case

unfoldable pub Holds : Case → Type 0
Holds (answers r c a) = meaning r c ≡ a
Holds (leaves r c words) = slots_after r c ≡ words
Holds (refuses r c n) = (outcome r (meaning r c) ≡ refused n) × (slots_after r c ≡ c.slots)
Holds (means c zs) = signed_parameters (trc_of Crate c.entries c.profile 0 c.size) ≡ zs
Holds (counts t inputs outputs ns) = numbers_in (clut_of t 0 inputs outputs) ≡ ns

-- a profile, a size and the words lent, under the house defaults; and a lone curve under another limit
abbrev pub call : List ℕ → ℕ → List ℕ → Call
call profile size slots =
    record { profile = profile; entry = 0; size = size; entries = house_entries; points = house_points; slots = slots }

abbrev pub up_to : ℕ → List ℕ → ℕ → Call
up_to entries profile size =
    record { profile = profile; entry = 0; size = size; entries = entries; points = house_points; slots = [] }

abbrev pub lone : List ℕ → ℕ → Call
lone profile size = up_to house_entries profile size

-- a function of a type, with parameters
abbrev pub function : ℕ → List ℕ → List ℕ
function type parameters = para ++ (0 ∷ type ∷ 0 ∷ 0 ∷ parameters)

-- an `mAB ` tag of 76 bytes with so many channels and nothing but a colour table, at 32
abbrev pub with_table : ℕ → ℕ → List ℕ → List ℕ
with_table inputs outputs grid =
    (0x6d ∷ 0x41 ∷ 0x42 ∷ 0x20 ∷ 0 ∷ 0 ∷ 0 ∷ 0 ∷ inputs ∷ outputs ∷ replicate 17 0)
    ++ (32 ∷ 0 ∷ 0 ∷ 0 ∷ 0 ∷ clut grid 1)

-- the words of a curve without parameters: its kind, where its data start, and the number of its entries
abbrev pub curve_words : ℕ → ℕ → ℕ → List ℕ
curve_words kind start count = kind ∷ start ∷ count ∷ replicate 7 0

-- ---- lone curves

-- an empty `curv`
abbrev pub empty_curve : Case
empty_curve = answers (trc Crate) (lone none 12) (value (curve_words 0 12 0) 0)

-- two entries, and one byte too few
abbrev pub two_entries : Case
two_entries = answers (trc Crate) (lone two 16) (value (curve_words 1 12 2) 16)

abbrev pub one_byte_short : Case
one_byte_short = refuses (trc Crate) (lone two 15) 11

-- 4,097 entries, past the limit, and in 16 bytes
abbrev pub past_the_limit : Case
past_the_limit = refuses (trc Crate) (up_to 4096 many 16) 10

abbrev pub within_the_limit : Case
within_the_limit = refuses (trc Crate) (up_to 4097 many 16) 11

-- `para` of type 0, with 0x00023333 and with 0xFFFF0000
abbrev pub one_parameter : Case
one_parameter =
    answers (trc Crate) (lone (function 0 (0x00 ∷ 0x02 ∷ 0x33 ∷ 0x33 ∷ [])) 16)
    (value (2 ∷ 12 ∷ 1 ∷ 144179 ∷ replicate 6 0) 16)

abbrev pub signed_parameter : Case
signed_parameter =
    means (lone (function 0 (0xFF ∷ 0xFF ∷ 0 ∷ 0 ∷ [])) 16)
    (negsuc 65535 ∷ pos 0 ∷ pos 0 ∷ pos 0 ∷ pos 0 ∷ pos 0 ∷ pos 0 ∷ [])

-- of type 1 with a = 0, and of type 5
abbrev pub no_slope : Case
no_slope = refuses (trc Crate) (lone (function 1 (0 ∷ 1 ∷ 0 ∷ 0 ∷ 0 ∷ 0 ∷ 0 ∷ 0 ∷ 0 ∷ 1 ∷ 0 ∷ 0 ∷ [])) 24) 13

abbrev pub no_such_type : Case
no_such_type = refuses (trc Crate) (lone (function 5 []) 12) 12

-- ---- `mAB ` with three B curves, with so many slots

abbrev pub with_slots_for : ℕ → Call
with_slots_for n = call threeCurves 72 (slots n)

abbrev pub crate_answer : Case
crate_answer = answers (lut Crate) (with_slots_for 3) (plain three_b)

abbrev pub crate_records : Case
crate_records = leaves (lut Crate) (with_slots_for 3) (empty_at 44 ++ empty_at 44 ++ empty_at 44)

abbrev pub book_answer : Case
book_answer = answers (lut Book) (with_slots_for 3) (plain three_b)

abbrev pub book_records : Case
book_records = leaves (lut Book) (with_slots_for 3) (empty_at 44 ++ empty_at 56 ++ straight_at 68)

abbrev pub crate_two_slots : Case
crate_two_slots = refuses (lut Crate) (with_slots_for 2) 14

abbrev pub book_two_slots : Case
book_two_slots = refuses (lut Book) (with_slots_for 2) 14

-- ---- colour tables: a grid of 2, 2, 2 with three outputs; four times 255 with two; 1, 2, 2

abbrev pub small_cube : Case
small_cube = counts (clut cube 1) 3 3 (24 ∷ 23 ∷ [])

abbrev pub huge_grid : Case
huge_grid = refuses (lut Crate) (call (with_table 4 2 (255 ∷ 255 ∷ 255 ∷ 255 ∷ [])) 76 []) 4

abbrev pub flat_grid : Case
flat_grid = refuses (lut Crate) (call (with_table 3 3 (1 ∷ 2 ∷ 2 ∷ 0 ∷ [])) 76 []) 7

-- ---- `mluc` with count 0 and a string of five bytes

abbrev pub one_string : Case
one_string = answers string (call five 33 (textSlots 1)) (mluc 1)

abbrev pub string_record : Case
string_record = leaves string (call five 33 (textSlots 1)) (english_record 28 4)

abbrev pub cases : List Case
cases =
    empty_curve ∷ two_entries ∷ one_byte_short ∷ past_the_limit ∷ within_the_limit ∷
    one_parameter ∷ signed_parameter ∷ no_slope ∷ no_such_type ∷
    crate_answer ∷ crate_records ∷ book_answer ∷ book_records ∷ crate_two_slots ∷ book_two_slots ∷
    small_cube ∷ huge_grid ∷ flat_grid ∷
    one_string ∷ string_record ∷ []
