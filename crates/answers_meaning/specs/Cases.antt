-- Jobs of `answers`, and their lines: of each reader one with a value, and of each other kind of answer one; and some that are no jobs.
use Rattle.std.specs.Prelude.{ℕ, ◌+◌, ◌-◌, ◌≡◌, List, [], ◌∷◌, ◌++◌, map, ℤ, pos, negsuc, length, replicate}
use Rattle.fields.specs.House.{house_entries, house_points}
use Rattle.curve_meaning.specs.Cases.{none, para}
use Rattle.lut_meaning.specs.Cases.{head_of, head, tag, tag_of_m, grid_with, bare, empty_at}
use Rattle.lut_mft_meaning.specs.Cases.{counted, narrow}
use Rattle.text_meaning.specs.Cases.{five, english_record}
use Rattle.small_meaning.specs.Cases.{profile_of, dtim, xyz, cicp}
use Rattle.answers_jobs.specs.declared.StreamJob.{StreamJob}
use Rattle.lines.specs.Text.{numeral}
use Rattle.answers_meaning.specs.Line.{line_of}

pub data Case : Type 0 where
  -- the number of a reader, a profile whose tag at offset 0 has this size, the bytes behind it, and the line
  says : ℕ → List ℕ → ℕ → List ℕ → List ℕ → Case
  -- the number of a reader, a profile, offset and size of its tag, and the letters and the numbers of the line
  prints : ℕ → List ℕ → ℕ → ℕ → List ℕ → List ℤ → Case
  -- of a reader that is lent so many words: profile and size, letters and numbers, and the words after the call
  leaves : ℕ → List ℕ → ℕ → ℕ → List ℕ → List ℤ → List ℕ → Case
  -- of the evaluation: profile and size, the bytes behind it, letters and numbers, and the buffer after the call
  evaluates : List ℕ → ℕ → List ℕ → List ℕ → List ℤ → List ℕ → Case
  -- the number of a reader and the bytes behind a profile that are no job's
  bad : ℕ → List ℕ → Case

-- a job under the house defaults
abbrev pub job_for : ℕ → List ℕ → ℕ → ℕ → ℕ → StreamJob
job_for reader profile offset size words =
    record { reader = reader; offset = offset; size = size; entries = house_entries; points = house_points; words = words; length = length profile }

-- numbers in decimal, each behind a space
unfoldable pub printed : List ℤ → List ℕ
printed [] = []
printed (z ∷ zs) = numeral 0x20 z ++ printed zs

unfoldable pub Holds : Case → Type 0
Holds (says reader profile size behind line) = (line_of (job_for reader profile 0 size 0) profile behind 0).text ≡ line
Holds (prints reader profile offset size letters zs) =
    line_of (job_for reader profile offset size 0) profile [] 0 ≡ record { text = letters ++ printed zs ++ (0x0a ∷ []); words_after = [] }
Holds (leaves reader profile size n letters zs after) =
    line_of (job_for reader profile 0 size n) profile [] n
    ≡ record { text = letters ++ printed zs ++ (0x20 ∷ 0x7c ∷ printed (map pos after)) ++ (0x0a ∷ []); words_after = after }
Holds (evaluates profile size behind letters zs buffer) =
    line_of (job_for 14 profile 0 size 0) profile behind 0
    ≡ record { text = letters ++ printed zs ++ (0x20 ∷ 0x7c ∷ printed (map pos buffer)) ++ (0x0a ∷ []); words_after = [] }
Holds (bad reader behind) = (line_of (job_for reader [] 0 0 0) [] behind 0).text ≡ []

-- a `chad` tag whose first number is -1 and whose others are 0
abbrev pub chad_tag : List ℕ
chad_tag = 0x73 ∷ 0x66 ∷ 0x33 ∷ 0x32 ∷ 0 ∷ 0 ∷ 0 ∷ 0 ∷ 0xFF ∷ 0xFF ∷ 0xFF ∷ 0xFF ∷ replicate 32 0

-- an `mft2` tag of one input, three outputs and two grid points, whose colour table has the entries 1 to 6; its other tables are zeros
abbrev pub mft_tag : List ℕ
mft_tag =
    (0x6d ∷ 0x66 ∷ 0x74 ∷ 0x32 ∷ 0 ∷ 0 ∷ 0 ∷ 0 ∷ 1 ∷ 3 ∷ 2 ∷ 0 ∷ [])
    ++ replicate 36 0
    ++ (0 ∷ 2 ∷ 0 ∷ 2 ∷ 0 ∷ 0 ∷ 0 ∷ 0 ∷ 0 ∷ 1 ∷ 0 ∷ 2 ∷ 0 ∷ 3 ∷ 0 ∷ 4 ∷ 0 ∷ 5 ∷ 0 ∷ 6 ∷ [])
    ++ replicate 12 0

-- an `mBA ` tag of one input and two outputs that has only a colour table, of three points and one byte an entry: the entries 1 to 6
abbrev pub clut_tag : List ℕ
clut_tag = head_of 0x42 0x41 1 2 0 0 0 32 0 ++ grid_with 3 2 ++ (1 ∷ 0 ∷ 0 ∷ 0 ∷ 1 ∷ 2 ∷ 3 ∷ 4 ∷ 5 ∷ 6 ∷ [])

-- one coordinate, and output channel 1
abbrev pub index_bytes : ℕ → List ℕ
index_bytes x = 1 ∷ x ∷ (replicate 15 0 ++ (1 ∷ []))

-- an `mAB ` tag of two inputs and one output that has only a colour table, of two points by three and two bytes an entry
abbrev pub plane_tag : List ℕ
plane_tag =
    head_of 0x41 0x42 2 1 0 0 0 32 0
    ++ grid_with 2 3
    ++ (2 ∷ 0 ∷ 0 ∷ 0 ∷ 1 ∷ 0 ∷ 2 ∷ 0 ∷ 3 ∷ 0 ∷ 16 ∷ 0 ∷ 32 ∷ 0 ∷ 48 ∷ 0 ∷ [])

-- so many coordinates, the first two by their bytes, and a buffer of so many numbers
abbrev pub pixel_bytes : ℕ → ℕ → ℕ → ℕ → ℕ → ℕ → List ℕ
pixel_bytes n a b c d room = n ∷ a ∷ b ∷ c ∷ d ∷ (replicate 12 0 ++ (0 ∷ room ∷ []))

-- the letters of the kinds of answer, and of the types
abbrev pub value_letters : List ℕ
value_letters = 0x76 ∷ 0x61 ∷ 0x6c ∷ 0x75 ∷ 0x65 ∷ []

abbrev pub value_of : ℕ → ℕ → ℕ → ℕ → List ℕ
value_of a b c d = value_letters ++ (0x20 ∷ a ∷ b ∷ c ∷ d ∷ [])

abbrev pub absent_letters : List ℕ
absent_letters = 0x61 ∷ 0x62 ∷ 0x73 ∷ 0x65 ∷ 0x6e ∷ 0x74 ∷ []

abbrev pub default_letters : List ℕ
default_letters = 0x64 ∷ 0x65 ∷ 0x66 ∷ 0x61 ∷ 0x75 ∷ 0x6c ∷ 0x74 ∷ []

abbrev pub refused_letters : List ℕ
refused_letters = 0x72 ∷ 0x65 ∷ 0x66 ∷ 0x75 ∷ 0x73 ∷ 0x65 ∷ 0x64 ∷ []

-- the word 80000000h + n: its bytes, the number, and the signed number
abbrev pub high : ℕ → List ℕ
high n = 0x80 ∷ 0 ∷ 0 ∷ n ∷ []

abbrev pub plus : ℕ → ℤ
plus n = pos (2147483648 + n)

abbrev pub minus : ℕ → ℤ
minus n = negsuc (2147483647 - n)

abbrev pub seven_high : List ℕ
seven_high = high 1 ++ high 2 ++ high 3 ++ high 4 ++ high 5 ++ high 6 ++ high 7

abbrev pub seven_minus : List ℤ
seven_minus = minus 1 ∷ minus 2 ∷ minus 3 ∷ minus 4 ∷ minus 5 ∷ minus 6 ∷ minus 7 ∷ []

-- the nine numbers of a matrix
abbrev pub nine_high : List ℕ
nine_high = seven_high ++ high 8 ++ high 9

abbrev pub nine_minus : List ℤ
nine_minus = seven_minus ++ (minus 8 ∷ minus 9 ∷ [])

-- so many zeros, and the numbers 1 to 9
abbrev pub zeros : ℕ → List ℤ
zeros n = replicate n (pos 0)

abbrev pub one_to_nine : List ℤ
one_to_nine = pos 1 ∷ pos 2 ∷ pos 3 ∷ pos 4 ∷ pos 5 ∷ pos 6 ∷ pos 7 ∷ pos 8 ∷ pos 9 ∷ []

-- the matrix of a tag that has none, and its bias
abbrev pub identity : List ℤ
identity = pos 65536 ∷ (zeros 3 ++ (pos 65536 ∷ (zeros 3 ++ (pos 65536 ∷ zeros 3))))

abbrev pub cases : List Case
cases =
    -- "refused 2", of a `sig ` tag under 12 bytes
    says 5 [] 11 [] (0x72 ∷ 0x65 ∷ 0x66 ∷ 0x75 ∷ 0x73 ∷ 0x65 ∷ 0x64 ∷ 0x20 ∷ 0x32 ∷ 0x0a ∷ []) ∷
    -- "value -1 0 0 0 0 0 0 0 0"
    says 4 chad_tag 44 [] (
    (0x76 ∷ 0x61 ∷ 0x6c ∷ 0x75 ∷ 0x65 ∷ 0x20 ∷ 0x2d ∷ 0x31 ∷ 0x20 ∷ 0x30 ∷ 0x20 ∷ 0x30 ∷ 0x20 ∷ 0x30 ∷ 0x20 ∷ 0x30 ∷ [])
    ++ (0x20 ∷ 0x30 ∷ 0x20 ∷ 0x30 ∷ 0x20 ∷ 0x30 ∷ 0x20 ∷ 0x30 ∷ 0x0a ∷ [])) ∷
    -- "value 2", at coordinate 0, and "value 5", at 1
    says 13 mft_tag 80 (index_bytes 0) (0x76 ∷ 0x61 ∷ 0x6c ∷ 0x75 ∷ 0x65 ∷ 0x20 ∷ 0x32 ∷ 0x0a ∷ []) ∷
    says 13 mft_tag 80 (index_bytes 1) (0x76 ∷ 0x61 ∷ 0x6c ∷ 0x75 ∷ 0x65 ∷ 0x20 ∷ 0x35 ∷ 0x0a ∷ []) ∷
    -- "refused 1", of a table past the profile
    says 13 [] 80 (index_bytes 0) (0x72 ∷ 0x65 ∷ 0x66 ∷ 0x75 ∷ 0x73 ∷ 0x65 ∷ 0x64 ∷ 0x20 ∷ 0x31 ∷ 0x0a ∷ []) ∷
    -- "value 4", at coordinate 1 of an `mBA ` tag; "absent", of seventeen coordinates
    says 13 clut_tag 58 (index_bytes 1) (0x76 ∷ 0x61 ∷ 0x6c ∷ 0x75 ∷ 0x65 ∷ 0x20 ∷ 0x34 ∷ 0x0a ∷ []) ∷
    says 13 mft_tag 80 (17 ∷ replicate 17 0) (0x61 ∷ 0x62 ∷ 0x73 ∷ 0x65 ∷ 0x6e ∷ 0x74 ∷ 0x0a ∷ []) ∷
    -- "refused 14": on the crate walk the three curves lie in the tag, and the slots alone are too few
    says 13 tag 60 (index_bytes 0) (0x72 ∷ 0x65 ∷ 0x66 ∷ 0x75 ∷ 0x73 ∷ 0x65 ∷ 0x64 ∷ 0x20 ∷ 0x31 ∷ 0x34 ∷ 0x0a ∷ []) ∷
    -- 1 and 11, lookup tables: `mft1`, `mft2`, an `mBA ` tag that has no part, and an `mAB ` tag of two empty M curves on each walk
    leaves 1 (narrow 1088) 1136 0 (value_of 0x6d 0x66 0x74 0x31) (pos 3 ∷ pos 1 ∷ pos 4 ∷ pos 256 ∷ pos 256 ∷ (one_to_nine ++ (pos 48 ∷ pos 768 ∷ pos 816 ∷ pos 64 ∷ pos 880 ∷ pos 256 ∷ []))) [] ∷
    leaves 1 (counted 0 2 0 3 34) 86 0 (value_of 0x6d 0x66 0x74 0x32) (pos 1 ∷ pos 3 ∷ pos 2 ∷ pos 2 ∷ pos 3 ∷ (one_to_nine ++ (pos 52 ∷ pos 4 ∷ pos 56 ∷ pos 12 ∷ pos 68 ∷ pos 18 ∷ []))) [] ∷
    leaves 1 (bare 0x42 0x41 3 1) 48 2 (value_letters ++ (0x20 ∷ 0x6d ∷ 0x42 ∷ 0x41 ∷ [])) (pos 3 ∷ pos 1 ∷ (zeros 16 ++ identity ++ zeros 6)) (0xA5A50000 ∷ 0xA5A50001 ∷ []) ∷
    leaves 1 tag_of_m 56 20 (value_letters ++ (0x20 ∷ 0x6d ∷ 0x41 ∷ 0x42 ∷ [])) (pos 1 ∷ pos 2 ∷ (zeros 16 ++ identity ++ zeros 4 ++ (pos 2 ∷ pos 0 ∷ []))) (empty_at 44 ++ empty_at 44) ∷
    leaves 11 tag_of_m 56 20 (value_letters ++ (0x20 ∷ 0x6d ∷ 0x41 ∷ 0x42 ∷ [])) (pos 1 ∷ pos 2 ∷ (zeros 16 ++ identity ++ zeros 4 ++ (pos 2 ∷ pos 0 ∷ []))) (empty_at 44 ++ empty_at 56) ∷
    -- three curves lie in the tag on the crate walk alone, and there the slots are too few
    leaves 1 tag 60 0 refused_letters (pos 14 ∷ []) [] ∷
    leaves 11 tag 60 0 refused_letters (pos 2 ∷ []) [] ∷
    -- every number of the matrix is signed, and of the bias
    leaves 1 ((0x6d ∷ 0x66 ∷ 0x74 ∷ 0x32 ∷ 0 ∷ 0 ∷ 0 ∷ 0 ∷ 1 ∷ 3 ∷ 2 ∷ 0 ∷ []) ++ nine_high ++ (0 ∷ 2 ∷ 0 ∷ 2 ∷ []) ++ replicate 28 0) 80 0 (value_of 0x6d 0x66 0x74 0x32) (pos 1 ∷ pos 3 ∷ pos 2 ∷ pos 2 ∷ pos 2 ∷ (nine_minus ++ (pos 52 ∷ pos 4 ∷ pos 56 ∷ pos 12 ∷ pos 68 ∷ pos 12 ∷ []))) [] ∷
    leaves 1 (head 3 3 0 32 0 ++ nine_high ++ high 10 ++ high 11 ++ high 12) 80 0 (value_letters ++ (0x20 ∷ 0x6d ∷ 0x41 ∷ 0x42 ∷ [])) (pos 3 ∷ pos 3 ∷ (zeros 16 ++ nine_minus ++ (minus 10 ∷ minus 11 ∷ minus 12 ∷ zeros 6))) [] ∷
    -- 2 and 12, a tone curve: every parameter is signed; an empty curve consumes 12 bytes on the book walk
    prints 2 (para ++ (0 ∷ 0 ∷ 0 ∷ 0 ∷ high 1)) 0 16 value_letters (pos 2 ∷ pos 12 ∷ pos 1 ∷ minus 1 ∷ (zeros 6 ++ (pos 16 ∷ []))) ∷
    prints 2 (para ++ (0 ∷ 4 ∷ 0 ∷ 0 ∷ seven_high)) 0 40 value_letters (pos 6 ∷ pos 12 ∷ pos 7 ∷ (seven_minus ++ (pos 40 ∷ []))) ∷
    prints 12 none 0 12 value_letters (pos 0 ∷ pos 12 ∷ (zeros 8 ++ (pos 12 ∷ []))) ∷
    -- 3, text: a range; two ranges and a language, which is not signed; a number of records
    leaves 3 ((0x74 ∷ 0x65 ∷ 0x78 ∷ 0x74 ∷ []) ++ replicate 4 0 ++ (0x41 ∷ 0 ∷ [])) 10 0 (value_of 0x74 0x65 0x78 0x74) (pos 8 ∷ pos 1 ∷ []) [] ∷
    leaves 3 ((0x64 ∷ 0x65 ∷ 0x73 ∷ 0x63 ∷ []) ++ replicate 7 0 ++ (1 ∷ 0x41 ∷ []) ++ high 9 ++ (0 ∷ 0 ∷ 0 ∷ 2 ∷ 0 ∷ 0x42 ∷ 0 ∷ 0x43 ∷ [])) 25 0 (value_of 0x64 0x65 0x73 0x63) (pos 12 ∷ pos 1 ∷ plus 9 ∷ pos 21 ∷ pos 4 ∷ []) [] ∷
    leaves 3 five 33 5 (value_of 0x6d 0x6c 0x75 0x63) (pos 1 ∷ []) (english_record 28 4 ++ (0xA5A50004 ∷ [])) ∷
    -- 4 to 10, small readers: which numbers are signed; an absence; the default
    prints 4 ((0x73 ∷ 0x66 ∷ 0x33 ∷ 0x32 ∷ 0 ∷ 0 ∷ 0 ∷ 0 ∷ []) ++ nine_high) 0 44 value_letters nine_minus ∷
    prints 5 (profile_of 0x73 0x69 0x67 0x20 (high 1)) 4 12 value_letters (plus 1 ∷ []) ∷
    prints 6 dtim 4 20 value_letters (map pos (0xE0 ∷ 0xE1 ∷ 0xE2 ∷ 0xE3 ∷ 1 ∷ 2 ∷ 3 ∷ 4 ∷ 5 ∷ 6 ∷ 7 ∷ 8 ∷ [])) ∷
    prints 7 (profile_of 0x6d 0x65 0x61 0x73 seven_high) 4 36 value_letters (plus 1 ∷ minus 2 ∷ minus 3 ∷ minus 4 ∷ plus 5 ∷ plus 6 ∷ plus 7 ∷ []) ∷
    prints 8 (profile_of 0x76 0x69 0x65 0x77 seven_high) 4 36 value_letters (minus 1 ∷ minus 2 ∷ minus 3 ∷ minus 4 ∷ minus 5 ∷ minus 6 ∷ plus 7 ∷ []) ∷
    prints 9 (profile_of 0x58 0x59 0x5a 0x20 (high 1 ++ high 2 ++ high 3)) 4 20 value_letters (minus 1 ∷ minus 2 ∷ minus 3 ∷ []) ∷
    prints 9 xyz 4 11 default_letters [] ∷
    prints 10 cicp 4 12 value_letters (map pos (1 ∷ 2 ∷ 3 ∷ 4 ∷ [])) ∷
    prints 10 cicp 4 11 absent_letters [] ∷
    -- 14, the evaluation: half-way between the two points of `mft_tag`, with a number of the buffer behind the results; at the last point of
    -- `clut_tag`, whose entries are widened; between points of both dimensions of `plane_tag`
    evaluates mft_tag 80 (pixel_bytes 1 0x80 0 0 0 4) value_letters (pos 3 ∷ pos 3 ∷ pos 4 ∷ pos 5 ∷ []) (3 ∷ 4 ∷ 5 ∷ 0xA503 ∷ []) ∷
    evaluates clut_tag 58 (pixel_bytes 1 0xFF 0xFF 0 0 2) value_letters (pos 2 ∷ pos 1285 ∷ pos 1542 ∷ []) (1285 ∷ 1542 ∷ []) ∷
    evaluates plane_tag 64 (pixel_bytes 2 0x40 0 0xC0 0 1) value_letters (pos 1 ∷ pos 3040 ∷ []) (3040 ∷ []) ∷
    -- too few numbers in the buffer; a coordinate too many, and nine, which count as eight; no colour table
    evaluates mft_tag 80 (pixel_bytes 1 0x80 0 0 0 2) refused_letters (pos 14 ∷ []) (0xA500 ∷ 0xA501 ∷ []) ∷
    evaluates mft_tag 80 (pixel_bytes 2 0x80 0 0 0 0) refused_letters (pos 19 ∷ []) [] ∷
    evaluates mft_tag 80 (pixel_bytes 9 0x80 0 0 0 1) refused_letters (pos 19 ∷ []) (0xA500 ∷ []) ∷
    evaluates (bare 0x42 0x41 3 1) 48 (pixel_bytes 3 0 0 0 0 1) refused_letters (pos 19 ∷ []) (0xA500 ∷ []) ∷
    -- "refused 1", of a table past the profile; a longer buffer than is allowed, and a job cut short
    says 14 [] 80 (pixel_bytes 1 0 0 0 0 1) (0x72 ∷ 0x65 ∷ 0x66 ∷ 0x75 ∷ 0x73 ∷ 0x65 ∷ 0x64 ∷ 0x20 ∷ 0x31 ∷ 0x0a ∷ []) ∷
    bad 14 (1 ∷ (replicate 16 0 ++ (2 ∷ 1 ∷ []))) ∷
    bad 14 (replicate 18 0) ∷
    bad 15 (replicate 19 0) ∷
    []
