-- The worked cases of text: calls of the reader at offset 0, and what they answer and leave.
use Rattle.std.specs.Prelude.{ℕ, ◌*◌, ◌≡◌, List, [], ◌∷◌, ◌++◌, length, replicate}
use Rattle.text_meaning.specs.Answer.{Answer, text, desc, mluc, absent, refused, span}
use Rattle.text_meaning.specs.Mluc.{text_record_words}
use Rattle.text_meaning.specs.Text.{string_of, slots_after}

-- profile and size, the lent words, and the answer and the words as they are left
pub data Case : Type 0 where
  gives : List ℕ → ℕ → List ℕ → Answer → List ℕ → Case

unfoldable pub Holds : Case → Type 0
Holds (gives profile size slots a left) =
    (string_of profile 0 size (length slots) ≡ a)
    × (slots_after profile 0 size slots ≡ left)

-- four bytes with the number n < 256
abbrev pub word : ℕ → List ℕ
word n = 0 ∷ 0 ∷ 0 ∷ n ∷ []

abbrev pub most : List ℕ
most = 0xFF ∷ 0xFF ∷ 0xFF ∷ 0xFF ∷ []

abbrev pub text_tag : List ℕ → List ℕ
text_tag string = (0x74 ∷ 0x65 ∷ 0x78 ∷ 0x74 ∷ []) ++ word 0 ++ string

abbrev pub desc_tag : List ℕ → List ℕ
desc_tag rest = (0x64 ∷ 0x65 ∷ 0x73 ∷ 0x63 ∷ []) ++ word 0 ++ rest

-- an `mluc` tag with this count; records of 12 bytes
abbrev pub mluc_tag : List ℕ → List ℕ → List ℕ
mluc_tag count rest = (0x6d ∷ 0x6c ∷ 0x75 ∷ 0x63 ∷ []) ++ word 0 ++ count ++ word 12 ++ rest

-- "enUS", and the length and the offset of its string
abbrev pub english : List ℕ → List ℕ → List ℕ
english long at = (0x65 ∷ 0x6e ∷ 0x55 ∷ 0x53 ∷ []) ++ long ++ at

-- so many slots, each word 7
abbrev pub slots : ℕ → List ℕ
slots n = replicate (n * text_record_words) 7

-- its record
abbrev pub english_record : ℕ → ℕ → List ℕ
english_record start bytes = 0x656e ∷ 0x5553 ∷ start ∷ bytes ∷ []

-- count 0, a string of five bytes at 28
abbrev pub five : List ℕ
five = mluc_tag (word 0) (english (word 5) (word 28) ++ (0 ∷ 0x41 ∷ 0 ∷ 0x42 ∷ 0 ∷ []))

-- a tag of each type with a different byte in every field, and bytes behind it
abbrev pub reserved : List ℕ
reserved = 1 ∷ 2 ∷ 3 ∷ 4 ∷ []

abbrev pub full_text : List ℕ
full_text = (0x74 ∷ 0x65 ∷ 0x78 ∷ 0x74 ∷ []) ++ reserved ++ (0x41 ∷ 0x42 ∷ 0x43 ∷ 0 ∷ [])

abbrev pub full_desc : List ℕ
full_desc =
    (0x64 ∷ 0x65 ∷ 0x73 ∷ 0x63 ∷ []) ++ reserved ++ word 4 ++ (0x41 ∷ 0x42 ∷ 0x43 ∷ 0 ∷ [])
    ++ (5 ∷ 6 ∷ 7 ∷ 8 ∷ []) ++ word 3 ++ (9 ∷ 0x44 ∷ 10 ∷ 0x45 ∷ 0 ∷ 0 ∷ [])
    ++ (11 ∷ 12 ∷ 13 ∷ []) ++ replicate 67 14

-- "enUS" with three units at 44, "deAT" with two at 40
abbrev pub full_mluc : List ℕ
full_mluc =
    (0x6d ∷ 0x6c ∷ 0x75 ∷ 0x63 ∷ []) ++ reserved ++ word 2 ++ word 12
    ++ (0x65 ∷ 0x6e ∷ 0x55 ∷ 0x53 ∷ []) ++ word 6 ++ word 44
    ++ (0x64 ∷ 0x65 ∷ 0x41 ∷ 0x54 ∷ []) ++ word 4 ++ word 40
    ++ (5 ∷ 0x41 ∷ 6 ∷ 0x42 ∷ []) ++ (7 ∷ 0x43 ∷ 8 ∷ 0x44 ∷ 9 ∷ 0x45 ∷ [])

abbrev pub behind : List ℕ
behind = 0x46 ∷ 0x47 ∷ []

abbrev pub cases : List Case
cases =
    -- a tag of each type, every field
    gives (full_text ++ behind) 12 (slots 1) (text (span 8 3)) (slots 1) ∷
    gives (full_desc ++ behind) 100 (slots 1) (desc (span 12 3) record { language = 0x05060708; string = span 24 4 }) (slots 1) ∷
    gives (full_mluc ++ behind) 50 (slots 3) (mluc 2) ((0x656e ∷ 0x5553 ∷ 44 ∷ 6 ∷ 0x6465 ∷ 0x4154 ∷ 40 ∷ 4 ∷ []) ++ slots 1) ∷
    gives full_mluc 50 (slots 1) (refused 14) (slots 1) ∷
    -- sizes 1 to 3 are absent wherever the tag lies, 4 to 7 in the profile; 8 bytes are a tag, and another type is absent
    gives [] 3 [] absent [] ∷
    gives [] 4 [] (refused 1) [] ∷
    gives full_text 7 [] absent [] ∷
    gives full_text 8 [] (text (span 8 0)) [] ∷
    gives (0x74 ∷ 0x65 ∷ 0x78 ∷ 0x75 ∷ word 0) 8 [] absent [] ∷
    -- a size of 0 counts as 12, and past the profile is refusal 1
    gives (full_text ++ behind) 0 [] (text (span 8 3)) [] ∷
    gives (text_tag (0x41 ∷ 0x42 ∷ 0x43 ∷ [])) 0 [] (refused 1) [] ∷
    gives full_text 13 [] (refused 1) [] ∷
    -- `desc` without a count is refusal 2, and so is one whose ASCII string ends behind the tag
    gives full_desc 11 [] (refused 2) [] ∷
    gives full_desc 15 [] (refused 2) [] ∷
    -- one record, length 4; the slot behind it stays; no slot is refusal 14
    gives five 33 (slots 1) (mluc 1) (english_record 28 4) ∷
    gives five 33 (slots 2) (mluc 1) (english_record 28 4 ++ slots 1) ∷
    gives five 33 [] (refused 14) [] ∷
    -- a zero unit at the end of its string stays
    gives (mluc_tag (word 1) (english (word 4) (word 28) ++ (0 ∷ 0x41 ∷ 0 ∷ 0 ∷ []))) 32 (slots 1) (mluc 1) (english_record 28 4) ∷
    -- a string past the tag is absent, even where the next header is past it too; that one alone is refusal 2
    gives five 32 (slots 1) absent (slots 1) ∷
    gives (mluc_tag (word 2) (english (word 1) (word 28))) 28 (slots 2) absent (slots 2) ∷
    gives (mluc_tag (word 2) (english (word 0) (word 28))) 28 (slots 2) (refused 2) (slots 2) ∷
    -- so is one behind a record that could be read, and nothing is written
    gives (mluc_tag (word 2) (english (word 0) (word 28) ++ english (word 1) (word 40))) 40 (slots 2) absent (slots 2) ∷
    -- a header that is cut off is refusal 2, whatever its length says
    gives (mluc_tag (word 1) (english most [])) 24 (slots 1) (refused 2) (slots 1) ∷
    -- a count of 2^32 - 1 ends at the first header past the tag; offset and length of 2^32 - 1 do not wrap
    gives (mluc_tag most (english (word 0) (word 28))) 28 (slots 1) (refused 2) (slots 1) ∷
    gives (mluc_tag (word 1) (english most most)) 28 (slots 1) absent (slots 1) ∷
    -- trailing zeros are cut, others not; a range that is cut to nothing keeps its start
    gives (text_tag (0x41 ∷ 0 ∷ 0x42 ∷ 0 ∷ 0 ∷ [])) 13 [] (text (span 8 3)) [] ∷
    gives (text_tag (0 ∷ 0 ∷ [])) 10 [] (text (span 8 0)) [] ∷
    -- a Unicode string; one of length 0 keeps the language; one past the tag, and fewer than 8 bytes, do not
    gives (desc_tag (word 2 ++ (0x41 ∷ 0 ∷ []) ++ word 9 ++ word 2 ++ (0 ∷ 0x42 ∷ 0 ∷ 0 ∷ []))) 26 [] (desc (span 12 1) record { language = 9; string = span 22 2 }) [] ∷
    gives (desc_tag (word 1 ++ (0 ∷ []) ++ word 9 ++ word 1 ++ (0 ∷ 0 ∷ []))) 23 [] (desc (span 12 0) record { language = 9; string = span 21 0 }) [] ∷
    gives (desc_tag (word 0 ++ word 9 ++ word 0)) 20 [] (desc (span 12 0) record { language = 9; string = span 0 0 }) [] ∷
    gives (desc_tag (word 0 ++ word 9 ++ word 1)) 20 [] (desc (span 12 0) record { language = 0; string = span 0 0 }) [] ∷
    gives (desc_tag (word 0 ++ word 9 ++ word 1 ++ (0x42 ∷ []))) 21 [] (desc (span 12 0) record { language = 0; string = span 0 0 }) [] ∷
    gives (desc_tag (word 0 ++ word 9)) 16 [] (desc (span 12 0) record { language = 0; string = span 0 0 }) [] ∷
    gives (desc_tag (word 1)) 12 [] (refused 2) [] ∷
    []
