-- What the standards write of text, and this library takes and answers: what they ask, and in the records `Begins..` what is taken besides.
-- Nothing here goes by the reader's own layout.
use Rattle.std.specs.Prelude.{ℕ, ◌+◌, ◌*◌, ◌≤◌, ◌<◌, ◌≡◌, cond, List, [], ◌∷◌, ◌++◌, ◌⊎◌, eqb, length, take, drop, replicate}
use Rattle.icc.specs.Each.{Each}
use Rattle.icc.specs.Elements.{Stands}
use Rattle.icc.specs.Numbers.{be32, each16, Is16, Is32, Each16}
use Rattle.icc.specs.Text.{text_type, ascii_part, unicode_part, UnicodeString, no_string, characters, Description, Localized, localized_head, LocalizedTag}
use Rattle.text_meaning.specs.Answer.{Answer, desc, Span, span, Unicode}
use Rattle.text_meaning.specs.Mluc.{text_record_words}

-- the tag in its profile: a size of 0 counts as 12
abbrev pub bytes_in : ℕ → ℕ
bytes_in size = cond (eqb size 0) 12 size

abbrev pub TextTagInside : List ℕ → ℕ → ℕ → Type 0
TextTagInside profile entry size = entry + bytes_in size ≤ length profile

abbrev pub tag_in : List ℕ → ℕ → ℕ → List ℕ
tag_in profile entry size = take (bytes_in size) (drop entry profile)

-- of a string, zeros at its end are cut: this does not end with one
abbrev pub NoZeroLast : List ℕ → Type 0
NoZeroLast string = (front : List ℕ) → string ≡ front ++ (0 ∷ []) → ⊥

-- ---- textType

-- any bytes are taken, with any number of zeros behind them, or none
pub record BeginsText (t : List ℕ) (s : Span) : Type 0 where
  pub reserved : ℕ
  pub string : List ℕ
  pub zeros : ℕ
  pub cut : NoZeroLast string
  pub is : t ≡ text_type reserved (string ++ replicate zeros 0)
  pub answer_is : s ≡ span 8 (length string)

-- ---- textDescriptionType

-- the answer: the Unicode string stands behind 20 bytes and the n bytes of the ASCII string; one that is not there is 0 bytes at 0
abbrev pub unicode_told : ℕ → UnicodeString → Span
unicode_told start no_string = span 0 0
unicode_told start (characters cs) = span start (2 * length cs)

abbrev pub description_told : Description → Answer
description_told d =
    let n : ℕ = length d.ascii + 1 in
    desc (span 12 (length d.ascii)) record { language = d.language; string = unicode_told (20 + n) d.unicode }

-- bytes that are fewer than a language and a count, or than the string of that count
pub data CutShort (part : List ℕ) : Type 0 where
  no_count : length part < 8 → CutShort part
  no_units : (language count : ℕ) (bytes : List ℕ) → Is32 count → part ≡ be32 language ++ be32 count ++ bytes → length bytes < 2 * count → CutShort part

-- what stands behind the ASCII string is a Unicode part, of any units and with any number of zeros behind them, or none; or it is cut short,
-- and answered by language 0 and 0 bytes at 0, where a string of no units at all, not even zeros, stands too. The ScriptCode part is not
-- looked at
pub data UnicodeTaken (start : ℕ) (part : List ℕ) (u : Unicode) : Type 0 where
  none : (language : ℕ) (rest : List ℕ) → Is32 language → part ≡ unicode_part language [] ++ rest → u ≡ record { language = language; string = span 0 0 } → UnicodeTaken start part u
  some : (language : ℕ) (units : List ℕ) (zeros : ℕ) (rest : List ℕ) → Is32 language → Each16 units → 1 ≤ length units + zeros → Is32 (length units + zeros) → NoZeroLast units → part ≡ unicode_part language (units ++ replicate zeros 0) ++ rest → u ≡ record { language = language; string = span start (2 * length units) } → UnicodeTaken start part u
  short : CutShort part → u ≡ record { language = 0; string = span 0 0 } → UnicodeTaken start part u

-- of the ASCII string any bytes are taken, as of textType
pub record BeginsDescription (t : List ℕ) (s : Span) (u : Unicode) : Type 0 where
  pub reserved : ℕ
  pub string : List ℕ
  pub zeros : ℕ
  pub part : List ℕ
  pub cut : NoZeroLast string
  pub counted : Is32 (length string + zeros)
  pub is : t ≡ ascii_part reserved (string ++ replicate zeros 0) ++ part
  pub answer_is : s ≡ span 12 (length string)
  pub unicode : UnicodeTaken (20 + (length string + zeros)) part u

-- ---- multiLocalizedUnicodeType

-- numbers that their bytes hold
pub record RecordFits (l : Localized) : Type 0 where
  pub language : Is16 l.language
  pub country : Is16 l.country
  pub bytes : Is32 l.bytes
  pub offset : Is32 l.offset

-- what is asked of a tag: a record at least
pub record Asked {t : List ℕ} (tag : LocalizedTag t) : Type 0 where
  pub some_record : 1 ≤ length tag.records
  pub count_fits : Is32 (length tag.records)
  pub fit : Each RecordFits tag.records

-- the words of the records: language, country, where the string starts, and the bytes of its units
unfoldable pub localized_told : List Localized → List ℕ
localized_told [] = []
localized_told (l ∷ ls) = l.language ∷ l.country ∷ l.offset ∷ 2 * length l.units ∷ localized_told ls

-- a string of units that lies in the tag is taken, and one with an odd byte behind them, which is dropped
pub record StringTaken (t : List ℕ) (l : Localized) : Type 0 where
  pub odd : List ℕ
  pub at_most_one : length odd ≤ 1
  pub fits : RecordFits l
  pub units : Each16 l.units
  pub bytes : l.bytes ≡ 2 * length l.units + length odd
  pub in_tag : l.offset ≤ length t
  pub stands : Stands t l.offset (each16 l.units ++ odd)

abbrev pub StringsTaken : List ℕ → List Localized → Type 0
StringsTaken t ls = Each (StringTaken t) ls

-- a count of 0 is taken for 1, and any record size for 12
pub record BeginsLocalized (t : List ℕ) (ls : List Localized) : Type 0 where
  pub reserved : ℕ
  pub count : ℕ
  pub size : ℕ
  pub count_fits : Is32 count
  pub records : ((1 ≤ count) × (length ls ≡ count)) ⊎ ((count ≡ 0) × (length ls ≡ 1))
  pub begins : Stands t 0 (localized_head reserved count size ls)
  pub strings : StringsTaken t ls

-- a tag of n such records, and the slots as they were lent and as they are left
pub record ReadLocalized (profile : List ℕ) (entry size n : ℕ) (slots left : List ℕ) : Type 0 where
  pub inside : TextTagInside profile entry size
  pub records : List Localized
  pub begins : BeginsLocalized (tag_in profile entry size) records
  pub count_is : n ≡ length records
  pub room : length records * text_record_words ≤ length slots
  pub slots_are : left ≡ localized_told records ++ drop (length (localized_told records)) slots
