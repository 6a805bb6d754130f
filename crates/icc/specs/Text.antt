-- textType (10.24) and multiLocalizedUnicodeType (10.15), and textDescriptionType of ICC.1:2001-04 (6.5.17).
use Rattle.std.specs.Prelude.{ℕ, ◌*◌, ◌≤◌, ◌<◌, ◌≡◌, List, [], ◌∷◌, ◌++◌, length}
use Rattle.icc.specs.Each.{Each}
use Rattle.icc.specs.Elements.{Stands}
use Rattle.icc.specs.Numbers.{be8, be16, be32, each16, Is16, Is32, Each16}

-- ---- characters

-- 7-bit ASCII, and Unicode in units of 16 bits; none is the 0 that ends a string
abbrev pub Ascii : List ℕ → Type 0
Ascii cs = Each (λ c. (1 ≤ c) × (c < 128)) cs

abbrev pub Utf16 : List ℕ → Type 0
Utf16 cs = Each (λ c. (1 ≤ c) × Is16 c) cs

-- a string: characters, and the 0 that ends them
abbrev pub terminated : List ℕ → List ℕ
terminated characters = characters ++ (0 ∷ [])

-- ---- textType

unfoldable pub text_type : (reserved : ℕ) → (string : List ℕ) → List ℕ
text_type reserved string =
    be32 0x74657874  -- 0 to 3: 'text'
    ++ be32 reserved  -- 4 to 7: reserved, 0
    ++ string  -- 8 on: 7-bit ASCII characters, terminated

-- ---- textDescriptionType: three parts, one behind the other

-- with an ASCII string of n bytes
unfoldable pub ascii_part : (reserved : ℕ) → (string : List ℕ) → List ℕ
ascii_part reserved string =
    be32 0x64657363  -- 0 to 3: 'desc'
    ++ be32 reserved  -- 4 to 7: reserved, 0
    ++ be32 (length string)  -- 8 to 11: ASCII count, with the terminating 0: n
    ++ string  -- 12 to 11 + n: 7-bit ASCII characters, terminated

unfoldable pub unicode_part : (language : ℕ) → (string : List ℕ) → List ℕ
unicode_part language string =
    be32 language  -- 12 + n to 15 + n: Unicode language code
    ++ be32 (length string)  -- 16 + n to 19 + n: Unicode count, with the terminating 0: m
    ++ each16 string  -- 20 + n to 19 + n + 2m: Unicode characters, terminated

unfoldable pub script_part : (code count : ℕ) → (string : List ℕ) → List ℕ
script_part code count string =
    be16 code  -- 20 + n + 2m to 21 + n + 2m: ScriptCode code
    ++ be8 count  -- 22 + n + 2m: ScriptCode count
    ++ string  -- 23 + n + 2m to 89 + n + 2m: ScriptCode description, 67 bytes

-- a Unicode string need not be there: its count is 0 then
pub data UnicodeString : Type 0 where
  no_string : UnicodeString
  characters : List ℕ → UnicodeString

unfoldable pub unicode_string : UnicodeString → List ℕ
unicode_string no_string = []
unicode_string (characters cs) = terminated cs

unfoldable pub IsUnicode : UnicodeString → Type 0
IsUnicode no_string = Unit
IsUnicode (characters cs) = Utf16 cs

pub record Description : Type 0 where
  pub ascii : List ℕ
  pub language : ℕ
  pub unicode : UnicodeString
  pub script_code : ℕ
  pub script_count : ℕ
  pub script : List ℕ

unfoldable pub text_description_type : (reserved : ℕ) → Description → List ℕ
text_description_type reserved d =
    ascii_part reserved (terminated d.ascii)
    ++ unicode_part d.language (unicode_string d.unicode)
    ++ script_part d.script_code d.script_count d.script

pub record IsDescription (d : Description) : Type 0 where
  pub ascii : Ascii d.ascii
  pub ascii_count_lem : Is32 (length (terminated d.ascii))
  pub language : Is32 d.language
  pub unicode : IsUnicode d.unicode
  pub unicode_count_lem : Is32 (length (unicode_string d.unicode))
  pub script : length d.script ≡ 67

-- ---- multiLocalizedUnicodeType: a head, and strings that stand in the tag at the offsets that it gives

-- a record, and its string in UTF-16: units of 16 bits
pub record Localized : Type 0 where
  pub language : ℕ
  pub country : ℕ
  pub bytes : ℕ
  pub offset : ℕ
  pub units : List ℕ

unfoldable pub record_element : Localized → List ℕ
record_element l =
    be16 l.language  -- 0 to 1: language code
    ++ be16 l.country  -- 2 to 3: country code
    ++ be32 l.bytes  -- 4 to 7: length of the string, in bytes
    ++ be32 l.offset  -- 8 to 11: offset of the string, from the tag's first byte

unfoldable pub record_elements : List Localized → List ℕ
record_elements [] = []
record_elements (l ∷ ls) = record_element l ++ record_elements ls

unfoldable pub localized_head : (reserved count size : ℕ) → List Localized → List ℕ
localized_head reserved count size records =
    be32 0x6D6C7563  -- 0 to 3: 'mluc'
    ++ be32 reserved  -- 4 to 7: reserved, 0
    ++ be32 count  -- 8 to 11: number of records
    ++ be32 size  -- 12 to 15: record size
    ++ record_elements records  -- 16 on: records

-- the string of a record lies in the tag
pub record StringAt (t : List ℕ) (l : Localized) : Type 0 where
  pub units : Each16 l.units
  pub bytes : l.bytes ≡ 2 * length l.units
  pub in_tag : l.offset ≤ length t
  pub stands : Stands t l.offset (each16 l.units)

abbrev pub StringsAt : List ℕ → List Localized → Type 0
StringsAt t ls = Each (StringAt t) ls

-- t is a multiLocalizedUnicodeType
pub record LocalizedTag (t : List ℕ) : Type 0 where
  pub reserved : ℕ
  pub records : List Localized
  pub begins : Stands t 0 (localized_head reserved (length records) 12 records)
  pub strings : StringsAt t records
