-- How the standards lay out text: textType and multiLocalizedUnicodeType of ICC.1:2022, textDescriptionType of ICC.1:2001-04. `t` is
-- the tag's bytes.
--
--   textType                    textDescriptionType                        multiLocalizedUnicodeType
--    0 to  3  'text'             0 to  3  'desc'                            0 to  3  'mluc'
--    4 to  7  reserved, 0        4 to  7  reserved, 0                       4 to  7  reserved, 0
--    8 on     ASCII string       8 to 11  n, bytes of the ASCII string      8 to 11  number of records
--                               12 on     ASCII string                     12 to 15  size of a record, 12
--                               12 + n    Unicode language, 4 bytes        16 + 12k  record k: language, 2 bytes
--                               16 + n    m, units of the Unicode string   18 + 12k            country, 2 bytes
--                               20 + n    Unicode string, 2m bytes         20 + 12k            length of its string, in bytes
--                               20 + n    ScriptCode part, 70 bytes        24 + 12k            offset of its string in the tag
--                                  + 2m
use Rattle.std.specs.Prelude.{ℕ, ◌+◌, ◌*◌, List}
use Rattle.fields.specs.Bytes.{u16_at, u32_at}

-- textType
abbrev pub text_start : ℕ
text_start = 8

-- textDescriptionType: the ASCII string, and the Unicode part behind it
abbrev pub ascii_start : ℕ
ascii_start = 12

abbrev pub ascii_count : List ℕ → ℕ
ascii_count t = u32_at t 8

abbrev pub ascii_end : List ℕ → ℕ
ascii_end t = ascii_start + ascii_count t

abbrev pub unicode_language : List ℕ → ℕ → ℕ
unicode_language t at = u32_at t at

abbrev pub unicode_count : List ℕ → ℕ → ℕ
unicode_count t at = u32_at t (at + 4)

abbrev pub unicode_start : ℕ → ℕ
unicode_start at = at + 8

abbrev pub unicode_end : List ℕ → ℕ → ℕ
unicode_end t at = unicode_start at + 2 * unicode_count t at

-- multiLocalizedUnicodeType: record k, of 12 bytes
abbrev pub record_count : List ℕ → ℕ
record_count t = u32_at t 8

abbrev pub header_at : ℕ → ℕ
header_at k = 16 + 12 * k

abbrev pub header_end : ℕ → ℕ
header_end k = header_at k + 12

abbrev pub language_at : List ℕ → ℕ → ℕ
language_at t k = u16_at t (header_at k)

abbrev pub country_at : List ℕ → ℕ → ℕ
country_at t k = u16_at t (header_at k + 2)

abbrev pub string_length : List ℕ → ℕ → ℕ
string_length t k = u32_at t (header_at k + 4)

abbrev pub string_start : List ℕ → ℕ → ℕ
string_start t k = u32_at t (header_at k + 8)

abbrev pub string_end : List ℕ → ℕ → ℕ
string_end t k = string_start t k + string_length t k
