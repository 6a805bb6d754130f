-- The records of an `mluc` tag: as far as they are read, and how the reading ends.
use Rattle.std.specs.Prelude.{ℕ, zero, suc, ◌+◌, ◌*◌, ◌/◌, cond, List, [], ◌∷◌, ◌++◌, ltb, eqb, length}
use Rattle.text_meaning.specs.Layout.{record_count, header_end, language_at, country_at, string_length, string_start, string_end}

-- a record: language and country, two bytes each, and where its string lies in the tag
pub record PlacedString : Type 0 where
  pub language : ℕ
  pub country : ℕ
  pub start : ℕ
  pub bytes : ℕ

-- why a record cannot be read: its header is past the tag, or its string
pub data Fault : Type 0 where
  header : Fault
  string : Fault

-- what stands at a record's place
pub data FoundRecord : Type 0 where
  is : PlacedString → FoundRecord
  no : Fault → FoundRecord

-- all records are read, or the reading stops
pub data RecordsEnd : Type 0 where
  whole : RecordsEnd
  stopped : Fault → RecordsEnd

-- the records as far as the reading gets, and its end
pub record RecordsRead : Type 0 where
  pub records : List PlacedString
  pub end : RecordsEnd

abbrev pub done : RecordsRead
done = record { records = []; end = whole }

abbrev pub stops : Fault → RecordsRead
stops f = record { records = []; end = stopped f }

abbrev pub first : PlacedString → RecordsRead → RecordsRead
first r rest = record { records = r ∷ rest.records; end = rest.end }

-- an odd last byte is no part of a string of two-byte units
unfoldable pub even : ℕ → ℕ
even n = n / 2 * 2

-- record k, as its header has it; nothing is trimmed
abbrev pub localized_at : List ℕ → ℕ → PlacedString
localized_at t k = record { language = language_at t k; country = country_at t k; start = string_start t k; bytes = even (string_length t k) }

-- what stands at its place: the header first, then its string
unfoldable pub record_at : List ℕ → ℕ → FoundRecord
record_at t k =
    cond (ltb (length t) (header_end k)) (no header) (
    cond (ltb (length t) (string_end t k)) (no string) (
    is (localized_at t k)))

-- what is seen at a place, and what follows a record there
abbrev pub follow : FoundRecord → (PlacedString → RecordsRead) → RecordsRead
follow (is r) next = next r
follow (no f) next = stops f

-- n records from record k on, header and string in turn
unfoldable pub records_from : List ℕ → ℕ → ℕ → RecordsRead
records_from t k zero = done
records_from t k (suc n) = follow (record_at t k) (λ r. first r (records_from t (k + 1) n))

-- the first record is always read
unfoldable pub records_asked : List ℕ → ℕ
records_asked t = cond (eqb (record_count t) 0) 1 (record_count t)

-- the records of a tag
unfoldable pub records_in : List ℕ → RecordsRead
records_in t = records_from t 0 (records_asked t)

-- words of a record
abbrev pub text_record_words : ℕ
text_record_words = 4

abbrev pub placed_words : PlacedString → List ℕ
placed_words r = r.language ∷ r.country ∷ r.start ∷ r.bytes ∷ []

-- the words of records, one behind the other
unfoldable pub words_in : List PlacedString → List ℕ
words_in [] = []
words_in (r ∷ rs) = placed_words r ++ words_in rs
