-- What a curve is, apart from where it stands and from the walk that meets it.
use Rattle.std.specs.Prelude.{ℕ, ◌+◌, cond, List, [], ◌∷◌, eqb, get_or}
use Rattle.curve_meaning.specs.Layout.{entries_end, parameters_end, parameter_count}
use Rattle.curve_meaning.specs.declared.Walk.{Walk}
use Rattle.curve_meaning.specs.declared.Walk.TheVariants.{Crate, Book}

-- empty; a table of so many entries; a function of a type, with its parameters
pub data Shape : Type 0 where
  empty : Shape
  table : ℕ → Shape
  para : ℕ → List ℕ → Shape

-- so many entries: an empty curve, or a table
unfoldable pub table_shape : ℕ → Shape
table_shape n = cond (eqb n 0) empty (table n)

-- the bytes that a curve occupies, on either walk
unfoldable pub size_of : Shape → ℕ
size_of empty = entries_end 0
size_of (table n) = entries_end n
size_of (para type ps) = parameters_end (parameter_count type)

-- how far a walk goes on behind an empty curve: the crate walk stays, the book walk steps over its bytes
abbrev pub empty_step : Walk → ℕ
empty_step Crate = 0
empty_step Book = size_of empty

-- how far a walk goes on behind a curve: by the bytes that it occupies, but for the crate walk at an empty one
unfoldable pub step_of : Walk → Shape → ℕ
step_of walk empty = empty_step walk
step_of walk (table n) = size_of (table n)
step_of walk (para type ps) = size_of (para type ps)

-- the words of a record
abbrev pub record_words : ℕ
record_words = 10

-- a curve's record, whose data start there: kind, start, count of entries or parameters, seven parameters, unused ones 0
abbrev pub record_of : ℕ → ℕ → ℕ → List ℕ → List ℕ
record_of kind start count ps =
    kind ∷ start ∷ count ∷ get_or ps 0 0 ∷ get_or ps 1 0 ∷ get_or ps 2 0 ∷ get_or ps 3 0 ∷ get_or ps 4 0 ∷ get_or ps 5 0 ∷ get_or ps 6 0 ∷ []

-- the kinds: an empty curve, a table, a function by its type
abbrev pub empty_kind : ℕ
empty_kind = 0

abbrev pub table_kind : ℕ
table_kind = 1

abbrev pub para_kind : ℕ → ℕ
para_kind type = 2 + type

unfoldable pub words_of : ℕ → Shape → List ℕ
words_of start empty = record_of empty_kind start 0 []
words_of start (table n) = record_of table_kind start n []
words_of start (para type ps) = record_of (para_kind type) start (parameter_count type) ps
