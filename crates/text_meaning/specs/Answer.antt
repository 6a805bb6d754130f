-- What the reader of text answers, in numbers.
use Rattle.std.specs.Prelude.{ℕ, List, ◌++◌, length, drop, Option, Some, None, Result, Ok, Err}
use Rattle.fields.specs.Refusals.{refusal_number}
use Rattle.fields.specs.declared.Refusal.{Refusal}
use Rattle.text_meaning.specs.declared.Description.{Description}
use Rattle.text_meaning.specs.declared.Range.{Range}
use Rattle.text_meaning.specs.declared.TextValue.{TextValue}

-- a range of the tag: where it starts, and its bytes
pub record Span : Type 0 where
  pub start : ℕ
  pub bytes : ℕ

abbrev pub span : ℕ → ℕ → Span
span start bytes = record { start = start; bytes = bytes }

-- the range of a string that is not there
abbrev pub nowhere : Span
nowhere = span 0 0

-- a Unicode string and its language
pub record Unicode : Type 0 where
  pub language : ℕ
  pub string : Span

-- the string of `text`; the ASCII string and the Unicode string of `desc`; how many records `mluc` has; an absence; the number of a refusal
pub data Answer : Type 0 where
  text : Span → Answer
  desc : Span → Unicode → Answer
  mluc : ℕ → Answer
  absent : Answer
  refused : ℕ → Answer

-- the numbers that a result stands for
abbrev pub span_from : Range → Span
span_from r = span r.start.0 r.length

abbrev pub unicode_from : Description → Unicode
unicode_from d = record { language = d.language; string = span_from d.unicode }

abbrev pub in_numbers : Result (Option TextValue) Refusal → Answer
in_numbers (Ok (Some (TextValue.Text r))) = text (span_from r)
in_numbers (Ok (Some (TextValue.Desc d))) = desc (span_from d.ascii) (unicode_from d)
in_numbers (Ok (Some (TextValue.Mluc n))) = mluc n
in_numbers (Ok None) = absent
in_numbers (Err why) = refused (refusal_number why)

-- what is left in lent slots: the words of the records in front, and everything else as it was; only `mluc` has records
abbrev pub slots_with : Answer → List ℕ → List ℕ → List ℕ
slots_with (mluc n) words slots = words ++ drop (length words) slots
slots_with (text s) words slots = slots
slots_with (desc s u) words slots = slots
slots_with absent words slots = slots
slots_with (refused n) words slots = slots
