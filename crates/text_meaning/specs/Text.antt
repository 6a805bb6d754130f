-- Text: what each call must answer, and what it leaves in the lent slots.
use Rattle.std.specs.Prelude.{ℕ, ◌+◌, ◌-◌, ◌*◌, ◌/◌, ◌≡◌, cond, List, ltb, eqb, length, Option, Result}
use Rattle.fields.specs.Bytes.{u32_at}
use Rattle.fields.specs.House.{tag_size}
use Rattle.fields.specs.Place.{counted_size, counted_tag}
use Rattle.fields.specs.Tag.{signature_of}
use Rattle.fields.specs.declared.Refusal.{Refusal}
use Rattle.fields.specs.declared.Kind.TheVariants.{Text, Desc, Mluc}
use Rattle.text_meaning.specs.Answer.{Answer, text, desc, mluc, absent, refused, span, nowhere, Unicode, in_numbers, slots_with}
use Rattle.text_meaning.specs.Cut.{byte_of, unit_of, kept_of}
use Rattle.text_meaning.specs.Layout.{text_start, ascii_start, ascii_count, ascii_end, unicode_language, unicode_count, unicode_start, unicode_end}
use Rattle.text_meaning.specs.Mluc.{Fault, header, string, RecordsEnd, whole, stopped, records_asked, records_in, text_record_words, words_in}
use Rattle.text_meaning.specs.declared.TextValue.{TextValue}

-- `text`: the bytes up to the tag's end
unfoldable pub text_of : List ℕ → Answer
text_of t = text (span text_start (kept_of (byte_of t text_start) (length t - text_start)))

-- the Unicode part of `desc`, at its place: one that does not lie in the tag has language 0
unfoldable pub unicode_of : List ℕ → ℕ → Unicode
unicode_of t at =
    cond (ltb (length t) (unicode_end t at)) record { language = 0; string = nowhere } (
    cond (eqb (unicode_count t at) 0) record { language = unicode_language t at; string = nowhere } (
    record { language = unicode_language t at; string = span (unicode_start at) (2 * kept_of (unit_of t (unicode_start at)) (unicode_count t at)) }))

-- `desc`
unfoldable pub desc_of : List ℕ → Answer
desc_of t =
    cond (ltb (length t) tag_size) (refused 2) (
    cond (ltb (length t) (ascii_end t)) (refused 2) (
    desc (span ascii_start (kept_of (byte_of t ascii_start) (ascii_count t))) (unicode_of t (ascii_end t))))

-- `mluc`, with so many words lent: a slot is a whole record's words
abbrev pub faulty : Fault → Answer
faulty header = refused 2
faulty string = absent

unfoldable pub slotted_of : ℕ → ℕ → Answer
slotted_of n words = cond (ltb (words / text_record_words) n) (refused 14) (mluc n)

abbrev pub ended_by : RecordsEnd → Answer → Answer
ended_by whole a = a
ended_by (stopped f) a = faulty f

unfoldable pub mluc_of : List ℕ → ℕ → Answer
mluc_of t words = ended_by (records_in t).end (slotted_of (records_asked t) words)

-- by the type of the tag t
unfoldable pub by_type : List ℕ → ℕ → Answer
by_type t words =
    cond (eqb (u32_at t 0) (signature_of Text)) (text_of t) (
    cond (eqb (u32_at t 0) (signature_of Mluc)) (mluc_of t words) (
    cond (eqb (u32_at t 0) (signature_of Desc)) (desc_of t) (
    absent)))

-- the tag of a profile, with so many words lent
unfoldable pub string_of : List ℕ → ℕ → ℕ → ℕ → Answer
string_of profile entry size words =
    cond (ltb (counted_size size) 4) absent (
    cond (ltb (length profile) (entry + counted_size size)) (refused 1) (
    cond (ltb (counted_size size) 8) absent (
    by_type (counted_tag profile entry size) words)))

-- what such a call leaves of the lent slots
abbrev pub slots_after : List ℕ → ℕ → ℕ → List ℕ → List ℕ
slots_after profile entry size slots =
    slots_with (string_of profile entry size (length slots)) (words_in (records_in (counted_tag profile entry size)).records) slots

-- what a call answers, and what it leaves of the lent slots
pub record AnswerAndSlots (t : List ℕ) (answer : Answer) (r : Result (Option TextValue) Refusal) (before after : List ℕ) : Type 0 where
  pub answer_is : in_numbers r ≡ answer
  pub slots_are : after ≡ slots_with answer (words_in (records_in t).records) before
