-- The walk of a number; the status and the words of a tone curve's answer, and how they are laid out.
use Rattle.std.specs.Prelude.{ℕ, ◌+◌, cond, List, [], ◌∷◌, ◌++◌, eqb, Option, Some, None, Result, Ok, Err}
use Rattle.fields.specs.Refusals.{refusal_number}
use Rattle.fields.specs.declared.Refusal.{Refusal}
use Rattle.curve_meaning.specs.Answer.{Answer, words}
use Rattle.curve_meaning.specs.Shape.{record_words}
use Rattle.curve_meaning.specs.declared.CurveRead.{CurveRead}
use Rattle.curve_meaning.specs.declared.Walk.{Walk}
use Rattle.curve_meaning.specs.declared.Walk.TheVariants.{Crate, Book}
use Rattle.export_curve.specs.declared.CurveInWords.{CurveInWords}
use Rattle.export_words.specs.Exported.{Exported, value, only, absent, signed_from}
use Rattle.export_words.specs.declared.Layout.{Layout}

-- the walk of a number: 0 is the crate walk, any other the book walk
abbrev pub walk_of : ℕ → Walk
walk_of n = cond (eqb n 0) Crate Book

-- the words of the record, and the consumed size
abbrev pub curve_exported : Answer → Exported
curve_exported (Answer.value ws consumed) = value (ws ++ (consumed ∷ []))
curve_exported Answer.absent = absent
curve_exported (Answer.refused n) = only n

-- the same of what was read
abbrev pub curve_words : CurveRead → List ℕ
curve_words read = words read.curve ++ (read.consumed ∷ [])

-- the same of a curve in words, and the answer that a result of such a curve stands for
abbrev pub in_a_row : CurveInWords → List ℕ
in_a_row curve = curve.record ++ (curve.consumed ∷ [])

abbrev pub answer_in_words : Result (Option CurveInWords) Refusal → Answer
answer_in_words (Ok (Some curve)) = Answer.value curve.record curve.consumed
answer_in_words (Ok None) = Answer.absent
answer_in_words (Err why) = Answer.refused (refusal_number why)

-- of the record's words the parameters are signed, all but the first three
abbrev pub curve_layout : Layout
curve_layout = signed_from (record_words + 1) 3 record_words
