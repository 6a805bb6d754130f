-- What is told of a reader's answer is what is told of the answer in numbers, and so where what was read is put in words.
-- Assumes nothing.
use mathlib.Core.Path.{◌≡◌, refl, ap}
use Rattle.std.proofs.Common.{Option, Some, Result, Ok}
use Rattle.fields.specs.declared.Refusal.{Refusal}
use Rattle.curve_meaning.specs.Answer.{in_numbers}
use Rattle.curve_meaning.specs.declared.CurveRead.{CurveRead}
use Rattle.export_words.specs.Exported.{told, value, absent}
use Rattle.export_words.proofs.Telling.{told_by}
use Rattle.export_curve.specs.declared.CurveInWords.{CurveInWords}
use Rattle.export_curve.specs.Layout.{curve_words, in_a_row, answer_in_words, curve_exported}

pub curve_told : (got : Result (Option CurveRead) Refusal) → told curve_words absent got ≡ curve_exported (in_numbers got)
curve_told = told_by curve_words absent (λ got. curve_exported (in_numbers got)) (λ x. refl) refl (λ why. refl)

pub in_words_told : (read : CurveRead) (words : CurveInWords) → in_a_row words ≡ curve_words read → curve_exported (answer_in_words (Ok (Some words))) ≡ curve_exported (in_numbers (Ok (Some read)))
in_words_told read words e = ap value e
