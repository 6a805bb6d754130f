-- 256 bytes have room for every line of `curve-line`.
-- Assumes nothing.
use Prim.Native.Nat.{ℕ, ◌≤◌}
use native.Mathlib.Omega.{arith}
use native.Mathlib.Nat.{min-le_left}
use mathlib.Core.List.{List}
use lib.Dec.{eqb}
use lib.ListN.{length, get_or, take, drop, length-append, length-take, length-drop}
use Rattle.fields.proofs.Choice.{each}
use Rattle.curve_meaning.specs.Shape.{record_words}
use Rattle.export_words.specs.Exported.{Exported}
use Rattle.export_curve.specs.Layout.{curve_layout}
use Rattle.lines.proofs.Size.{number_size, words_size}
use Rattle.std.proofs.Common.{Option, Some, None}
use Rattle.curve_line_text.specs.CurveLine.{value_text, refused_text, exported_text, text_for, job_of, text_of}
use Rattle.curve_line_text.specs.declared.CurveJob.{CurveJob}

-- a number, and nine words behind it
value_size : (ws : List ℕ) → length (value_text ws) ≤ 256
unfolding value_text
value_size ws =
    let nine = drop 1 (take record_words ws) in
    let k : length nine ≤ 9 = simp (length-drop, length-take) (omega (arith, min-le_left record_words (length ws))) in
    simp length-append (omega (arith, number_size 10 (get_or ws 0 0), words_size curve_layout.from curve_layout.to 1 nine, k))

refused_size : (n : ℕ) → length (refused_text n) ≤ 256
unfolding refused_text
refused_size n = simp length-append (omega (arith, number_size 32 n))

exported_size : (e : Exported) → length (exported_text e) ≤ 256
unfolding exported_text
exported_size e =
    let P : List ℕ → Type 0 = λ x. length x ≤ 256 in
    each P (eqb e.status 0) _ _ (λ _. value_size e.words)
    (λ _. each P (eqb e.status 100) _ _ (λ _. omega arith) (λ _. refused_size e.status))

text_size : (profile : List ℕ) (j : Option CurveJob) → length (text_for profile j) ≤ 256
unfolding text_for
text_size profile (Some asked) = exported_size _
text_size profile None = omega arith

pub room : (job : List ℕ) → length (text_of job) ≤ 256
unfolding text_of
room job = text_size (drop 13 job) (job_of job)
