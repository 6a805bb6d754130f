-- What is told of an evaluation, by the room of the words of the lookup table.
-- Assumes nothing.
use Prim.Native.Nat.{ℕ, ◌≤◌, ◌<◌}
use mathlib.Core.Path.{◌≡◌}
use mathlib.Core.List.{List}
use lib.ListN.{length}
use borrow.Author.Tests.{lt-ltb, le-ltb}
use Rattle.std.specs.Prelude.{Result}
use Rattle.fields.specs.declared.Refusal.{Refusal}
use Rattle.evaluate_meaning.specs.Answer.{Answer, in_numbers}
use Rattle.evaluate_meaning.specs.Evaluate.{pixel_answer, pixel_after, Evaluated, row_answer, row_after, RowEvaluated}
use Rattle.lut_view_meaning.specs.declared.TableNumbers.{TableNumbers}
use Rattle.export_lut.specs.Layout.{numbers_in}
use Rattle.export_evaluate.specs.Told.{status_of, GaveResults}

-- words of a lookup table that are too few, and those that are enough
pub short_lut : (lut : List ℕ) (answer : Answer) (left results : List ℕ) → length lut < 37 → GaveResults lut answer left 102 results results
short_lut lut answer left results h = record { status_is = rw (lt-ltb _ _ h); results_are = rw (lt-ltb _ _ h) }

long_lut : (lut : List ℕ) (got : Result ℕ Refusal) (answer : Answer) (left : List ℕ) (r : ℕ) (results results' : List ℕ) → 37 ≤ length lut → in_numbers got ≡ answer → results' ≡ left → r ≡ status_of (in_numbers got) → GaveResults lut answer left r results results'
long_lut lut got answer left r results results' h e f s = record { status_is = rw (le-ltb _ _ h, ← e) s; results_are = rw (le-ltb _ _ h) f }

-- a pixel and a row, by the numbers that the words tell
pub pixel_told : (lut t xs results results' : List ℕ) (numbers : TableNumbers) (got : Result ℕ Refusal) (r : ℕ) → 37 ≤ length lut → numbers ≡ numbers_in lut → Evaluated t numbers xs results got results' → r ≡ status_of (in_numbers got) → GaveResults lut (pixel_answer t (numbers_in lut) xs (length results)) (pixel_after t (numbers_in lut) xs results) r results results'
pixel_told lut t xs results results' numbers got r h e v s = rw (← e) (long_lut lut got _ _ r results results' h v.answer v.left s)

pub row_told : (lut t xs results results' : List ℕ) (numbers : TableNumbers) (got : Result ℕ Refusal) (r : ℕ) → 37 ≤ length lut → numbers ≡ numbers_in lut → RowEvaluated t numbers xs results got results' → r ≡ status_of (in_numbers got) → GaveResults lut (row_answer t (numbers_in lut) xs (length results)) (row_after t (numbers_in lut) xs results) r results results'
row_told lut t xs results results' numbers got r h e v s = rw (← e) (long_lut lut got _ _ r results results' h v.answer v.left s)

-- a caller whose words are enough has the answer's status, and the buffer as the answer asks
pub was_told : {lut : List ℕ} {answer : Answer} {left : List ℕ} {r : ℕ} {results results' : List ℕ} → 37 ≤ length lut → GaveResults lut answer left r results results' → (r ≡ status_of answer) × (results' ≡ left)
was_told h g = (rw (le-ltb _ _ h) at g.status_is, rw (le-ltb _ _ h) at g.results_are)
