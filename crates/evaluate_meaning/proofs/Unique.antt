-- One call, one answer and one buffer after it: a result is determined by the numbers that it stands for, and those and the words by the meaning.
-- Assumes nothing.
use Prim.Native.Nat.{ℕ}
use mathlib.Core.Path.{◌≡◌, refl, sym, ap, ◌∙◌}
use mathlib.Core.List.{List}
use Rattle.std.specs.Prelude.{Result, Ok, Err}
use lib.ListN.{length}
use Rattle.fields.specs.declared.Refusal.{Refusal}
use Rattle.fields.proofs.Numbers.{name_of, named}
use Rattle.fields.proofs.Once.{once}
use Rattle.lut_view_meaning.specs.declared.TableNumbers.{TableNumbers}
use Rattle.evaluate_meaning.specs.Answer.{Answer, value, refused, in_numbers}
use Rattle.evaluate_meaning.specs.Evaluate.{pixel_answer, row_answer, Evaluated, RowEvaluated}

-- the result that stands for an answer
abbrev pub result_from : Answer → Result ℕ Refusal
result_from (value n) = Ok n
result_from (refused n) = Err (name_of n)

pub back : (r : Result ℕ Refusal) → result_from (in_numbers r) ≡ r
back (Ok n) = refl
back (Err why) = ap Err (named why)

-- two results that stand for the same answer are one
pub unique : (a : Answer) (r s : Result ℕ Refusal) → in_numbers r ≡ a → in_numbers s ≡ a → r ≡ s
unique = once in_numbers result_from back

module _ (t : List ℕ) (n : TableNumbers) (xs words : List ℕ) (r r' : Result ℕ Refusal) (after after' : List ℕ) where
  pub one_answer : Evaluated t n xs words r after → Evaluated t n xs words r' after' → (r ≡ r') × (after ≡ after')
  one_answer p q = (unique (pixel_answer t n xs (length words)) r r' p.answer q.answer, p.left ∙ sym q.left)

  pub one_row_answer : RowEvaluated t n xs words r after → RowEvaluated t n xs words r' after' → (r ≡ r') × (after ≡ after')
  one_row_answer p q = (unique (row_answer t n xs (length words)) r r' p.answer q.answer, p.left ∙ sym q.left)
