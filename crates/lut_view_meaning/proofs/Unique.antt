-- One call, one answer: a result is determined by the numbers that it stands for, and a view by its tag and its numbers.
-- Assumes nothing.
use mathlib.Core.Path.{◌≡◌, refl, sym, ◌∙◌}
use mathlib.Core.List.{List}
use Prim.Native.Nat.{ℕ}
use denote.Ref.{Bor}
use Rattle.fields.proofs.Once.{once}
use Rattle.lut_view_meaning.specs.Answer.{Answer, in_numbers, result_from}
use Rattle.std.specs.Prelude.{Option, Some, None}
use Rattle.lut_view_meaning.specs.declared.TableNumbers.{TableNumbers}
use Rattle.lut_view_meaning.specs.declared.TableView.{TableView}

back : (r : Option ℕ) → result_from (in_numbers r) ≡ r
back (Some n) = refl
back None = refl

-- two results that stand for the same answer are one
pub unique : (a : Answer) (r s : Option ℕ) → in_numbers r ≡ a → in_numbers s ≡ a → r ≡ s
unique = once in_numbers result_from back

-- two views of one tag by the same numbers are one
pub one_view : (tag : Bor (List ℕ)) (n : TableNumbers) (r s : TableView) → (r.tag ≡ tag) × (r.numbers ≡ n) → (s.tag ≡ tag) × (s.numbers ≡ n) → r ≡ s
one_view tag n r s p q = let same : r.tag ≡ s.tag = p.0 ∙ sym q.0 in let same_numbers : r.numbers ≡ s.numbers = p.1 ∙ sym q.1 in λ i. record { tag = same i; numbers = same_numbers i }
