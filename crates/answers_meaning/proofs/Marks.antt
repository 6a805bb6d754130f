-- The words lent, as they are set before a call: how many they are, and what each is. The same of the buffer of an evaluation.
-- Assumes nothing.
use Prim.Native.Nat.{ℕ, zero, suc, ◌+◌, ◌≤◌, ◌<◌}
use native.Mathlib.Omega.{arith}
use mathlib.Core.Path.{◌≡◌, refl, ap, ◌∙◌}
use lib.ListN.{length, get_or}
use Rattle.answers_meaning.specs.Line.{most_words, mark_at, marked_from, marked}
use Rattle.answers_meaning.specs.Pixel.{number_at, numbered_from}

pub marks_length : (i n : ℕ) → length (marked_from i n) ≡ n
unfolding marked_from
marks_length i zero = refl
marks_length i (suc n) = ap suc (marks_length (i + 1) n)

pub mark_is : (i n k : ℕ) → k < n → get_or (marked_from i n) k 0 ≡ mark_at (i + k)
unfolding marked_from
mark_is i zero k h = absurd (omega arith)
mark_is i (suc n) zero h = let e : i ≡ i + 0 = omega arith in ap mark_at e
mark_is i (suc n) (suc k) h =
    let e : (i + 1) + k ≡ i + suc k = omega arith in
    mark_is (i + 1) n k (omega arith) ∙ ap mark_at e

-- of the words of a job word k is marked with k
pub job_mark : (n k : ℕ) → n ≤ most_words → k < n → get_or (marked n) k 0 ≡ 0xA5A50000 + k
job_mark n k h l = let e : mark_at (0 + k) ≡ 0xA5A50000 + k = omega arith in mark_is 0 n k l ∙ e

pub numbers_length : (i n : ℕ) → length (numbered_from i n) ≡ n
unfolding numbered_from
numbers_length i zero = refl
numbers_length i (suc n) = ap suc (numbers_length (i + 1) n)

pub number_is : (i n k : ℕ) → k < n → get_or (numbered_from i n) k 0 ≡ number_at (i + k)
unfolding numbered_from
number_is i zero k h = absurd (omega arith)
number_is i (suc n) zero h = let e : i ≡ i + 0 = omega arith in ap number_at e
number_is i (suc n) (suc k) h =
    let e : (i + 1) + k ≡ i + suc k = omega arith in
    number_is (i + 1) n k (omega arith) ∙ ap number_at e
