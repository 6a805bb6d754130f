-- How long a number's text is at most.
-- Assumes nothing.
use Prim.Native.Nat.{ℕ, zero, suc, ◌+◌, ◌*◌, ◌/◌, ◌%◌, ◌^◌, ◌≤◌}
use native.Mathlib.Omega.{arith}
use mathlib.Core.List.{List, [], ◌∷◌}
use mathlib.Core.Bool.{◌||◌}
use lib.Dec.{ltb, leb}
use lib.IntN.{ℤ, pos, negsuc}
use lib.ListN.{length, length-append}
use Rattle.fields.specs.Bytes.{signed}
use Rattle.fields.proofs.Choice.{each}
use Rattle.lines.specs.Text.{digits_of, decimal, number, numeral, row_from, numbers, word_text}

digits_size : (most n : ℕ) → length (digits_of most n) ≤ most
unfolding digits_of
digits_size zero n = omega arith
digits_size (suc most) n =
    each (λ (x : List ℕ). length x ≤ suc most) (ltb n 10) _ _ (λ _. omega arith)
    (λ _. simp length-append (omega (arith, digits_size most (n / 10))))

-- a byte and twenty digits
pub number_size : (before n : ℕ) → length (number before n) ≤ 21
unfolding number decimal
number_size before n = omega (arith, digits_size 20 n)

-- a minus besides
numeral_size : (before : ℕ) (z : ℤ) → length (numeral before z) ≤ 22
unfolding numeral
numeral_size before (pos n) = omega (arith, number_size before n)
numeral_size before (negsuc n) = omega (arith, number_size 45 (n + 1))

row_size : (text : ℕ → ℕ → List ℕ) (most : ℕ) → ((i w : ℕ) → length (text i w) ≤ most) → (i : ℕ) (ws : List ℕ) → length (row_from text i ws) ≤ most * length ws
unfolding row_from
row_size text most h i [] = omega arith
row_size text most h i (w ∷ ws) = simp length-append (omega (arith, h i w, row_size text most h (i + 1) ws))

word_size : (from to i w : ℕ) → length (word_text from to i w) ≤ 22
unfolding word_text
word_size from to i w =
    each (λ (x : List ℕ). length x ≤ 22) (ltb i from || leb to i) _ _ (λ _. omega (arith, number_size 32 w)) (λ _. numeral_size 32 (signed (w % 2 ^ 32)))

pub words_size : (from to i : ℕ) (ws : List ℕ) → length (row_from (word_text from to) i ws) ≤ 22 * length ws
words_size from to i ws = row_size (word_text from to) 22 (word_size from to) i ws

pub numbers_size : (ns : List ℕ) → length (numbers ns) ≤ 21 * length ns
unfolding numbers
numbers_size ns = row_size (λ i n. number 32 n) 21 (λ i n. number_size 32 n) 0 ns
