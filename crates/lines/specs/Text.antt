-- Text, as a list of ASCII codes, and what it means to have written it.
use Rattle.std.specs.Prelude.{ℕ, zero, suc, ◌+◌, ◌-◌, ◌/◌, ◌%◌, ◌^◌, min, ◌≡◌, cond, ◌||◌, List, [], ◌∷◌, ◌++◌, ltb, leb, ℤ, pos, negsuc, length, map}
use Rattle.std.proofs.lemmas.List.Edits.{sets}
use Rattle.fields.specs.Bytes.{signed}

-- a number in decimal, of at most so many digits
unfoldable pub digits_of : ℕ → ℕ → List ℕ
digits_of zero n = []
digits_of (suc most) n = cond (ltb n 10) ((48 + n) ∷ []) (digits_of most (n / 10) ++ ((48 + n % 10) ∷ []))

-- a 64-bit number has at most twenty digits
unfoldable pub decimal : ℕ → List ℕ
decimal n = digits_of 20 n

-- a byte, and a number behind it
unfoldable pub number : ℕ → ℕ → List ℕ
number before n = before ∷ decimal n

-- a byte, and a signed number behind it: below 0 it has a minus
unfoldable pub numeral : ℕ → ℤ → List ℕ
numeral before (pos n) = number before n
numeral before (negsuc n) = before ∷ number 45 (n + 1)

-- a text for each of a row, by its place and by the word; the first stands at place i
unfoldable pub row_from : (ℕ → ℕ → List ℕ) → ℕ → List ℕ → List ℕ
row_from text i [] = []
row_from text i (w ∷ ws) = text i w ++ row_from text (i + 1) ws

-- numbers, each behind a space
unfoldable pub numbers : List ℕ → List ℕ
numbers ns = row_from (λ i n. number 32 n) 0 ns

-- a word behind a space: those at the places from `from` up to `to` are signed, 32 bits in two's complement
unfoldable pub word_text : ℕ → ℕ → ℕ → ℕ → List ℕ
word_text from to i w = cond (ltb i from || leb to i) (number 32 w) (numeral 32 (signed (w % 2 ^ 32)))

-- the text stands in the buffer from `at` on, as far as there is room; the rest of the buffer stays; `end` is where the written
-- part ends
pub record Wrote (before after : List ℕ) (at end : ℕ) (text : List ℕ) : Type 0 where
  pub written : after ≡ sets before at text
  pub ends : end ≡ at + min (length text) (length before - at)

-- numbers of any type, each written behind a byte as the number that it converts to
pub record WroteNumbers {W : Type 0} (converts : W → ℕ → Type 0) (byte : ℕ) (before after : List ℕ) (at end : ℕ) (words : List W) : Type 0 where
  pub by : (numbered : W → ℕ) → ((x : W) (n : ℕ) → converts x n → n ≡ numbered x) → Wrote before after at end (row_from (λ i n. number byte n) 0 (map numbered words))
