-- Big-endian numbers in a list of bytes (ICC.1:2022, clause 4). A byte past the end counts as 0.
use Rattle.std.specs.Prelude.{ℕ, zero, suc, ◌+◌, ◌*◌, ◌-◌, ◌^◌, cond, List, [], ◌∷◌, ltb, ℤ, pos, negsuc, get_or}

-- the number that four bytes are
abbrev pub number : ℕ → ℕ → ℕ → ℕ → ℕ
number a b c d = ((a * 256 + b) * 256 + c) * 256 + d

-- uInt16Number
abbrev pub u16_at : List ℕ → ℕ → ℕ
u16_at s i = get_or s i 0 * 256 + get_or s (i + 1) 0

-- uInt32Number
abbrev pub u32_at : List ℕ → ℕ → ℕ
u32_at s i = number (get_or s i 0) (get_or s (i + 1) 0) (get_or s (i + 2) 0) (get_or s (i + 3) 0)

-- n bytes, and n numbers of 32 bits, one behind the other
unfoldable pub bytes_at : List ℕ → ℕ → ℕ → List ℕ
bytes_at s i zero = []
bytes_at s i (suc n) = get_or s i 0 ∷ bytes_at s (i + 1) n

unfoldable pub words_at : List ℕ → ℕ → ℕ → List ℕ
words_at s i zero = []
words_at s i (suc n) = u32_at s i ∷ words_at s (i + 4) n

-- s15Fixed16Number: the word as a signed number, in two's complement; what it means is that over 65536
abbrev pub signed : ℕ → ℤ
signed w = cond (ltb w (2 ^ 31)) (pos w) (negsuc (2 ^ 32 - 1 - w))
