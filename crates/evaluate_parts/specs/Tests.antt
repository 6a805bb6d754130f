-- What the tests find, and the parts give.
use Rattle.std.specs.Prelude.{ℕ, ◌+◌, ◌/◌, Bool, cond, ◌||◌, ltb, eqb}

-- the entries pass the tag, or there are none
unfoldable pub past_of : ℕ → ℕ → ℕ → Bool
past_of bytes start len = eqb bytes 0 || ltb len (start + bytes)

-- how many pixels of 1 to 4 inputs so many coordinates are; none of any other number
unfoldable pub count_of : ℕ → ℕ → ℕ
count_of len n = cond (ltb n 1 || ltb 4 n) 0 (len / n)

-- the bytes to the upper neighbour: none where the rest is 0
unfoldable pub lift_of : ℕ → ℕ → ℕ
lift_of rest stride = cond (eqb rest 0) 0 stride
