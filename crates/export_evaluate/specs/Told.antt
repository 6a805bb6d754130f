-- What an exported evaluation tells its caller: a status, and the results in front of the lent buffer.
use Rattle.std.specs.Prelude.{ℕ, ◌≡◌, cond, List, ltb, length}
use Rattle.evaluate_meaning.specs.Answer.{Answer, value, refused}
use Rattle.export_lut.specs.Layout.{abm_layout}

-- 0 for results, or the number of the refusal
abbrev pub status_of : Answer → ℕ
status_of (value n) = 0
status_of (refused e) = e

-- words of a lookup table that are fewer than the longest layout has are told so, and the buffer stays; else the answer is told, and the buffer is
-- left as the answer asks
pub record GaveResults (lut : List ℕ) (answer : Answer) (left : List ℕ) (r : ℕ) (results results' : List ℕ) : Type 0 where
  pub status_is : r ≡ cond (ltb (length lut) abm_layout.words) 102 (status_of answer)
  pub results_are : results' ≡ cond (ltb (length lut) abm_layout.words) results left
