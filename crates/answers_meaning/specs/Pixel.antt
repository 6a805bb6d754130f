-- The line of an evaluation, reader 14, without its end. The lookup table is read as by reader 1, and where it has no value, that is the line.
use Rattle.std.specs.Prelude.{ℕ, zero, suc, ◌+◌, ◌%◌, false, cond, List, [], ◌∷◌, ◌++◌, eqb, length, take}
use Rattle.fields.specs.Bytes.{u16_at}
use Rattle.lines.specs.Text.{number, numbers}
use Rattle.evaluate_meaning.specs.Answer.{Answer, value, refused}
use Rattle.evaluate_meaning.specs.Evaluate.{pixel_answer, pixel_after}
use Rattle.export_words.specs.Exported.{Exported, only, always}
use Rattle.export_lut.specs.Layout.{entry_layout, numbers_in}
use Rattle.answers_meaning.specs.Text.{value_word, refused_text, exported_text, lent_text}

-- the buffer lent, as it is set before a call: number i is 0xA500 + i, and i is below 512
abbrev pub number_at : ℕ → ℕ
number_at i = 0xA500 + i % 512

unfoldable pub numbered_from : ℕ → ℕ → List ℕ
numbered_from i zero = []
numbered_from i (suc n) = number_at i ∷ numbered_from (i + 1) n

abbrev pub numbered : ℕ → List ℕ
numbered n = numbered_from 0 n

-- the eight coordinates behind the profile
abbrev pub coordinates_in : List ℕ → List ℕ
coordinates_in b = u16_at b 1 ∷ u16_at b 3 ∷ u16_at b 5 ∷ u16_at b 7 ∷ u16_at b 9 ∷ u16_at b 11 ∷ u16_at b 13 ∷ u16_at b 15 ∷ []

-- "value", how many results and then these, or "refused N"; and the buffer as it is left
abbrev pub evaluation_text : Answer → List ℕ → List ℕ
evaluation_text (value n) left = (value_word ++ number 0x20 n ++ numbers (take n left)) ++ lent_text left
evaluation_text (refused e) left = refused_text e ++ lent_text left

-- the words of a lookup table, its tag, the coordinates and the buffer
unfoldable pub pixel_text : List ℕ → List ℕ → List ℕ → List ℕ → List ℕ
pixel_text words t xs buffer =
    evaluation_text (pixel_answer t (numbers_in words) xs (length buffer)) (pixel_after t (numbers_in words) xs buffer)

-- what was told of the lookup table, its tag, the bytes behind the profile, the coordinates that count, and the numbers that the buffer has
unfoldable pub pixel_line : Exported → List ℕ → List ℕ → ℕ → ℕ → List ℕ
pixel_line e t behind n room =
    cond (eqb e.status 0) (pixel_text e.words t (take n (coordinates_in behind)) (numbered room)) (
    exported_text false (always entry_layout) (only e.status))
