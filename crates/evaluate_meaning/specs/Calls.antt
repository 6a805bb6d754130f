-- Single calls, one for each pixel of a row, each with the next coordinates and with the buffer behind the results before it.
use Rattle.std.specs.Prelude.{ℕ, zero, suc, ◌-◌, ◌≡◌, List, ◌++◌, take, drop}
use Rattle.lut_view_meaning.specs.declared.TableNumbers.{TableNumbers}
use Rattle.evaluate_meaning.specs.Answer.{value}
use Rattle.evaluate_meaning.specs.Evaluate.{pixel_answer, pixel_after}

-- the buffer after so many calls
unfoldable pub after_calls : List ℕ → TableNumbers → List ℕ → List ℕ → ℕ → List ℕ
after_calls t n xs words zero = words
after_calls t n xs words (suc k) =
    let after = pixel_after t n (take n.inputs xs) words in
    take n.outputs after ++ after_calls t n (drop n.inputs xs) (drop n.outputs after) k

-- each of them is answered by its results
unfoldable pub AllServed : List ℕ → TableNumbers → List ℕ → ℕ → ℕ → Type 0
AllServed t n xs room zero = Unit {0}
AllServed t n xs room (suc k) =
    (pixel_answer t n (take n.inputs xs) room ≡ value n.outputs)
    × AllServed t n (drop n.inputs xs) (room - n.outputs) k
