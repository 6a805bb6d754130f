-- What the code found of a curve, and the shape that it is.
use Rattle.std.specs.Prelude.{ℕ, List, map, Result, Ok, Err}
use Rattle.fields.specs.Bytes.{u32_at}
use Rattle.fields.specs.Checked.{Checked, good, bad}
use Rattle.fields.specs.Refusals.{refusal_number}
use Rattle.fields.specs.declared.Refusal.{Refusal}
use Rattle.curve_meaning.specs.Kinds.{type_number}
use Rattle.curve_meaning.specs.Shape.{Shape, empty, table, para}
use Rattle.curve.specs.declared.Found.{Found}

-- the number that four bytes are
abbrev pub number_of : List ℕ → ℕ
number_of four = u32_at four 0

abbrev pub shape_of : Found → Shape
shape_of Found.Empty = empty
shape_of (Found.Table n) = table n
shape_of (Found.Function function parameters) = para (type_number function) (map number_of parameters.now)

abbrev pub found_checked : Result Found Refusal → Checked Shape
found_checked (Ok found) = good (shape_of found)
found_checked (Err why) = bad (refusal_number why)
