-- What the small readers answer, in numbers.
use Rattle.std.specs.Prelude.{ℕ, List, [], ◌∷◌, ◌++◌, Option, Some, None, Result, Ok, Err}
use Rattle.fields.specs.Refusals.{refusal_number}
use Rattle.fields.specs.declared.Refusal.{Refusal}
use Rattle.small_meaning.specs.declared.ChadMatrix.{ChadMatrix}
use Rattle.small_meaning.specs.declared.CicpCodes.{CicpCodes}
use Rattle.small_meaning.specs.declared.Measurement.{Measurement}
use Rattle.small_meaning.specs.declared.ViewingConditions.{ViewingConditions}
use Rattle.small_meaning.specs.declared.XyzNumber.{XyzNumber}

-- the fields in the order of their bytes; the default of `XYZ `; an absence; the number of a refusal
pub data Answer : Type 0 where
  value : List ℕ → Answer
  default : Answer
  absent : Answer
  refused : ℕ → Answer

-- the numbers of each record
abbrev pub matrix_numbers : ChadMatrix → List ℕ
matrix_numbers m = m.e00 ∷ m.e01 ∷ m.e02 ∷ m.e10 ∷ m.e11 ∷ m.e12 ∷ m.e20 ∷ m.e21 ∷ m.e22 ∷ []

abbrev pub signature_numbers : ℕ → List ℕ
signature_numbers signature = signature ∷ []

-- bytes 8 to 19 of the profile, as they stand
abbrev pub date_numbers : List ℕ → List ℕ
date_numbers bytes = bytes

abbrev pub xyz_numbers : XyzNumber → List ℕ
xyz_numbers n = n.x ∷ n.y ∷ n.z ∷ []

abbrev pub measurement_numbers : Measurement → List ℕ
measurement_numbers m = m.observer ∷ xyz_numbers m.backing ++ (m.geometry ∷ m.flare ∷ m.illuminant ∷ [])

abbrev pub viewing_numbers : ViewingConditions → List ℕ
viewing_numbers v = xyz_numbers v.illuminant ++ xyz_numbers v.surround ++ (v.number ∷ [])

abbrev pub code_numbers : CicpCodes → List ℕ
code_numbers c = c.primaries ∷ c.transfer ∷ c.matrix ∷ c.range ∷ []

-- the numbers that a result stands for: by those of its value, and what is answered where there is none
abbrev pub answer_in : {A : Type 0} → (A → List ℕ) → Answer → Result (Option A) Refusal → Answer
answer_in numbers none (Ok (Some x)) = value (numbers x)
answer_in numbers none (Ok None) = none
answer_in numbers none (Err why) = refused (refusal_number why)

abbrev pub chad_in_numbers : Result (Option ChadMatrix) Refusal → Answer
chad_in_numbers r = answer_in matrix_numbers absent r

abbrev pub sig_in_numbers : Result (Option ℕ) Refusal → Answer
sig_in_numbers r = answer_in signature_numbers absent r

abbrev pub date_in_numbers : Result (Option (List ℕ)) Refusal → Answer
date_in_numbers r = answer_in date_numbers absent r

abbrev pub meas_in_numbers : Result (Option Measurement) Refusal → Answer
meas_in_numbers r = answer_in measurement_numbers absent r

abbrev pub view_in_numbers : Result (Option ViewingConditions) Refusal → Answer
view_in_numbers r = answer_in viewing_numbers absent r

-- without a value three zeros are meant, which are not read from the profile
abbrev pub xyz_in_numbers : Result (Option XyzNumber) Refusal → Answer
xyz_in_numbers r = answer_in xyz_numbers default r

abbrev pub cicp_in_numbers : Result (Option CicpCodes) Refusal → Answer
cicp_in_numbers r = answer_in code_numbers absent r
