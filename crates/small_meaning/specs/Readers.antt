-- The small readers as one table: what each returns, the numbers of that and back, and the numbers that a call is to be answered with.
use Rattle.std.specs.Prelude.{ℕ, ◌+◌, List, get_or, Option, Some, None, Result, Ok, Err}
use Rattle.fields.specs.declared.Refusal.{Refusal}
use Rattle.fields.proofs.Numbers.{name_of}
use Rattle.small_meaning.specs.Answer.{Answer, value, default, absent, refused, chad_in_numbers, sig_in_numbers, date_in_numbers, meas_in_numbers, view_in_numbers, xyz_in_numbers, cicp_in_numbers}
use Rattle.small_meaning.specs.Small.{chad_of, sig_of, date_of, meas_of, view_of, xyz_of, cicp_of}
use Rattle.small_meaning.specs.declared.ChadMatrix.{ChadMatrix}
use Rattle.small_meaning.specs.declared.CicpCodes.{CicpCodes}
use Rattle.small_meaning.specs.declared.Measurement.{Measurement}
use Rattle.small_meaning.specs.declared.ViewingConditions.{ViewingConditions}
use Rattle.small_meaning.specs.declared.XyzNumber.{XyzNumber}

-- `read_chad_tag`, `read_tech_tag`, `read_date_time_tag`, `read_meas_tag`, `read_viewing_conditions`, `read_xyz_tag`, `read_cicp_tag`
pub data Small : Type 0 where
  chad : Small
  sig : Small
  date : Small
  meas : Small
  view : Small
  xyz : Small
  cicp : Small

-- the value that a reader returns, and what it returns
abbrev pub SmallValue : Small → Type 0
SmallValue chad = ChadMatrix
SmallValue sig = ℕ
SmallValue date = List ℕ
SmallValue meas = Measurement
SmallValue view = ViewingConditions
SmallValue xyz = XyzNumber
SmallValue cicp = CicpCodes

abbrev pub SmallResult : Small → Type 0
SmallResult s = Result (Option (SmallValue s)) Refusal

-- its numbers
abbrev pub small_numbers : (s : Small) → SmallResult s → Answer
small_numbers chad x = chad_in_numbers x
small_numbers sig x = sig_in_numbers x
small_numbers date x = date_in_numbers x
small_numbers meas x = meas_in_numbers x
small_numbers view x = view_in_numbers x
small_numbers xyz x = xyz_in_numbers x
small_numbers cicp x = cicp_in_numbers x

-- the numbers that a call is to be answered with
abbrev pub small_of : Small → List ℕ → ℕ → ℕ → Answer
small_of chad profile entry size = chad_of profile entry size
small_of sig profile entry size = sig_of profile entry size
small_of date profile entry size = date_of profile entry size
small_of meas profile entry size = meas_of profile entry size
small_of view profile entry size = view_of profile entry size
small_of xyz profile entry size = xyz_of profile entry size
small_of cicp profile entry size = cicp_of profile entry size

-- ---- the result that stands for an answer

-- the i-th number, and three from it on
abbrev nth : List ℕ → ℕ → ℕ
nth ws i = get_or ws i 0

abbrev xyz_in : List ℕ → ℕ → XyzNumber
xyz_in ws i = record { x = nth ws i; y = nth ws (i + 1); z = nth ws (i + 2) }

-- the value of these numbers
abbrev pub small_value : (s : Small) → List ℕ → SmallValue s
small_value chad ws =
    record {
      e00 = nth ws 0;
      e01 = nth ws 1;
      e02 = nth ws 2;
      e10 = nth ws 3;
      e11 = nth ws 4;
      e12 = nth ws 5;
      e20 = nth ws 6;
      e21 = nth ws 7;
      e22 = nth ws 8;
    }
small_value sig ws = nth ws 0
small_value date ws = ws
small_value meas ws = record { observer = nth ws 0; backing = xyz_in ws 1; geometry = nth ws 4; flare = nth ws 5; illuminant = nth ws 6 }
small_value view ws = record { illuminant = xyz_in ws 0; surround = xyz_in ws 3; number = nth ws 6 }
small_value xyz ws = xyz_in ws 0
small_value cicp ws = record { primaries = nth ws 0; transfer = nth ws 1; matrix = nth ws 2; range = nth ws 3 }

-- the result that is neither value nor refusal
abbrev pub small_none : (s : Small) → SmallResult s
small_none s = Ok None

abbrev pub small_refusal : (s : Small) → Refusal → SmallResult s
small_refusal s why = Err why

-- the result of an answer, by the value that numbers stand for
abbrev pub result_of : {A : Type 0} → (List ℕ → A) → Answer → Result (Option A) Refusal
result_of value_of (value ws) = Ok (Some (value_of ws))
result_of value_of default = Ok None
result_of value_of absent = Ok None
result_of value_of (refused n) = Err (name_of n)

abbrev pub small_result : (s : Small) → Answer → SmallResult s
small_result s a = result_of (small_value s) a
