-- The number by which users know each refusal.
use Rattle.std.specs.Prelude.{ℕ, Bool, List, [], ◌∷◌, eqb}
use Rattle.fields.specs.Some.{some}
use Rattle.fields.specs.declared.Refusal.{Refusal}
use Rattle.fields.specs.declared.Refusal.TheVariants.{PastProfile, TagTooShort, OtherLut, GridOverflow, GridZero, GridTooLarge, GridDimension, EntrySize, OtherCurve, TooManyEntries, CurveRunsOut, FunctionType, ZeroDivision, TooFewSlots, BadTable, GridOverLimit, BadChad, NoColourTable}

abbrev pub refusal_number : Refusal → ℕ
refusal_number PastProfile = 1
refusal_number TagTooShort = 2
refusal_number OtherLut = 3
refusal_number GridOverflow = 4
refusal_number GridZero = 5
refusal_number GridTooLarge = 6
refusal_number GridDimension = 7
refusal_number EntrySize = 8
refusal_number OtherCurve = 9
refusal_number TooManyEntries = 10
refusal_number CurveRunsOut = 11
refusal_number FunctionType = 12
refusal_number ZeroDivision = 13
refusal_number TooFewSlots = 14
refusal_number BadTable = 15
refusal_number GridOverLimit = 16
refusal_number BadChad = 17
refusal_number NoColourTable = 19

-- all of them. 18 was one, and is not used again
abbrev pub refusal_numbers : List ℕ
refusal_numbers = 1 ∷ 2 ∷ 3 ∷ 4 ∷ 5 ∷ 6 ∷ 7 ∷ 8 ∷ 9 ∷ 10 ∷ 11 ∷ 12 ∷ 13 ∷ 14 ∷ 15 ∷ 16 ∷ 17 ∷ 19 ∷ []

-- n is one of them
abbrev pub is_refusal : ℕ → Bool
is_refusal n = some (eqb n) refusal_numbers

-- the numbers that the demands speak of
abbrev pub past_profile : ℕ
past_profile = refusal_number PastProfile

abbrev pub too_many_entries : ℕ
too_many_entries = refusal_number TooManyEntries

abbrev pub curve_runs_out : ℕ
curve_runs_out = refusal_number CurveRunsOut

abbrev pub too_few_slots : ℕ
too_few_slots = refusal_number TooFewSlots

abbrev pub too_many_points : ℕ
too_many_points = refusal_number GridOverLimit

abbrev pub no_colour_table : ℕ
no_colour_table = refusal_number NoColourTable
