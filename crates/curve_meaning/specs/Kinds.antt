-- The types of a function and the kinds of a record, and their numbers.
use Rattle.std.specs.Prelude.{ℕ, ◌≡◌, ◌<◌, Result, Ok, Err}
use Rattle.fields.specs.declared.Refusal.{Refusal}
use Rattle.curve_meaning.specs.Shape.{empty_kind, table_kind, para_kind}
use Rattle.curve_meaning.specs.declared.CurveKind.{CurveKind}
use Rattle.curve_meaning.specs.declared.FunctionType.{FunctionType}
use Rattle.curve_meaning.specs.declared.FunctionType.TheVariants.{Type0, Type1, Type2, Type3, Type4}

-- the number of a type, as a tag has it
abbrev pub type_number : FunctionType → ℕ
type_number Type0 = 0
type_number Type1 = 1
type_number Type2 = 2
type_number Type3 = 3
type_number Type4 = 4

-- a number is that of the type; above 4 it is none, which is refusal 12
abbrev pub TypeIs : ℕ → Result FunctionType Refusal → Type 0
TypeIs n (Ok function) = type_number function ≡ n
TypeIs n (Err why) = (4 < n) × (why ≡ Refusal.FunctionType)

-- the number of a kind, in a record
abbrev pub kind_number : CurveKind → ℕ
kind_number CurveKind.Empty = empty_kind
kind_number CurveKind.Table = table_kind
kind_number (CurveKind.Function function) = para_kind (type_number function)
