-- One call, one answer: a result is determined by the numbers that it stands for, and those by the meaning.
-- Assumes nothing.
use mathlib.Core.Path.{◌≡◌, refl, sym, ap, ◌∙◌}
use mathlib.Core.List.{List}
use Prim.Native.Nat.{ℕ, zero, suc}
use lib.ListN.{get_or}
use Rattle.fields.specs.Checked.{Checked, good, bad}
use Rattle.curve_meaning.specs.Shape.{Shape}
use Rattle.fields.proofs.Numbers.{name_of, named}
use Rattle.fields.proofs.Once.{once}
use Rattle.fields.specs.declared.Refusal.{Refusal}
use Rattle.std.specs.Prelude.{Option, Some, None, Result, Ok, Err}
use Rattle.curve_meaning.specs.Answer.{Answer, value, absent, refused, words, in_numbers, read_in_numbers, step_in_numbers, StepAndSlot}
use Rattle.curve_meaning.specs.Kinds.{kind_number}
use Rattle.curve_meaning.specs.declared.CurveKind.{CurveKind}
use Rattle.curve_meaning.specs.declared.CurveRead.{CurveRead}
use Rattle.curve_meaning.specs.declared.FunctionType.{FunctionType}
use Rattle.curve_meaning.specs.declared.FunctionType.TheVariants.{Type0, Type1, Type2, Type3, Type4}
use Rattle.curve_meaning.specs.declared.Walk.{Walk}

-- the kind that has a number
abbrev type_from : ℕ → FunctionType
type_from zero = Type0
type_from (suc zero) = Type1
type_from (suc (suc zero)) = Type2
type_from (suc (suc (suc zero))) = Type3
type_from (suc (suc (suc (suc n)))) = Type4

abbrev kind_from : ℕ → CurveKind
kind_from zero = CurveKind.Empty
kind_from (suc zero) = CurveKind.Table
kind_from (suc (suc n)) = CurveKind.Function (type_from n)

kind_back : (k : CurveKind) → kind_from (kind_number k) ≡ k
kind_back CurveKind.Empty = refl
kind_back CurveKind.Table = refl
kind_back (CurveKind.Function Type0) = refl
kind_back (CurveKind.Function Type1) = refl
kind_back (CurveKind.Function Type2) = refl
kind_back (CurveKind.Function Type3) = refl
kind_back (CurveKind.Function Type4) = refl

-- the result that stands for an answer
abbrev read_from : List ℕ → ℕ → CurveRead
read_from ws consumed =
    record {
      curve = record {
        kind = kind_from (get_or ws 0 0);
        start = get_or ws 1 0;
        count = get_or ws 2 0;
        g = get_or ws 3 0;
        a = get_or ws 4 0;
        b = get_or ws 5 0;
        c = get_or ws 6 0;
        d = get_or ws 7 0;
        e = get_or ws 8 0;
        f = get_or ws 9 0;
      };
      consumed = consumed;
    }

read_back : (r : CurveRead) → read_from (words r.curve) r.consumed ≡ r
read_back r =
    ap (λ (k : CurveKind). record { curve = record { kind = k; start = r.curve.start; count = r.curve.count; g = r.curve.g; a = r.curve.a; b = r.curve.b; c = r.curve.c; d = r.curve.d; e = r.curve.e; f = r.curve.f }; consumed = r.consumed }) (kind_back r.curve.kind)

abbrev pub result_from : Answer → Result (Option CurveRead) Refusal
result_from (value ws consumed) = Ok (Some (read_from ws consumed))
result_from absent = Ok None
result_from (refused n) = Err (name_of n)

back : (r : Result (Option CurveRead) Refusal) → result_from (in_numbers r) ≡ r
back (Ok (Some read)) = ap (λ (x : CurveRead). Ok (Some x)) (read_back read)
back (Ok None) = refl
back (Err why) = ap Err (named why)

-- two results that stand for the same answer are one
pub unique : (a : Answer) (r s : Result (Option CurveRead) Refusal) → in_numbers r ≡ a → in_numbers s ≡ a → r ≡ s
unique = once in_numbers result_from back

-- the same where the curve is never absent
abbrev curve_from : Answer → Result CurveRead Refusal
curve_from (value ws consumed) = Ok (read_from ws consumed)
curve_from absent = Err (name_of 0)
curve_from (refused n) = Err (name_of n)

curve_back : (r : Result CurveRead Refusal) → curve_from (read_in_numbers r) ≡ r
curve_back (Ok read) = ap Ok (read_back read)
curve_back (Err why) = ap Err (named why)

pub read_unique : (a : Answer) (r s : Result CurveRead Refusal) → read_in_numbers r ≡ a → read_in_numbers s ≡ a → r ≡ s
read_unique = once read_in_numbers curve_from curve_back

-- ---- the step of `judge_curve` and `write_curve`

abbrev step_from : Checked ℕ → Result ℕ Refusal
step_from (good n) = Ok n
step_from (bad n) = Err (name_of n)

step_back : (r : Result ℕ Refusal) → step_from (step_in_numbers r) ≡ r
step_back (Ok n) = refl
step_back (Err why) = ap Err (named why)

-- two steps that go on alike, or stop with the same number, are one
pub step_unique : (g : Checked ℕ) (r s : Result ℕ Refusal) → step_in_numbers r ≡ g → step_in_numbers s ≡ g → r ≡ s
step_unique = once step_in_numbers step_from step_back

-- two calls of `write_curve` on the same curve and slot have the same step and leave the same slot
pub went_once : {walk : Walk} {start : ℕ} {x : Checked Shape} {r q : Result ℕ Refusal} {slot after other : List ℕ} → StepAndSlot walk start x r slot after → StepAndSlot walk start x q slot other → (r ≡ q) × (after ≡ other)
went_once {r = r} {q = q} w v = (step_unique _ r q w.step_is v.step_is, w.slot_is ∙ sym v.slot_is)
