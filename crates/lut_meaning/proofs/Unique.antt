-- One call, one answer: a result is determined by the numbers that it stands for, and so are the slots that it leaves.
-- Assumes nothing.
use Prim.Native.Nat.{ℕ}
use mathlib.Core.Path.{◌≡◌, refl, sym, ap, ◌∙◌}
use mathlib.Core.List.{List}
use Rattle.fields.proofs.Numbers.{name_of, named}
use Rattle.fields.proofs.Once.{once}
use Rattle.curve_meaning.specs.declared.Walk.{Walk}
use Rattle.lut_mft_meaning.proofs.Unique.{table_from}
use Rattle.lut_meaning.specs.Answer.{Abm, State, mft, abm, absent, refused, Answer, in_numbers}
use Rattle.lut_meaning.specs.Lut.{AnswerAndSlots}
use Rattle.lut_meaning.specs.declared.AbmTable.{AbmTable}
use Rattle.lut_meaning.specs.declared.Lut.{Lut}
use Rattle.fields.specs.declared.Refusal.{Refusal}
use Rattle.std.specs.Prelude.{Option, Some, None, Result, Ok, Err}

-- the result that stands for an answer
abbrev table_to : Abm → AbmTable
table_to f =
    record {
      to_pcs = f.to_pcs_of;
      inputs = f.inputs;
      outputs = f.outputs;
      clut_start = record { 0 = f.start };
      clut_length = f.bytes;
      entry_size = f.size;
      a_curves = f.a;
      m_curves = f.m;
      b_curves = f.b;
    }

abbrev result_by : State → (grid matrix bias : List ℕ) → Result (Option Lut) Refusal
result_by (mft f) grid matrix bias = Ok (Some (Lut.Mft record { table = table_from f; matrix = matrix }))
result_by (abm f) grid matrix bias = Ok (Some (Lut.Abm record { table = table_to f; grid = grid; matrix = matrix; bias = bias }))
result_by absent grid matrix bias = Ok None
result_by (refused n) grid matrix bias = Err (name_of n)

abbrev pub lut_to : Answer → Result (Option Lut) Refusal
lut_to a = result_by a.state a.grid a.matrix a.bias

back : (r : Result (Option Lut) Refusal) → lut_to (in_numbers r) ≡ r
back (Ok (Some (Lut.Mft m))) = refl
back (Ok (Some (Lut.Abm l))) = refl
back (Ok None) = refl
back (Err why) = ap Err (named why)

pub unique : (a : Answer) (r s : Result (Option Lut) Refusal) → in_numbers r ≡ a → in_numbers s ≡ a → r ≡ s
unique = once in_numbers lut_to back

-- two calls of which the same is said have the same result and leave the same slots
pub said_once : {walk : Walk} {limit : ℕ} {t : List ℕ} {a : Answer} {r q : Result (Option Lut) Refusal} {before after other : List ℕ} → AnswerAndSlots walk limit t a r before after → AnswerAndSlots walk limit t a q before other → (r ≡ q) × (after ≡ other)
said_once {a = a} {r = r} {q = q} x y = (unique a r q x.answer_is y.answer_is, x.slots_are ∙ sym y.slots_are)
