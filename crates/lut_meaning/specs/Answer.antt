-- What the reader of lookup tables answers, in numbers.
use Rattle.std.specs.Prelude.{ℕ, Bool, List, ◌++◌, length, drop, replicate, Option, Some, None, Result, Ok, Err}
use Rattle.fields.specs.Checked.{Checked, good, bad}
use Rattle.fields.specs.Refusals.{refusal_number}
use Rattle.lut_mft_meaning.specs.Answer.{Fields, State as Mft-as-State, Answer as Mft-as-Answer, fields_from}
use Rattle.lut_meaning.specs.declared.AbmTable.{AbmTable}
use Rattle.fields.specs.declared.Refusal.{Refusal}
use Rattle.lut_meaning.specs.declared.Lut.{Lut}

-- the numbers of an `mAB ` or `mBA ` tag: direction, channels, where the colour table's data lie, the bytes of an entry, and the curves
-- of each run
pub record Abm : Type 0 where
  pub to_pcs_of : Bool
  pub inputs : ℕ
  pub outputs : ℕ
  pub start : ℕ
  pub bytes : ℕ
  pub size : ℕ
  pub a : ℕ
  pub m : ℕ
  pub b : ℕ

pub data State : Type 0 where
  mft : Fields → State
  abm : Abm → State
  absent : State
  refused : ℕ → State

-- the arrays beside it: sixteen grid bytes, nine matrix and three bias numbers
pub record Answer : Type 0 where
  pub state : State
  pub grid : List ℕ
  pub matrix : List ℕ
  pub bias : List ℕ

-- on absence and refusal all of them are zeros
abbrev pub alone : State → Answer
alone s = record { state = s; grid = replicate 16 0; matrix = replicate 9 0; bias = replicate 3 0 }

abbrev pub none : Answer
none = alone absent

abbrev pub refuse : ℕ → Answer
refuse n = alone (refused n)

-- the numbers that a result stands for
abbrev pub table_from : AbmTable → Abm
table_from t =
    record {
      to_pcs_of = t.to_pcs;
      inputs = t.inputs;
      outputs = t.outputs;
      start = t.clut_start.0;
      bytes = t.clut_length;
      size = t.entry_size;
      a = t.a_curves;
      m = t.m_curves;
      b = t.b_curves;
    }

-- `mft1` and `mft2` have no sixteen grid bytes, and no bias
abbrev pub in_numbers : Result (Option Lut) Refusal → Answer
in_numbers (Ok (Some (Lut.Mft m))) =
    record { state = mft (fields_from m.table); grid = replicate 16 0; matrix = m.matrix; bias = replicate 3 0 }
in_numbers (Ok (Some (Lut.Abm l))) = record { state = abm (table_from l.table); grid = l.grid; matrix = l.matrix; bias = l.bias }
in_numbers (Ok None) = none
in_numbers (Err why) = refuse (refusal_number why)

abbrev pub state_from : Result (Option Lut) Refusal → State
state_from r = (in_numbers r).state

-- what is answered of `mft1` and `mft2`
abbrev pub mft_state : Mft-as-State → State
mft_state (Mft-as-State.value f) = mft f
mft_state (Mft-as-State.refused n) = refused n

abbrev pub from_mft : Mft-as-Answer → Answer
from_mft a = record { state = mft_state a.state; grid = replicate 16 0; matrix = a.matrix; bias = replicate 3 0 }

-- a part that is refused refuses the tag
abbrev pub or_refused : {A : Type 0} → Checked A → Answer → Answer
or_refused (good _) a = a
or_refused (bad n) a = refuse n

-- what is left in lent slots: the records of `mAB ` or `mBA ` in front, and everything else as it was
abbrev pub slots_with : State → List ℕ → List ℕ → List ℕ
slots_with (mft f) records slots = slots
slots_with (abm t) records slots = records ++ drop (length records) slots
slots_with absent records slots = slots
slots_with (refused n) records slots = slots
