-- What a tone-curve reader answers, in numbers.
use Rattle.std.specs.Prelude.{ℕ, ◌≡◌, cond, List, [], ◌∷◌, ltb, length, Option, Some, None, Result, Ok, Err}
use Rattle.std.proofs.lemmas.List.Edits.{sets}
use Rattle.fields.specs.Checked.{Checked, good, bad}
use Rattle.fields.specs.Refusals.{refusal_number}
use Rattle.fields.specs.declared.Refusal.{Refusal}
use Rattle.curve_meaning.specs.Kinds.{kind_number}
use Rattle.curve_meaning.specs.Shape.{Shape, record_words, words_of, step_of}
use Rattle.curve_meaning.specs.declared.CurveRecord.{CurveRecord}
use Rattle.curve_meaning.specs.declared.CurveRead.{CurveRead}
use Rattle.curve_meaning.specs.declared.Walk.{Walk}

-- the words of the record and the consumed size; an absence; the number of a refusal
pub data Answer : Type 0 where
  value : List ℕ → ℕ → Answer
  absent : Answer
  refused : ℕ → Answer

-- the words of a record
abbrev pub words : CurveRecord → List ℕ
words r = kind_number r.kind ∷ r.start ∷ r.count ∷ r.g ∷ r.a ∷ r.b ∷ r.c ∷ r.d ∷ r.e ∷ r.f ∷ []

-- the numbers that a result stands for, where the curve may be absent
abbrev pub in_numbers : Result (Option CurveRead) Refusal → Answer
in_numbers (Ok (Some read)) = value (words read.curve) read.consumed
in_numbers (Ok None) = absent
in_numbers (Err why) = refused (refusal_number why)

-- and where it is never absent
abbrev pub read_in_numbers : Result CurveRead Refusal → Answer
read_in_numbers (Ok read) = value (words read.curve) read.consumed
read_in_numbers (Err why) = refused (refusal_number why)

-- what a walk answers of a curve whose data start there
unfoldable pub answer_of : Walk → ℕ → Checked Shape → Answer
answer_of walk start (good s) = value (words_of start s) (step_of walk s)
answer_of walk start (bad n) = refused n

-- how far a walk goes on behind a curve, or the number of the refusal that ends it
unfoldable pub step_checked : Walk → Checked Shape → Checked ℕ
step_checked walk (good s) = good (step_of walk s)
step_checked walk (bad n) = bad n

abbrev pub step_in_numbers : Result ℕ Refusal → Checked ℕ
step_in_numbers (Ok n) = good n
step_in_numbers (Err why) = bad (refusal_number why)

-- a slot with the record in front, where there is a curve; on a refusal it stays
unfoldable pub slot_with : ℕ → List ℕ → Checked Shape → List ℕ
slot_with start slot (good s) = sets slot 0 (words_of start s)
slot_with start slot (bad n) = slot

-- a slot that is too short for a record is refusal 14
unfoldable pub in_slot : List ℕ → Checked Shape → Checked Shape
in_slot slot x = cond (ltb (length slot) record_words) (bad 14) x

-- a call that writes the record says how far the walk goes on, and leaves that slot
pub record StepAndSlot (walk : Walk) (start : ℕ) (x : Checked Shape) (r : Result ℕ Refusal) (slot slot' : List ℕ) : Type 0 where
  pub step_is : step_in_numbers r ≡ step_checked walk x
  pub slot_is : slot' ≡ slot_with start slot x
