-- One call, one answer: a result is determined by the numbers that it stands for, and so are the slots that it leaves.
-- Assumes nothing.
use mathlib.Core.Path.{◌≡◌, refl, sym, ap, ◌∙◌}
use mathlib.Core.List.{List}
use Prim.Native.Nat.{ℕ}
use Rattle.std.specs.Prelude.{Option, Some, None, Result, Ok, Err}
use Rattle.fields.specs.declared.Refusal.{Refusal}
use Rattle.fields.proofs.Numbers.{name_of, named}
use Rattle.fields.proofs.Once.{once}
use Rattle.text_meaning.specs.Answer.{Answer, text, desc, mluc, absent, refused, Span, in_numbers}
use Rattle.text_meaning.specs.Text.{AnswerAndSlots}
use Rattle.text_meaning.specs.declared.Range.{Range}
use Rattle.text_meaning.specs.declared.TextValue.{TextValue}

-- the result that stands for an answer
abbrev range_to : Span → Range
range_to s = record { start = record { 0 = s.start }; length = s.bytes }

abbrev pub result_to : Answer → Result (Option TextValue) Refusal
result_to (text s) = Ok (Some (TextValue.Text (range_to s)))
result_to (desc s u) = Ok (Some (TextValue.Desc record { ascii = range_to s; language = u.language; unicode = range_to u.string }))
result_to (mluc n) = Ok (Some (TextValue.Mluc n))
result_to absent = Ok None
result_to (refused n) = Err (name_of n)

back : (r : Result (Option TextValue) Refusal) → result_to (in_numbers r) ≡ r
back (Ok (Some (TextValue.Text r))) = refl
back (Ok (Some (TextValue.Desc d))) = refl
back (Ok (Some (TextValue.Mluc n))) = refl
back (Ok None) = refl
back (Err why) = ap Err (named why)

-- two results that stand for the same answer are one
pub unique : (a : Answer) (r s : Result (Option TextValue) Refusal) → in_numbers r ≡ a → in_numbers s ≡ a → r ≡ s
unique = once in_numbers result_to back

-- two calls of which the same is said have the same result and leave the same slots
pub said_once : {t : List ℕ} {a : Answer} {r q : Result (Option TextValue) Refusal} {before after other : List ℕ} → AnswerAndSlots t a r before after → AnswerAndSlots t a q before other → (r ≡ q) × (after ≡ other)
said_once {a = a} {r = r} {q = q} x y = (unique a r q x.answer_is y.answer_is, x.slots_are ∙ sym y.slots_are)
