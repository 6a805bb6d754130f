-- There is a library that keeps the contracts, that of specs/Kept.antt, so no demand holds for want of one. The result that stands for an answer
-- has its numbers: a meaning refuses with numbers of refusals only, and its values have as many numbers as the code's.
-- Assumes nothing.
use Prim.Native.Nat.{ℕ, zero, suc, ◌+◌, ◌≤◌}
use mathlib.Core.Path.{◌≡◌, refl, ap}
use mathlib.Core.List.{List}
use mathlib.Core.Logic.{◌⊎◌, inl, inr}
use native.Mathlib.Omega.{arith}
use lib.Dec.{ltb, eqb}
use lib.ListN.{length, get_or}
use borrow.Author.Tests.{ltb-false}
use mathlib.Core.Bool.{◌&&◌}
use Rattle.fields.specs.Bytes.{u32_at}
use Rattle.fields.specs.Tag.{signature_of}
use Rattle.fields.specs.declared.Kind.TheVariants.{Curv, Para}
use Rattle.fields.specs.Checked.{Checked, good, bad}
use Rattle.fields.specs.Place.{counted_size, counted_tag}
use Rattle.fields.specs.Refusals.{refusal_number, no_colour_table, too_few_slots}
use Rattle.fields.specs.Some.{some}
use Rattle.fields.proofs.Choice.{each}
use Rattle.fields.proofs.Numbers.{name_of}
use Rattle.fields.specs.House.{tag_size}
use Rattle.curve_meaning.specs.Answer.{Answer as Curve-as-Answer, answer_of, in_numbers as Curve·inNumbers}
use Rattle.curve_meaning.specs.Curve.{trc_of, curve_of, curv_of, para_of, divides, tag_of as Curve·tagOf}
use Rattle.curve_meaning.specs.Layout.{entry_count, entries_end, function_type, parameter_count, parameters_end, parameters}
use Rattle.curve_meaning.specs.Shape.{Shape, para, words_of}
use Rattle.curve_meaning.specs.declared.Walk.{Walk}
use Rattle.curve_meaning.proofs.Every.{trc_each}
use Rattle.curve_meaning.proofs.Unique.{result_from as Curve·resultFrom}
use Rattle.lut_mft_meaning.specs.Answer.{State as Mft-as-State, answer_of as Mft·answerOf}
use Rattle.lut_mft_meaning.specs.Layout.{is_mft, shortest}
use Rattle.lut_mft_meaning.specs.Mft.{mft_of}
use Rattle.lut_mft_meaning.proofs.Refuses.{mft_refuses}
use Rattle.lut_meaning.specs.Abm.{value_of, abm_of}
use Rattle.lut_meaning.specs.Answer.{Answer as Lut-as-Answer, in_numbers as Lut·inNumbers, refuse, from_mft}
use Rattle.lut_meaning.specs.Lut.{lut_of, by_type as Lut·byType, is_abm}
use Rattle.lut_meaning.proofs.Found.{ways_out}
use Rattle.lut_meaning.proofs.Refuses.{part_refuses}
use Rattle.lut_meaning.proofs.Unique.{lut_to}
use Rattle.text_meaning.specs.Answer.{Answer as Text-as-Answer, in_numbers as Text·inNumbers}
use Rattle.text_meaning.proofs.Unique.{result_to as Text·resultTo}
use Rattle.small_meaning.proofs.Unique.{small_shown}
use Rattle.lut_view_meaning.specs.Answer.{Answer, in_numbers as View·inNumbers, result_from as View·resultFrom}
use Rattle.lut_view_meaning.specs.View.{table_by, entry_of}
use Rattle.evaluate_meaning.specs.Answer.{Answer as Colour-as-Answer, in_numbers as Colour·inNumbers}
use Rattle.evaluate_meaning.proofs.Unique.{result_from as Colour·resultFrom}
use Rattle.demands.specs.Readers.{Reader, lut, trc, string, small, Call, numbers, meaning, text_outcome, Evaluator, pixel, row, Pixels, evaluation, Evaluates, Promised}
use Rattle.demands.specs.Demands.{Demand1, Demand2, Demand3}
use Rattle.demands.specs.Kept.{result, kept}
use Rattle.demands.proofs.Evaluations.{room}
use Rattle.demands.proofs.Refuses.{Low, low, Numbered, named_back, curve_refuses, meaning_numbered}
use Rattle.demands.proofs.First.{demand1}
use Rattle.demands.proofs.Second.{demand2}
use Rattle.demands.proofs.Third.{demand3}

-- a refusal's number names it
refused_back : {A : Type 0} (a : ℕ → A) (n : ℕ) → Low n → a (refusal_number (name_of n)) ≡ a n
refused_back a n l = ap a (named_back n l)

-- ---- the tone curve: a function that is read has one of the five types

module _ (walk : Walk) where
  abbrev CurveShown : Checked Shape → Type 0
  CurveShown x = Curve·inNumbers (Curve·resultFrom (answer_of walk tag_size x)) ≡ answer_of walk tag_size x

  curve_refused : (n : ℕ) → Low n → CurveShown (bad n)
  unfolding answer_of
  curve_refused n l = refused_back Curve-as-Answer.refused n l

  function_shown : (type : ℕ) (ps : List ℕ) → type ≤ 4 → CurveShown (good (para type ps))
  unfolding answer_of words_of
  function_shown zero ps l = refl
  function_shown (suc zero) ps l = refl
  function_shown (suc (suc zero)) ps l = refl
  function_shown (suc (suc (suc zero))) ps l = refl
  function_shown (suc (suc (suc (suc zero)))) ps l = refl
  function_shown (suc (suc (suc (suc (suc n))))) ps l = absurd (omega arith)

  curve_shown : (limit : ℕ) (t : List ℕ) → CurveShown (curve_of limit t)
  unfolding some curve_of curv_of para_of answer_of words_of
  curve_shown limit t =
      each CurveShown (ltb (length t) tag_size) _ _ (λ _. curve_refused 11 (low 11 refl))
      (λ _. each CurveShown (eqb (u32_at t 0) (signature_of Curv)) _ _
      (λ _. each CurveShown (eqb (entry_count t) 0) _ _ (λ _. refl)
      (λ _. each CurveShown (ltb limit (entry_count t)) _ _ (λ _. curve_refused 10 (low 10 refl))
      (λ _. each CurveShown (ltb (length t) (entries_end (entry_count t))) _ _ (λ _. curve_refused 11 (low 11 refl)) (λ _. refl))))
      (λ _. each CurveShown (eqb (u32_at t 0) (signature_of Para)) _ _
      (λ _. each CurveShown (ltb 4 (function_type t)) _ _ (λ _. curve_refused 12 (low 12 refl))
      (λ h. each CurveShown (ltb (length t) (parameters_end (parameter_count (function_type t)))) _ _ (λ _. curve_refused 11 (low 11 refl))
      (λ _. each CurveShown (divides (function_type t) && eqb (get_or (parameters t) 1 0) 0) _ _ (λ _. curve_refused 13 (low 13 refl))
      (λ _. function_shown (function_type t) (parameters t) (ltb-false 4 (function_type t) h)))))
      (λ _. curve_refused 9 (low 9 refl))))

  trc_shown : (limit : ℕ) (p : List ℕ) (at size : ℕ) → Curve·inNumbers (Curve·resultFrom (trc_of walk limit p at size)) ≡ trc_of walk limit p at size
  unfolding some
  trc_shown limit p at size =
      trc_each (λ a. Curve·inNumbers (Curve·resultFrom a) ≡ a) refl (refused_back Curve-as-Answer.refused 11 (low 11 refl)) walk limit p at size
      (curve_shown limit (Curve·tagOf p at size))

-- ---- lookup tables: the arrays are the answer's own, and zeros where there is no value

abbrev LutShown : Lut-as-Answer → Type 0
LutShown a = Lut·inNumbers (lut_to a) ≡ a

refusal_shown : (n : ℕ) → Low n → LutShown (refuse n)
refusal_shown n l = refused_back refuse n l

mft_shown : (points : ℕ) (t : List ℕ) → LutShown (from_mft (Mft·answerOf t (mft_of points t)))
unfolding some Mft·answerOf
mft_shown points t = by (mft_of points t) (mft_refuses Low (low 2 refl) (low 3 refl) (low 15 refl) (low 16 refl) points t)
  where
    by : (x : Mft-as-State) → ((n : ℕ) → x ≡ Mft-as-State.refused n → Low n) → LutShown (from_mft (Mft·answerOf t x))
    by (Mft-as-State.value f) k = refl
    by (Mft-as-State.refused n) k = refusal_shown n (k n refl)

abm_shown : (walk : Walk) (limit : ℕ) (t : List ℕ) (words : ℕ) → LutShown (abm_of walk limit t words)
unfolding some value_of
abm_shown walk limit t words =
    ways_out walk limit t words LutShown refl
    (λ n r. refusal_shown n (part_refuses Low (low 2 refl) (low 4 refl) (low 5 refl) (low 6 refl) (low 7 refl) (low 8 refl) limit t (curve_refuses limit) walk n r))
    (λ _ _. refusal_shown 14 (low 14 refl)) (λ _ _. refl)

lut_shown : (walk : Walk) (c : Call) → LutShown (meaning (lut walk) c)
unfolding some lut_of Lut·byType
lut_shown walk c =
    let size = counted_size c.size in
    let t = counted_tag c.profile c.entry c.size in
    each LutShown (ltb (length c.profile) (c.entry + size)) _ _ (λ _. refusal_shown 1 (low 1 refl))
    (λ _. each LutShown (ltb size shortest) _ _ (λ _. refusal_shown 2 (low 2 refl))
    (λ _. each LutShown (is_mft t) _ _ (λ _. mft_shown c.points t)
    (λ _. each LutShown (is_abm t) _ _ (λ _. abm_shown walk c.entries t (length c.slots)) (λ _. refusal_shown 3 (low 3 refl)))))

-- ---- text

text_shown : (a : Text-as-Answer) → Numbered (text_outcome a) → Text·inNumbers (Text·resultTo a) ≡ a
text_shown (Text-as-Answer.text s) k = refl
text_shown (Text-as-Answer.desc s u) k = refl
text_shown (Text-as-Answer.mluc n) k = refl
text_shown Text-as-Answer.absent k = refl
text_shown (Text-as-Answer.refused n) k = ap Text-as-Answer.refused (named_back n k)

-- ---- the promise is kept

shown : (r : Reader) (c : Call) → numbers r (result r (meaning r c)) ≡ meaning r c
shown (lut walk) c = lut_shown walk c
shown (trc walk) c = trc_shown walk c.entries c.profile c.entry c.size
shown string c = text_shown (meaning string c) (meaning_numbered string c)
shown (small s) c = small_shown s c.profile c.entry c.size

told_back : (a : Answer) → View·inNumbers (View·resultFrom a) ≡ a
told_back (Answer.value n) = refl
told_back Answer.absent = refl

-- an evaluation ends with results, 19 or 14
evaluated_back : (e : Evaluator) (c : Pixels) → Colour·inNumbers (Colour·resultFrom (evaluation e c)) ≡ evaluation e c
evaluated_back e c = by (evaluation e c) (room e c).ends
  where
    by : (a : Colour-as-Answer) {k : ℕ} → (a ≡ Colour-as-Answer.value k) ⊎ (a ≡ Colour-as-Answer.refused no_colour_table) ⊎ (a ≡ Colour-as-Answer.refused too_few_slots) → Colour·inNumbers (Colour·resultFrom a) ≡ a
    by a (inl h) = rw h
    by a (inr (inl h)) = rw h
    by a (inr (inr h)) = rw h

evaluates_so : (e : Evaluator) (c : Pixels) → Evaluates e c (kept.evaluates e c) (kept.fills e c)
evaluates_so pixel c = record { answer = evaluated_back pixel c; left = refl }
evaluates_so row c = record { answer = evaluated_back row c; left = refl }

pub keeps : Promised kept
keeps =
    record {
      answers = shown;
      leaves_so = λ r c. refl;
      reads_so = λ t n index channel. told_back (entry_of t (table_by t n) index channel);
      evaluates_so = evaluates_so;
    }

-- so it meets the demands
pub first_met : Demand1 kept
first_met = demand1 kept keeps

pub second_met : Demand2 kept
second_met = demand2 kept keeps

pub third_met : Demand3 kept
third_met = demand3 kept keeps
