-- Which numbers a reader refuses with: numbers of refusals, and none above 17. 19 is no reader's.
-- Assumes nothing.
use Prim.Native.Nat.{ℕ, ◌+◌, ◌/◌, ◌≤◌}
use mathlib.Core.Path.{◌≡◌, refl, sym, subst}
use mathlib.Core.Bool.{Bool, true, false, ◌||◌, ◌&&◌, false≢true}
use mathlib.Core.List.{List, [], ◌∷◌}
use lib.Dec.{ltb, leb, eqb}
use lib.ListN.{length}
use borrow.Author.Tests.{eqb-true, leb-true}
use Rattle.icc.specs.Each.{Each}
use Rattle.fields.specs.Bytes.{u32_at}
use Rattle.fields.specs.Checked.{Checked, good, bad}
use Rattle.fields.specs.House.{tag_size}
use Rattle.fields.specs.Place.{counted_size, counted_tag}
use Rattle.fields.specs.Refusals.{refusal_number, refusal_numbers, is_refusal}
use Rattle.fields.specs.Some.{some}
use Rattle.fields.specs.Tag.{signature_of}
use Rattle.fields.specs.declared.Kind.TheVariants.{Text, Mluc, Desc}
use Rattle.fields.proofs.Choice.{each, first_holds, second_holds}
use Rattle.fields.proofs.Numbers.{name_of, used}
use Rattle.curve_meaning.specs.Answer.{answer_of}
use Rattle.curve_meaning.specs.Curve.{curve_of, tag_of as Curve·tagOf}
use Rattle.curve_meaning.specs.Shape.{Shape}
use Rattle.curve_meaning.specs.declared.Walk.{Walk}
use Rattle.curve_meaning.proofs.Every.{curve_each, trc_each}
use Rattle.lut_clut_meaning.proofs.Refuses.{Only, only_good, only_bad}
use Rattle.lut_mft_meaning.specs.Answer.{State as Mft-as-State, answer_of as Mft·answerOf}
use Rattle.lut_mft_meaning.specs.Layout.{is_mft, shortest}
use Rattle.lut_mft_meaning.specs.Mft.{mft_of}
use Rattle.lut_mft_meaning.proofs.Refuses.{mft_refuses}
use Rattle.lut_meaning.specs.Abm.{value_of, abm_of}
use Rattle.lut_meaning.specs.Answer.{Answer as Lut-as-Answer, mft_state}
use Rattle.lut_meaning.specs.Lut.{lut_of, by_type as Lut·byType, is_abm}
use Rattle.lut_meaning.proofs.Found.{ways_out}
use Rattle.lut_meaning.proofs.Refuses.{part_refuses}
use Rattle.text_meaning.specs.Answer.{Answer as Text-as-Answer}
use Rattle.text_meaning.specs.Layout.{ascii_end}
use Rattle.text_meaning.specs.Mluc.{RecordsEnd as Mluc-as-RecordsEnd, whole as Mluc·whole, stopped as Mluc·stopped, header, string as string-fault, records_in, records_asked, text_record_words as textWords}
use Rattle.text_meaning.specs.Text.{string_of, by_type as Text·byType, text_of, mluc_of, desc_of, ended_by, slotted_of}
use Rattle.small_meaning.specs.Answer.{Answer as Small-as-Answer}
use Rattle.small_meaning.proofs.Last.{small_refuses}
use Rattle.demands.specs.Readers.{Reader, lut, trc, string, small, Call, meaning, Outcome, value, default, absent, refused, outcome, lut_outcome, curve_outcome, text_outcome, small_outcome}

-- a reader's number
abbrev pub Low : ℕ → Type 0
Low n = (is_refusal n ≡ true) × (n ≤ 17)

-- an outcome that is no refusal, or has such a number
abbrev pub Numbered : Outcome → Type 0
Numbered value = Unit
Numbered default = Unit
Numbered absent = Unit
Numbered (refused n) = Low n

-- what holds of each of a list holds of one that is found there
one_of : (P : ℕ → Type 0) (n : ℕ) (ns : List ℕ) → Each P ns → some (eqb n) ns ≡ true → P n
unfolding Each some
one_of P n [] all e = absurd (false≢true e)
one_of P n (m ∷ ns) all e = by (one_of P n ns all.1) (eqb n m) refl e
  where
    by : (some (eqb n) ns ≡ true → P n) → (b : Bool) → eqb n m ≡ b → b || some (eqb n) ns ≡ true → P n
    by others true h e = subst P (sym (eqb-true n m h)) all.0
    by others false h e = others e

-- the name of such a number has it
pub named_back : (n : ℕ) → Low n → refusal_number (name_of n) ≡ n
named_back n l = one_of (λ k. refusal_number (name_of k) ≡ k) n refusal_numbers used l.0

pub low : (n : ℕ) → is_refusal n && leb n 17 ≡ true → Low n
low n e = (first_holds (is_refusal n) (leb n 17) e, leb-true n 17 (second_holds (is_refusal n) (leb n 17) e))

-- ---- the tone curve

pub curve_refuses : (limit : ℕ) (t : List ℕ) → Only Low (curve_of limit t)
unfolding some
curve_refuses =
    curve_each (Only Low) (only_good Low) (only_bad Low 9 (low 9 refl)) (only_bad Low 10 (low 10 refl)) (only_bad Low 11 (low 11 refl)) (only_bad Low 12 (low 12 refl)) (only_bad Low 13 (low 13 refl))

trc_numbered : (walk : Walk) (c : Call) → Numbered (outcome (trc walk) (meaning (trc walk) c))
unfolding some answer_of
trc_numbered walk c =
    let t = Curve·tagOf c.profile c.entry c.size in
    trc_each (λ a. Numbered (curve_outcome a)) tt (low 11 refl) walk c.entries c.profile c.entry c.size (by (curve_of c.entries t) (curve_refuses c.entries t))
  where
    by : (x : Checked Shape) → Only Low x → Numbered (curve_outcome (answer_of walk tag_size x))
    by (good s) k = tt
    by (bad n) k = k n refl

-- ---- lookup tables

abbrev LutNumbered : Lut-as-Answer → Type 0
LutNumbered a = Numbered (lut_outcome a.state)

abm_numbered : (walk : Walk) (limit : ℕ) (t : List ℕ) (words : ℕ) → LutNumbered (abm_of walk limit t words)
unfolding some value_of
abm_numbered walk limit t words =
    ways_out walk limit t words LutNumbered tt
    (part_refuses Low (low 2 refl) (low 4 refl) (low 5 refl) (low 6 refl) (low 7 refl) (low 8 refl) limit t (curve_refuses limit) walk)
    (λ _ _. low 14 refl) (λ _ _. tt)

mft_numbered : (points : ℕ) (t : List ℕ) → Numbered (lut_outcome (mft_state (Mft·answerOf t (mft_of points t)).state))
unfolding some Mft·answerOf
mft_numbered points t = by (mft_of points t) (mft_refuses Low (low 2 refl) (low 3 refl) (low 15 refl) (low 16 refl) points t)
  where
    by : (x : Mft-as-State) → ((n : ℕ) → x ≡ Mft-as-State.refused n → Low n) → Numbered (lut_outcome (mft_state (Mft·answerOf t x).state))
    by (Mft-as-State.value f) k = tt
    by (Mft-as-State.refused n) k = k n refl

lut_numbered : (walk : Walk) (c : Call) → LutNumbered (meaning (lut walk) c)
unfolding some lut_of Lut·byType
lut_numbered walk c =
    let size = counted_size c.size in
    let t = counted_tag c.profile c.entry c.size in
    each LutNumbered (ltb (length c.profile) (c.entry + size)) _ _ (λ _. low 1 refl)
    (λ _. each LutNumbered (ltb size shortest) _ _ (λ _. low 2 refl)
    (λ _. each LutNumbered (is_mft t) _ _ (λ _. mft_numbered c.points t)
    (λ _. each LutNumbered (is_abm t) _ _ (λ _. abm_numbered walk c.entries t (length c.slots)) (λ _. low 3 refl))))

-- ---- text

string_numbered : (c : Call) → Numbered (text_outcome (meaning string c))
unfolding some string_of Text·byType text_of mluc_of desc_of slotted_of
string_numbered c =
    let P : Text-as-Answer → Type 0 = λ a. Numbered (text_outcome a) in
    let size = counted_size c.size in
    let t = counted_tag c.profile c.entry c.size in
    each P (ltb size 4) _ _ (λ _. tt)
    (λ _. each P (ltb (length c.profile) (c.entry + size)) _ _ (λ _. low 1 refl)
    (λ _. each P (ltb size 8) _ _ (λ _. tt)
    (λ _. each P (eqb (u32_at t 0) (signature_of Text)) _ _ (λ _. tt)
    (λ _. each P (eqb (u32_at t 0) (signature_of Mluc)) _ _ (λ _. by (records_in t).end (records_asked t))
    (λ _. each P (eqb (u32_at t 0) (signature_of Desc)) _ _
    (λ _. each P (ltb (length t) 12) _ _ (λ _. low 2 refl) (λ _. each P (ltb (length t) (ascii_end t)) _ _ (λ _. low 2 refl) (λ _. tt)))
    (λ _. tt))))))
  where
    by : (e : Mluc-as-RecordsEnd) (n : ℕ) → Numbered (text_outcome (ended_by e (slotted_of n (length c.slots))))
    by Mluc·whole n =
        let P : Text-as-Answer → Type 0 = λ a. Numbered (text_outcome a) in
        each P (ltb (length c.slots / textWords) n) _ _ (λ _. low 14 refl) (λ _. tt)
    by (Mluc·stopped header) n = low 2 refl
    by (Mluc·stopped string-fault) n = tt

-- ---- every reader

pub meaning_numbered : (r : Reader) (c : Call) → Numbered (outcome r (meaning r c))
unfolding some
meaning_numbered (lut walk) c = lut_numbered walk c
meaning_numbered (trc walk) c = trc_numbered walk c
meaning_numbered string c = string_numbered c
meaning_numbered (small s) c = by (meaning (small s) c) (small_refuses Low (low 1 refl) (low 2 refl) (low 17 refl) s _ _ _)
  where
    by : (a : Small-as-Answer) → ((n : ℕ) → a ≡ Small-as-Answer.refused n → Low n) → Numbered (small_outcome a)
    by (Small-as-Answer.value ns) h = tt
    by Small-as-Answer.default h = tt
    by Small-as-Answer.absent h = tt
    by (Small-as-Answer.refused n) h = h n refl
