-- What the theorems and the proofs of the functions both need, or the functions of two crates: how many words and records there are, that
-- a tag of a type is read as that type, and what an answer leaves of the slots.
-- Assumes nothing.
use Prim.Native.Nat.{ℕ, zero, suc, ◌+◌, ◌*◌}
use native.Mathlib.Omega.{arith}
use mathlib.Core.Path.{◌≡◌, refl, sym, ap, ◌∙◌}
use mathlib.Core.List.{List, [], ◌∷◌}
use lib.ListN.{length}
use borrow.Author.Tests.{eq-eqb, ne_eqb}
use Rattle.std.specs.Prelude.{Option, Result}
use Rattle.fields.proofs.Never.{never}
use Rattle.fields.specs.declared.Refusal.{Refusal}
use Rattle.fields.specs.Bytes.{u32_at}
use Rattle.fields.specs.Tag.{signature_of}
use Rattle.fields.specs.declared.Kind.TheVariants.{Text, Desc, Mluc}
use Rattle.text_meaning.specs.Answer.{Answer, in_numbers, slots_with}
use Rattle.text_meaning.specs.Mluc.{PlacedString, FoundRecord, is, no, whole, first, record_at, follow, records_from, text_record_words, words_in}
use Rattle.text_meaning.specs.Text.{AnswerAndSlots, text_of, desc_of, mluc_of, by_type}
use Rattle.text_meaning.specs.declared.TextValue.{TextValue}

-- ---- the words of records

pub words_length : (rs : List PlacedString) → length (words_in rs) ≡ length rs * text_record_words
unfolding words_in
words_length [] = refl
words_length (r ∷ rs) = omega (arith, words_length rs)

-- what is read whole is as much as was asked for
pub whole_count : (t : List ℕ) (k n : ℕ) → (records_from t k n).end ≡ whole → length (records_from t k n).records ≡ n
unfolding records_from
whole_count t k zero = λ h. refl
whole_count t k (suc n) = by (record_at t k) (whole_count t (k + 1) n)
  where
    by : (x : FoundRecord) → ((records_from t (k + 1) n).end ≡ whole → length (records_from t (k + 1) n).records ≡ n) → (follow x (λ r. first r (records_from t (k + 1) n))).end ≡ whole → length (follow x (λ r. first r (records_from t (k + 1) n))).records ≡ suc n
    by (is r) ih h = ap suc (ih h)
    by (no f) ih h = never cc

-- ---- the type

mluc_text : signature_of Mluc ≡ signature_of Text → ⊥
unfolding signature_of
mluc_text e = omega arith

desc_text : signature_of Desc ≡ signature_of Text → ⊥
unfolding signature_of
desc_text e = omega arith

desc_mluc : signature_of Desc ≡ signature_of Mluc → ⊥
unfolding signature_of
desc_mluc e = omega arith

-- a tag of a type is read as that type
module _ (t : List ℕ) (words : ℕ) where
  pub as_text : u32_at t 0 ≡ signature_of Text → by_type t words ≡ text_of t
  unfolding by_type
  as_text i = rw (eq-eqb _ _ i)

  pub as_mluc : u32_at t 0 ≡ signature_of Mluc → by_type t words ≡ mluc_of t words
  unfolding by_type
  as_mluc i =
      let n : u32_at t 0 ≡ signature_of Text → ⊥ = λ m. mluc_text (sym i ∙ m) in
      rw (ne_eqb _ _ n, eq-eqb _ _ i)

  pub as_desc : u32_at t 0 ≡ signature_of Desc → by_type t words ≡ desc_of t
  unfolding by_type
  as_desc i =
      let n : u32_at t 0 ≡ signature_of Text → ⊥ = λ m. desc_text (sym i ∙ m) in
      let o : u32_at t 0 ≡ signature_of Mluc → ⊥ = λ m. desc_mluc (sym i ∙ m) in
      rw (ne_eqb _ _ n, ne_eqb _ _ o, eq-eqb _ _ i)

-- ---- what is answered, and what is left

module _ (t s : List ℕ) (r : Result (Option TextValue) Refusal) where
  -- an answer without records leaves the slots as they were
  pub leaving : (a b : Answer) → ((ws : List ℕ) → slots_with b ws s ≡ s) → a ≡ b → in_numbers r ≡ b → AnswerAndSlots t a r s s
  leaving a b q e h = record { answer_is = h ∙ sym e; slots_are = rw e (sym (q _)) }

  -- a meaning that comes to another
  pub same : (a b : Answer) (u : List ℕ) → a ≡ b → AnswerAndSlots t b r s u → AnswerAndSlots t a r s u
  same a b u e h = rw e h
