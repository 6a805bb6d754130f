-- Demand 3 of text. Bytes behind the profile keep every answer but refusal 1; more slots every one but refusal 14. A value keeps every
-- field and every record with both at once.
-- Assumes nothing.
use Prim.Native.Nat.{ℕ, ◌+◌, ◌/◌, ◌≤◌}
use native.Mathlib.Omega.{arith}
use mathlib.Core.Path.{◌≡◌, refl, sym, ◌∙◌, subst}
use mathlib.Core.List.{List, ◌++◌}
use mathlib.Core.Logic.{inl, inr}
use lib.Dec.{ltb, eqb}
use lib.ListN.{length}
use borrow.Author.Tests.{ltb-false, le-ltb}
use Rattle.fields.specs.Bytes.{u32_at}
use Rattle.fields.specs.Place.{counted_size, counted_tag}
use Rattle.fields.specs.Tag.{signature_of}
use Rattle.fields.specs.declared.Kind.TheVariants.{Text, Mluc}
use Rattle.fields.proofs.Append.{longer, part_append}
use Rattle.fields.proofs.Grow.{Grows, choose, passes}
use Rattle.text_meaning.specs.Answer.{Answer, refused}
use Rattle.text_meaning.specs.Mluc.{RecordsEnd, whole, stopped, records_asked, records_in, text_record_words, words_in}
use Rattle.text_meaning.specs.Text.{slotted_of, ended_by, mluc_of, by_type, string_of}
use Rattle.text_meaning.proofs.Found.{Value, found}

-- the answers that may change: those of one refusal
abbrev pub Is : ℕ → Answer → Type 0
Is n a = a ≡ refused n

-- ---- bytes behind the profile: the tag is fixed by its size

pub more_bytes : (p q : List ℕ) (entry size words : ℕ) → Grows (Is 1) (string_of p entry size words) (string_of (p ++ q) entry size words)
unfolding string_of
more_bytes p q entry size words =
    choose (Is 1) (ltb (counted_size size) 4) (λ _. inr refl)
    (λ _. passes (Is 1) (ltb (length p) (entry + counted_size size)) (ltb (length (p ++ q)) (entry + counted_size size)) (longer p q (entry + counted_size size)) refl
    (λ e. choose (Is 1) (ltb (counted_size size) 8) (λ _. inr refl)
    (λ _. rw (part_append p q entry (counted_size size) (ltb-false (length p) (entry + counted_size size) e)) (inr refl))))

-- ---- more slots

module _ (few many : ℕ) (h : few ≤ many) where
  slotted_more : (n : ℕ) → Grows (Is 14) (slotted_of n few) (slotted_of n many)
  unfolding slotted_of
  slotted_more n =
      passes (Is 14) (ltb (few / text_record_words) n) (ltb (many / text_record_words) n)
      (λ e. le-ltb (many / text_record_words) n (omega (arith, ltb-false (few / text_record_words) n e, h))) refl (λ _. inr refl)

  mluc_more : (t : List ℕ) → Grows (Is 14) (mluc_of t few) (mluc_of t many)
  unfolding mluc_of
  mluc_more t = by (records_in t).end
    where
      by : (x : RecordsEnd) → Grows (Is 14) (ended_by x (slotted_of (records_asked t) few)) (ended_by x (slotted_of (records_asked t) many))
      by whole = slotted_more (records_asked t)
      by (stopped f) = inr refl

  type_more : (t : List ℕ) → Grows (Is 14) (by_type t few) (by_type t many)
  unfolding by_type
  type_more t =
      choose (Is 14) (eqb (u32_at t 0) (signature_of Text)) (λ _. inr refl)
      (λ _. choose (Is 14) (eqb (u32_at t 0) (signature_of Mluc)) (λ _. mluc_more t) (λ _. inr refl))

  pub more_slots : (p : List ℕ) (entry size : ℕ) → Grows (Is 14) (string_of p entry size few) (string_of p entry size many)
  unfolding string_of
  more_slots p entry size =
      choose (Is 14) (ltb (counted_size size) 4) (λ _. inr refl)
      (λ _. choose (Is 14) (ltb (length p) (entry + counted_size size)) (λ _. inr refl)
      (λ _. choose (Is 14) (ltb (counted_size size) 8) (λ _. inr refl) (λ _. type_more (counted_tag p entry size))))

-- ---- both at once

-- with bytes behind the profile and more slots a value keeps every field and every record
pub record Stays (p q : List ℕ) (entry size few many : ℕ) : Type 0 where
  pub answer_stays : string_of (p ++ q) entry size many ≡ string_of p entry size few
  pub records_stay : words_in (records_in (counted_tag (p ++ q) entry size)).records ≡ words_in (records_in (counted_tag p entry size)).records

-- what may change is not a value, so a value is kept
kept : (a b : Answer) (n : ℕ) → Value a → Grows (Is n) a b → b ≡ a
kept a b n v (inl e) = absurd (subst Value e v)
kept a b n v (inr e) = e

pub value_stays : (p q : List ℕ) (entry size few many : ℕ) → few ≤ many → Value (string_of p entry size few) → Stays p q entry size few many
value_stays p q entry size few many m v =
    let e₁ : string_of p entry size many ≡ string_of p entry size few = kept _ _ 14 v (more_slots few many m p entry size) in
    let e₂ : string_of (p ++ q) entry size many ≡ string_of p entry size many = kept _ _ 1 (subst Value (sym e₁) v) (more_bytes p q entry size many) in
    let f = found p entry size few v in
    record {
      answer_stays = e₂ ∙ e₁;
      records_stay = rw (part_append p q entry (counted_size size) f.tag_in_profile);
    }
