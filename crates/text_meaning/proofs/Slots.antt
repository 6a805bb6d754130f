-- The lent slots are as many after a call as before it.
-- Assumes nothing.
use Prim.Native.Nat.{ℕ, ◌+◌, ◌*◌, ◌/◌}
use native.Mathlib.Omega.{arith}
use mathlib.Core.Path.{◌≡◌, refl, ap, ◌∙◌}
use mathlib.Core.List.{List}
use lib.Dec.{ltb, eqb}
use lib.ListN.{length, length-append, length-drop}
use borrow.Author.Tests.{ltb-false}
use Rattle.fields.specs.Bytes.{u32_at}
use Rattle.fields.specs.House.{tag_size}
use Rattle.fields.specs.Place.{counted_size, counted_tag}
use Rattle.fields.specs.Tag.{signature_of}
use Rattle.fields.specs.declared.Kind.TheVariants.{Text, Desc, Mluc}
use Rattle.fields.proofs.Choice.{each}
use Rattle.text_meaning.specs.Answer.{Answer, slots_with}
use Rattle.text_meaning.specs.Layout.{ascii_end}
use Rattle.text_meaning.specs.Mluc.{header, string, RecordsEnd, whole, stopped, records_asked, records_in, text_record_words, words_in}
use Rattle.text_meaning.specs.Text.{text_of, desc_of, slotted_of, ended_by, mluc_of, by_type, string_of, slots_after}
use Rattle.text_meaning.proofs.Shared.{words_length, whole_count}

module _ (p : List ℕ) (entry size : ℕ) (slots : List ℕ) where
  abbrev t : List ℕ
  t = counted_tag p entry size

  abbrev ws : List ℕ
  ws = words_in (records_in t).records

  abbrev AsMany : Answer → Type 0
  AsMany a = length (slots_with a ws slots) ≡ length slots

  by_end : (x : RecordsEnd) → (records_in t).end ≡ x → AsMany (ended_by x (slotted_of (records_asked t) (length slots)))
  unfolding slotted_of records_in
  by_end whole e =
      each AsMany (ltb (length slots / text_record_words) (records_asked t)) _ _ (λ _. refl)
      (λ l.
      let n : length ws ≡ records_asked t * text_record_words = words_length _ ∙ ap (λ (k : ℕ). k * text_record_words) (whole_count t 0 (records_asked t) e) in
      simp length-append (omega (arith, n, ltb-false (length slots / text_record_words) (records_asked t) l, length-drop (length ws) slots)))
  by_end (stopped header) e = refl
  by_end (stopped string) e = refl

  pub slots_length : length (slots_after p entry size slots) ≡ length slots
  unfolding string_of by_type text_of mluc_of desc_of
  slots_length =
      each AsMany (ltb (counted_size size) 4) _ _ (λ _. refl)
      (λ _. each AsMany (ltb (length p) (entry + counted_size size)) _ _ (λ _. refl)
      (λ _. each AsMany (ltb (counted_size size) 8) _ _ (λ _. refl)
      (λ _. each AsMany (eqb (u32_at t 0) (signature_of Text)) _ _ (λ _. refl)
      (λ _. each AsMany (eqb (u32_at t 0) (signature_of Mluc)) _ _ (λ _. by_end (records_in t).end refl)
      (λ _. each AsMany (eqb (u32_at t 0) (signature_of Desc)) _ _
      (λ _. each AsMany (ltb (length t) tag_size) _ _ (λ _. refl)
      (λ _. each AsMany (ltb (length t) (ascii_end t)) _ _ (λ _. refl) (λ _. refl)))
      (λ _. refl))))))
