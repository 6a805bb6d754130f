-- Refusal 14 comes last: where it is answered all records were read, and the slots alone are too few. With as many as the tag asks the answer
-- is a value.
-- Assumes nothing.
use Prim.Native.Nat.{ℕ, ◌+◌, ◌/◌, ◌≤◌, ◌<◌}
use native.Mathlib.Omega.{arith}
use mathlib.Core.Path.{◌≡◌, refl}
use mathlib.Core.List.{List}
use lib.Dec.{ltb, eqb}
use lib.ListN.{length}
use borrow.Author.Tests.{ltb-true, ltb-false, le-ltb, eqb-true}
use Rattle.fields.proofs.Never.{never}
use Rattle.fields.specs.Bytes.{u32_at}
use Rattle.fields.specs.Place.{counted_size, counted_tag}
use Rattle.fields.specs.Tag.{signature_of}
use Rattle.fields.specs.declared.Kind.TheVariants.{Text, Desc, Mluc}
use Rattle.fields.proofs.Choice.{each}
use Rattle.text_meaning.specs.Answer.{Answer, mluc, absent, refused}
use Rattle.text_meaning.specs.Layout.{ascii_end}
use Rattle.text_meaning.specs.Mluc.{header, string, RecordsEnd, whole, stopped, records_asked, records_in, text_record_words}
use Rattle.text_meaning.specs.Text.{text_of, desc_of, slotted_of, ended_by, mluc_of, by_type, string_of}
use Rattle.text_meaning.proofs.Shared.{as_mluc}

module _ (p : List ℕ) (entry size words : ℕ) where
  abbrev t : List ℕ
  t = counted_tag p entry size

  pub record Short : Type 0 where
    pub tag_in_profile : entry + counted_size size ≤ length p
    pub long : 8 ≤ counted_size size
    pub type_is : u32_at t 0 ≡ signature_of Mluc
    pub all_read : (records_in t).end ≡ whole
    pub few : words / text_record_words < records_asked t

  abbrev Behind : Answer → Type 0
  Behind a = a ≡ refused 14 → Short

  no_absence : Behind absent
  no_absence h = never cc

  no_other : (n : ℕ) → (n ≡ 14 → ⊥) → Behind (refused n)
  no_other n f h = absurd (f cc)

  by_end : entry + counted_size size ≤ length p → 8 ≤ counted_size size → u32_at t 0 ≡ signature_of Mluc → (x : RecordsEnd) → (records_in t).end ≡ x → Behind (ended_by x (slotted_of (records_asked t) words))
  unfolding slotted_of
  by_end fits long i whole e =
      each Behind (ltb (words / text_record_words) (records_asked t)) _ _
      (λ l h. record { tag_in_profile = fits; long = long; type_is = i; all_read = e; few = ltb-true _ _ l })
      (λ _ h. never cc)
  by_end fits long i (stopped header) e = no_other _ (λ z. omega arith)
  by_end fits long i (stopped string) e = no_absence

  pub fourteen_behind : Behind (string_of p entry size words)
  unfolding string_of by_type text_of mluc_of desc_of
  fourteen_behind =
      each Behind (ltb (counted_size size) 4) _ _ (λ _. no_absence)
      (λ _. each Behind (ltb (length p) (entry + counted_size size)) _ _ (λ _. no_other _ (λ z. omega arith))
      (λ fits. each Behind (ltb (counted_size size) 8) _ _ (λ _. no_absence)
      (λ long. each Behind (eqb (u32_at t 0) (signature_of Text)) _ _ (λ _ h. never cc)
      (λ _. each Behind (eqb (u32_at t 0) (signature_of Mluc)) _ _
      (λ i. by_end (ltb-false _ _ fits) (ltb-false _ _ long) (eqb-true _ _ i) (records_in t).end refl)
      (λ _. each Behind (eqb (u32_at t 0) (signature_of Desc)) _ _
      (λ _. each Behind (ltb (length t) 12) _ _ (λ _. no_other _ (λ z. omega arith))
      (λ _. each Behind (ltb (length t) (ascii_end t)) _ _ (λ _. no_other _ (λ z. omega arith)) (λ _ h. never cc)))
      (λ _. no_absence))))))

  -- with slots for all records everything stays, and they are answered
  pub enough : Short → (many : ℕ) → records_asked t ≤ many / text_record_words → string_of p entry size many ≡ mluc (records_asked t)
  unfolding string_of mluc_of slotted_of
  enough w many room =
      let some : 4 ≤ counted_size size = omega (arith, w.long) in
      rw (le-ltb (counted_size size) 4 some, le-ltb (length p) (entry + counted_size size) w.tag_in_profile, le-ltb (counted_size size) 8 w.long, as_mluc t many w.type_is, w.all_read, le-ltb (many / text_record_words) (records_asked t) room)
