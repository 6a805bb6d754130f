-- What stands behind an answer, by the reader's own layout: what is taken so is answered so, and what is answered is taken so. A step to
-- `Conforms`, which says the same by what the standards write.
-- Assumes nothing.
use Prim.Native.Nat.{ℕ, zero, suc, ◌+◌, ◌-◌, ◌*◌, ◌/◌, ◌≤◌, ◌<◌}
use mathlib.Core.Path.{◌≡◌, refl, sym, ◌∙◌}
use mathlib.Core.Bool.{Bool, true, false, cond}
use mathlib.Core.List.{List, [], ◌∷◌}
use mathlib.Core.Logic.{◌⊎◌, inl, inr}
use lib.Dec.{ltb, eqb}
use lib.ListN.{length}
use borrow.Author.Tests.{lt-ltb, le-ltb, ltb-true, ltb-false, eqb-true}
use Rattle.fields.proofs.Never.{never}
use Rattle.fields.specs.Bytes.{u32_at}
use Rattle.fields.specs.House.{tag_size}
use Rattle.fields.specs.Place.{counted_size, counted_tag}
use Rattle.fields.specs.Tag.{signature_of}
use Rattle.fields.specs.declared.Kind.TheVariants.{Text, Desc, Mluc}
use Rattle.fields.proofs.Choice.{each}
use Rattle.text_meaning.specs.Answer.{Answer, text, desc, mluc, absent, refused, Span, span, nowhere, Unicode}
use Rattle.text_meaning.specs.Cut.{byte_of, unit_of, kept_of, Cut}
use Rattle.text_meaning.specs.Layout.{text_start, ascii_start, ascii_count, ascii_end, unicode_language, unicode_count, unicode_start, unicode_end, header_end, string_end}
use Rattle.text_meaning.specs.Mluc.{PlacedString, is, no, header, string, RecordsEnd, whole, stopped, first, localized_at, record_at, follow, records_from, records_asked, records_in, text_record_words}
use Rattle.text_meaning.specs.Text.{text_of, unicode_of, desc_of, slotted_of, ended_by, mluc_of, by_type, string_of}
use Rattle.text_meaning.proofs.Cutting.{kept_cut, cut_kept}
use Rattle.text_meaning.proofs.Found.{Value, found}
use Rattle.text_meaning.proofs.Shared.{as_text, as_mluc, as_desc, whole_count}

-- a condition on each of the records from record k on
unfoldable pub Row : (ℕ → PlacedString → Type 0) → ℕ → List PlacedString → Type 0
Row P k [] = Unit
Row P k (r ∷ rs) = P k r × Row P (k + 1) rs

-- ---- by the places where the reader looks

-- `text`: any bytes, of which trailing zeros are cut, if there are any
pub record TextTaken (t : List ℕ) (s : Span) : Type 0 where
  pub signature : u32_at t 0 ≡ signature_of Text
  pub start_is : s.start ≡ text_start
  pub whole : text_start ≤ length t
  pub string : Cut (byte_of t text_start) (length t - text_start) s.bytes

-- `desc`: a Unicode part that is not whole is taken for one that is not there; the ScriptCode part is not looked at
pub record AsciiTaken (t : List ℕ) (s : Span) : Type 0 where
  pub signature : u32_at t 0 ≡ signature_of Desc
  pub start_is : s.start ≡ ascii_start
  pub counted : tag_size ≤ length t
  pub whole : ascii_end t ≤ length t
  pub string : Cut (byte_of t ascii_start) (ascii_count t) s.bytes

-- the range of a Unicode string of n units; a count of 0 has none
abbrev pub unicode_range : List ℕ → ℕ → ℕ → Span
unicode_range t at n = cond (eqb (unicode_count t at) 0) nowhere (span (unicode_start at) (2 * n))

pub record UnicodeWhole (t : List ℕ) (at : ℕ) (u : Unicode) : Type 0 where
  pub units : ℕ
  pub whole : unicode_end t at ≤ length t
  pub string : Cut (unit_of t (unicode_start at)) (unicode_count t at) units
  pub answer_is : u ≡ record { language = unicode_language t at; string = unicode_range t at units }

pub record UnicodeShort (t : List ℕ) (at : ℕ) (u : Unicode) : Type 0 where
  pub short : length t < unicode_end t at
  pub answer_is : u ≡ record { language = 0; string = nowhere }

pub record DescriptionTaken (t : List ℕ) (s : Span) (u : Unicode) : Type 0 where
  pub ascii : AsciiTaken t s
  pub unicode : UnicodeWhole t (ascii_end t) u ⊎ UnicodeShort t (ascii_end t) u

-- `mluc`: a count of 0 is taken for 1, any record size for 12, and an odd last byte is dropped
pub record RecordTaken (t : List ℕ) (k : ℕ) (r : PlacedString) : Type 0 where
  pub is : r ≡ localized_at t k
  pub header_in_tag : header_end k ≤ length t
  pub string_in_tag : string_end t k ≤ length t

pub record RecordsTaken (t : List ℕ) (rs : List PlacedString) : Type 0 where
  pub signature : u32_at t 0 ≡ signature_of Mluc
  pub count : records_asked t ≡ length rs
  pub row : Row (RecordTaken t) 0 rs

-- ---- what is taken is accepted, of `mluc` if the slots suffice

pub text_accepted : (t : List ℕ) (s : Span) (words : ℕ) → TextTaken t s → by_type t words ≡ text s
unfolding text_of
text_accepted t s words h = as_text t words h.signature ∙ rw (cut_kept (byte_of t text_start) (length t - text_start) s.bytes h.string, ← h.start_is)

unicode_accepted : (t : List ℕ) (at : ℕ) (n : ℕ) → unicode_end t at ≤ length t → Cut (unit_of t (unicode_start at)) (unicode_count t at) n → unicode_of t at ≡ record { language = unicode_language t at; string = unicode_range t at n }
unfolding unicode_of
unicode_accepted t at n l c = rw (le-ltb (length t) (unicode_end t at) l, cut_kept (unit_of t (unicode_start at)) (unicode_count t at) n c) (by (eqb (unicode_count t at) 0))
  where
    by : (b : Bool) → ◌≡◌ {A = Unicode} (cond b record { language = unicode_language t at; string = nowhere } record { language = unicode_language t at; string = span (unicode_start at) (2 * n) }) record { language = unicode_language t at; string = cond b nowhere (span (unicode_start at) (2 * n)) }
    by true = refl
    by false = refl

unicode_read : (t : List ℕ) (at : ℕ) (u : Unicode) → UnicodeWhole t at u ⊎ UnicodeShort t at u → unicode_of t at ≡ u
unfolding unicode_of
unicode_read t at u (inl h) = unicode_accepted t at h.units h.whole h.string ∙ sym h.answer_is
unicode_read t at u (inr h) = rw (lt-ltb (length t) (unicode_end t at) h.short) (sym h.answer_is)

pub desc_accepted : (t : List ℕ) (s : Span) (u : Unicode) (words : ℕ) → DescriptionTaken t s u → by_type t words ≡ desc s u
unfolding desc_of
desc_accepted t s u words h =
    let a = h.ascii in
    as_desc t words a.signature ∙ rw (le-ltb (length t) tag_size a.counted, le-ltb (length t) (ascii_end t) a.whole, cut_kept (byte_of t ascii_start) (ascii_count t) s.bytes a.string, unicode_read t (ascii_end t) u h.unicode, ← a.start_is)

-- records that are taken are read
row_read : (t : List ℕ) (k : ℕ) (rs : List PlacedString) → Row (RecordTaken t) k rs → records_from t k (length rs) ≡ record { records = rs; end = whole }
unfolding Row records_from record_at
row_read t k [] h = refl
row_read t k (r ∷ rs) (h, rest) = rw (le-ltb (length t) (header_end k) h.header_in_tag, le-ltb (length t) (string_end t k) h.string_in_tag, row_read t (k + 1) rs rest, ← h.is)

pub records_read_lem : (t : List ℕ) (rs : List PlacedString) → RecordsTaken t rs → records_in t ≡ record { records = rs; end = whole }
unfolding records_in
records_read_lem t rs h = rw h.count (row_read t 0 rs h.row)

pub mluc_accepted : (t : List ℕ) (rs : List PlacedString) (words : ℕ) → RecordsTaken t rs → length rs ≤ words / text_record_words → by_type t words ≡ mluc (length rs)
unfolding mluc_of slotted_of
mluc_accepted t rs words h l = as_mluc t words h.signature ∙ rw (records_read_lem t rs h, h.count, le-ltb (words / text_record_words) (length rs) l)

-- and only then
pub mluc_room : (t : List ℕ) (rs : List PlacedString) (words n : ℕ) → RecordsTaken t rs → by_type t words ≡ mluc n → length rs ≤ words / text_record_words
unfolding mluc_of slotted_of
mluc_room t rs words n h e = by (ltb (words / text_record_words) (length rs)) refl
  where
    by : (b : Bool) → ltb (words / text_record_words) (length rs) ≡ b → length rs ≤ words / text_record_words
    by true f =
        let few : by_type t words ≡ refused 14 = as_mluc t words h.signature ∙ rw (records_read_lem t rs h, h.count, f) in
        never cc
    by false f = ltb-false (words / text_record_words) (length rs) f

-- ---- what is accepted is taken

-- records that are read whole are taken
pub read_row : (t : List ℕ) (n k : ℕ) → Row (RecordTaken t) k (records_from t k n).records
unfolding Row records_from record_at
read_row t zero k = tt
read_row t (suc n) k = by (ltb (length t) (header_end k)) refl (ltb (length t) (string_end t k)) refl (read_row t n (k + 1))
  where
    by : (b : Bool) → ltb (length t) (header_end k) ≡ b → (c : Bool) → ltb (length t) (string_end t k) ≡ c → Row (RecordTaken t) (k + 1) (records_from t (k + 1) n).records → Row (RecordTaken t) k (follow (cond b (no header) (cond c (no string) (is (localized_at t k)))) (λ r. first r (records_from t (k + 1) n))).records
    by true e c f rest = tt
    by false e true f rest = tt
    by false e false f rest = (record { is = refl; header_in_tag = ltb-false _ _ e; string_in_tag = ltb-false _ _ f }, rest)

module _ (t : List ℕ) where
  -- what stands behind an answer
  pub record LocalizedTaken (n : ℕ) : Type 0 where
    pub taken : RecordsTaken t (records_in t).records
    pub end_is : (records_in t).end ≡ whole
    pub count_is : n ≡ length (records_in t).records

  abbrev pub Taken : Answer → Type 0
  Taken (text s) = TextTaken t s
  Taken (desc s u) = DescriptionTaken t s u
  Taken (mluc n) = LocalizedTaken n
  Taken absent = Unit
  Taken (refused n) = Unit

  unicode_taken : (at : ℕ) → UnicodeWhole t at (unicode_of t at) ⊎ UnicodeShort t at (unicode_of t at)
  unfolding unicode_of
  unicode_taken at = by (ltb (length t) (unicode_end t at)) refl
    where
      by : (b : Bool) → ltb (length t) (unicode_end t at) ≡ b → UnicodeWhole t at (unicode_of t at) ⊎ UnicodeShort t at (unicode_of t at)
      by true e = inr record { short = ltb-true _ _ e; answer_is = rw e }
      by false e =
          let c = kept_cut (unit_of t (unicode_start at)) (unicode_count t at) in
          inl record { units = kept_of (unit_of t (unicode_start at)) (unicode_count t at); whole = ltb-false _ _ e; string = c; answer_is = unicode_accepted t at _ (ltb-false _ _ e) c }

  mluc_taken : (words : ℕ) → u32_at t 0 ≡ signature_of Mluc → Taken (mluc_of t words)
  unfolding mluc_of slotted_of records_in
  mluc_taken words i = by (records_in t).end refl
    where
      by : (x : RecordsEnd) → (records_in t).end ≡ x → Taken (ended_by x (slotted_of (records_asked t) words))
      by whole e =
          let n : length (records_in t).records ≡ records_asked t = whole_count t 0 (records_asked t) e in
          each Taken (ltb (words / text_record_words) (records_asked t)) _ _ (λ _. tt)
          (λ _. record { taken = record { signature = i; count = sym n; row = read_row t (records_asked t) 0 }; end_is = e; count_is = sym n })
      by (stopped header) e = tt
      by (stopped string) e = tt

  pub taken : (words : ℕ) → 8 ≤ length t → Taken (by_type t words)
  unfolding by_type text_of desc_of
  taken words l =
      each Taken (eqb (u32_at t 0) (signature_of Text)) _ _
      (λ i. record { signature = eqb-true _ _ i; start_is = refl; whole = l; string = kept_cut (byte_of t text_start) (length t - text_start) })
      (λ _. each Taken (eqb (u32_at t 0) (signature_of Mluc)) _ _ (λ i. mluc_taken words (eqb-true _ _ i))
      (λ _. each Taken (eqb (u32_at t 0) (signature_of Desc)) _ _
      (λ i. each Taken (ltb (length t) tag_size) _ _ (λ _. tt)
      (λ a. each Taken (ltb (length t) (ascii_end t)) _ _ (λ _. tt)
      (λ b. record {
        ascii = record { signature = eqb-true _ _ i; start_is = refl; counted = ltb-false _ _ a; whole = ltb-false _ _ b; string = kept_cut (byte_of t ascii_start) (ascii_count t) };
        unicode = unicode_taken (ascii_end t);
      })))
      (λ _. tt)))

-- what is accepted is taken, and lies in the profile
pub record Accepted (p : List ℕ) (entry size : ℕ) (a : Answer) : Type 0 where
  pub tag_in_profile : entry + counted_size size ≤ length p
  pub laid : Taken (counted_tag p entry size) a

pub accepted : (p : List ℕ) (entry size words : ℕ) → Value (string_of p entry size words) → Accepted p entry size (string_of p entry size words)
accepted p entry size words v =
    let f = found p entry size words v in
    record { tag_in_profile = f.tag_in_profile; laid = rw f.as_tag (taken (counted_tag p entry size) words f.long) }
