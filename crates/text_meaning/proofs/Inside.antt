-- Demand 1 of text: each range that is answered lies inside the tag, and the tag inside the profile; and no more records are read than the
-- tag has room for, whatever its count says.
-- Assumes nothing.
use Prim.Native.Nat.{ℕ, zero, suc, ◌+◌, ◌*◌, ◌≤◌, ◌<◌}
use native.Mathlib.Omega.{arith}
use native.Mathlib.Nat.{zero-add, add-zero}
use mathlib.Core.Path.{◌≡◌, refl}
use mathlib.Core.Bool.{Bool, true, false, cond}
use mathlib.Core.List.{List, [], ◌∷◌, ◌++◌}
use mathlib.Core.Logic.{◌⊎◌, inl, inr}
use lib.Dec.{ltb, eqb}
use lib.ListN.{length, take, drop}
use borrow.Author.Tests.{ltb-false}
use Rattle.fields.specs.Place.{counted_size, counted_tag}
use Rattle.text_meaning.specs.Answer.{Answer, text, desc, mluc, absent, refused, Span, span, nowhere, Unicode, slots_with}
use Rattle.text_meaning.specs.Layout.{ascii_end, unicode_count, unicode_start, header_end, string_end}
use Rattle.text_meaning.specs.Mluc.{PlacedString, header, string, is, no, RecordsRead, first, localized_at, record_at, follow, records_from, records_asked, records_in, text_record_words, placed_words, words_in}
use Rattle.text_meaning.specs.Text.{string_of}
use Rattle.text_meaning.proofs.Found.{Value}
use Rattle.text_meaning.proofs.Taken.{Row, UnicodeWhole, UnicodeShort, RecordTaken, Taken, read_row, accepted}

-- ---- one range

-- the first byte behind a range
abbrev pub end_of : Span → ℕ
end_of s = s.start + s.bytes

unicode_inside : (t : List ℕ) (at : ℕ) (u : Unicode) → UnicodeWhole t at u ⊎ UnicodeShort t at u → end_of u.string ≤ length t
unicode_inside t at u (inl h) = rw h.answer_is (by (eqb (unicode_count t at) 0))
  where
    by : (b : Bool) → end_of (cond b nowhere (span (unicode_start at) (2 * h.units))) ≤ length t
    by true = omega arith
    by false = omega (arith, h.whole, h.string.within)
unicode_inside t at u (inr h) = rw h.answer_is (omega arith)

-- ---- records

-- the words are those of header k, which lies in the tag, and so does its string
pub record ReadAt (t : List ℕ) (k : ℕ) (words : List ℕ) : Type 0 where
  pub record_is : words ≡ placed_words (localized_at t k)
  pub header_in_tag : header_end k ≤ length t
  pub string_in_tag : string_end t k ≤ length t

-- record k of those that are read from header `at` on, in front of whatever else
pub record_at_lem : (t rest : List ℕ) (n at k : ℕ) → k < length (records_from t at n).records → ReadAt t (at + k) (take text_record_words (drop (k * text_record_words) (words_in (records_from t at n).records ++ rest)))
unfolding records_from record_at words_in
record_at_lem t rest zero at k = λ l. absurd (omega arith)
record_at_lem t rest (suc n) at k = by (ltb (length t) (header_end at)) refl (ltb (length t) (string_end t at)) refl k (record_at_lem t rest n (at + 1))
  where
    seen : Bool → Bool → RecordsRead
    seen b c = follow (cond b (no header) (cond c (no string) (is (localized_at t at)))) (λ r. first r (records_from t (at + 1) n))

    by : (b : Bool) → ltb (length t) (header_end at) ≡ b → (c : Bool) → ltb (length t) (string_end t at) ≡ c → (k : ℕ) → ((j : ℕ) → j < length (records_from t (at + 1) n).records → ReadAt t (at + 1 + j) (take text_record_words (drop (j * text_record_words) (words_in (records_from t (at + 1) n).records ++ rest)))) → k < length (seen b c).records → ReadAt t (at + k) (take text_record_words (drop (k * text_record_words) (words_in (seen b c).records ++ rest)))
    by true e c f k ih l = absurd (omega arith)
    by false e true f k ih l = absurd (omega arith)
    by false e false f zero ih l = rw (add-zero at) record { record_is = refl; header_in_tag = ltb-false _ _ e; string_in_tag = ltb-false _ _ f }
    by false e false f (suc k) ih l =
        let m : suc k * text_record_words ≡ suc (suc (suc (suc (k * text_record_words)))) = omega arith in
        let next : at + suc k ≡ at + 1 + k = omega arith in
        rw (m, next) (ih k (omega arith))

-- each record has a header of its own in the tag
row_room : (t : List ℕ) (k : ℕ) (rs : List PlacedString) → 12 * k ≤ length t → Row (RecordTaken t) k rs → 12 * (k + length rs) ≤ length t
unfolding Row
row_room t k [] l h = omega (arith, l)
row_room t k (r ∷ rs) l h = omega (arith, row_room t (k + 1) rs (omega (arith, h.0.header_in_tag)) h.1)

-- however many records are asked for, no more are read than the tag has headers of 12 bytes
pub records_room : (t : List ℕ) → 12 * length (records_in t).records ≤ length t
unfolding records_in
records_room t = omega (arith, row_room t 0 (records_from t 0 (records_asked t)).records (omega arith) (read_row t (records_asked t) 0))

-- ---- the answer

module _ (t : List ℕ) where
  abbrev pub Inside : Answer → Type 0
  Inside (text s) = end_of s ≤ length t
  Inside (desc s u) = (end_of s ≤ length t) × (end_of u.string ≤ length t)
  Inside (mluc n) = (slots : List ℕ) (k : ℕ) → k < n → ReadAt t k (take text_record_words (drop (k * text_record_words) (slots_with (mluc n) (words_in (records_in t).records) slots)))
  Inside absent = Unit
  Inside (refused n) = Unit

  taken_inside : (a : Answer) → Taken t a → Inside a
  unfolding records_in
  taken_inside (text s) h = omega (arith, h.start_is, h.whole, h.string.within)
  taken_inside (desc s u) h = (omega (arith, h.ascii.start_is, h.ascii.whole, h.ascii.string.within), unicode_inside t (ascii_end t) u h.unicode)
  taken_inside (mluc n) h = λ slots k l. rw (zero-add k) at (record_at_lem t (drop (length (words_in (records_in t).records)) slots) (records_asked t) 0 k (omega (arith, l, h.count_is)))
  taken_inside absent h = tt
  taken_inside (refused n) h = tt

pub record ValueInside (p : List ℕ) (entry size : ℕ) (a : Answer) : Type 0 where
  pub tag_in_profile : entry + counted_size size ≤ length p
  pub ranges_in_tag : Inside (counted_tag p entry size) a

pub value_inside : (p : List ℕ) (entry size words : ℕ) → Value (string_of p entry size words) → ValueInside p entry size (string_of p entry size words)
value_inside p entry size words v =
    let h = accepted p entry size words v in
    record { tag_in_profile = h.tag_in_profile; ranges_in_tag = taken_inside (counted_tag p entry size) (string_of p entry size words) h.laid }
