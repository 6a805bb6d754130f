-- Conformance to textType, textDescriptionType and multiLocalizedUnicodeType as `icc` writes them, both ways: a tag that the standard writes,
-- with any reserved bytes and anything behind it, is answered with what was written; and what is answered is what the standard writes, but
-- for what `specs/Standard.antt` says that the reader takes besides.
-- Assumes nothing.
use Prim.Native.Nat.{ℕ, zero, suc, ◌+◌, ◌-◌, ◌*◌, ◌/◌, ◌%◌, ◌≤◌, ◌<◌}
use native.Mathlib.Omega.{arith}
use native.Mathlib.Nat.{add-zero}
use mathlib.Core.Path.{◌≡◌, refl, sym, ap, ◌∙◌, subst}
use mathlib.Core.Bool.{Bool, true, false, cond}
use mathlib.Core.List.{List, [], ◌∷◌, ◌++◌, map, append-nil, append_assoc}
use mathlib.Core.Logic.{◌⊎◌, inl, inr}
use lib.Dec.{ltb, eqb}
use lib.ListN.{length, get_or, take, drop, replicate, length-append, length-drop, length-replicate, get_or-append}
use lib.Seq.{get_or-drop, get_or-take, drop-drop, drop-append_seam, length-take-le}
use borrow.Author.Tests.{eq-eqb, ne_eqb, ltb-true, ltb-false, eqb-true, eqb-false}
use Rattle.icc.specs.Each.{Each}
use Rattle.icc.specs.Numbers.{be32, each16, Is32, Each16, Bytes}
use Rattle.icc.specs.Text.{Ascii, Utf16, terminated, text_type, ascii_part, unicode_part, script_part, UnicodeString, no_string, characters, unicode_string, IsUnicode, Description, text_description_type, IsDescription, Localized, record_element, record_elements, localized_head, StringsAt, LocalizedTag}
use Rattle.fields.proofs.Written.{halves_at, halves_length, half_at, half_drop, halves_drop, halves_written, halves_below, read16, read32, word_drop, length16, below16, below32, part_bytes, then16, then32, row8, row16}
use Rattle.fields.specs.Bytes.{u16_at, u32_at}
use Rattle.fields.specs.Place.{counted_size}
use Rattle.fields.specs.Tag.{signature_of}
use Rattle.text_meaning.specs.Answer.{Answer, text, desc, mluc, Span, span, Unicode, slots_with}
use Rattle.text_meaning.specs.Cut.{byte_of, unit_of}
use Rattle.text_meaning.specs.Layout.{unicode_language, unicode_count, unicode_start}
use Rattle.text_meaning.specs.Mluc.{RecordsRead, whole, even, records_asked, records_in, text_record_words, words_in, PlacedString}
use Rattle.text_meaning.specs.Standard.{TextTagInside, tag_in, NoZeroLast, BeginsText, unicode_told, description_told, CutShort, no_count, no_units, UnicodeTaken, none, some, short, BeginsDescription, RecordFits, Asked, localized_told, StringTaken, StringsTaken, BeginsLocalized, ReadLocalized}
use Rattle.text_meaning.specs.Text.{by_type, string_of, slots_after}
use Rattle.text_meaning.proofs.Cutting.{string_cut, cut_string}
use Rattle.text_meaning.proofs.Found.{Value, in_profile, found}
use Rattle.text_meaning.proofs.Taken.{TextTaken, AsciiTaken, UnicodeWhole, UnicodeShort, DescriptionTaken, Row, RecordTaken, RecordsTaken, text_accepted, desc_accepted, mluc_accepted, mluc_room, records_read_lem, Taken, accepted}

-- a string with zeros behind it has as many bytes as both
zeros_length : (s : List ℕ) (k : ℕ) → length (s ++ replicate k 0) ≡ length s + k
zeros_length s k = omega (arith, length-append s (replicate k 0), length-replicate {A = ℕ} k 0)

-- ---- textType

text_laid : (reserved : ℕ) (string : List ℕ) (zeros : ℕ) → NoZeroLast string → TextTaken (text_type reserved (string ++ replicate zeros 0)) (span 8 (length string))
unfolding text_type signature_of byte_of
text_laid reserved string zeros cut =
    let t : List ℕ = text_type reserved (string ++ replicate zeros 0) in
    let long : length t - 8 ≡ length string + zeros = omega (arith, zeros_length string zeros) in
    record {
      signature = refl;
      start_is = refl;
      whole = omega arith;
      string = rw long (string_cut (byte_of t 8) string zeros cut (λ i l. sym (get_or-drop 8 t i 0)));
    }

text_begun : (t : List ℕ) → Bytes t → (s : Span) → TextTaken t s → BeginsText t s
unfolding text_type signature_of byte_of
text_begun t b s h =
    let c = cut_string (byte_of t 8) (drop 8 t) (length t - 8) s.bytes (length-drop 8 t) (λ i l. get_or-drop 8 t i 0) h.string in
    let l : 8 ≤ length t = h.whole in
    record {
      reserved = u32_at t 4;
      string = take s.bytes (drop 8 t);
      zeros = c.zeros;
      cut = c.cut;
      is = then32 t b 0 (omega arith) h.signature (then32 t b 4 (omega arith) refl c.is);
      answer_is = λ i. record { start = h.start_is i; bytes = sym c.long i };
    }

-- ---- textDescriptionType: the Unicode part

-- zeros are numbers of 16 bits
zeros_fit : (us : List ℕ) (k : ℕ) → Each16 us → Each16 (us ++ replicate k 0)
unfolding Each
zeros_fit [] zero h = tt
zeros_fit [] (suc k) h = (omega arith, zeros_fit [] k tt)
zeros_fit (u ∷ us) k (h, hs) = (h, zeros_fit us k hs)

take_fit : (n : ℕ) (us : List ℕ) → Each16 us → Each16 (take n us)
unfolding Each
take_fit zero us h = tt
take_fit (suc n) [] h = tt
take_fit (suc n) (u ∷ us) (h, hs) = (h, take_fit n us hs)

module _ (t : List ℕ) (at : ℕ) (within : at ≤ length t) where
  abbrev part : List ℕ
  part = drop at t

  word_here : u32_at t at ≡ u32_at part 0
  word_here = sym (word_drop t at 0 ∙ ap (u32_at t) (add-zero at))

  word_four : u32_at t (at + 4) ≡ u32_at part 4
  word_four = sym (word_drop t at 4)

  -- a part that stands there
  record Stood (language : ℕ) (us : List ℕ) : Type 0 where
    language_is : unicode_language t at ≡ language
    count_is : unicode_count t at ≡ length us
    whole : at + 8 + 2 * length us ≤ length t
    units_are : (i : ℕ) → i < length us → unit_of t (unicode_start at) i ≡ get_or us i 0

  stood : (language : ℕ) (us rest : List ℕ) → Is32 language → Is32 (length us) → Each16 us → part ≡ unicode_part language us ++ rest → Stood language us
  unfolding unicode_part unit_of
  stood language us rest f g h e =
      let behind : drop (at + 8) t ≡ each16 us ++ rest = sym (drop-drop 8 at t) ∙ ap (drop 8) e in
      let halves : halves_at t (at + 8) (length us) ≡ us = ap (λ (i : ℕ). halves_at t i (length us)) (sym (add-zero (at + 8))) ∙ sym (halves_drop t (at + 8) 0 (length us)) ∙ ap (λ (s : List ℕ). halves_at s 0 (length us)) behind ∙ halves_written us rest h in
      record {
        language_is = word_here ∙ ap (λ (s : List ℕ). u32_at s 0) e ∙ read32 language f;
        count_is = word_four ∙ ap (λ (s : List ℕ). u32_at s 4) e ∙ read32 (length us) g;
        whole = omega (arith, ap length e, length-drop at t, length-append (each16 us) rest, length16 us);
        units_are = λ i l. sym (half_at t (at + 8) (length us) i l) ∙ ap (λ (s : List ℕ). get_or s i 0) halves;
      }

  unicode_laid : (u : Unicode) → UnicodeTaken (at + 8) part u → UnicodeWhole t at u ⊎ UnicodeShort t at u
  unfolding Each
  unicode_laid u (none language rest f e a) =
      let s = stood language [] rest f (omega arith) tt e in
      inl record {
        units = 0;
        whole = rw s.count_is s.whole;
        string = rw s.count_is (string_cut (unit_of t (at + 8)) [] 0 (λ front z. omega (arith, ap length z, length-append front (0 ∷ []))) (λ i l. absurd (omega arith)));
        answer_is = a ∙ rw (s.language_is, s.count_is);
      }
  unicode_laid u (some language units zeros rest f h one g cut e a) =
      let us : List ℕ = units ++ replicate zeros 0 in
      let n : length us ≡ length units + zeros = zeros_length units zeros in
      let s = stood language us rest f (omega (arith, n)) (zeros_fit units zeros h) e in
      let count : u32_at t (at + 4) ≡ length units + zeros = s.count_is ∙ n in
      let there : eqb (u32_at t (at + 4)) 0 ≡ false = ne_eqb (u32_at t (at + 4)) 0 (λ z. omega (arith, z, count)) in
      inl record {
        units = length units;
        whole = omega (arith, count, n, s.whole);
        string = rw count (string_cut (unit_of t (at + 8)) units zeros cut (λ i l. s.units_are i (omega (arith, n))));
        answer_is = a ∙ rw (s.language_is, there);
      }
  unicode_laid u (short (no_count l) a) = inr record { short = omega (arith, length-drop at t); answer_is = a }
  unicode_laid u (short (no_units language count bytes f e l) a) =
      let c : u32_at t (at + 4) ≡ count = word_four ∙ ap (λ (s : List ℕ). u32_at s 4) e ∙ read32 count f in
      inr record { short = omega (arith, c, ap length e, length-drop at t); answer_is = a }

  -- and back
  module _ (b : Bytes t) where
    abbrev count : ℕ
    count = u32_at t (at + 4)

    abbrev us : List ℕ
    us = halves_at t (at + 8) count

    eight : at + 4 + 4 ≡ at + 8
    eight = omega arith

    -- the language and the count, in front of what stands behind them
    numbers_there : {n : ℕ} {x : List ℕ} → at + 8 ≤ length t → count ≡ n → drop (at + 8) t ≡ x → part ≡ be32 (u32_at t at) ++ be32 n ++ x
    numbers_there l e h = then32 t b at (omega arith) refl (then32 t b (at + 4) (omega arith) e (ap (λ (i : ℕ). drop i t) eight ∙ h))

    unicode_begun : (u : Unicode) → UnicodeWhole t at u ⊎ UnicodeShort t at u → UnicodeTaken (at + 8) part u
    unfolding unicode_part unit_of each16 halves_at
    unicode_begun u (inl h) = by (eqb count 0) refl
      where
        by : (e : Bool) → eqb count 0 ≡ e → UnicodeTaken (at + 8) part u
        by true e =
            let z : count ≡ 0 = eqb-true count 0 e in
            let a : u ≡ record { language = u32_at t at; string = span 0 0 } = h.answer_is ∙ rw e in
            none (u32_at t at) (drop (at + 8) t) (below32 t b at) (numbers_there (omega (arith, h.whole)) z refl) a
        by false e =
            let n : length us ≡ count = halves_length t (at + 8) count in
            let c = cut_string (unit_of t (at + 8)) us count h.units n (λ i l. half_at t (at + 8) count i l) h.string in
            let nz = eqb-false count 0 e in
            let a : u ≡ record { language = u32_at t at; string = span (at + 8) (2 * h.units) } = h.answer_is ∙ rw e in
            let front : List ℕ = take h.units us in
            let rest : List ℕ = drop (at + 8 + 2 * count) t in
            let is : part ≡ unicode_part (u32_at t at) us ++ rest = numbers_there (omega (arith, h.whole)) (sym n) (row16 t b count (at + 8) h.whole refl refl) in
            let all : length front + c.zeros ≡ count = omega (arith, c.long, c.all, n) in
            some (u32_at t at) front c.zeros rest (below32 t b at) (take_fit h.units us (halves_below t b (at + 8) count)) (omega (arith, all, nz)) (rw all (below32 t b (at + 4))) c.cut (is ∙ ap (λ (v : List ℕ). unicode_part (u32_at t at) v ++ rest) c.is) (rw c.long a)
    unicode_begun u (inr h) = short (by (ltb (length part) 8) refl) h.answer_is
      where
        by : (e : Bool) → ltb (length part) 8 ≡ e → CutShort part
        by true e = no_count (ltb-true (length part) 8 e)
        by false e =
            let l : at + 8 ≤ length t = omega (arith, ltb-false (length part) 8 e, length-drop at t) in
            no_units (u32_at t at) count (drop (at + 8) t) (below32 t b (at + 4)) (numbers_there l refl refl) (omega (arith, h.short, length-drop (at + 8) t))

-- ---- and the whole of it

-- an ASCII part of n bytes, and what stands behind it
record AsciiStood (t : List ℕ) (m n : ℕ) (part : List ℕ) : Type 0 where
  ascii : AsciiTaken t (span 12 m)
  count : u32_at t 8 ≡ n
  within : 12 + n ≤ length t
  behind : drop (12 + n) t ≡ part

ascii_stood : (reserved : ℕ) (string : List ℕ) (zeros : ℕ) (part : List ℕ) → NoZeroLast string → Is32 (length string + zeros) → AsciiStood (ascii_part reserved (string ++ replicate zeros 0) ++ part) (length string) (length string + zeros) part
unfolding ascii_part signature_of byte_of
ascii_stood reserved string zeros part cut f =
    let s : List ℕ = string ++ replicate zeros 0 in
    let t : List ℕ = ascii_part reserved s ++ part in
    let n : length s ≡ length string + zeros = zeros_length string zeros in
    let c : u32_at t 8 ≡ length string + zeros = read32 (length s) (omega (arith, n)) ∙ n in
    let l : 12 + (length string + zeros) ≤ length t = omega (arith, n, length-append s part) in
    record {
      ascii =
          record {
            signature = refl;
            start_is = refl;
            counted = omega arith;
            whole = omega (arith, c, l);
            string = rw c (string_cut (byte_of t 12) string zeros cut (λ i k. sym (get_or-drop 12 t i 0) ∙ get_or-append s part 0 i (omega (arith, n))));
          };
      count = c;
      within = l;
      behind = sym (drop-drop (length string + zeros) 12 t) ∙ ap (λ (k : ℕ). drop k (s ++ part)) (sym n) ∙ drop-append_seam s part;
    }

desc_laid : (t : List ℕ) (s : Span) (u : Unicode) → BeginsDescription t s u → DescriptionTaken t s u
desc_laid t s u h =
    let n : ℕ = length h.string + h.zeros in
    let a = subst (λ (x : List ℕ). AsciiStood x (length h.string) n h.part) (sym h.is) (ascii_stood h.reserved h.string h.zeros h.part h.cut h.counted) in
    let at : 20 + n ≡ 12 + n + 8 = omega arith in
    let e : 12 + n ≡ 12 + u32_at t 8 = ap (λ (k : ℕ). 12 + k) (sym a.count) in
    let there : UnicodeTaken (12 + n + 8) (drop (12 + n) t) u = rw (a.behind, ← at) h.unicode in
    record {
      ascii = subst (AsciiTaken t) (sym h.answer_is) a.ascii;
      unicode = subst (λ (k : ℕ). UnicodeWhole t k u ⊎ UnicodeShort t k u) e (unicode_laid t (12 + n) a.within u there);
    }

desc_begun : (t : List ℕ) → Bytes t → (s : Span) (u : Unicode) → DescriptionTaken t s u → BeginsDescription t s u
unfolding ascii_part signature_of byte_of
desc_begun t b s u h =
    let n : ℕ = u32_at t 8 in
    let l : 12 + n ≤ length t = h.ascii.whole in
    let string : List ℕ = take n (drop 12 t) in
    let long : length string ≡ n = length-take-le n (drop 12 t) (omega (arith, length-drop 12 t)) in
    let c = cut_string (byte_of t 12) string n s.bytes long (λ i k. get_or-take n (drop 12 t) i 0 k ∙ get_or-drop 12 t i 0) h.ascii.string in
    let part : List ℕ = drop (12 + n) t in
    let front : List ℕ = take s.bytes string in
    let all : length front + c.zeros ≡ n = omega (arith, c.long, c.all, long) in
    let is : t ≡ ascii_part (u32_at t 4) string ++ part = then32 t b 0 (omega arith) h.ascii.signature (then32 t b 4 (omega arith) refl (then32 t b 8 (omega arith) (sym long) (row8 t n 12 refl))) in
    let at : 12 + n + 8 ≡ 20 + (length front + c.zeros) = omega (arith, all) in
    record {
      reserved = u32_at t 4;
      string = front;
      zeros = c.zeros;
      part = part;
      cut = c.cut;
      counted = rw all (below32 t b 8);
      is = is ∙ ap (λ (x : List ℕ). ascii_part (u32_at t 4) x ++ part) c.is;
      answer_is = λ i. record { start = h.ascii.start_is i; bytes = sym c.long i };
      unicode = subst (λ (k : ℕ). UnicodeTaken k part u) at (unicode_begun t (12 + n) l b u h.unicode);
    }

-- ---- multiLocalizedUnicodeType

-- a record as the reader has it
abbrev placed : Localized → PlacedString
placed l = record { language = l.language; country = l.country; start = l.offset; bytes = 2 * length l.units }

words_told : (ls : List Localized) → words_in (map placed ls) ≡ localized_told ls
unfolding words_in localized_told
words_told [] = refl
words_told (l ∷ ls) = ap (λ (ws : List ℕ). l.language ∷ l.country ∷ l.offset ∷ 2 * length l.units ∷ ws) (words_told ls)

placed_length : (ls : List Localized) → length (map placed ls) ≡ length ls
placed_length [] = refl
placed_length (l ∷ ls) = ap suc (placed_length ls)

-- how many records are asked for: as many as the count says, and one where it is 0
abbrev Counted : ℕ → ℕ → Type 0
Counted count n = ((1 ≤ count) × (n ≡ count)) ⊎ ((count ≡ 0) × (n ≡ 1))

counted : (count n : ℕ) → Counted count n → cond (eqb count 0) 1 count ≡ n
counted count n (inl (l, e)) = let some : count ≡ 0 → ⊥ = λ z. omega (arith, z) in rw (ne_eqb count 0 some) (sym e)
counted count n (inr (z, e)) = rw (eq-eqb count 0 z) (sym e)

asked : (count n : ℕ) → cond (eqb count 0) 1 count ≡ n → Counted count n
asked count n = by (eqb count 0) refl
  where
    by : (b : Bool) → eqb count 0 ≡ b → cond b 1 count ≡ n → Counted count n
    by true f e = inr (eqb-true count 0 f, sym e)
    by false f e = let some = eqb-false count 0 f in inl (omega (arith, some), sym e)

module _ (t : List ℕ) where
  -- a record that stands at a place, and its string
  record_laid : (k : ℕ) (l : Localized) (rest : List ℕ) → drop (16 + 12 * k) t ≡ record_element l ++ rest → StringTaken t l → RecordTaken t k (placed l)
  unfolding record_element even
  record_laid k l rest e h =
      let at : ℕ = 16 + 12 * k in
      let f = h.fits in
      let language : l.language ≡ u16_at t at = sym (ap (u16_at t) (sym (add-zero at)) ∙ sym (half_drop t at 0) ∙ ap (λ (s : List ℕ). u16_at s 0) e ∙ read16 l.language f.language) in
      let country : l.country ≡ u16_at t (at + 2) = sym (sym (half_drop t at 2) ∙ ap (λ (s : List ℕ). u16_at s 2) e ∙ read16 l.country f.country) in
      let bytes : l.bytes ≡ u32_at t (at + 4) = sym (sym (word_drop t at 4) ∙ ap (λ (s : List ℕ). u32_at s 4) e ∙ read32 l.bytes f.bytes) in
      let offset : l.offset ≡ u32_at t (at + 8) = sym (sym (word_drop t at 8) ∙ ap (λ (s : List ℕ). u32_at s 8) e ∙ read32 l.offset f.offset) in
      let units : 2 * length l.units ≡ u32_at t (at + 4) / 2 * 2 = omega (arith, h.at_most_one, h.bytes, bytes) in
      record {
        is = λ i. record { language = language i; country = country i; start = offset i; bytes = units i };
        header_in_tag = omega (arith, ap length e, length-drop at t);
        string_in_tag = omega (arith, offset, bytes, h.bytes, h.in_tag, ap length h.stands.is, length-drop l.offset t, length-append (each16 l.units ++ h.odd) h.stands.behind, length-append (each16 l.units) h.odd, length16 l.units);
      }

  row_laid : (k : ℕ) (ls : List Localized) (rest : List ℕ) → drop (16 + 12 * k) t ≡ record_elements ls ++ rest → StringsTaken t ls → Row (RecordTaken t) k (map placed ls)
  unfolding Row record_elements Each record_element
  row_laid k [] rest e h = tt
  row_laid k (l ∷ ls) rest e (h, hs) =
      let next : 16 + 12 * k + 12 ≡ 16 + 12 * (k + 1) = omega arith in
      (record_laid k l (record_elements ls ++ rest) e h, row_laid (k + 1) ls rest (ap (λ (i : ℕ). drop i t) (sym next) ∙ sym (drop-drop 12 (16 + 12 * k) t) ∙ ap (drop 12) e) hs)

  mluc_laid : (ls : List Localized) → BeginsLocalized t ls → RecordsTaken t (map placed ls)
  unfolding localized_head signature_of records_asked
  mluc_laid ls h =
      let e : t ≡ localized_head h.reserved h.count h.size ls ++ h.begins.behind = h.begins.is in
      let count : u32_at t 8 ≡ h.count = ap (λ (s : List ℕ). u32_at s 8) e ∙ read32 h.count h.count_fits in
      record {
        signature = ap (λ (s : List ℕ). u32_at s 0) e;
        count = ap (λ (n : ℕ). cond (eqb n 0) 1 n) count ∙ counted h.count (length ls) h.records ∙ sym (placed_length ls);
        row = row_laid 0 ls h.begins.behind (ap (drop 16) e) h.strings;
      }

  -- and back: the records that stand at their places, with their strings
  abbrev at : ℕ → ℕ
  at k = 16 + 12 * k

  abbrev localized : ℕ → Localized
  localized k = record { language = u16_at t (at k); country = u16_at t (at k + 2); bytes = u32_at t (at k + 4); offset = u32_at t (at k + 8); units = halves_at t (u32_at t (at k + 8)) (u32_at t (at k + 4) / 2) }

  unfoldable localized_from : ℕ → List PlacedString → List Localized
  localized_from k [] = []
  localized_from k (r ∷ rs) = localized k ∷ localized_from (k + 1) rs

  from_length : (k : ℕ) (rs : List PlacedString) → length (localized_from k rs) ≡ length rs
  unfolding localized_from
  from_length k [] = refl
  from_length k (r ∷ rs) = ap suc (from_length (k + 1) rs)

  from_words : (k : ℕ) (rs : List PlacedString) → Row (RecordTaken t) k rs → words_in rs ≡ localized_told (localized_from k rs)
  unfolding localized_from Row words_in localized_told even
  from_words k [] h = refl
  from_words k (r ∷ rs) (h, hs) =
      let units : r.bytes ≡ 2 * length (localized k).units = ap (λ (x : PlacedString). x.bytes) h.is ∙ omega (arith, halves_length t (u32_at t (at k + 8)) (u32_at t (at k + 4) / 2)) in
      let language : r.language ≡ u16_at t (at k) = ap (λ (x : PlacedString). x.language) h.is in
      let country : r.country ≡ u16_at t (at k + 2) = ap (λ (x : PlacedString). x.country) h.is in
      let start : r.start ≡ u32_at t (at k + 8) = ap (λ (x : PlacedString). x.start) h.is in
      λ i. language i ∷ country i ∷ start i ∷ units i ∷ from_words (k + 1) rs hs i

  module _ (b : Bytes t) where
    string_begun : (k : ℕ) → u32_at t (at k + 8) + u32_at t (at k + 4) ≤ length t → StringTaken t (localized k)
    string_begun k l =
        let offset : ℕ = u32_at t (at k + 8) in
        let bytes : ℕ = u32_at t (at k + 4) in
        let n : ℕ = bytes / 2 in
        let odd : List ℕ = take (bytes % 2) (drop (offset + 2 * n) t) in
        let one : length odd ≡ bytes % 2 = length-take-le (bytes % 2) (drop (offset + 2 * n) t) (omega (arith, length-drop (offset + 2 * n) t)) in
        let rest : List ℕ = drop (offset + 2 * n + bytes % 2) t in
        record {
          odd = odd;
          at_most_one = omega (arith, one);
          fits = record { language = below16 t b (at k); country = below16 t b (at k + 2); bytes = below32 t b (at k + 4); offset = below32 t b (at k + 8) };
          units = halves_below t b offset n;
          bytes = omega (arith, one, halves_length t offset n);
          in_tag = omega arith;
          stands = record { behind = rest; is = row16 t b n offset (omega arith) refl (row8 t (bytes % 2) (offset + 2 * n) refl) ∙ sym (append_assoc (each16 (halves_at t offset n)) odd rest) };
        }

    strings_begun : (k : ℕ) (rs : List PlacedString) → Row (RecordTaken t) k rs → StringsTaken t (localized_from k rs)
    unfolding localized_from Row Each
    strings_begun k [] h = tt
    strings_begun k (r ∷ rs) (h, hs) = (string_begun k h.string_in_tag, strings_begun (k + 1) rs hs)

    records_begun : (k : ℕ) (rs : List PlacedString) → Row (RecordTaken t) k rs → drop (at k) t ≡ record_elements (localized_from k rs) ++ drop (at (k + length rs)) t
    unfolding localized_from Row record_elements record_element
    records_begun k [] h = ap (λ (i : ℕ). drop (at i) t) (sym (add-zero k))
    records_begun k (r ∷ rs) (h, hs) =
        let l : at k + 12 ≤ length t = h.header_in_tag in
        let next : at k + 8 + 4 ≡ at (k + 1) = omega arith in
        let last : k + 1 + length rs ≡ k + length (r ∷ rs) = omega arith in
        let four : at k + 2 + 2 ≡ at k + 4 = omega arith in
        let eight : at k + 4 + 4 ≡ at k + 8 = omega arith in
        let rest = ap (λ (i : ℕ). drop i t) next ∙ records_begun (k + 1) rs hs ∙ ap (λ (i : ℕ). record_elements (localized_from (k + 1) rs) ++ drop (at i) t) last in
        then16 t b (at k) (omega arith) refl (then16 t b (at k + 2) (omega arith) refl (ap (λ (i : ℕ). drop i t) four ∙ then32 t b (at k + 4) (omega arith) refl (ap (λ (i : ℕ). drop i t) eight ∙ then32 t b (at k + 8) (omega arith) refl rest)))

    mluc_begun : (rs : List PlacedString) → RecordsTaken t rs → BeginsLocalized t (localized_from 0 rs)
    unfolding localized_head signature_of records_asked Row
    mluc_begun rs h =
        let l : 16 ≤ length t = long rs h.count h.row in
        record {
          reserved = u32_at t 4;
          count = u32_at t 8;
          size = u32_at t 12;
          count_fits = below32 t b 8;
          records = asked (u32_at t 8) (length (localized_from 0 rs)) (h.count ∙ sym (from_length 0 rs));
          begins = record { behind = drop (at (0 + length rs)) t; is = then32 t b 0 (omega arith) h.signature (then32 t b 4 (omega arith) refl (then32 t b 8 (omega arith) refl (then32 t b 12 (omega arith) refl (records_begun 0 rs h.row)))) };
          strings = strings_begun 0 rs h.row;
        }
      where
        long : (rs : List PlacedString) → cond (eqb (u32_at t 8) 0) 1 (u32_at t 8) ≡ length rs → Row (RecordTaken t) 0 rs → 16 ≤ length t
        long [] e h = elim (asked (u32_at t 8) 0 e) [
          | inl c ↦ absurd (omega (arith, c.0, c.1))
          | inr c ↦ absurd (omega (arith, c.1))
        ]
        long (r ∷ rs) e (h, hs) = omega (arith, h.header_in_tag)

-- ---- what the standards write is taken

ascii_cut : (cs : List ℕ) → Ascii cs → NoZeroLast cs
unfolding Each
ascii_cut cs h front e = by front (subst Ascii e h)
  where
    by : (front : List ℕ) → Ascii (front ++ (0 ∷ [])) → ⊥
    by [] (c, cs) = omega (arith, c.0)
    by (c ∷ front) (h, hs) = by front hs

unicode_cut : (cs : List ℕ) → Utf16 cs → NoZeroLast cs
unfolding Each
unicode_cut cs h front e = by front (subst Utf16 e h)
  where
    by : (front : List ℕ) → Utf16 (front ++ (0 ∷ [])) → ⊥
    by [] (c, cs) = omega (arith, c.0)
    by (c ∷ front) (h, hs) = by front hs

unicode_fits : (cs : List ℕ) → Utf16 cs → Each16 cs
unfolding Each
unicode_fits [] h = tt
unicode_fits (c ∷ cs) (h, hs) = (h.1, unicode_fits cs hs)

text_begins : (t : List ℕ) (reserved : ℕ) (cs : List ℕ) → Ascii cs → t ≡ text_type reserved (terminated cs) → BeginsText t (span 8 (length cs))
text_begins t reserved cs h e = record { reserved = reserved; string = cs; zeros = 1; cut = ascii_cut cs h; is = e; answer_is = refl }

unicode_begins : (start language : ℕ) (v : UnicodeString) (rest : List ℕ) → Is32 language → IsUnicode v → Is32 (length (unicode_string v)) → UnicodeTaken start (unicode_part language (unicode_string v) ++ rest) record { language = language; string = unicode_told start v }
unfolding unicode_string IsUnicode
unicode_begins start language no_string rest f h g = none language rest f refl refl
unicode_begins start language (characters cs) rest f h g =
    some language cs 1 rest f (unicode_fits cs h) (omega arith) (omega (arith, g, length-append cs (0 ∷ []))) (unicode_cut cs h) refl refl

desc_begins : (t : List ℕ) (reserved : ℕ) (d : Description) (rest : List ℕ) → IsDescription d → t ≡ text_description_type reserved d ++ rest → BeginsDescription t (span 12 (length d.ascii)) record { language = d.language; string = unicode_told (20 + (length d.ascii + 1)) d.unicode }
unfolding text_description_type
desc_begins t reserved d rest h e =
    let a : List ℕ = ascii_part reserved (terminated d.ascii) in
    let u : List ℕ = unicode_part d.language (unicode_string d.unicode) in
    let s : List ℕ = script_part d.script_code d.script_count d.script in
    record {
      reserved = reserved;
      string = d.ascii;
      zeros = 1;
      part = u ++ (s ++ rest);
      cut = ascii_cut d.ascii h.ascii;
      counted = omega (arith, h.ascii_count_lem, length-append d.ascii (0 ∷ []));
      is = e ∙ append_assoc (a ++ u) s rest ∙ append_assoc a u (s ++ rest);
      answer_is = refl;
      unicode = unicode_begins _ d.language d.unicode (s ++ rest) h.language h.unicode h.unicode_count_lem;
    }

strings_begin : (t : List ℕ) (ls : List Localized) → StringsAt t ls → Each RecordFits ls → StringsTaken t ls
unfolding Each
strings_begin t [] h f = tt
strings_begin t (l ∷ ls) (h, hs) (f, fs) = (
  record {
    odd = [];
    at_most_one = omega arith;
    fits = f;
    units = h.units;
    bytes = h.bytes ∙ sym (add-zero (2 * length l.units));
    in_tag = h.in_tag;
    stands = record { behind = h.stands.behind; is = h.stands.is ∙ simp append-nil };
  },
  strings_begin t ls hs fs,
)

mluc_begins : (t : List ℕ) (tag : LocalizedTag t) → Asked tag → BeginsLocalized t tag.records
mluc_begins t tag h =
    record {
      reserved = tag.reserved;
      count = length tag.records;
      size = 12;
      count_fits = h.count_fits;
      records = inl (h.some_record, refl);
      begins = tag.begins;
      strings = strings_begin t tag.records tag.strings h.fit;
    }

-- ---- in a profile

module _ (p : List ℕ) (entry size : ℕ) (inside : TextTagInside p entry size) where
  abbrev tag_here : List ℕ
  tag_here = tag_in p entry size

  -- what is taken is answered, of `mluc` if the slots suffice
  pub text_taken : (words : ℕ) (s : Span) → BeginsText tag_here s → string_of p entry size words ≡ text s
  text_taken words s h =
      let k : TextTaken tag_here s = subst (λ (x : Span). TextTaken tag_here x) (sym h.answer_is) (subst (λ (x : List ℕ). TextTaken x (span 8 (length h.string))) (sym h.is) (text_laid h.reserved h.string h.zeros h.cut)) in
      in_profile p entry size words inside (omega (arith, k.whole)) ∙ text_accepted tag_here s words k

  pub desc_taken : (words : ℕ) (s : Span) (u : Unicode) → BeginsDescription tag_here s u → string_of p entry size words ≡ desc s u
  desc_taken words s u h =
      let k : DescriptionTaken tag_here s u = desc_laid tag_here s u h in
      in_profile p entry size words inside (omega (arith, k.ascii.counted)) ∙ desc_accepted tag_here s u words k

  mluc_found : (ls : List Localized) → BeginsLocalized tag_here ls → records_in tag_here ≡ record { records = map placed ls; end = whole }
  mluc_found ls h = records_read_lem tag_here (map placed ls) (mluc_laid tag_here ls h)

  pub mluc_taken : (words : ℕ) (ls : List Localized) → BeginsLocalized tag_here ls → length ls * text_record_words ≤ words → string_of p entry size words ≡ mluc (length ls)
  unfolding localized_head
  mluc_taken words ls h room =
      let n : length (map placed ls) ≡ length ls = placed_length ls in
      let long : 8 ≤ length tag_here = omega (arith, ap length h.begins.is) in
      in_profile p entry size words inside long ∙ mluc_accepted tag_here (map placed ls) words (mluc_laid tag_here ls h) (omega (arith, n)) ∙ ap mluc n

  pub mluc_taken_left : (slots : List ℕ) (ls : List Localized) → BeginsLocalized tag_here ls → length ls * text_record_words ≤ length slots → slots_after p entry size slots ≡ localized_told ls ++ drop (length (localized_told ls)) slots
  mluc_taken_left slots ls h room =
      let words : words_in (records_in tag_here).records ≡ localized_told ls = ap (λ (r : RecordsRead). words_in r.records) (mluc_found ls h) ∙ words_told ls in
      ap (λ (a : Answer). slots_with a (words_in (records_in tag_here).records) slots) (mluc_taken (length slots) ls h room) ∙ ap (λ (ws : List ℕ). ws ++ drop (length ws) slots) words

  -- what the standards write is answered with what was written
  pub text_read : (words reserved : ℕ) (cs : List ℕ) → Ascii cs → tag_here ≡ text_type reserved (terminated cs) → string_of p entry size words ≡ text (span 8 (length cs))
  text_read words reserved cs h e = text_taken words (span 8 (length cs)) (text_begins tag_here reserved cs h e)

  pub desc_read : (words reserved : ℕ) (d : Description) (rest : List ℕ) → IsDescription d → tag_here ≡ text_description_type reserved d ++ rest → string_of p entry size words ≡ description_told d
  desc_read words reserved d rest h e = desc_taken words _ _ (desc_begins tag_here reserved d rest h e)

  pub mluc_read : (words : ℕ) (tag : LocalizedTag tag_here) → Asked tag → length tag.records * text_record_words ≤ words → string_of p entry size words ≡ mluc (length tag.records)
  mluc_read words tag h room = mluc_taken words tag.records (mluc_begins tag_here tag h) room

  pub mluc_slots : (slots : List ℕ) (tag : LocalizedTag tag_here) → Asked tag → length tag.records * text_record_words ≤ length slots → slots_after p entry size slots ≡ localized_told tag.records ++ drop (length (localized_told tag.records)) slots
  mluc_slots slots tag h room = mluc_taken_left slots tag.records (mluc_begins tag_here tag h) room

-- ---- and back

module _ (p : List ℕ) (b : Bytes p) (entry size : ℕ) where
  abbrev tag_read : List ℕ
  tag_read = tag_in p entry size

  here : Bytes tag_read
  here = part_bytes p b entry (counted_size size)

  record Answered (words : ℕ) (a : Answer) : Type 0 where
    inside : TextTagInside p entry size
    laid : Taken tag_read a
    as_tag : string_of p entry size words ≡ by_type tag_read words

  answered : (words : ℕ) (a : Answer) → Value a → string_of p entry size words ≡ a → Answered words a
  answered words a v e =
      let w = subst Value (sym e) v in
      let k = accepted p entry size words w in
      record { inside = k.tag_in_profile; laid = subst (Taken tag_read) e k.laid; as_tag = (found p entry size words w).as_tag }

  pub text_written : (words : ℕ) (s : Span) → string_of p entry size words ≡ text s → TextTagInside p entry size × BeginsText tag_read s
  text_written words s e = let k = answered words (text s) tt e in (k.inside, text_begun tag_read here s k.laid)

  pub desc_written : (words : ℕ) (s : Span) (u : Unicode) → string_of p entry size words ≡ desc s u → TextTagInside p entry size × BeginsDescription tag_read s u
  desc_written words s u e = let k = answered words (desc s u) tt e in (k.inside, desc_begun tag_read here s u k.laid)

  pub mluc_written : (slots : List ℕ) (n : ℕ) → string_of p entry size (length slots) ≡ mluc n → ReadLocalized p entry size n slots (slots_after p entry size slots)
  mluc_written slots n e =
      let k = answered (length slots) (mluc n) tt e in
      let rs : List PlacedString = (records_in tag_read).records in
      let words : words_in rs ≡ localized_told (localized_from tag_read 0 rs) = from_words tag_read 0 rs k.laid.taken.row in
      record {
        inside = k.inside;
        records = localized_from tag_read 0 rs;
        begins = mluc_begun tag_read here rs k.laid.taken;
        count_is = k.laid.count_is ∙ sym (from_length tag_read 0 rs);
        room = omega (arith, from_length tag_read 0 rs, mluc_room tag_read rs (length slots) n k.laid.taken (sym k.as_tag ∙ e));
        slots_are = ap (λ (a : Answer). slots_with a (words_in rs) slots) e ∙ ap (λ (ws : List ℕ). ws ++ drop (length ws) slots) words;
      }
