-- The pieces of a line make the whole, and each way out is a law of what is told.
-- Assumes nothing.
use Prim.Native.Nat.{ℕ, zero, suc, ◌+◌, ◌-◌, ◌/◌, ◌%◌, ◌≤◌, ◌<◌}
use native.Mathlib.Omega.{arith}
use mathlib.Core.Path.{◌≡◌, refl, sym, ap, ◌∙◌}
use mathlib.Core.Bool.{Bool, true, false, cond, ◌||◌}
use mathlib.Core.List.{List, [], ◌∷◌, ◌++◌}
use Rattle.std.proofs.Common.{Option, Some, None}
use mathlib.Core.Logic.{◌⊎◌, inl, inr}
use lib.ListN.{length, get_or, take, drop, set, replicate}
use lib.Seq.{sets, length-sets, take-append-le}
use lib.Dec.{ltb, eqb}
use borrow.Author.Tests.{lt-ltb, ltb-false, eqb-true, eqb-false, eq-eqb, ne_eqb}
use Rattle.fields.proofs.Choice.{each}
use Rattle.fields.specs.Bytes.{u16_at}
use Rattle.fields.specs.Place.{place_of, counted_size, counted_tag}
use Rattle.fields.specs.declared.Place.{Place}
use Rattle.fields.proofs.Located.{past, part_is}
use Rattle.fields.proofs.Never.{never}
use Rattle.lut_meaning.specs.Lut.{lut_of}
use Rattle.lut_view_meaning.specs.View.{table_by, entry_of}
use Rattle.answers_jobs.specs.Stream.{bytes_behind, pixel_in, index_in, tail_of}
use Rattle.answers_jobs.specs.declared.StreamTail.{StreamTail}
use Rattle.answers_lines.specs.View.{ViewAndWords}
use Rattle.fields.proofs.Stores.{front, fill_begins, fill_turns, fill_ends}
use Rattle.lines.specs.Text.{Wrote, number, numbers, row_from, word_text}
use Rattle.lines.proofs.Writing.{joined, nothing}
use Rattle.curve_meaning.specs.declared.Walk.TheVariants.{Crate, Book}
use Rattle.small_meaning.specs.Small.{chad_of, sig_of, date_of, meas_of, view_of, xyz_of, cicp_of}
use Rattle.text_meaning.specs.Text.{string_of, slots_after as Text·slotsAfter}
use Rattle.export_words.specs.Exported.{Exported, always, within, Gave, GaveWith}
use Rattle.export_words.specs.declared.Layout.{Layout}
use Rattle.export_words.proofs.Telling.{in_front_lem, no_words, enough, was_told, was_told_slots}
use Rattle.export_curve.specs.Layout.{curve_layout}
use Rattle.export_lut.specs.Layout.{lut_layout, abm_layout, entry_exported, entry_layout, numbers_in}
use Rattle.export_small.specs.Layout.{small_exported, chad_layout, sig_layout, date_layout, meas_layout, view_layout, xyz_layout, cicp_layout}
use Rattle.export_text.specs.Layout.{text_exported, string_layout, desc_layout}
use Rattle.answers_jobs.specs.declared.StreamIndex.{StreamIndex}
use Rattle.answers_jobs.specs.declared.StreamJob.{StreamJob}
use Rattle.answers_meaning.specs.Line.{mark_at, marked, entry_exported_at, view_exported, lut_exported_of, lut_words_after, curve_exported_of, exported_of, words_after, layout_for, several, line_to, line_of, ExportedAndWords, LineAndWords}
use Rattle.answers_meaning.specs.Text.{value_word, absent_word, default_word, name_text, words_text, exported_text, refused_text, lent_text}
use Rattle.answers_meaning.proofs.Marks.{marks_length, mark_is}

-- ---- the words lent are set

module _ (n : ℕ) (l : List ℕ) (e : length l ≡ n) where
  pub mark_begins : sets l 0 (drop 0 (marked n)) ≡ marked n
  mark_begins = fill_begins (marked n) l (e ∙ sym (marks_length 0 n))

  pub mark_turns : (i : ℕ) → i < length l → sets l i (drop i (marked n)) ≡ marked n → sets (set l i (mark_at i)) (i + 1) (drop (i + 1) (marked n)) ≡ marked n
  mark_turns i h w =
      let f : 0 + i ≡ i = omega arith in
      fill_turns (marked n) l i (mark_at i) (omega (arith, marks_length 0 n)) (sym (mark_is 0 n i (omega arith) ∙ ap mark_at f)) w

  pub mark_ends : (i : ℕ) → length l ≤ i → sets l i (drop i (marked n)) ≡ marked n → l ≡ marked n
  mark_ends i h w = fill_ends (marked n) l i (omega (arith, marks_length 0 n)) w

-- ---- what the exported functions tell, with room for the longest layout

module _ (job : StreamJob) (p w b : List ℕ) (index : StreamIndex) {r : ℕ} {out out' : List ℕ} (h : length out ≡ 37) where
  pub asked_1 : {words' : List ℕ} → job.reader ≡ 1 → GaveWith lut_layout abm_layout.words (lut_exported_of job p w Crate) (lut_words_after job p w Crate) r out out' w words' → ExportedAndWords job p w b index r out out' words'
  unfolding exported_of layout_for words_after
  asked_1 e g = record { gave = rw e (was_told _ (omega arith) g.gave); words_are = rw e (was_told_slots _ (omega arith) g) }

  pub asked_11 : {words' : List ℕ} → job.reader ≡ 11 → GaveWith lut_layout abm_layout.words (lut_exported_of job p w Book) (lut_words_after job p w Book) r out out' w words' → ExportedAndWords job p w b index r out out' words'
  unfolding exported_of layout_for words_after
  asked_11 e g = record { gave = rw e (was_told _ (omega arith) g.gave); words_are = rw e (was_told_slots _ (omega arith) g) }

  pub asked_3 : {words' : List ℕ} → job.reader ≡ 3 → GaveWith string_layout desc_layout.words (text_exported (string_of p job.offset job.size (length w))) (Text·slotsAfter p job.offset job.size w) r out out' w words' → ExportedAndWords job p w b index r out out' words'
  unfolding exported_of layout_for words_after
  asked_3 e g = record { gave = rw e (was_told _ (omega arith) g.gave); words_are = rw e (was_told_slots _ (omega arith) g) }

  pub asked_2 : job.reader ≡ 2 → Gave (always curve_layout) (within curve_layout.words out (curve_exported_of job p w Crate)) r out out' → ExportedAndWords job p w b index r out out' w
  unfolding exported_of layout_for words_after
  asked_2 e g = record { gave = rw e (was_told _ (omega arith) g); words_are = rw e }

  pub asked_12 : job.reader ≡ 12 → Gave (always curve_layout) (within curve_layout.words out (curve_exported_of job p w Book)) r out out' → ExportedAndWords job p w b index r out out' w
  unfolding exported_of layout_for words_after
  asked_12 e g = record { gave = rw e (was_told _ (omega arith) g); words_are = rw e }

  pub asked_4 : job.reader ≡ 4 → Gave (always chad_layout) (within chad_layout.words out (small_exported (chad_of p job.offset job.size))) r out out' → ExportedAndWords job p w b index r out out' w
  unfolding exported_of layout_for words_after
  asked_4 e g = record { gave = rw e (was_told _ (omega arith) g); words_are = rw e }

  pub asked_5 : job.reader ≡ 5 → Gave (always sig_layout) (within sig_layout.words out (small_exported (sig_of p job.offset job.size))) r out out' → ExportedAndWords job p w b index r out out' w
  unfolding exported_of layout_for words_after
  asked_5 e g = record { gave = rw e (was_told _ (omega arith) g); words_are = rw e }

  pub asked_6 : job.reader ≡ 6 → Gave (always date_layout) (within date_layout.words out (small_exported (date_of p job.offset job.size))) r out out' → ExportedAndWords job p w b index r out out' w
  unfolding exported_of layout_for words_after
  asked_6 e g = record { gave = rw e (was_told _ (omega arith) g); words_are = rw e }

  pub asked_7 : job.reader ≡ 7 → Gave (always meas_layout) (within meas_layout.words out (small_exported (meas_of p job.offset job.size))) r out out' → ExportedAndWords job p w b index r out out' w
  unfolding exported_of layout_for words_after
  asked_7 e g = record { gave = rw e (was_told _ (omega arith) g); words_are = rw e }

  pub asked_8 : job.reader ≡ 8 → Gave (always view_layout) (within view_layout.words out (small_exported (view_of p job.offset job.size))) r out out' → ExportedAndWords job p w b index r out out' w
  unfolding exported_of layout_for words_after
  asked_8 e g = record { gave = rw e (was_told _ (omega arith) g); words_are = rw e }

  pub asked_9 : job.reader ≡ 9 → Gave (always xyz_layout) (within xyz_layout.words out (small_exported (xyz_of p job.offset job.size))) r out out' → ExportedAndWords job p w b index r out out' w
  unfolding exported_of layout_for words_after
  asked_9 e g = record { gave = rw e (was_told _ (omega arith) g); words_are = rw e }

  pub asked_10 : job.reader ≡ 10 → Gave (always cicp_layout) (within cicp_layout.words out (small_exported (cicp_of p job.offset job.size))) r out out' → ExportedAndWords job p w b index r out out' w
  unfolding exported_of layout_for words_after
  asked_10 e g = record { gave = rw e (was_told _ (omega arith) g); words_are = rw e }

-- another reader tells of an absence
pub asked_none : (job : StreamJob) (p w b : List ℕ) (index : StreamIndex) (out : List ℕ) → (job.reader < 1) ⊎ (13 < job.reader) → ExportedAndWords job p w b index 100 out out w
unfolding exported_of layout_for words_after
asked_none job p w b index out o =
    let r = job.reader in
    let no : (k : ℕ) → 1 ≤ k → k ≤ 13 → eqb r k ≡ false = λ k low high. ne_eqb r k (λ e. elim o [ inl h ↦ omega arith | inr h ↦ omega arith ]) in
    record {
      gave = rw (no 1 (omega arith) (omega arith), no 2 (omega arith) (omega arith), no 3 (omega arith) (omega arith), no 4 (omega arith) (omega arith), no 5 (omega arith) (omega arith), no 6 (omega arith) (omega arith), no 7 (omega arith) (omega arith), no 8 (omega arith) (omega arith), no 9 (omega arith) (omega arith), no 10 (omega arith) (omega arith), no 11 (omega arith) (omega arith), no 12 (omega arith) (omega arith), no 13 (omega arith) (omega arith)) (no_words 100 100 out refl (λ e. omega arith));
      words_are = rw (no 1 (omega arith) (omega arith), no 13 (omega arith) (omega arith), no 11 (omega arith) (omega arith), no 3 (omega arith) (omega arith));
    }

-- ---- the pieces of a text

pub name_short : (s a₃ a₂ a₁ : ℕ) {l m : List ℕ} {at end : ℕ} → a₃ ≡ s / 0x100_0000 % 256 → a₂ ≡ s / 0x1_0000 % 256 → a₁ ≡ s / 0x100 % 256 → s % 256 ≡ 0x20 → Wrote l m at end (0x20 ∷ a₃ ∷ a₂ ∷ a₁ ∷ []) → Wrote l m at end (name_text s)
unfolding name_text
name_short s a₃ a₂ a₁ e₃ e₂ e₁ e v = rw (eq-eqb _ _ e, ← e₃, ← e₂, ← e₁) v

pub name_long : (s a₃ a₂ a₁ a₀ : ℕ) {l m : List ℕ} {at end : ℕ} → a₃ ≡ s / 0x100_0000 % 256 → a₂ ≡ s / 0x1_0000 % 256 → a₁ ≡ s / 0x100 % 256 → a₀ ≡ s % 256 → (s % 256 ≡ 0x20 → ⊥) → Wrote l m at end (0x20 ∷ a₃ ∷ a₂ ∷ a₁ ∷ a₀ ∷ []) → Wrote l m at end (name_text s)
unfolding name_text
name_long s a₃ a₂ a₁ a₀ e₃ e₂ e₁ e₀ e v = rw (ne_eqb _ _ e, ← e₃, ← e₂, ← e₁, ← e₀) v

module _ (named : Bool) (l : Layout) (first : ℕ) (ws : List ℕ) {k o : List ℕ} {at end : ℕ} where
  pub value_named : {m : List ℕ} {mid : ℕ} → named ≡ true → Wrote k m at mid (name_text first) → Wrote m o mid end (row_from (word_text l.from l.to) 1 (drop 1 ws)) → Wrote k o at end (words_text named l first ws)
  unfolding words_text
  value_named e u v = rw e (joined u v)

  pub value_plain : named ≡ false → Wrote k o at end (row_from (word_text l.from l.to) 0 (drop 0 ws)) → Wrote k o at end (words_text named l first ws)
  unfolding words_text
  value_plain e v = rw e v

module _ (shown : Bool) (ws : List ℕ) {k m o : List ℕ} {at mid end : ℕ} where
  pub lent_shown : shown ≡ true → Wrote k m at mid (0x20 ∷ 0x7c ∷ []) → Wrote m o mid end (numbers ws) → Wrote k o at end (cond shown (lent_text ws) [])
  unfolding lent_text
  lent_shown e u v = rw e (joined u v)

pub lent_hidden : (shown : Bool) (ws k : List ℕ) (at : ℕ) → shown ≡ false → Wrote k k at at (cond shown (lent_text ws) [])
lent_hidden shown ws k at e = rw e (nothing k at)

-- ---- by the status

-- no layout has more than 37 words
pub few_lut : (first : ℕ) → (lut_layout first).words ≤ 37
unfolding lut_layout
few_lut first =
    each (λ (l : Layout). l.words ≤ 37) (eqb first _) _ _ (λ _. omega arith)
    (λ _. each (λ (l : Layout). l.words ≤ 37) (eqb first _) _ _ (λ _. omega arith) (λ _. omega arith))

few_string : (first : ℕ) → (string_layout first).words ≤ 37
unfolding string_layout
few_string first =
    each (λ (l : Layout). l.words ≤ 37) (eqb first _) _ _ (λ _. omega arith)
    (λ _. each (λ (l : Layout). l.words ≤ 37) (eqb first _) _ _ (λ _. omega arith) (λ _. omega arith))

pub few : (r first : ℕ) → (layout_for r first).words ≤ 37
unfolding layout_for
few r first =
    let P : Layout → Type 0 = λ l. l.words ≤ 37 in
    each P (eqb r 1 || eqb r 11) _ _ (λ _. few_lut first)
    (λ _. each P (eqb r 2 || eqb r 12) _ _ (λ _. omega arith)
    (λ _. each P (eqb r 3) _ _ (λ _. few_string first)
    (λ _. each P (eqb r 4) _ _ (λ _. omega arith)
    (λ _. each P (eqb r 5) _ _ (λ _. omega arith)
    (λ _. each P (eqb r 6) _ _ (λ _. omega arith)
    (λ _. each P (eqb r 7) _ _ (λ _. omega arith)
    (λ _. each P (eqb r 8) _ _ (λ _. omega arith)
    (λ _. each P (eqb r 9) _ _ (λ _. omega arith)
    (λ _. each P (eqb r 10) _ _ (λ _. omega arith) (λ _. omega arith))))))))))

pub few_out : (reader first : ℕ) (l : Layout) (out : List ℕ) → l ≡ layout_for reader first → length out ≡ 37 → l.words ≤ length out
few_out reader first l out e h =
    let same : l.words ≡ (layout_for reader first).words = ap (λ (x : Layout). x.words) e in
    omega (arith, same, h, few reader first)

module _ (reader status : ℕ) (out : List ℕ) {k o : List ℕ} {end : ℕ} where
  pub answer_value : {m : List ℕ} {mid : ℕ} (l : Layout) (named : Bool) → status ≡ 0 → l ≡ layout_for reader (get_or out 0 0) → named ≡ several reader → Wrote k m 0 mid value_word → Wrote m o mid end (words_text named l (get_or out 0 0) (take l.words out)) → Wrote k o 0 end (exported_text (several reader) (layout_for reader) record { status = status; words = out })
  unfolding exported_text
  answer_value l named e f g u v = rw (eq-eqb _ _ e, ← f, ← g) (joined u v)

  pub answer_absent : status ≡ 100 → Wrote k o 0 end absent_word → Wrote k o 0 end (exported_text (several reader) (layout_for reader) record { status = status; words = out })
  unfolding exported_text
  answer_absent e u = rw e u

  pub answer_default : status ≡ 101 → Wrote k o 0 end default_word → Wrote k o 0 end (exported_text (several reader) (layout_for reader) record { status = status; words = out })
  unfolding exported_text
  answer_default e u = rw e u

  pub answer_refused : {m : List ℕ} {mid : ℕ} → (status ≡ 0 → ⊥) → (status ≡ 100 → ⊥) → (status ≡ 101 → ⊥) → Wrote k m 0 mid (0x72 ∷ 0x65 ∷ 0x66 ∷ 0x75 ∷ 0x73 ∷ 0x65 ∷ 0x64 ∷ []) → Wrote m o mid end (number 0x20 status) → Wrote k o 0 end (exported_text (several reader) (layout_for reader) record { status = status; words = out })
  unfolding exported_text refused_text
  answer_refused n0 n100 n101 u v = simp (ne_eqb _ _ n0, ne_eqb _ _ n100, ne_eqb _ _ n101) (joined u v)

-- ---- the table view

no_word : (m j : ℕ) → ◌≡◌ {A = ℕ} (get_or (replicate m 0) j 0) 0
no_word zero j = refl
no_word (suc m) zero = refl
no_word (suc m) (suc j) = no_word m j

none_behind : (n m j : ℕ) → ◌≡◌ {A = ℕ} (get_or (drop n (replicate m 0)) j 0) 0
none_behind zero m j = no_word m j
none_behind (suc n) zero j = refl
none_behind (suc n) (suc m) j = none_behind n m j

word_in_front : (ws zs : List ℕ) (i : ℕ) → ((j : ℕ) → get_or zs j 0 ≡ 0) → get_or (ws ++ zs) i 0 ≡ get_or ws i 0
word_in_front [] zs i z = z i
word_in_front (x ∷ ws) zs zero z = refl
word_in_front (x ∷ ws) zs (suc i) z = word_in_front ws zs i z

-- words in front of zeros are read as they are
pub filled : (ws : List ℕ) → length ws ≤ 37 → (i : ℕ) → get_or (sets (replicate 37 0) 0 ws) i 0 ≡ get_or ws i 0
filled ws h i = rw (← front (replicate 37 0) ws (length ws) refl h) (word_in_front ws (drop (length ws) (replicate 37 0)) i (none_behind (length ws) 37))

pub same_numbers : (a b : List ℕ) → ((i : ℕ) → get_or a i 0 ≡ get_or b i 0) → numbers_in a ≡ numbers_in b
unfolding numbers_in
same_numbers a b h = rw (h 0, h 1, h 2, h 17, h 31, h 33)

same_entry : (a b t behind : List ℕ) (index : StreamIndex) → numbers_in a ≡ numbers_in b → entry_exported_at a t behind index ≡ entry_exported_at b t behind index
unfolding entry_exported_at
same_entry a b t behind (StreamIndex.At n channel) e = rw e
same_entry a b t behind StreamIndex.TooMany e = refl
same_entry a b t behind StreamIndex.Nothing e = refl

view_bytes : (r : ℕ) → ltb 14 r ≡ false → ltb r 13 ≡ false → eqb r 14 ≡ false → bytes_behind r ≡ 18
unfolding bytes_behind
view_bytes r high low other =
    let differs = eqb-false r 14 other in
    let e : r ≡ 13 = omega (arith, ltb-false 14 r high, ltb-false r 13 low, differs) in
    rw e

-- a job's coordinates are there
pub tail_room : (reader : ℕ) (b : List ℕ) (index : StreamIndex) (n channel : ℕ) → tail_of reader b ≡ Some (StreamTail.Index index) → index ≡ StreamIndex.At n channel → 1 + n ≤ length b
unfolding tail_of pixel_in index_in
tail_room reader b index n channel t f =
    each P (ltb reader 1) _ _ (λ _ e. never cc)
    (λ _. each P (ltb 14 reader) _ _ (λ _ e. never cc)
    (λ high. each P (ltb reader 13) _ _ (λ _ e. never cc)
    (λ low. each P (ltb (length b) (bytes_behind reader)) _ _ (λ _ e. never cc)
    (λ long. each P (eqb reader 14) _ _
    (λ _. each P (ltb 512 (u16_at b 17)) _ _ (λ _ e. never cc) (λ _ e. never cc))
    (λ other. each (λ i. P (Some (StreamTail.Index i))) (ltb 16 (get_or b 0 0)) _ _ (λ _ e. never cc)
    (λ few e. let q : get_or b 0 0 ≡ n = cc in omega (arith, view_bytes reader high low other, ltb-false (length b) (bytes_behind reader) long, ltb-false 16 (get_or b 0 0) few))))))) (t ∙ ap (λ i. Some (StreamTail.Index i)) f)
  where
    P : Option StreamTail → Type 0
    P x = x ≡ Some (StreamTail.Index (StreamIndex.At n channel)) → 1 + n ≤ length b

-- the entry by the numbers that the words tell
pub entry_at : (t b ws : List ℕ) (index : StreamIndex) (n channel : ℕ) {r : ℕ} {out out' : List ℕ} → length out ≡ 37 → length ws ≡ 37 → index ≡ StreamIndex.At n channel → Gave (always entry_layout) (within entry_layout.words out (within abm_layout.words ws (entry_exported (entry_of t (table_by t (numbers_in ws)) (take ((1 + n) - 1) (drop 1 b)) channel)))) r out out' → Gave (always entry_layout) (entry_exported_at ws t b index) r out out'
unfolding entry_exported_at
entry_at t b ws index n channel h w e g =
    let answer : Exported = entry_exported (entry_of t (table_by t (numbers_in ws)) (take ((1 + n) - 1) (drop 1 b)) channel) in
    rw (e, ← part_is b 1 n) (rw (enough abm_layout.words ws answer (omega (arith, w))) at (was_told _ (omega arith) g))

module _ (job : StreamJob) (p w b : List ℕ) (index : StreamIndex) {r : ℕ} {table w' : List ℕ} (g : GaveWith lut_layout abm_layout.words (lut_exported_of job p w Crate) (lut_words_after job p w Crate) r (replicate 37 0) table w w') where
  told : Gave lut_layout (lut_exported_of job p w Crate) r (replicate 37 0) table
  told = was_told _ (omega arith) g.gave

  -- no value: its status
  pub view_status : (out : List ℕ) → (r ≡ 0 → ⊥) → ViewAndWords job p w b index r out out w'
  unfolding view_exported
  view_status out n =
      record { gave = rw (← told.status_is, ne_eqb _ _ n) (no_words r r out refl n); words_are = was_told_slots _ (omega arith) g }

  -- a value is of a tag in the profile
  pub view_lost : (place : Option Place) (end : ℕ) (out : List ℕ) → end ≡ counted_size job.size → place ≡ place_of (length p) job.offset end → place ≡ None → r ≡ 0 → ViewAndWords job p w b index 100 out out w'
  unfolding lut_of
  view_lost place end out c h e z =
      let k : (lut_exported_of job p w Crate).status ≡ 1 = rw (← c, lt-ltb _ _ (past _ _ _ h e)) in
      absurd (omega (arith, told.status_is, z, k))

  -- and then the entry
  pub view_entry : {s : ℕ} {out out' t : List ℕ} → r ≡ 0 → t ≡ counted_tag p job.offset job.size → Gave (always entry_layout) (entry_exported_at table t b index) s out out' → ViewAndWords job p w b index s out out' w'
  unfolding view_exported
  view_entry {s} {out} {out'} {t} z e h =
      let ws : List ℕ = (lut_exported_of job p w Crate).words in
      let status : (lut_exported_of job p w Crate).status ≡ 0 = sym told.status_is ∙ z in
      let most : length ws ≤ 37 = omega (arith, told.as_laid_out status, few_lut (get_or ws 0 0)) in
      let numbers : numbers_in table ≡ numbers_in ws = rw told.out_is (same_numbers _ ws (filled ws most)) in
      record { gave = rw (eq-eqb _ _ status, ← e, ← same_entry table ws t b index numbers) h; words_are = was_told_slots _ (omega arith) g }

pub asked_13 : (job : StreamJob) (p w b : List ℕ) (index : StreamIndex) {r : ℕ} {out out' words' : List ℕ} → job.reader ≡ 13 → ViewAndWords job p w b index r out out' words' → ExportedAndWords job p w b index r out out' words'
unfolding exported_of layout_for words_after
asked_13 job p w b index e v = record { gave = rw e v.gave; words_are = rw e v.words_are }

-- ---- a line

-- what stands in a row of zeros is printed as what was told
same_text : (reader : ℕ) (e : Exported) (r : ℕ) (out : List ℕ) → Gave (layout_for reader) e r (replicate 37 0) out → exported_text (several reader) (layout_for reader) record { status = r; words = out } ≡ exported_text (several reader) (layout_for reader) e
unfolding exported_text
same_text reader e r out g = by (eqb e.status 0) refl
  where
    ws : List ℕ
    ws = e.words

    by : (b : Bool) → eqb e.status 0 ≡ b → exported_text (several reader) (layout_for reader) record { status = r; words = out } ≡ exported_text (several reader) (layout_for reader) e
    by true z =
        let laid : length ws ≡ (layout_for reader (get_or ws 0 0)).words = g.as_laid_out (eqb-true _ _ z) in
        let most : length ws ≤ 37 = omega (arith, laid, few reader (get_or ws 0 0)) in
        let first : get_or out 0 0 ≡ get_or ws 0 0 = rw g.out_is (filled ws most 0) in
        let cut : take (length ws) out ≡ take (length ws) ws = rw (in_front_lem most g) (take-append-le (length ws) ws _ (omega arith)) in
        rw (g.status_is, first, ← laid, cut)
    by false z = rw (g.status_is, z)

-- the row keeps its length
pub told_length : {job : StreamJob} {p w b : List ℕ} {index : StreamIndex} {r : ℕ} {out w' : List ℕ} → ExportedAndWords job p w b index r (replicate 37 0) out w' → length out ≡ 37
told_length {job} {p} {w} {b} {index} a =
    let zeros : List ℕ = replicate 37 0 in
    ap length a.gave.out_is ∙ length-sets zeros 0 (exported_of job p w b index).words

pub line_ends : (job : StreamJob) (p w b : List ℕ) {index : StreamIndex} {r : ℕ} {out w' k l o q : List ℕ} {i j end : ℕ} {shown : Bool} → ExportedAndWords job p w b index r (replicate 37 0) out w' → shown ≡ several job.reader → Wrote k l 0 i (exported_text (several job.reader) (layout_for job.reader) record { status = r; words = out }) → Wrote l o i j (cond shown (lent_text w') []) → Wrote o q j end (0x0a ∷ []) → LineAndWords (line_to (Some (StreamTail.Index index)) job p w b) k q w' end
line_ends job p w b {index} {r} {out} a s u v x =
    let told = same_text job.reader (exported_of job p w b index) r out a.gave in
    record { written = rw (← told, ← a.words_are) (joined (joined u (rw s at v)) x); words_are = a.words_are }

-- the line of a job is that of what stands behind its profile
module _ (job : StreamJob) (p b : List ℕ) (n : ℕ) {w : List ℕ} {tail : Option StreamTail} (m : w ≡ marked n) (t : tail ≡ tail_of job.reader b) where
  pub asks : {index : StreamIndex} → tail ≡ Some (StreamTail.Index index) → tail_of job.reader b ≡ Some (StreamTail.Index index)
  asks e = sym t ∙ e

  pub asks_pixel : {count room : ℕ} → tail ≡ Some (StreamTail.Pixel count room) → tail_of job.reader b ≡ Some (StreamTail.Pixel count room)
  asks_pixel e = sym t ∙ e

  pub no_line : (k : List ℕ) → tail ≡ None → LineAndWords (line_of job p b n) k k w 0
  unfolding line_of
  no_line k e = record { written = rw (← t, e) (nothing k 0); words_are = rw (← t, e) m }

  line_of_lem : (x : Option StreamTail) {k q w' : List ℕ} {end : ℕ} → tail ≡ x → LineAndWords (line_to x job p w b) k q w' end → LineAndWords (line_of job p b n) k q w' end
  unfolding line_of
  line_of_lem x e g = rw (← t, e, ← m) g

  pub line_of_reader : (index : StreamIndex) {k q w' : List ℕ} {end : ℕ} → tail ≡ Some (StreamTail.Index index) → LineAndWords (line_to (Some (StreamTail.Index index)) job p w b) k q w' end → LineAndWords (line_of job p b n) k q w' end
  line_of_reader index e g = line_of_lem (Some (StreamTail.Index index)) e g

  pub line_of_pixel : (count room : ℕ) {k q w' : List ℕ} {end : ℕ} → tail ≡ Some (StreamTail.Pixel count room) → LineAndWords (line_to (Some (StreamTail.Pixel count room)) job p w b) k q w' end → LineAndWords (line_of job p b n) k q w' end
  line_of_pixel count room e g = line_of_lem (Some (StreamTail.Pixel count room)) e g
