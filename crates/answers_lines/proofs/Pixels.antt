-- The line of an evaluation: the buffer is set, and each way out is a law of what the line says.
-- Assumes nothing.
use Prim.Native.Nat.{ℕ, ◌+◌, ◌≤◌, ◌<◌}
use native.Mathlib.Omega.{arith}
use mathlib.Core.Path.{◌≡◌, refl, sym, ap, ◌∙◌}
use mathlib.Core.Bool.{false, ◌||◌, not}
use mathlib.Core.List.{List, [], ◌∷◌, ◌++◌}
use Rattle.std.proofs.Common.{Option, Some, None}
use lib.ListN.{length, get_or, take, drop, set, replicate}
use lib.Seq.{sets}
use lib.Dec.{ltb, eqb}
use borrow.Author.Tests.{lt-ltb, ltb-false, eq-eqb, ne_eqb}
use Rattle.fields.specs.Bytes.{u16_at}
use Rattle.fields.specs.Place.{place_of, counted_size, counted_tag}
use Rattle.fields.specs.declared.Place.{Place}
use Rattle.fields.proofs.Choice.{each}
use Rattle.fields.proofs.Located.{past}
use Rattle.fields.proofs.Never.{never}
use Rattle.fields.proofs.Stores.{fill_begins, fill_turns, fill_ends}
use Rattle.curve_meaning.specs.declared.Walk.TheVariants.{Crate}
use Rattle.lut_meaning.specs.Lut.{lut_of}
use Rattle.lut_view_meaning.specs.declared.TableNumbers.{TableNumbers}
use Rattle.evaluate_meaning.specs.Answer.{Answer}
use Rattle.evaluate_meaning.specs.Evaluate.{no_table, pixel_answer, pixel_after}
use Rattle.lines.specs.Text.{Wrote, number, numbers}
use Rattle.lines.proofs.Writing.{joined}
use Rattle.export_words.specs.Exported.{only, always, Gave, GaveWith}
use Rattle.export_words.proofs.Telling.{was_told as was-told-words, was_told_slots}
use Rattle.export_lut.specs.Layout.{lut_layout, abm_layout, entry_layout, numbers_in}
use Rattle.export_evaluate.specs.Told.{status_of, GaveResults}
use Rattle.export_evaluate.proofs.Telling.{was_told}
use Rattle.answers_jobs.specs.Stream.{bytes_behind, at_most_eight, pixel_in, tail_of}
use Rattle.answers_jobs.specs.declared.StreamJob.{StreamJob}
use Rattle.answers_jobs.specs.declared.StreamTail.{StreamTail}
use Rattle.answers_meaning.specs.Line.{lut_exported_of, lut_words_after, layout_for, several, line_to, LineAndWords}
use Rattle.answers_meaning.specs.Pixel.{number_at, numbered, coordinates_in, pixel_text, pixel_line}
use Rattle.answers_meaning.specs.Text.{value_word, refused_text, exported_text, lent_text}
use Rattle.answers_meaning.proofs.Marks.{numbers_length, number_is}
use Rattle.answers_meaning.proofs.Room.{left_length}
use Rattle.answers_lines.proofs.Laws.{filled, few_lut, same_numbers}

-- ---- the buffer is set

module _ (n : ℕ) (l : List ℕ) (e : length l ≡ n) where
  pub number_begins : sets l 0 (drop 0 (numbered n)) ≡ numbered n
  number_begins = fill_begins (numbered n) l (e ∙ sym (numbers_length 0 n))

  pub number_turns : (i : ℕ) → i < length l → sets l i (drop i (numbered n)) ≡ numbered n → sets (set l i (number_at i)) (i + 1) (drop (i + 1) (numbered n)) ≡ numbered n
  number_turns i h w =
      let f : 0 + i ≡ i = omega arith in
      fill_turns (numbered n) l i (number_at i) (omega (arith, numbers_length 0 n)) (sym (number_is 0 n i (omega arith) ∙ ap number_at f)) w

  pub number_ends : (i : ℕ) → length l ≤ i → sets l i (drop i (numbered n)) ≡ numbered n → l ≡ numbered n
  number_ends i h w = fill_ends (numbered n) l i (omega (arith, numbers_length 0 n)) w

-- ---- the pieces of a text

pub results_put : (bs : List ℕ) (n : ℕ) {k l m o : List ℕ} {i j end : ℕ} → Wrote k l 0 i value_word → Wrote l m i j (number 0x20 n) → Wrote m o j end (numbers (take n bs)) → Wrote k o 0 end (value_word ++ number 0x20 n ++ numbers (take n bs))
results_put bs n u v w = joined u (joined v w)

pub buffer_put : (bs : List ℕ) {k l m : List ℕ} {at i end : ℕ} → Wrote k l at i (0x20 ∷ 0x7c ∷ []) → Wrote l m i end (numbers bs) → Wrote k m at end (lent_text bs)
unfolding lent_text
buffer_put bs u v = joined u v

-- ---- by the status of the evaluation

-- a status of 0 is that of results, as many as the table has outputs, for which there is room
status_value : (t : List ℕ) (n : TableNumbers) (xs : List ℕ) (room : ℕ) → 0 ≡ status_of (pixel_answer t n xs room) → (pixel_answer t n xs room ≡ Answer.value n.outputs) × (n.outputs ≤ room)
unfolding pixel_answer
status_value t n xs room =
    each P (no_table t n || not (eqb (length xs) n.inputs)) _ _ (λ _ z. absurd (omega (arith, z)))
    (λ _. each P (ltb room n.outputs) _ _ (λ _ z. absurd (omega (arith, z))) (λ enough _. (refl, omega (arith, ltb-false room n.outputs enough))))
  where
    P : Answer → Type 0
    P a = 0 ≡ status_of a → (a ≡ Answer.value n.outputs) × (n.outputs ≤ room)

status_refused : (a : Answer) (r : ℕ) → r ≡ status_of a → (r ≡ 0 → ⊥) → a ≡ Answer.refused r
status_refused (Answer.value n) r e z = absurd (z e)
status_refused (Answer.refused n) r e z = ap Answer.refused (sym e)

module _ (ws t xs b b' : List ℕ) (r : ℕ) (long : length ws ≡ 37) (g : GaveResults ws (pixel_answer t (numbers_in ws) xs (length b)) (pixel_after t (numbers_in ws) xs b) r b b') where
  told : (r ≡ status_of (pixel_answer t (numbers_in ws) xs (length b))) × (b' ≡ pixel_after t (numbers_in ws) xs b)
  told = was_told (omega (arith, long)) g

  pub results_fit : (n : TableNumbers) → n ≡ numbers_in ws → r ≡ 0 → n.outputs ≤ length b'
  results_fit n e z =
      let fits = (status_value t (numbers_in ws) xs (length b) (sym z ∙ told.0)).1 in
      let same : length b' ≡ length b = ap length told.1 ∙ left_length t (numbers_in ws) xs b in
      rw e (omega (arith, fits, same))

  pub pixel_value : (count : ℕ) (n : TableNumbers) {k m o : List ℕ} {i end : ℕ} → b ≡ numbered count → n ≡ numbers_in ws → r ≡ 0 → Wrote k m 0 i (value_word ++ number 0x20 n.outputs ++ numbers (take n.outputs b')) → Wrote m o i end (lent_text b') → Wrote k o 0 end (pixel_text ws t xs (numbered count))
  unfolding pixel_text
  pixel_value count n f e z u v =
      let answer = (status_value t (numbers_in ws) xs (length b) (sym z ∙ told.0)).0 in
      rw (← f, answer, ← told.1) (joined (rw e at u) v)

  pub pixel_refused_lem : (count : ℕ) {k l m o : List ℕ} {i j end : ℕ} → b ≡ numbered count → (r ≡ 0 → ⊥) → Wrote k l 0 i (0x72 ∷ 0x65 ∷ 0x66 ∷ 0x75 ∷ 0x73 ∷ 0x65 ∷ 0x64 ∷ []) → Wrote l m i j (number 0x20 r) → Wrote m o j end (lent_text b') → Wrote k o 0 end (pixel_text ws t xs (numbered count))
  unfolding pixel_text refused_text
  pixel_refused_lem count f z u v w =
      let answer = status_refused (pixel_answer t (numbers_in ws) xs (length b)) r told.0 z in
      rw (← f, answer, ← told.1) (joined (joined u v) w)

-- ---- the coordinates behind the profile

pub pixel_behind : (ws t b buffer : List ℕ) (n : ℕ) {k o : List ℕ} {end : ℕ} (x₁ x₂ x₃ x₄ x₅ x₆ x₇ x₈ : ℕ) → x₁ ≡ u16_at b 1 → x₂ ≡ u16_at b 3 → x₃ ≡ u16_at b 5 → x₄ ≡ u16_at b 7 → x₅ ≡ u16_at b 9 → x₆ ≡ u16_at b 11 → x₇ ≡ u16_at b 13 → x₈ ≡ u16_at b 15 → Wrote k o 0 end (pixel_text ws t (take n (x₁ ∷ x₂ ∷ x₃ ∷ x₄ ∷ x₅ ∷ x₆ ∷ x₇ ∷ x₈ ∷ [])) buffer) → Wrote k o 0 end (pixel_text ws t (take n (coordinates_in b)) buffer)
pixel_behind ws t b buffer n x₁ x₂ x₃ x₄ x₅ x₆ x₇ x₈ e₁ e₂ e₃ e₄ e₅ e₆ e₇ e₈ w = rw (e₁, e₂, e₃, e₄, e₅, e₆, e₇, e₈) at w

-- eight coordinates count at most
eight : (n : ℕ) → at_most_eight n ≤ 8
eight n = each (λ (x : ℕ). x ≤ 8) (ltb 8 n) _ _ (λ _. omega arith) (λ few. omega (arith, ltb-false 8 n few))

pub count_most : (reader count room : ℕ) (b : List ℕ) → tail_of reader b ≡ Some (StreamTail.Pixel count room) → count ≤ 8
unfolding tail_of pixel_in
count_most reader count room b =
    each P (ltb reader 1) _ _ (λ _ e. never cc)
    (λ _. each P (ltb 14 reader) _ _ (λ _ e. never cc)
    (λ _. each P (ltb reader 13) _ _ (λ _ e. never cc)
    (λ _. each P (ltb (length b) (bytes_behind reader)) _ _ (λ _ e. never cc)
    (λ _. each P (eqb reader 14) _ _
    (λ _. each P (ltb 512 (u16_at b 17)) _ _ (λ _ e. never cc) (λ _ e. let q : at_most_eight (get_or b 0 0) ≡ count = cc in omega (arith, q, eight (get_or b 0 0))))
    (λ _ e. never cc)))))
  where
    P : Option StreamTail → Type 0
    P x = x ≡ Some (StreamTail.Pixel count room) → count ≤ 8

-- ---- the line

-- a status that is no value's has the same text, whatever the words
no_value : (r : ℕ) (ws : List ℕ) → (r ≡ 0 → ⊥) → exported_text (several 14) (layout_for 14) record { status = r; words = ws } ≡ exported_text false (always entry_layout) (only r)
unfolding exported_text
no_value r ws z = simp (ne_eqb _ _ z)

same_pixel : (a b t xs buffer : List ℕ) → numbers_in a ≡ numbers_in b → pixel_text a t xs buffer ≡ pixel_text b t xs buffer
unfolding pixel_text
same_pixel a b t xs buffer e = rw e

module _ (job : StreamJob) (p w b : List ℕ) (count room : ℕ) {r : ℕ} {table w' : List ℕ} (g : GaveWith lut_layout abm_layout.words (lut_exported_of job p w Crate) (lut_words_after job p w Crate) r (replicate 37 0) table w w') where
  told_lut : Gave lut_layout (lut_exported_of job p w Crate) r (replicate 37 0) table
  told_lut = was-told-words _ (omega arith) g.gave

  -- no value: its status
  pub pixel_status : {k m o : List ℕ} {i end : ℕ} → (r ≡ 0 → ⊥) → Wrote k m 0 i (exported_text (several 14) (layout_for 14) record { status = r; words = table }) → Wrote m o i end (0x0a ∷ []) → LineAndWords (line_to (Some (StreamTail.Pixel count room)) job p w b) k o w' end
  unfolding pixel_line
  pixel_status z u v =
      record {
        written = rw (← told_lut.status_is, ne_eqb _ _ z, ← no_value r table z) (joined u v);
        words_are = was_told_slots _ (omega arith) g;
      }

  -- a value is of a tag in the profile
  pub pixel_lost : (place : Option Place) (end : ℕ) (k : List ℕ) → end ≡ counted_size job.size → place ≡ place_of (length p) job.offset end → place ≡ None → r ≡ 0 → LineAndWords (line_to (Some (StreamTail.Pixel count room)) job p w b) k k w' 0
  unfolding lut_of
  pixel_lost place end k c h e z =
      let s : (lut_exported_of job p w Crate).status ≡ 1 = rw (← c, lt-ltb _ _ (past _ _ _ h e)) in
      absurd (omega (arith, told_lut.status_is, z, s))

  -- and then the pixel
  pub pixel_ends : (t : List ℕ) (given : ℕ) {k m o : List ℕ} {i end : ℕ} → r ≡ 0 → given ≡ room → t ≡ counted_tag p job.offset job.size → Wrote k m 0 i (pixel_text table t (take count (coordinates_in b)) (numbered given)) → Wrote m o i end (0x0a ∷ []) → LineAndWords (line_to (Some (StreamTail.Pixel count room)) job p w b) k o w' end
  unfolding pixel_line
  pixel_ends t given z f e u v =
      let ws : List ℕ = (lut_exported_of job p w Crate).words in
      let status : (lut_exported_of job p w Crate).status ≡ 0 = sym told_lut.status_is ∙ z in
      let most : length ws ≤ 37 = omega (arith, told_lut.as_laid_out status, few_lut (get_or ws 0 0)) in
      let numbers : numbers_in table ≡ numbers_in ws = rw told_lut.out_is (same_numbers _ ws (filled ws most)) in
      record {
        written = rw (eq-eqb _ _ status, ← e, ← same_pixel table ws t (take count (coordinates_in b)) (numbered room) numbers) (joined (rw f at u) v);
        words_are = was_told_slots _ (omega arith) g;
      }
