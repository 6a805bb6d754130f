-- The buffer of `answers` has room for every line.
-- Assumes nothing.
use Prim.Native.Nat.{ℕ, zero, suc, ◌+◌, ◌*◌, ◌%◌, ◌≤◌}
use native.Mathlib.Omega.{arith}
use mathlib.Core.Path.{◌≡◌, refl, ap, ◌∙◌}
use mathlib.Core.Bool.{Bool, true, false, ◌||◌, not, cond}
use mathlib.Core.List.{List, [], ◌∷◌}
use Rattle.std.proofs.Common.{Option, Some, None}
use lib.Dec.{eqb, ltb}
use borrow.Author.Tests.{ltb-false}
use lib.ListN.{length, get_or, take, drop, length-append, length-take, length-drop}
use Rattle.fields.specs.Bytes.{u16_at}
use Rattle.fields.specs.Place.{counted_tag}
use Rattle.fields.specs.Tag.{signature_of}
use Rattle.fields.specs.declared.Kind.TheVariants.{Mft1, Mft2, Desc, Text}
use Rattle.fields.proofs.Choice.{each}
use Rattle.fields.proofs.Never.{never}
use Rattle.curve_meaning.specs.declared.Walk.TheVariants.{Crate, Book}
use Rattle.lut_meaning.proofs.Slots.{slots_length as lut-slots}
use Rattle.text_meaning.proofs.Slots.{slots_length as text-slots}
use Rattle.lut_clut_meaning.specs.Table.{Table}
use Rattle.lut_view_meaning.specs.View.{table_by}
use Rattle.lut_view_meaning.specs.declared.TableNumbers.{TableNumbers}
use Rattle.evaluate_meaning.specs.Answer.{Answer}
use Rattle.evaluate_meaning.specs.Colour.{colours_from, colour}
use Rattle.evaluate_meaning.specs.Evaluate.{no_table, written, pixel_answer, pixel_after}
use Rattle.lines.proofs.Size.{number_size, words_size, numbers_size}
use Rattle.export_words.specs.Exported.{Exported, only, always}
use Rattle.export_words.specs.declared.Layout.{Layout}
use Rattle.export_lut.specs.Layout.{lut_layout, entry_layout, numbers_in}
use Rattle.export_text.specs.Layout.{string_layout}
use Rattle.answers_jobs.specs.Stream.{bytes_behind, pixel_in, tail_of}
use Rattle.answers_jobs.specs.declared.StreamJob.{StreamJob}
use Rattle.answers_jobs.specs.declared.StreamTail.{StreamTail}
use Rattle.answers_meaning.specs.Line.{marked, lut_exported_of, exported_of, words_after, layout_for, several, line_to, line_of, most_words, most_bytes}
use Rattle.answers_meaning.specs.Pixel.{numbered, coordinates_in, evaluation_text, pixel_text, pixel_line}
use Rattle.answers_meaning.specs.Text.{refused_text, name_text, words_text, exported_text, lent_text}
use Rattle.answers_meaning.proofs.Marks.{marks_length, numbers_length}

-- ---- the words of a value

-- no layout has more words than that of `mAB ` and `mBA `
abbrev Few : Layout → Type 0
Few l = l.words ≤ 37

lut_few : (first : ℕ) → Few (lut_layout first)
unfolding lut_layout
lut_few first =
    each Few (eqb first (signature_of Mft1)) _ _ (λ _. omega arith)
    (λ _. each Few (eqb first (signature_of Mft2)) _ _ (λ _. omega arith) (λ _. omega arith))

string_few : (first : ℕ) → Few (string_layout first)
unfolding string_layout
string_few first =
    each Few (eqb first (signature_of Text)) _ _ (λ _. omega arith)
    (λ _. each Few (eqb first (signature_of Desc)) _ _ (λ _. omega arith) (λ _. omega arith))

layout_few : (r first : ℕ) → Few (layout_for r first)
unfolding layout_for
layout_few r first =
    each Few (eqb r 1 || eqb r 11) _ _ (λ _. lut_few first)
    (λ _. each Few (eqb r 2 || eqb r 12) _ _ (λ _. omega arith)
    (λ _. each Few (eqb r 3) _ _ (λ _. string_few first)
    (λ _. each Few (eqb r 4) _ _ (λ _. omega arith)
    (λ _. each Few (eqb r 5) _ _ (λ _. omega arith)
    (λ _. each Few (eqb r 6) _ _ (λ _. omega arith)
    (λ _. each Few (eqb r 7) _ _ (λ _. omega arith)
    (λ _. each Few (eqb r 8) _ _ (λ _. omega arith)
    (λ _. each Few (eqb r 9) _ _ (λ _. omega arith)
    (λ _. each Few (eqb r 10) _ _ (λ _. omega arith) (λ _. omega arith))))))))))

-- a space and at most four letters
name_size : (s : ℕ) → length (name_text s) ≤ 5
unfolding name_text
name_size s = omega (arith, by (eqb (s % 256) 0x20))
  where
    by : (b : Bool) → length (cond b [] (s % 256 ∷ [])) ≤ 1
    by true = omega arith
    by false = omega arith

words_text_size : (b : Bool) (l : Layout) (first : ℕ) (ws : List ℕ) → length (words_text b l first ws) ≤ 5 + 22 * length ws
unfolding words_text
words_text_size b l first ws =
    each (λ (x : List ℕ). length x ≤ 5 + 22 * length ws) b _ _
    (λ _. simp length-append (omega (arith, name_size first, words_size l.from l.to 1 (drop 1 ws), length-drop 1 ws)))
    (λ _. omega (arith, words_size l.from l.to 0 ws))

exported_size : (b : Bool) (layout : ℕ → Layout) → ((first : ℕ) → Few (layout first)) → (e : Exported) → length (exported_text b layout e) ≤ 1000
unfolding exported_text refused_text
exported_size b layout few e =
    let P : List ℕ → Type 0 = λ x. length x ≤ 1000 in
    let first = get_or e.words 0 0 in
    let l = layout first in
    each P (eqb e.status 0) _ _
    (λ _. simp length-append (omega (arith, words_text_size b l first (take l.words e.words), length-take l.words e.words, few first)))
    (λ _. each P (eqb e.status 100) _ _ (λ _. omega arith)
    (λ _. each P (eqb e.status 101) _ _ (λ _. omega arith)
    (λ _. omega (arith, number_size 32 e.status))))

-- ---- the lent words

after_length : (job : StreamJob) (profile words : List ℕ) → length (words_after job profile words) ≡ length words
unfolding words_after
after_length job profile words =
    let P : List ℕ → Type 0 = λ x. length x ≡ length words in
    let r = job.reader in
    each P (eqb r 1 || eqb r 13) _ _ (λ _. lut-slots Crate job.entries job.points profile job.offset job.size words)
    (λ _. each P (eqb r 11) _ _ (λ _. lut-slots Book job.entries job.points profile job.offset job.size words)
    (λ _. each P (eqb r 3) _ _ (λ _. text-slots profile job.offset job.size words) (λ _. refl)))

lent_size : (b : Bool) (ws : List ℕ) → length (cond b (lent_text ws) []) ≤ 2 + 21 * length ws
unfolding lent_text
lent_size true ws = omega (arith, numbers_size ws)
lent_size false ws = omega arith

-- ---- an evaluation

evaluation_size : (a : Answer) (left : List ℕ) → length (evaluation_text a left) ≤ 50 + 42 * length left
unfolding lent_text refused_text
evaluation_size (Answer.value n) left =
    simp length-append (omega (arith, number_size 32 n, numbers_size (take n left), length-take n left, numbers_size left))
evaluation_size (Answer.refused e) left = simp length-append (omega (arith, number_size 32 e, numbers_size left))

-- the buffer keeps its length
colours_length : (t : List ℕ) (table : Table) (xs : List ℕ) (channel n : ℕ) → length (colours_from t table xs channel n) ≡ n
unfolding colours_from
colours_length t table xs channel zero = refl
colours_length t table xs channel (suc n) = ap suc (colours_length t table xs (channel + 1) n)

pub left_length : (t : List ℕ) (n : TableNumbers) (xs buffer : List ℕ) → length (pixel_after t n xs buffer) ≡ length buffer
unfolding pixel_after pixel_answer
left_length t n xs buffer =
    each P (no_table t n || not (eqb (length xs) n.inputs)) _ _ (λ _. refl)
    (λ _. each P (ltb (length buffer) n.outputs) _ _ (λ _. refl)
    (λ enough. simp length-append (omega (arith, colours_length t (table_by t n) xs 0 n.outputs, length-drop n.outputs buffer, ltb-false (length buffer) n.outputs enough))))
  where
    P : Answer → Type 0
    P a = length (written a (colour t (table_by t n) xs) buffer) ≡ length buffer

pixel_size : (e : Exported) (t behind : List ℕ) (n room : ℕ) → room ≤ 512 → length (pixel_line e t behind n room) ≤ 30000
unfolding pixel_line pixel_text
pixel_size e t behind n room h =
    let xs = take n (coordinates_in behind) in
    let numbers = numbers_in e.words in
    each (λ (x : List ℕ). length x ≤ 30000) (eqb e.status 0) _ _
    (λ _. omega (arith, evaluation_size (pixel_answer t numbers xs (length (numbered room))) (pixel_after t numbers xs (numbered room)), left_length t numbers xs (numbered room), numbers_length 0 room))
    (λ _. omega (arith, exported_size false (always entry_layout) (λ _. omega arith) (only e.status)))

pub room_most : (reader n room : ℕ) (b : List ℕ) → tail_of reader b ≡ Some (StreamTail.Pixel n room) → room ≤ 512
unfolding tail_of pixel_in
room_most reader n room b =
    each P (ltb reader 1) _ _ (λ _ e. never cc)
    (λ _. each P (ltb 14 reader) _ _ (λ _ e. never cc)
    (λ _. each P (ltb reader 13) _ _ (λ _ e. never cc)
    (λ _. each P (ltb (length b) (bytes_behind reader)) _ _ (λ _ e. never cc)
    (λ _. each P (eqb reader 14) _ _
    (λ _. each P (ltb 512 (u16_at b 17)) _ _ (λ _ e. never cc) (λ few e. let q : u16_at b 17 ≡ room = cc in omega (arith, ltb-false 512 (u16_at b 17) few)))
    (λ _ e. never cc)))))
  where
    P : Option StreamTail → Type 0
    P x = x ≡ Some (StreamTail.Pixel n room) → room ≤ 512

-- ---- the line

pub room : (job : StreamJob) (profile behind : List ℕ) (n : ℕ) → n ≤ most_words → length (line_of job profile behind n).text ≤ most_bytes
unfolding line_of
room job profile behind n h = by (tail_of job.reader behind) refl
  where
    by : (x : Option StreamTail) → tail_of job.reader behind ≡ x → length (line_to x job profile (marked n) behind).text ≤ most_bytes
    by (Some (StreamTail.Index index)) _ =
        let after = words_after job profile (marked n) in
        let count : length after ≡ n = after_length job profile (marked n) ∙ marks_length 0 n in
        simp length-append
        (omega (arith, h, count, exported_size (several job.reader) (layout_for job.reader) (layout_few job.reader) (exported_of job profile (marked n) behind index), lent_size (several job.reader) after))
    by (Some (StreamTail.Pixel count most)) e =
        simp length-append
        (omega (arith, pixel_size (lut_exported_of job profile (marked n) Crate) (counted_tag profile job.offset job.size) behind count most (room_most job.reader count most behind e)))
    by None _ = omega arith
