-- A job of the program `answers`: its line, and the lent words after the call.
use Rattle.std.specs.Prelude.{ℕ, zero, suc, ◌+◌, ◌%◌, ◌≡◌, Bool, cond, ◌||◌, List, [], ◌∷◌, ◌++◌, eqb, length, take, drop, Option, Some, None}
use Rattle.lines.specs.Text.{Wrote}
use Rattle.fields.specs.Place.{counted_tag}
use Rattle.curve_meaning.specs.Curve.{trc_of}
use Rattle.curve_meaning.specs.declared.Walk.{Walk}
use Rattle.curve_meaning.specs.declared.Walk.TheVariants.{Crate, Book}
use Rattle.lut_meaning.specs.Lut.{lut_of, slots_after}
use Rattle.lut_view_meaning.specs.View.{table_by, entry_of}
use Rattle.small_meaning.specs.Small.{chad_of, sig_of, date_of, meas_of, view_of, xyz_of, cicp_of}
use Rattle.text_meaning.specs.Text.{string_of, slots_after as Text·slotsAfter}
use Rattle.export_words.specs.Exported.{Exported, only, absent, Gave}
use Rattle.export_words.specs.declared.Layout.{Layout}
use Rattle.export_curve.specs.Layout.{curve_exported, curve_layout}
use Rattle.export_lut.specs.Layout.{lut_exported, lut_layout, entry_exported, entry_layout, numbers_in}
use Rattle.export_small.specs.Layout.{small_exported, chad_layout, sig_layout, date_layout, meas_layout, view_layout, xyz_layout, cicp_layout}
use Rattle.export_text.specs.Layout.{text_exported, string_layout}
use Rattle.answers_jobs.specs.Stream.{tail_of}
use Rattle.answers_jobs.specs.declared.StreamIndex.{StreamIndex}
use Rattle.answers_jobs.specs.declared.StreamJob.{StreamJob}
use Rattle.answers_jobs.specs.declared.StreamTail.{StreamTail}
use Rattle.answers_meaning.specs.Text.{exported_text, lent_text}
use Rattle.answers_meaning.specs.Pixel.{pixel_line}

-- a job has at most so many words lent, and a line at most so many bytes: the program's buffer
abbrev pub most_words : ℕ
most_words = 8192

abbrev pub most_bytes : ℕ
most_bytes = 196608

-- the words lent, as they are set before a call: word i is 0xA5A50000 + i, and i is below `most_words`
abbrev pub mark_at : ℕ → ℕ
mark_at i = 0xA5A50000 + i % 0x10000

unfoldable pub marked_from : ℕ → ℕ → List ℕ
marked_from i zero = []
marked_from i (suc n) = mark_at i ∷ marked_from (i + 1) n

abbrev pub marked : ℕ → List ℕ
marked n = marked_from 0 n

-- what is exported of an entry at a grid index, of the table whose words these are; an index of more than sixteen coordinates is nowhere
unfoldable pub entry_exported_at : List ℕ → List ℕ → List ℕ → StreamIndex → Exported
entry_exported_at words t behind (StreamIndex.At n channel) = entry_exported (entry_of t (table_by t (numbers_in words)) (take n (drop 1 behind)) channel)
entry_exported_at words t behind StreamIndex.TooMany = absent
entry_exported_at words t behind StreamIndex.Nothing = absent

-- where the reader of the table has no value, its status alone is exported
unfoldable pub view_exported : Exported → List ℕ → List ℕ → StreamIndex → Exported
view_exported e t behind index = cond (eqb e.status 0) (entry_exported_at e.words t behind index) (only e.status)

module _ (job : StreamJob) (profile words : List ℕ) where
  abbrev pub lut_exported_of : Walk → Exported
  lut_exported_of walk = lut_exported (lut_of walk job.entries job.points profile job.offset job.size (length words))

  abbrev pub lut_words_after : Walk → List ℕ
  lut_words_after walk = slots_after walk job.entries job.points profile job.offset job.size words

  abbrev pub curve_exported_of : Walk → Exported
  curve_exported_of walk = curve_exported (trc_of walk job.entries profile job.offset job.size)

  -- what the reader that a job names tells of it
  unfoldable pub exported_of : List ℕ → StreamIndex → Exported
  exported_of behind index =
      let r = job.reader in
      cond (eqb r 1) (lut_exported_of Crate) (
      cond (eqb r 2) (curve_exported_of Crate) (
      cond (eqb r 3) (text_exported (string_of profile job.offset job.size (length words))) (
      cond (eqb r 4) (small_exported (chad_of profile job.offset job.size)) (
      cond (eqb r 5) (small_exported (sig_of profile job.offset job.size)) (
      cond (eqb r 6) (small_exported (date_of profile job.offset job.size)) (
      cond (eqb r 7) (small_exported (meas_of profile job.offset job.size)) (
      cond (eqb r 8) (small_exported (view_of profile job.offset job.size)) (
      cond (eqb r 9) (small_exported (xyz_of profile job.offset job.size)) (
      cond (eqb r 10) (small_exported (cicp_of profile job.offset job.size)) (
      cond (eqb r 11) (lut_exported_of Book) (
      cond (eqb r 12) (curve_exported_of Book) (
      cond (eqb r 13) (view_exported (lut_exported_of Crate) (counted_tag profile job.offset job.size) behind index) absent))))))))))))

  -- the lent words after the call: the readers of lookup tables and of text write there
  unfoldable pub words_after : List ℕ
  words_after =
      let r = job.reader in
      cond (eqb r 1 || eqb r 13) (lut_words_after Crate) (
      cond (eqb r 11) (lut_words_after Book) (
      cond (eqb r 3) (Text·slotsAfter profile job.offset job.size words) words))

-- how a reader's words are laid out
unfoldable pub layout_for : ℕ → ℕ → Layout
layout_for r first =
    cond (eqb r 1 || eqb r 11) (lut_layout first) (
    cond (eqb r 2 || eqb r 12) curve_layout (
    cond (eqb r 3) (string_layout first) (
    cond (eqb r 4) chad_layout (
    cond (eqb r 5) sig_layout (
    cond (eqb r 6) date_layout (
    cond (eqb r 7) meas_layout (
    cond (eqb r 8) view_layout (
    cond (eqb r 9) xyz_layout (
    cond (eqb r 10) cicp_layout entry_layout)))))))))

-- whether a reader serves several types: those are the readers whose line shows the lent words
abbrev pub several : ℕ → Bool
several r = eqb r 1 || eqb r 3 || eqb r 11

pub record Line : Type 0 where
  pub text : List ℕ
  pub words_after : List ℕ

-- what was told, the lent words and the end of the line; a bad job has no line
abbrev pub line_to : Option StreamTail → StreamJob → List ℕ → List ℕ → List ℕ → Line
line_to (Some (StreamTail.Index index)) job profile words behind =
    let after = words_after job profile words in
    record {
      text =
          exported_text (several job.reader) (layout_for job.reader) (exported_of job profile words behind index)
          ++ cond (several job.reader) (lent_text after) []
          ++ (0x0a ∷ []);
      words_after = after;
    }
line_to (Some (StreamTail.Pixel n room)) job profile words behind =
    record {
      text = pixel_line (lut_exported_of job profile words Crate) (counted_tag profile job.offset job.size) behind n room ++ (0x0a ∷ []);
      words_after = lut_words_after job profile words Crate;
    }
line_to None job profile words behind = record { text = []; words_after = words }

-- a job, its profile, the bytes behind it, and so many words lent
unfoldable pub line_of : StreamJob → List ℕ → List ℕ → ℕ → Line
line_of job profile behind n = line_to (tail_of job.reader behind) job profile (marked n) behind

-- what the reader's exported function tells, in `out`, and the words after the call
pub record ExportedAndWords (job : StreamJob) (profile words behind : List ℕ) (index : StreamIndex) (r : ℕ) (out out' words' : List ℕ) : Type 0 where
  pub gave : Gave (layout_for job.reader) (exported_of job profile words behind index) r out out'
  pub words_are : words' ≡ words_after job profile words

-- what is written, and the words after the call
pub record LineAndWords (a : Line) (before after words : List ℕ) (end : ℕ) : Type 0 where
  pub written : Wrote before after 0 end a.text
  pub words_are : words ≡ a.words_after
