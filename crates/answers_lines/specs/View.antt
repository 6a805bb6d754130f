-- What the functions under the table view give.
use Rattle.std.specs.Prelude.{ℕ, ◌≡◌, List}
use Rattle.fields.specs.Place.{counted_tag}
use Rattle.curve_meaning.specs.declared.Walk.TheVariants.{Crate}
use Rattle.export_words.specs.Exported.{always, Gave}
use Rattle.export_lut.specs.Layout.{entry_layout}
use Rattle.answers_jobs.specs.declared.StreamIndex.{StreamIndex}
use Rattle.answers_jobs.specs.declared.StreamJob.{StreamJob}
use Rattle.answers_meaning.specs.Line.{lut_exported_of, lut_words_after, view_exported}

-- an entry of the table that is read on the crate walk, and the words that its reader leaves
pub record ViewAndWords (job : StreamJob) (profile words behind : List ℕ) (index : StreamIndex) (r : ℕ) (out out' words' : List ℕ) : Type 0 where
  pub gave : Gave (always entry_layout) (view_exported (lut_exported_of job profile words Crate) (counted_tag profile job.offset job.size) behind index) r out out'
  pub words_are : words' ≡ lut_words_after job profile words Crate
