-- A job of the program `curve-line`, and the text that it prints.
--
--    0        version, 1
--    1 to  4  length of the profile
--    5 to  8  the tag's offset
--    9 to 12  the tag's size
--   13 on     the profile
use Rattle.std.specs.Prelude.{ℕ, ◌-◌, cond, List, [], ◌∷◌, ◌++◌, ltb, eqb, length, get_or, take, drop, Option, Some, None}
use Rattle.fields.specs.Bytes.{u32_at}
use Rattle.fields.specs.House.{house_entries}
use Rattle.curve_meaning.specs.Curve.{trc_of}
use Rattle.curve_meaning.specs.Shape.{record_words}
use Rattle.curve_meaning.specs.declared.Walk.TheVariants.{Crate}
use Rattle.export_words.specs.Exported.{Exported}
use Rattle.export_curve.specs.Layout.{curve_exported, curve_layout}
use Rattle.lines.specs.Text.{number, row_from, word_text}
use Rattle.curve_line_text.specs.declared.CurveJob.{CurveJob}

-- the longest job
abbrev pub most_bytes : ℕ
most_bytes = 65536

-- what a job asks for, if it is one
unfoldable pub job_of : List ℕ → Option CurveJob
job_of job =
    cond (ltb (length job) 13) None (
    cond (ltb most_bytes (length job)) None (
    cond (eqb (get_or job 0 0) 1)
    (cond (eqb (u32_at job 1) (length job - 13)) (Some record { offset = u32_at job 5; size = u32_at job 9 }) None)
    None))

-- "curve value", and the words of the record on a line of their own; the consumed size behind them is not printed
unfoldable pub value_text : List ℕ → List ℕ
value_text ws =
    (0x63 ∷ 0x75 ∷ 0x72 ∷ 0x76 ∷ 0x65 ∷ 0x20 ∷ 0x76 ∷ 0x61 ∷ 0x6c ∷ 0x75 ∷ 0x65 ∷ [])
    ++ number 0x0a (get_or ws 0 0)
    ++ row_from (word_text curve_layout.from curve_layout.to) 1 (drop 1 (take record_words ws))
    ++ (0x0a ∷ [])

-- "curve absent"
abbrev pub absent_text : List ℕ
absent_text = 0x63 ∷ 0x75 ∷ 0x72 ∷ 0x76 ∷ 0x65 ∷ 0x20 ∷ 0x61 ∷ 0x62 ∷ 0x73 ∷ 0x65 ∷ 0x6e ∷ 0x74 ∷ 0x0a ∷ []

-- "curve refused N"
unfoldable pub refused_text : ℕ → List ℕ
refused_text n =
    (0x63 ∷ 0x75 ∷ 0x72 ∷ 0x76 ∷ 0x65 ∷ 0x20 ∷ 0x72 ∷ 0x65 ∷ 0x66 ∷ 0x75 ∷ 0x73 ∷ 0x65 ∷ 0x64 ∷ []) ++ number 0x20 n ++ (0x0a ∷ [])

-- "bad job"
abbrev pub bad_job_text : List ℕ
bad_job_text = 0x62 ∷ 0x61 ∷ 0x64 ∷ 0x20 ∷ 0x6a ∷ 0x6f ∷ 0x62 ∷ 0x0a ∷ []

-- the text of what was told, by its status
unfoldable pub exported_text : Exported → List ℕ
exported_text e = cond (eqb e.status 0) (value_text e.words) (cond (eqb e.status 100) absent_text (refused_text e.status))

-- what a job asks for is read on the crate walk, with the house default
unfoldable pub text_for : List ℕ → Option CurveJob → List ℕ
text_for profile (Some asked) = exported_text (curve_exported (trc_of Crate house_entries profile asked.offset asked.size))
text_for profile None = bad_job_text

-- the text of a job
unfoldable pub text_of : List ℕ → List ℕ
text_of job = text_for (drop 13 job) (job_of job)
