-- Every reader and evaluator, what a call of one is, and what its contract promises.
use Rattle.std.specs.Prelude.{ℕ, ◌*◌, ◌≡◌, List, length, Option}
use Rattle.curve_meaning.specs.Answer.{Answer as Curve-as-Answer, in_numbers as Curve·inNumbers}
use Rattle.curve_meaning.specs.Curve.{trc_of}
use Rattle.curve_meaning.specs.declared.CurveRead.{CurveRead}
use Rattle.curve_meaning.specs.declared.Walk.{Walk}
use Rattle.lut_meaning.specs.Answer.{State, Answer as Lut-as-Answer, in_numbers as Lut·inNumbers}
use Rattle.lut_meaning.specs.Lut.{lut_of, slots_after as Lut·slotsAfter}
use Rattle.lut_meaning.specs.declared.Lut.{Lut}
use Rattle.text_meaning.specs.Answer.{Answer as Text-as-Answer, in_numbers as Text·inNumbers}
use Rattle.text_meaning.specs.Text.{string_of, slots_after as Text·slotsAfter}
use Rattle.text_meaning.specs.declared.TextValue.{TextValue}
use Rattle.small_meaning.specs.Answer.{Answer as Small-as-Answer}
use Rattle.small_meaning.specs.Readers.{Small, SmallResult, small_numbers, small_of}
use Rattle.lut_view_meaning.specs.Answer.{in_numbers as View·inNumbers}
use Rattle.lut_view_meaning.specs.View.{table_by, entry_of}
use Rattle.lut_view_meaning.specs.declared.TableNumbers.{TableNumbers}
use Rattle.evaluate_meaning.specs.Answer.{Answer as Colour-as-Answer, in_numbers as Colour·inNumbers}
use Rattle.evaluate_meaning.specs.Evaluate.{pixel_answer, pixel_after, Evaluated, pixels_of, row_answer, row_after, RowEvaluated}
use Rattle.demands.specs.Returned.{Returned, Evaluation}

-- `read_lut_tag` and `read_trc_tag`, each on either walk; `read_string_tag`; the small ones, a table of small_meaning/specs/Readers.antt
pub data Reader : Type 0 where
  lut : Walk → Reader
  trc : Walk → Reader
  string : Reader
  small : Small → Reader

-- the profile, the tag's offset and size, the limits of curve entries and of grid points, and the words of the lent slots. A reader without
-- limits or slots does not look at them
pub record Call : Type 0 where
  pub profile : List ℕ
  pub entry : ℕ
  pub size : ℕ
  pub entries : ℕ
  pub points : ℕ
  pub slots : List ℕ

abbrev pub call : List ℕ → ℕ → ℕ → ℕ → ℕ → List ℕ → Call
call profile entry size entries points slots =
    record { profile = profile; entry = entry; size = size; entries = entries; points = points; slots = slots }

-- what a reader returns
abbrev pub Result : Reader → Type 0
Result (lut walk) = Returned Lut
Result (trc walk) = Returned CurveRead
Result string = Returned TextValue
Result (small s) = SmallResult s

-- its numbers
abbrev pub Numbers : Reader → Type 0
Numbers (lut walk) = Lut-as-Answer
Numbers (trc walk) = Curve-as-Answer
Numbers string = Text-as-Answer
Numbers (small s) = Small-as-Answer

abbrev pub numbers : (r : Reader) → Result r → Numbers r
numbers (lut walk) x = Lut·inNumbers x
numbers (trc walk) x = Curve·inNumbers x
numbers string x = Text·inNumbers x
numbers (small s) x = small_numbers s x

-- the numbers that a call is to be answered with
abbrev pub meaning : (r : Reader) → Call → Numbers r
meaning (lut walk) c = lut_of walk c.entries c.points c.profile c.entry c.size (length c.slots)
meaning (trc walk) c = trc_of walk c.entries c.profile c.entry c.size
meaning string c = string_of c.profile c.entry c.size (length c.slots)
meaning (small s) c = small_of s c.profile c.entry c.size

-- and what it is to leave in the slots: the records that it read, in front, if its answer has records
abbrev pub slots_after : Reader → Call → List ℕ
slots_after (lut walk) c = Lut·slotsAfter walk c.entries c.points c.profile c.entry c.size c.slots
slots_after (trc walk) c = c.slots
slots_after string c = Text·slotsAfter c.profile c.entry c.size c.slots
slots_after (small s) c = c.slots

-- the ways in which a call can end
pub data Outcome : Type 0 where
  value : Outcome
  default : Outcome
  absent : Outcome
  refused : ℕ → Outcome

abbrev pub small_outcome : Small-as-Answer → Outcome
small_outcome (Small-as-Answer.value ns) = value
small_outcome Small-as-Answer.default = default
small_outcome Small-as-Answer.absent = absent
small_outcome (Small-as-Answer.refused n) = refused n

abbrev pub lut_outcome : State → Outcome
lut_outcome (State.mft f) = value
lut_outcome (State.abm f) = value
lut_outcome State.absent = absent
lut_outcome (State.refused n) = refused n

abbrev pub curve_outcome : Curve-as-Answer → Outcome
curve_outcome (Curve-as-Answer.value words consumed) = value
curve_outcome Curve-as-Answer.absent = absent
curve_outcome (Curve-as-Answer.refused n) = refused n

abbrev pub text_outcome : Text-as-Answer → Outcome
text_outcome (Text-as-Answer.text s) = value
text_outcome (Text-as-Answer.desc s u) = value
text_outcome (Text-as-Answer.mluc n) = value
text_outcome Text-as-Answer.absent = absent
text_outcome (Text-as-Answer.refused n) = refused n

abbrev pub outcome : (r : Reader) → Numbers r → Outcome
outcome (lut walk) a = lut_outcome a.state
outcome (trc walk) a = curve_outcome a
outcome string a = text_outcome a
outcome (small s) a = small_outcome a

-- `evaluate`, of one pixel, and `evaluate_row`
pub data Evaluator : Type 0 where
  pixel : Evaluator
  row : Evaluator

-- a call of one: the tag, the numbers of a colour table in it, the coordinates, and the words of the lent buffer
pub record Pixels : Type 0 where
  pub tag : List ℕ
  pub table : TableNumbers
  pub coordinates : List ℕ
  pub words : List ℕ

abbrev pub pixels : List ℕ → TableNumbers → List ℕ → List ℕ → Pixels
pixels tag table coordinates words = record { tag = tag; table = table; coordinates = coordinates; words = words }

-- how many results it asks for
abbrev pub results_asked : Evaluator → Pixels → ℕ
results_asked pixel c = c.table.outputs
results_asked row c = pixels_of c.table c.coordinates * c.table.outputs

-- the numbers that it is to be answered with, by the words lent, and what is to be left in them
abbrev pub answer_by : Evaluator → List ℕ → TableNumbers → List ℕ → ℕ → Colour-as-Answer
answer_by pixel = pixel_answer
answer_by row = row_answer

abbrev pub after_by : Evaluator → List ℕ → TableNumbers → List ℕ → List ℕ → List ℕ
after_by pixel = pixel_after
after_by row = row_after

abbrev pub evaluation : Evaluator → Pixels → Colour-as-Answer
evaluation e c = answer_by e c.tag c.table c.coordinates (length c.words)

abbrev pub words_after : Evaluator → Pixels → List ℕ
words_after e c = after_by e c.tag c.table c.coordinates c.words

-- a library: what each reader returns and how it leaves the lent slots, what is read of a tag by the numbers of a colour table, and what
-- each evaluator returns and how it leaves the lent buffer
pub record Library : Type 0 where
  pub returns : (r : Reader) → Call → Result r
  pub leaves : Reader → Call → List ℕ
  pub reads : List ℕ → TableNumbers → List ℕ → ℕ → Option ℕ
  pub evaluates : Evaluator → Pixels → Evaluation
  pub fills : Evaluator → Pixels → List ℕ

-- what a call is answered with, in numbers, and how it ends
abbrev pub answered : Library → (r : Reader) → Call → Numbers r
answered l r c = numbers r (l.returns r c)

abbrev pub ends : Library → Reader → Call → Outcome
ends l r c = outcome r (answered l r c)

abbrev pub evaluated : Library → Evaluator → Pixels → Colour-as-Answer
evaluated l e c = Colour·inNumbers (l.evaluates e c)

-- what a reader's contract says of a call: of the result that it returns, and of the slots as it leaves them
abbrev pub Answers : (r : Reader) → Call → Result r → Type 0
Answers r c x = numbers r x ≡ meaning r c

abbrev pub Leaves : Reader → Call → List ℕ → Type 0
Leaves r c slots = slots ≡ slots_after r c

abbrev pub Keeps : (r : Reader) → Call → Result r → List ℕ → Type 0
Keeps r c x slots = Answers r c x × Leaves r c slots

-- that of `lut_view::entry_at`, of the entry that it reads
abbrev pub Reads : List ℕ → TableNumbers → List ℕ → ℕ → Option ℕ → Type 0
Reads t n index channel x = View·inNumbers x ≡ entry_of t (table_by t n) index channel

-- and that of an evaluator, of its result and of the buffer as it leaves it
abbrev pub Evaluates : Evaluator → Pixels → Evaluation → List ℕ → Type 0
Evaluates pixel c x words = Evaluated c.tag c.table c.coordinates c.words x words
Evaluates row c x words = RowEvaluated c.tag c.table c.coordinates c.words x words

-- the library keeps the contracts of the readers, of `lut_view::entry_at` and of the evaluators. The functions of crate demands_kept say the
-- same of the code
pub record Promised (l : Library) : Type 0 where
  pub answers : (r : Reader) (c : Call) → Answers r c (l.returns r c)
  pub leaves_so : (r : Reader) (c : Call) → Leaves r c (l.leaves r c)
  pub reads_so : (t : List ℕ) (n : TableNumbers) (index : List ℕ) (channel : ℕ) → Reads t n index channel (l.reads t n index channel)
  pub evaluates_so : (e : Evaluator) (c : Pixels) → Evaluates e c (l.evaluates e c) (l.fills e c)
