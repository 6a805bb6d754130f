-- Wrong readers and evaluators, each made of a library by one fault, and the sentence that they are shut out.
use Rattle.std.specs.Prelude.{ℕ, zero, suc, ◌*◌, Bool, true, false, cond, List, [], ◌++◌, length, take, replicate, Some, None, Ok, Err}
use Rattle.fields.specs.House.{tag_size}
use Rattle.fields.specs.declared.Refusal.{Refusal}
use Rattle.fields.specs.declared.Refusal.TheVariants.{PastProfile, NoColourTable}
use Rattle.curve_meaning.specs.Shape.{record_words}
use Rattle.curve_meaning.specs.declared.CurveKind.TheVariants.{Empty}
use Rattle.curve_meaning.specs.declared.Walk.{Walk}
use Rattle.lut_run_meaning.specs.Run.{records_of}
use Rattle.lut_meaning.specs.Layout.{records_needed}
use Rattle.lut_meaning.specs.Parts.{curves_of}
use Rattle.lut_meaning.specs.declared.Lut.{Lut}
use Rattle.lut_meaning.specs.declared.Lut.TheVariants.{Mft, Abm}
use Rattle.small_meaning.specs.Answer.{Answer as Small-as-Answer}
use Rattle.small_meaning.specs.Readers.{Small, small_numbers, small_none, small_refusal}
use Rattle.lut_view_meaning.specs.View.{table_by}
use Rattle.evaluate_meaning.specs.Colour.{colour}
use Rattle.evaluate_meaning.specs.Evaluate.{pixels_of}
use Rattle.demands.specs.Returned.{Returned, Evaluation}
use Rattle.demands.specs.Readers.{Reader, lut, trc, string, small, Call, Evaluator, pixel, row, Pixels}
use Rattle.demands.specs.Readers.{Result, slots_after, words_after, Library, Promised}
use Rattle.demands.specs.Demands.{tag, in_front, Demand1, Demand2}

-- a library with other readers, and one with other evaluators
abbrev pub with_readers : Library → ((r : Reader) → Call → Result r) → (Reader → Call → List ℕ) → Library
with_readers l returns leaves = record { returns = returns; leaves = leaves; reads = l.reads; evaluates = l.evaluates; fills = l.fills }

abbrev pub with_evaluators : Library → (Evaluator → Pixels → Evaluation) → (Evaluator → Pixels → List ℕ) → Library
with_evaluators l evaluates fills =
    record { returns = l.returns; leaves = l.leaves; reads = l.reads; evaluates = evaluates; fills = fills }

-- ---- one that refuses all

abbrev pub refusal : (r : Reader) → Refusal → Result r
refusal (lut walk) why = Err why
refusal (trc walk) why = Err why
refusal string why = Err why
refusal (small s) why = small_refusal s why

abbrev pub refuses_all : Library → Library
refuses_all l = with_readers l (λ r c. refusal r PastProfile) (λ r c. c.slots)

-- ---- one that always answers the default, and one that always answers the identity

abbrev pub is_default : Small-as-Answer → Bool
is_default (Small-as-Answer.value ns) = false
is_default Small-as-Answer.default = true
is_default Small-as-Answer.absent = false
is_default (Small-as-Answer.refused n) = false

-- a small reader has a default if that is what it returns besides values and refusals
abbrev pub has_default : Small → Bool
has_default s = is_default (small_numbers s (small_none s))

abbrev pub default_instead : (r : Reader) → Result r → Result r
default_instead (lut walk) x = x
default_instead (trc walk) x = x
default_instead string x = x
default_instead (small s) x = cond (has_default s) (small_none s) x

abbrev pub always_default : Library → Library
always_default l = with_readers l (λ r c. default_instead r (l.returns r c)) l.leaves

abbrev pub identity_instead : (r : Reader) → Result r → Result r
identity_instead (lut walk) x = x
identity_instead (trc walk) x =
    Ok (Some record { curve = record { kind = Empty; start = tag_size; count = 0; g = 0; a = 0; b = 0; c = 0; d = 0; e = 0; f = 0 }; consumed = 0 })
identity_instead string x = x
identity_instead (small s) x = x

abbrev pub always_identity : Library → Library
always_identity l = with_readers l (λ r c. identity_instead r (l.returns r c)) l.leaves

-- ---- one that accepts and leaves the slots unwritten

abbrev pub unwritten : Library → Library
unwritten l = with_readers l l.returns (λ r c. c.slots)

-- ---- one that reads the first curve and copies it for the rest

-- the records of the curves that a walk meets, whatever is answered
abbrev pub records_read : Walk → Call → List ℕ
records_read walk c = records_of (curves_of walk c.entries (tag c))

unfoldable pub copies : ℕ → List ℕ → List ℕ
copies zero words = []
copies (suc n) words = words ++ copies n words

abbrev pub copied_in : Reader → Call → List ℕ
copied_in (lut walk) c = in_front (copies (records_needed (tag c)) (take record_words (records_read walk c))) c.slots
copied_in (trc walk) c = c.slots
copied_in string c = slots_after string c
copied_in (small s) c = c.slots

abbrev pub copied : Library → Library
copied l = with_readers l l.returns copied_in

-- ---- one that makes up the number of records: one B curve, whatever the channels are

abbrev pub one_curve : Lut → Lut
one_curve (Mft m) = Mft m
one_curve (Abm t) = Abm record t { table = record t.table { b_curves = 1 } }

abbrev pub with_one_curve : Returned Lut → Returned Lut
with_one_curve (Ok (Some l)) = Ok (Some (one_curve l))
with_one_curve (Ok None) = Ok None
with_one_curve (Err why) = Err why

abbrev pub one_instead : (r : Reader) → Result r → Result r
one_instead (lut walk) x = with_one_curve x
one_instead (trc walk) x = x
one_instead string x = x
one_instead (small s) x = x

abbrev pub made_up : Library → Library
made_up l = with_readers l (λ r c. one_instead r (l.returns r c)) l.leaves

-- ---- one that writes the records that it read before it refuses

abbrev pub written_in : Reader → Call → List ℕ
written_in (lut walk) c = in_front (records_read walk c) c.slots
written_in (trc walk) c = c.slots
written_in string c = slots_after string c
written_in (small s) c = c.slots

abbrev pub too_early : Library → Library
too_early l = with_readers l l.returns written_in

-- ---- one that writes zeros for the records

abbrev pub zeros_in : Reader → Call → List ℕ
zeros_in (lut walk) c = in_front (replicate (records_needed (tag c) * record_words) 0) c.slots
zeros_in (trc walk) c = c.slots
zeros_in string c = slots_after string c
zeros_in (small s) c = c.slots

abbrev pub zeroed : Library → Library
zeroed l = with_readers l l.returns zeros_in

-- ---- an evaluator that answers 19 to all

abbrev pub evaluates_nothing : Library → Library
evaluates_nothing l = with_evaluators l (λ e c. Err NoColourTable) (λ e c. c.words)

-- ---- one that answers and leaves the buffer unwritten

abbrev pub unfilled : Library → Library
unfilled l = with_evaluators l l.evaluates (λ e c. c.words)

-- ---- one that evaluates the first pixel of a row and copies it for the rest

abbrev pub first_colour : Pixels → List ℕ
first_colour c = colour c.tag (table_by c.tag c.table) (take c.table.inputs c.coordinates)

abbrev pub repeated_in : Evaluator → Pixels → List ℕ
repeated_in pixel c = words_after pixel c
repeated_in row c = in_front (copies (pixels_of c.table c.coordinates) (first_colour c)) c.words

abbrev pub repeated : Library → Library
repeated l = with_evaluators l l.evaluates repeated_in

-- ---- one that writes as many results as there is room for before it refuses

abbrev pub filled_in : Evaluator → Pixels → List ℕ
filled_in pixel c = in_front (take (length c.words) (first_colour c)) c.words
filled_in row c = words_after row c

abbrev pub filled_early : Library → Library
filled_early l = with_evaluators l l.evaluates filled_in

-- ---- none of them is admitted, whatever library it was made of

pub record ShutOut (l : Library) : Type 0 where
  -- by `curve_read`
  pub refuses_all_lem : Demand2 (refuses_all l) → ⊥
  pub always_identity_lem : Demand2 (always_identity l) → ⊥
  -- by `xyz_read`
  pub always_default_lem : Demand2 (always_default l) → ⊥
  -- by `abm_read`
  pub slots_unwritten : Demand2 (unwritten l) → ⊥
  pub first_copied : Demand2 (copied l) → ⊥
  pub count_made_up : Demand2 (made_up l) → ⊥
  -- by `refusal_leaves_slots`
  pub written_too_early : Promised l → Demand1 (too_early l) → ⊥
  -- by `curves_in_tag`
  pub records_zeroed : Promised l → Demand1 (zeroed l) → ⊥
  -- by `accepted_evaluates`
  pub evaluates_nothing_lem : Promised l → Demand1 (evaluates_nothing l) → ⊥
  -- by `pixel_coloured`
  pub words_unfilled : Demand2 (unfilled l) → ⊥
  -- by `row_is_calls`
  pub first_repeated : Demand2 (repeated l) → ⊥
  -- by `refusal_leaves_words`
  pub filled_too_early : Promised l → Demand1 (filled_early l) → ⊥
