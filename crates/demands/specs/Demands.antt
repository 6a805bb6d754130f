-- What a library of these readers and evaluators owes: three records, a field a sentence. proofs/ shows all three of every library that keeps the
-- contracts (`Promised`), and breaks them with wrong ones.
use Rattle.std.specs.Prelude.{ℕ, ◌+◌, ◌*◌, ◌/◌, ◌%◌, ◌^◌, ◌≤◌, ◌<◌, ◌≡◌, Bool, true, false, cond, ◌&&◌, List, [], ◌∷◌, ◌++◌, ◌⊎◌, ltb, length, get_or, take, drop, replicate}
use Rattle.icc.specs.Curves.{Curve, curve_element}
use Rattle.icc.specs.Elements.{LutParts, LutTag}
use Rattle.icc.specs.Numbers.{Is32, Each16, Each32, Bytes}
use Rattle.icc.specs.Small.{DateTime, date_time_number, s15_fixed16_array_type, signature_type, date_time_type, measurement_type}
use Rattle.icc.specs.Small.{viewing_conditions_type, cicp_type}
use Rattle.icc.specs.Tables.{Lut, nine, Sized, Entries16, lut16_type, lut8_type}
use Rattle.icc.specs.Text.{Ascii, terminated, text_type, Description, IsDescription, text_description_type, LocalizedTag}
use Rattle.fields.specs.Bytes.{u16_at, u32_at, words_at}
use Rattle.fields.specs.House.{tag_size}
use Rattle.fields.specs.Place.{tag_at, counted_tag}
use Rattle.fields.specs.Refusals.{is_refusal, past_profile, too_many_entries, curve_runs_out, too_few_slots, too_many_points, no_colour_table}
use Rattle.fields.specs.Tag.{signature_of}
use Rattle.fields.specs.declared.Kind.TheVariants.{Mab, Mba, Mft1, Mft2}
use Rattle.lut_clut_meaning.specs.Table.{Table, in_grid, entry_number}
use Rattle.curve_meaning.specs.Answer.{Answer as Curve-as-Answer}
use Rattle.curve_meaning.specs.Curve.{tag_of as Curve·tagOf}
use Rattle.curve_meaning.specs.Shape.{empty, words_of, record_words}
use Rattle.curve_meaning.specs.Standard.{CurveFits, record_told, step_told, Tag, Lone}
use Rattle.curve_meaning.specs.declared.Walk.{Walk}
use Rattle.lut_run_meaning.specs.Run.{Placed, placed, CurveStands, data_end}
use Rattle.lut_mft_meaning.specs.Answer.{Fields, told_table as Mft·toldTable}
use Rattle.lut_mft_meaning.specs.Standard.{fields_told16, fields_told8, Taken as MftTaken, Begins16, Begins8}
use Rattle.lut_meaning.specs.Abm.{told_table as Abm·toldTable}
use Rattle.lut_meaning.specs.Answer.{mft, abm, Abm, State, Answer as Lut-as-Answer}
use Rattle.lut_meaning.specs.Layout.{records_needed}
use Rattle.lut_meaning.specs.Parts.{curves_of}
use Rattle.lut_meaning.specs.Standard.{Counts, answer_told, records_written, PartsTaken, CurvesTaken, PartsAs, TagAs, PassesBy}
use Rattle.text_meaning.specs.Answer.{Answer as Text-as-Answer, Span, span, Unicode}
use Rattle.text_meaning.specs.Mluc.{records_asked, text_record_words as textWords}
use Rattle.text_meaning.specs.Standard.{TextTagInside, BeginsText, description_told, BeginsDescription, Asked as MlucAsked, localized_told}
use Rattle.text_meaning.specs.Standard.{ReadLocalized}
use Rattle.small_meaning.specs.Answer.{Answer as Small-as-Answer}
use Rattle.small_meaning.specs.Readers.{Small, chad, sig, date, meas, view, xyz, cicp}
use Rattle.small_meaning.specs.Standard.{signature_told, some_xyz_type, first_told, measurement_told, view_told, cicp_told, WrittenRead}
use Rattle.small_meaning.specs.Standard.{ReadWritten, BeginsNine, BeginsDate}
use Rattle.lut_view_meaning.specs.Answer.{Answer, in_numbers as View·inNumbers}
use Rattle.lut_view_meaning.specs.Standard.{ShowsColours, ShowsClut}
use Rattle.lut_view_meaning.specs.View.{numbers_of, table_by, stored_at}
use Rattle.lut_view_meaning.specs.declared.TableNumbers.{TableNumbers}
use Rattle.evaluate_meaning.specs.Answer.{Answer as Colour-as-Answer, in_numbers as Colour·inNumbers}
use Rattle.evaluate_meaning.specs.Calls.{after_calls, AllServed}
use Rattle.evaluate_meaning.specs.Colour.{colour}
use Rattle.evaluate_meaning.specs.Evaluate.{pixels_of}
use Rattle.demands.specs.Returned.{Evaluation}
use Rattle.demands.specs.Readers.{Reader, lut, trc, string, small, Call, Result, numbers, meaning, Outcome, value, default, absent}
use Rattle.demands.specs.Readers.{refused, Evaluator, pixel, row, Pixels, pixels, results_asked, evaluation}
use Rattle.demands.specs.Readers.{Library, ends, evaluated, Promised, answered}

-- the bytes of the tag in lookup tables and text, where a size of 0 counts as the shortest tag's, and that they lie in the profile
abbrev pub tag : Call → List ℕ
tag c = counted_tag c.profile c.entry c.size

abbrev pub TagInside : Call → Type 0
TagInside c = TextTagInside c.profile c.entry c.size

-- those of a lone curve, to the profile's end where the size is 0
abbrev pub curve_tag : Call → List ℕ
curve_tag c = Curve·tagOf c.profile c.entry c.size

-- the element as the standard has it, of its own size, and that it lies in the profile
abbrev pub element : Call → List ℕ
element c = tag_at c.profile c.entry c.size

abbrev pub ElementInside : Call → Type 0
ElementInside c = c.entry + c.size ≤ length c.profile

-- slots with words written at their front
abbrev pub in_front : List ℕ → List ℕ → List ℕ
in_front words slots = words ++ drop (length words) slots

-- an index has a coordinate for each dimension, each below its grid points, and a channel below the outputs
abbrev pub Valid : Table → List ℕ → ℕ → Type 0
Valid table index channel = (in_grid table.grid index ≡ true) × (channel < table.outputs)

-- ---- demand 1

-- each valid index reads inside so many bytes
abbrev pub IndexInside : Table → ℕ → Type 0
IndexInside table bytes =
    (index : List ℕ) (channel : ℕ) → Valid table index channel → entry_number table index channel * table.size + table.size ≤ bytes

-- curve k of those that a walk meets in the tag, A, M and B in turn, and record k in the slots
abbrev pub curve_at : Walk → Call → ℕ → Placed
curve_at walk c k = get_or (curves_of walk c.entries (tag c)) k (placed 0 empty)

abbrev pub record_in : List ℕ → ℕ → List ℕ
record_in slots k = take record_words (drop (k * record_words) slots)

-- the words are the record of the curve, which stands in the tag t, and the data that they tell of end there
pub record CurveInside (limit : ℕ) (t words : List ℕ) (curve : Placed) : Type 0 where
  pub record_is : words ≡ words_of (curve.at + 12) curve.shape
  pub stands : CurveStands limit t curve
  pub data_in_tag : data_end words ≤ length t

-- byte 16 gives no offset of a matrix: the answer has the identity and no bias
pub record NoMatrix (t : List ℕ) (answer : Lut-as-Answer) : Type 0 where
  pub not_there : u32_at t 16 ≡ 0
  pub matrix_is : answer.matrix ≡ 65536 ∷ 0 ∷ 0 ∷ 0 ∷ 65536 ∷ 0 ∷ 0 ∷ 0 ∷ 65536 ∷ []
  pub bias_is : answer.bias ≡ 0 ∷ 0 ∷ 0 ∷ []

-- or it gives one: the answer has the nine numbers that stand there, and the three behind them
pub record MatrixThere (t : List ℕ) (answer : Lut-as-Answer) : Type 0 where
  pub there : u32_at t 16 ≡ 0 → ⊥
  pub in_tag : u32_at t 16 + 48 ≤ length t
  pub matrix_is : answer.matrix ≡ words_at t (u32_at t 16) 9
  pub bias_is : answer.bias ≡ words_at t (u32_at t 16 + 36) 3

-- byte 24 gives no offset of a colour table: the answer has no grid and no data
pub record NoGrid (t : List ℕ) (answer : Lut-as-Answer) (f : Abm) : Type 0 where
  pub not_there : u32_at t 24 ≡ 0
  pub grid_is : answer.grid ≡ replicate 16 0
  pub start_is : f.start ≡ 0
  pub bytes_are : f.bytes ≡ 0
  pub size_is : f.size ≡ 0

-- or it gives one: the answer has the sixteen grid bytes that stand there, the bytes of an entry behind them, and data that start 20 bytes
-- on
pub record GridThere (t : List ℕ) (answer : Lut-as-Answer) (f : Abm) : Type 0 where
  pub there : u32_at t 24 ≡ 0 → ⊥
  pub in_tag : u32_at t 24 + 20 ≤ length t
  pub grid_is : answer.grid ≡ take 16 (drop (u32_at t 24) t)
  pub start_is : f.start ≡ u32_at t 24 + 20
  pub size_is : f.size ≡ get_or t (u32_at t 24 + 16) 0

-- 'mAB ' leads towards the connection space, 'mBA ' away from it
abbrev pub DirectionIs : List ℕ → Bool → Type 0
DirectionIs t to_pcs_of =
    ((u32_at t 0 ≡ signature_of Mab) × (to_pcs_of ≡ true)) ⊎ ((u32_at t 0 ≡ signature_of Mba) × (to_pcs_of ≡ false))

-- an accepted `mAB ` or `mBA `: its answer, whose numbers are f, and the slots as they are left. Without a colour table an entry has no
-- bytes
pub record AbmInside (walk : Walk) (c : Call) (answer : Lut-as-Answer) (f : Abm) (slots : List ℕ) : Type 0 where
  pub tag_in_profile : TagInside c
  pub direction_is : DirectionIs (tag c) f.to_pcs_of
  pub inputs_are : f.inputs ≡ get_or (tag c) 8 0
  pub outputs_are : f.outputs ≡ get_or (tag c) 9 0
  pub curves_in_tag : (k : ℕ) → k < f.a + f.m + f.b → CurveInside c.entries (tag c) (record_in slots k) (curve_at walk c k)
  pub matrix_in_tag : NoMatrix (tag c) answer ⊎ MatrixThere (tag c) answer
  pub grid_in_tag : NoGrid (tag c) answer f ⊎ GridThere (tag c) answer f
  pub table_in_tag : f.start + f.bytes ≤ length (tag c)
  pub index_in_table : 1 ≤ f.size → IndexInside (Abm·toldTable answer.grid f) f.bytes

-- an accepted `mft1` or `mft2`, whose entries have one byte or two; no sixteen grid bytes, and no bias
pub record MftInside (c : Call) (answer : Lut-as-Answer) (f : Fields) : Type 0 where
  pub tag_in_profile : TagInside c
  pub type_is : ((u32_at (tag c) 0 ≡ signature_of Mft1) × (f.size ≡ 1))
      ⊎ ((u32_at (tag c) 0 ≡ signature_of Mft2) × (f.size ≡ 2))
  pub numbers_are : (f.inputs ≡ get_or (tag c) 8 0) × (f.outputs ≡ get_or (tag c) 9 0) × (f.grid ≡ get_or (tag c) 10 0)
  pub matrix_in_tag : 12 + 36 ≤ length (tag c)
  pub matrix_is : answer.matrix ≡ words_at (tag c) 12 9
  pub no_grid : answer.grid ≡ replicate 16 0
  pub no_bias : answer.bias ≡ replicate 3 0
  pub input_in_tag : f.input_start_of + f.input_bytes ≤ length (tag c)
  pub table_in_tag : f.clut_start_of + f.clut_bytes ≤ length (tag c)
  pub output_in_tag : f.output_start_of + f.output_bytes ≤ length (tag c)
  pub index_in_table : IndexInside (Mft·toldTable f) f.clut_bytes

-- a range in the tag
abbrev pub SpanInside : Call → Span → Type 0
SpanInside c s = s.start + s.bytes ≤ length (tag c)

-- the words are the record of header k of `mluc`, 12 bytes in the tag: language, country, where the string starts and how long it is, an
-- odd last byte left out; and the string ends in the tag
pub record LocalizedInside (t words : List ℕ) (k : ℕ) : Type 0 where
  pub header_in_tag : 16 + 12 * k + 12 ≤ length t
  pub record_is : let at = 16 + 12 * k in words ≡ u16_at t at ∷ u16_at t (at + 2) ∷ u32_at t (at + 8) ∷ u32_at t (at + 4) / 2 * 2 ∷ []
  pub string_in_tag : get_or words 2 0 + get_or words 3 0 ≤ length t

-- accepted text
abbrev pub TextInside : Call → List ℕ → Text-as-Answer → Type 0
TextInside c slots (Text-as-Answer.text s) = TagInside c × SpanInside c s
TextInside c slots (Text-as-Answer.desc s u) = TagInside c × SpanInside c s × SpanInside c u.string
TextInside c slots (Text-as-Answer.mluc n) =
    TagInside c × ((k : ℕ) → k < n → LocalizedInside (tag c) (take textWords (drop (k * textWords) slots)) k)
TextInside c slots Text-as-Answer.absent = Unit
TextInside c slots (Text-as-Answer.refused n) = Unit

-- the fields of a small reader end here in the tag, and so in the profile; `meas` and the date look into the profile
abbrev pub FieldsInside : Small → Call → Type 0
FieldsInside chad c = (44 ≤ c.size) × (c.entry + 44 ≤ length c.profile)
FieldsInside sig c = (12 ≤ c.size) × (c.entry + 12 ≤ length c.profile)
FieldsInside date c = 20 ≤ length c.profile
FieldsInside meas c = c.entry + 36 ≤ length c.profile
FieldsInside view c = (36 ≤ c.size) × (c.entry + 36 ≤ length c.profile)
FieldsInside xyz c = (20 ≤ c.size) × (c.entry + 20 ≤ length c.profile)
FieldsInside cicp c = (12 ≤ c.size) × (c.entry + 12 ≤ length c.profile)

-- a profile with the same bytes there. The date's are the profile's first 20, and the tag's first four tell its type
abbrev pub SameFields : Small → Call → List ℕ → Type 0
SameFields chad c p = tag_at p c.entry 44 ≡ tag_at c.profile c.entry 44
SameFields sig c p = tag_at p c.entry 12 ≡ tag_at c.profile c.entry 12
SameFields date c p =
    (tag_at p 0 20 ≡ tag_at c.profile 0 20) × (tag_at p c.entry 4 ≡ tag_at c.profile c.entry 4)
SameFields meas c p = tag_at p c.entry 36 ≡ tag_at c.profile c.entry 36
SameFields view c p = tag_at p c.entry 36 ≡ tag_at c.profile c.entry 36
SameFields xyz c p = tag_at p c.entry 20 ≡ tag_at c.profile c.entry 20
SameFields cicp c p = tag_at p c.entry 12 ≡ tag_at c.profile c.entry 12

-- the same call on another profile
abbrev pub on_profile : List ℕ → Call → Call
on_profile p c =
    record { profile = p; entry = c.entry; size = c.size; entries = c.entries; points = c.points; slots = c.slots }

-- as many coordinates as a pixel has, or as whole pixels have
abbrev pub WholePixels : Evaluator → TableNumbers → List ℕ → Type 0
WholePixels pixel n xs = length xs ≡ n.inputs
WholePixels row n xs = length xs % n.inputs ≡ 0

-- Every call is answered, and inside. That each call ends with one of the outcomes of `Outcome`, traps nowhere, and stays inside its
-- slices, is each function's own proof; proofs/F/ of its crate has what the prover does not find
pub record Demand1 (l : Library) : Type 0 where
  -- a reader's refusal has one of the numbers of `refusal_numbers`, 1 to 17
  pub numbered : (r : Reader) (c : Call) (n : ℕ) → ends l r c ≡ refused n → (is_refusal n ≡ true) × (n ≤ 17)
  -- a refusal leaves lent slots untouched
  pub refusal_leaves_slots : (r : Reader) (c : Call) (n : ℕ) → ends l r c ≡ refused n → l.leaves r c ≡ c.slots
  -- and so does an absence
  pub absence_leaves_slots : (r : Reader) (c : Call) → ends l r c ≡ absent → l.leaves r c ≡ c.slots
  -- in an accepted `mAB ` or `mBA `, on both walks, each curve, matrix and table lies inside its tag, the answer has them as they stand
  -- there, and each valid grid index reads inside the colour table
  pub abm_inside : (walk : Walk) (c : Call) (f : Abm)
      → (answered l (lut walk) c).state ≡ abm f
      → AbmInside walk c (answered l (lut walk) c) f (l.leaves (lut walk) c)
  -- and so in an accepted `mft1` or `mft2`
  pub mft_inside : (walk : Walk) (c : Call) (f : Fields)
      → (answered l (lut walk) c).state ≡ mft f
      → MftInside c (answered l (lut walk) c) f
  -- the data of an accepted lone curve lie inside its tag, and the tag inside the profile
  pub curve_inside : (walk : Walk) (c : Call) (words : List ℕ) (consumed : ℕ)
      → answered l (trc walk) c ≡ Curve-as-Answer.value words consumed
      → (data_end words ≤ length (curve_tag c)) × ElementInside c
  -- each range that text is answered with lies inside its tag
  pub text_inside : (c : Call) → TextInside c (l.leaves string c) (answered l string c)
  -- the fields of a small reader's value lie inside the profile, and inside the tag but for `meas` and the date
  pub fields_inside : (s : Small) (c : Call) → ends l (small s) c ≡ value → FieldsInside s c
  -- no byte of the profile but those of the fields matters to that value
  pub fields_alone : (s : Small) (c : Call) (p : List ℕ)
      → ends l (small s) c ≡ value
      → length c.profile ≤ length p
      → SameFields s c p
      → answered l (small s) (on_profile p c) ≡ answered l (small s) c
  -- an evaluation ends with the results asked for, with 19 or with 14
  pub evaluation_ends : (e : Evaluator) (c : Pixels)
      → (evaluated l e c ≡ Colour-as-Answer.value (results_asked e c))
      ⊎ (evaluated l e c ≡ Colour-as-Answer.refused no_colour_table)
      ⊎ (evaluated l e c ≡ Colour-as-Answer.refused too_few_slots)
  -- either refusal leaves the lent buffer untouched
  pub refusal_leaves_words : (e : Evaluator) (c : Pixels) (n : ℕ)
      → evaluated l e c ≡ Colour-as-Answer.refused n
      → l.fills e c ≡ c.words
  -- an accepted lookup table with a colour table of 1 to 4 inputs gives the results asked for where there is room for them, so never 19. An
  -- answer without a colour table has entries of no bytes
  pub accepted_evaluates : (walk : Walk) (c : Call) (e : Evaluator) (xs words : List ℕ)
      → let n : TableNumbers = numbers_of (answered l (lut walk) c).state in
      let asked : Pixels = pixels (tag c) n xs words in
      1 ≤ n.entry_size
      → 1 ≤ n.inputs
      → n.inputs ≤ 4
      → WholePixels e n xs
      → results_asked e asked ≤ length words
      → evaluated l e asked ≡ Colour-as-Answer.value (results_asked e asked)

-- ---- demand 2, its proved half

-- a small reader, under whatever limits and slots
abbrev pub reader : Library → Call → Small → List ℕ → ℕ → ℕ → Small-as-Answer
reader l c s p entry size =
    answered l (small s) record { profile = p; entry = entry; size = size; entries = c.entries; points = c.points; slots = c.slots }

-- the answer to an `mft1` or `mft2` of the fields f, whose matrix the standard writes
abbrev pub mft_told : Fields → Lut → Lut-as-Answer
mft_told f x = record { state = mft f; grid = replicate 16 0; matrix = nine x.matrix; bias = replicate 3 0 }

-- what a view by the numbers of an answer shows
abbrev pub shown : Library → Call → State → List ℕ → ℕ → Answer
shown l c state point channel = View·inNumbers (l.reads (element c) (numbers_of state) point channel)

-- it shows the colours of the CLUT that the standard writes, each at its point
abbrev pub ShowsLut : Library → Call → Fields → Lut → Type 0
ShowsLut l c f x =
    ShowsColours (shown l c (mft f)) (replicate x.input_channels x.grid_points) x.output_channels x.clut

-- a valid index of a view reads the entry of the table, and it stands inside so many bytes from the table's start on
abbrev pub Shows : Library → List ℕ → TableNumbers → Table → ℕ → Type 0
Shows l t n table bytes =
    (index : List ℕ) (channel : ℕ) → Valid table index channel
    → let before : ℕ = entry_number table index channel * table.size in
    (View·inNumbers (l.reads t n index channel) ≡ Answer.value (stored_at t (table.start + before) table.size))
    × (before + table.size ≤ bytes)

-- The answer is the one defined, and the definitions conform to the standards, both ways: what the standard writes (crate `icc`) is
-- answered with what was written, and what is answered is what the standard writes. The conditions are entries of docs/DIFFERENCES.md
pub record Demand2 (l : Library) : Type 0 where
  -- each call has the complete answer that its reader's definition gives, and leaves the slots so
  pub promised : Promised l
  -- one call, one answer
  pub once : (r : Reader) (c : Call) (x : Result r) → numbers r x ≡ meaning r c → x ≡ l.returns r c
  -- a curveType or parametricCurveType is answered with the curve that was written
  pub curve_read : (walk : Walk) (c : Call) (x : Curve) (rest : List ℕ)
      → CurveFits c.entries x
      → Tag c.profile c.entry c.size (curve_element x ++ rest)
      → answered l (trc walk) c ≡ Curve-as-Answer.value (record_told 12 x) (step_told walk x)
  -- and an answered curve is one that the standard writes
  pub curve_written : (walk : Walk) (c : Call)
      → Bytes c.profile
      → (ws : List ℕ) (consumed : ℕ)
      → answered l (trc walk) c ≡ Curve-as-Answer.value ws consumed
      → Lone walk c.entries c.profile c.entry c.size ws consumed
  -- a lutAToBType or lutBToAType is answered with the parts that were written, and its curves' records stand in front in the slots. The
  -- crate walk goes as the standard lays curves out where none but a run's last is empty (`CurvesTaken`, `PassesBy`); all else is as it is
  -- written on either
  pub abm_read : (walk : Walk) (c : Call) (x : LutTag (element c))
      → ElementInside c
      → 48 ≤ c.size
      → PartsTaken x.parts
      → CurvesTaken walk c.entries x.curves
      → (length x.curves.a + length x.curves.m + length x.curves.b) * record_words ≤ length c.slots
      → (answered l (lut walk) c ≡ answer_told x.parts)
      × (l.leaves (lut walk) c ≡ in_front (records_written x.curves) c.slots)
  -- an answered one has the parts that the standard writes
  pub abm_written : (walk : Walk) (c : Call)
      → Bytes c.profile
      → (f : Abm)
      → (answered l (lut walk) c).state ≡ abm f
      → (1 ≤ f.size → f.inputs ≤ 16)
      → ElementInside c × PartsAs (element c) (answered l (lut walk) c)
  -- and its records are those of the curves that the standard writes
  pub curves_written : (walk : Walk) (c : Call)
      → Bytes c.profile
      → (f : Abm)
      → (answered l (lut walk) c).state ≡ abm f
      → (1 ≤ f.size → f.inputs ≤ 16)
      → PassesBy walk (l.leaves (lut walk) c) f.a f.m f.b
      → TagAs walk c.entries (element c) (answered l (lut walk) c) c.slots (l.leaves (lut walk) c)
  -- the number of records is the channels of the runs that are there
  pub abm_counts : (walk : Walk) (c : Call) (f : Abm) → (answered l (lut walk) c).state ≡ abm f → Counts (element c) f
  -- a lut16Type is answered with the fields that were written
  pub wide_read : (walk : Walk) (c : Call) (reserved reserved2 n m : ℕ) (x : Lut) (rest : List ℕ)
      → ElementInside c
      → 48 ≤ c.size
      → MftTaken c.points x
      → Entries16 n
      → Entries16 m
      → Sized n m x
      → element c ≡ lut16_type reserved reserved2 n m x ++ rest
      → answered l (lut walk) c ≡ mft_told (fields_told16 n m x) x
  -- and so is a lut8Type
  pub narrow_read : (walk : Walk) (c : Call) (reserved reserved2 : ℕ) (x : Lut) (rest : List ℕ)
      → ElementInside c
      → 48 ≤ c.size
      → MftTaken c.points x
      → Sized 256 256 x
      → element c ≡ lut8_type reserved reserved2 x ++ rest
      → answered l (lut walk) c ≡ mft_told (fields_told8 x) x
  -- an answered `mft1` or `mft2` is one of the two
  pub mft_written : (walk : Walk) (c : Call)
      → Bytes c.profile
      → (f : Fields)
      → (answered l (lut walk) c).state ≡ mft f
      → let matrix : List ℕ = (answered l (lut walk) c).matrix in
      ElementInside c × (Begins8 c.points (element c) f matrix ⊎ Begins16 c.points (element c) f matrix)
  -- a textType is answered with the range of its string, without the zero behind it. What is taken of text besides what `icc` writes stands
  -- in text_meaning/specs/Standard.antt
  pub text_read : (c : Call) (reserved : ℕ) (cs : List ℕ)
      → Ascii cs
      → TagInside c
      → tag c ≡ text_type reserved (terminated cs)
      → answered l string c ≡ Text-as-Answer.text (span 8 (length cs))
  -- and an answered range is the string of a textType
  pub text_written : (c : Call)
      → Bytes c.profile
      → (s : Span)
      → answered l string c ≡ Text-as-Answer.text s
      → TagInside c × BeginsText (tag c) s
  -- a textDescriptionType is answered with the ranges of its strings
  pub desc_read : (c : Call) (reserved : ℕ) (d : Description) (rest : List ℕ)
      → IsDescription d
      → TagInside c
      → tag c ≡ text_description_type reserved d ++ rest
      → answered l string c ≡ description_told d
  -- and answered ranges are the strings of one
  pub desc_written : (c : Call)
      → Bytes c.profile
      → (s : Span) (u : Unicode)
      → answered l string c ≡ Text-as-Answer.desc s u
      → TagInside c × BeginsDescription (tag c) s u
  -- a multiLocalizedUnicodeType is answered with the number of its records, and the records stand in front in the slots
  pub mluc_read : (c : Call) (t : LocalizedTag (tag c))
      → MlucAsked t
      → TagInside c
      → length t.records * textWords ≤ length c.slots
      → (answered l string c ≡ Text-as-Answer.mluc (length t.records))
      × (l.leaves string c ≡ in_front (localized_told t.records) c.slots)
  -- and answered records are those of one
  pub mluc_written : (c : Call)
      → Bytes c.profile
      → (n : ℕ)
      → answered l string c ≡ Text-as-Answer.mluc n
      → ReadLocalized c.profile c.entry c.size n c.slots (l.leaves string c)
  -- an s15Fixed16ArrayType of nine numbers is answered with them
  pub chad_read : (c : Call) (reserved : ℕ) (ns : List ℕ)
      → length ns ≡ 9
      → Each32 ns
      → ElementInside c
      → element c ≡ s15_fixed16_array_type reserved ns
      → answered l (small chad) c ≡ Small-as-Answer.value ns
  -- and what is answered stands in one
  pub chad_written : (c : Call) (ws : List ℕ)
      → Bytes c.profile
      → answered l (small chad) c ≡ Small-as-Answer.value ws
      → BeginsNine c.profile c.entry c.size ws
  -- a signatureType is answered with its signature
  pub sig_read : (c : Call) → WrittenRead (reader l c sig) signature_type signature_told Is32
  -- and what is answered is that of one
  pub sig_written : (c : Call) → ReadWritten (reader l c sig) signature_type signature_told (λ p entry size. Unit)
  -- a dateTimeType is answered with the dateTimeNumber at the front of the profile
  pub date_read : (c : Call) (reserved : ℕ) (in_tag in_front_lem : DateTime) (rest : List ℕ)
      → ElementInside c
      → element c ≡ date_time_type reserved in_tag ++ rest
      → drop 8 (take 20 c.profile) ≡ date_time_number in_front_lem
      → answered l (small date) c ≡ Small-as-Answer.value (date_time_number in_front_lem)
  -- and what is answered is one
  pub date_written : (c : Call) (ws : List ℕ)
      → Bytes c.profile
      → answered l (small date) c ≡ Small-as-Answer.value ws
      → BeginsDate c.profile c.entry c.size ws
  -- a measurementType is answered with its fields
  pub meas_read : (c : Call) → WrittenRead (reader l c meas) measurement_type measurement_told (λ x. Each32 (measurement_told x))
  -- and what is answered of a tag of 36 bytes or more is those of one
  pub meas_written : (c : Call) → ReadWritten (reader l c meas) measurement_type measurement_told (λ p entry size. 36 ≤ size)
  -- a viewingConditionsType is answered with its fields
  pub view_read : (c : Call) → WrittenRead (reader l c view) viewing_conditions_type view_told (λ x. Each32 (view_told x))
  -- and what is answered of a tag inside the profile is those of one
  pub view_written : (c : Call) → ReadWritten (reader l c view) viewing_conditions_type view_told (λ p entry size. entry + size ≤ length p)
  -- an XYZType is answered with its first XYZNumber
  pub xyz_read : (c : Call) → WrittenRead (reader l c xyz) some_xyz_type first_told (λ x. Each32 (first_told x))
  -- and what is answered is the first of one
  pub xyz_written : (c : Call) → ReadWritten (reader l c xyz) some_xyz_type first_told (λ p entry size. Unit)
  -- a cicpType is answered with its four code points
  pub cicp_read : (c : Call) → WrittenRead (reader l c cicp) cicp_type cicp_told (λ x. Unit)
  -- and what is answered is those of one
  pub cicp_written : (c : Call) → ReadWritten (reader l c cicp) cicp_type cicp_told (λ p entry size. Unit)
  -- the view of an accepted `mAB ` or `mBA ` reads, at each valid index, the entry of its colour table. Offsets and sizes are 32-bit values
  pub abm_shown : (walk : Walk) (c : Call) (f : Abm)
      → c.size < 2 ^ 32
      → (answered l (lut walk) c).state ≡ abm f
      → 1 ≤ f.size
      → Shows l (tag c) (numbers_of (abm f)) (Abm·toldTable (answered l (lut walk) c).grid f) f.bytes
  -- and so does the view of an accepted `mft1` or `mft2`
  pub mft_shown : (walk : Walk) (c : Call) (f : Fields)
      → c.size < 2 ^ 32
      → (answered l (lut walk) c).state ≡ mft f
      → Shows l (tag c) (numbers_of (mft f)) (Mft·toldTable f) f.clut_bytes
  -- the view of an answered lutAToBType or lutBToAType shows the colours that were written, each at its point
  pub abm_in_order : (walk : Walk) (c : Call) (x : LutParts (element c))
      → c.size < 2 ^ 32
      → 48 ≤ c.size
      → PartsTaken x
      → answered l (lut walk) c ≡ answer_told x
      → ShowsClut (shown l c (answer_told x).state) x.clut
  -- and so does that of a lut16Type
  pub wide_in_order : (walk : Walk) (c : Call) (reserved reserved2 n m : ℕ) (x : Lut) (rest : List ℕ)
      → c.size < 2 ^ 32
      → 48 ≤ c.size
      → Sized n m x
      → Each16 x.clut
      → element c ≡ lut16_type reserved reserved2 n m x ++ rest
      → (answered l (lut walk) c).state ≡ mft (fields_told16 n m x)
      → ShowsLut l c (fields_told16 n m x) x
  -- and that of a lut8Type
  pub narrow_in_order : (walk : Walk) (c : Call) (reserved reserved2 : ℕ) (x : Lut) (rest : List ℕ)
      → c.size < 2 ^ 32
      → 48 ≤ c.size
      → Sized 256 256 x
      → element c ≡ lut8_type reserved reserved2 x ++ rest
      → (answered l (lut walk) c).state ≡ mft (fields_told8 x)
      → ShowsLut l c (fields_told8 x) x
  -- of any view: what is not valid is absent
  pub not_shown : (t : List ℕ) (n : TableNumbers) (index : List ℕ) (channel : ℕ)
      → in_grid (table_by t n).grid index && ltb channel n.outputs ≡ false
      → View·inNumbers (l.reads t n index channel) ≡ Answer.absent
  -- one evaluation, one answer
  pub evaluated_once : (e : Evaluator) (c : Pixels) (x : Evaluation) → Colour·inNumbers x ≡ evaluation e c → x ≡ l.evaluates e c
  -- the results of a pixel are its colour, in front in the lent buffer
  pub pixel_coloured : (c : Pixels) (k : ℕ)
      → evaluated l pixel c ≡ Colour-as-Answer.value k
      → l.fills pixel c ≡ in_front (colour c.tag (table_by c.tag c.table) c.coordinates) c.words
  -- a row is the calls of its pixels one after the other, each answered by its results
  pub row_is_calls : (c : Pixels) (k : ℕ)
      → evaluated l row c ≡ Colour-as-Answer.value k
      → let count : ℕ = pixels_of c.table c.coordinates in
      (l.fills row c ≡ after_calls c.tag c.table c.coordinates c.words count)
      × AllServed c.tag c.table c.coordinates (length c.words) count
  -- and one of a single pixel is that call
  pub row_of_one : (c : Pixels)
      → length c.coordinates ≡ c.table.inputs
      → (l.evaluates row c ≡ l.evaluates pixel c) × (l.fills row c ≡ l.fills pixel c)

-- ---- demand 3

-- a call with bytes behind its profile, with other limits, with words behind its slots
abbrev pub with_bytes : List ℕ → Call → Call
with_bytes q c =
    record { profile = c.profile ++ q; entry = c.entry; size = c.size; entries = c.entries; points = c.points; slots = c.slots }

abbrev pub with_limits : ℕ → ℕ → Call → Call
with_limits entries points c =
    record { profile = c.profile; entry = c.entry; size = c.size; entries = entries; points = points; slots = c.slots }

abbrev pub with_slots : List ℕ → Call → Call
with_slots x c =
    record { profile = c.profile; entry = c.entry; size = c.size; entries = c.entries; points = c.points; slots = c.slots ++ x }

-- with all three
abbrev pub with_all : List ℕ → ℕ → ℕ → List ℕ → Call → Call
with_all q entries points x c = with_slots x (with_limits entries points (with_bytes q c))

-- the call d is answered as c, every field, range and record; words x that it was lent besides stay
pub record Same (l : Library) (r : Reader) (c d : Call) (x : List ℕ) : Type 0 where
  pub result : l.returns r d ≡ l.returns r c
  pub slots : l.leaves r d ≡ l.leaves r c ++ x

-- the refusal of what lies past the profile: the tone-curve reader's own, and every other reader's
abbrev pub is_trc : Reader → Bool
is_trc (lut walk) = false
is_trc (trc walk) = true
is_trc string = false
is_trc (small s) = false

abbrev pub bytes_refusal : Reader → ℕ
bytes_refusal r = cond (is_trc r) curve_runs_out past_profile

-- the tone curve's absence for want of four bytes, but not one by a size of 1 to 11
pub record WantsFour (r : Reader) (c : Call) (o : Outcome) : Type 0 where
  pub tone_curve : is_trc r ≡ true
  pub is_absent : o ≡ absent
  pub four : length c.profile < c.entry + 4
  pub sized : (c.size ≡ 0) ⊎ (tag_size ≤ c.size)

-- what may change with more bytes, by how the call ended: that refusal and that absence
abbrev pub ByBytes : Reader → Call → Outcome → Type 0
ByBytes r c o = (o ≡ refused (bytes_refusal r)) ⊎ WantsFour r c o

-- with higher limits: each limit's own refusal, if that limit is higher
abbrev pub ByLimits : Call → ℕ → ℕ → Outcome → Type 0
ByLimits c entries points o =
    ((c.entries < entries) × (o ≡ refused too_many_entries)) ⊎ ((c.points < points) × (o ≡ refused too_many_points))

-- and with more slots
abbrev pub BySlots : Outcome → Type 0
BySlots o = o ≡ refused too_few_slots

-- the words that the records of a tag take
abbrev pub words_asked : Reader → Call → ℕ
words_asked (lut walk) c = records_needed (tag c) * record_words
words_asked (trc walk) c = 0
words_asked string c = records_asked (tag c) * textWords
words_asked (small s) c = 0

-- an evaluation with bytes behind its tag, with words behind its buffer
abbrev pub behind_tag : List ℕ → Pixels → Pixels
behind_tag q c = pixels (c.tag ++ q) c.table c.coordinates c.words

abbrev pub with_words : List ℕ → Pixels → Pixels
with_words x c = pixels c.tag c.table c.coordinates (c.words ++ x)

-- the evaluation d is answered as c, and every result is the same; words x that it was lent besides stay
pub record SameColours (l : Library) (e : Evaluator) (c d : Pixels) (x : List ℕ) : Type 0 where
  pub result : l.evaluates e d ≡ l.evaluates e c
  pub words : l.fills e d ≡ l.fills e c ++ x

-- Giving more never spoils a good answer
pub record Demand3 (l : Library) : Type 0 where
  -- bytes appended behind the profile, all else equal: but for those outcomes every field, range and written record stays
  pub bytes : (r : Reader) (c : Call) (q : List ℕ) → ByBytes r c (ends l r c) ⊎ Same l r c (with_bytes q c) []
  -- limits raised, and so
  pub limits : (r : Reader) (c : Call) (entries points : ℕ)
      → c.entries ≤ entries
      → c.points ≤ points
      → ByLimits c entries points (ends l r c) ⊎ Same l r c (with_limits entries points c) []
  -- more slots lent, and so; the words behind the records stay as they were lent
  pub slots : (r : Reader) (c : Call) (x : List ℕ) → BySlots (ends l r c) ⊎ Same l r c (with_slots x c) x
  -- where the slots are too few they do not hold the records
  pub too_few_short : (r : Reader) (c : Call) → ends l r c ≡ refused too_few_slots → length c.slots < words_asked r c
  -- and that refusal comes last: the call ends with a value once enough are lent
  pub too_few_last : (r : Reader) (c : Call) (x : List ℕ)
      → ends l r c ≡ refused too_few_slots
      → words_asked r c ≤ length (c.slots ++ x)
      → ends l r (with_slots x c) ≡ value
  -- all three together: nothing changes but what changes with one of them
  pub all : (r : Reader) (c : Call) (q : List ℕ) (entries points : ℕ) (x : List ℕ)
      → c.entries ≤ entries
      → c.points ≤ points
      → (ByBytes r c (ends l r c) ⊎ ByLimits c entries points (ends l r c) ⊎ BySlots (ends l r c))
      ⊎ Same l r c (with_all q entries points x c) x
  -- so a value keeps every field, range and written record
  pub value_stays : (r : Reader) (c : Call) (q : List ℕ) (entries points : ℕ) (x : List ℕ)
      → c.entries ≤ entries
      → c.points ≤ points
      → ends l r c ≡ value
      → Same l r c (with_all q entries points x c) x
  -- and so does a default
  pub default_stays : (r : Reader) (c : Call) (q : List ℕ) (entries points : ℕ) (x : List ℕ)
      → c.entries ≤ entries
      → c.points ≤ points
      → ends l r c ≡ default
      → Same l r c (with_all q entries points x c) x
  -- bytes appended behind a tag: but for 19 every answer and every result of an evaluation stays. Coordinates are 16-bit numbers
  pub tag_bytes_lem : (e : Evaluator) (c : Pixels) (q : List ℕ)
      → Each16 c.coordinates
      → (evaluated l e c ≡ Colour-as-Answer.refused no_colour_table) ⊎ SameColours l e c (behind_tag q c) []
  -- more words lent: but for 14, and so; the words behind the results stay as they were lent
  pub more_words : (e : Evaluator) (c : Pixels) (x : List ℕ)
      → (evaluated l e c ≡ Colour-as-Answer.refused too_few_slots) ⊎ SameColours l e c (with_words x c) x
  -- where the words are too few they do not hold the results
  pub words_short : (e : Evaluator) (c : Pixels)
      → evaluated l e c ≡ Colour-as-Answer.refused too_few_slots
      → length c.words < results_asked e c
  -- and that refusal comes last: the evaluation ends with its results once enough are lent
  pub words_last : (e : Evaluator) (c : Pixels) (x : List ℕ)
      → evaluated l e c ≡ Colour-as-Answer.refused too_few_slots
      → results_asked e c ≤ length (c.words ++ x)
      → evaluated l e (with_words x c) ≡ Colour-as-Answer.value (results_asked e c)
  -- so what has results keeps every one of them, with both
  pub results_stay : (e : Evaluator) (c : Pixels) (q x : List ℕ) (k : ℕ)
      → Each16 c.coordinates
      → evaluated l e c ≡ Colour-as-Answer.value k
      → SameColours l e c (with_words x (behind_tag q c)) x
