-- The wrong readers and evaluators break a demand, each by one small call: an empty curve, a table of two entries, an `XYZ ` tag, the `mAB ` tag
-- of the worked cases, a cube of colours, and a colour table of two points.
-- Assumes nothing.
use Prim.Native.Nat.{ℕ, ◌+◌}
use native.Mathlib.Omega.{arith}
use mathlib.Core.Path.{◌≡◌, refl, ap, ◌∙◌}
use mathlib.Core.List.{List, [], ◌∷◌}
use mathlib.Core.Logic.{inl}
use lib.ListN.{length, get_or, drop, replicate}
use Rattle.icc.specs.Each.{Each}
use Rattle.fields.proofs.Never.{never}
use Rattle.icc.specs.Curves.{sampled, parametric, curve_element, curve_type, parametric_curve_type, type0, encoded, parameters, Defined}
use Rattle.icc.specs.Elements.{Stands, a_to_b, Head, head_element, PlacedCurve, CurvesFrom, no_curves, some_curves, no_matrix, no_clut, LutParts, LutCurves}
use Rattle.icc.specs.Numbers.{each16, each32}
use Rattle.icc.specs.Small.{each_xyz, xyz_type}
use Rattle.fields.specs.House.{house_entries}
use Rattle.fields.specs.Refusals.{too_few_slots}
use Rattle.fields.specs.Some.{some}
use Rattle.fields.specs.Tag.{signature_of}
use Rattle.curve_meaning.specs.Cases.{none, two}
use Rattle.curve_meaning.specs.Shape.{Shape, empty, table, para, record_words, words_of}
use Rattle.curve_meaning.specs.Standard.{CurveFits, record_told, Tag}
use Rattle.curve_meaning.specs.declared.Walk.TheVariants.{Crate, Book}
use Rattle.lut_run_meaning.specs.Run.{aligned}
use Rattle.lut_run_meaning.specs.Standard.{Passes, records_told}
use Rattle.lut_meaning.specs.Answer.{State, mft, abm, absent as State·absent, refused as State·refused, in_numbers as Lut·inNumbers, Answer as Lut-as-Answer}
use Rattle.lut_meaning.specs.Cases.{tag as threeCurves}
use Rattle.lut_meaning.specs.Layout.{present, device_channels, space_channels, a_curves_of, m_curves_of, b_curves_of, records_needed}
use Rattle.lut_meaning.specs.Standard.{MatrixTaken, ClutFits, answer_told, records_written, PartsTaken, CurvesTaken}
use Rattle.std.specs.Prelude.{Some, None, Ok, Err}
use Rattle.lut_meaning.specs.declared.Lut.{Lut}
use Rattle.lut_meaning.specs.declared.Lut.TheVariants.{Mft, Abm}
use Rattle.lut_run_meaning.proofs.Conforms.{aligned_next}
use Rattle.lut_meaning.proofs.Conforms.{written_records}
use Rattle.small_meaning.specs.Standard.{SomeXyz}
use Rattle.lut_clut_meaning.specs.Cases.{cube}
use Rattle.lut_clut_meaning.specs.Table.{product, point_of}
use Rattle.lut_view_meaning.specs.View.{grid_from, numbers_of}
use Rattle.evaluate_meaning.specs.Answer.{value, refused}
use Rattle.evaluate_meaning.specs.Calls.{after_calls}
use Rattle.evaluate_meaning.specs.Colour.{cell_of, rest_of, between, colour_of, sample_at, corner_of, colours_from}
use Rattle.evaluate_meaning.specs.Evaluate.{odd_numbers, outside, no_table, pixel_answer, pixel_after, row_answer}
use Rattle.demands.specs.Readers.{lut, Call, pixel, row, Pixels, pixels, evaluation, Library, Promised, answered}
use Rattle.demands.specs.Demands.{in_front, curve_at, Demand1, Demand2}
use Rattle.demands.specs.Returned.{Returned}
use Rattle.demands.specs.Cases.{Holds, call, lone, with_table, with_slots_for}
use Rattle.demands.specs.Wrong.{refuses_all, always_default, always_identity, unwritten, copied, made_up, too_early, zeroed, copies, with_one_curve, evaluates_nothing, unfilled, repeated, filled_early, ShutOut}
use Rattle.demands.proofs.Cases.{book_walk, cube_numbers}
use Rattle.demands.proofs.Ends.{ends_so}

refuses_all_lem : (l : Library) → Demand2 (refuses_all l) → ⊥
unfolding CurveFits Tag curve_element curve_type each16
refuses_all_lem l d =
    let e = d.curve_read Crate (lone none 12) (sampled 0 []) [] (omega arith, omega arith) (refl, omega arith) in
    never cc

always_identity_lem : (l : Library) → Demand2 (always_identity l) → ⊥
unfolding CurveFits Tag curve_element curve_type each16 record_told
always_identity_lem l d =
    let e = d.curve_read Crate (lone two 16) (sampled 0 (0 ∷ 65535 ∷ [])) [] (omega arith, omega arith) (refl, omega arith) in
    never cc

-- an `XYZ ` tag of zeros
abbrev black : List ℕ
black = 0x58 ∷ 0x59 ∷ 0x5a ∷ 0x20 ∷ replicate 16 0

always_default_lem : (l : Library) → Demand2 (always_default l) → ⊥
unfolding Each xyz_type each_xyz
always_default_lem l d =
    let x : SomeXyz = record { first = record { X = 0; Y = 0; Z = 0 }; others = [] } in
    let e = d.xyz_read (lone [] 0) black 0 20 0 x [] (omega arith, (omega arith, (omega arith, tt))) (omega arith) refl in
    never cc

-- ---- the `mAB ` tag of the worked cases, with its three curves

abbrev head : Head
head =
    record {
      direction = a_to_b;
      reserved = 0;
      input_channels = 3;
      output_channels = 3;
      reserved2 = 0;
      offset_b = 32;
      offset_matrix = 0;
      offset_m = 0;
      offset_clut = 0;
      offset_a = 0;
    }

begins : Stands threeCurves 0 (head_element head)
unfolding head_element
begins = record { behind = drop 32 threeCurves; is = refl }

abbrev parts : LutParts threeCurves
parts = record { head = head; begins = begins; matrix = no_matrix refl; clut = no_clut refl }

abbrev three : List PlacedCurve
three =
    record { offset = 32; curve = sampled 0 [] } ∷
    record { offset = 44; curve = sampled 0 [] } ∷
    record { offset = 56; curve = parametric 0 0 (type0 65536) } ∷
    []

stand : CurvesFrom threeCurves 32 three
unfolding CurvesFrom aligned curve_element curve_type parametric_curve_type encoded parameters each16 each32
stand =
    (refl, record { behind = drop 44 threeCurves; is = refl }, (44, aligned_next 44, (refl, record { behind = drop 56 threeCurves; is = refl }, (56, aligned_next 56, (refl, record { behind = []; is = refl }, (72, aligned_next 72, tt))))))

abbrev curves : LutCurves threeCurves head
curves =
    record { a = []; m = []; b = three; a_set = no_curves refl refl; m_set = no_curves refl refl; b_set = some_curves (λ e. omega (arith, e)) refl stand }

parts_taken : PartsTaken parts
unfolding MatrixTaken ClutFits
parts_taken =
    record {
      few_channels = inl (omega arith);
      b_offset_lem = omega arith;
      matrix_offset_lem = omega arith;
      m_offset_lem = omega arith;
      clut_offset_lem = omega arith;
      a_offset_lem = omega arith;
      matrix_fits = tt;
      clut_fits = tt;
    }

curves_taken : CurvesTaken Book house_entries curves
unfolding Each CurveFits Passes parameters Defined
curves_taken =
    record {
      a_fit = tt;
      m_fit = tt;
      b_fit = ((omega arith, omega arith), ((omega arith, omega arith), (((omega arith, tt), tt), tt)));
      a_passes = tt;
      m_passes = tt;
      b_passes = tt;
    }

-- how each library must answer it, and what it must leave
record Said (l : Library) : Type 0 where
  answer : answered l (lut Book) (with_slots_for 3) ≡ answer_told parts
  slots : l.leaves (lut Book) (with_slots_for 3) ≡ in_front (records_written curves) (with_slots_for 3).slots

three_said : (l : Library) → Demand2 l → Said l
three_said l d =
    let e = d.abm_read Book (with_slots_for 3) record { parts = parts; curves = curves } (omega arith) (omega arith) parts_taken curves_taken (omega arith) in
    record { answer = e.0; slots = e.1 }

-- the first word would be a 7 that was lent
slots_unwritten : (l : Library) → Demand2 (unwritten l) → ⊥
unfolding records_told record_told
slots_unwritten l d =
    let e : ◌≡◌ {A = ℕ} 7 0 = ap (λ (ws : List ℕ). get_or ws 0 0) (three_said (unwritten l) d).slots in
    omega (arith, e)

-- the second record would start where the first does
first_copied : (l : Library) → Demand2 (copied l) → ⊥
unfolding copies records_needed present device_channels space_channels a_curves_of m_curves_of b_curves_of records_told record_told signature_of
first_copied l d =
    let read = written_records threeCurves parts parts_taken Book house_entries curves curves_taken in
    let e : ◌≡◌ {A = ℕ} 44 56 = ap (λ (ws : List ℕ). get_or ws (record_words + 1) 0) (simp read at (three_said (copied l) d).slots) in
    omega (arith, e)

-- one B curve would be three
count_made_up : (l : Library) → Demand2 (made_up l) → ⊥
count_made_up l d =
    by (l.returns (lut Book) (with_slots_for 3)) (ap (λ (a : Lut-as-Answer). a.state) (three_said (made_up l) d).answer)
  where
    curves_in : State → ℕ
    curves_in (abm f) = f.b
    curves_in (mft f) = 0
    curves_in State·absent = 0
    curves_in (State·refused n) = 0

    by : (a : Returned Lut) → (Lut·inNumbers (with_one_curve a)).state ≡ (answer_told parts).state → ⊥
    by (Ok (Some (Mft m))) e = let z : ◌≡◌ {A = ℕ} 0 3 = ap curves_in e in omega (arith, z)
    by (Ok (Some (Abm t))) e = let z : ◌≡◌ {A = ℕ} 1 3 = ap curves_in e in omega (arith, z)
    by (Ok None) e = let z : ◌≡◌ {A = ℕ} 0 3 = ap curves_in e in omega (arith, z)
    by (Err why) e = let z : ◌≡◌ {A = ℕ} 0 3 = ap curves_in e in omega (arith, z)

-- with two slots the call is refused, and the first word would be that of a record
written_too_early : (l : Library) → Promised l → Demand1 (too_early l) → ⊥
unfolding records_told record_told Holds
written_too_early l p d =
    let c : Call = with_slots_for 2 in
    let refused-so = ends_so l p (lut Book) c ∙ book_walk.two_slots.0 in
    let read = written_records threeCurves parts parts_taken Book house_entries curves curves_taken in
    let e : ◌≡◌ {A = ℕ} 0 7 = ap (λ (ws : List ℕ). get_or ws 0 0) (simp read at (d.refusal_leaves_slots (lut Book) c too_few_slots refused-so)) in
    omega (arith, e)

-- the second word of a record tells where its data start, 12 bytes behind the curve's offset
start_told_lem : (start : ℕ) (s : Shape) → get_or (words_of start s) 1 0 ≡ start
unfolding words_of
start_told_lem start empty = refl
start_told_lem start (table n) = refl
start_told_lem start (para type ps) = refl

-- so it is no zero
records_zeroed : (l : Library) → Promised l → Demand1 (zeroed l) → ⊥
unfolding Holds records_needed present device_channels space_channels a_curves_of m_curves_of b_curves_of signature_of
records_zeroed l p d =
    let c : Call = with_slots_for 3 in
    let said = p.answers (lut Book) c ∙ book_walk.answer in
    let first = (d.abm_inside Book c _ (ap (λ (a : Lut-as-Answer). a.state) said)).curves_in_tag 0 (omega arith) in
    let e : 0 ≡ (curve_at Book c 0).at + 12 = ap (λ (ws : List ℕ). get_or ws 1 0) first.record_is ∙ start_told_lem _ (curve_at Book c 0).shape in
    omega (arith, e)

-- ---- evaluators

-- the answer of a table that is accepted would be 19
evaluates_nothing_lem : (l : Library) → Promised l → Demand1 (evaluates_nothing l) → ⊥
evaluates_nothing_lem l p d =
    let c : Call = call (with_table 3 3 cube) 76 [] in
    let same = ap (λ (a : Lut-as-Answer). numbers_of a.state) (p.answers (lut Crate) c) ∙ cube_numbers in
    let e = d.accepted_evaluates Crate c pixel (0 ∷ 0 ∷ 0 ∷ []) (7 ∷ 7 ∷ 7 ∷ []) (rw same (omega arith)) (rw same (omega arith)) (rw same (omega arith)) (rw same refl) (rw same (omega arith)) in
    never cc

-- two points with so many outputs, whose entries are 0 and 65535 in turn, and words 7
abbrev line : ℕ → List ℕ → Pixels
line outputs xs =
    pixels (2 ∷ 0 ∷ 255 ∷ 0 ∷ 255 ∷ []) record { start = record { 0 = 1 }; entry_size = 1; inputs = 1; outputs = outputs; grid_at = record { 0 = 0 }; grid_step = 0 } xs (replicate (length xs) 7)

record Line : Type 0 where
  served : evaluation pixel (line 1 (65535 ∷ [])) ≡ value 1
  row_served : evaluation row (line 1 (0 ∷ 65535 ∷ [])) ≡ value 2
  short : evaluation pixel (line 2 (65535 ∷ [])) ≡ refused too_few_slots

on_line : Line
unfolding pixel_answer row_answer no_table odd_numbers outside grid_from some product
on_line = record { served = refl; row_served = refl; short = refl }

-- the word of the second point would be a 7 that was lent
words_unfilled : (l : Library) → Demand2 (unfilled l) → ⊥
unfolding grid_from colours_from colour_of corner_of sample_at cell_of rest_of between point_of product
words_unfilled l d =
    let c : Pixels = line 1 (65535 ∷ []) in
    let answer = (d.promised.evaluates_so pixel c).answer ∙ on_line.served in
    let e : ◌≡◌ {A = ℕ} 7 65535 = ap (λ (ws : List ℕ). get_or ws 0 0) (d.pixel_coloured c 1 answer) in
    omega (arith, e)

-- the second pixel would be the first
first_repeated : (l : Library) → Demand2 (repeated l) → ⊥
unfolding copies after_calls pixel_after pixel_answer no_table odd_numbers outside some grid_from colours_from colour_of corner_of sample_at cell_of rest_of between point_of product
first_repeated l d =
    let c : Pixels = line 1 (0 ∷ 65535 ∷ []) in
    let answer = (d.promised.evaluates_so row c).answer ∙ on_line.row_served in
    let e : ◌≡◌ {A = ℕ} 0 65535 = ap (λ (ws : List ℕ). get_or ws 1 0) (d.row_is_calls c 2 answer).0 in
    omega (arith, e)

-- with one word the call is refused, and that word would be the first result
filled_too_early : (l : Library) → Promised l → Demand1 (filled_early l) → ⊥
unfolding grid_from colours_from colour_of corner_of sample_at cell_of rest_of between point_of product
filled_too_early l p d =
    let c : Pixels = line 2 (65535 ∷ []) in
    let answer = (p.evaluates_so pixel c).answer ∙ on_line.short in
    let e : ◌≡◌ {A = ℕ} 0 7 = ap (λ (ws : List ℕ). get_or ws 0 0) (d.refusal_leaves_words pixel c too_few_slots answer) in
    omega (arith, e)

pub shut_out : (l : Library) → ShutOut l
shut_out l =
    record {
      refuses_all_lem = refuses_all_lem l;
      always_identity_lem = always_identity_lem l;
      always_default_lem = always_default_lem l;
      slots_unwritten = slots_unwritten l;
      first_copied = first_copied l;
      count_made_up = count_made_up l;
      written_too_early = written_too_early l;
      records_zeroed = records_zeroed l;
      evaluates_nothing_lem = evaluates_nothing_lem l;
      words_unfilled = words_unfilled l;
      first_repeated = first_repeated l;
      filled_too_early = filled_too_early l;
    }
