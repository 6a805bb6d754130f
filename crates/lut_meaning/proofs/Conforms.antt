-- Conformance to lutAToBType and lutBToAType, both ways: the head, the matrix and the CLUT on either walk; the curves on the book walk, and on the
-- crate walk where no curve before a run's last is empty. And to lut16Type and lut8Type.
-- Assumes nothing.
use Prim.Native.Nat.{ℕ, zero, suc, ◌+◌, ◌*◌, ◌/◌, ◌≤◌}
use native.Mathlib.Omega.{arith}
use native.Mathlib.Nat.{add-zero}
use mathlib.Core.Path.{◌≡◌, refl, sym, ap, ◌∙◌, subst}
use mathlib.Core.Bool.{Bool, true, false, cond, ◌&&◌, ◌||◌, and-false}
use mathlib.Core.List.{List, [], ◌∷◌, ◌++◌, map, append_assoc}
use mathlib.Core.Logic.{◌⊎◌, inl, inr}
use lib.Dec.{ltb, eqb}
use lib.ListN.{length, take, drop, replicate, length-map, length-append, length-take, length-drop}
use lib.Seq.{take_all}
use borrow.Author.Tests.{eq-eqb, ne_eqb, le-ltb, eqb-true, eqb-false, ltb-false}
use Rattle.fields.specs.Checked.{good}
use Rattle.icc.specs.Elements.{Stands, Direction, a_to_b, b_to_a, signature, Head, head_element, curves_a, curves_mb, PlacedCurve, CurvesFrom, Bias, matrix_element, precision, entry_bytes, clut_element, CurveSet, no_curves, some_curves, MatrixAt, no_matrix, the_matrix, ClutAt, no_clut, the_clut, LutParts, LutCurves}
use Rattle.icc.specs.Numbers.{be32, each32, Is32, Each32, Bytes}
use Rattle.icc.specs.Tables.{Matrix, Lut, nine, Sized, Entries16, lut16_type, lut8_type}
use Rattle.fields.proofs.Written.{read32, words_drop, words_written, bytes_drop, bytes_written, below32, words_below, part_bytes, then8, then16, then32, row32}
use Rattle.fields.specs.Bytes.{u16_at, u32_at, bytes_at, words_at}
use Rattle.fields.specs.House.{tag_size}
use Rattle.fields.specs.Place.{counted_size}
use Rattle.fields.specs.Tag.{signature_of}
use Rattle.fields.specs.declared.Kind.TheVariants.{Mab}
use Rattle.lut_clut_meaning.specs.Clut.{clut_of}
use Rattle.lut_clut_meaning.specs.Table.{Table, length_of}
use Rattle.lut_clut_meaning.specs.Standard.{table_told as table_told}
use Rattle.lut_clut_meaning.proofs.Laid.{accepted as clut-accepted}
use Rattle.lut_clut_meaning.proofs.Conforms.{told_length, written_read as clut-written, read_written as clut-read}
use Rattle.curve_meaning.specs.Shape.{record_words}
use Rattle.curve_meaning.specs.declared.Walk.{Walk}
use Rattle.curve_meaning.specs.declared.Walk.TheVariants.{Crate, Book}
use Rattle.lut_run_meaning.specs.Run.{Placed, whole, records_of, run_at}
use Rattle.lut_run_meaning.specs.Standard.{seen_of, Passes, Standing, NoneEmpty}
use Rattle.lut_run_meaning.proofs.Runs.{run_count}
use Rattle.lut_run_meaning.proofs.Conforms.{written_run, run_written, records_are, passes_by}
use Rattle.lut_run_meaning.proofs.Writing.{records_append, records_length}
use Rattle.lut_meaning.specs.Abm.{value_of, abm_of}
use Rattle.lut_mft_meaning.specs.Answer.{Fields, State, answer_of}
use Rattle.lut_mft_meaning.specs.Layout.{is_wide, is_mft, shortest, matrix_of as mftMatrix}
use Rattle.lut_mft_meaning.specs.Mft.{mft_of}
use Rattle.lut_mft_meaning.specs.Standard.{fields_told16, fields_told8, Taken as MftTaken, Begins8, Begins16}
use Rattle.lut_mft_meaning.proofs.Conforms.{written_read16, written_read8, read_written as mft_written}
use Rattle.lut_meaning.specs.Answer.{Abm, State as Abm-as-State, mft, abm, absent, refused, Answer, refuse, from_mft}
use Rattle.lut_meaning.specs.Layout.{to_pcs_of, inputs, outputs, b_offset, matrix_offset, matrix_bytes, m_offset, clut_offset, a_offset, present, device_channels, space_channels, a_curves_of, m_curves_of, b_curves_of, records_needed, matrix_of, bias_of, grid_of}
use Rattle.lut_meaning.specs.Lut.{by_type, lut_of, slots_after}
use Rattle.lut_meaning.specs.Parts.{matrix_checked, no_table, table_in, colour_table_of, run_a, run_m, run_b, ended, RunsWhole, curves_of}
use Rattle.lut_meaning.specs.Standard.{towards_pcs, curves_there, Counts, matrix_told, bias_told, MatrixTaken, start_told, bytes_told, size_told, grid_told, ClutFits, answer_told, records_written, PartsTaken, CurvesTaken, PartsAs, TagAs, PassesBy}
use Rattle.lut_meaning.proofs.Found.{Accepted, mft_value, in_profile, abm_found, mft_found}
use Rattle.lut_meaning.proofs.Inside.{matrix_inside}
use Rattle.lut_meaning.proofs.Shared.{table_in_lem}

-- ---- the head, as the reader has it

record Seen (t : List ℕ) (h : Head) : Type 0 where
  to_pcs_lem : to_pcs_of t ≡ towards_pcs h.direction
  i_is : inputs t ≡ h.input_channels
  o_is : outputs t ≡ h.output_channels
  b_is : b_offset t ≡ h.offset_b
  matrix_is : matrix_offset t ≡ h.offset_matrix
  m_is : m_offset t ≡ h.offset_m
  clut_is : clut_offset t ≡ h.offset_clut
  a_is : a_offset t ≡ h.offset_a

direction_is : (d : Direction) → eqb (signature d) (signature_of Mab) ≡ towards_pcs d
unfolding signature_of
direction_is a_to_b = refl
direction_is b_to_a = refl

signature_fits : (d : Direction) → Is32 (signature d)
signature_fits a_to_b = omega arith
signature_fits b_to_a = omega arith

head_seen : (h : Head) (rest : List ℕ) → Is32 h.offset_b → Is32 h.offset_matrix → Is32 h.offset_m → Is32 h.offset_clut → Is32 h.offset_a → Seen (head_element h ++ rest) h
unfolding head_element
head_seen h rest fb fx fm fc fa =
    record {
      to_pcs_lem = ap (λ (n : ℕ). eqb n (signature_of Mab)) (read32 (signature h.direction) (signature_fits h.direction)) ∙ direction_is h.direction;
      i_is = refl;
      o_is = refl;
      b_is = read32 h.offset_b fb;
      matrix_is = read32 h.offset_matrix fx;
      m_is = read32 h.offset_m fm;
      clut_is = read32 h.offset_clut fc;
      a_is = read32 h.offset_a fa;
    }

-- which side has how many curves
module _ (t : List ℕ) (i o : ℕ) (ei : inputs t ≡ i) (eo : outputs t ≡ o) where
  device : (d : Direction) → to_pcs_of t ≡ towards_pcs d → device_channels t ≡ elim d [ a_to_b ↦ i | b_to_a ↦ o ]
  unfolding device_channels
  device a_to_b e = ap (λ (x : Bool). cond x (inputs t) (outputs t)) e ∙ ei
  device b_to_a e = ap (λ (x : Bool). cond x (inputs t) (outputs t)) e ∙ eo

  space : (d : Direction) → to_pcs_of t ≡ towards_pcs d → space_channels t ≡ elim d [ a_to_b ↦ o | b_to_a ↦ i ]
  unfolding space_channels
  space a_to_b e = ap (λ (x : Bool). cond x (outputs t) (inputs t)) e ∙ eo
  space b_to_a e = ap (λ (x : Bool). cond x (outputs t) (inputs t)) e ∙ ei

-- ---- written, then read

module _ {t : List ℕ} where
  -- a set's curves stand from its offset on, as many as the reader counts
  set_stands : {offset channels : ℕ} {cs : List PlacedCurve} → CurveSet t offset channels cs → CurvesFrom t offset cs
  unfolding CurvesFrom
  set_stands {offset} (no_curves e n) = subst (CurvesFrom t offset) (sym n) tt
  set_stands (some_curves n k s) = s

  set_count : {offset channels : ℕ} {cs : List PlacedCurve} → CurveSet t offset channels cs → present offset channels ≡ length cs
  unfolding present
  set_count {offset} (no_curves e n) = rw (eq-eqb offset 0 e, n)
  set_count {offset} (some_curves n k s) = rw (ne_eqb offset 0 n) (sym k)

  -- the matrix
  matrix_there : (offset : ℕ) (m : Matrix) (b : Bias) → Stands t offset (matrix_element m b) → Each32 (nine m) → Each32 (b.e10 ∷ b.e11 ∷ b.e12 ∷ []) → (offset + matrix_bytes ≤ length t) × (words_at t offset 9 ≡ nine m) × (words_at t (offset + 36) 3 ≡ b.e10 ∷ b.e11 ∷ b.e12 ∷ [])
  unfolding matrix_element each32
  matrix_there offset m b s f g =
      let rest : List ℕ = be32 b.e10 ++ be32 b.e11 ++ be32 b.e12 ++ s.behind in
      let e : drop offset t ≡ each32 (nine m) ++ rest = s.is in
      let long : offset + matrix_bytes ≤ length t = omega (arith, ap length e, length-drop offset t) in
      let first : words_at t offset 9 ≡ words_at (drop offset t) 0 9 = ap (λ (i : ℕ). words_at t i 9) (sym (add-zero offset)) ∙ sym (words_drop t offset 0 9) in
      let second : words_at t (offset + 36) 3 ≡ words_at (drop offset t) 36 3 = sym (words_drop t offset 36 3) in
      (long, first ∙ ap (λ (l : List ℕ). words_at l 0 9) e ∙ words_written (nine m) rest f, second ∙ ap (λ (l : List ℕ). words_at l 36 3) e ∙ sym (words_drop (each32 (nine m) ++ rest) 36 0 3) ∙ words_written (b.e10 ∷ b.e11 ∷ b.e12 ∷ []) s.behind g)

  module _ {offset : ℕ} (e : matrix_offset t ≡ offset) where
    matrix_good : (x : MatrixAt t offset) → MatrixTaken x → matrix_checked t ≡ good tt
    unfolding matrix_checked MatrixTaken
    matrix_good (no_matrix z) f = rw (e, eq-eqb offset 0 z)
    matrix_good (the_matrix n m b s) (f, g) = rw (e, ne_eqb offset 0 n, le-ltb (length t) (offset + matrix_bytes) (matrix_there offset m b s f g).0)

    matrix_told_lem : (x : MatrixAt t offset) → MatrixTaken x → matrix_of t ≡ matrix_told x
    unfolding matrix_of matrix_told MatrixTaken
    matrix_told_lem (no_matrix z) f = rw (e, eq-eqb offset 0 z)
    matrix_told_lem (the_matrix n m b s) (f, g) = rw (e, ne_eqb offset 0 n) (matrix_there offset m b s f g).1

    bias_told_lem : (x : MatrixAt t offset) → MatrixTaken x → bias_of t ≡ bias_told x
    unfolding bias_of bias_told MatrixTaken
    bias_told_lem (no_matrix z) f = rw (e, eq-eqb offset 0 z)
    bias_told_lem (the_matrix n m b s) (f, g) = rw (e, ne_eqb offset 0 n) (matrix_there offset m b s f g).2

  -- the CLUT
  module _ {offset i o : ℕ} (e : clut_offset t ≡ offset) (ei : inputs t ≡ i) (eo : outputs t ≡ o) where
    abbrev table_for : ClutAt t offset i o → Table
    table_for (no_clut z) = no_table
    table_for (the_clut n c s y) = table_told offset o c

    table_good : (x : ClutAt t offset i o) → ClutFits x → colour_table_of t ≡ good (table_for x)
    unfolding colour_table_of ClutFits
    table_good (no_clut z) f = rw (e, eq-eqb offset 0 z)
    table_good (the_clut n c s y) f = rw (e, ei, eo, ne_eqb offset 0 n) (clut-written t offset i o c s y f)

    start_told_lem : (x : ClutAt t offset i o) → (table_for x).start ≡ start_told x
    unfolding start_told
    start_told_lem (no_clut z) = refl
    start_told_lem (the_clut n c s y) = refl

    size_told_lem : (x : ClutAt t offset i o) → (table_for x).size ≡ size_told x
    unfolding size_told
    size_told_lem (no_clut z) = refl
    size_told_lem (the_clut n c s y) = refl

    bytes_told_lem : (x : ClutAt t offset i o) → length_of (table_for x) ≡ bytes_told x
    unfolding bytes_told
    bytes_told_lem (no_clut z) = omega arith
    bytes_told_lem (the_clut n c s y) = told_length t offset i o c s y

    grid_told_lem : (x : ClutAt t offset i o) → grid_of t ≡ grid_told x
    unfolding grid_of grid_told clut_element
    grid_told_lem (no_clut z) = rw (e, eq-eqb offset 0 z)
    grid_told_lem (the_clut n c s y) =
        let g : List ℕ = c.grid ++ c.unused in
        let k : length g ≡ 16 = length-append c.grid c.unused ∙ y.sixteen in
        let rest : List ℕ = precision c.entries ∷ c.pad1 ∷ c.pad2 ∷ c.pad3 ∷ (entry_bytes c.entries ++ s.behind) in
        let q : drop offset t ≡ g ++ rest = s.is ∙ simp append_assoc in
        let w : bytes_at (g ++ rest) 0 16 ≡ g = ap (bytes_at (g ++ rest) 0) (sym k) ∙ bytes_written g rest in
        rw (e, ne_eqb offset 0 n) (ap (λ (i : ℕ). bytes_at t i 16) (sym (add-zero offset)) ∙ sym (bytes_drop t offset 0 16) ∙ ap (λ (l : List ℕ). bytes_at l 0 16) q ∙ w)

few_is : (i o : ℕ) → (i ≤ 4) ⊎ (o ≤ 4) → ltb 4 i && ltb 4 o ≡ false
few_is i o (inl l) = rw (le-ltb 4 i l)
few_is i o (inr l) = rw (le-ltb 4 o l) (and-false (ltb 4 i))

-- a set has as many curves as the answer tells
pub there_is : (offset channels : ℕ) → present offset channels ≡ curves_there offset channels
unfolding present
there_is zero channels = refl
there_is (suc offset) channels = rw (ne_eqb (suc offset) 0 (λ z. omega arith))

module _ (t : List ℕ) (l : LutParts t) (f : PartsTaken l) where
  abbrev h : Head
  h = l.head

  seen : Seen t h
  seen = subst (λ s. Seen s h) (sym l.begins.is) (head_seen h l.begins.behind f.b_offset_lem f.matrix_offset_lem f.m_offset_lem f.clut_offset_lem f.a_offset_lem)

  a_counted : a_curves_of t ≡ present h.offset_a (curves_a h)
  unfolding a_curves_of
  a_counted = rw (seen.a_is, device t h.input_channels h.output_channels seen.i_is seen.o_is h.direction seen.to_pcs_lem)

  m_counted : m_curves_of t ≡ present h.offset_m (curves_mb h)
  unfolding m_curves_of
  m_counted = rw (seen.m_is, space t h.input_channels h.output_channels seen.i_is seen.o_is h.direction seen.to_pcs_lem)

  b_counted : b_curves_of t ≡ present h.offset_b (curves_mb h)
  unfolding b_curves_of
  b_counted = rw (seen.b_is, space t h.input_channels h.output_channels seen.i_is seen.o_is h.direction seen.to_pcs_lem)

  abbrev table : Table
  table = table_for seen.clut_is seen.i_is seen.o_is l.clut

  table_read : colour_table_of t ≡ good table
  table_read = table_good seen.clut_is seen.i_is seen.o_is l.clut f.clut_fits

  -- the answer tells what was written
  value_told : value_of t ≡ answer_told l
  unfolding value_of
  value_told =
      rw (table_in_lem t table table_read, start_told_lem seen.clut_is seen.i_is seen.o_is l.clut, bytes_told_lem seen.clut_is seen.i_is seen.o_is l.clut, size_told_lem seen.clut_is seen.i_is seen.o_is l.clut, grid_told_lem seen.clut_is seen.i_is seen.o_is l.clut, matrix_told_lem seen.matrix_is l.matrix f.matrix_fits, bias_told_lem seen.matrix_is l.matrix f.matrix_fits, a_counted, m_counted, b_counted, there_is h.offset_a (curves_a h), there_is h.offset_m (curves_mb h), there_is h.offset_b (curves_mb h), seen.to_pcs_lem, seen.i_is, seen.o_is)

  module _ (walk : Walk) (limit : ℕ) (c : LutCurves t h) (k : CurvesTaken walk limit c) where
    a_count : a_curves_of t ≡ length c.a
    a_count = a_counted ∙ set_count c.a_set

    m_count : m_curves_of t ≡ length c.m
    m_count = m_counted ∙ set_count c.m_set

    b_count : b_curves_of t ≡ length c.b
    b_count = b_counted ∙ set_count c.b_set

    run_a_lem : run_a walk limit t ≡ record { curves = map seen_of c.a; end = whole }
    run_a_lem = rw (seen.a_is, a_count) (written_run walk limit t h.offset_a c.a (set_stands c.a_set) k.a_fit k.a_passes)

    run_m_lem : run_m walk limit t ≡ record { curves = map seen_of c.m; end = whole }
    run_m_lem = rw (seen.m_is, m_count) (written_run walk limit t h.offset_m c.m (set_stands c.m_set) k.m_fit k.m_passes)

    run_b_lem : run_b walk limit t ≡ record { curves = map seen_of c.b; end = whole }
    run_b_lem = rw (seen.b_is, b_count) (written_run walk limit t h.offset_b c.b (set_stands c.b_set) k.b_fit k.b_passes)

    -- the records of the tag are those of the curves that were written
    pub written_records : records_of (curves_of walk limit t) ≡ records_written c
    unfolding curves_of
    written_records =
        rw (run_a_lem, run_m_lem, run_b_lem) (records_append (map seen_of c.a ++ map seen_of c.m) (map seen_of c.b) ∙ rw (records_append (map seen_of c.a) (map seen_of c.m), records_are c.a, records_are c.m, records_are c.b))

    -- and the answer is as told, if the slots suffice
    pub written_read : (words : ℕ) → (length c.a + length c.m + length c.b) * record_words ≤ words → abm_of walk limit t words ≡ answer_told l
    unfolding abm_of ended records_needed
    written_read words room =
        let few : ltb 4 (inputs t) && ltb 4 (outputs t) ≡ false = rw (seen.i_is, seen.o_is) (few_is h.input_channels h.output_channels f.few_channels) in
        let enough : records_needed t ≤ words / record_words = omega (arith, a_count, m_count, b_count) in
        rw (few, matrix_good seen.matrix_is l.matrix f.matrix_fits, table_read, run_a_lem, run_m_lem, run_b_lem, le-ltb (words / record_words) (records_needed t) enough) value_told

-- ---- read, then written

few_back : (i o : ℕ) → ltb 4 i && ltb 4 o ≡ false → (i ≤ 4) ⊎ (o ≤ 4)
few_back i o = by (ltb 4 i) refl
  where
    by : (x : Bool) → ltb 4 i ≡ x → x && ltb 4 o ≡ false → (i ≤ 4) ⊎ (o ≤ 4)
    by true e h = inr (ltb-false 4 o h)
    by false e h = inl (ltb-false 4 i e)

module _ (t : List ℕ) (b : Bytes t) where
  set_of : (offset channels : ℕ) (cs : List PlacedCurve) → CurvesFrom t offset cs → length cs ≡ present offset channels → CurveSet t offset channels cs
  unfolding present
  set_of offset channels cs s = by (eqb offset 0) refl
    where
      by : (x : Bool) → eqb offset 0 ≡ x → length cs ≡ cond x 0 channels → CurveSet t offset channels cs
      by true e n = no_curves (eqb-true offset 0 e) (sym (take_all 0 cs (omega (arith, n))))
      by false e n = some_curves (eqb-false offset 0 e) n s

  -- four bytes on, and twelve numbers from there on
  abbrev w : ℕ → ℕ
  w i = u32_at t i

  matrix_at_lem : (offset : ℕ) → (offset ≡ 0 → ⊥) → offset + matrix_bytes ≤ length t → (x : MatrixAt t offset) × MatrixTaken x
  unfolding MatrixTaken matrix_element each32 words_at
  matrix_at_lem offset n l =
      let i2 : ℕ = offset + 4 in
      let i3 : ℕ = i2 + 4 in
      let i4 : ℕ = i3 + 4 in
      let i5 : ℕ = i4 + 4 in
      let i6 : ℕ = i5 + 4 in
      let i7 : ℕ = i6 + 4 in
      let i8 : ℕ = i7 + 4 in
      let i9 : ℕ = i8 + 4 in
      let i10 : ℕ = i9 + 4 in
      let m : Matrix = record { e1 = w offset; e2 = w i2; e3 = w i3; e4 = w i4; e5 = w i5; e6 = w i6; e7 = w i7; e8 = w i8; e9 = w i9 } in
      let q : Bias = record { e10 = w i10; e11 = w (i10 + 4); e12 = w (i10 + 4 + 4) } in
      (the_matrix n m q record { behind = drop (offset + matrix_bytes) t; is = row32 t b 12 offset l refl refl }, (words_below t b offset 9, words_below t b i10 3))

  matrix_of_lem : (offset : ℕ) → (offset ≡ 0) ⊎ (offset + matrix_bytes ≤ length t) → (x : MatrixAt t offset) × MatrixTaken x
  unfolding MatrixTaken
  matrix_of_lem offset h = by (eqb offset 0) refl
    where
      by : (x : Bool) → eqb offset 0 ≡ x → (x : MatrixAt t offset) × MatrixTaken x
      by true e = (no_matrix (eqb-true offset 0 e), tt)
      by false e = elim h [
        | inl z ↦ absurd (eqb-false offset 0 e z)
        | inr l ↦ matrix_at_lem offset (eqb-false offset 0 e) l
      ]

  clut_of_lem : (i o : ℕ) → inputs t ≡ i → outputs t ≡ o → ((clut_offset t ≡ 0 → ⊥) → i ≤ 16) → (table : Table) → colour_table_of t ≡ good table → (x : ClutAt t (clut_offset t) i o) × ClutFits x
  unfolding colour_table_of ClutFits
  clut_of_lem i o ei eo few table = by (eqb (clut_offset t) 0) refl
    where
      by : (x : Bool) → eqb (clut_offset t) 0 ≡ x → cond x (good no_table) (clut_of t (clut_offset t) (inputs t) (outputs t)) ≡ good table → (x : ClutAt t (clut_offset t) i o) × ClutFits x
      by true e h = (no_clut (eqb-true (clut_offset t) 0 e), tt)
      by false e h =
          let s = clut-read t b (clut_offset t) i o (few (eqb-false (clut_offset t) 0 e)) table (rw (ei, eo) at h) in
          (the_clut (eqb-false (clut_offset t) 0 e) s.clut s.stands s.sized, s.taken)

  module _ (walk : Walk) (limit words : ℕ) (d : Direction) (e : u32_at t 0 ≡ signature d) (long : 32 ≤ length t) (few : (clut_offset t ≡ 0 → ⊥) → inputs t ≤ 16) (v : Accepted walk limit t words (abm_of walk limit t words)) where
    abbrev head : Head
    head =
        record {
          direction = d;
          reserved = u32_at t 4;
          input_channels = inputs t;
          output_channels = outputs t;
          reserved2 = u16_at t 10;
          offset_b = b_offset t;
          offset_matrix = matrix_offset t;
          offset_m = m_offset t;
          offset_clut = clut_offset t;
          offset_a = a_offset t;
        }

    begins : Stands t 0 (head_element head)
    unfolding head_element
    begins =
        record {
          behind = drop 32 t;
          is = then32 t b 0 (omega arith) e (then32 t b 4 (omega arith) refl (then8 t 8 (omega arith) refl (then8 t 9 (omega arith) refl (then16 t b 10 (omega arith) refl (then32 t b 12 (omega arith) refl (then32 t b 16 (omega arith) refl (then32 t b 20 (omega arith) refl (then32 t b 24 (omega arith) refl (then32 t b 28 long refl refl)))))))));
        }

    parts : LutParts t
    parts =
        record {
          head = head;
          begins = begins;
          matrix = (matrix_of_lem (matrix_offset t) (matrix_inside t v.parts_good.matrix_good)).0;
          clut = (clut_of_lem (inputs t) (outputs t) refl refl few (table_in t) v.parts_good.table_good).0;
        }

    taken : PartsTaken parts
    unfolding parts
    taken =
        record {
          few_channels = few_back (inputs t) (outputs t) v.parts_good.few_channels;
          b_offset_lem = below32 t b 12;
          matrix_offset_lem = below32 t b 16;
          m_offset_lem = below32 t b 20;
          clut_offset_lem = below32 t b 24;
          a_offset_lem = below32 t b 28;
          matrix_fits = (matrix_of_lem (matrix_offset t) (matrix_inside t v.parts_good.matrix_good)).1;
          clut_fits = (clut_of_lem (inputs t) (outputs t) refl refl few (table_in t) v.parts_good.table_good).1;
        }

    frame : PartsAs t (abm_of walk limit t words)
    frame = record { parts = parts; taken = taken; answer_is = v.answer_is ∙ value_told t parts taken }

    -- a run that is whole, and whose curves the walk steps over, is a set of curves
    module _ (a_passes : Passes walk (run_a walk limit t).curves) (m_passes : Passes walk (run_m walk limit t).curves) (b_passes : Passes walk (run_b walk limit t).curves) where
      counted : (at n : ℕ) → (run_at walk limit t at n).end ≡ whole → (r : Standing limit t at (run_at walk limit t at n).curves) → length r.curves ≡ n
      counted at n q r = sym (length-map r.curves seen_of) ∙ ap length (sym r.seen) ∙ run_count walk limit t at n q

      set_from : (at n channels : ℕ) → (run_at walk limit t at n).end ≡ whole → (r : Standing limit t at (run_at walk limit t at n).curves) → n ≡ present at channels → CurveSet t at channels r.curves
      set_from at n channels q r c = set_of at channels r.curves r.stand (counted at n q r ∙ c)

      ra : Standing limit t (a_offset t) (run_at walk limit t (a_offset t) (a_curves_of t)).curves
      ra = run_written walk limit t b (a_offset t) (a_curves_of t) a_passes

      rm : Standing limit t (m_offset t) (run_at walk limit t (m_offset t) (m_curves_of t)).curves
      rm = run_written walk limit t b (m_offset t) (m_curves_of t) m_passes

      rb : Standing limit t (b_offset t) (run_at walk limit t (b_offset t) (b_curves_of t)).curves
      rb = run_written walk limit t b (b_offset t) (b_curves_of t) b_passes

      curves : LutCurves t head
      unfolding parts
      curves =
          record {
            a = ra.curves;
            m = rm.curves;
            b = rb.curves;
            a_set = set_from (a_offset t) (a_curves_of t) (curves_a head) v.parts_good.runs_whole.a_whole ra (a_counted t parts taken);
            m_set = set_from (m_offset t) (m_curves_of t) (curves_mb head) v.parts_good.runs_whole.m_whole rm (m_counted t parts taken);
            b_set = set_from (b_offset t) (b_curves_of t) (curves_mb head) v.parts_good.runs_whole.b_whole rb (b_counted t parts taken);
          }

      curves_taken : CurvesTaken walk limit curves
      unfolding curves
      curves_taken =
          record {
            a_fit = ra.fit;
            m_fit = rm.fit;
            b_fit = rb.fit;
            a_passes = subst (Passes walk) ra.seen a_passes;
            m_passes = subst (Passes walk) rm.seen m_passes;
            b_passes = subst (Passes walk) rb.seen b_passes;
          }

      back : (slots left : List ℕ) → let records : List ℕ = records_of (curves_of walk limit t) in left ≡ records ++ drop (length records) slots → TagAs walk limit t (abm_of walk limit t words) slots left
      unfolding frame parts
      back slots left e =
          record { frame = frame; curves = curves; taken = curves_taken; slots_are = e ∙ ap (λ (x : List ℕ). x ++ drop (length x) slots) (written_records t parts taken walk limit curves curves_taken) }

-- ---- a tag of a profile

module _ (limit points : ℕ) (p : List ℕ) (entry size words : ℕ) (inside : entry + size ≤ length p) (long : shortest ≤ size) where
  abbrev tag_bytes : List ℕ
  tag_bytes = take size (drop entry p)

  module _ (walk : Walk) where
    type_read : (d : Direction) → u32_at tag_bytes 0 ≡ signature d → lut_of walk limit points p entry size words ≡ abm_of walk limit tag_bytes words
    unfolding lut_of by_type is_mft is_wide signature_of
    type_read d e =
        let some : size ≡ 0 → ⊥ = λ z. omega arith in
        rw (ne_eqb size 0 some, le-ltb (length p) (entry + size) inside, le-ltb size shortest long, e) (by d)
      where
        by : (d : Direction) → cond (eqb (signature d) 0x6d667431 || eqb (signature d) 0x6d667432) (from_mft (answer_of tag_bytes (mft_of points tag_bytes))) (cond (eqb (signature d) 0x6d414220 || eqb (signature d) 0x6d424120) (abm_of walk limit tag_bytes words) (refuse 3)) ≡ abm_of walk limit tag_bytes words
        by a_to_b = refl
        by b_to_a = refl

    module _ (l : LutParts tag_bytes) (f : PartsTaken l) (c : LutCurves tag_bytes l.head) (k : CurvesTaken walk limit c) (room : (length c.a + length c.m + length c.b) * record_words ≤ words) where
      -- what the standard writes, anywhere in a profile, is answered with what was written
      pub profile_read : lut_of walk limit points p entry size words ≡ answer_told l
      unfolding head_element
      profile_read =
          let e : u32_at tag_bytes 0 ≡ signature l.head.direction = ap (λ (s : List ℕ). u32_at s 0) l.begins.is ∙ read32 (signature l.head.direction) (signature_fits l.head.direction) in
          type_read l.head.direction e ∙ written_read tag_bytes l f walk limit c k words room

      -- and leaves the records of the curves that were written in front of the lent slots
      pub profile_slots : (slots : List ℕ) → length slots ≡ words → slots_after walk limit points p entry size slots ≡ records_written c ++ drop (length (records_written c)) slots
      profile_slots slots n =
          let some : size ≡ 0 → ⊥ = λ z. omega arith in
          rw (n, ne_eqb size 0 some, profile_read, written_records tag_bytes l f walk limit c k)

  -- the same of lut16Type and lut8Type, on either walk
  mft_read : (walk : Walk) → is_mft tag_bytes ≡ true → lut_of walk limit points p entry size words ≡ from_mft (answer_of tag_bytes (mft_of points tag_bytes))
  unfolding lut_of by_type
  mft_read walk e =
      let some : size ≡ 0 → ⊥ = λ z. omega arith in
      rw (ne_eqb size 0 some, le-ltb (length p) (entry + size) inside, le-ltb size shortest long, e)

  pub profile_read16 : (walk : Walk) (reserved reserved2 n m : ℕ) (l : Lut) (rest : List ℕ) → MftTaken points l → Entries16 n → Entries16 m → Sized n m l → tag_bytes ≡ lut16_type reserved reserved2 n m l ++ rest → lut_of walk limit points p entry size words ≡ record { state = mft (fields_told16 n m l); grid = replicate 16 0; matrix = nine l.matrix; bias = replicate 3 0 }
  unfolding is_mft is_wide signature_of lut16_type
  profile_read16 walk reserved reserved2 n m l rest k en em z e =
      mft_read walk (ap is_mft e) ∙ ap (λ (t : List ℕ). from_mft (answer_of t (mft_of points t))) e ∙ ap from_mft (written_read16 points reserved reserved2 l rest k n m en em z)

  pub profile_read8 : (walk : Walk) (reserved reserved2 : ℕ) (l : Lut) (rest : List ℕ) → MftTaken points l → Sized 256 256 l → tag_bytes ≡ lut8_type reserved reserved2 l ++ rest → lut_of walk limit points p entry size words ≡ record { state = mft (fields_told8 l); grid = replicate 16 0; matrix = nine l.matrix; bias = replicate 3 0 }
  unfolding is_mft is_wide signature_of lut8_type
  profile_read8 walk reserved reserved2 l rest k z e =
      mft_read walk (ap is_mft e) ∙ ap (λ (t : List ℕ). from_mft (answer_of t (mft_of points t))) e ∙ ap from_mft (written_read8 points reserved reserved2 l rest k z)

-- ---- what is answered of a profile is what the standard writes

counted_is : (size : ℕ) → shortest ≤ counted_size size → counted_size size ≡ size
counted_is size = by (eqb size 0)
  where
    by : (x : Bool) → shortest ≤ cond x tag_size size → cond x tag_size size ≡ size
    by true l = absurd (omega arith)
    by false l = refl

-- a step over each curve by the records is one by the curves
module _ (walk : Walk) (limit : ℕ) (t : List ℕ) (g : RunsWhole walk limit t) where
  abbrev ca : List Placed
  ca = (run_a walk limit t).curves

  abbrev cm : List Placed
  cm = (run_m walk limit t).curves

  abbrev cb : List Placed
  cb = (run_b walk limit t).curves

  a_long : length ca ≡ a_curves_of t
  a_long = run_count walk limit t (a_offset t) (a_curves_of t) g.a_whole

  m_long : length cm ≡ m_curves_of t
  m_long = run_count walk limit t (m_offset t) (m_curves_of t) g.m_whole

  b_long : length cb ≡ b_curves_of t
  b_long = run_count walk limit t (b_offset t) (b_curves_of t) g.b_whole

-- a number of an answer
abbrev number_in : (Abm → ℕ) → Abm-as-State → ℕ
number_in g (abm f) = g f
number_in g (mft f) = 0
number_in g absent = 0
number_in g (refused n) = 0

-- a colour table that is there has entries of some bytes
table_sized : (t : List ℕ) (table : Table) → colour_table_of t ≡ good table → (clut_offset t ≡ 0 → ⊥) → 1 ≤ table.size
unfolding colour_table_of
table_sized t table h there =
    let e : clut_of t (clut_offset t) (inputs t) (outputs t) ≡ good table = rw (ne_eqb (clut_offset t) 0 there) at h in
    (clut-accepted t (clut_offset t) (inputs t) (outputs t) table e).laid.size_least

three_passes : (walk : Walk) (a m b : List Placed) (rest : List ℕ) → PassesBy walk (records_of (a ++ m ++ b) ++ rest) (length a) (length m) (length b) → Passes walk a × Passes walk m × Passes walk b
unfolding PassesBy Passes
three_passes Book a m b rest h = (tt, tt, tt)
three_passes Crate a m b rest (ha, hm, hb) =
    let ra : List ℕ = records_of a in
    let rm : List ℕ = records_of m in
    let rb : List ℕ = records_of b in
    let all : records_of (a ++ m ++ b) ++ rest ≡ ra ++ rm ++ rb ++ rest = ap (λ (x : List ℕ). x ++ rest) (records_append (a ++ m) b ∙ ap (λ (x : List ℕ). x ++ rb) (records_append a m)) in
    let first : records_of (a ++ m ++ b) ++ rest ≡ [] ++ (ra ++ (rm ++ (rb ++ rest))) = all ∙ simp append_assoc in
    let second : records_of (a ++ m ++ b) ++ rest ≡ ra ++ (rm ++ (rb ++ rest)) = all ∙ simp append_assoc in
    let third : records_of (a ++ m ++ b) ++ rest ≡ (ra ++ rm) ++ (rb ++ rest) = all ∙ simp append_assoc in
    let la : length ra ≡ length a * record_words = records_length a in
    let lm : length (ra ++ rm) ≡ (length a + length m) * record_words = length-append ra rm ∙ omega (arith, la, records_length m) in
    (passes_by [] 0 refl a (rm ++ (rb ++ rest)) (subst (λ (x : List ℕ). NoneEmpty x 0 (length a)) first ha), passes_by ra (length a) la m (rb ++ rest) (subst (λ (x : List ℕ). NoneEmpty x (length a) (length m)) second hm), passes_by (ra ++ rm) (length a + length m) lm b rest (subst (λ (x : List ℕ). NoneEmpty x (length a + length m) (length b)) third hb))

-- the number of records, on every accepted call
module _ (limit points : ℕ) (p : List ℕ) (entry size : ℕ) (walk : Walk) (words : ℕ) (f : Abm) (h : (lut_of walk limit points p entry size words).state ≡ abm f) where
  pub profile_counts : Counts (take size (drop entry p)) f
  unfolding value_of a_curves_of m_curves_of b_curves_of device_channels space_channels
  profile_counts =
      let w = abm_found walk limit points p entry size words f h in
      let t : List ℕ = take (counted_size size) (drop entry p) in
      let v = w.behind in
      let same : abm f ≡ (value_of t).state = sym h ∙ ap (λ (a : Answer). a.state) (w.as_abm ∙ v.answer_is) in
      let d : f.to_pcs_of ≡ to_pcs_of t = cc in
      let i : f.inputs ≡ inputs t = ap (number_in (λ x. x.inputs)) same in
      let o : f.outputs ≡ outputs t = ap (number_in (λ x. x.outputs)) same in
      let a : f.a ≡ present (a_offset t) (cond f.to_pcs_of f.inputs f.outputs) = rw (d, i, o) (ap (number_in (λ x. x.a)) same) in
      let m : f.m ≡ present (m_offset t) (cond f.to_pcs_of f.outputs f.inputs) = rw (d, i, o) (ap (number_in (λ x. x.m)) same) in
      let b : f.b ≡ present (b_offset t) (cond f.to_pcs_of f.outputs f.inputs) = rw (d, i, o) (ap (number_in (λ x. x.b)) same) in
      subst (λ (n : ℕ). Counts (take n (drop entry p)) f) (counted_is size w.long) record { a_is = a ∙ there_is _ _; m_is = m ∙ there_is _ _; b_is = b ∙ there_is _ _ }

module _ (limit points : ℕ) (p : List ℕ) (b : Bytes p) (entry size : ℕ) where
  abbrev tag_in : List ℕ
  tag_in = take size (drop entry p)

  module _ (walk : Walk) (words : ℕ) (f : Abm) (h : (lut_of walk limit points p entry size words).state ≡ abm f) (few : 1 ≤ f.size → f.inputs ≤ 16) where
    -- the CLUT of the standard has grid points for sixteen input channels
    sixteen : let t : List ℕ = take (counted_size size) (drop entry p) in (clut_offset t ≡ 0 → ⊥) → inputs t ≤ 16
    unfolding value_of
    sixteen there =
        let w = abm_found walk limit points p entry size words f h in
        let t : List ℕ = take (counted_size size) (drop entry p) in
        let v = w.behind in
        let same : abm f ≡ (value_of t).state = sym h ∙ ap (λ (a : Answer). a.state) (w.as_abm ∙ v.answer_is) in
        let i : f.inputs ≡ inputs t = ap (number_in (λ x. x.inputs)) same in
        let k : f.size ≡ (table_in t).size = ap (number_in (λ x. x.size)) same in
        omega (arith, i, k, few (omega (arith, k, table_sized t (table_in t) v.parts_good.table_good there)))

    -- the head, the matrix and the CLUT, on either walk
    pub profile_parts : (entry + size ≤ length p) × PartsAs tag_in (lut_of walk limit points p entry size words)
    unfolding signature_of
    profile_parts =
        let w = abm_found walk limit points p entry size words f h in
        let k = counted_is size w.long in
        let t : List ℕ = take (counted_size size) (drop entry p) in
        let c : Bytes t = part_bytes p b entry (counted_size size) in
        let long : 32 ≤ length t = omega (arith, w.long, w.tag_in_profile, length-take (counted_size size) (drop entry p), length-drop entry p) in
        let r : PartsAs t (abm_of walk limit t words) = elim w.type_is [
          | inl e ↦ frame t c walk limit words a_to_b e long sixteen w.behind
          | inr e ↦ frame t c walk limit words b_to_a e long sixteen w.behind
        ] in
        (rw k at w.tag_in_profile, rw k at (rw (← w.as_abm) at r))

    -- and the curves, where the walk steps over each but the last of its set
    pub profile_written : (slots left : List ℕ) → length slots ≡ words → slots_after walk limit points p entry size slots ≡ left → PassesBy walk left f.a f.m f.b → (entry + size ≤ length p) × TagAs walk limit tag_in (lut_of walk limit points p entry size words) slots left
    unfolding signature_of value_of curves_of
    profile_written slots left n q pass =
        let w = abm_found walk limit points p entry size words f h in
        let k = counted_is size w.long in
        let t : List ℕ = take (counted_size size) (drop entry p) in
        let c : Bytes t = part_bytes p b entry (counted_size size) in
        let long : 32 ≤ length t = omega (arith, w.long, w.tag_in_profile, length-take (counted_size size) (drop entry p), length-drop entry p) in
        let g = w.behind.parts_good.runs_whole in
        let records : List ℕ = records_of (curves_of walk limit t) in
        let rest : List ℕ = drop (length records) slots in
        let e : left ≡ records ++ rest = sym q ∙ rw (n, h) in
        let same : abm f ≡ (value_of t).state = sym h ∙ ap (λ (a : Answer). a.state) (w.as_abm ∙ w.behind.answer_is) in
        let fa : f.a ≡ length (ca walk limit t g) = ap (number_in (λ x. x.a)) same ∙ sym (a_long walk limit t g) in
        let fm : f.m ≡ length (cm walk limit t g) = ap (number_in (λ x. x.m)) same ∙ sym (m_long walk limit t g) in
        let fb : f.b ≡ length (cb walk limit t g) = ap (number_in (λ x. x.b)) same ∙ sym (b_long walk limit t g) in
        let passed = three_passes walk (ca walk limit t g) (cm walk limit t g) (cb walk limit t g) rest (rw (← fa, ← fm, ← fb, ← e) pass) in
        let r : TagAs walk limit t (abm_of walk limit t words) slots left = elim w.type_is [
          | inl y ↦ back t c walk limit words a_to_b y long sixteen w.behind passed.0 passed.1 passed.2 slots left e
          | inr y ↦ back t c walk limit words b_to_a y long sixteen w.behind passed.0 passed.1 passed.2 slots left e
        ] in
        (rw k at w.tag_in_profile, rw k at (rw (← w.as_abm) at r))

  pub profile_written_mft : (walk : Walk) (words : ℕ) (f : Fields) → (lut_of walk limit points p entry size words).state ≡ mft f → let a : Answer = lut_of walk limit points p entry size words in (entry + size ≤ length p) × (Begins8 points tag_in f a.matrix ⊎ Begins16 points tag_in f a.matrix)
  unfolding answer_of
  profile_written_mft walk words f h =
      let w = mft_found walk limit points p entry size words f h in
      let v = in_profile walk limit points p entry size words (mft_value h) in
      let k = counted_is size v.1 in
      let t : List ℕ = take (counted_size size) (drop entry p) in
      let x : (lut_of walk limit points p entry size words).matrix ≡ mftMatrix t = ap (λ (a : Answer). a.matrix) w.as_mft ∙ ap (λ (s : State). (answer_of t s).matrix) w.read_as in
      let r = mft_written points t (part_bytes p b entry (counted_size size)) f w.read_as in
      (rw k at v.0, rw k at (rw (← x) at r))
