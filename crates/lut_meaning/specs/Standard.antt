-- A lutAToBType or lutBToAType as the standard writes it (crate `icc`), what this library asks of one besides, and what it answers. Nothing here
-- goes by the reader's own layout.
use Rattle.std.specs.Prelude.{ℕ, zero, suc, ◌+◌, ◌≤◌, ◌≡◌, Bool, true, false, cond, List, [], ◌∷◌, ◌++◌, map, ◌⊎◌, length, drop, replicate}
use Rattle.fields.specs.Bytes.{u32_at}
use Rattle.icc.specs.Elements.{Direction, a_to_b, b_to_a, Head, curves_a, curves_mb, precision, entry_bytes, MatrixAt, no_matrix, the_matrix, ClutAt, no_clut, the_clut, LutParts, LutCurves}
use Rattle.icc.specs.Numbers.{Is32, Each32}
use Rattle.icc.specs.Tables.{nine}
use Rattle.lut_clut_meaning.specs.Standard.{Taken as ClutTaken}
use Rattle.curve_meaning.specs.declared.Walk.{Walk}
use Rattle.curve_meaning.specs.declared.Walk.TheVariants.{Crate, Book}
use Rattle.lut_run_meaning.specs.Standard.{seen_of, AllFit, Passes, records_told, NoneEmpty}
use Rattle.lut_meaning.specs.Answer.{Abm, abm, Answer}

-- ---- what is answered

abbrev pub towards_pcs : Direction → Bool
towards_pcs a_to_b = true
towards_pcs b_to_a = false

-- a set of curves whose offset is 0 is not there
abbrev pub curves_there : ℕ → ℕ → ℕ
curves_there zero channels = 0
curves_there (suc offset) channels = channels

-- the number of records: the channels of the runs that are there, by the tag t, which has the offsets of A, M and B at bytes 28, 20 and 12. A
-- curves stand on the device's side, M and B curves on the connection space's
pub record Counts (t : List ℕ) (f : Abm) : Type 0 where
  pub a_is : f.a ≡ curves_there (u32_at t 28) (cond f.to_pcs_of f.inputs f.outputs)
  pub m_is : f.m ≡ curves_there (u32_at t 20) (cond f.to_pcs_of f.outputs f.inputs)
  pub b_is : f.b ≡ curves_there (u32_at t 12) (cond f.to_pcs_of f.outputs f.inputs)

module _ {t : List ℕ} where
  module _ {offset : ℕ} where
    -- a matrix that is not there is the identity, and its bias zeros
    unfoldable pub matrix_told : MatrixAt t offset → List ℕ
    matrix_told (no_matrix e) = 65536 ∷ 0 ∷ 0 ∷ 0 ∷ 65536 ∷ 0 ∷ 0 ∷ 0 ∷ 65536 ∷ []
    matrix_told (the_matrix n m b s) = nine m

    unfoldable pub bias_told : MatrixAt t offset → List ℕ
    bias_told (no_matrix e) = 0 ∷ 0 ∷ 0 ∷ []
    bias_told (the_matrix n m b s) = b.e10 ∷ b.e11 ∷ b.e12 ∷ []

    unfoldable pub MatrixTaken : MatrixAt t offset → Type 0
    MatrixTaken (no_matrix e) = Unit
    MatrixTaken (the_matrix n m b s) = Each32 (nine m) × Each32 (b.e10 ∷ b.e11 ∷ b.e12 ∷ [])

    -- a CLUT that is not there has no data, at 0
    module _ {inputs outputs : ℕ} where
      unfoldable pub start_told : ClutAt t offset inputs outputs → ℕ
      start_told (no_clut e) = 0
      start_told (the_clut n c s z) = offset + 20

      unfoldable pub bytes_told : ClutAt t offset inputs outputs → ℕ
      bytes_told (no_clut e) = 0
      bytes_told (the_clut n c s z) = length (entry_bytes c.entries)

      unfoldable pub size_told : ClutAt t offset inputs outputs → ℕ
      size_told (no_clut e) = 0
      size_told (the_clut n c s z) = precision c.entries

      unfoldable pub grid_told : ClutAt t offset inputs outputs → List ℕ
      grid_told (no_clut e) = replicate 16 0
      grid_told (the_clut n c s z) = c.grid ++ c.unused

      unfoldable pub ClutFits : ClutAt t offset inputs outputs → Type 0
      ClutFits (no_clut e) = Unit
      ClutFits (the_clut n c s z) = ClutTaken c

  -- the answer to a tag: it is told by the head, the matrix and the CLUT, on either walk
  abbrev pub answer_told : LutParts t → Answer
  answer_told l =
      let h : Head = l.head in
      record {
        state =
            abm
            record {
              to_pcs_of = towards_pcs h.direction;
              inputs = h.input_channels;
              outputs = h.output_channels;
              start = start_told l.clut;
              bytes = bytes_told l.clut;
              size = size_told l.clut;
              a = curves_there h.offset_a (curves_a h);
              m = curves_there h.offset_m (curves_mb h);
              b = curves_there h.offset_b (curves_mb h);
            };
        grid = grid_told l.clut;
        matrix = matrix_told l.matrix;
        bias = bias_told l.matrix;
      }

  -- the records of its curves: A, M, B
  abbrev pub records_written : {h : Head} → LutCurves t h → List ℕ
  records_written c = records_told c.a ++ records_told c.m ++ records_told c.b

  -- ---- what is asked

  -- at most four channels on one side, offsets of 32 bits, and what is asked of a matrix and of a CLUT
  pub record PartsTaken (l : LutParts t) : Type 0 where
    pub few_channels : (l.head.input_channels ≤ 4) ⊎ (l.head.output_channels ≤ 4)
    pub b_offset_lem : Is32 l.head.offset_b
    pub matrix_offset_lem : Is32 l.head.offset_matrix
    pub m_offset_lem : Is32 l.head.offset_m
    pub clut_offset_lem : Is32 l.head.offset_clut
    pub a_offset_lem : Is32 l.head.offset_a
    pub matrix_fits : MatrixTaken l.matrix
    pub clut_fits : ClutFits l.clut

  -- and of each curve; and that the walk steps over each but the last of its set
  pub record CurvesTaken (walk : Walk) (limit : ℕ) {h : Head} (c : LutCurves t h) : Type 0 where
    pub a_fit : AllFit limit c.a
    pub m_fit : AllFit limit c.m
    pub b_fit : AllFit limit c.b
    pub a_passes : Passes walk (map seen_of c.a)
    pub m_passes : Passes walk (map seen_of c.m)
    pub b_passes : Passes walk (map seen_of c.b)

-- ---- and back

-- the tag t is written so, its curves aside, and answered so
pub record PartsAs (t : List ℕ) (answer : Answer) : Type 0 where
  pub parts : LutParts t
  pub taken : PartsTaken parts
  pub answer_is : answer ≡ answer_told parts

-- with its curves, whose records stand in front of the slots as they are left
pub record TagAs (walk : Walk) (limit : ℕ) (t : List ℕ) (answer : Answer) (slots left : List ℕ) : Type 0 where
  pub frame : PartsAs t answer
  pub curves : LutCurves t frame.parts.head
  pub taken : CurvesTaken walk limit curves
  pub slots_are : left ≡ records_written curves ++ drop (length (records_written curves)) slots

-- by the records in the slots, the walk steps over each curve but the last of its set
unfoldable pub PassesBy : Walk → (slots : List ℕ) (a m b : ℕ) → Type 0
PassesBy Book slots a m b = Unit
PassesBy Crate slots a m b = NoneEmpty slots 0 a × NoneEmpty slots a m × NoneEmpty slots (a + m) b
