-- Demand 1 of lookup tables, on both walks: in an accepted answer each curve, the matrix and each table lie inside the tag, the tag lies
-- inside the profile, and each valid grid index reads inside the colour table.
-- Assumes nothing.
use Prim.Native.Nat.{ℕ, ◌+◌, ◌*◌, ◌≤◌, ◌<◌, min}
use native.Mathlib.Omega.{arith}
use mathlib.Core.Path.{◌≡◌, refl, sym, ap, ◌∙◌, subst}
use mathlib.Core.Bool.{Bool, true, false, cond}
use mathlib.Core.List.{List, [], ◌∷◌, ◌++◌}
use mathlib.Core.Logic.{◌⊎◌, inl, inr}
use lib.Dec.{ltb, eqb}
use lib.ListN.{length, get_or, take, drop, replicate}
use lib.Seq.{take-take}
use borrow.Author.Tests.{ltb-false, eqb-true, eqb-false, eq-eqb, ne_eqb}
use Rattle.icc.specs.Each.{Each}
use Rattle.fields.proofs.Never.{never}
use Rattle.fields.specs.Checked.{Checked, good}
use Rattle.fields.specs.Place.{counted_size, counted_tag}
use Rattle.fields.specs.Bytes.{u32_at, bytes_at, words_at}
use Rattle.fields.specs.Tag.{signature_of}
use Rattle.fields.specs.declared.Kind.TheVariants.{Mab, Mba}
use Rattle.fields.proofs.Choice.{each}
use Rattle.fields.proofs.Words.{bytes_part}
use Rattle.lut_clut_meaning.specs.Clut.{clut_of}
use Rattle.lut_clut_meaning.specs.Table.{Table, length_of, in_grid, entry_number}
use Rattle.lut_clut_meaning.proofs.Laid.{accepted as laid_out}
use Rattle.lut_clut_meaning.proofs.Grid.{entry_below}
use Rattle.lut_clut_meaning.proofs.Inside.{inside}
use Rattle.curve_meaning.specs.declared.Walk.{Walk}
use Rattle.lut_mft_meaning.specs.Answer.{Fields, answer_of}
use Rattle.lut_mft_meaning.proofs.Inside.{Inside as MftInside, inside as inside-mft}
use Rattle.lut_run_meaning.specs.Run.{Placed, CurveStands}
use Rattle.lut_run_meaning.proofs.Runs.{run_inside}
use Rattle.lut_meaning.specs.Abm.{value_of, told_table}
use Rattle.lut_meaning.specs.Answer.{Abm, mft, abm, Answer}
use Rattle.lut_meaning.specs.Layout.{records_needed, to_pcs_of, inputs, outputs, matrix_offset, matrix_bytes, bias_from, clut_offset, a_offset, m_offset, b_offset, a_curves_of, m_curves_of, b_curves_of, identity, matrix_of, bias_of, grid_of}
use Rattle.lut_meaning.specs.Lut.{lut_of}
use Rattle.lut_meaning.specs.Parts.{matrix_checked, no_table, table_in, colour_table_of, curves_of}
use Rattle.lut_meaning.proofs.Found.{abm_found, mft_found}
use Rattle.lut_meaning.proofs.Needed.{needed_curves}

each_append : (P : Placed → Type 0) (k m : List Placed) → Each P k → Each P m → Each P (k ++ m)
unfolding Each
each_append P [] m x y = y
each_append P (c ∷ k) m x y = (x.0, each_append P k m x.1 y)

-- every curve that a walk meets stands in the tag
pub curves_inside : (walk : Walk) (limit : ℕ) (t : List ℕ) → Each (CurveStands limit t) (curves_of walk limit t)
unfolding curves_of
curves_inside walk limit t =
    each_append _ _ _ (each_append _ _ _ (run_inside walk limit t (a_offset t) (a_curves_of t)) (run_inside walk limit t (m_offset t) (m_curves_of t))) (run_inside walk limit t (b_offset t) (b_curves_of t))

-- a matrix that is good is not there, or lies in the tag
pub matrix_inside : (t : List ℕ) → matrix_checked t ≡ good tt → (matrix_offset t ≡ 0) ⊎ (matrix_offset t + matrix_bytes ≤ length t)
unfolding matrix_checked
matrix_inside t =
    let P : Checked Unit → Type 0 = λ j. j ≡ good tt → (matrix_offset t ≡ 0) ⊎ (matrix_offset t + matrix_bytes ≤ length t) in
    each P (eqb (matrix_offset t) 0) _ _ (λ e h. inl (eqb-true (matrix_offset t) 0 e))
    (λ _. each P (ltb (length t) (matrix_offset t + matrix_bytes)) _ _ (λ _ h. never cc)
    (λ f h. inr (ltb-false (length t) (matrix_offset t + matrix_bytes) f)))

-- a matrix and a bias that are answered: none, or those that stand there
abbrev pub MatrixTold : List ℕ → List ℕ → List ℕ → Type 0
MatrixTold t matrix bias =
    ((matrix_offset t ≡ 0) × (matrix ≡ identity) × (bias ≡ replicate 3 0))
    ⊎ ((matrix_offset t ≡ 0 → ⊥) × (matrix_offset t + matrix_bytes ≤ length t) × (matrix ≡ words_at t (matrix_offset t) 9) × (bias ≡ words_at t (matrix_offset t + bias_from) 3))

pub matrix_told_lem : (t : List ℕ) → matrix_checked t ≡ good tt → MatrixTold t (matrix_of t) (bias_of t)
unfolding matrix_of bias_of
matrix_told_lem t g = by (eqb (matrix_offset t) 0) refl (matrix_inside t g)
  where
    by : (b : Bool) → eqb (matrix_offset t) 0 ≡ b → (matrix_offset t ≡ 0) ⊎ (matrix_offset t + matrix_bytes ≤ length t) → MatrixTold t (cond b identity (words_at t (matrix_offset t) 9)) (cond b (replicate 3 0) (words_at t (matrix_offset t + bias_from) 3))
    by true e h = inl (eqb-true (matrix_offset t) 0 e, refl, refl)
    by false e (inl z) = absurd (eqb-false (matrix_offset t) 0 e z)
    by false e (inr l) = inr (eqb-false (matrix_offset t) 0 e, l, refl, refl)

-- the data of a table that is there lie in the tag, and one that is not has none
pub table_inside : (t : List ℕ) (table : Table) → colour_table_of t ≡ good table → table.start + length_of table ≤ length t
unfolding colour_table_of
table_inside t table = by (eqb (clut_offset t) 0)
  where
    none : no_table.start + length_of no_table ≤ length t
    none = omega arith

    by : (b : Bool) → cond b (good no_table) (clut_of t (clut_offset t) (inputs t) (outputs t)) ≡ good table → table.start + length_of table ≤ length t
    by true h = let e : no_table ≡ table = cc in subst (λ (x : Table). x.start + length_of x ≤ length t) e none
    by false h = (inside t (clut_offset t) (inputs t) (outputs t) table h).data_in_tag

-- and so do its sixteen grid bytes
pub grid_inside : (t : List ℕ) (table : Table) → clut_of t (clut_offset t) (inputs t) (outputs t) ≡ good table → clut_offset t + 16 ≤ length t
grid_inside t table h =
    let a = (laid_out t (clut_offset t) (inputs t) (outputs t) table h).laid in
    omega (arith, a.whole, a.start_is)

-- a table and grid bytes that are answered: none, or the sixteen bytes in front of the table, with the bytes of an entry behind them
abbrev pub GridTold : List ℕ → Table → List ℕ → Type 0
GridTold t table grid =
    ((clut_offset t ≡ 0) × (table ≡ no_table) × (grid ≡ replicate 16 0))
    ⊎ ((clut_offset t ≡ 0 → ⊥) × (table.start ≡ clut_offset t + 20) × (table.size ≡ get_or t (clut_offset t + 16) 0) × (grid ≡ take 16 (drop (clut_offset t) t)))

pub grid_told_lem : (t : List ℕ) (table : Table) → colour_table_of t ≡ good table → GridTold t table (grid_of t)
unfolding colour_table_of grid_of
grid_told_lem t table = by (eqb (clut_offset t) 0) refl
  where
    by : (b : Bool) → eqb (clut_offset t) 0 ≡ b → colour_table_of t ≡ good table → GridTold t table (grid_of t)
    by true e h =
        let none : good no_table ≡ good table = rw e at h in
        let same : table ≡ no_table = cc in
        rw e (inl (eqb-true (clut_offset t) 0 e, same, refl))
    by false e h =
        let there : clut_of t (clut_offset t) (inputs t) (outputs t) ≡ good table = rw e at h in
        let a = (laid_out t (clut_offset t) (inputs t) (outputs t) table there).laid in
        rw e (inr (eqb-false (clut_offset t) 0 e, a.start_is, a.size_is, bytes_part t _ _ (grid_inside t table there)))

-- a table that is there has the grid and the output channels that are answered
table_told_lem : (t : List ℕ) (table : Table) → colour_table_of t ≡ good table → 1 ≤ table.size → (take (min (inputs t) 16) (grid_of t) ≡ table.grid) × (outputs t ≡ table.outputs)
unfolding colour_table_of grid_of
table_told_lem t table = by (eqb (clut_offset t) 0)
  where
    by : (b : Bool) → cond b (good no_table) (clut_of t (clut_offset t) (inputs t) (outputs t)) ≡ good table → 1 ≤ table.size → (take (min (inputs t) 16) (cond b (replicate 16 0) (bytes_at t (clut_offset t) 16)) ≡ table.grid) × (outputs t ≡ table.outputs)
    by true h l = let e : 0 ≡ table.size = cc in absurd (omega arith)
    by false h l =
        let a = (laid_out t (clut_offset t) (inputs t) (outputs t) table h).laid in
        let few : min (inputs t) 16 ≤ 16 = omega arith in
        (ap (take (min (inputs t) 16)) (bytes_part t (clut_offset t) 16 (grid_inside t table h)) ∙ take-take (min (inputs t) 16) 16 (drop (clut_offset t) t) few ∙ sym a.grid_is, sym a.outputs_are)

told_length : (grid : List ℕ) (f : Abm) (table : Table) → take (min f.inputs 16) grid ≡ table.grid → f.outputs ≡ table.outputs → f.size ≡ table.size → length_of (told_table grid f) ≡ length_of table
told_length grid f table a b c = rw (a, b, c) refl

-- a direction that is answered: that of the type
abbrev pub DirectionTold : List ℕ → Bool → Type 0
DirectionTold t direction =
    ((u32_at t 0 ≡ signature_of Mab) × (direction ≡ true)) ⊎ ((u32_at t 0 ≡ signature_of Mba) × (direction ≡ false))

other_type : signature_of Mba ≡ signature_of Mab → ⊥
unfolding signature_of
other_type e = omega arith

pub direction_told : (t : List ℕ) → (u32_at t 0 ≡ signature_of Mab) ⊎ (u32_at t 0 ≡ signature_of Mba) → DirectionTold t (to_pcs_of t)
direction_told t (inl e) = inl (e, eq-eqb (u32_at t 0) (signature_of Mab) e)
direction_told t (inr e) = inr (e, ne_eqb (u32_at t 0) (signature_of Mab) (λ z. other_type (sym e ∙ z)))

-- ---- `mAB ` and `mBA `, told of the answer's own numbers
pub record Inside (walk : Walk) (limit : ℕ) (p : List ℕ) (entry size : ℕ) (a : Answer) (f : Abm) : Type 0 where
  pub tag_in_profile : entry + counted_size size ≤ length p
  pub curves_in_tag : Each (CurveStands limit (counted_tag p entry size)) (curves_of walk limit (counted_tag p entry size))
  pub curves_counted : length (curves_of walk limit (counted_tag p entry size)) ≡ f.a + f.m + f.b
  pub direction_is : DirectionTold (counted_tag p entry size) f.to_pcs_of
  pub inputs_are : f.inputs ≡ inputs (counted_tag p entry size)
  pub outputs_are : f.outputs ≡ outputs (counted_tag p entry size)
  pub matrix_is : MatrixTold (counted_tag p entry size) a.matrix a.bias
  pub table : Table
  pub grid_is : GridTold (counted_tag p entry size) table a.grid
  pub start_is : f.start ≡ table.start
  pub bytes_are : f.bytes ≡ length_of table
  pub size_is : f.size ≡ table.size
  pub table_in_tag : f.start + f.bytes ≤ length (counted_tag p entry size)
  pub entry_in_table : 1 ≤ f.size → (index : List ℕ) (channel : ℕ) → in_grid (told_table a.grid f).grid index ≡ true → channel < f.outputs → entry_number (told_table a.grid f) index channel * f.size + f.size ≤ f.bytes

pub lut_inside : (walk : Walk) (limit points : ℕ) (p : List ℕ) (entry size words : ℕ) (f : Abm) → (lut_of walk limit points p entry size words).state ≡ abm f → Inside walk limit p entry size (lut_of walk limit points p entry size words) f
unfolding value_of records_needed
lut_inside walk limit points p entry size words f h =
    let t : List ℕ = counted_tag p entry size in
    let w = abm_found walk limit points p entry size words f h in
    let v = w.behind.parts_good in
    let table : Table = table_in t in
    let said = w.as_abm ∙ w.behind.answer_is in
    let e : abm f ≡ (value_of t).state = sym h ∙ ap (λ (a : Answer). a.state) said in
    let e₀ : f.to_pcs_of ≡ to_pcs_of t = cc in
    let e₁ : f.start ≡ table.start = cc in
    let e₂ : f.bytes ≡ length_of table = cc in
    let e₃ : f.size ≡ table.size = cc in
    let e₄ : f.inputs ≡ inputs t = cc in
    let e₅ : f.outputs ≡ outputs t = cc in
    let e₆ : f.a ≡ a_curves_of t = cc in
    let e₇ : f.m ≡ m_curves_of t = cc in
    let e₈ : f.b ≡ b_curves_of t = cc in
    let grid : List ℕ = (lut_of walk limit points p entry size words).grid in
    let g₁ : grid ≡ grid_of t = ap (λ (a : Answer). a.grid) said in
    let told : 1 ≤ f.size → length_of (told_table grid f) ≡ f.bytes =
    λ l. let k = table_told_lem t table v.table_good (omega (arith, e₃)) in
    let same : take (min f.inputs 16) grid ≡ take (min (inputs t) 16) (grid_of t) = cc in
    told_length grid f table (same ∙ k.0) (e₅ ∙ k.1) e₃ ∙ sym e₂ in
    record {
      tag_in_profile = w.tag_in_profile;
      curves_in_tag = curves_inside walk limit t;
      curves_counted = omega (arith, e₆, e₇, e₈, needed_curves walk limit t v.runs_whole);
      direction_is = rw e₀ (direction_told t w.type_is);
      inputs_are = e₄;
      outputs_are = e₅;
      matrix_is = rw said (matrix_told_lem t v.matrix_good);
      table = table;
      grid_is = rw said (grid_told_lem t table v.table_good);
      start_is = e₁;
      bytes_are = e₂;
      size_is = e₃;
      table_in_tag = omega (arith, e₁, e₂, table_inside t table v.table_good);
      entry_in_table = λ l index channel valid low. omega (arith, entry_below (told_table grid f) index channel valid low, told l);
    }

-- ---- `mft1` and `mft2`

pub mft_inside : (walk : Walk) (limit points : ℕ) (p : List ℕ) (entry size words : ℕ) (f : Fields) → (lut_of walk limit points p entry size words).state ≡ mft f → (entry + counted_size size ≤ length p) × MftInside (counted_tag p entry size) f × (lut_of walk limit points p entry size words ≡ record { state = mft f; grid = replicate 16 0; matrix = words_at (counted_tag p entry size) 12 9; bias = replicate 3 0 })
unfolding answer_of
mft_inside walk limit points p entry size words f h =
    let w = mft_found walk limit points p entry size words f h in
    (w.tag_in_profile, inside-mft points (counted_tag p entry size) f w.read_as, w.as_mft ∙ rw w.read_as)
