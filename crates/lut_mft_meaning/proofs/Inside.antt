-- Demand 1 of `mft1` and `mft2`: in an accepted answer the matrix and the three tables lie inside the tag, and each valid grid index reads
-- inside the colour table. And why nothing overflows, whatever the limit and the tag's length.
-- Assumes nothing.
use Prim.Native.Nat.{ℕ, ◌+◌, ◌*◌, ◌^◌, ◌≤◌, ◌<◌}
use native.Mathlib.Omega.{arith}
use native.Mathlib.Nat.{le_trans, mul-le-mul, pow-le-pow_left, pow-le-pow_right}
use mathlib.Core.Path.{◌≡◌, refl}
use mathlib.Core.Bool.{true, false}
use mathlib.Core.List.{List}
use mathlib.Core.Logic.{◌⊎◌, inl, inr}
use lib.ListN.{length}
use Rattle.fields.specs.Bytes.{u32_at}
use Rattle.fields.specs.Tag.{signature_of}
use Rattle.fields.specs.declared.Kind.TheVariants.{Mft1, Mft2}
use Rattle.fields.proofs.Choice.{each}
use Rattle.lut_clut_meaning.specs.Table.{points_of, length_of, in_grid, entry_number}
use Rattle.lut_clut_meaning.proofs.Grid.{entry_below, power_is}
use Rattle.lut_mft_meaning.specs.Answer.{Fields, value, fields_of, told_table}
use Rattle.lut_mft_meaning.specs.Layout.{is_wide, shortest, inputs, outputs, grid_points, entry_size_of, tables_start, input_length_of, output_length_of, colour_table, tables_end}
use Rattle.lut_mft_meaning.specs.Mft.{most_table_entries, bad_numbers, mft_of}
use Rattle.lut_mft_meaning.proofs.Laid.{good, accepted, start_least}

-- the type tells the bytes of an entry
type_told : (t : List ℕ) → (u32_at t 0 ≡ signature_of Mft1) ⊎ (u32_at t 0 ≡ signature_of Mft2) → ((u32_at t 0 ≡ signature_of Mft1) × (entry_size_of t ≡ 1)) ⊎ ((u32_at t 0 ≡ signature_of Mft2) × (entry_size_of t ≡ 2))
unfolding entry_size_of is_wide signature_of
type_told t (inl e) = inl (e, rw e refl)
type_told t (inr e) = inr (e, rw e refl)

pub record Inside (t : List ℕ) (f : Fields) : Type 0 where
  pub type_is : ((u32_at t 0 ≡ signature_of Mft1) × (f.size ≡ 1)) ⊎ ((u32_at t 0 ≡ signature_of Mft2) × (f.size ≡ 2))
  pub inputs_are : f.inputs ≡ inputs t
  pub outputs_are : f.outputs ≡ outputs t
  pub points_are : f.grid ≡ grid_points t
  pub matrix_in_tag : 12 + 4 * 9 ≤ length t
  pub input_in_tag : f.input_start_of + f.input_bytes ≤ length t
  pub clut_in_tag : f.clut_start_of + f.clut_bytes ≤ length t
  pub output_in_tag : f.output_start_of + f.output_bytes ≤ length t
  pub bytes_are : length_of (told_table f) ≡ f.clut_bytes
  pub entry_in_table : (index : List ℕ) (channel : ℕ) → in_grid (told_table f).grid index ≡ true → channel < f.outputs → entry_number (told_table f) index channel * f.size + f.size ≤ f.clut_bytes

pub inside : (limit : ℕ) (t : List ℕ) (f : Fields) → mft_of limit t ≡ value f → Inside t f
unfolding fields_of colour_table
inside limit t f h =
    let a = accepted limit t f h in
    let e = a.fields_are in
    let whole = a.laid.whole in
    let bytes : length_of (told_table f) ≡ f.clut_bytes = rw e refl in
    record {
      type_is = rw e (type_told t a.laid.type_is);
      inputs_are = rw e;
      outputs_are = rw e;
      points_are = rw e;
      matrix_in_tag = omega (arith, start_least t, whole);
      input_in_tag = rw e (omega (arith, whole));
      clut_in_tag = rw e (omega (arith, whole));
      output_in_tag = rw e whole;
      bytes_are = bytes;
      entry_in_table = λ index channel valid low. omega (arith, entry_below (told_table f) index channel valid low, bytes);
    }

-- ---- widths

-- a grid byte to the power of at most four channels
pub power_most : (g n : ℕ) → g < 256 → n ≤ 4 → g ^ n ≤ 255 ^ 4
power_most g n l m =
    let a : g ≤ 255 = omega arith in
    let b : 0 < 255 = omega arith in
    le_trans (pow-le-pow_left a n) (pow-le-pow_right b m)

size_most : (t : List ℕ) → entry_size_of t ≤ 2
unfolding entry_size_of
size_most t = each (λ (n : ℕ). n ≤ 2) (is_wide t) 2 1 (λ _. omega arith) (λ _. omega arith)

start_most : (t : List ℕ) → tables_start t ≤ 52
unfolding tables_start
start_most t = each (λ (n : ℕ). n ≤ 52) (is_wide t) 52 shortest (λ _. omega arith) (λ _. omega arith)

-- 255^4 points; 4,096 entries in each of four channels, two bytes an entry; 255^4 points of four channels, two bytes each; and the end of all
pub record Widths (t : List ℕ) : Type 0 where
  pub points_fit : points_of (colour_table t) < 2 ^ 32
  pub input_fits : input_length_of t < 2 ^ 16
  pub output_fits : output_length_of t < 2 ^ 16
  pub bytes_fit : length_of (colour_table t) < 2 ^ 35
  pub end_fits : tables_end t < 2 ^ 35

-- of every tag that check 15 lets pass: its products are made before 16 and 2 are judged
pub widths : (t : List ℕ) → bad_numbers t ≡ false → grid_points t < 256 → Widths t
unfolding colour_table
widths t b l =
    let g = good t b in
    let size = size_most t in
    let points : points_of (colour_table t) ≤ 255 ^ 4 = rw (power_is (inputs t) (grid_points t)) (power_most (grid_points t) (inputs t) l g.1.few_inputs) in
    let bytes : length_of (colour_table t) ≤ 255 ^ 4 * 4 * 2 = mul-le-mul (mul-le-mul points g.1.few_outputs) size in
    let input : input_length_of t ≤ most_table_entries * 4 * 2 = mul-le-mul (mul-le-mul g.0.input_most g.1.few_inputs) size in
    let output : output_length_of t ≤ most_table_entries * 4 * 2 = mul-le-mul (mul-le-mul g.0.output_most g.1.few_outputs) size in
    record {
      points_fit = omega (arith, points);
      input_fits = omega (arith, input);
      output_fits = omega (arith, output);
      bytes_fit = omega (arith, bytes);
      end_fits = omega (arith, start_most t, input, bytes, output);
    }
