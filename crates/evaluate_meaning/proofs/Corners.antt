-- What is read of a colour table: each corner used is an index of the grid, its bytes lie in the tag, and it is the entry that a view shows
-- there, one of one byte widened by 257; so corners and colours have 16 bits.
-- Assumes nothing.
use Prim.Native.Nat.{ℕ, zero, suc, ◌+◌, ◌*◌, ◌^◌, ◌≤◌, ◌<◌, min}
use native.Mathlib.Omega.{arith}
use native.Mathlib.Nat.{mul-le-mul, pow-succ', pow-le-pow_right}
use mathlib.Core.Path.{◌≡◌, refl, sym, ◌∙◌}
use mathlib.Core.Bool.{Bool, true, false, cond}
use mathlib.Core.List.{List, [], ◌∷◌, map}
use lib.Dec.{ltb, eqb}
use lib.ListN.{length, get_or}
use borrow.Author.Tests.{lt-ltb, le-ltb, ltb-false, eqb-false}
use Rattle.icc.specs.Each.{Each}
use Rattle.icc.specs.Numbers.{Bytes, Each16}
use Rattle.fields.specs.Bytes.{u16_at}
use Rattle.fields.specs.Some.{some}
use Rattle.fields.proofs.Choice.{neither_left, neither_right}
use Rattle.fields.proofs.Written.{below16}
use Rattle.lut_clut_meaning.specs.Clut.{is_flat}
use Rattle.lut_clut_meaning.specs.Table.{Table, product, length_of, in_grid, point_of, entry_number}
use Rattle.lut_clut_meaning.proofs.Grid.{point_below, entry_below}
use Rattle.lut_view_meaning.specs.Answer.{value}
use Rattle.lut_view_meaning.specs.View.{grid_from, table_by, stored_at, entry_from, entry_of}
use Rattle.lut_view_meaning.specs.declared.TableNumbers.{TableNumbers}
use Rattle.lut_view_meaning.proofs.Any.{found}
use Rattle.evaluate_meaning.specs.Colour.{cell_of, rest_of, sample_at, colour_of, corner_of}
use Rattle.evaluate_meaning.specs.Corners.{corners_of}
use Rattle.evaluate_meaning.specs.Evaluate.{odd_numbers, outside, no_table}
use Rattle.evaluate_meaning.proofs.Bounds.{bounded}
use Rattle.evaluate_meaning.proofs.Cells.{cell_in, cell_next}
use Rattle.evaluate_meaning.proofs.Grid.{first_solid, others_solid, as_many}
use Rattle.evaluate_meaning.proofs.Lists.{each_more, each_any, each_map, each_append, each_unless}
use Rattle.evaluate_meaning.proofs.Odd.{Even}
use Rattle.evaluate_meaning.proofs.There.{is_there}

-- ---- in the grid

no_index : in_grid [] [] ≡ true
unfolding in_grid
no_index = refl

longer_index : (g c : ℕ) (gs : List ℕ) → c < g → (i : List ℕ) → in_grid gs i ≡ true → in_grid (g ∷ gs) (c ∷ i) ≡ true
unfolding in_grid
longer_index g c gs l i v = rw (lt-ltb c g l) v

pub corners_in : (gs xs : List ℕ) → some is_flat gs ≡ false → length xs ≡ length gs → Each16 xs → Each (λ i. in_grid gs i ≡ true) (corners_of gs xs)
unfolding corners_of Each
corners_in [] [] s n w = (no_index, tt)
corners_in [] (x ∷ xs) s n w = absurd (omega arith)
corners_in (g ∷ gs) [] s n w = absurd (omega arith)
corners_in (g ∷ gs) (x ∷ xs) s n w =
    let one : 1 ≤ g = omega (arith, first_solid g gs s) in
    let m : length xs ≡ length gs = omega arith in
    let rest : Each (λ i. in_grid gs i ≡ true) (corners_of gs xs) = corners_in gs xs (others_solid g gs s) m w.1 in
    let In : List ℕ → Type 0 = λ i. in_grid (g ∷ gs) i ≡ true in
    let behind : ℕ → List (List ℕ) = λ c. map (◌∷◌ c) (corners_of gs xs) in
    let all_in : (c : ℕ) → c < g → Each In (behind c) =
    λ c l. each_map In (◌∷◌ c) (corners_of gs xs) (each_more (λ i. in_grid gs i ≡ true) (λ i. In (c ∷ i)) (longer_index g c gs l) (corners_of gs xs) rest) in
    let none : Bool = eqb (rest_of g x) 0 in
    each_append In (behind (cell_of g x)) (cond none [] (behind (cell_of g x + 1))) (all_in (cell_of g x) (cell_in g x w.0 one))
    (each_unless In none (behind (cell_of g x + 1)) (λ z. all_in (cell_of g x + 1) (cell_next g x w.0 one (eqb-false (rest_of g x) 0 z))))

-- ---- in the tag, and the number that a view shows

pub record Read (t : List ℕ) (table : Table) (channel : ℕ) (index : List ℕ) : Type 0 where
  pub in_grid_lem : in_grid table.grid index ≡ true
  pub in_tag : table.start + (entry_number table index channel * table.size + table.size) ≤ length t
  pub shown : entry_of t table index channel ≡ value (stored_at t (table.start + entry_number table index channel * table.size) table.size)

-- a corner is the entry that a view shows, widened
pub corner_is_entry : (t : List ℕ) (table : Table) (index : List ℕ) (channel n : ℕ) → entry_of t table index channel ≡ value n
    → corner_of t table channel index ≡ cond (eqb table.size 1) (n * 257) n
unfolding corner_of sample_at
corner_is_entry t table index channel n e = rw (found t table index channel n e).is

-- a grid of four dimensions or fewer, of a byte each, has fewer than 2^32 points
points_most : (gs : List ℕ) → Each (λ g. g < 256) gs → product gs ≤ 255 ^ length gs
unfolding product Each
points_most [] b = omega arith
points_most (g ∷ gs) b =
    let most : g ≤ 255 = omega (arith, b.0) in
    rw (pow-succ' 255 (length gs)) (mul-le-mul most (points_most gs b.1))

few_points : (gs : List ℕ) → length gs ≤ 4 → Each (λ g. g < 256) gs → product gs < 2 ^ 32
few_points gs l b =
    let some : 0 < 255 = omega arith in
    omega (arith, points_most gs b, pow-le-pow_right some l)

module _ (t : List ℕ) (table : Table) (solid : outside t table ≡ false) (one : 1 ≤ table.size) (two : table.size ≤ 2) where
  abbrev past_tag : Bool
  past_tag = ltb (length t) (table.start + length_of table)

  module _ (few : length table.grid ≤ 4) (byte : Each (λ g. g < 256) table.grid) (channel : ℕ) (low : channel < table.outputs) where
    pub reads : (index : List ℕ) → in_grid table.grid index ≡ true → Read t table channel index
    unfolding outside entry_of entry_from
    reads index valid =
        let in_table : table.start + length_of table ≤ length t = ltb-false (length t) (table.start + length_of table) (neither_right (some is_flat table.grid) past_tag solid) in
        let inside : table.start + (entry_number table index channel * table.size + table.size) ≤ length t = omega (arith, entry_below table index channel valid low) in
        let point : point_of table.grid index < 2 ^ 32 = omega (arith, few_points table.grid few byte, point_below table.grid index valid) in
        record {
          in_grid_lem = valid;
          in_tag = inside;
          shown = rw (valid, lt-ltb _ _ point, lt-ltb channel table.outputs low, le-ltb table.size 1 one, le-ltb 2 table.size two, le-ltb _ _ inside);
        }

    pub corners_read : (xs : List ℕ) → length xs ≡ length table.grid → Each16 xs → Each (Read t table channel) (corners_of table.grid xs)
    unfolding outside
    corners_read xs n w =
        each_more (λ i. in_grid table.grid i ≡ true) (Read t table channel) reads (corners_of table.grid xs)
        (corners_in table.grid xs (neither_left (some is_flat table.grid) past_tag solid) n w)

-- ---- a table by the numbers of a view

grid_bytes : (t : List ℕ) → Bytes t → (at step n : ℕ) → Each (λ g. g < 256) (grid_from t at step n)
unfolding grid_from Each
grid_bytes t b at step zero = tt
grid_bytes t b at step (suc n) = (b at, grid_bytes t b (at + step) step n)

module _ (t : List ℕ) (n : TableNumbers) (there : no_table t n ≡ false) where
  -- each corner used in a call lies in the tag, and is what a view by the same numbers shows
  pub call_reads : Bytes t → (xs : List ℕ) → length xs ≡ n.inputs → Each16 xs → (channel : ℕ) → channel < n.outputs
      → Each (Read t (table_by t n) channel) (corners_of (table_by t n).grid xs)
  unfolding no_table
  call_reads b xs m w channel low =
      let numbers : Even n = (is_there t n there).numbers in
      let dims : length (table_by t n).grid ≡ n.inputs = as_many t n numbers.few_inputs in
      corners_read t (table_by t n) (neither_right (odd_numbers n) (outside t (table_by t n)) there) numbers.size_least numbers.size_most
      (omega (arith, numbers.few_inputs)) (grid_bytes t b n.grid_at.0 n.grid_step (min n.inputs 16)) channel low xs (m ∙ sym dims) w

-- ---- values of 16 bits

pub corner_small : (t : List ℕ) → Bytes t → (table : Table) (channel : ℕ) (index : List ℕ) → corner_of t table channel index < 65536
unfolding corner_of sample_at
corner_small t b table channel index = by (table.start + entry_number table index channel * table.size) (eqb table.size 1)
  where
    by : (at : ℕ) (one : Bool) → cond one (cond one (get_or t at 0) (u16_at t at) * 257) (cond one (get_or t at 0) (u16_at t at)) < 65536
    by at true = omega (arith, b at)
    by at false = below16 t b at

pub colour_small : (t : List ℕ) → Bytes t → (table : Table) (channel : ℕ) (gs xs : List ℕ) → length xs ≡ length gs → colour_of (corner_of t table channel) gs xs < 65536
colour_small t b table channel gs xs n =
    let v = bounded 0 65535 (corner_of t table channel) gs xs n (each_any (λ i. (0 ≤ corner_of t table channel i) × (corner_of t table channel i ≤ 65535)) (λ i. (omega arith, omega (arith, corner_small t b table channel i))) (corners_of gs xs)) in
    omega arith
