-- A table is judged once: its dimensions and strides, then 19, then 14, and what is known of it then.
-- Assumes nothing.
use Prim.Native.Nat.{ℕ, suc, ◌+◌, ◌-◌, ◌*◌, ◌^◌, ◌≤◌, ◌<◌}
use native.Mathlib.Omega.{arith}
use native.Mathlib.Nat.{mul-le-mul, one-le-mul}
use mathlib.Core.Path.{◌≡◌, refl, sym, ap, ◌∙◌}
use mathlib.Core.Bool.{Bool, true, false, ◌||◌, true≢false}
use mathlib.Core.List.{List, [], ◌∷◌}
use lib.ListN.{length, get_or, drop, get_or-eq_default}
use lib.Seq.{sets}
use lib.Dec.{ltb, eqb}
use mir.Syntax.{w64}
use mir.Val.{Fits}
use borrow.Author.Tests.{eq-eqb, ne_eqb, lt-ltb, le-ltb, ltb-false}
use Rattle.std.specs.Prelude.{Ok, Err}
use Rattle.fields.specs.declared.Refusal.{Refusal}
use Rattle.fields.specs.Some.{some}
use Rattle.fields.specs.declared.Refusal.TheVariants.{NoColourTable, TooFewSlots}
use Rattle.fields.proofs.Choice.{neither_left, neither_right}
use Rattle.lut_clut_meaning.specs.Clut.{is_flat}
use Rattle.lut_clut_meaning.specs.Table.{product}
use Rattle.lut_view_meaning.specs.View.{grid_from, table_by}
use Rattle.lut_view_meaning.specs.declared.TableNumbers.{TableNumbers}
use Rattle.evaluate_meaning.specs.Colour.{colour}
use Rattle.evaluate_meaning.specs.Evaluate.{odd_numbers, outside, no_table, Evaluated}
use Rattle.evaluate_meaning.proofs.Answered.{pixel_tableless, pixel_short, pixel_value}
use Rattle.evaluate_meaning.proofs.Grid.{solid_product, dimensions}
use Rattle.evaluate_meaning.proofs.Odd.{Even, even}
use Rattle.evaluate_parts.specs.Tests.{past_of}
use Rattle.evaluate.specs.Parts.{dim_of, dimension, ShapeOf, Judged, Tableless, Spot}
use Rattle.evaluate.specs.declared.Shape.{Shape}
use Rattle.evaluate.proofs.Pixels.{bytes_all}

-- ---- a dimension

module _ (t : List ℕ) (at step n k : ℕ) where
  pub dim_none : n ≤ k → 1 ≡ dim_of t at step n k
  unfolding dim_of
  dim_none l = rw (le-ltb k n l)

  module _ (l : k < n) where
    pub dim_beyond : length t ≤ at + (n - 1 - k) * step → 0 ≡ dim_of t at step n k
    unfolding dim_of
    dim_beyond m = rw (lt-ltb k n l, get_or-eq_default t 0 m)

    pub dim_flat : (g : ℕ) → g ≡ get_or t (at + (n - 1 - k) * step) 0 → g < 2 → 0 ≡ dim_of t at step n k
    unfolding dim_of
    dim_flat g e m = rw (lt-ltb k n l, ← e, lt-ltb g 2 m)

    pub dim_some : (g : ℕ) → g ≡ get_or t (at + (n - 1 - k) * step) 0 → 2 ≤ g → g < 256 → g ≡ dim_of t at step n k
    unfolding dim_of
    dim_some g e m b = rw (lt-ltb k n l, ← e, le-ltb g 2 m)

    module _ (s : step < 256) (f : n ≤ 4) where
      way_small : (n - 1 - k) * step ≤ 4 * 255
      way_small = let i : n - 1 - k ≤ 4 = omega arith in let j : step ≤ 255 = omega arith in mul-le-mul i j

      pub step_fits : Fits w64 ((n - 1 - k) * step)
      step_fits = record { fits = omega (arith, way_small) }

      pub byte_fits : at < length t → length t * 1 < 2 ^ 63 → Fits w64 (at + (n - 1 - k) * step)
      byte_fits a b = record { fits = omega (arith, way_small) }

pub ruleset dim-laws = (dim_none, dim_beyond, dim_flat, dim_some)

pub ruleset dim-fits = (step_fits, byte_fits)

-- ---- the strides

times : (s g c : ℕ) → s ≤ c → g < 256 → s * g ≤ c * 256
times s g c l m = let b : g ≤ 256 = omega arith in mul-le-mul l b

module _ (b : TableNumbers) (e : odd_numbers b ≡ false) (o : b.outputs < 2 ^ 8) where
  pub size_some : 1 ≤ b.entry_size
  size_some = (even b e).size_least

  pub inputs_few : b.inputs ≤ 4
  inputs_few = (even b e).few_inputs

  hop_is : b.entry_size - 1 + 1 ≡ b.entry_size
  hop_is = omega (arith, size_some)

  thin : b.outputs * (b.entry_size - 1 + 1) ≤ 512
  thin = let o' : b.outputs ≤ 256 = omega arith in rw hop_is (omega (arith, mul-le-mul o' (even b e).size_most))

  pub width_fits : Fits w64 (b.outputs * (b.entry_size - 1 + 1))
  width_fits = record { fits = omega (arith, thin) }

  module _ (width : ℕ) (is : width ≡ b.outputs * (b.entry_size - 1 + 1)) (g0 : ℕ) (b0 : g0 < 256) where
    first : width * g0 ≤ 2 ^ 17
    first = omega (arith, times width g0 512 (omega (arith, thin)) b0)

    pub fits1 : Fits w64 (width * g0)
    fits1 = record { fits = omega (arith, first) }

    module _ (g1 : ℕ) (b1 : g1 < 256) where
      second : width * g0 * g1 ≤ 2 ^ 25
      second = omega (arith, times (width * g0) g1 (2 ^ 17) first b1)

      pub fits2 : Fits w64 (width * g0 * g1)
      fits2 = record { fits = omega (arith, second) }

      module _ (g2 : ℕ) (b2 : g2 < 256) where
        third : width * g0 * g1 * g2 ≤ 2 ^ 33
        third = omega (arith, times (width * g0 * g1) g2 (2 ^ 25) second b2)

        pub fits3 : Fits w64 (width * g0 * g1 * g2)
        fits3 = record { fits = omega (arith, third) }

        module _ (g3 : ℕ) (b3 : g3 < 256) where
          pub fits4 : Fits w64 (width * g0 * g1 * g2 * g3)
          fits4 = record { fits = omega (arith, times (width * g0 * g1 * g2) g3 (2 ^ 33) third b3) }

          pub shaped : (t : List ℕ) → g0 ≡ dim_of t b.grid_at.0 b.grid_step b.inputs 0 → g1 ≡ dim_of t b.grid_at.0 b.grid_step b.inputs 1
              → g2 ≡ dim_of t b.grid_at.0 b.grid_step b.inputs 2 → g3 ≡ dim_of t b.grid_at.0 b.grid_step b.inputs 3
              → ShapeOf t b record { dimensions = record { points = g0; stride = width } ∷ record { points = g1; stride = width * g0 } ∷ record { points = g2; stride = width * g0 * g1 } ∷ record { points = g3; stride = width * g0 * g1 * g2 } ∷ []; bytes = width * g0 * g1 * g2 * g3; start = b.start.0; hop = b.entry_size - 1 }
          unfolding ShapeOf
          shaped t e0 e1 e2 e3 =
              record {
                shaped =
                    record {
                      is0 = e0;
                      is1 = e1;
                      is2 = e2;
                      is3 = e3;
                      low0 = b0;
                      low1 = b1;
                      low2 = b2;
                      low3 = b3;
                      far0 = is ∙ ap (λ (s : ℕ). b.outputs * s) hop_is;
                      far1 = refl;
                      far2 = refl;
                      far3 = refl;
                      all = refl;
                      near0 = omega (arith, thin);
                      near1 = omega (arith, first);
                      near2 = omega (arith, second);
                      near3 = third;
                    };
                is_start = refl;
                is_hop = hop_is;
              }

pub ruleset stride-fits = (width_fits, fits1, fits2, fits3, fits4)

-- ---- the test of the code is that of the meaning

module _ (t : List ℕ) (b : TableNumbers) (e : odd_numbers b ≡ false) where
  numbers : Even b
  numbers = even b e

  grid_is : (table_by t b).grid ≡ grid_from t b.grid_at.0 b.grid_step b.inputs
  grid_is = dimensions t b numbers.few_inputs

  -- no byte of the grid lies in the tag
  pub nowhere : length t ≤ b.grid_at.0 → no_table t b ≡ true
  unfolding no_table outside some grid_from
  nowhere l =
      let first : get_or t b.grid_at.0 0 ≡ 0 = get_or-eq_default t 0 l in
      let n : b.inputs ≡ suc (b.inputs - 1) = omega (arith, numbers.input) in
      rw (e, grid_is, n, first)

  module _ (h : Shape) (d : ShapeOf t b h) where
    same_test : past_of h.bytes b.start.0 (length t) ≡ no_table t b
    unfolding past_of no_table outside ShapeOf
    same_test = by_test (some is_flat (grid_from t b.grid_at.0 b.grid_step b.inputs)) refl
      where
        by_test : (v : Bool) → some is_flat (grid_from t b.grid_at.0 b.grid_step b.inputs) ≡ v → past_of h.bytes b.start.0 (length t) ≡ no_table t b
        by_test true q =
            let z : h.bytes ≡ 0 = rw q at (bytes_all t b.grid_at.0 b.grid_step b.inputs (b.outputs * b.entry_size) h d.shaped numbers.few_inputs) in
            rw (e, grid_is, q, eq-eqb h.bytes 0 z)
        by_test false q =
            let gs : List ℕ = grid_from t b.grid_at.0 b.grid_step b.inputs in
            let f : h.bytes ≡ product gs * (b.outputs * b.entry_size) = rw q at (bytes_all t b.grid_at.0 b.grid_step b.inputs (b.outputs * b.entry_size) h d.shaped numbers.few_inputs) in
            let f' : h.bytes ≡ product gs * b.outputs * b.entry_size = f ∙ omega arith in
            let any : 1 ≤ product gs * (b.outputs * b.entry_size) = one-le-mul (solid_product gs q) (one-le-mul numbers.output numbers.size_least) in
            let n : h.bytes ≡ 0 → ⊥ = λ z. omega arith in
            rw (e, grid_is, q, ne_eqb h.bytes 0 n, ← f')

    module _ (r : Bool) (q : r ≡ past_of h.bytes b.start.0 (length t)) where
      pub test : r ≡ no_table t b
      test = q ∙ same_test

      pub judged : r ≡ false → Judged t b h
      unfolding past_of Judged ShapeOf
      judged f =
          let z : eqb h.bytes 0 || ltb (length t) (b.start.0 + h.bytes) ≡ false = sym q ∙ f in
          record {
            even = e;
            shape = d;
            solid = λ n. true≢false (sym (eq-eqb h.bytes 0 n) ∙ neither_left (eqb h.bytes 0) (ltb (length t) (b.start.0 + h.bytes)) z);
            inside = ltb-false (length t) (b.start.0 + h.bytes) (neither_right (eqb h.bytes 0) (ltb (length t) (b.start.0 + h.bytes)) z);
            there = sym test ∙ f;
          }

-- ---- what judging answers

module _ (t : List ℕ) (b : TableNumbers) (x : Bool) (v : x ≡ odd_numbers b) where
  pub odd_judged : x ≡ true → Tableless t b NoColourTable
  unfolding no_table
  odd_judged f = record { is_why = refl; none = rw (sym v ∙ f) }

  module _ (f : x ≡ false) where
    pub fine : odd_numbers b ≡ false
    fine = sym v ∙ f

    pub nowhere_judged : length t ≤ b.grid_at.0 → Tableless t b NoColourTable
    nowhere_judged l = record { is_why = refl; none = nowhere t b fine l }

    module _ (h : Shape) (d : ShapeOf t b h) (r : Bool) (q : r ≡ past_of h.bytes b.start.0 (length t)) where
      pub past_judged : r ≡ true → Tableless t b NoColourTable
      past_judged g = record { is_why = refl; none = sym (test t b fine h d r q) ∙ g }

      pub table_judged : r ≡ false → Judged t b h
      table_judged = judged t b fine h d r q

pub is_there : (t : List ℕ) (b : TableNumbers) (h : Shape) → Judged t b h → no_table t b ≡ false
unfolding Judged
is_there t b h y = y.there

-- ---- the answers for a pixel

module _ (t : List ℕ) (b : TableNumbers) (xs words : List ℕ) where
  pub pixel_refused : (why : Refusal) → Tableless t b why → Evaluated t b xs words (Err why) words
  pixel_refused why k = rw k.is_why (pixel_tableless t b xs words k.none)

  module _ (h : Shape) (table : Judged t b h) (m : length xs ≡ b.inputs) where
    pub pixel_no_room : length words < b.outputs → Evaluated t b xs words (Err TooFewSlots) words
    pixel_no_room = pixel_short t b xs words (is_there t b h table) m

    module _ (l : b.outputs ≤ length words) where
      pub pixel_spot : Spot t b h xs 0 words 0
      pixel_spot = record { judged = table; coords = omega arith; room = omega arith }

      pub pixel_done : (after : List ℕ) → after ≡ sets words 0 (colour t (table_by t b) (drop 0 xs)) → Evaluated t b xs words (Ok b.outputs) after
      pixel_done = pixel_value t b xs words (is_there t b h table) m l
