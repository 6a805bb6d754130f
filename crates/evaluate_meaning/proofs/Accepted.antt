-- Where the lookup-table reader answers with a colour table of 1 to 4 inputs, the numbers of its answer evaluate: with a coordinate for
-- each input and room for the results, the answer is those results, and never 19.
-- Assumes nothing.
use Prim.Native.Nat.{ℕ, ◌*◌, ◌%◌, ◌≤◌}
use mathlib.Core.Path.{◌≡◌}
use mathlib.Core.Bool.{false}
use mathlib.Core.List.{List}
use lib.ListN.{length}
use borrow.Author.Tests.{eq-eqb, le-ltb}
use Rattle.fields.specs.Place.{counted_tag}
use Rattle.curve_meaning.specs.declared.Walk.{Walk}
use Rattle.lut_meaning.specs.Lut.{lut_of}
use Rattle.lut_view_meaning.specs.View.{numbers_of}
use Rattle.lut_view_meaning.specs.declared.TableNumbers.{TableNumbers}
use Rattle.lut_view_meaning.proofs.Solid.{any_solid}
use Rattle.evaluate_meaning.specs.Answer.{value}
use Rattle.evaluate_meaning.specs.Evaluate.{no_table, pixel_answer, pixels_of, row_answer}
use Rattle.evaluate_meaning.proofs.There.{none_missing}

-- an answer without a colour table has entries of no bytes
module _ (walk : Walk) (limit points : ℕ) (p : List ℕ) (entry size slots : ℕ) where
  abbrev t : List ℕ
  t = counted_tag p entry size

  abbrev n : TableNumbers
  n = numbers_of (lut_of walk limit points p entry size slots).state

  module _ (answered : 1 ≤ n.entry_size) (input : 1 ≤ n.inputs) (few_inputs : n.inputs ≤ 4) where
    pub table_there : no_table t n ≡ false
    table_there =
        let w = any_solid walk limit points p entry size slots answered in
        none_missing t n
        record {
          numbers = record { input = input; few_inputs = few_inputs; output = w.output; size_least = w.size_least; size_most = w.size_most };
          solid = w.wide;
          in_tag = w.in_tag;
        }

    pub pixel_served : (xs : List ℕ) (room : ℕ) → length xs ≡ n.inputs → n.outputs ≤ room → pixel_answer t n xs room ≡ value n.outputs
    unfolding pixel_answer
    pixel_served xs room e l = rw (table_there, eq-eqb _ _ e, le-ltb _ _ l)

    pub row_served : (xs : List ℕ) (room : ℕ) → length xs % n.inputs ≡ 0 → pixels_of n xs * n.outputs ≤ room → row_answer t n xs room ≡ value (pixels_of n xs * n.outputs)
    unfolding row_answer
    row_served xs room e l = rw (table_there, eq-eqb _ _ e, le-ltb _ _ l)
