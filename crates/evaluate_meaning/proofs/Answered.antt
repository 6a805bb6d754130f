-- Each way out of a call is a law of its answer and of the buffer: 19, then 14, then the results written in front. Of one pixel and of a row.
-- Assumes nothing.
use Prim.Native.Nat.{ℕ, zero, suc, ◌*◌, ◌%◌, ◌≤◌, ◌<◌}
use native.Mathlib.Omega.{arith}
use mathlib.Core.Path.{◌≡◌, refl, sym, ◌∙◌}
use mathlib.Core.Bool.{Bool, true, false, ◌||◌, not}
use mathlib.Core.List.{List}
use Rattle.std.specs.Prelude.{Ok, Err}
use lib.Dec.{eqb}
use lib.ListN.{length, take, drop, length-append}
use lib.Seq.{sets}
use borrow.Author.Tests.{eq-eqb, ne_eqb, lt-ltb, le-ltb}
use Rattle.fields.specs.declared.Refusal.{Refusal}
use Rattle.fields.proofs.Stores.{front}
use Rattle.lut_view_meaning.specs.View.{table_by}
use Rattle.lut_view_meaning.specs.declared.TableNumbers.{TableNumbers}
use Rattle.evaluate_meaning.specs.Colour.{colour}
use Rattle.evaluate_meaning.specs.Evaluate.{odd_numbers, no_table, pixel_answer, pixel_after, Evaluated, colours_of, pixels_of, row_answer, row_after, RowEvaluated}
use Rattle.evaluate_meaning.proofs.Bounds.{length_colours}

or_true : (a : Bool) → a || true ≡ true
or_true true = refl
or_true false = refl

length_row : (t : List ℕ) (n : TableNumbers) (xs : List ℕ) (k : ℕ) → length (colours_of t n xs k) ≡ k * n.outputs
unfolding colours_of
length_row t n xs zero = omega arith
length_row t n xs (suc k) =
    let first : List ℕ = colour t (table_by t n) (take n.inputs xs) in
    omega (arith, length-append first (colours_of t n (drop n.inputs xs) k), length_colours t (table_by t n) (take n.inputs xs) 0 n.outputs, length_row t n (drop n.inputs xs) k)

module _ (t : List ℕ) (n : TableNumbers) (xs words : List ℕ) where
  pixel_bad : no_table t n || not (eqb (length xs) n.inputs) ≡ true → Evaluated t n xs words (Err Refusal.NoColourTable) words
  unfolding pixel_answer pixel_after
  pixel_bad e = record { answer = rw e; left = rw e }

  pub pixel_odd : (x : Bool) → x ≡ odd_numbers n → x ≡ true → Evaluated t n xs words (Err Refusal.NoColourTable) words
  unfolding no_table
  pixel_odd x v e = pixel_bad (rw (sym v ∙ e))

  pub pixel_uneven : (length xs ≡ n.inputs → ⊥) → Evaluated t n xs words (Err Refusal.NoColourTable) words
  pixel_uneven z = pixel_bad (rw (ne_eqb (length xs) n.inputs z) (or_true (no_table t n)))

  pub pixel_tableless : no_table t n ≡ true → Evaluated t n xs words (Err Refusal.NoColourTable) words
  pixel_tableless e = pixel_bad (rw e)

  module _ (there : no_table t n ≡ false) (m : length xs ≡ n.inputs) where
    pub pixel_short : length words < n.outputs → Evaluated t n xs words (Err Refusal.TooFewSlots) words
    unfolding pixel_answer pixel_after
    pixel_short l = record { answer = rw (there, eq-eqb _ _ m, lt-ltb _ _ l); left = rw (there, eq-eqb _ _ m, lt-ltb _ _ l) }

    pub pixel_value : n.outputs ≤ length words → (after : List ℕ) → after ≡ sets words 0 (colour t (table_by t n) xs) → Evaluated t n xs words (Ok n.outputs) after
    unfolding pixel_answer pixel_after
    pixel_value l after p =
        let vs : List ℕ = colour t (table_by t n) xs in
        record {
          answer = rw (there, eq-eqb _ _ m, le-ltb _ _ l);
          left = rw (there, eq-eqb _ _ m, le-ltb _ _ l) (p ∙ sym (front words vs n.outputs (length_colours t (table_by t n) xs 0 n.outputs) l));
        }

  -- ---- a row

  row_bad : no_table t n || not (eqb (length xs % n.inputs) 0) ≡ true → RowEvaluated t n xs words (Err Refusal.NoColourTable) words
  unfolding row_answer row_after
  row_bad e = record { answer = rw e; left = rw e }

  pub row_odd : (x : Bool) → x ≡ odd_numbers n → x ≡ true → RowEvaluated t n xs words (Err Refusal.NoColourTable) words
  unfolding no_table
  row_odd x v e = row_bad (rw (sym v ∙ e))

  pub row_uneven : (length xs % n.inputs ≡ 0 → ⊥) → RowEvaluated t n xs words (Err Refusal.NoColourTable) words
  row_uneven z = row_bad (rw (ne_eqb (length xs % n.inputs) 0 z) (or_true (no_table t n)))

  pub row_tableless : no_table t n ≡ true → RowEvaluated t n xs words (Err Refusal.NoColourTable) words
  row_tableless e = row_bad (rw e)

  module _ (there : no_table t n ≡ false) (m : length xs % n.inputs ≡ 0) where
    pub row_short : length words < pixels_of n xs * n.outputs → RowEvaluated t n xs words (Err Refusal.TooFewSlots) words
    unfolding row_answer row_after
    row_short l = record { answer = rw (there, eq-eqb _ _ m, lt-ltb _ _ l); left = rw (there, eq-eqb _ _ m, lt-ltb _ _ l) }

    pub row_value : pixels_of n xs * n.outputs ≤ length words → (after : List ℕ) → after ≡ sets words 0 (colours_of t n xs (pixels_of n xs)) → RowEvaluated t n xs words (Ok (pixels_of n xs * n.outputs)) after
    unfolding row_answer row_after
    row_value l after p =
        let vs : List ℕ = colours_of t n xs (pixels_of n xs) in
        record {
          answer = rw (there, eq-eqb _ _ m, le-ltb _ _ l);
          left = rw (there, eq-eqb _ _ m, le-ltb _ _ l) (p ∙ sym (front words vs (pixels_of n xs * n.outputs) (length_row t n xs (pixels_of n xs)) l));
        }
