-- A row is the single calls one after the other: the buffer is left as after them, and each of them is answered by its results. A row of
-- one pixel is that call. And the results of a pixel are its colour.
-- Assumes nothing.
use Prim.Native.Nat.{ℕ, zero, suc, ◌+◌, ◌-◌, ◌*◌, ◌/◌, ◌%◌, ◌≤◌}
use native.Mathlib.Omega.{arith}
use native.Mathlib.Nat.{div-add-mod', div_self, mod_self, one-mul}
use mathlib.Core.Path.{◌≡◌, refl}
use mathlib.Core.Bool.{Bool, true, false, ◌||◌, not}
use mathlib.Core.List.{List, ◌++◌, append_assoc, append-nil}
use lib.Dec.{eqb}
use lib.ListN.{length, take, drop, length-take, length-drop}
use lib.Seq.{take_at, drop_at, drop-drop, take_all}
use borrow.Author.Tests.{le-ltb, eqb-true, not-false, eq-eqb}
use Rattle.fields.proofs.Choice.{neither_left, neither_right}
use Rattle.lut_view_meaning.specs.View.{table_by}
use Rattle.lut_view_meaning.specs.declared.TableNumbers.{TableNumbers}
use Rattle.evaluate_meaning.specs.Answer.{value}
use Rattle.evaluate_meaning.specs.Calls.{after_calls, AllServed}
use Rattle.evaluate_meaning.specs.Colour.{colour}
use Rattle.evaluate_meaning.specs.Evaluate.{no_table, pixel_answer, pixel_after, colours_of, pixels_of, row_answer, row_after}
use Rattle.evaluate_meaning.proofs.Bounds.{length_colours}
use Rattle.evaluate_meaning.proofs.Room.{passed}
use Rattle.evaluate_meaning.proofs.There.{is_there}

-- what a pixel that is answered leaves: its colour, in front of the words behind it
pub pixel_coloured : (t : List ℕ) (n : TableNumbers) (xs words : List ℕ) (k : ℕ) → pixel_answer t n xs (length words) ≡ value k → let results : List ℕ = colour t (table_by t n) xs in pixel_after t n xs words ≡ results ++ drop (length results) words
unfolding pixel_answer pixel_after
pixel_coloured t n xs words k h =
    let w = passed (no_table t n || not (eqb (length xs) n.inputs)) n.outputs (length words) k h in
    rw (w.0, le-ltb _ _ w.1, length_colours t (table_by t n) xs 0 n.outputs)

module _ (t : List ℕ) (n : TableNumbers) (there : no_table t n ≡ false) where
  -- one call of a row
  call_served : (xs : List ℕ) (room : ℕ) → n.inputs ≤ length xs → n.outputs ≤ room → pixel_answer t n (take n.inputs xs) room ≡ value n.outputs
  unfolding pixel_answer
  call_served xs room l m =
      let as_many : length (take n.inputs xs) ≡ n.inputs = omega (arith, length-take n.inputs xs) in
      rw (there, eq-eqb _ _ as_many, le-ltb room n.outputs m)

  call_leaves : (xs words : List ℕ) → n.inputs ≤ length xs → n.outputs ≤ length words → pixel_after t n (take n.inputs xs) words ≡ colour t (table_by t n) (take n.inputs xs) ++ drop n.outputs words
  unfolding pixel_after
  call_leaves xs words l m = rw (call_served xs (length words) l m)

  all_served : (k : ℕ) (xs : List ℕ) (room : ℕ) → length xs ≡ k * n.inputs → k * n.outputs ≤ room → AllServed t n xs room k
  unfolding AllServed
  all_served zero xs room e l = tt
  all_served (suc k) xs room e l =
      (call_served xs room (omega arith) (omega arith), all_served k (drop n.inputs xs) (room - n.outputs) (omega (arith, length-drop n.inputs xs)) (omega arith))

  calls_leave : (k : ℕ) (xs words : List ℕ) → length xs ≡ k * n.inputs → k * n.outputs ≤ length words → colours_of t n xs k ++ drop (k * n.outputs) words ≡ after_calls t n xs words k
  unfolding colours_of after_calls
  calls_leave zero xs words e l = let z : 0 * n.outputs ≡ 0 = omega arith in rw z
  calls_leave (suc k) xs words e l =
      let first : List ℕ = colour t (table_by t n) (take n.inputs xs) in
      let behind : List ℕ = drop n.outputs words in
      let long : length first ≡ n.outputs = length_colours t (table_by t n) (take n.inputs xs) 0 n.outputs in
      let others = calls_leave k (drop n.inputs xs) behind (omega (arith, length-drop n.inputs xs)) (omega (arith, length-drop n.outputs words)) in
      let sum : suc k * n.outputs ≡ n.outputs + k * n.outputs = omega arith in
      rw (call_leaves xs words (omega arith) (omega arith), take_at first behind n.outputs long, drop_at first behind n.outputs long, ← others, sum, ← drop-drop (k * n.outputs) n.outputs words)
      (append_assoc first (colours_of t n (drop n.inputs xs) k) (drop (k * n.outputs) behind))

module _ (t : List ℕ) (n : TableNumbers) (xs words : List ℕ) where
  abbrev uneven : Bool
  uneven = not (eqb (length xs % n.inputs) 0)

  pub row_is_calls : (k : ℕ) → row_answer t n xs (length words) ≡ value k → (row_after t n xs words ≡ after_calls t n xs words (pixels_of n xs)) × AllServed t n xs (length words) (pixels_of n xs)
  unfolding row_answer row_after
  row_is_calls k h =
      let w = passed (no_table t n || uneven) (pixels_of n xs * n.outputs) (length words) k h in
      let there = neither_left (no_table t n) uneven w.0 in
      let even : length xs % n.inputs ≡ 0 = eqb-true _ _ (not-false _ (neither_right (no_table t n) uneven w.0)) in
      let whole : length xs ≡ pixels_of n xs * n.inputs = omega (arith, div-add-mod' (length xs) n.inputs) in
      (rw (w.0, le-ltb _ _ w.1) (calls_leave t n there (pixels_of n xs) xs words whole w.1), all_served t n there (pixels_of n xs) xs (length words) whole w.1)

  pub record OnePixel : Type 0 where
    pub answer : row_answer t n xs (length words) ≡ pixel_answer t n xs (length words)
    pub left : row_after t n xs words ≡ pixel_after t n xs words

  pub one_pixel : length xs ≡ n.inputs → OnePixel
  unfolding row_answer row_after pixel_answer pixel_after colours_of
  one_pixel e = by (no_table t n) refl
    where
      by : (b : Bool) → no_table t n ≡ b → OnePixel
      by true h = record { answer = rw h; left = rw h }
      by false h =
          let some_inputs : 1 ≤ n.inputs = (is_there t n h).numbers.input in
          let even : length xs % n.inputs ≡ 0 = rw e (mod_self n.inputs) in
          let single : length xs / n.inputs ≡ 1 = rw e (div_self some_inputs) in
          let all : take n.inputs xs ≡ xs = take_all n.inputs xs (omega arith) in
          record { answer = rw (h, eq-eqb _ _ e, even, single, one-mul); left = rw (h, eq-eqb _ _ e, even, single, one-mul, all, append-nil) }
