-- The loop over the output channels, and the answers: what is left to write makes of the buffer what the whole makes of it as it was.
-- Assumes nothing.
use Prim.Native.Nat.{ℕ, suc, ◌+◌, ◌-◌, ◌≤◌, ◌<◌}
use native.Mathlib.Omega.{arith}
use native.Mathlib.Nat.{sub-zero}
use native.Mathlib.Numerals.{add-one}
use mathlib.Core.Path.{◌≡◌, refl, sym, ◌∙◌}
use mathlib.Core.Bool.{Bool, true, false}
use mathlib.Core.List.{List}
use lib.ListN.{length, set, length-set}
use lib.Seq.{sets}
use Rattle.std.specs.Prelude.{Ok, Err}
use Rattle.fields.specs.declared.Refusal.{Refusal}
use Rattle.lut_view_meaning.specs.View.{table_by}
use Rattle.lut_view_meaning.specs.declared.TableNumbers.{TableNumbers}
use Rattle.evaluate_meaning.specs.Colour.{colour_of, corner_of, colours_from, colour}
use Rattle.evaluate_meaning.specs.Evaluate.{odd_numbers, outside, no_table, Evaluated}
use Rattle.evaluate_meaning.proofs.Answered.{pixel_odd, pixel_uneven, pixel_tableless, pixel_short, pixel_value}
use Rattle.evaluate_meaning.proofs.Grid.{dimensions}
use Rattle.evaluate_meaning.proofs.There.{There, both_passed}
use Rattle.evaluate_plain.specs.Parts.{grid_for, value_of, Room}
use Rattle.evaluate_plain.proofs.Values.{value_whole}

-- ---- the loop over the output channels: what is left to write makes of the buffer what the whole makes of it as it was

pub record Filling (t : List ℕ) (n : TableNumbers) (xs s₀ s : List ℕ) (channel : ℕ) : Type 0 where
  pub sound : There t n
  pub one_each : length xs ≡ n.inputs
  pub enough : n.outputs ≤ length s₀
  pub within : channel ≤ n.outputs
  pub long : length s ≡ length s₀
  pub left : sets s channel (colours_from t (table_by t n) xs channel (n.outputs - channel)) ≡ sets s₀ 0 (colour t (table_by t n) xs)

module _ (t : List ℕ) (n : TableNumbers) (xs s₀ : List ℕ) where
  pub fill_begins : (x : Bool) → x ≡ odd_numbers n → x ≡ false → (y : Bool) → y ≡ outside t (table_by t n) → y ≡ false → length xs ≡ n.inputs → n.outputs ≤ length s₀ → Filling t n xs s₀ s₀ 0
  fill_begins x v e y w f m r =
      record { sound = both_passed t n (sym v ∙ e) (sym w ∙ f); one_each = m; enough = r; within = omega arith; long = refl; left = rw sub-zero }

  module _ (s : List ℕ) (channel : ℕ) (w : Filling t n xs s₀ s channel) where
    grid_is : grid_for t n n.grid_at.0 xs ≡ (table_by t n).grid
    grid_is = rw w.one_each (sym (dimensions t n w.sound.numbers.few_inputs))

    module _ (h : channel < n.outputs) where
      pub fill_room : Room t n n.grid_at.0 xs 0 channel
      fill_room =
          record {
            least = w.sound.numbers.size_least;
            most = w.sound.numbers.size_most;
            solid = rw grid_is w.sound.solid;
            inside = rw grid_is (omega (arith, w.sound.in_tag));
            low = h;
          }

      pub fill_turns : (v : ℕ) → v ≡ value_of t n (grid_for t n n.grid_at.0 xs) xs 0 channel → Filling t n xs s₀ (set s channel v) (channel + 1)
      unfolding colours_from
      fill_turns v q =
          let k : n.outputs - channel ≡ suc (n.outputs - (channel + 1)) = omega arith in
          let e : v ≡ colour_of (corner_of t (table_by t n) channel) (table_by t n).grid xs = q ∙ rw grid_is (value_whole t n channel xs) in
          record {
            sound = w.sound;
            one_each = w.one_each;
            enough = w.enough;
            within = omega arith;
            long = length-set s channel v ∙ w.long;
            left = rw (add-one channel, e) (rw (k, add-one channel) at w.left);
          }

    filled : n.outputs ≤ channel → s ≡ sets s₀ 0 (colour t (table_by t n) xs)
    unfolding colours_from
    filled h = let z : n.outputs - channel ≡ 0 = omega arith in rw z at w.left

-- ---- the answers

module _ (t : List ℕ) (n : TableNumbers) (xs s : List ℕ) (x : Bool) (v : x ≡ odd_numbers n) (e : x ≡ false) (y : Bool) (w : y ≡ outside t (table_by t n)) where
  by_tests : (b : Bool) → y ≡ b → no_table t n ≡ b
  unfolding no_table
  by_tests b f = rw (sym v ∙ e) (sym w ∙ f)

  pub said_outside : y ≡ true → Evaluated t n xs s (Err Refusal.NoColourTable) s
  said_outside f = pixel_tableless t n xs s (by_tests true f)

  module _ (f : y ≡ false) (m : length xs ≡ n.inputs) where
    pub said_short : length s < n.outputs → Evaluated t n xs s (Err Refusal.TooFewSlots) s
    said_short = pixel_short t n xs s (by_tests false f) m

    pub said_value : n.outputs ≤ length s → (s' : List ℕ) (channel : ℕ) → Filling t n xs s s' channel → n.outputs ≤ channel → Evaluated t n xs s (Ok n.outputs) s'
    said_value l s' channel g h = pixel_value t n xs s (by_tests false f) m l s' (filled t n xs s s' channel g h)

pub ruleset said-laws = (pixel_odd, said_outside, pixel_uneven, said_short, said_value)
