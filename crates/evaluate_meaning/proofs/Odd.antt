-- What `odd_numbers` finds: each way out of the test is a law of it, and numbers that are not odd are these.
-- Assumes nothing.
use Prim.Native.Nat.{◌≤◌, ◌<◌}
use mathlib.Core.Path.{◌≡◌}
use mathlib.Core.Bool.{Bool, true, false, ◌||◌}
use lib.Dec.{ltb}
use borrow.Author.Tests.{lt-ltb, le-ltb, ltb-false}
use Rattle.fields.proofs.Choice.{neither_left, neither_right}
use Rattle.lut_view_meaning.specs.declared.TableNumbers.{TableNumbers}
use Rattle.evaluate_meaning.specs.Evaluate.{odd_numbers}

pub record Even (n : TableNumbers) : Type 0 where
  pub input : 1 ≤ n.inputs
  pub few_inputs : n.inputs ≤ 4
  pub output : 1 ≤ n.outputs
  pub size_least : 1 ≤ n.entry_size
  pub size_most : n.entry_size ≤ 2

module _ (n : TableNumbers) where
  pub even : odd_numbers n ≡ false → Even n
  unfolding odd_numbers
  even h =
      let a : Bool = ltb n.inputs 1 in
      let b : Bool = ltb 4 n.inputs in
      let c : Bool = ltb n.outputs 1 in
      let d : Bool = ltb n.entry_size 1 in
      let e : Bool = ltb 2 n.entry_size in
      let up-to-d = neither_left (a || b || c || d) e h in
      let up-to-c = neither_left (a || b || c) d up-to-d in
      let up-to-b = neither_left (a || b) c up-to-c in
      record {
        input = ltb-false _ _ (neither_left a b up-to-b);
        few_inputs = ltb-false _ _ (neither_right a b up-to-b);
        output = ltb-false _ _ (neither_right (a || b) c up-to-c);
        size_least = ltb-false _ _ (neither_right (a || b || c) d up-to-d);
        size_most = ltb-false _ _ (neither_right (a || b || c || d) e h);
      }

  pub not_odd : Even n → odd_numbers n ≡ false
  unfolding odd_numbers
  not_odd w = rw (le-ltb _ _ w.input, le-ltb _ _ w.few_inputs, le-ltb _ _ w.output, le-ltb _ _ w.size_least, le-ltb _ _ w.size_most)

-- ---- case by case, as code meets them

module _ (n : TableNumbers) where
  pub odd_none : n.inputs < 1 → true ≡ odd_numbers n
  unfolding odd_numbers
  odd_none l = simp (lt-ltb _ _ l)

  module _ (l : 1 ≤ n.inputs) where
    pub odd_many : 4 < n.inputs → true ≡ odd_numbers n
    unfolding odd_numbers
    odd_many m = simp (le-ltb _ _ l, lt-ltb _ _ m)

    module _ (m : n.inputs ≤ 4) where
      pub odd_outputs : n.outputs < 1 → true ≡ odd_numbers n
      unfolding odd_numbers
      odd_outputs o = simp (le-ltb _ _ l, le-ltb _ _ m, lt-ltb _ _ o)

      module _ (o : 1 ≤ n.outputs) where
        pub odd_least : n.entry_size < 1 → true ≡ odd_numbers n
        unfolding odd_numbers
        odd_least s = simp (le-ltb _ _ l, le-ltb _ _ m, le-ltb _ _ o, lt-ltb _ _ s)

        pub odd_most : 1 ≤ n.entry_size → ltb 2 n.entry_size ≡ odd_numbers n
        unfolding odd_numbers
        odd_most s = simp (le-ltb _ _ l, le-ltb _ _ m, le-ltb _ _ o, le-ltb _ _ s)

pub ruleset odd-laws = (odd_none, odd_many, odd_outputs, odd_least, odd_most)
