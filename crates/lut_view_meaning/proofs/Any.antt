-- Of any table, also one that a view was given by hand: an index or a channel that is not valid reads nothing, nor does a table whose
-- entries have no bytes; and what is read is the number of an entry in the tag.
-- Assumes nothing.
use Prim.Native.Nat.{ℕ, ◌+◌, ◌*◌, ◌^◌, ◌≤◌, ◌<◌}
use mathlib.Core.Path.{◌≡◌, refl}
use mathlib.Core.Bool.{Bool, true, false, cond, ◌&&◌, ◌||◌}
use mathlib.Core.List.{List}
use lib.Dec.{ltb}
use lib.ListN.{length}
use borrow.Author.Tests.{ltb-true, ltb-false}
use Rattle.fields.proofs.Never.{never}
use Rattle.fields.proofs.Choice.{each, first_holds, second_holds, neither_left, neither_right}
use Rattle.lut_clut_meaning.specs.Table.{Table, in_grid, point_of, entry_number}
use Rattle.lut_view_meaning.specs.Answer.{Answer, value, absent}
use Rattle.lut_view_meaning.specs.View.{stored_at, entry_from, entry_of}

module _ (t : List ℕ) (table : Table) (index : List ℕ) (channel : ℕ) where
  pub invalid_absent : in_grid table.grid index && ltb channel table.outputs ≡ false → entry_of t table index channel ≡ absent
  unfolding entry_of
  invalid_absent = by (in_grid table.grid index) (ltb (point_of table.grid index) (2 ^ 32)) (ltb channel table.outputs)
    where
      by : (a b c : Bool) → a && c ≡ false → cond (a && b && c) (entry_from t table.start table.size (entry_number table index channel)) absent ≡ absent
      by true true c e = rw e
      by true false c e = refl
      by false b c e = refl

  pub empty_absent : table.size ≡ 0 → entry_of t table index channel ≡ absent
  unfolding entry_of entry_from
  empty_absent e = by (in_grid table.grid index && ltb (point_of table.grid index) (2 ^ 32) && ltb channel table.outputs)
    where
      by : (b : Bool) → cond b (entry_from t table.start table.size (entry_number table index channel)) absent ≡ absent
      by true = rw e
      by false = refl

  pub record Found (n : ℕ) : Type 0 where
    pub in_grid_lem : in_grid table.grid index ≡ true
    pub low : channel < table.outputs
    pub size_least : 1 ≤ table.size
    pub size_most : table.size ≤ 2
    pub in_tag : table.start + (entry_number table index channel * table.size + table.size) ≤ length t
    pub is : n ≡ stored_at t (table.start + entry_number table index channel * table.size) table.size

  abbrev FoundAs : Answer → Type 0
  FoundAs a = (n : ℕ) → a ≡ value n → Found n

  nothing_found : FoundAs absent
  nothing_found n e = never cc

  pub found : FoundAs (entry_of t table index channel)
  unfolding entry_of entry_from
  found =
      let s : ℕ = table.size in
      let k : ℕ = entry_number table index channel in
      each FoundAs (in_grid table.grid index && ltb (point_of table.grid index) (2 ^ 32) && ltb channel table.outputs) _ _
      (λ v. each FoundAs (ltb s 1 || ltb 2 s) _ _ (λ _. nothing_found)
      (λ z. each FoundAs (ltb (length t) (table.start + (k * s + s))) _ _ (λ _. nothing_found)
      (λ o n e.
      record {
        in_grid_lem = first_holds (in_grid table.grid index) (ltb (point_of table.grid index) (2 ^ 32)) (first_holds (in_grid table.grid index && ltb (point_of table.grid index) (2 ^ 32)) (ltb channel table.outputs) v);
        low = ltb-true channel table.outputs (second_holds (in_grid table.grid index && ltb (point_of table.grid index) (2 ^ 32)) _ v);
        size_least = ltb-false s 1 (neither_left (ltb s 1) (ltb 2 s) z);
        size_most = ltb-false 2 s (neither_right (ltb s 1) (ltb 2 s) z);
        in_tag = ltb-false (length t) _ o;
        is = cc;
      })))
      (λ _. nothing_found)
