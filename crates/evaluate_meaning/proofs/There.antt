-- What `no_table` finds, both ways: a colour table is there where its numbers are not odd, no dimension is below 2 and the entries lie in the tag.
-- Assumes nothing.
use Prim.Native.Nat.{ℕ, ◌+◌, ◌≤◌}
use mathlib.Core.Path.{◌≡◌}
use mathlib.Core.Bool.{false}
use mathlib.Core.List.{List}
use lib.ListN.{length}
use borrow.Author.Tests.{ltb-false, le-ltb}
use Rattle.fields.specs.Some.{some}
use Rattle.fields.proofs.Choice.{neither_left, neither_right}
use Rattle.lut_clut_meaning.specs.Clut.{is_flat}
use Rattle.lut_clut_meaning.specs.Table.{Table, length_of}
use Rattle.lut_view_meaning.specs.View.{table_by}
use Rattle.lut_view_meaning.specs.declared.TableNumbers.{TableNumbers}
use Rattle.evaluate_meaning.specs.Evaluate.{odd_numbers, outside, no_table}
use Rattle.evaluate_meaning.proofs.Odd.{Even, even, not_odd}

pub record There (t : List ℕ) (n : TableNumbers) : Type 0 where
  pub numbers : Even n
  pub solid : some is_flat (table_by t n).grid ≡ false
  pub in_tag : (table_by t n).start + length_of (table_by t n) ≤ length t

module _ (t : List ℕ) (n : TableNumbers) where
  abbrev table : Table
  table = table_by t n

  pub both_passed : odd_numbers n ≡ false → outside t table ≡ false → There t n
  unfolding outside
  both_passed e f =
      record {
        numbers = even n e;
        solid = neither_left (some is_flat table.grid) _ f;
        in_tag = ltb-false _ _ (neither_right (some is_flat table.grid) _ f);
      }

  pub is_there : no_table t n ≡ false → There t n
  unfolding no_table
  is_there h = both_passed (neither_left (odd_numbers n) (outside t table) h) (neither_right (odd_numbers n) (outside t table) h)

  pub none_missing : There t n → no_table t n ≡ false
  unfolding no_table outside
  none_missing w = rw (not_odd n w.numbers, w.solid, le-ltb _ _ w.in_tag)
