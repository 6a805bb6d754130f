-- Which numbers a colour table is refused with: what holds of 2, 4, 5, 6, 7 and 8 holds of each.
-- Assumes nothing.
use Prim.Native.Nat.{ℕ, ◌+◌}
use mathlib.Core.Path.{◌≡◌, subst}
use mathlib.Core.Bool.{◌||◌}
use mathlib.Core.List.{List}
use lib.Dec.{ltb, eqb}
use lib.ListN.{length}
use Rattle.fields.specs.Checked.{Checked, good, bad}
use Rattle.fields.specs.Some.{some}
use Rattle.fields.proofs.Choice.{each, through}
use Rattle.fields.proofs.Never.{never}
use Rattle.lut_clut_meaning.specs.Clut.{grid_at_of, table_at, is_flat, overflows, most_entries, grid_checked, data_of, clut_of}
use Rattle.lut_clut_meaning.specs.Table.{Table, entries_of, length_of}

-- what is refused is refused with a number of which Q holds
abbrev pub Only : {A : Type 0} → (ℕ → Type 0) → Checked A → Type 0
Only Q c = (n : ℕ) → c ≡ bad n → Q n

pub only_good : {A : Type 0} (Q : ℕ → Type 0) (x : A) → Only Q (good x)
only_good Q x n e = never cc

pub only_bad : {A : Type 0} (Q : ℕ → Type 0) (m : ℕ) → Q m → Only {A = A} Q (bad m)
only_bad Q m q n e = let same : m ≡ n = cc in subst Q same q

module _ (Q : ℕ → Type 0) (two : Q 2) (four : Q 4) (five : Q 5) (six : Q 6) (seven : Q 7) (eight : Q 8) where
  grid_refuses : (table : Table) → Only Q (grid_checked table)
  unfolding grid_checked
  grid_refuses table =
      let P : Checked Unit → Type 0 = Only Q in
      each P (overflows table.grid table.outputs) _ _ (λ _. only_bad Q 4 four)
      (λ _. each P (eqb (entries_of table) 0) _ _ (λ _. only_bad Q 5 five)
      (λ _. each P (ltb most_entries (entries_of table)) _ _ (λ _. only_bad Q 6 six)
      (λ _. each P (some is_flat table.grid) _ _ (λ _. only_bad Q 7 seven) (λ _. only_good Q tt))))

  data_refuses : (t : List ℕ) (table : Table) → Only Q (data_of t table)
  unfolding data_of
  data_refuses t table =
      let P : Checked Table → Type 0 = Only Q in
      each P (ltb table.size 1 || ltb 2 table.size) _ _ (λ _. only_bad Q 8 eight)
      (λ _. each P (ltb (length t) (table.start + length_of table)) _ _ (λ _. only_bad Q 2 two) (λ _. only_good Q table))

  pub clut_refuses : (t : List ℕ) (at inputs outputs : ℕ) → Only Q (clut_of t at inputs outputs)
  unfolding clut_of
  clut_refuses t at inputs outputs =
      let P : Checked Table → Type 0 = Only Q in
      let table : Table = table_at t at (grid_at_of t at inputs) outputs in
      each P (ltb (length t) table.start) _ _ (λ _. only_bad Q 2 two)
      (λ _. through P (grid_checked table) _ (λ n e. only_bad Q n (grid_refuses table n e)) (λ _ _. data_refuses t table))
