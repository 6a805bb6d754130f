-- Which numbers `mft1` and `mft2` are refused with: what holds of 2, 3, 15 and 16 holds of each.
-- Assumes nothing.
use Prim.Native.Nat.{ℕ}
use mathlib.Core.Path.{◌≡◌, subst}
use mathlib.Core.Bool.{not}
use mathlib.Core.List.{List}
use lib.Dec.{ltb}
use lib.ListN.{length}
use Rattle.fields.proofs.Choice.{each}
use Rattle.fields.proofs.Never.{never}
use Rattle.lut_clut_meaning.specs.Table.{points_of}
use Rattle.lut_mft_meaning.specs.Answer.{State, refused}
use Rattle.lut_mft_meaning.specs.Layout.{is_mft, shortest, tables_start, tables_end, colour_table}
use Rattle.lut_mft_meaning.specs.Mft.{bad_numbers, tables_of, numbers_of, mft_of}

module _ (Q : ℕ → Type 0) (two : Q 2) (three : Q 3) (fifteen : Q 15) (sixteen : Q 16) where
  abbrev P : State → Type 0
  P s = (n : ℕ) → s ≡ refused n → Q n

  only : (m : ℕ) → Q m → P (refused m)
  only m q n e = let same : m ≡ n = cc in subst Q same q

  pub mft_refuses : (limit : ℕ) (t : List ℕ) → P (mft_of limit t)
  unfolding mft_of numbers_of tables_of
  mft_refuses limit t =
      each P (ltb (length t) shortest) _ _ (λ _. only 2 two)
      (λ _. each P (not (is_mft t)) _ _ (λ _. only 3 three)
      (λ _. each P (ltb (length t) (tables_start t)) _ _ (λ _. only 2 two)
      (λ _. each P (bad_numbers t) _ _ (λ _. only 15 fifteen)
      (λ _. each P (ltb limit (points_of (colour_table t))) _ _ (λ _. only 16 sixteen)
      (λ _. each P (ltb (length t) (tables_end t)) _ _ (λ _. only 2 two) (λ _ n h. never cc))))))
