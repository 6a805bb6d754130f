-- Demand 3 of `mft1` and `mft2`: a higher limit of grid points changes refusal 16 alone.
-- Assumes nothing.
use Prim.Native.Nat.{ℕ, ◌≤◌}
use native.Mathlib.Omega.{arith}
use mathlib.Core.Path.{◌≡◌, refl}
use mathlib.Core.Bool.{not}
use mathlib.Core.List.{List}
use mathlib.Core.Logic.{inr}
use lib.Dec.{ltb}
use lib.ListN.{length}
use borrow.Author.Tests.{ltb-false, le-ltb}
use Rattle.lut_clut_meaning.specs.Table.{points_of}
use Rattle.fields.proofs.Grow.{Grows, choose, passes}
use Rattle.lut_mft_meaning.specs.Answer.{State, refused}
use Rattle.lut_mft_meaning.specs.Layout.{is_mft, shortest, colour_table, tables_start}
use Rattle.lut_mft_meaning.specs.Mft.{bad_numbers, numbers_of, mft_of}

abbrev pub Is : ℕ → State → Type 0
Is n s = s ≡ refused n

module _ (low high : ℕ) (h : low ≤ high) (t : List ℕ) where
  numbers_limit : Grows (Is 16) (numbers_of low t) (numbers_of high t)
  unfolding numbers_of
  numbers_limit =
      let n : ℕ = points_of (colour_table t) in
      choose (Is 16) (bad_numbers t) (λ _. inr refl)
      (λ _. passes (Is 16) (ltb low n) (ltb high n) (λ e. le-ltb high n (omega (arith, ltb-false low n e, h))) refl (λ _. inr refl))

  pub more_limit : Grows (Is 16) (mft_of low t) (mft_of high t)
  unfolding mft_of
  more_limit =
      choose (Is 16) (ltb (length t) shortest) (λ _. inr refl)
      (λ _. choose (Is 16) (not (is_mft t)) (λ _. inr refl)
      (λ _. choose (Is 16) (ltb (length t) (tables_start t)) (λ _. inr refl)
      (λ _. numbers_limit)))
