-- The words of a lookup table are as many as the layout of its type has, and the first of them tells how the numbers of its colour table are taken.
-- Assumes nothing.
use Prim.Native.Nat.{ℕ}
use native.Mathlib.Omega.{arith}
use mathlib.Core.Path.{◌≡◌, refl}
use mathlib.Core.Bool.{Bool, true, false, cond}
use mathlib.Core.List.{List, ◌++◌}
use lib.Dec.{eqb}
use lib.ListN.{length, get_or, length-append}
use borrow.Author.Tests.{eq-eqb, ne_eqb}
use Rattle.fields.specs.Tag.{signature_of}
use Rattle.fields.specs.declared.Kind.TheVariants.{Mft1, Mft2, Mab, Mba}
use Rattle.lut_meaning.specs.Answer.{Abm}
use Rattle.lut_mft_meaning.specs.Answer.{Fields}
use Rattle.lut_view_meaning.specs.View.{no_numbers}
use Rattle.lut_view_meaning.specs.declared.TableNumbers.{TableNumbers}
use Rattle.export_lut.specs.Layout.{mft_head, mft_ranges, abm_head, abm_parts, lut_layout, mft_numbers, abm_numbers, numbers_in}

-- by the type that the first word tells
mft_words : (b : Bool) → (lut_layout (cond b (signature_of Mft1) (signature_of Mft2))).words ≡ 21
unfolding lut_layout signature_of
mft_words true = omega arith
mft_words false = omega arith

abm_words : (b : Bool) → (lut_layout (cond b (signature_of Mab) (signature_of Mba))).words ≡ 37
unfolding lut_layout signature_of
abm_words true = omega arith
abm_words false = omega arith

pub mft_laid : (f : Fields) (matrix : List ℕ) → length matrix ≡ 9 → length (mft_head f ++ matrix ++ mft_ranges f) ≡ (lut_layout (cond (eqb f.size 1) (signature_of Mft1) (signature_of Mft2))).words
mft_laid f matrix h = rw (mft_words (eqb f.size 1)) (simp length-append (omega (arith, h)))

pub abm_laid : (f : Abm) (grid matrix bias : List ℕ) → length grid ≡ 16 → length matrix ≡ 9 → length bias ≡ 3 → length (abm_head f ++ grid ++ matrix ++ bias ++ abm_parts f) ≡ (lut_layout (cond f.to_pcs_of (signature_of Mab) (signature_of Mba))).words
abm_laid f grid matrix bias g h i = rw (abm_words f.to_pcs_of) (simp length-append (omega (arith, g, h, i)))

-- ---- the numbers of a colour table, by the type that the first word tells

module _ (ws : List ℕ) (first : ℕ) (w : first ≡ get_or ws 0 0) where
  pub of_mft1 : (n : TableNumbers) → first ≡ signature_of Mft1 → n ≡ mft_numbers 1 ws → n ≡ numbers_in ws
  unfolding numbers_in
  of_mft1 n e h = rw (← w, eq-eqb _ _ e) h

  module _ (not1 : first ≡ signature_of Mft1 → ⊥) where
    pub of_mft2 : (n : TableNumbers) → first ≡ signature_of Mft2 → n ≡ mft_numbers 2 ws → n ≡ numbers_in ws
    unfolding numbers_in
    of_mft2 n e h = rw (← w, ne_eqb _ _ not1, eq-eqb _ _ e) h

    module _ (not2 : first ≡ signature_of Mft2 → ⊥) where
      pub of_mab : (n : TableNumbers) → first ≡ signature_of Mab → n ≡ abm_numbers ws → n ≡ numbers_in ws
      unfolding numbers_in
      of_mab n e h = rw (← w, ne_eqb _ _ not1, ne_eqb _ _ not2, eq-eqb _ _ e) h

      module _ (not3 : first ≡ signature_of Mab → ⊥) where
        pub of_mba : (n : TableNumbers) → first ≡ signature_of Mba → n ≡ abm_numbers ws → n ≡ numbers_in ws
        unfolding numbers_in
        of_mba n e h = rw (← w, ne_eqb _ _ not1, ne_eqb _ _ not2, ne_eqb _ _ not3, eq-eqb _ _ e) h

        pub of_none : (first ≡ signature_of Mba → ⊥) → no_numbers ≡ numbers_in ws
        unfolding numbers_in
        of_none not4 = rw (← w, ne_eqb _ _ not1, ne_eqb _ _ not2, ne_eqb _ _ not3, ne_eqb _ _ not4) refl

pub ruleset type-laws = (of_mft1, of_mft2, of_mab, of_mba, of_none)
