-- The layouts and the meanings case by case, as the code meets them: each law takes what the tests and the calls on the way told. What
-- stands behind the shared order is in Order.antt of `small_meaning`.
-- Assumes nothing.
use Prim.Native.Nat.{ℕ, ◌+◌, ◌-◌, ◌≤◌, ◌<◌}
use native.Mathlib.Omega.{arith}
use mathlib.Core.Path.{◌≡◌, ap}
use mathlib.Core.List.{List, [], ◌∷◌}
use lib.ListN.{length, take, drop}
use borrow.Author.Tests.{lt-ltb, le-ltb}
use Rattle.std.specs.Prelude.{Option, Some, None}
use Rattle.fields.specs.Bytes.{u32_at, words_at}
use Rattle.fields.specs.Place.{place_of}
use Rattle.fields.specs.declared.Place.{Place}
use Rattle.fields.proofs.Located.{inside, past, part_is, begins, starts, ends}
use Rattle.small_meaning.specs.Answer.{value, refused}
use Rattle.small_meaning.specs.Layout.{measurement, conditions, first_xyz}
use Rattle.small_meaning.specs.Small.{window_of, triple_of}
use Rattle.small_meaning.proofs.Order.{reader_laws}

-- ---- the fields of each type

module _ (t : List ℕ) where
  pub triple_is : (at x y z : ℕ) → x ≡ u32_at t at → y ≡ u32_at t (at + 4) → z ≡ u32_at t (at + 8) → x ∷ y ∷ z ∷ [] ≡ words_at t at 3
  unfolding words_at
  triple_is at x y z e₁ e₂ e₃ = let e : (at + 4) + 4 ≡ at + 8 = omega arith in simp (e₁, e₂, e₃, e)

  pub measurement_is : (a b c d e f g : ℕ) → a ≡ u32_at t 8 → b ∷ c ∷ d ∷ [] ≡ words_at t 12 3 → e ≡ u32_at t 24 → f ≡ u32_at t 28 → g ≡ u32_at t 32 → a ∷ b ∷ c ∷ d ∷ e ∷ f ∷ g ∷ [] ≡ measurement t
  unfolding measurement words_at
  measurement_is a b c d e f g e₁ e₂ e₃ e₄ e₅ = cc

  pub conditions_are : (a b c d e f g : ℕ) → a ∷ b ∷ c ∷ [] ≡ words_at t 8 3 → d ∷ e ∷ f ∷ [] ≡ words_at t 20 3 → g ≡ u32_at t 32 → a ∷ b ∷ c ∷ d ∷ e ∷ f ∷ g ∷ [] ≡ conditions t
  unfolding conditions words_at
  conditions_are a b c d e f g e₁ e₂ e₃ = cc

-- ---- `meas`

module _ (p : List ℕ) (entry : ℕ) (place : Option Place) (h : place ≡ place_of (length p) entry 36) where
  pub window_past : place ≡ None → refused 1 ≡ window_of p entry
  unfolding window_of
  window_past e = simp (lt-ltb _ _ (past _ _ _ h e))

  pub window_value : (ws : List ℕ) (w : Place) → place ≡ Some w → ws ≡ measurement (take (w.end - w.start) (drop w.start p)) → value ws ≡ window_of p entry
  unfolding window_of
  window_value ws w e m =
      let i = inside _ _ _ h e in
      simp (le-ltb _ _ i.fits) (ap value (simp (i.from_is, i.to_is, part_is p entry 36) at m))

pub ruleset meas_laws = (reader_laws, window_past, window_value, begins, starts, ends)

-- ---- `XYZ `

module _ (t : List ℕ) where
  pub triple_short : length t < 20 → refused 2 ≡ triple_of t
  unfolding triple_of
  triple_short l = simp (lt-ltb _ _ l)

  pub triple_value : (ws : List ℕ) → 20 ≤ length t → ws ≡ words_at t 8 3 → value ws ≡ triple_of t
  unfolding triple_of first_xyz
  triple_value ws l w = simp (le-ltb _ _ l, w)

pub ruleset xyz_laws = (reader_laws, triple_short, triple_value)
