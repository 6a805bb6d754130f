-- The meaning case by case, as the code meets them: each law takes what the tests and the calls on the way told.
-- Assumes nothing.
use Prim.Native.Nat.{ℕ, ◌-◌, ◌/◌, ◌≤◌, ◌<◌}
use mathlib.Core.Path.{◌≡◌}
use mathlib.Core.List.{List}
use lib.ListN.{length, take, drop}
use borrow.Author.Tests.{eq-eqb, ne_eqb, lt-ltb, le-ltb}
use Rattle.std.specs.Prelude.{Option, Some, None}
use Rattle.fields.specs.Bytes.{u32_at}
use Rattle.fields.specs.Place.{place_of}
use Rattle.fields.specs.Tag.{signature_of}
use Rattle.fields.specs.declared.Kind.TheVariants.{Sf32}
use Rattle.fields.specs.declared.Place.{Place}
use Rattle.fields.proofs.Located.{inside, past, part_is, begins, starts, ends}
use Rattle.small_meaning.specs.Answer.{Answer, value, absent, refused}
use Rattle.small_meaning.specs.Layout.{nine_numbers}
use Rattle.small_meaning.specs.Small.{chad_matrix_of, chad_of}

module _ (t : List ℕ) (w : ℕ) (h : w ≡ u32_at t 0) where
  pub matrix_other : (w ≡ signature_of Sf32 → ⊥) → refused 17 ≡ chad_matrix_of t
  unfolding chad_matrix_of
  matrix_other e = simp (← h, ne_eqb _ _ e)

  module _ (s : w ≡ signature_of Sf32) where
    pub matrix_size : (length t ≡ 44 → ⊥) → refused 17 ≡ chad_matrix_of t
    unfolding chad_matrix_of
    matrix_size e = simp (← h, eq-eqb _ _ s, ne_eqb _ _ e)

    pub matrix_value : (ws : List ℕ) → length t ≡ 44 → ws ≡ nine_numbers t → value ws ≡ chad_matrix_of t
    unfolding chad_matrix_of
    matrix_value ws e n = simp (← h, eq-eqb _ _ s, eq-eqb _ _ e, n)

module _ (p : List ℕ) (entry size : ℕ) (place : Option Place) (h : place ≡ place_of (length p) entry size) where
  pub chad_past : place ≡ None → refused 1 ≡ chad_of p entry size
  unfolding chad_of
  chad_past e = simp (lt-ltb _ _ (past _ _ _ h e))

  module _ (w : Place) (e : place ≡ Some w) (head : Option Place) (g : head ≡ place_of (length p) entry 8) where
    pub chad_head : head ≡ None → refused 1 ≡ chad_of p entry size
    unfolding chad_of
    chad_head f = simp (le-ltb _ _ (inside _ _ _ h e).fits, lt-ltb _ _ (past _ _ _ g f))

    module _ (v : Place) (f : head ≡ Some v) where
      pub chad_short : size < 8 → absent ≡ chad_of p entry size
      unfolding chad_of
      chad_short l = simp (le-ltb _ _ (inside _ _ _ h e).fits, le-ltb _ _ (inside _ _ _ g f).fits, lt-ltb _ _ l)

      pub chad_count : 8 ≤ size → ((size - 8) / 4 ≡ 9 → ⊥) → absent ≡ chad_of p entry size
      unfolding chad_of
      chad_count l n = simp (le-ltb _ _ (inside _ _ _ h e).fits, le-ltb _ _ (inside _ _ _ g f).fits, le-ltb _ _ l, ne_eqb _ _ n)

      pub chad_tag_lem : (r : Answer) → 8 ≤ size → (size - 8) / 4 ≡ 9 → r ≡ chad_matrix_of (take (w.end - w.start) (drop w.start p)) → r ≡ chad_of p entry size
      unfolding chad_of
      chad_tag_lem r l n m =
          let i = inside _ _ _ h e in
          simp (le-ltb _ _ i.fits, le-ltb _ _ (inside _ _ _ g f).fits, le-ltb _ _ l, eq-eqb _ _ n) (simp (i.from_is, i.to_is, part_is p entry size) at m)

pub ruleset chad_laws = (matrix_other, matrix_size, matrix_value, chad_past, chad_head, chad_short, chad_count, chad_tag_lem, begins, starts, ends)
