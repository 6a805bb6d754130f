-- Which numbers a small reader refuses with: what holds of 1, 2 and 17 holds of each. So none is 14, that of slots that are too few: they have
-- none.
-- Assumes nothing.
use Prim.Native.Nat.{ℕ, ◌+◌, ◌-◌, ◌/◌}
use native.Mathlib.Omega.{arith}
use mathlib.Core.Path.{◌≡◌, refl, subst}
use mathlib.Core.List.{List}
use lib.Dec.{ltb, eqb}
use lib.ListN.{length}
use Rattle.std.specs.Prelude.{Result}
use Rattle.fields.proofs.Never.{never}
use Rattle.fields.specs.Bytes.{u32_at}
use Rattle.fields.specs.Place.{tag_at}
use Rattle.fields.specs.Tag.{signature_of}
use Rattle.fields.specs.declared.Kind.TheVariants.{Sf32}
use Rattle.fields.specs.declared.Place.{Place}
use Rattle.fields.proofs.Choice.{each}
use Rattle.small_meaning.specs.Answer.{Answer, value, default, absent, refused}
use Rattle.small_meaning.specs.Layout.{nine_numbers}
use Rattle.small_meaning.specs.Order.{answer_to}
use Rattle.small_meaning.specs.Readers.{Small, chad, sig, date, meas, view, xyz, cicp, small_of}
use Rattle.small_meaning.specs.Small.{chad_matrix_of, chad_of, window_of, triple_of}
use Rattle.small_meaning.specs.declared.Unfound.{Unfound}
use Rattle.small_meaning.proofs.Order.{order_each}

-- `chad`: what holds of every answer that it can give holds of the one that it gives
pub chad_each : (P : Answer → Type 0) → P (refused 1) → P (refused 17) → P absent → ((t : List ℕ) → P (value (nine_numbers t))) → (p : List ℕ) (entry size : ℕ) → P (chad_of p entry size)
unfolding chad_of chad_matrix_of
chad_each P past bad none is p entry size =
    each P (ltb (length p) (entry + size)) _ _ (λ _. past)
    (λ _. each P (ltb (length p) (entry + 8)) _ _ (λ _. past)
    (λ _. each P (ltb size 8) _ _ (λ _. none)
    (λ _. each P (eqb ((size - 8) / 4) 9) _ _
    (λ _. each P (eqb (u32_at (tag_at p entry size) 0) (signature_of Sf32)) _ _
    (λ _. each P (eqb (length (tag_at p entry size)) 44) _ _ (λ _. is _) (λ _. bad)) (λ _. bad))
    (λ _. none))))

module _ (Q : ℕ → Type 0) (one : Q 1) (two : Q 2) (seventeen : Q 17) where
  abbrev Only : Answer → Type 0
  Only a = (n : ℕ) → a ≡ refused n → Q n

  only : (m : ℕ) → Q m → Only (refused m)
  only m q n e = let same : m ≡ n = cc in subst Q same q

  valued : (ws : List ℕ) → Only (value ws)
  valued ws n e = never cc

  none : Only absent
  none n e = never cc

  standard : Only default
  standard n e = never cc

  -- the order that the readers share
  ordered : (f : Result Place Unfound) {short other this : Answer} → Only short → Only other → Only this → Only (answer_to f short other this)
  ordered f a b c = order_each Only f a (only 1 one) b c

  pub small_refuses : (s : Small) (p : List ℕ) (entry size : ℕ) → Only (small_of s p entry size)
  unfolding window_of triple_of
  small_refuses chad p entry size = chad_each Only (only 1 one) (only 17 seventeen) none (λ t. valued _) p entry size
  small_refuses sig p entry size = ordered _ (only 2 two) none (valued _)
  small_refuses date p entry size = ordered _ none none (valued _)
  small_refuses meas p entry size = ordered _ none none (each Only (ltb (length p) (entry + 36)) _ _ (λ _. only 1 one) (λ _. valued _))
  small_refuses view p entry size = ordered _ none none (valued _)
  small_refuses xyz p entry size =
      ordered _ standard standard (each Only (ltb (length (tag_at p entry size)) 20) _ _ (λ _. only 2 two) (λ _. valued _))
  small_refuses cicp p entry size = ordered _ none none (valued _)

pub small_not_14 : (s : Small) (p : List ℕ) (entry size : ℕ) → small_of s p entry size ≡ refused 14 → ⊥
small_not_14 s p entry size h = small_refuses (λ n. n ≡ 14 → ⊥) (λ e. omega arith) (λ e. omega arith) (λ e. omega arith) s p entry size 14 h refl
