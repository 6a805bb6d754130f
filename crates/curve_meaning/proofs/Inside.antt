-- Demand 1 of the tone curve: an accepted curve lies inside its tag, and the tag inside the profile.
-- Assumes nothing.
use Prim.Native.Nat.{ℕ, ◌+◌, ◌≤◌}
use native.Mathlib.Omega.{arith}
use mathlib.Core.Path.{◌≡◌, refl, sym}
use mathlib.Core.Bool.{◌&&◌}
use mathlib.Core.List.{List}
use lib.Dec.{ltb, leb}
use lib.ListN.{length}
use borrow.Author.Tests.{ltb-false}
use Rattle.fields.proofs.Never.{never}
use Rattle.fields.specs.Checked.{good}
use Rattle.fields.proofs.Choice.{each}
use Rattle.fields.specs.House.{tag_size}
use Rattle.curve_meaning.specs.Answer.{Answer, value, absent, answer_of}
use Rattle.curve_meaning.specs.Curve.{trc_of, curve_of, tag_of}
use Rattle.curve_meaning.specs.Shape.{Shape, empty, table, para, size_of, step_of}
use Rattle.curve_meaning.specs.declared.Walk.{Walk}
use Rattle.curve_meaning.specs.declared.Walk.TheVariants.{Crate, Book}
use Rattle.curve_meaning.proofs.Laid.{Laid, laid}
use Rattle.curve_meaning.proofs.Answered.{FromCurve, from_curve}

-- ---- one curve

laid_inside : (t : List ℕ) (s : Shape) → Laid t s → size_of s ≤ length t
unfolding Laid size_of
laid_inside t empty h = h.whole
laid_inside t (table n) (m, h) = h.whole
laid_inside t (para type ps) h = h.whole

-- the bytes that an accepted curve occupies are there
pub curve_inside : (limit : ℕ) (t : List ℕ) (s : Shape) → curve_of limit t ≡ good s → size_of s ≤ length t
curve_inside limit t s h = laid_inside t s (laid limit t s h).0

-- every curve has its first 12 bytes
pub size_least : (s : Shape) → tag_size ≤ size_of s
unfolding size_of
size_least empty = omega arith
size_least (table n) = omega arith
size_least (para type ps) = omega arith

-- no walk goes further than the bytes that the curve occupies
pub step_most : (walk : Walk) (s : Shape) → step_of walk s ≤ size_of s
unfolding step_of size_of
step_most Crate empty = omega arith
step_most Book empty = omega arith
step_most walk (table n) = omega arith
step_most walk (para type ps) = omega arith

-- the book walk goes as far
pub book_step : (s : Shape) → step_of Book s ≡ size_of s
unfolding step_of size_of
book_step empty = refl
book_step (table n) = refl
book_step (para type ps) = refl

-- ---- the lone reader

-- what stands behind a value
pub record Accepted (walk : Walk) (limit : ℕ) (p : List ℕ) (entry size : ℕ) (ws : List ℕ) (consumed : ℕ) : Type 0 where
  pub curve : FromCurve walk tag_size (curve_of limit (tag_of p entry size)) ws consumed
  pub curve_in_tag : size_of curve.shape ≤ length (tag_of p entry size)
  pub tag_in_profile : entry + size ≤ length p

module _ (walk : Walk) (limit : ℕ) (p : List ℕ) (entry size : ℕ) where
  abbrev Behind : Answer → Type 0
  Behind a = (ws : List ℕ) (consumed : ℕ) → value ws consumed ≡ a → (entry + size ≤ length p) × (value ws consumed ≡ answer_of walk tag_size (curve_of limit (tag_of p entry size)))

  behind : Behind (trc_of walk limit p entry size)
  unfolding trc_of
  behind =
      let none : Behind absent = λ ws consumed h. never cc in
      each Behind (ltb (length p) (entry + 4)) _ _ (λ _. none)
      (λ _. each Behind (leb 1 size && ltb size tag_size) _ _ (λ _. none)
      (λ _. each Behind (ltb (length p) (entry + size)) _ _ (λ _ ws consumed h. never cc)
      (λ l ws consumed h. (ltb-false (length p) (entry + size) l, h))))

  pub accepted_inside : (ws : List ℕ) (consumed : ℕ) → trc_of walk limit p entry size ≡ value ws consumed → Accepted walk limit p entry size ws consumed
  accepted_inside ws consumed h =
      let b = behind ws consumed (sym h) in
      let c = from_curve walk tag_size (curve_of limit (tag_of p entry size)) b.1 in
      record { curve = c; curve_in_tag = curve_inside limit (tag_of p entry size) c.shape c.seen; tag_in_profile = b.0 }
