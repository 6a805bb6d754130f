-- When a call is given more (bytes behind the profile, a higher limit, more slots), its answer stays, unless it is one of the loose
-- answers. The laws follow the tests of a meaning, so that a reader's law is put together along its definition.
-- Assumes nothing.
use mathlib.Core.Path.{◌≡◌, refl}
use mathlib.Core.Bool.{Bool, true, false, cond, true≢false}
use mathlib.Core.Logic.{◌⊎◌, inl}

module _ {A : Type 0} (Loose : A → Type 0) where
  -- with more given, a becomes b
  abbrev pub Grows : A → A → Type 0
  Grows a b = Loose a ⊎ (b ≡ a)

  -- a test that comes out the same
  pub choose : (t : Bool) {a b a' b' : A} → (t ≡ true → Grows a a') → (t ≡ false → Grows b b') → Grows (cond t a b) (cond t a' b')
  choose true f g = f refl
  choose false f g = g refl

  -- a test that, once it fails, fails with more given too; where it holds, the answer is loose
  pub passes : (t t' : Bool) {a b b' : A} → (t ≡ false → t' ≡ false) → Loose a → (t ≡ false → Grows b b') → Grows (cond t a b) (cond t' a b')
  passes true t' k l g = inl l
  passes false true k l g = absurd (true≢false (k refl))
  passes false false k l g = g refl
