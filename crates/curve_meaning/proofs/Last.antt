-- No curve is refused with 14: that is the number of slots that are too few.
-- Assumes nothing.
use Prim.Native.Nat.{ℕ}
use native.Mathlib.Omega.{arith}
use mathlib.Core.Path.{◌≡◌, ap}
use mathlib.Core.List.{List}
use Rattle.fields.proofs.Never.{never}
use Rattle.fields.specs.Checked.{Checked, good, bad}
use Rattle.fields.specs.House.{tag_size}
use Rattle.curve_meaning.specs.Answer.{refused, answer_of}
use Rattle.curve_meaning.specs.Curve.{curve_of, tag_of, trc_of}
use Rattle.curve_meaning.specs.Shape.{Shape}
use Rattle.curve_meaning.specs.declared.Walk.{Walk}
use Rattle.curve_meaning.proofs.Every.{curve_each, trc_each}

abbrev pub Not14 : Checked Shape → Type 0
Not14 x = x ≡ bad 14 → ⊥

seen : (s : Shape) → Not14 (good s)
seen s e = never cc

pub other : (n : ℕ) → (n ≡ 14 → ⊥) → Not14 (bad n)
other n h e = h cc

pub curve_not_14 : (limit : ℕ) (t : List ℕ) → Not14 (curve_of limit t)
curve_not_14 =
    curve_each Not14 seen (other _ (λ z. omega arith)) (other _ (λ z. omega arith)) (other _ (λ z. omega arith)) (other _ (λ z. omega arith)) (other _ (λ z. omega arith))

answer_not_14 : (walk : Walk) (start : ℕ) (x : Checked Shape) → Not14 x → answer_of walk start x ≡ refused 14 → ⊥
unfolding answer_of
answer_not_14 walk start (good s) f h = never cc
answer_not_14 walk start (bad n) f h = let same : n ≡ 14 = cc in f (ap bad same)

pub trc_not_14 : (walk : Walk) (limit : ℕ) (p : List ℕ) (entry size : ℕ) → trc_of walk limit p entry size ≡ refused 14 → ⊥
trc_not_14 walk limit p entry size =
    trc_each (λ a. a ≡ refused 14 → ⊥) (λ h. never cc) (λ h. never cc) walk limit p entry size (answer_not_14 walk tag_size _ (curve_not_14 limit (tag_of p entry size)))
