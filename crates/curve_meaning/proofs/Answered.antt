-- What stands behind the answer of a curve reader, and behind a step.
-- Assumes nothing.
use Prim.Native.Nat.{ℕ}
use mathlib.Core.Path.{◌≡◌, refl}
use mathlib.Core.List.{List}
use Rattle.fields.proofs.Never.{never}
use Rattle.fields.specs.Checked.{Checked, good, bad}
use Rattle.curve_meaning.specs.Answer.{value, absent, answer_of, step_checked}
use Rattle.curve_meaning.specs.Shape.{Shape, step_of, words_of}
use Rattle.curve_meaning.specs.declared.Walk.{Walk}

-- a value comes of a curve
pub record FromCurve (walk : Walk) (start : ℕ) (x : Checked Shape) (ws : List ℕ) (consumed : ℕ) : Type 0 where
  pub shape : Shape
  pub seen : x ≡ good shape
  pub record_is : ws ≡ words_of start shape
  pub step_is : consumed ≡ step_of walk shape

pub from_curve : (walk : Walk) (start : ℕ) (x : Checked Shape) {ws : List ℕ} {consumed : ℕ} → value ws consumed ≡ answer_of walk start x → FromCurve walk start x ws consumed
unfolding answer_of
from_curve walk start (good s) h = record { shape = s; seen = refl; record_is = cc; step_is = cc }
from_curve walk start (bad n) h = never cc

-- and there is no absence
pub never_absent : (walk : Walk) (start : ℕ) (x : Checked Shape) → absent ≡ answer_of walk start x → ⊥
unfolding answer_of
never_absent walk start (good s) h = never cc
never_absent walk start (bad m) h = never cc

-- ---- a step

-- a walk that goes on comes of a curve
pub record Stepped (walk : Walk) (x : Checked Shape) (m : ℕ) : Type 0 where
  pub shape : Shape
  pub seen : x ≡ good shape
  pub step_is : m ≡ step_of walk shape

pub stepped : (walk : Walk) (x : Checked Shape) {m : ℕ} → good m ≡ step_checked walk x → Stepped walk x m
unfolding step_checked
stepped walk (good s) h = record { shape = s; seen = refl; step_is = cc }
stepped walk (bad n) h = never cc

-- and one that stops, of a refusal
pub stepped_no : (walk : Walk) (x : Checked Shape) {n : ℕ} → bad n ≡ step_checked walk x → x ≡ bad n
unfolding step_checked
stepped_no walk (good s) h = never cc
stepped_no walk (bad m) {n} h = let e : n ≡ m = cc in cc
