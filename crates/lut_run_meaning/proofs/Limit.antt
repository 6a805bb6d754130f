-- Demand 3 of a run: a higher limit keeps it, unless it stops with refusal 10.
-- Assumes nothing.
use Prim.Native.Nat.{ℕ, suc, ◌+◌, ◌≤◌}
use mathlib.Core.Path.{◌≡◌, refl, ◌∙◌}
use mathlib.Core.List.{List}
use mathlib.Core.Logic.{inl, inr}
use lib.Dec.{ltb}
use lib.ListN.{length, drop}
use Rattle.fields.specs.House.{tag_size}
use Rattle.fields.proofs.Never.{never}
use Rattle.fields.specs.Checked.{good, bad}
use Rattle.fields.proofs.Grow.{Grows, choose}
use Rattle.curve_meaning.specs.Shape.{Shape, step_of}
use Rattle.curve_meaning.specs.declared.Walk.{Walk}
use Rattle.curve_meaning.proofs.More.{No, curve_limit}
use Rattle.lut_run_meaning.specs.Run.{stopped, Run, placed, stops, first, aligned, curve_at_offset, run_at}
use Rattle.lut_run_meaning.proofs.Runs.{run_induct}

-- stops with refusal 10, at some curve
pub record Over (r : Run) : Type 0 where
  pub place : ℕ
  pub is_ten : r.end ≡ stopped 10 place

module _ (walk : Walk) (low high : ℕ) (t : List ℕ) (h : low ≤ high) where
  entry_limit : (at : ℕ) → Grows (No 10) (curve_at_offset low t at) (curve_at_offset high t at)
  unfolding curve_at_offset
  entry_limit at = choose (No 10) (ltb (length t) (at + tag_size)) (λ _. inr refl) (λ _. curve_limit low high (drop at t) h)

  stop : (at n m : ℕ) → curve_at_offset low t at ≡ bad m → Grows Over (stops at m) (run_at walk high t at (suc n))
  unfolding run_at
  stop at n m e = elim (entry_limit at) [
    | inl z ↦ (let k : m ≡ 10 = cc in inl record { place = at; is_ten = rw k })
    | inr z ↦ inr (rw (z ∙ e))
  ]

  goes : (at n : ℕ) (s : Shape) → curve_at_offset low t at ≡ good s → let next : ℕ = aligned (at + step_of walk s) in Grows Over (run_at walk low t next n) (run_at walk high t next n) → Grows Over (first (placed at s) (run_at walk low t next n)) (run_at walk high t at (suc n))
  unfolding run_at
  goes at n s e ih = elim (entry_limit at) [
    | inl z ↦ (never cc)
    | inr z ↦ elim ih [
      | inl o ↦ inl record { place = o.place; is_ten = o.is_ten }
      | inr q ↦ inr (rw (z ∙ e, q))
    ]
  ]

  pub run_limit : (at n : ℕ) → Grows Over (run_at walk low t at n) (run_at walk high t at n)
  unfolding run_at
  run_limit at n = run_induct walk low t (λ at n r. Grows Over r (run_at walk high t at n)) (λ at. inr refl) stop goes n at
