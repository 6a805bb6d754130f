-- The curves of a run, one by one: they are read at their places, as many as asked, inside the tag.
-- Assumes nothing.
use Prim.Native.Nat.{ℕ, zero, suc, ◌+◌, ◌≤◌}
use native.Mathlib.Omega.{arith}
use mathlib.Core.Path.{◌≡◌, refl, ap}
use mathlib.Core.Bool.{Bool, true, false, cond}
use mathlib.Core.List.{List, [], ◌∷◌}
use lib.Dec.{ltb}
use lib.ListN.{length, drop, length-drop}
use borrow.Author.Tests.{ltb-false}
use Rattle.icc.specs.Each.{Each}
use Rattle.fields.specs.House.{tag_size}
use Rattle.fields.proofs.Never.{never}
use Rattle.fields.specs.Checked.{Checked, good, bad}
use Rattle.curve_meaning.specs.Curve.{curve_of}
use Rattle.curve_meaning.specs.Shape.{Shape, size_of, step_of}
use Rattle.curve_meaning.specs.declared.Walk.{Walk}
use Rattle.curve_meaning.proofs.Inside.{curve_inside}
use Rattle.lut_run_meaning.specs.Run.{Placed, whole, Run, placed, done, stops, first, aligned, curve_at_offset, follow, run_at, CurveStands}

-- a curve that is seen at an offset of the tag is what the bytes there say, and 12 of them there are
pub entry_there : (limit : ℕ) (t : List ℕ) (at : ℕ) (s : Shape) → curve_at_offset limit t at ≡ good s → (at + tag_size ≤ length t) × (curve_of limit (drop at t) ≡ good s)
unfolding curve_at_offset
entry_there limit t at s = by (ltb (length t) (at + tag_size)) refl
  where
    by : (b : Bool) → ltb (length t) (at + tag_size) ≡ b → cond b (bad 2) (curve_of limit (drop at t)) ≡ good s → (at + tag_size ≤ length t) × (curve_of limit (drop at t) ≡ good s)
    by true e h = never cc
    by false e h = (ltb-false (length t) (at + tag_size) e, h)

-- and it ends inside the tag
pub entry_inside : (limit : ℕ) (t : List ℕ) (at : ℕ) (s : Shape) → curve_at_offset limit t at ≡ good s → at + size_of s ≤ length t
entry_inside limit t at s h = let w = entry_there limit t at s h in omega (arith, curve_inside limit (drop at t) s w.1, w.0, length-drop at t)

module _ (walk : Walk) (limit : ℕ) (t : List ℕ) where
  -- what holds of every run: of a run of no places, of one that stops at once, and of one that goes on, where it holds of the rest
  module _ (P : ℕ → ℕ → Run → Type 0) (none : (at : ℕ) → P at 0 done) (stop : (at n m : ℕ) → curve_at_offset limit t at ≡ bad m → P at (suc n) (stops at m))
      (goes : (at n : ℕ) (s : Shape) → curve_at_offset limit t at ≡ good s → let next : ℕ = aligned (at + step_of walk s) in P next n (run_at walk limit t next n) → P at (suc n) (first (placed at s) (run_at walk limit t next n))) where
    seen : (at n : ℕ) → ((next : ℕ) → P next n (run_at walk limit t next n)) → (x : Checked Shape) → curve_at_offset limit t at ≡ x → P at (suc n) (follow at x (λ s. run_at walk limit t (aligned (at + step_of walk s)) n))
    seen at n ih (good s) e = goes at n s e (ih (aligned (at + step_of walk s)))
    seen at n ih (bad m) e = stop at n m e

    pub run_induct : (n at : ℕ) → P at n (run_at walk limit t at n)
    unfolding run_at
    run_induct zero at = none at
    run_induct (suc n) at = seen at n (run_induct n) (curve_at_offset limit t at) refl

  -- one turn
  pub run_turn : (at n : ℕ) (s : Shape) → curve_at_offset limit t at ≡ good s → run_at walk limit t at (suc n) ≡ first (placed at s) (run_at walk limit t (aligned (at + step_of walk s)) n)
  unfolding run_at
  run_turn at n s e = rw e

  -- these curves stand one after the other from an offset on, as the walk goes
  unfoldable pub Reads : ℕ → List Placed → Type 0
  Reads at [] = Unit
  Reads at (c ∷ cs) = (c.at ≡ at) × (curve_at_offset limit t at ≡ good c.shape) × Reads (aligned (at + step_of walk c.shape)) cs

  -- a run's curves do
  pub run_reads : (at n : ℕ) → Reads at (run_at walk limit t at n).curves
  unfolding Reads
  run_reads at n = run_induct (λ at n r. Reads at r.curves) (λ at. tt) (λ at n m e. tt) (λ at n s e ih. (refl, e, ih)) n at

  -- and curves that do are a run
  pub reads_run : (at : ℕ) (cs : List Placed) → Reads at cs → run_at walk limit t at (length cs) ≡ record { curves = cs; end = whole }
  unfolding run_at Reads
  reads_run at [] h = refl
  reads_run at (c ∷ cs) h =
      let rest = reads_run (aligned (at + step_of walk c.shape)) cs h.2 in
      rw (h.1, rest, ← h.0)

  -- a whole run has as many curves as it was asked for
  pub run_count : (at n : ℕ) → (run_at walk limit t at n).end ≡ whole → length (run_at walk limit t at n).curves ≡ n
  run_count at n =
      run_induct (λ at n r. r.end ≡ whole → length r.curves ≡ n) (λ at h. refl)
      (λ at n m e h. never cc)
      (λ at n s e ih h. ap suc (ih h)) n at

  -- demand 1: every curve stands in the tag
  curve_stands : (c : Placed) → curve_at_offset limit t c.at ≡ good c.shape → CurveStands limit t c
  curve_stands c e =
      let w = entry_there limit t c.at c.shape e in
      record { begins_in_tag = w.0; said = w.1; ends_in_tag = entry_inside limit t c.at c.shape e }

  reads_inside : (at : ℕ) (cs : List Placed) → Reads at cs → Each (CurveStands limit t) cs
  unfolding Reads Each
  reads_inside at [] h = tt
  reads_inside at (c ∷ cs) h = (curve_stands c (rw h.0 h.1), reads_inside (aligned (at + step_of walk c.shape)) cs h.2)

  pub run_inside : (at n : ℕ) → Each (CurveStands limit t) (run_at walk limit t at n).curves
  run_inside at n = reads_inside at (run_at walk limit t at n).curves (run_reads at n)
