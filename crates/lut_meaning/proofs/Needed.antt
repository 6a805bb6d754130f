-- How many records a tag needs: the number is that of the curves read, at most 514, and the first 32 bytes tell it.
-- Assumes nothing.
use Prim.Native.Nat.{ℕ, ◌+◌, ◌≤◌, ◌<◌}
use native.Mathlib.Omega.{arith}
use mathlib.Core.Path.{◌≡◌, refl}
use mathlib.Core.Bool.{Bool, true, false, cond, ◌&&◌}
use mathlib.Core.List.{List, ◌++◌}
use lib.Dec.{ltb, eqb}
use lib.ListN.{length, length-append, get_or-append}
use borrow.Author.Tests.{ltb-false}
use Rattle.fields.proofs.Append.{u32_append}
use Rattle.fields.proofs.Choice.{each, second_fails}
use Rattle.curve_meaning.specs.declared.Walk.{Walk}
use Rattle.lut_run_meaning.proofs.Runs.{run_count}
use Rattle.lut_meaning.specs.Layout.{to_pcs_of, inputs, outputs, present, device_channels, space_channels, a_offset, m_offset, b_offset, a_curves_of, m_curves_of, b_curves_of, records_needed}
use Rattle.lut_meaning.specs.Parts.{RunsWhole, curves_of}

-- as many records as curves
pub needed_curves : (walk : Walk) (limit : ℕ) (t : List ℕ) → RunsWhole walk limit t → length (curves_of walk limit t) ≡ records_needed t
unfolding curves_of records_needed
needed_curves walk limit t w =
    simp length-append
    (omega (arith, run_count walk limit t (a_offset t) (a_curves_of t) w.a_whole, run_count walk limit t (m_offset t) (m_curves_of t) w.m_whole, run_count walk limit t (b_offset t) (b_curves_of t) w.b_whole))

-- ---- at most 514

present_most : (offset n : ℕ) → present offset n ≤ n
unfolding present
present_most offset n = each (λ (k : ℕ). k ≤ n) (eqb offset 0) 0 n (λ _. omega arith) (λ _. omega arith)

-- one side has at most four channels
one_side : (i o : ℕ) → ltb 4 i && ltb 4 o ≡ false → i < 256 → o < 256 → (i + o + o ≤ 514) × (o + i + i ≤ 514)
one_side i o h l m = by (ltb 4 i) refl
  where
    by : (b : Bool) → ltb 4 i ≡ b → (i + o + o ≤ 514) × (o + i + i ≤ 514)
    by true e = let k = ltb-false 4 o (second_fails (ltb 4 i) (ltb 4 o) h e) in (omega arith, omega arith)
    by false e = let k = ltb-false 4 i e in (omega arith, omega arith)

sides : (t : List ℕ) → ltb 4 (inputs t) && ltb 4 (outputs t) ≡ false → inputs t < 256 → outputs t < 256 → device_channels t + space_channels t + space_channels t ≤ 514
unfolding device_channels space_channels
sides t h l m = by (to_pcs_of t)
  where
    by : (b : Bool) → cond b (inputs t) (outputs t) + cond b (outputs t) (inputs t) + cond b (outputs t) (inputs t) ≤ 514
    by true = (one_side (inputs t) (outputs t) h l m).0
    by false = (one_side (inputs t) (outputs t) h l m).1

pub needed_most : (t : List ℕ) → ltb 4 (inputs t) && ltb 4 (outputs t) ≡ false → inputs t < 256 → outputs t < 256 → records_needed t ≤ 514
unfolding records_needed a_curves_of m_curves_of b_curves_of
needed_most t h l m =
    omega (arith, sides t h l m, present_most (a_offset t) (device_channels t), present_most (m_offset t) (space_channels t), present_most (b_offset t) (space_channels t))

-- ---- bytes behind the first 32 change nothing

pub needed_head : (t q : List ℕ) → 32 ≤ length t → records_needed (t ++ q) ≡ records_needed t
unfolding records_needed a_curves_of m_curves_of b_curves_of device_channels space_channels
needed_head t q h =
    rw (u32_append t q 28 (omega arith), u32_append t q 20 (omega arith), u32_append t q 12 (omega arith), u32_append t q 0 (omega arith), get_or-append t q 0 8 (omega arith), get_or-append t q 0 9 (omega arith))
