-- The lent slots are as many after a call as before it.
-- Assumes nothing.
use Prim.Native.Nat.{ℕ, ◌≤◌}
use native.Mathlib.Omega.{arith}
use mathlib.Core.Path.{◌≡◌, refl}
use mathlib.Core.List.{List}
use lib.ListN.{length, length-append, length-drop}
use Rattle.fields.specs.Place.{counted_tag}
use Rattle.curve_meaning.specs.declared.Walk.{Walk}
use Rattle.lut_run_meaning.specs.Run.{records_of}
use Rattle.lut_meaning.specs.Answer.{State, mft, abm, absent, refused, slots_with}
use Rattle.lut_meaning.specs.Lut.{lut_of, slots_after}
use Rattle.lut_meaning.specs.Parts.{curves_of}
use Rattle.lut_meaning.proofs.Found.{abm_found}
use Rattle.lut_meaning.proofs.Shared.{all_length}

pub slots_length : (walk : Walk) (limit points : ℕ) (p : List ℕ) (entry size : ℕ) (slots : List ℕ) → length (slots_after walk limit points p entry size slots) ≡ length slots
slots_length walk limit points p entry size slots = by (lut_of walk limit points p entry size (length slots)).state refl
  where
    by : (s : State) → (lut_of walk limit points p entry size (length slots)).state ≡ s → length (slots_with s (records_of (curves_of walk limit (counted_tag p entry size))) slots) ≡ length slots
    by (mft f) h = refl
    by (abm f) h =
        let w = abm_found walk limit points p entry size (length slots) f h in
        let rs : List ℕ = records_of (curves_of walk limit (counted_tag p entry size)) in
        let n : length rs ≤ length slots = omega (arith, all_length walk limit (counted_tag p entry size) w.behind.parts_good.runs_whole, w.behind.room) in
        simp length-append (omega (arith, n, length-drop (length rs) slots))
    by absent h = refl
    by (refused n) h = refl
