-- Which numbers a part of an `mAB ` or `mBA ` tag is refused with: those of a colour table, of which the matrix has 2, and those of a curve.
-- Assumes nothing.
use Prim.Native.Nat.{ℕ, ◌+◌}
use mathlib.Core.List.{List}
use lib.Dec.{ltb, eqb}
use lib.ListN.{length, drop}
use Rattle.fields.specs.Checked.{Checked}
use Rattle.fields.specs.House.{tag_size}
use Rattle.fields.proofs.Choice.{each}
use Rattle.lut_clut_meaning.specs.Table.{Table}
use Rattle.lut_clut_meaning.proofs.Refuses.{Only, only_good, only_bad, clut_refuses}
use Rattle.curve_meaning.specs.Curve.{curve_of}
use Rattle.curve_meaning.specs.Shape.{Shape}
use Rattle.curve_meaning.specs.declared.Walk.{Walk}
use Rattle.lut_run_meaning.specs.Run.{curve_at_offset, run_at}
use Rattle.lut_run_meaning.proofs.Runs.{run_induct}
use Rattle.lut_meaning.specs.Layout.{inputs, outputs, matrix_offset, matrix_bytes, clut_offset}
use Rattle.lut_meaning.specs.Parts.{matrix_checked, no_table, colour_table_of, ended}
use Rattle.lut_meaning.proofs.Found.{PartRefused, the_matrix, the_table, a_run}

module _ (Q : ℕ → Type 0) (two : Q 2) (four : Q 4) (five : Q 5) (six : Q 6) (seven : Q 7) (eight : Q 8) (limit : ℕ) (t : List ℕ) (curves : (s : List ℕ) → Only Q (curve_of limit s)) where
  matrix_refuses : Only Q (matrix_checked t)
  unfolding matrix_checked
  matrix_refuses =
      let P : Checked Unit → Type 0 = Only Q in
      each P (eqb (matrix_offset t) 0) _ _ (λ _. only_good Q tt)
      (λ _. each P (ltb (length t) (matrix_offset t + matrix_bytes)) _ _ (λ _. only_bad Q 2 two) (λ _. only_good Q tt))

  table_refuses : Only Q (colour_table_of t)
  unfolding colour_table_of
  table_refuses =
      let P : Checked Table → Type 0 = Only Q in
      each P (eqb (clut_offset t) 0) _ _ (λ _. only_good Q no_table)
      (λ _. clut_refuses Q two four five six seven eight t (clut_offset t) (inputs t) (outputs t))

  curve_refuses : (at : ℕ) → Only Q (curve_at_offset limit t at)
  unfolding curve_at_offset
  curve_refuses at =
      let P : Checked Shape → Type 0 = Only Q in
      each P (ltb (length t) (at + tag_size)) _ _ (λ _. only_bad Q 2 two) (λ _. curves (drop at t))

  run_refuses : (walk : Walk) (at n : ℕ) → Only Q (ended (run_at walk limit t at n).end)
  unfolding ended
  run_refuses walk at n =
      run_induct walk limit t (λ at n r. Only Q (ended r.end)) (λ at. only_good Q tt)
      (λ at n m e. only_bad Q m (curve_refuses at m e)) (λ at n s e ih. ih) n at

  pub part_refuses : (walk : Walk) (n : ℕ) → PartRefused walk limit t n → Q n
  part_refuses walk n (the_matrix e) = matrix_refuses n e
  part_refuses walk n (the_table e) = table_refuses n e
  part_refuses walk n (a_run at m e) = run_refuses walk at m n e
