-- The matrix, the colour table and the runs of an `mAB ` or `mBA ` tag.
use Rattle.std.specs.Prelude.{ℕ, ◌+◌, ◌≡◌, cond, List, [], ◌++◌, ltb, eqb, length}
use Rattle.fields.specs.Checked.{Checked, good, bad}
use Rattle.lut_clut_meaning.specs.Clut.{grid_at_of, table_at, clut_of}
use Rattle.lut_clut_meaning.specs.Table.{Table}
use Rattle.curve_meaning.specs.declared.Walk.{Walk}
use Rattle.lut_run_meaning.specs.Run.{Placed, RunEnd, whole, stopped, Run, run_at}
use Rattle.lut_meaning.specs.Layout.{inputs, outputs, matrix_offset, matrix_bytes, clut_offset, a_offset, a_curves_of, m_offset, m_curves_of, b_offset, b_curves_of}

-- a matrix that is there lies in the tag, its bias with it
unfoldable pub matrix_checked : List ℕ → Checked Unit
matrix_checked t = cond (eqb (matrix_offset t) 0) (good tt) (cond (ltb (length t) (matrix_offset t + matrix_bytes)) (bad 2) (good tt))

-- the colour table; one that is not there has no data, at 0
abbrev pub no_table : Table
no_table = record { grid = []; outputs = 0; start = 0; size = 0 }

unfoldable pub table_in : List ℕ → Table
table_in t = cond (eqb (clut_offset t) 0) no_table (table_at t (clut_offset t) (grid_at_of t (clut_offset t) (inputs t)) (outputs t))

-- and what its checks say of it
unfoldable pub colour_table_of : List ℕ → Checked Table
colour_table_of t = cond (eqb (clut_offset t) 0) (good no_table) (clut_of t (clut_offset t) (inputs t) (outputs t))

-- the three runs, each by itself
abbrev pub run_a : Walk → ℕ → List ℕ → Run
run_a walk limit t = run_at walk limit t (a_offset t) (a_curves_of t)

abbrev pub run_m : Walk → ℕ → List ℕ → Run
run_m walk limit t = run_at walk limit t (m_offset t) (m_curves_of t)

abbrev pub run_b : Walk → ℕ → List ℕ → Run
run_b walk limit t = run_at walk limit t (b_offset t) (b_curves_of t)

-- how a run ends; the place of a refusal is left out
unfoldable pub ended : RunEnd → Checked Unit
ended whole = good tt
ended (stopped n at) = bad n

-- each of the three is read whole
pub record RunsWhole (walk : Walk) (limit : ℕ) (t : List ℕ) : Type 0 where
  pub a_whole : (run_a walk limit t).end ≡ whole
  pub m_whole : (run_m walk limit t).end ≡ whole
  pub b_whole : (run_b walk limit t).end ≡ whole

-- their curves follow each other
unfoldable pub curves_of : Walk → ℕ → List ℕ → List Placed
curves_of walk limit t = (run_a walk limit t).curves ++ (run_m walk limit t).curves ++ (run_b walk limit t).curves
