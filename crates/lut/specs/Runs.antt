-- The three runs of a tag as the code holds them, and the one verdict that it has of them.
use Rattle.std.specs.Prelude.{ℕ, ◌<◌, ◌≡◌, List}
use Rattle.fields.specs.Checked.{Checked, and_then}
use Rattle.curve_meaning.specs.declared.Walk.{Walk}
use Rattle.lut_meaning.specs.Layout.{a_offset, a_curves_of, m_offset, m_curves_of, b_offset, b_curves_of}
use Rattle.lut_meaning.specs.Parts.{run_a, run_m, run_b, ended}
use Rattle.lut.specs.declared.abm.Runs.{Runs}

-- r is that number of curves, and a byte holds it
pub record Few (n r : ℕ) : Type 0 where
  pub is : r ≡ n
  pub few : r < 256

-- these are the runs of the tag
pub record RunsOf (t : List ℕ) (p : Runs) : Type 0 where
  pub a_at : p.a.at.0 ≡ a_offset t
  pub m_at : p.m.at.0 ≡ m_offset t
  pub b_at : p.b.at.0 ≡ b_offset t
  pub a_curves_lem : Few (a_curves_of t) p.a.curves
  pub m_curves_lem : Few (m_curves_of t) p.m.curves
  pub b_curves_lem : Few (b_curves_of t) p.b.curves

-- one after the other
unfoldable pub runs_checked : Walk → ℕ → List ℕ → Checked Unit
runs_checked walk limit t =
    and_then (ended (run_a walk limit t).end) (and_then (ended (run_m walk limit t).end) (ended (run_b walk limit t).end))
