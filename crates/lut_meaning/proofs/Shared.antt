-- What the theorems and the proofs of the functions both need: a run that ends well is whole and has so many records, a colour table that is
-- good is that of the tag, and neither type of a tag with runs is that of `mft1` or `mft2`.
-- Assumes nothing.
use Prim.Native.Nat.{ℕ, ◌*◌}
use native.Mathlib.Omega.{arith}
use mathlib.Core.Path.{◌≡◌, refl, ◌∙◌, ap}
use mathlib.Core.Bool.{Bool, true, false, cond}
use mathlib.Core.List.{List, ◌++◌}
use lib.Dec.{eqb}
use lib.ListN.{length, length-append}
use Rattle.fields.proofs.Never.{never}
use Rattle.fields.specs.Checked.{good}
use Rattle.fields.specs.Bytes.{u32_at}
use Rattle.fields.specs.Tag.{signature_of}
use Rattle.fields.specs.declared.Kind.TheVariants.{Mab, Mba}
use Rattle.lut_clut_meaning.specs.Clut.{grid_at_of, table_at, clut_of}
use Rattle.lut_clut_meaning.specs.Table.{Table}
use Rattle.lut_clut_meaning.proofs.Laid.{there, accepted}
use Rattle.curve_meaning.specs.Shape.{record_words}
use Rattle.curve_meaning.specs.declared.Walk.{Walk}
use Rattle.lut_mft_meaning.specs.Layout.{is_wide, is_mft}
use Rattle.lut_run_meaning.specs.Run.{RunEnd, whole, stopped, run_at, records_of}
use Rattle.lut_run_meaning.proofs.Runs.{run_count}
use Rattle.lut_run_meaning.proofs.Writing.{records_length, records_append}
use Rattle.lut_meaning.specs.Layout.{inputs, outputs, clut_offset, a_offset, m_offset, b_offset, a_curves_of, m_curves_of, b_curves_of, records_needed}
use Rattle.lut_meaning.specs.Parts.{no_table, table_in, colour_table_of, run_a, run_m, run_b, ended, RunsWhole, curves_of}

-- a run that ends well is whole
pub ended_good : (e : RunEnd) → ended e ≡ good tt → e ≡ whole
unfolding ended
ended_good whole h = refl
ended_good (stopped n at) h = never cc

-- a colour table that is good is that of the tag
pub table_in_lem : (t : List ℕ) (table : Table) → colour_table_of t ≡ good table → table_in t ≡ table
unfolding colour_table_of table_in
table_in_lem t table = by (eqb (clut_offset t) 0)
  where
    by : (b : Bool) → cond b (good no_table) (clut_of t (clut_offset t) (inputs t) (outputs t)) ≡ good table → cond b no_table (table_at t (clut_offset t) (grid_at_of t (clut_offset t) (inputs t)) (outputs t)) ≡ table
    by true h = cc
    by false h = there t (clut_offset t) (inputs t) (outputs t) table (accepted t (clut_offset t) (inputs t) (outputs t) table h).laid

-- as many words as a whole run has records
pub records_of_lem : (walk : Walk) (limit : ℕ) (t : List ℕ) (at n : ℕ) → (run_at walk limit t at n).end ≡ whole → length (records_of (run_at walk limit t at n).curves) ≡ n * record_words
records_of_lem walk limit t at n w = records_length (run_at walk limit t at n).curves ∙ ap (λ (k : ℕ). k * record_words) (run_count walk limit t at n w)

module _ (walk : Walk) (limit : ℕ) (t : List ℕ) where
  pub all_records : records_of (curves_of walk limit t) ≡ records_of (run_a walk limit t).curves ++ records_of (run_m walk limit t).curves ++ records_of (run_b walk limit t).curves
  unfolding curves_of
  all_records = records_append ((run_a walk limit t).curves ++ (run_m walk limit t).curves) (run_b walk limit t).curves ∙ ap (λ (x : List ℕ). x ++ records_of (run_b walk limit t).curves) (records_append (run_a walk limit t).curves (run_m walk limit t).curves)

  pub all_length : RunsWhole walk limit t → length (records_of (curves_of walk limit t)) ≡ records_needed t * record_words
  unfolding records_needed
  all_length w =
      ap length all_records
      ∙ simp length-append (omega (arith, records_of_lem walk limit t (a_offset t) (a_curves_of t) w.a_whole, records_of_lem walk limit t (m_offset t) (m_curves_of t) w.m_whole, records_of_lem walk limit t (b_offset t) (b_curves_of t) w.b_whole))

-- ---- the type

pub mab_is : (t : List ℕ) → u32_at t 0 ≡ signature_of Mab → is_mft t ≡ false
unfolding is_mft is_wide signature_of
mab_is t e = rw e refl

pub mba_is : (t : List ℕ) → u32_at t 0 ≡ signature_of Mba → is_mft t ≡ false
unfolding is_mft is_wide signature_of
mba_is t e = rw e refl
