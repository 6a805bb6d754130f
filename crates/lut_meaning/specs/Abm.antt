-- `mAB ` and `mBA `: what each call must answer.
use Rattle.std.specs.Prelude.{ℕ, ◌/◌, min, cond, ◌&&◌, List, ltb, take}
use Rattle.lut_clut_meaning.specs.Table.{Table, length_of}
use Rattle.curve_meaning.specs.Shape.{record_words}
use Rattle.curve_meaning.specs.declared.Walk.{Walk}
use Rattle.lut_meaning.specs.Answer.{Abm, abm, Answer, none, refuse, or_refused}
use Rattle.lut_meaning.specs.Layout.{to_pcs_of, inputs, outputs, a_curves_of, m_curves_of, b_curves_of, records_needed, grid_of, matrix_of, bias_of}
use Rattle.lut_meaning.specs.Parts.{matrix_checked, table_in, colour_table_of, run_a, run_m, run_b, ended}

-- the answer for a tag that is good
unfoldable pub value_of : List ℕ → Answer
value_of t =
    record {
      state =
          abm
          record {
            to_pcs_of = to_pcs_of t;
            inputs = inputs t;
            outputs = outputs t;
            start = (table_in t).start;
            bytes = length_of (table_in t);
            size = (table_in t).size;
            a = a_curves_of t;
            m = m_curves_of t;
            b = b_curves_of t;
          };
      grid = grid_of t;
      matrix = matrix_of t;
      bias = bias_of t;
    }

-- the tag t, with so many words lent
unfoldable pub abm_of : Walk → ℕ → List ℕ → ℕ → Answer
abm_of walk limit t words =
    cond (ltb 4 (inputs t) && ltb 4 (outputs t)) none (
    or_refused (matrix_checked t) (
    or_refused (colour_table_of t) (
    or_refused (ended (run_a walk limit t).end) (
    or_refused (ended (run_m walk limit t).end) (
    or_refused (ended (run_b walk limit t).end) (
    cond (ltb (words / record_words) (records_needed t)) (refuse 14) (
    value_of t)))))))

-- the colour table that an answer tells of, by its grid bytes, one for each input channel, and its numbers
abbrev pub told_table : List ℕ → Abm → Table
told_table grid f = record { grid = take (min f.inputs 16) grid; outputs = f.outputs; start = f.start; size = f.size }
