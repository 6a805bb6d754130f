-- `export_lut::put_abm` meets its contract: each part stands behind the one before it.
-- Assumes nothing.
use mathlib.Core.Path.{◌≡◌, refl, ◌∙◌}
use mathlib.Core.List.{◌++◌}
use lib.ListN.{length, length-append}
use borrow.Author.Rules.{rules}
use Rattle.lut_meaning.specs.Answer.{table_from}
use Rattle.export_lut.specs.Layout.{abm_head, abm_parts}
use Rattle.export_words.proofs.Rows.{three_rows}
use Rattle.export_lut.proofs.put_abm.Goals as goal

pub returns : goal.returns
returns c =
    let t = c.args.abm.table in
    let grid = c.args.abm.grid in
    let matrix = c.args.abm.matrix in
    let bias = c.args.abm.bias in
    let g : length grid ≡ 16 = search rules in
    let m : length matrix ≡ 9 = search rules in
    let b : length bias ≡ 3 = search rules in
    three_rows c.args.out.now _ _ _ (abm_head (table_from t) ++ grid ++ matrix) bias (abm_parts (table_from t))
    (length-append (abm_head (table_from t) ++ grid) matrix ∙ rw (length-append, g, m))
    b
    (three_rows c.args.out.now _ _ _ (abm_head (table_from t)) grid matrix refl g c.put_abm_head.ensures c.put_bytes.ensures c.put_words.ensures)
    c.put_words-2.ensures
    c.put_abm_parts.ensures
