-- `export_lut::LutToldTells::put` meets its contract: the words are as many as the layout of their type has.
-- Assumes nothing.
use mathlib.Core.Path.{◌≡◌}
use lib.ListN.{length}
use Rattle.lut_meaning.specs.Answer.{table_from}
use Rattle.lut_mft_meaning.specs.Answer.{fields_from}
use Rattle.export_lut.proofs.Laws.{mft_laid, abm_laid}
use borrow.Author.Rules.{rules}
use Rattle.export_lut.proofs.LutToldTells.put.Goals as goal

pub returns-in-Mft-clause-as_laid_out : goal.returns-in-Mft-clause-as_laid_out
returns-in-Mft-clause-as_laid_out c =
    let m : length c.in-Mft.mft.matrix ≡ 9 = search rules in
    rw c.in-Mft.is (mft_laid (fields_from c.in-Mft.mft.table) c.in-Mft.mft.matrix m)

pub returns-in-Abm-clause-as_laid_out : goal.returns-in-Abm-clause-as_laid_out
returns-in-Abm-clause-as_laid_out c =
    let g : length c.in-Abm.abm.grid ≡ 16 = search rules in
    let m : length c.in-Abm.abm.matrix ≡ 9 = search rules in
    let b : length c.in-Abm.abm.bias ≡ 3 = search rules in
    rw c.in-Abm.is (abm_laid (table_from c.in-Abm.abm.table) c.in-Abm.abm.grid c.in-Abm.abm.matrix c.in-Abm.abm.bias g m b)
