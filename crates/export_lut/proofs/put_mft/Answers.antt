-- `export_lut::put_mft` meets its contract: each part stands behind the one before it.
-- Assumes nothing.
use mathlib.Core.Path.{◌≡◌, refl}
use lib.ListN.{length}
use Rattle.lut_mft_meaning.specs.Answer.{fields_from}
use Rattle.export_lut.specs.Layout.{mft_head, mft_ranges}
use Rattle.export_words.proofs.Rows.{three_rows}
use borrow.Author.Rules.{rules}
use Rattle.export_lut.proofs.put_mft.Goals as goal

pub returns : goal.returns
returns c =
    let m : length c.args.mft.matrix ≡ 9 = search rules in
    three_rows c.args.out.now _ _ _ (mft_head (fields_from c.args.mft.table)) c.args.mft.matrix (mft_ranges (fields_from c.args.mft.table))
    refl
    m
    c.put_mft_head.ensures
    c.put_words.ensures
    c.put_mft_ranges.ensures
