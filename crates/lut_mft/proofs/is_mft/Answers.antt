-- `lut_mft::is_mft` meets its contract: either signature.
-- Assumes nothing.
use Rattle.fields.specs.Tag.{signature_of}
use Rattle.lut_mft.proofs.Laws.{is_mft1, is_mft2}
use borrow.Author.Rules.{rules}
use Rattle.lut_mft.proofs.is_mft.Goals as goal

pub returns-then-u32_at-eq-MFT1 : goal.returns-then-u32_at-eq-MFT1
unfolding signature_of
returns-then-u32_at-eq-MFT1 c = search (rules, is_mft1)

pub returns-else-u32_at-eq-MFT1 : goal.returns-else-u32_at-eq-MFT1
unfolding signature_of
returns-else-u32_at-eq-MFT1 c = search (rules, is_mft2)
