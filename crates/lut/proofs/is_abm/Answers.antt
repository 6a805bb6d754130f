-- `lut::is_abm` meets its contract: either signature.
-- Assumes nothing.
use Rattle.fields.specs.Tag.{signature_of}
use Rattle.lut.proofs.Laws.{abm_first, abm_second}
use borrow.Author.Rules.{rules}
use Rattle.lut.proofs.is_abm.Goals as goal

pub returns-then-signature-eq-MAB : goal.returns-then-signature-eq-MAB
unfolding signature_of
returns-then-signature-eq-MAB c = search (rules, abm_first)

pub returns-else-signature-eq-MAB : goal.returns-else-signature-eq-MAB
unfolding signature_of
returns-else-signature-eq-MAB c = search (rules, abm_second)
