-- `lut_mft::read_type` meets its contract: each way out is a law of `mft_of`.
-- Assumes nothing.
use Rattle.lut_mft.proofs.Laws.{read-laws}
use borrow.Author.Rules.{rules}
use Rattle.lut_mft.proofs.read_type.Goals as goal

pub returns-then-tag-lt-SHORTEST : goal.returns-then-tag-lt-SHORTEST
returns-then-tag-lt-SHORTEST c = search (rules, read-laws)

pub returns-then-not-is_mft : goal.returns-then-not-is_mft
returns-then-not-is_mft c = search (rules, read-laws)

pub returns-then-tag-tables_start : goal.returns-then-tag-tables_start
returns-then-tag-tables_start c = search (rules, read-laws)

pub returns : goal.returns
returns c = search (rules, read-laws)
