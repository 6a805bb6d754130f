-- `lut::abm::record_runs` meets its contract: runs of no curves have no records.
-- Assumes nothing.
use Rattle.lut.proofs.PartLaws.{alone_whole, alone_room, alone_written}
use borrow.Author.Rules.{rules}
use Rattle.lut.proofs.abm.record_runs.Goals as goal

pub write_run-requires : goal.write_run-requires
write_run-requires c = search (rules, alone_whole, alone_room)

pub returns-then-has_b_alone : goal.returns-then-has_b_alone
returns-then-has_b_alone c = search (rules, alone_written)
