-- `text_mluc::write_records` meets its contract: what is left to write makes of the slots what all records make of them.
-- Assumes nothing.
use Rattle.text_mluc.proofs.Records.{Writing}
use Rattle.text_mluc.proofs.write_records.Given as goal

abbrev pub invariant-loop-k : goal.invariant-loop-k
invariant-loop-k l = Writing l.tag l.n l.initial.slots l.slots l.k
