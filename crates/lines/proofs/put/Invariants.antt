-- `lines::put` meets its contract: what is left to write makes of the buffer what all the bytes make of it.
-- Assumes nothing.
use Rattle.lines.proofs.Writing.{Writing}
use Rattle.lines.proofs.put.Given as goal

abbrev pub invariant-loop-byte : goal.invariant-loop-byte
invariant-loop-byte l = Writing l.initial.out l.at l.bytes l.out l.end l.byte-index
