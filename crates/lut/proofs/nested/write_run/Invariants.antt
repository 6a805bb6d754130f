-- `lut::nested::write_run` meets its contract: what is left to write makes of the slots what the whole run makes of them.
-- Assumes nothing.
use Rattle.lut_run_meaning.proofs.Writing.{Writing}
use Rattle.lut.proofs.nested.write_run.Given as goal

abbrev pub invariant-loop-i : goal.invariant-loop-i
invariant-loop-i l = Writing l.walk l.limit l.tag l.initial.next.0 l.fn.run.curves l.initial.slots l.slots l.next.0 l.i
