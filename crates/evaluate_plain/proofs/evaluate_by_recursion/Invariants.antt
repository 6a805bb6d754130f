-- `evaluate_plain::evaluate_by_recursion` meets its contract: each refusal is a law of the answer, and what is left to write makes of the buffer
-- what the whole makes of it as it was.
-- Assumes nothing.
use Rattle.evaluate_plain.proofs.Filling.{Filling}
use Rattle.evaluate_plain.proofs.evaluate_by_recursion.Given as goal

abbrev pub invariant-loop-channel : goal.invariant-loop-channel
invariant-loop-channel l = Filling l.tag l.numbers l.coordinates l.initial.results l.results l.channel
