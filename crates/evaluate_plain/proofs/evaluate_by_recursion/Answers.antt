-- `evaluate_plain::evaluate_by_recursion` meets its contract: each refusal is a law of the answer, and what is left to write makes of the buffer
-- what the whole makes of it as it was.
-- Assumes nothing.
use borrow.Author.Rules.{rules}
use Rattle.evaluate_plain.proofs.Tests.{few}
use Rattle.evaluate_plain.proofs.Filling.{fill_begins, fill_room, fill_turns, said-laws}
use Rattle.evaluate_plain.proofs.evaluate_by_recursion.Goals as goal

pub returns-then-odd : goal.returns-then-odd
returns-then-odd c = search (rules, said-laws)

pub passes-requires : goal.passes-requires
passes-requires c = search (rules, few)

pub returns-then-passes : goal.returns-then-passes
returns-then-passes c = search (rules, said-laws)

pub returns-then-coordinates-numbers : goal.returns-then-coordinates-numbers
returns-then-coordinates-numbers c = search (rules, said-laws)

pub returns-then-results-outputs : goal.returns-then-results-outputs
returns-then-results-outputs c = search (rules, said-laws)

pub loop-channel-init : goal.loop-channel-init
loop-channel-init c = search (rules, fill_begins)

pub value-requires : goal.value-requires
value-requires c = fill_room _ _ _ _ _ _ c.loop-channel.invariant c.loop-channel-test.true

pub loop-channel-preserved : goal.loop-channel-preserved
loop-channel-preserved c = search (rules, fill_turns)

pub returns : goal.returns
returns c = search (rules, said-laws)
