-- `evaluate::corners::three_cubes` meets its contract: the size of an entry is 1 or 2.
-- Assumes nothing.
use borrow.Author.Rules.{rules}
use Rattle.evaluate.proofs.Channels.{by_size}
use Rattle.evaluate.proofs.corners.three_cubes.Goals as goal

pub returns-then-hop-eq1 : goal.returns-then-hop-eq1
returns-then-hop-eq1 c = search (rules, by_size)

pub returns-else-hop-eq1 : goal.returns-else-hop-eq1
returns-else-hop-eq1 c = search (rules, by_size)
