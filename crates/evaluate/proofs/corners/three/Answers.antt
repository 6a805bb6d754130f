-- `evaluate::corners::three` meets its contract: with rest 0 a fourth dimension adds nothing.
-- Assumes nothing.
use borrow.Author.Rules.{rules}
use Rattle.evaluate.proofs.Channels.{flatly}
use Rattle.evaluate.proofs.corners.three.Goals as goal

pub returns-then-x3-eq0 : goal.returns-then-x3-eq0
returns-then-x3-eq0 c = search (rules, flatly)
