-- `evaluate::row` meets its contract: the pixels that are left, behind those that are written, are all of them.
-- Assumes nothing.
use Rattle.evaluate.proofs.Rowing.{Rowing}
use Rattle.evaluate.proofs.row.Given as goal

abbrev pub invariant-loop-k : goal.invariant-loop-k
invariant-loop-k g l = Rowing l.tag l.b l.xs l.count l.initial.out l.out l.k
