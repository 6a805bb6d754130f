-- `lut::nested::check_run` meets its contract: what is left of the run ends as the whole does.
-- Assumes nothing.
use Prim.Native.Nat.{◌-◌}
use mathlib.Core.Path.{◌≡◌}
use Rattle.lut_run_meaning.specs.Run.{run_at}
use Rattle.lut.proofs.nested.check_run.Given as goal

abbrev pub invariant-loop-i : goal.invariant-loop-i
invariant-loop-i l = (run_at l.walk l.limit l.tag l.initial.next.0 l.fn.run.curves).end ≡ (run_at l.walk l.limit l.tag l.next.0 (l.fn.run.curves - l.i)).end
