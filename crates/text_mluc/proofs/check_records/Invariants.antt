-- `text_mluc::check_records` meets its contract: what is left to judge ends as the whole does. Each turn has a header of 12 bytes of the tag behind
-- it, whatever number of records is asked for.
-- Assumes nothing.
use Prim.Native.Nat.{◌-◌, ◌*◌, ◌≤◌}
use mathlib.Core.Path.{◌≡◌}
use lib.ListN.{length}
use Rattle.text_meaning.specs.Mluc.{records_from}
use Rattle.text_mluc.proofs.check_records.Given as goal

abbrev pub invariant-loop-k : goal.invariant-loop-k
invariant-loop-k l =
    (12 * l.k ≤ length l.tag) × ((records_from l.tag 0 l.n).end ≡ (records_from l.tag l.k (l.n - l.k)).end)
