-- `lut::abm::fill_bytes` meets its contract: what is left to store makes of the slice the row of bytes.
-- Assumes nothing.
use Prim.Native.Nat.{◌≤◌}
use mathlib.Core.Path.{◌≡◌}
use lib.ListN.{length, drop}
use lib.Seq.{sets}
use Rattle.fields.specs.Bytes.{bytes_at}
use Rattle.lut.proofs.abm.fill_bytes.Given as goal

abbrev pub invariant-loop-i : goal.invariant-loop-i
invariant-loop-i l =
    (l.i ≤ length l.initial.out) × (length l.out ≡ length l.initial.out) × (sets l.out l.i (drop l.i (bytes_at l.tag l.at.0 (length l.initial.out))) ≡ bytes_at l.tag l.at.0 (length l.initial.out))
