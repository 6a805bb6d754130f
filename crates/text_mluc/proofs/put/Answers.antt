-- `text_mluc::put` meets its contract: four stores, one behind the other.
-- Assumes nothing.
use native.Mathlib.Omega.{arith}
use native.Mathlib.Numerals.{towards_suc}
use lib.ListN.{length-set}
use Rattle.text_mluc.proofs.put.Goals as goal

pub bounds-slots-at-2 : goal.bounds-slots-at-2
bounds-slots-at-2 c = simp length-set (omega arith)

pub bounds-slots-at-3 : goal.bounds-slots-at-3
bounds-slots-at-3 c = simp length-set (omega arith)

pub bounds-slots-at-4 : goal.bounds-slots-at-4
bounds-slots-at-4 c = simp length-set (omega arith)

pub returns : goal.returns
returns c = simp towards_suc
