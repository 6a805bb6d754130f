-- `lut::abm::fill_bytes` meets its contract: what is left to store makes of the slice the row of bytes.
-- Assumes nothing.
use native.Mathlib.Omega.{arith}
use mathlib.Core.Path.{refl}
use lib.ListN.{length-set}
use borrow.Author.Rules.{rules}
use Rattle.fields.proofs.Fills.{bytes_begin, bytes_turn, bytes_end}
use Rattle.lut.proofs.abm.fill_bytes.Goals as goal

pub loop-i-init : goal.loop-i-init
loop-i-init c = (omega arith, refl, search (rules, bytes_begin))

pub loop-i-preserved : goal.loop-i-preserved
loop-i-preserved c = (omega arith, simp length-set (search rules), search (rules, bytes_turn))

pub returns : goal.returns
returns c = search (rules, bytes_end)
