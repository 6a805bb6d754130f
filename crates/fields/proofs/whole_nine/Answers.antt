-- `fields::whole_nine` meets its contract: what is left to store makes of the nine the row of words.
-- Assumes nothing.
use mathlib.Core.Path.{refl}
use lib.ListN.{length-set}
use borrow.Author.Rules.{rules}
use Rattle.fields.proofs.Fills.{words_begin, words_turn, words_end}
use Rattle.fields.proofs.whole_nine.Goals as goal

pub loop-k-init : goal.loop-k-init
loop-k-init c = (refl, words_begin _ _ 9 _ refl)

pub loop-k-preserved : goal.loop-k-preserved
loop-k-preserved c = (simp length-set (search rules), search (rules, words_turn))

pub returns : goal.returns
returns c = search (rules, words_end)
