-- `export_words::put` meets its contract.
-- Assumes nothing.
use Rattle.std.proofs.Common.{sym, ap, ◌∙◌}
use Rattle.std.proofs.lemmas.List.{get_or-map, length-map}
use Rattle.fields.proofs.Putting.{turns, full, done}
use Rattle.export_words.proofs.put.Goals as goal

pub returns-then-out-end : goal.returns-then-out-end
returns-then-out-end g c =
    record { by = λ number agrees. full _ _ _ _ _ _ (c.loop-word.invariant number agrees) c.if-out-end.true }

pub loop-word-preserved : goal.loop-word-preserved
loop-word-preserved g c number agrees =
    let ws = c.args.words.now in
    turns _ _ _ _ _ _ (c.loop-word.invariant number agrees) _ (rw length-map c.loop-word-test.true)
    (agrees _ _ c.into.ensures ∙ ap number c.word-item.is ∙ sym (get_or-map number ws c.loop-word.word-index c.word-item.result 0 c.loop-word-test.true))

pub returns : goal.returns
returns g c =
    record { by = λ number agrees. done _ _ _ _ _ _ (c.loop-word.invariant number agrees) (rw length-map c.loop-word-test.false) }
