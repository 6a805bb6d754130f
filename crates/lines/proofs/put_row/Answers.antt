-- `lines::put_row` meets its contract: what is left to write makes the whole.
-- Assumes nothing.
use Rattle.std.proofs.Common.{sym, ap, ◌∙◌}
use Rattle.std.proofs.lemmas.List.{get_or-map, length-map}
use Rattle.lines.proofs.Laws.{row_turns, row_ends_all}
use Rattle.lines.proofs.put_row.Invariants.{behind}
use Rattle.lines.proofs.put_row.Goals as goal

pub loop-word-preserved : goal.loop-word-preserved
loop-word-preserved g c n agrees =
    let ws = c.args.words.now in
    let i = c.loop-word.word-index in
    let same = agrees _ _ c.into.ensures ∙ ap n c.word-item.is ∙ sym (get_or-map n ws i c.word-item.result 0 c.loop-word-test.true) in
    row_turns (behind c.args.before) _ _ _ _ _ _ _ _ _ (c.loop-word.invariant n agrees) (rw length-map c.loop-word-test.true) (rw same at c.put_number-end.ensures)

pub returns : goal.returns
returns g c =
    record { by = λ n agrees. row_ends_all (behind c.args.before) _ _ _ _ _ _ (c.loop-word.invariant n agrees) (rw length-map c.loop-word-test.false) }
