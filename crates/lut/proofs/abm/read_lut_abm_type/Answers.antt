-- `lut::abm::read_lut_abm_type` meets its contract: each way out is a law of `abm_of`.
-- Assumes nothing.
use native.Mathlib.Omega.{arith}
use mathlib.Core.Path.{refl}
use Rattle.std.specs.Prelude.{Ok, Err, None}
use Rattle.fields.specs.declared.Refusal.{Refusal}
use Rattle.lut.proofs.Laws.{handed_on, abm_absent, matrix_refused, opened, table_read, table_refused, runs_whole, runs_refused, record_short, record_written}
use Rattle.lut.proofs.abm.read_lut_abm_type.Goals as goal

pub returns-then-too_many_channels : goal.returns-then-too_many_channels
returns-then-too_many_channels c = abm_absent c.args.walk c.args.limit c.args.tag.now c.args.slots.now _ c.too_many_channels.ensures (Ok None) c.if-too_many_channels.true refl

pub returns-in_err-check_matrix : goal.returns-in_err-check_matrix
returns-in_err-check_matrix c = matrix_refused c.args.walk c.args.limit c.args.tag.now c.args.slots.now _ c.too_many_channels.ensures c.if-too_many_channels.false _ c.check_matrix.ensures _ _ c.in_err-check_matrix.was (handed_on _ _ c.from_residual.ensures.1)

pub returns-in_err-table : goal.returns-in_err-table
returns-in_err-table c = table_refused c.args.walk c.args.limit c.args.tag.now c.args.slots.now _ c.find_table.ensures (opened _ _ c.too_many_channels.ensures c.if-too_many_channels.false _ c.check_matrix.ensures _ c.in_ok-check_matrix.was) _ _ c.in_err-table.was (handed_on _ _ c.from_residual-in_err-table.ensures.1)

pub judge_runs-requires : goal.judge_runs-requires
judge_runs-requires c = (c.requires, c.find_runs-runs.ensures)

pub returns-in_err-judge_runs : goal.returns-in_err-judge_runs
returns-in_err-judge_runs c = runs_refused c.args.walk c.args.limit c.args.tag.now c.args.slots.now _ c.judge_runs.ensures (opened _ _ c.too_many_channels.ensures c.if-too_many_channels.false _ c.check_matrix.ensures _ c.in_ok-check_matrix.was) _ (table_read c.args.walk c.args.limit c.args.tag.now c.args.slots.now _ c.find_table.ensures _ c.in_ok-table.was) _ _ c.in_err-judge_runs.was (handed_on _ _ c.from_residual-in_err-judge_runs.ensures.1)

pub returns-then-slots-needed : goal.returns-then-slots-needed
returns-then-slots-needed c = record_short c.args.walk c.args.limit c.args.tag.now c.args.slots.now _ c.find_runs-runs.ensures (opened _ _ c.too_many_channels.ensures c.if-too_many_channels.false _ c.check_matrix.ensures _ c.in_ok-check_matrix.was) _ (table_read c.args.walk c.args.limit c.args.tag.now c.args.slots.now _ c.find_table.ensures _ c.in_ok-table.was) (runs_whole c.args.walk c.args.limit c.args.tag.now c.args.slots.now _ c.judge_runs.ensures _ c.in_ok-judge_runs.was) (Err Refusal.TooFewSlots) c.if-slots-needed.true refl

pub record_runs-requires : goal.record_runs-requires
record_runs-requires c = (c.requires, c.find_runs-runs.ensures, runs_whole c.args.walk c.args.limit c.args.tag.now c.args.slots.now _ c.judge_runs.ensures _ c.in_ok-judge_runs.was, omega arith)

pub value-requires : goal.value-requires
value-requires c = (c.find_runs-runs.ensures, table_read c.args.walk c.args.limit c.args.tag.now c.args.slots.now _ c.find_table.ensures _ c.in_ok-table.was)

pub returns : goal.returns
returns c = record_written c.args.walk c.args.limit c.args.tag.now c.args.slots.now _ c.find_runs-runs.ensures (opened _ _ c.too_many_channels.ensures c.if-too_many_channels.false _ c.check_matrix.ensures _ c.in_ok-check_matrix.was) _ (table_read c.args.walk c.args.limit c.args.tag.now c.args.slots.now _ c.find_table.ensures _ c.in_ok-table.was) (runs_whole c.args.walk c.args.limit c.args.tag.now c.args.slots.now _ c.judge_runs.ensures _ c.in_ok-judge_runs.was) _ c.if-slots-needed.false _ c.record_runs.ensures c.value.ensures
