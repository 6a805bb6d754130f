-- `curve::find_curve` meets its contract: a function that is found is a law of `para_of`.
-- Assumes nothing.
use mathlib.Core.Path.{◌∙◌}
use mathlib.Core.Bool.{true, false}
use native.Mathlib.Omega.{arith}
use Rattle.fields.specs.Tag.{signature_of}
use Rattle.curve.proofs.Laws.{behind_the_head, function_found, known}
use Rattle.curve.proofs.find_curve.Goals as goal

pub returns-then-parameter-eq0 : goal.returns-then-parameter-eq0
unfolding signature_of
returns-then-parameter-eq0 c =
    let ps = behind_the_head c.args.bytes.now _ _ c.parameters_end-end.ensures (omega arith) c.as_chunks.ensures.front in
    let type = c.in_ok-function-in-1885434465.ensures ∙ c.u16_at.ensures in
    function_found c.args.limit c.args.bytes.now (omega arith) c.u32_at.ensures c.in-1885434465.is type (known _) (omega arith) ps true (grind arith)

pub returns-else-divides : goal.returns-else-divides
unfolding signature_of
returns-else-divides c =
    let ps = behind_the_head c.args.bytes.now _ _ c.parameters_end-end.ensures (omega arith) c.as_chunks.ensures.front in
    let type = c.in_ok-function-in-1885434465.ensures ∙ c.u16_at.ensures in
    function_found c.args.limit c.args.bytes.now (omega arith) c.u32_at.ensures c.in-1885434465.is type (known _) (omega arith) ps false (grind arith)
