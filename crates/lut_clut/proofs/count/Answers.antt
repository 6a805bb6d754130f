-- `lut_clut::count` meets its contract: what is left of the grid, from the product so far, has the answer of the whole.
-- Assumes nothing.
use Prim.Native.Nat.{ℕ, ◌*◌, ◌<◌}
use mathlib.Core.Path.{ap, ◌∙◌}
use native.Mathlib.Omega.{arith}
use borrow.Author.Rules.{rules}
use Rattle.lut_clut.proofs.Laws.{count_begins, count_turns, count_over, count_last, count_ends}
use Rattle.lut_clut.proofs.count.Goals as goal

pub loop-dimension-init : goal.loop-dimension-init
loop-dimension-init c = search (rules, count_begins)

pub returns-in_err-points : goal.returns-in_err-points
returns-in_err-points c =
    let over : c.loop-dimension.points * c.from.result < 4294967296 → ⊥ = c.in_err-points.ensures in
    c.from_residual.ensures ∙ count_over _ _ _ _ (c.loop-dimension.points * c.from.result) c.loop-dimension.invariant.1 c.loop-dimension.invariant.0 (omega arith) (ap (λ (n : ℕ). c.loop-dimension.points * n) c.from.ensures) (omega arith)

pub loop-dimension-preserved : goal.loop-dimension-preserved
loop-dimension-preserved c =
    (omega (arith, c.in_ok-points.ensures), count_turns _ _ _ _ _ c.loop-dimension.invariant.1 c.loop-dimension.invariant.0 (omega arith) (c.in_ok-points.ensures.1 ∙ ap (λ (n : ℕ). c.loop-dimension.points * n) c.from.ensures))

pub returns-in_err-entries : goal.returns-in_err-entries
returns-in_err-entries c =
    let over : c.loop-dimension.points * c.from-2.result < 4294967296 → ⊥ = c.in_err-entries.ensures in
    c.from_residual-in_err-entries.ensures ∙ count_last c.args.grid.now c.args.outputs c.loop-dimension.points c.loop-dimension.dimension-index (c.loop-dimension.points * c.from-2.result) c.loop-dimension.invariant.1 c.loop-dimension.invariant.0 (omega arith) (ap (λ (n : ℕ). c.loop-dimension.points * n) c.from-2.ensures) (omega arith)

pub returns : goal.returns
returns c =
    count_ends c.args.grid.now c.args.outputs c.loop-dimension.points c.loop-dimension.dimension-index _ c.loop-dimension.invariant.1 c.loop-dimension.invariant.0 (omega arith) (c.in_ok-entries.ensures.1 ∙ ap (λ (n : ℕ). c.loop-dimension.points * n) c.from-2.ensures) (omega (arith, c.in_ok-entries.ensures))
