-- `lut_view::point_at` meets its contract: what is left of the grid, from the number so far, means the whole.
-- Assumes nothing.
use Prim.Native.Nat.{ℕ, ◌+◌, ◌*◌, ◌^◌, ◌<◌}
use mathlib.Core.Path.{◌≡◌, refl, ap, ◌∙◌}
use native.Mathlib.Omega.{arith}
use borrow.Author.Rules.{rules}
use Rattle.lut_view.proofs.Laws.{point_begins, point_out, point_turns, point_over, point_ends, point_other}
use Rattle.lut_view.proofs.point_at.Goals as goal

pub returns-then-index-n : goal.returns-then-index-n
returns-then-index-n c = search (rules, point_other)

pub loop-coordinate-init : goal.loop-coordinate-init
loop-coordinate-init c = (omega arith, point_begins _ _ _ _ _)

pub returns-then-points-coordinate : goal.returns-then-points-coordinate
returns-then-points-coordinate c =
    let k = c.loop-coordinate in
    point_out c.args.tag.now c.args.at.0 c.args.step c.args.n c.args.index.now k.point k.next k.coordinate-index k.invariant.1 (omega arith) (omega arith) _ c.u8_at-points.ensures c.if-points-coordinate.true

pub returns-in_err-before : goal.returns-in_err-before
returns-in_err-before c =
    let k = c.loop-coordinate in
    let over : k.point * c.from.result < 2 ^ 32 → ⊥ = c.in_err-before.ensures in
    let same : k.point * c.from.result ≡ k.point * c.u8_at-points.result = ap (λ (n : ℕ). k.point * n) c.from.ensures in
    c.from_residual.ensures ∙ point_over c.args.tag.now c.args.at.0 c.args.step c.args.n c.args.index.now k.point k.next k.coordinate-index k.invariant.1 (omega arith) (omega arith) _ c.u8_at-points.ensures c.if-points-coordinate.false _ refl (omega arith)

pub returns-in_err-point : goal.returns-in_err-point
returns-in_err-point c =
    let k = c.loop-coordinate in
    let over : c.in_ok-before.before + c.from-in-loop-coordinate.result < 2 ^ 32 → ⊥ = c.in_err-point.ensures in
    let same : k.point * c.from.result ≡ k.point * c.u8_at-points.result = ap (λ (n : ℕ). k.point * n) c.from.ensures in
    c.from_residual-in_err-point.ensures ∙ point_over c.args.tag.now c.args.at.0 c.args.step c.args.n c.args.index.now k.point k.next k.coordinate-index k.invariant.1 (omega arith) (omega arith) _ c.u8_at-points.ensures c.if-points-coordinate.false _ refl (omega (arith, c.in_ok-before.ensures, c.from-in-loop-coordinate.ensures))

pub loop-coordinate-preserved : goal.loop-coordinate-preserved
loop-coordinate-preserved c =
    let k = c.loop-coordinate in
    let same : k.point * c.from.result ≡ k.point * c.u8_at-points.result = ap (λ (n : ℕ). k.point * n) c.from.ensures in
    (omega (arith, c.in_ok-point.ensures), rw c.from-next.ensures (point_turns c.args.tag.now c.args.at.0 c.args.step c.args.n c.args.index.now k.point k.next k.coordinate-index k.invariant.1 (omega arith) (omega arith) _ c.u8_at-points.ensures c.if-points-coordinate.false c.in_ok-point.point (omega (arith, c.in_ok-before.ensures, c.in_ok-point.ensures, c.from-in-loop-coordinate.ensures))))

pub returns : goal.returns
returns c =
    let k = c.loop-coordinate in
    point_ends c.args.tag.now c.args.at.0 c.args.step c.args.n c.args.index.now k.point k.next k.coordinate-index k.invariant.1 (omega arith) (omega arith) k.invariant.0
