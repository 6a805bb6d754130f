-- `text::cut::kept` meets its contract: what is left of fewer is left of all.
-- Assumes nothing.
use Prim.Native.Nat.{◌≤◌}
use mathlib.Core.Path.{◌≡◌}
use Rattle.text_meaning.specs.Cut.{kept_of}
use Rattle.text.proofs.cut.kept.Given as goal

abbrev pub invariant-loop-kept : goal.invariant-loop-kept
invariant-loop-kept g l = (l.kept ≤ l.n) × (kept_of (g.U.Units.unit l.tag l.start.0) l.n ≡ kept_of (g.U.Units.unit l.tag l.start.0) l.kept)

abbrev pub decreases-loop-kept : goal.decreases-loop-kept
decreases-loop-kept g l = l.kept
