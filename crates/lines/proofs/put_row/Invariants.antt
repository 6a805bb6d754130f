-- `lines::put_row` meets its contract: what is left to write makes the whole.
-- Assumes nothing.
use Rattle.std.proofs.Common.{◌≡◌, ℕ, List, map}
use Rattle.lines.specs.Text.{number}
use Rattle.lines.proofs.Laws.{Printing}
use Rattle.lines.proofs.put_row.Given as goal

abbrev pub behind : ℕ → ℕ → ℕ → List ℕ
behind byte i n = number byte n

-- by each way to number the words that agrees with their conversion
abbrev pub invariant-loop-word : goal.invariant-loop-word
invariant-loop-word g l =
    (n : _ → ℕ) → ((x : _) (y : ℕ) → g.W.Into.converts x y → y ≡ n x) → Printing (behind l.before) l.fn.out l.at 0 (map n l.words) l.out l.end l.word-index
