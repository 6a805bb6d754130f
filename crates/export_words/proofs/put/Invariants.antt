-- `export_words::put` meets its contract.
-- Assumes nothing.
use Rattle.std.proofs.Common.{◌≡◌, ℕ, map}
use Rattle.fields.proofs.Putting.{Putting}
use Rattle.export_words.proofs.put.Given as goal

-- by each way to number the words that agrees with their conversion
abbrev pub invariant-loop-word : goal.invariant-loop-word
invariant-loop-word g l =
    (number : _ → ℕ) → ((x : _) (n : ℕ) → g.W.Into.converts x n → n ≡ number x) → Putting l.fn.out l.at (map number l.words) l.out l.end l.word-index
