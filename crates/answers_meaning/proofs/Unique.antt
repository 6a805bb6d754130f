-- One call, one answer: what is written, where it ends, and the lent words after the call are determined.
-- Assumes nothing.
use Prim.Native.Nat.{ℕ}
use mathlib.Core.Path.{◌≡◌, sym, ◌∙◌}
use mathlib.Core.List.{List}
use Rattle.lines.proofs.Unique.{unique as wrote-once}
use Rattle.answers_meaning.specs.Line.{Line, LineAndWords}

pub unique : {a : Line} {before after other words rest : List ℕ} {end stop : ℕ} → LineAndWords a before after words end → LineAndWords a before other rest stop → (after ≡ other) × (end ≡ stop) × (words ≡ rest)
unique s t = let w = wrote-once s.written t.written in (w.0, w.1, s.words_are ∙ sym t.words_are)
