-- One job, one line: what is written for a job, and where it ends, are determined.
-- Assumes nothing.
use Prim.Native.Nat.{ℕ}
use mathlib.Core.Path.{◌≡◌}
use mathlib.Core.List.{List}
use Rattle.lines.specs.Text.{Wrote}
use Rattle.lines.proofs.Unique.{unique as wrote-once}
use Rattle.curve_line_text.specs.CurveLine.{text_of}

pub unique : (job : List ℕ) {before after other : List ℕ} {end stop : ℕ} → Wrote before after 0 end (text_of job) → Wrote before other 0 stop (text_of job) → (after ≡ other) × (end ≡ stop)
unique job w v = wrote-once w v
