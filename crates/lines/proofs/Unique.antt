-- One call, one answer: what was written, and where it ends, are determined.
-- Assumes nothing.
use Prim.Native.Nat.{ℕ}
use mathlib.Core.Path.{◌≡◌, sym, ◌∙◌}
use mathlib.Core.List.{List}
use Rattle.lines.specs.Text.{Wrote}

pub unique : {l m n x : List ℕ} {at end stop : ℕ} → Wrote l m at end x → Wrote l n at stop x → (m ≡ n) × (end ≡ stop)
unique w v = (w.written ∙ sym v.written, w.ends ∙ sym v.ends)
