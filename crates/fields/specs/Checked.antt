-- What a check of bytes gives: what they say, or the number of the refusal.
use Rattle.std.specs.Prelude.{ℕ}

pub data Checked (A : Type 0) : Type 0 where
  good : A → Checked A
  bad : ℕ → Checked A

-- one check behind another: the first refusal counts
abbrev pub and_then : {A B : Type 0} → Checked A → Checked B → Checked B
and_then (good _) next = next
and_then (bad n) next = bad n
