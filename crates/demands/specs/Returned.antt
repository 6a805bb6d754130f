-- What a reader returns: a value; none, where the answer is an absence or a default; or a refusal. And what an evaluator returns: how many results
-- there are, or a refusal.
use Rattle.std.specs.Prelude.{ℕ, Option, Result}
use Rattle.fields.specs.declared.Refusal.{Refusal}

abbrev pub Returned : Type 0 → Type 0
Returned A = Result (Option A) Refusal

abbrev pub Evaluation : Type 0
Evaluation = Result ℕ Refusal
