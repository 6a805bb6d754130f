-- What a verdict of the code says.
use Rattle.std.specs.Prelude.{Result, Ok, Err}
use Rattle.fields.specs.Checked.{Checked, good, bad}
use Rattle.fields.specs.Refusals.{refusal_number}
use Rattle.fields.specs.declared.Refusal.{Refusal}

abbrev pub verdict_in_numbers : Result Unit Refusal → Checked Unit
verdict_in_numbers (Ok _) = good tt
verdict_in_numbers (Err why) = bad (refusal_number why)
