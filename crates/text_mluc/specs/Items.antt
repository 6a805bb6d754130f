-- What the code's records, faults and verdicts stand for.
use Rattle.std.specs.Prelude.{Result, Ok, Err}
use Rattle.text_meaning.specs.Mluc.{PlacedString, Fault, header, string, FoundRecord, is, no, RecordsEnd, whole, stopped}
use Rattle.text_mluc.specs.declared.Fault.{Fault as CodeFault}
use Rattle.text_mluc.specs.declared.TextRecord.{TextRecord}

abbrev pub record_from : TextRecord → PlacedString
record_from r = record { language = r.language; country = r.country; start = r.start; bytes = r.length }

abbrev pub fault_from : CodeFault → Fault
fault_from CodeFault.Header = header
fault_from CodeFault.String = string

abbrev pub seen_from : Result TextRecord CodeFault → FoundRecord
seen_from (Ok r) = is (record_from r)
seen_from (Err f) = no (fault_from f)

abbrev pub end_from : Result Unit CodeFault → RecordsEnd
end_from (Ok u) = whole
end_from (Err f) = stopped (fault_from f)
