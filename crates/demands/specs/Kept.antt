-- A library that keeps the contracts: a call returns the result that stands for its meaning, and leaves the slots as they are to be left; so
-- does an evaluation.
use Rattle.curve_meaning.proofs.Unique.{result_from as Curve·resultFrom}
use Rattle.lut_meaning.proofs.Unique.{lut_to}
use Rattle.text_meaning.proofs.Unique.{result_to as Text·resultTo}
use Rattle.small_meaning.specs.Readers.{small_result}
use Rattle.lut_view_meaning.specs.Answer.{result_from as View·resultFrom}
use Rattle.lut_view_meaning.specs.View.{table_by, entry_of}
use Rattle.evaluate_meaning.proofs.Unique.{result_from as Colour·resultFrom}
use Rattle.demands.specs.Readers.{Reader, lut, trc, string, small, Result, Numbers, meaning, slots_after, evaluation, words_after, Library}

-- the result that stands for an answer
abbrev pub result : (r : Reader) → Numbers r → Result r
result (lut walk) a = lut_to a
result (trc walk) a = Curve·resultFrom a
result string a = Text·resultTo a
result (small s) a = small_result s a

abbrev pub kept : Library
kept =
    record {
      returns = λ r c. result r (meaning r c);
      leaves = slots_after;
      reads = λ t n index channel. View·resultFrom (entry_of t (table_by t n) index channel);
      evaluates = λ e c. Colour·resultFrom (evaluation e c);
      fills = words_after;
    }
