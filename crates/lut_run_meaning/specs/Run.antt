-- A run of curves in a tag: the curves that a walk meets, each with its place, and how the run ends.
use Rattle.std.specs.Prelude.{ℕ, zero, suc, ◌+◌, ◌*◌, ◌/◌, ◌≤◌, ◌≡◌, cond, List, [], ◌∷◌, ◌++◌, ltb, eqb, length, get_or, drop}
use Rattle.fields.specs.Checked.{Checked, good, bad}
use Rattle.fields.specs.House.{tag_size}
use Rattle.curve_meaning.specs.Curve.{curve_of}
use Rattle.curve_meaning.specs.Shape.{Shape, size_of, step_of, words_of}
use Rattle.curve_meaning.specs.declared.Walk.{Walk}

-- a curve and its offset in the tag
pub record Placed : Type 0 where
  pub at : ℕ
  pub shape : Shape

-- a run is read whole, or stops with a refusal at the curve of an offset
pub data RunEnd : Type 0 where
  whole : RunEnd
  stopped : ℕ → ℕ → RunEnd

-- the curves as far as the run gets, and its end
pub record Run : Type 0 where
  pub curves : List Placed
  pub end : RunEnd

abbrev pub placed : ℕ → Shape → Placed
placed at s = record { at = at; shape = s }

abbrev pub done : Run
done = record { curves = []; end = whole }

abbrev pub stops : ℕ → ℕ → Run
stops at n = record { curves = []; end = stopped n at }

abbrev pub first : Placed → Run → Run
first c r = record { curves = c ∷ r.curves; end = r.end }

-- the next multiple of 4
unfoldable pub aligned : ℕ → ℕ
aligned n = (n + 3) / 4 * 4

-- the curve at an offset of the tag; past the tag is refusal 2
unfoldable pub curve_at_offset : ℕ → List ℕ → ℕ → Checked Shape
curve_at_offset limit t at = cond (ltb (length t) (at + tag_size)) (bad 2) (curve_of limit (drop at t))

-- what is seen at an offset, and the run that follows a curve there
abbrev pub follow : ℕ → Checked Shape → (Shape → Run) → Run
follow at (good s) next = first (placed at s) (next s)
follow at (bad n) next = stops at n

-- n curves from an offset on: the next starts where the walk's step ends, raised to a multiple of 4
unfoldable pub run_at : Walk → ℕ → List ℕ → ℕ → ℕ → Run
run_at walk limit t at zero = done
run_at walk limit t at (suc n) = follow at (curve_at_offset limit t at) (λ s. run_at walk limit t (aligned (at + step_of walk s)) n)

-- the first byte behind a curve
abbrev pub end_of : Placed → ℕ
end_of c = c.at + size_of c.shape

-- a curve stands in the tag: its first 12 bytes lie there, the bytes from its offset on say it, and it ends there
pub record CurveStands (limit : ℕ) (t : List ℕ) (c : Placed) : Type 0 where
  pub begins_in_tag : c.at + tag_size ≤ length t
  pub said : curve_of limit (drop c.at t) ≡ good c.shape
  pub ends_in_tag : end_of c ≤ length t

-- the records of curves, one behind the other
unfoldable pub records_of : List Placed → List ℕ
records_of [] = []
records_of (c ∷ cs) = words_of (c.at + tag_size) c.shape ++ records_of cs

-- where a record's data end, by its words: an entry of a table (kind 1) has two bytes, a parameter four
abbrev pub data_end : List ℕ → ℕ
data_end words = get_or words 1 0 + cond (eqb (get_or words 0 0) 1) 2 4 * get_or words 2 0
