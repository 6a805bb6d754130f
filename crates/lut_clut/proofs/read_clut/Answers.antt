-- `lut_clut::read_clut` meets its contract: each way out is a law of `clut_of`.
-- Assumes nothing.
use mathlib.Core.Path.{◌≡◌}
use Rattle.std.proofs.lemmas.Result.{err_from_is_err_and}
use Rattle.std.specs.Prelude.{None, Result, Err}
use Rattle.fields.specs.declared.Refusal.{Refusal}
use Rattle.lut_clut.specs.declared.Counts.{Counts}
use Rattle.lut_clut.proofs.Laws.{clut_short, clut_header, clut_over, clut_zero, clut_large, clut_flat, clut_counted, clut_rest}
use Rattle.lut_clut.proofs.read_clut.Goals.{then-len-lt-ENTRIES-via-then-len-lt-ENTRIES, then-len-lt-ENTRIES-via-else-len-lt-ENTRIES+then-len-at}
use Rattle.lut_clut.proofs.read_clut.Goals as goal

pub returns-then-len-lt-ENTRIES : goal.returns-then-len-lt-ENTRIES
returns-then-len-lt-ENTRIES c =
    elim c.then-len-lt-ENTRIES.branch [
      | then-len-lt-ENTRIES-via-then-len-lt-ENTRIES w ↦ clut_short _ _ _ _ w.if-len-lt-ENTRIES.true
      | then-len-lt-ENTRIES-via-else-len-lt-ENTRIES+then-len-at w ↦ clut_header _ _ _ _ w.if-len-lt-ENTRIES.false w.if-len-at.true
    ]

pub returns-in_err-counts : goal.returns-in_err-counts
returns-in_err-counts c =
    let p = err_from_is_err_and c.from_residual.result c.from_residual.ensures.1 in
    let none : c.count.result ≡ None = c.in_err-counts.ensures.ok_part in
    let same : p.0 ≡ c.in_err-counts.field-0.0 = p.2 in
    let why : ◌≡◌ {A = Result Counts Refusal} (Err c.in_err-counts.field-0.0) (Err Refusal.GridOverflow) = rw none at c.in_err-counts.ensures.value in
    let refused : c.from_residual.result ≡ Err Refusal.GridOverflow = rw (p.1, same) cc in
    rw refused (clut_over _ _ _ _ c.if-len-lt-ENTRIES.false c.if-len-at.false _ c.dimensions.ensures _ c.count.ensures none)

pub returns-then-counts-eq0 : goal.returns-then-counts-eq0
returns-then-counts-eq0 c = clut_zero _ _ _ _ c.if-len-lt-ENTRIES.false c.if-len-at.false _ c.dimensions.ensures _ c.count.ensures _ c.in_ok-counts.ensures.ok_part c.if-counts-eq0.true

pub returns-then-counts-gt-MOST_ENTRIES : goal.returns-then-counts-gt-MOST_ENTRIES
returns-then-counts-gt-MOST_ENTRIES c = clut_large _ _ _ _ c.if-len-lt-ENTRIES.false c.if-len-at.false _ c.dimensions.ensures _ c.count.ensures _ c.in_ok-counts.ensures.ok_part c.if-counts-eq0.false c.if-counts-gt-MOST_ENTRIES.true

pub returns-then-has_flat : goal.returns-then-has_flat
returns-then-has_flat c = clut_flat _ _ _ _ c.if-len-lt-ENTRIES.false c.if-len-at.false _ c.dimensions.ensures _ c.count.ensures _ c.in_ok-counts.ensures.ok_part c.if-counts-eq0.false c.if-counts-gt-MOST_ENTRIES.false _ c.has_flat.ensures c.if-has_flat.true

pub read_data-requires : goal.read_data-requires
read_data-requires c = clut_counted _ _ _ _ c.if-len-lt-ENTRIES.false c.if-len-at.false _ c.dimensions.ensures _ c.count.ensures _ c.in_ok-counts.ensures.ok_part c.if-counts-eq0.false c.if-counts-gt-MOST_ENTRIES.false

pub returns : goal.returns
returns c = clut_rest _ _ _ _ c.if-len-lt-ENTRIES.false c.if-len-at.false _ c.dimensions.ensures _ c.count.ensures _ c.in_ok-counts.ensures.ok_part c.if-counts-eq0.false c.if-counts-gt-MOST_ENTRIES.false _ c.has_flat.ensures c.if-has_flat.false _ c.read_data.ensures
