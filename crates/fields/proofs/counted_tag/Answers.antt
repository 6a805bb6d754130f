-- `fields::counted_tag` meets its contract: the bytes are those of the place that `locate` tells.
-- Assumes nothing.
use native.Mathlib.Omega.{arith}
use borrow.Author.Rules.{rules}
use mathlib.Core.Path.{refl}
use Prim.Native.Nat.{◌+◌, ◌<◌}
use lib.ListN.{length}
use Rattle.fields.specs.Place.{counted_size}
use Rattle.fields.proofs.Located.{Inside, starts, ends, part_in_32_bits, counted_part, inside, past}
use Rattle.fields.proofs.counted_tag.Goals as goal

pub returns-in_err-place-clause-inside : goal.returns-in_err-place-clause-inside
returns-in_err-place-clause-inside c =
    let l : length c.args.profile.now < c.args.entry.0 + counted_size c.args.size = past _ _ _ (rw (← c.counted_size.ensures) c.locate.ensures) c.in_err-place.was in
    (λ s. absurd (search (rules, s)), λ h. absurd (omega arith))

pub slice_bounds-result-count : goal.slice_bounds-result-count
slice_bounds-result-count c = starts _ _ _ c.locate.ensures c.in_ok-place.was

pub slice_bounds-result-start : goal.slice_bounds-result-start
slice_bounds-result-start c = starts _ _ _ c.locate.ensures c.in_ok-place.was

pub slice_bounds-result-end : goal.slice_bounds-result-end
slice_bounds-result-end c = ends _ _ _ c.locate.ensures c.in_ok-place.was

pub invariant_of-result : goal.invariant_of-result
invariant_of-result c = record { short = part_in_32_bits _ _ _ c.locate.ensures c.in_ok-place.was c.args.profile.now refl (omega (arith, c.counted_size.ensures)) }

pub returns-clause-tag : goal.returns-clause-tag
returns-clause-tag c = counted_part _ _ _ c.locate.ensures c.in_ok-place.was c.args.profile.now c.args.size c.counted_size.ensures

pub returns-clause-inside : goal.returns-clause-inside
returns-clause-inside c =
    let i : Inside _ _ _ c.in_ok-place.place = inside _ _ _ (rw (← c.counted_size.ensures) c.locate.ensures) c.in_ok-place.was in
    (λ s. i.fits, λ h. refl)
