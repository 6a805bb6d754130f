-- `lut::read_lut_tag` meets its contract: each way out is a law of `lut_of`, and a part lies where `locate` found it.
-- Assumes nothing.
use mathlib.Core.Path.{◌≡◌, refl, ap, ◌∙◌}
use Rattle.std.specs.Prelude.{Result, Err, None}
use Prim.Native.Nat.{ℕ}
use lib.ListN.{length}
use native.Mathlib.Omega.{arith}
use Rattle.fields.specs.Place.{place_of}
use Rattle.fields.specs.declared.Refusal.{Refusal}
use Rattle.lut_meaning.specs.Answer.{refuse}
use Rattle.fields.specs.Refusals.{refusal_number}
use Rattle.fields.specs.declared.Place.{Place}
use Rattle.lut.proofs.Laws.{handed_on, lut_past, lut_short, lut_kind}
use Rattle.fields.proofs.Located.{starts, ends, part_below}
use Rattle.lut.proofs.read_lut_tag.Goals as goal

pub returns-in_err-place : goal.returns-in_err-place
returns-in_err-place c =
    let none : c.locate.result ≡ None = c.in_err-place.ensures.ok_part in
    let why : ◌≡◌ {A = Result Place Refusal} (Err c.in_err-place.field-0.0) (Err Refusal.PastProfile) = rw none at c.in_err-place.ensures.value in
    let same : c.in_err-place.field-0.0 ≡ Refusal.PastProfile = cc in
    let found : c.locate.result ≡ place_of (length c.args.profile.now) c.args.entry.0 c.counted_size-end.result = rw c.from.ensures at c.locate.ensures in
    lut_past c.args.walk c.args.limit c.args.points c.args.profile.now c.args.slots.now _ _ _ c.counted_size-end.ensures _ found _ none (handed_on _ _ c.from_residual.ensures.1 ∙ ap (λ (w : Refusal). refuse (refusal_number w)) same)

pub returns-then-end-lt-SHORTEST : goal.returns-then-end-lt-SHORTEST
returns-then-end-lt-SHORTEST c =
    let found : c.locate.result ≡ place_of (length c.args.profile.now) c.args.entry.0 c.counted_size-end.result = rw c.from.ensures at c.locate.ensures in
    lut_short c.args.walk c.args.limit c.args.points c.args.profile.now c.args.slots.now _ _ _ c.counted_size-end.ensures _ found (Err Refusal.TagTooShort) _ c.in_ok-place.ensures.ok_part c.if-end-lt-SHORTEST.true refl

pub slice_bounds-read_kind-count : goal.slice_bounds-read_kind-count
slice_bounds-read_kind-count c = starts _ _ _ c.locate.ensures c.in_ok-place.ensures.ok_part

pub slice_bounds-read_kind-start : goal.slice_bounds-read_kind-start
slice_bounds-read_kind-start c = starts _ _ _ c.locate.ensures c.in_ok-place.ensures.ok_part

pub slice_bounds-read_kind-end : goal.slice_bounds-read_kind-end
slice_bounds-read_kind-end c = ends _ _ _ c.locate.ensures c.in_ok-place.ensures.ok_part

pub read_kind-requires : goal.read_kind-requires
read_kind-requires c = part_below _ _ _ c.locate.ensures c.in_ok-place.ensures.ok_part _ refl _ (omega arith)

pub returns : goal.returns
returns c =
    let found : c.locate.result ≡ place_of (length c.args.profile.now) c.args.entry.0 c.counted_size-end.result = rw c.from.ensures at c.locate.ensures in
    lut_kind c.args.walk c.args.limit c.args.points c.args.profile.now c.args.slots.now _ _ _ c.counted_size-end.ensures _ found _ _ c.in_ok-place.ensures.ok_part c.if-end-lt-SHORTEST.false _ c.read_kind.ensures
