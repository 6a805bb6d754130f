-- The order that the readers share: how `find` meets it, what a tag that it finds has, and what each reader makes of it.
-- Assumes nothing.
use Prim.Native.Nat.{ℕ, ◌+◌, ◌-◌, ◌≤◌, ◌<◌}
use native.Mathlib.Omega.{arith}
use mathlib.Core.Path.{◌≡◌, refl, sym, ◌∙◌, ap}
use mathlib.Core.List.{List}
use lib.Dec.{ltb, eqb}
use lib.ListN.{length, take, drop}
use borrow.Author.Tests.{eq-eqb, ne_eqb, lt-ltb, le-ltb, ltb-false, eqb-true}
use Rattle.std.specs.Prelude.{Option, Some, None, Result, Ok, Err}
use Rattle.fields.proofs.Never.{never}
use Rattle.fields.specs.Bytes.{u32_at}
use Rattle.fields.specs.Place.{place_of, tag_at}
use Rattle.fields.specs.declared.Place.{Place}
use Rattle.fields.specs.declared.Refusal.{Refusal}
use Rattle.fields.proofs.Choice.{each}
use Rattle.fields.proofs.Located.{inside, past, part_is, begins, starts as located_starts, ends as located_ends}
use Rattle.small_meaning.specs.Answer.{Answer, value, default, absent, refused, answer_in}
use Rattle.small_meaning.specs.Order.{found_of, answer_to, unfound_result}
use Rattle.small_meaning.specs.declared.Unfound.{Unfound}

-- what a tag that is found has
pub record Tagged (least end signature : ℕ) (p : List ℕ) (entry size : ℕ) (w : Place) : Type 0 where
  pub long : least ≤ size
  pub fits : entry + end ≤ length p
  pub typed : u32_at (tag_at p entry end) 0 ≡ signature
  pub from_is : w.start ≡ entry
  pub to_is : w.end ≡ entry + end

module _ (least end signature : ℕ) (p : List ℕ) (entry size : ℕ) where
  -- ---- the ways out of `find`

  pub found_short : size < least → Err Unfound.Short ≡ found_of least end signature p entry size
  unfolding found_of
  found_short l = simp (lt-ltb _ _ l)

  module _ (place : Option Place) (h : place ≡ place_of (length p) entry end) (l : least ≤ size) where
    pub found_past : place ≡ None → Err Unfound.Past ≡ found_of least end signature p entry size
    unfolding found_of
    found_past e = simp (le-ltb _ _ l, lt-ltb _ _ (past _ _ _ h e))

    module _ (w : Place) (type : ℕ) (e : place ≡ Some w) (k : type ≡ u32_at (take (w.end - w.start) (drop w.start p)) 0) where
      pub found_tag : type ≡ signature → Ok w ≡ found_of least end signature p entry size
      unfolding found_of
      found_tag s =
          let i = inside _ _ _ h e in
          let t : u32_at (tag_at p entry end) 0 ≡ signature = sym (simp (i.from_is, i.to_is, part_is p entry end) at k) ∙ s in
          let same : w ≡ record { start = entry; end = entry + end } = λ j. record { start = i.from_is j; end = i.to_is j } in
          simp (le-ltb _ _ l, le-ltb _ _ i.fits, eq-eqb _ _ t) (ap Ok same)

      pub found_other : (type ≡ signature → ⊥) → Err Unfound.Other ≡ found_of least end signature p entry size
      unfolding found_of
      found_other s =
          let i = inside _ _ _ h e in
          let t : u32_at (tag_at p entry end) 0 ≡ signature → ⊥ = λ y. s ((simp (i.from_is, i.to_is, part_is p entry end) at k) ∙ y) in
          simp (le-ltb _ _ l, le-ltb _ _ i.fits, ne_eqb _ _ t)

  -- ---- a tag that is found

  pub tagged : {w : Place} → found_of least end signature p entry size ≡ Ok w → Tagged least end signature p entry size w
  unfolding found_of
  tagged {w} =
      let P : Result Place Unfound → Type 0 = λ f. f ≡ Ok w → Tagged least end signature p entry size w in
      each P (ltb size least) _ _ (λ _ e. never cc)
      (λ l. each P (ltb (length p) (entry + end)) _ _ (λ _ e. never cc)
      (λ f. each P (eqb (u32_at (tag_at p entry end) 0) signature) _ _
      (λ t e. record { long = ltb-false _ _ l; fits = ltb-false _ _ f; typed = eqb-true _ _ t; from_is = cc; to_is = cc })
      (λ _ e. never cc)))

  module _ {f : Result Place Unfound} (h : f ≡ found_of least end signature p entry size) {w : Place} (e : f ≡ Ok w) where
    -- the bounds that its bytes ask of the profile
    pub starts : w.start ≤ w.end
    starts = let t = tagged (sym h ∙ e) in omega arith

    pub ends : w.end ≤ length p
    ends = let t = tagged (sym h ∙ e) in omega arith

    -- and they are the tag's
    pub found_part : take (w.end - w.start) (drop w.start p) ≡ tag_at p entry end
    found_part = let t = tagged (sym h ∙ e) in rw (t.from_is, t.to_is, part_is p entry end)

-- a tag that is found whole makes the profile as long as the least size
pub covers : (least signature : ℕ) (p : List ℕ) (entry size : ℕ) {f : Result Place Unfound} {w : Place} → f ≡ found_of least size signature p entry size → f ≡ Ok w → least ≤ length p
covers least signature p entry size h e = let t = tagged least size signature p entry size (sym h ∙ e) in omega arith

-- ---- the ways out of a reader

module _ (short other this : Answer) (f g : Result Place Unfound) (h : f ≡ g) where
  pub answer_short : f ≡ Err Unfound.Short → short ≡ answer_to g short other this
  unfolding answer_to
  answer_short e = simp (← h, e)

  pub answer_past : f ≡ Err Unfound.Past → refused 1 ≡ answer_to g short other this
  unfolding answer_to
  answer_past e = simp (← h, e)

  pub answer_other : f ≡ Err Unfound.Other → other ≡ answer_to g short other this
  unfolding answer_to
  answer_other e = simp (← h, e)

  pub answer_this : (a : Answer) (w : Place) → f ≡ Ok w → a ≡ this → a ≡ answer_to g short other this
  unfolding answer_to
  answer_this a w e s = simp (← h, e) s

-- a tag that is not found is answered alike by most readers
pub answer_unfound : {A : Type 0} (numbers : A → List ℕ) (none this : Answer) (f g : Result Place Unfound) → f ≡ g → (why : Unfound) → f ≡ Err why → (r : Result (Option A) Refusal) → r ≡ unfound_result why → answer_in numbers none r ≡ answer_to g none none this
unfolding answer_to
answer_unfound numbers none this f g h why e r u = simp (← h, e, u) (by why)
  where
    by : (why : Unfound) → answer_in numbers none (unfound_result why) ≡ answer_to (Err why) none none this
    by Unfound.Short = refl
    by Unfound.Past = refl
    by Unfound.Other = refl

-- the fields of a tag that is found
pub answer_fields : (fields : List ℕ → List ℕ) (short other : Answer) (least end signature : ℕ) (p : List ℕ) (entry size : ℕ) (f : Result Place Unfound) (w : Place) (ws : List ℕ) → f ≡ found_of least end signature p entry size → f ≡ Ok w → ws ≡ fields (take (w.end - w.start) (drop w.start p)) → value ws ≡ answer_to (found_of least end signature p entry size) short other (value (fields (tag_at p entry end)))
answer_fields fields short other least end signature p entry size f w ws h e m =
    answer_this short other _ f _ h (value ws) w e (ap value (m ∙ ap fields (found_part least end signature p entry size h e)))

-- what holds of every answer that a reader can give holds of the one that it gives
pub order_each : (P : Answer → Type 0) (f : Result Place Unfound) {short other this : Answer} → P short → P (refused 1) → P other → P this → P (answer_to f short other this)
unfolding answer_to
order_each P (Err Unfound.Short) a b c d = a
order_each P (Err Unfound.Past) a b c d = b
order_each P (Err Unfound.Other) a b c d = c
order_each P (Ok w) a b c d = d

-- ---- what stands behind a value

-- an answer that is no value
abbrev pub Silent : Answer → Type 0
Silent a = (ws : List ℕ) → a ≡ value ws → ⊥

pub no_absence : Silent absent
no_absence ws e = never cc

pub no_default : Silent default
no_default ws e = never cc

pub no_refusal : (n : ℕ) → Silent (refused n)
no_refusal n ws e = never cc

pub record Met (least end signature : ℕ) (p : List ℕ) (entry size : ℕ) (this : Answer) (ws : List ℕ) : Type 0 where
  pub long : least ≤ size
  pub fits : entry + end ≤ length p
  pub typed : u32_at (tag_at p entry end) 0 ≡ signature
  pub says : this ≡ value ws

pub met : (least end signature : ℕ) (p : List ℕ) (entry size : ℕ) (short other this : Answer) (ws : List ℕ) → Silent short → Silent other → answer_to (found_of least end signature p entry size) short other this ≡ value ws → Met least end signature p entry size this ws
unfolding answer_to
met least end signature p entry size short other this ws s o = by (found_of least end signature p entry size) refl
  where
    by : (f : Result Place Unfound) → found_of least end signature p entry size ≡ f → answer_to f short other this ≡ value ws → Met least end signature p entry size this ws
    by (Err Unfound.Short) h v = absurd (s ws v)
    by (Err Unfound.Past) h v = absurd (no_refusal 1 ws v)
    by (Err Unfound.Other) h v = absurd (o ws v)
    by (Ok w) h v =
        let t = tagged least end signature p entry size h in
        record { long = t.long; fits = t.fits; typed = t.typed; says = v }

-- ---- a tag that is all there is found

pub reaches : (least end signature : ℕ) (p : List ℕ) (entry size : ℕ) (short other this : Answer) → least ≤ size → entry + end ≤ length p → u32_at (tag_at p entry end) 0 ≡ signature → answer_to (found_of least end signature p entry size) short other this ≡ this
unfolding found_of answer_to
reaches least end signature p entry size short other this l f t = simp (le-ltb _ _ l, le-ltb _ _ f, eq-eqb _ _ t)

pub ruleset find_laws = (found_short, found_past, found_tag, found_other, begins, located_starts, located_ends)

pub ruleset reader_laws = (answer_short, answer_past, answer_other, answer_this, found_part, starts, ends)
