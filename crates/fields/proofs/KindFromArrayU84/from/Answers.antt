-- `Kind::from` meets its contract: in each arm the number is a signature, where `kind_of` computes; in the last it is none.
-- Assumes nothing.
use Rattle.fields.proofs.Signatures.{named}
use borrow.Author.Tests.{ne_eqb}
use Prim.Native.Nat.{ℕ}
use mathlib.Core.Path.{◌≡◌, refl}
use mathlib.Core.List.{List, [], ◌∷◌}
use Rattle.fields.specs.Tag.{kinds, kind_of, kind_in, signature_of}
use Rattle.fields.specs.declared.Kind.{Kind}
use Rattle.fields.specs.declared.Kind.TheVariants.{Other}
use Rattle.fields.proofs.KindFromArrayU84.from.Goals as goal

-- the number is the signature of none of the kinds, as the last arm has it: each behind what is known before it

abbrev Unlike : Type 0 → List Kind → ℕ → Type 0
Unlike Before [] n = Before
Unlike Before (k ∷ ks) n = Unlike (Before × (n ≡ signature_of k → ⊥)) ks n

before : (Before : Type 0) (ks : List Kind) (n : ℕ) → Unlike Before ks n → Before
before Before [] n h = h
before Before (k ∷ ks) n h = (before (Before × (n ≡ signature_of k → ⊥)) ks n h).0

none_of : (Before : Type 0) (ks : List Kind) (n : ℕ) → Unlike Before ks n → kind_in ks n ≡ Other
unfolding kind_in
none_of Before [] n h = refl
none_of Before (k ∷ ks) n h =
    let With : Type 0 = Before × (n ≡ signature_of k → ⊥) in
    rw (ne_eqb _ _ (before With ks n h).1) (none_of With ks n h)

pub returns-in_default : goal.returns-in_default
unfolding kind_of kind_in signature_of
returns-in_default c = named c.args.four c.from_be_bytes.ensures refl (none_of Unit kinds _ c.in_default.in_default-own.rest)
