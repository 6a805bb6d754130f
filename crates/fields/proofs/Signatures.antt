-- What an arm of a `match` on a kind tells of the signature: in the arm of a kind it is that kind's, and in the arm `_` it is none of
-- those with an arm of their own.
-- Assumes nothing.
use Prim.Native.Nat.{ℕ}
use mathlib.Core.Path.{◌≡◌, refl, sym, ◌∙◌, ap, subst}
use mathlib.Core.Bool.{Bool, true, false, not, cond, ◌&&◌, ◌||◌, false≢true}
use mathlib.Core.List.{List, [], ◌∷◌}
use mathlib.Core.Logic.{inl, inr}
use lib.Dec.{eqb}
use borrow.Author.Tests.{eqb-true, eq-eqb}
use types.Run.{OneOf}
use denote.Enum.Declared.{tag_of}
use Rattle.std.specs.Int.{w32, from_be_bytes}
use Rattle.fields.specs.Bytes.{u32_at}
use Rattle.fields.proofs.Words.{word_be}
use Rattle.fields.specs.Tag.{signature_of, kinds, kind_in, kind_of}
use Rattle.fields.specs.declared.Kind.{Kind}
use Rattle.fields.specs.declared.Kind.TheVariants.{Curv, Para, Mft1, Mft2, Mab, Mba, Mluc, Desc, Text, Xyz, Sf32, Meas, View, Cicp, Sig, Dtim, Other}
use Rattle.fields.specs.contracts.Kind as made

-- ---- the kind that four bytes name

-- where the number of the four bytes is n, it is the kind of n
pub named : (four : List ℕ) {n r : ℕ} {k : Kind} → r ≡ from_be_bytes w32 four → r ≡ n → kind_of n ≡ k → k ≡ kind_of (u32_at four 0)
named four e h f = sym f ∙ ap kind_of (sym h ∙ e ∙ word_be four)

-- ---- the arm of a kind

found_by : (k : Kind) (ks : List Kind) (n : ℕ) (t : Bool) (a : Kind) → eqb n (signature_of k) ≡ t → cond t k (kind_in ks n) ≡ a → (kind_in ks n ≡ a → n ≡ signature_of a) → n ≡ signature_of a
found_by k ks n true a h e next = eqb-true n (signature_of k) h ∙ ap signature_of e
found_by k ks n false a h e next = next e

found : (ks : List Kind) (n : ℕ) (a : Kind) → (Other ≡ a → ⊥) → kind_in ks n ≡ a → n ≡ signature_of a
unfolding kind_in
found [] n a named e = absurd (named e)
found (k ∷ ks) n a named e = found_by k ks n (eqb n (signature_of k)) a refl e (found ks n a named)

-- the signature of the kind that was matched
pub arm : (n : ℕ) {k : Kind} (a : Kind) → (Other ≡ a → ⊥) → k ≡ kind_of n → k ≡ a → n ≡ signature_of a
unfolding kind_of
arm n a named h e = found kinds n a named (sym h ∙ e)

-- ---- the arm `_`

-- a kind's place among the variants
abbrev rank : Kind → ℕ
rank k = tag_of made.the_type k

abbrev every : (ℕ → Bool) → List ℕ → Bool
every f [] = true
every f (k ∷ ks) = f k && every f ks

fst : (a b : Bool) → a && b ≡ true → a ≡ true
fst true b e = refl
fst false b e = e

snd : (a b : Bool) → a && b ≡ true → b ≡ true
snd true b e = e
snd false b e = absurd (false≢true e)

passed : (f : ℕ → Bool) (ks : List ℕ) (n : ℕ) → every f ks ≡ true → OneOf ks n → f n ≡ true
passed f [] n e o = absurd o
passed f (k ∷ []) n e o = subst (λ (m : ℕ). f m ≡ true) (sym o) (fst (f k) true e)
passed f (k ∷ l ∷ ks) n e (inl o) = subst (λ (m : ℕ). f m ≡ true) (sym o) (fst (f k) (every f (l ∷ ks)) e)
passed f (k ∷ l ∷ ks) n e (inr o) = passed f (l ∷ ks) n (snd (f k) (every f (l ∷ ks)) e) o

-- the places of the kinds that have no arm of their own
abbrev taken : List Kind → ℕ → Bool
taken [] n = false
taken (a ∷ rest) n = eqb n (rank a) || taken rest n

abbrev left_of : List Kind → List ℕ → List ℕ
left_of arms [] = []
left_of arms (n ∷ ns) = cond (taken arms n) (left_of arms ns) (n ∷ left_of arms ns)

abbrev pub others : List Kind → List ℕ
others arms = left_of arms (0 ∷ 1 ∷ 2 ∷ 3 ∷ 4 ∷ 5 ∷ 6 ∷ 7 ∷ 8 ∷ 9 ∷ 10 ∷ 11 ∷ 12 ∷ 13 ∷ 14 ∷ 15 ∷ 16 ∷ [])

-- each signature names its kind
names : (a : Kind) → kind_of (signature_of a) ≡ a
unfolding kind_of kind_in signature_of
names Curv = refl
names Para = refl
names Mft1 = refl
names Mft2 = refl
names Mab = refl
names Mba = refl
names Mluc = refl
names Desc = refl
names Text = refl
names Xyz = refl
names Sf32 = refl
names Meas = refl
names View = refl
names Cicp = refl
names Sig = refl
names Dtim = refl
names Other = refl

-- none of the signatures that have an arm of their own: `places` are those of the other kinds, as the arm `_` has them
pub unlike : (n : ℕ) {k : Kind} (a : Kind) (places : List ℕ) → every (λ (m : ℕ). not (eqb m (rank a))) places ≡ true → k ≡ kind_of n → OneOf places (rank k) → n ≡ signature_of a → ⊥
unlike n {k} a places e h o s =
    let same : k ≡ a = h ∙ ap kind_of s ∙ names a in
    let off : not (eqb (rank k) (rank a)) ≡ true = passed (λ (m : ℕ). not (eqb m (rank a))) places (rank k) e o in
    let on : eqb (rank k) (rank a) ≡ true = eq-eqb (rank k) (rank a) (ap rank same) in
    false≢true (rw on at off)
