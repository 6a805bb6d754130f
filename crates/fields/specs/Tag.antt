-- The kinds of tag and their type signatures (ICC.1:2022, clause 10; `desc` of ICC.1:2001-04).
use Rattle.std.specs.Prelude.{ℕ, cond, List, [], ◌∷◌, eqb}
use Rattle.fields.specs.declared.Kind.{Kind}
use Rattle.fields.specs.declared.Kind.TheVariants.{Curv, Para, Mft1, Mft2, Mab, Mba, Mluc, Desc, Text, Xyz, Sf32, Meas, View, Cicp, Sig, Dtim, Other}

-- the number that the four letters of a signature are; `Other` has none
unfoldable pub signature_of : Kind → ℕ
signature_of Curv = 0x63757276
signature_of Para = 0x70617261
signature_of Mft1 = 0x6d667431
signature_of Mft2 = 0x6d667432
signature_of Mab = 0x6d414220
signature_of Mba = 0x6d424120
signature_of Mluc = 0x6d6c7563
signature_of Desc = 0x64657363
signature_of Text = 0x74657874
signature_of Xyz = 0x58595a20
signature_of Sf32 = 0x73663332
signature_of Meas = 0x6d656173
signature_of View = 0x76696577
signature_of Cicp = 0x63696370
signature_of Sig = 0x73696720
signature_of Dtim = 0x6474696d
signature_of Other = 0

abbrev pub kinds : List Kind
kinds = Curv ∷ Para ∷ Mft1 ∷ Mft2 ∷ Mab ∷ Mba ∷ Mluc ∷ Desc ∷ Text ∷ Xyz ∷ Sf32 ∷ Meas ∷ View ∷ Cicp ∷ Sig ∷ Dtim ∷ []

-- the kind among these whose signature the number is
unfoldable pub kind_in : List Kind → ℕ → Kind
kind_in [] n = Other
kind_in (k ∷ ks) n = cond (eqb n (signature_of k)) k (kind_in ks n)

unfoldable pub kind_of : ℕ → Kind
kind_of n = kind_in kinds n
