-- What stands behind a value, for what each reader has besides the shared order.
-- Assumes nothing.
use Prim.Native.Nat.{ℕ, ◌+◌, ◌-◌, ◌/◌, ◌≤◌}
use mathlib.Core.Path.{◌≡◌}
use mathlib.Core.List.{List}
use lib.Dec.{ltb, eqb}
use lib.ListN.{length}
use borrow.Author.Tests.{ltb-false, eqb-true}
use Rattle.fields.specs.Bytes.{u32_at}
use Rattle.fields.specs.Place.{tag_at}
use Rattle.fields.specs.Tag.{signature_of}
use Rattle.fields.specs.declared.Kind.TheVariants.{Sf32}
use Rattle.fields.proofs.Choice.{each}
use Rattle.small_meaning.specs.Answer.{Answer, value}
use Rattle.small_meaning.specs.Layout.{nine_numbers, measurement, first_xyz}
use Rattle.small_meaning.specs.Small.{chad_matrix_of, chad_of, window_of, triple_of}
use Rattle.small_meaning.proofs.Order.{no_absence, no_refusal}

pub fields_are : {xs ws : List ℕ} → value xs ≡ value ws → xs ≡ ws
fields_are e = cc

-- a tag of nine numbers
pub record Nine (t ws : List ℕ) : Type 0 where
  pub signature : u32_at t 0 ≡ signature_of Sf32
  pub filled : length t ≡ 44
  pub given : nine_numbers t ≡ ws

pub matrix_behind : (t ws : List ℕ) → chad_matrix_of t ≡ value ws → Nine t ws
unfolding chad_matrix_of
matrix_behind t ws =
    let P : Answer → Type 0 = λ a. a ≡ value ws → Nine t ws in
    each P (eqb (u32_at t 0) (signature_of Sf32)) _ _
    (λ s. each P (eqb (length t) 44) _ _
    (λ l e. record { signature = eqb-true _ _ s; filled = eqb-true _ _ l; given = fields_are e })
    (λ _ e. absurd (no_refusal 17 ws e)))
    (λ _ e. absurd (no_refusal 17 ws e))

pub chad_behind : (p : List ℕ) (entry size : ℕ) (ws : List ℕ) → chad_of p entry size ≡ value ws → (entry + size ≤ length p) × Nine (tag_at p entry size) ws
unfolding chad_of
chad_behind p entry size ws =
    let P : Answer → Type 0 = λ a. a ≡ value ws → (entry + size ≤ length p) × Nine (tag_at p entry size) ws in
    each P (ltb (length p) (entry + size)) _ _ (λ _ e. absurd (no_refusal 1 ws e))
    (λ f. each P (ltb (length p) (entry + 8)) _ _ (λ _ e. absurd (no_refusal 1 ws e))
    (λ _. each P (ltb size 8) _ _ (λ _ e. absurd (no_absence ws e))
    (λ _. each P (eqb ((size - 8) / 4) 9) _ _ (λ _ e. (ltb-false _ _ f, matrix_behind (tag_at p entry size) ws e)) (λ _ e. absurd (no_absence ws e)))))

pub window_behind : (p : List ℕ) (entry : ℕ) (ws : List ℕ) → window_of p entry ≡ value ws → (entry + 36 ≤ length p) × (measurement (tag_at p entry 36) ≡ ws)
unfolding window_of
window_behind p entry ws =
    each (λ a. a ≡ value ws → (entry + 36 ≤ length p) × (measurement (tag_at p entry 36) ≡ ws)) (ltb (length p) (entry + 36)) _ _
    (λ _ e. absurd (no_refusal 1 ws e))
    (λ f e. (ltb-false _ _ f, fields_are e))

pub triple_behind : (t ws : List ℕ) → triple_of t ≡ value ws → (20 ≤ length t) × (first_xyz t ≡ ws)
unfolding triple_of
triple_behind t ws =
    each (λ a. a ≡ value ws → (20 ≤ length t) × (first_xyz t ≡ ws)) (ltb (length t) 20) _ _
    (λ _ e. absurd (no_refusal 2 ws e))
    (λ l e. (ltb-false _ _ l, fields_are e))
