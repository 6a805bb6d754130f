-- What holds of each element of a list: of a list that was mapped and appended to, and of one that may be left out.
-- Assumes nothing.
use mathlib.Core.Path.{◌≡◌, refl}
use mathlib.Core.Bool.{Bool, true, false, cond, true≢false}
use mathlib.Core.List.{List, [], ◌∷◌, ◌++◌, map}
use Rattle.icc.specs.Each.{Each}

pub each_more : {A : Type 0} (P Q : A → Type 0) → ((a : A) → P a → Q a) → (l : List A) → Each P l → Each Q l
unfolding Each
each_more P Q f [] e = tt
each_more P Q f (x ∷ l) e = (f x e.0, each_more P Q f l e.1)

pub each_pair : {A : Type 0} (P Q : A → Type 0) (l : List A) → Each P l → Each Q l → Each (λ a. P a × Q a) l
unfolding Each
each_pair P Q [] e f = tt
each_pair P Q (x ∷ l) e f = ((e.0, f.0), each_pair P Q l e.1 f.1)

-- of any element: of each
pub each_any : {A : Type 0} (P : A → Type 0) → ((a : A) → P a) → (l : List A) → Each P l
unfolding Each
each_any P f [] = tt
each_any P f (x ∷ l) = (f x, each_any P f l)

module _ {A B : Type 0} (P : B → Type 0) (h : A → B) where
  pub each_mapped : (l : List A) → Each P (map h l) → Each (λ a. P (h a)) l
  unfolding Each
  each_mapped [] e = tt
  each_mapped (x ∷ l) e = (e.0, each_mapped l e.1)

  pub each_map : (l : List A) → Each (λ a. P (h a)) l → Each P (map h l)
  unfolding Each
  each_map [] e = tt
  each_map (x ∷ l) e = (e.0, each_map l e.1)

module _ {A : Type 0} (P : A → Type 0) where
  pub each_first : (k l : List A) → Each P (k ++ l) → Each P k
  unfolding Each
  each_first [] l e = tt
  each_first (x ∷ k) l e = (e.0, each_first k l e.1)

  pub each_last : (k l : List A) → Each P (k ++ l) → Each P l
  unfolding Each
  each_last [] l e = e
  each_last (x ∷ k) l e = each_last k l e.1

  pub each_append : (k l : List A) → Each P k → Each P l → Each P (k ++ l)
  unfolding Each
  each_append [] l e f = f
  each_append (x ∷ k) l e f = (e.0, each_append k l e.1 f)

  -- a list that is left out where b holds
  pub each_unless : (b : Bool) (l : List A) → (b ≡ false → Each P l) → Each P (cond b [] l)
  unfolding Each
  each_unless true l f = tt
  each_unless false l f = f refl

  pub unless_each : (b : Bool) (l : List A) → Each P (cond b [] l) → b ≡ false → Each P l
  unless_each true l e z = absurd (true≢false z)
  unless_each false l e z = e
