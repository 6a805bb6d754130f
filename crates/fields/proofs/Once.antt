-- A result that can be had back from its numbers is determined by them: two results with the same numbers are one.
-- Assumes nothing.
use mathlib.Core.Path.{◌≡◌, sym, ap, ◌∙◌}

pub once : {R A : Type 0} (numbers : R → A) (result : A → R) → ((r : R) → result (numbers r) ≡ r) → (a : A) (r s : R) → numbers r ≡ a → numbers s ≡ a → r ≡ s
once numbers result back a r s p q = sym (back r) ∙ ap result (p ∙ sym q) ∙ back s
