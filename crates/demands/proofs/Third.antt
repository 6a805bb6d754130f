-- Demand 3 of every library that keeps the contracts: bytes, limits and slots each alone, along the readers' own theorems, then together.
-- Assumes nothing.
use Prim.Native.Nat.{ℕ, ◌≤◌, ◌<◌}
use native.Mathlib.Omega.{arith}
use mathlib.Core.Path.{◌≡◌, refl, sym, ap, subst, ◌∙◌}
use mathlib.Core.Bool.{Bool, true, false}
use mathlib.Core.List.{List, [], ◌++◌, append-nil, append_assoc}
use mathlib.Core.Logic.{◌⊎◌, inl, inr}
use lib.Dec.{ltb}
use lib.ListN.{length, drop, length-append}
use lib.Seq.{drop-append-le}
use borrow.Author.Tests.{ltb-true, ltb-false}
use Rattle.fields.specs.Refusals.{too_many_entries, too_few_slots, too_many_points}
use Rattle.fields.proofs.Never.{never}
use Rattle.fields.proofs.Grow.{Grows}
use Rattle.curve_meaning.specs.Answer.{Answer as Curve-as-Answer}
use Rattle.curve_meaning.specs.Curve.{trc_of}
use Rattle.curve_meaning.specs.declared.Walk.{Walk}
use Rattle.curve_meaning.proofs.Last.{trc_not_14}
use Rattle.curve_meaning.proofs.More.{Is as Curve-as-Is, short, more_bytes as curve-bytes, more_limit as curve_limit}
use Rattle.lut_meaning.specs.Answer.{State, mft, abm, absent as State·absent, refused as State·refused, Answer as Lut-as-Answer}
use Rattle.lut_meaning.specs.Lut.{lut_of}
use Rattle.lut_meaning.proofs.Found.{IsValue}
use Rattle.lut_meaning.proofs.Last.{fourteen_behind as lut-fourteen, enough as lut-enough}
use Rattle.lut_meaning.proofs.More.{Is as Lut-as-Is, more_bytes as lut-bytes, more_limit as lut-limit, more_points as lut-points, more_slots as lut-slots, value_stays as lut-stays}
use Rattle.small_meaning.specs.Answer.{Answer as Small-as-Answer}
use Rattle.small_meaning.proofs.Last.{small_not_14}
use Rattle.small_meaning.proofs.More.{small_more}
use Rattle.text_meaning.specs.Answer.{Answer as Text-as-Answer, slots_with as Text·slotsWith}
use Rattle.text_meaning.specs.Mluc.{records_in, words_in}
use Rattle.text_meaning.proofs.Found.{Value, found}
use Rattle.text_meaning.proofs.Last.{fourteen_behind as text-fourteen, enough as text-enough}
use Rattle.text_meaning.proofs.More.{more_bytes as text-bytes, more_slots as text-slots, value_stays as text-stays}
use Rattle.text_meaning.proofs.Shared.{words_length}
use Rattle.text_meaning.proofs.Taken.{Taken, mluc_room, accepted}
use Rattle.demands.specs.Readers.{Reader, lut, trc, string, small, Call, meaning, slots_after, Outcome, value, default, absent, refused, outcome, lut_outcome, curve_outcome, small_outcome, text_outcome, Library, ends, Promised}
use Rattle.demands.specs.Demands.{tag, with_bytes, with_limits, with_slots, Same, ByBytes, ByLimits, BySlots, words_asked, Demand3, with_all}
use Rattle.demands.proofs.Ends.{Spares, slots_spared, ends_so}
use Rattle.demands.proofs.Evaluations.{tag_bytes_lem, more_words, words_short, words_last, results_stay}
use Rattle.demands.proofs.Second.{unique}

-- ---- the meanings: what is said stays, or is of the kind that may change

by_bytes : (r : Reader) (c : Call) (q : List ℕ) → ByBytes r c (outcome r (meaning r c)) ⊎ (meaning r (with_bytes q c) ≡ meaning r c)
by_bytes (lut walk) c q = elim (lut-bytes walk c.entries c.points c.profile q c.entry c.size (length c.slots)) [
  | inl e ↦ inl (inl (ap lut_outcome e))
  | inr e ↦ inr e
]
by_bytes (trc walk) c q = elim (curve-bytes walk c.entries c.profile q c.entry c.size) [
  | inl s ↦ inl (inr record { tone_curve = refl; is_absent = ap curve_outcome (short walk c.entries c.profile c.entry c.size s.four); four = s.four; sized = s.sized })
  | inr (inl e) ↦ inl (inl (ap curve_outcome e))
  | inr (inr e) ↦ inr e
]
by_bytes string c q = elim (text-bytes c.profile q c.entry c.size (length c.slots)) [
  | inl e ↦ inl (inl (ap text_outcome e))
  | inr e ↦ inr e
]
by_bytes (small s) c q = elim (small_more c.profile q c.entry c.size s) [
  | inl e ↦ inl (inl (ap small_outcome e))
  | inr e ↦ inr e
]

-- a limit that is not raised changes nothing
by_limit : {A : Type 0} (Loose : A → Type 0) (answer : ℕ → A) (low high : ℕ) → low ≤ high → Grows Loose (answer low) (answer high) → ((low < high) × Loose (answer low)) ⊎ (answer high ≡ answer low)
by_limit Loose answer low high h (inr e) = inr e
by_limit Loose answer low high h (inl e) = by (ltb low high) refl
  where
    by : (b : Bool) → ltb low high ≡ b → ((low < high) × Loose (answer low)) ⊎ (answer high ≡ answer low)
    by true l = inl (ltb-true low high l, e)
    by false l = let same : high ≡ low = omega (arith, ltb-false low high l) in inr (ap answer same)

by_limits : (r : Reader) (c : Call) (entries points : ℕ) → c.entries ≤ entries → c.points ≤ points → ByLimits c entries points (outcome r (meaning r c)) ⊎ (meaning r (with_limits entries points c) ≡ meaning r c)
by_limits (lut walk) c entries points h k = elim (by_limit (Lut-as-Is too_many_entries) (λ n. lut_of walk n c.points c.profile c.entry c.size (length c.slots)) c.entries entries h (lut-limit walk c.entries entries h c.points c.profile c.entry c.size (length c.slots))) [
  | inl e ↦ inl (inl (e.0, ap lut_outcome e.1))
  | inr e ↦ elim (by_limit (Lut-as-Is too_many_points) (λ n. lut_of walk entries n c.profile c.entry c.size (length c.slots)) c.points points k (lut-points walk entries c.points points k c.profile c.entry c.size (length c.slots))) [
    | inl f ↦ inl (inr (f.0, ap lut_outcome (ap (λ (a : Lut-as-Answer). a.state) (sym e) ∙ f.1)))
    | inr f ↦ inr (f ∙ e)
  ]
]
by_limits (trc walk) c entries points h k = elim (by_limit (Curve-as-Is too_many_entries) (λ n. trc_of walk n c.profile c.entry c.size) c.entries entries h (curve_limit walk c.entries entries c.profile c.entry c.size h)) [
  | inl e ↦ inl (inl (e.0, ap curve_outcome e.1))
  | inr e ↦ inr e
]
by_limits string c entries points h k = inr refl
by_limits (small s) c entries points h k = inr refl

more_room : (s x : List ℕ) → length s ≤ length (s ++ x)
more_room s x = simp length-append (omega arith)

by_slots : (r : Reader) (c : Call) (x : List ℕ) → BySlots (outcome r (meaning r c)) ⊎ (meaning r (with_slots x c) ≡ meaning r c)
by_slots (lut walk) c x = elim (lut-slots walk c.entries c.points (length c.slots) (length (c.slots ++ x)) (more_room c.slots x) c.profile c.entry c.size) [
  | inl e ↦ inl (ap lut_outcome e)
  | inr e ↦ inr e
]
by_slots (trc walk) c x = inr refl
by_slots string c x = elim (text-slots (length c.slots) (length (c.slots ++ x)) (more_room c.slots x) c.profile c.entry c.size) [
  | inl e ↦ inl (ap text_outcome e)
  | inr e ↦ inr e
]
by_slots (small s) c x = inr refl

-- ---- the refusal for too few slots comes last

lut_valued : (s : State) → IsValue s → lut_outcome s ≡ value
unfolding IsValue
lut_valued (mft f) v = refl
lut_valued (abm f) v = refl
lut_valued State·absent v = absurd v
lut_valued (State·refused n) v = absurd v

lut_refused : (s : State) (n : ℕ) → lut_outcome s ≡ refused n → s ≡ State·refused n
lut_refused (mft f) n e = never cc
lut_refused (abm f) n e = never cc
lut_refused State·absent n e = never cc
lut_refused (State·refused m) n e = let same : m ≡ n = cc in ap State·refused same

curve_refused : (a : Curve-as-Answer) (n : ℕ) → curve_outcome a ≡ refused n → a ≡ Curve-as-Answer.refused n
curve_refused (Curve-as-Answer.value ws k) n e = never cc
curve_refused Curve-as-Answer.absent n e = never cc
curve_refused (Curve-as-Answer.refused m) n e = let same : m ≡ n = cc in ap Curve-as-Answer.refused same

small_refused : (a : Small-as-Answer) (n : ℕ) → small_outcome a ≡ refused n → a ≡ Small-as-Answer.refused n
small_refused (Small-as-Answer.value ws) n e = never cc
small_refused Small-as-Answer.default n e = never cc
small_refused Small-as-Answer.absent n e = never cc
small_refused (Small-as-Answer.refused m) n e = let same : m ≡ n = cc in ap Small-as-Answer.refused same

text_refused : (a : Text-as-Answer) (n : ℕ) → text_outcome a ≡ refused n → a ≡ Text-as-Answer.refused n
text_refused (Text-as-Answer.text s) n e = never cc
text_refused (Text-as-Answer.desc s u) n e = never cc
text_refused (Text-as-Answer.mluc k) n e = never cc
text_refused Text-as-Answer.absent n e = never cc
text_refused (Text-as-Answer.refused m) n e = let same : m ≡ n = cc in ap Text-as-Answer.refused same

record TooFew (r : Reader) (c : Call) : Type 0 where
  short : length c.slots < words_asked r c
  last : (x : List ℕ) → words_asked r c ≤ length (c.slots ++ x) → outcome r (meaning r (with_slots x c)) ≡ value

too_few : (r : Reader) (c : Call) → outcome r (meaning r c) ≡ refused too_few_slots → TooFew r c
too_few (lut walk) c h =
    let w = lut-fourteen walk c.entries c.points c.profile c.entry c.size (length c.slots) (lut_refused (meaning (lut walk) c).state too_few_slots h) in
    record {
      short = omega (arith, w.few);
      last = λ x room. lut_valued _ (lut-enough walk c.entries c.points c.profile c.entry c.size (length c.slots) w (length (c.slots ++ x)) (omega (arith, room)));
    }
too_few (trc walk) c h = absurd (trc_not_14 walk c.entries c.profile c.entry c.size (curve_refused (meaning (trc walk) c) too_few_slots h))
too_few string c h =
    let w = text-fourteen c.profile c.entry c.size (length c.slots) (text_refused (meaning string c) too_few_slots h) in
    record {
      short = omega (arith, w.few);
      last = λ x room. ap text_outcome (text-enough c.profile c.entry c.size (length c.slots) w (length (c.slots ++ x)) (omega (arith, room)));
    }
too_few (small s) c h = absurd (small_not_14 s c.profile c.entry c.size (small_refused (meaning (small s) c) too_few_slots h))

-- ---- the slots

-- of a value every word is left as before, and those lent besides stay
lut_slots_stay : (walk : Walk) (c : Call) (q : List ℕ) (entries points : ℕ) (x : List ℕ) → c.entries ≤ entries → c.points ≤ points → outcome (lut walk) (meaning (lut walk) c) ≡ value → slots_after (lut walk) (with_all q entries points x c) ≡ slots_after (lut walk) c ++ x
unfolding IsValue
lut_slots_stay walk c q entries points x h k v =
    (lut-stays walk c.entries entries h c.points points k c.profile q c.entry c.size c.slots x (by (meaning (lut walk) c).state v)).slots_stay
  where
    by : (s : State) → lut_outcome s ≡ value → IsValue s
    by (mft f) e = tt
    by (abm f) e = tt
    by State·absent e = never cc
    by (State·refused n) e = never cc

is_value : (a : Text-as-Answer) → text_outcome a ≡ value → Value a
is_value (Text-as-Answer.text s) e = tt
is_value (Text-as-Answer.desc s u) e = tt
is_value (Text-as-Answer.mluc n) e = tt
is_value Text-as-Answer.absent e = never cc
is_value (Text-as-Answer.refused n) e = never cc

text_slots_stay : (c : Call) (q x : List ℕ) → outcome string (meaning string c) ≡ value → slots_after string (with_slots x (with_bytes q c)) ≡ slots_after string c ++ x
text_slots_stay c q x v =
    let h = text-stays c.profile q c.entry c.size (length c.slots) (length (c.slots ++ x)) (more_room c.slots x) (is_value (meaning string c) v) in
    rw (h.answer_stays, h.records_stay) (by (meaning string c) refl)
  where
    by : (a : Text-as-Answer) → meaning string c ≡ a → let ws : List ℕ = words_in (records_in (tag c)).records in Text·slotsWith a ws (c.slots ++ x) ≡ Text·slotsWith a ws c.slots ++ x
    by (Text-as-Answer.text s) e = refl
    by (Text-as-Answer.desc s u) e = refl
    by (Text-as-Answer.mluc n) e =
        let ws : List ℕ = words_in (records_in (tag c)).records in
        let taken : Taken (tag c) (Text-as-Answer.mluc n) = subst (Taken (tag c)) e (accepted c.profile c.entry c.size (length c.slots) (is_value (meaning string c) v)).laid in
        let fits : length ws ≤ length c.slots = omega (arith, words_length (records_in (tag c)).records, mluc_room (tag c) (records_in (tag c)).records (length c.slots) n taken.taken (sym (found c.profile c.entry c.size (length c.slots) (is_value (meaning string c) v)).as_tag ∙ e)) in
        rw (drop-append-le (length ws) c.slots x fits) (sym (append_assoc ws (drop (length ws) c.slots) x))
    by Text-as-Answer.absent e = refl
    by (Text-as-Answer.refused n) e = refl

slots_grow : (r : Reader) (c : Call) (q : List ℕ) (entries points : ℕ) (x : List ℕ) → c.entries ≤ entries → c.points ≤ points → outcome r (meaning r c) ≡ value → slots_after r (with_all q entries points x c) ≡ slots_after r c ++ x
slots_grow (lut walk) c q entries points x h k v = lut_slots_stay walk c q entries points x h k v
slots_grow (trc walk) c q entries points x h k v = refl
slots_grow string c q entries points x h k v = text_slots_stay c q x v
slots_grow (small s) c q entries points x h k v = refl

-- where the same is said, the slots are left the same: a value's as above, and all others as they were lent
left_stays : (r : Reader) (c : Call) (q : List ℕ) (entries points : ℕ) (x : List ℕ) → c.entries ≤ entries → c.points ≤ points → meaning r (with_all q entries points x c) ≡ meaning r c → slots_after r (with_all q entries points x c) ≡ slots_after r c ++ x
left_stays r c q entries points x h k e = by (outcome r (meaning r c)) refl
  where
    spared : Spares (outcome r (meaning r c)) → slots_after r (with_all q entries points x c) ≡ slots_after r c ++ x
    spared s =
        slots_spared r (with_all q entries points x c) (subst Spares (ap (outcome r) (sym e)) s) ∙ ap (λ (w : List ℕ). w ++ x) (sym (slots_spared r c s))

    by : (o : Outcome) → outcome r (meaning r c) ≡ o → slots_after r (with_all q entries points x c) ≡ slots_after r c ++ x
    by value f = slots_grow r c q entries points x h k f
    by default f = spared (subst Spares (sym f) tt)
    by absent f = spared (subst Spares (sym f) tt)
    by (refused n) f = spared (subst Spares (sym f) tt)

-- ---- of a library that keeps the contracts

-- a value and a default are not of the kind that may change
fixed : (r : Reader) (c : Call) (entries points : ℕ) (o : Outcome) → (o ≡ absent → ⊥) → ((n : ℕ) → o ≡ refused n → ⊥) → ByBytes r c o ⊎ ByLimits c entries points o ⊎ BySlots o → ⊥
fixed r c entries points o a b (inl (inl e)) = b _ e
fixed r c entries points o a b (inl (inr w)) = a w.is_absent
fixed r c entries points o a b (inr (inl (inl e))) = b _ e.1
fixed r c entries points o a b (inr (inl (inr e))) = b _ e.1
fixed r c entries points o a b (inr (inr e)) = b _ e

module _ (l : Library) (p : Promised l) where
  same : (r : Reader) (c d : Call) (x : List ℕ) → meaning r d ≡ meaning r c → slots_after r d ≡ slots_after r c ++ x → Same l r c d x
  same r c d x e f =
      record {
        result = unique r (meaning r c) (l.returns r d) (l.returns r c) (p.answers r d ∙ e) (p.answers r c);
        slots = p.leaves_so r d ∙ f ∙ ap (λ (w : List ℕ). w ++ x) (sym (p.leaves_so r c));
      }

  -- a call that is given all three is one that is given some, if the others are none
  alone : (r : Reader) (c d : Call) (q : List ℕ) (entries points : ℕ) (x : List ℕ) → c.entries ≤ entries → c.points ≤ points → with_all q entries points x c ≡ d → meaning r d ≡ meaning r c → Same l r c d x
  alone r c d q entries points x h k e f = same r c d x f (sym (ap (slots_after r) e) ∙ left_stays r c q entries points x h k (ap (meaning r) e ∙ f))

  bytes : (r : Reader) (c : Call) (q : List ℕ) → ByBytes r c (ends l r c) ⊎ Same l r c (with_bytes q c) []
  bytes r c q = elim (by_bytes r c q) [
    | inl e ↦ inl (subst (ByBytes r c) (sym (ends_so l p r c)) e)
    | inr e ↦ inr (alone r c (with_bytes q c) q c.entries c.points [] (omega arith) (omega arith) (λ i. record { profile = c.profile ++ q; entry = c.entry; size = c.size; entries = c.entries; points = c.points; slots = append-nil c.slots i }) e)
  ]

  limits : (r : Reader) (c : Call) (entries points : ℕ) → c.entries ≤ entries → c.points ≤ points → ByLimits c entries points (ends l r c) ⊎ Same l r c (with_limits entries points c) []
  limits r c entries points h k = elim (by_limits r c entries points h k) [
    | inl e ↦ inl (subst (ByLimits c entries points) (sym (ends_so l p r c)) e)
    | inr e ↦ inr (alone r c (with_limits entries points c) [] entries points [] h k (λ i. record { profile = append-nil c.profile i; entry = c.entry; size = c.size; entries = entries; points = points; slots = append-nil c.slots i }) e)
  ]

  slots : (r : Reader) (c : Call) (x : List ℕ) → BySlots (ends l r c) ⊎ Same l r c (with_slots x c) x
  slots r c x = elim (by_slots r c x) [
    | inl e ↦ inl (subst BySlots (sym (ends_so l p r c)) e)
    | inr e ↦ inr (alone r c (with_slots x c) [] c.entries c.points x (omega arith) (omega arith) (λ i. record { profile = append-nil c.profile i; entry = c.entry; size = c.size; entries = c.entries; points = c.points; slots = c.slots ++ x }) e)
  ]

  too_few_short : (r : Reader) (c : Call) → ends l r c ≡ refused too_few_slots → length c.slots < words_asked r c
  too_few_short r c h = (too_few r c (sym (ends_so l p r c) ∙ h)).short

  too_few_last : (r : Reader) (c : Call) (x : List ℕ) → ends l r c ≡ refused too_few_slots → words_asked r c ≤ length (c.slots ++ x) → ends l r (with_slots x c) ≡ value
  too_few_last r c x h room = ends_so l p r (with_slots x c) ∙ (too_few r c (sym (ends_so l p r c) ∙ h)).last x room

  all : (r : Reader) (c : Call) (q : List ℕ) (entries points : ℕ) (x : List ℕ) → c.entries ≤ entries → c.points ≤ points → (ByBytes r c (ends l r c) ⊎ ByLimits c entries points (ends l r c) ⊎ BySlots (ends l r c)) ⊎ Same l r c (with_all q entries points x c) x
  all r c q entries points x h k =
      let said = sym (ends_so l p r c) in
      elim (by_bytes r c q) [
        | inl e ↦ inl (inl (subst (ByBytes r c) said e))
        | inr e ↦ elim (by_limits r (with_bytes q c) entries points h k) [
          | inl f ↦ inl (inr (inl (subst (ByLimits c entries points) (ap (outcome r) e ∙ said) f)))
          | inr f ↦ elim (by_slots r (with_limits entries points (with_bytes q c)) x) [
            | inl g ↦ inl (inr (inr (subst BySlots (ap (outcome r) (f ∙ e) ∙ said) g)))
            | inr g ↦ inr (alone r c _ q entries points x h k refl (g ∙ f ∙ e))
          ]
        ]
      ]

  -- what is not of the kind that may change stays
  stays : (r : Reader) (c : Call) (q : List ℕ) (entries points : ℕ) (x : List ℕ) → c.entries ≤ entries → c.points ≤ points → (ends l r c ≡ absent → ⊥) → ((n : ℕ) → ends l r c ≡ refused n → ⊥) → Same l r c (with_all q entries points x c) x
  stays r c q entries points x h k a b = elim (all r c q entries points x h k) [
    | inl e ↦ absurd (fixed r c entries points (ends l r c) a b e)
    | inr s ↦ s
  ]

  pub demand3 : Demand3 l
  demand3 =
      record {
        bytes = bytes;
        limits = limits;
        slots = slots;
        too_few_short = too_few_short;
        too_few_last = too_few_last;
        all = all;
        value_stays = λ r c q entries points x h k e. stays r c q entries points x h k (λ f. never cc) (λ n f. never cc);
        default_stays = λ r c q entries points x h k e. stays r c q entries points x h k (λ f. never cc) (λ n f. never cc);
        tag_bytes_lem = tag_bytes_lem l p;
        more_words = more_words l p;
        words_short = words_short l p;
        words_last = words_last l p;
        results_stay = results_stay l p;
      }
