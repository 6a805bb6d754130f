-- Entries are numbered in the order in which the standard writes a grid: the entry of an index and a channel is the number of that channel in the
-- colour of that point. And any numbers, an entry for each output at each point, are the colours of the grid in that order.
-- Assumes nothing.
use Prim.Native.Nat.{ℕ, zero, suc, ◌+◌, ◌*◌, ◌<◌}
use native.Mathlib.Omega.{arith}
use native.Mathlib.Nat.{mul-le-mul_right}
use mathlib.Core.Path.{◌≡◌, refl, sym, ap, ◌∙◌}
use mathlib.Core.Bool.{true}
use mathlib.Core.List.{List, [], ◌∷◌, ◌++◌}
use lib.ListN.{length, get_or, take, drop, get_or-append, length-append, length-drop, take-append-drop}
use lib.Seq.{get_or-append-add, take_all, length-take-le, drop-drop}
use borrow.Author.Tests.{lt-ltb}
use Rattle.icc.specs.Grid.{InGrid, along, in_order_of, Coloured}
use Rattle.lut_clut_meaning.specs.Table.{product, in_grid, point_of}
use Rattle.lut_clut_meaning.proofs.Grid.{below, point_below}

-- ---- the points

pub in_grid_lem : (gs xs : List ℕ) → InGrid gs xs → in_grid gs xs ≡ true
unfolding InGrid in_grid
in_grid_lem [] [] h = refl
in_grid_lem [] (x ∷ xs) h = absurd h
in_grid_lem (g ∷ gs) [] h = absurd h
in_grid_lem (g ∷ gs) (x ∷ xs) (l, h) = rw (lt-ltb x g l) (in_grid_lem gs xs h)

-- ---- the order

-- of parts of one length, one behind the other, each stands at a multiple of the length
along_length : (g m : ℕ) (f : ℕ → List ℕ) → ((x : ℕ) → x < g → length (f x) ≡ m) → length (along g f) ≡ g * m
unfolding along
along_length zero m f h = omega arith
along_length (suc g) m f h = length-append (f 0) (along g (λ x. f (suc x))) ∙ omega (arith, h 0 (omega arith), along_length g m (λ x. f (suc x)) (λ x l. h (suc x) (omega arith)))

along_at : (g m : ℕ) (f : ℕ → List ℕ) → ((x : ℕ) → x < g → length (f x) ≡ m) → (x : ℕ) → x < g → (j : ℕ) → j < m → get_or (along g f) (x * m + j) 0 ≡ get_or (f x) j 0
unfolding along
along_at zero m f h x l j k = absurd (omega arith)
along_at (suc g) m f h zero l j k =
    let e : 0 * m + j ≡ j = omega arith in
    rw e (get_or-append (f 0) (along g (λ x. f (suc x))) 0 j (omega (arith, h 0 (omega arith))))
along_at (suc g) m f h (suc x) l j k =
    let e : suc x * m + j ≡ length (f 0) + (x * m + j) = omega (arith, h 0 (omega arith)) in
    rw e (get_or-append-add (f 0) (along g (λ x. f (suc x))) (x * m + j) 0 ∙ along_at g m (λ x. f (suc x)) (λ x l. h (suc x) (omega arith)) x (omega arith) j k)

order_length : (gs : List ℕ) (n : ℕ) (colour : List ℕ → List ℕ) → ((xs : List ℕ) → InGrid gs xs → length (colour xs) ≡ n) → length (in_order_of gs colour) ≡ product gs * n
unfolding in_order_of InGrid product
order_length [] n colour h = h [] tt ∙ omega arith
order_length (g ∷ gs) n colour h =
    along_length g (product gs * n) (λ x. in_order_of gs (λ xs. colour (x ∷ xs))) (λ x l. order_length gs n (λ xs. colour (x ∷ xs)) (λ xs i. h (x ∷ xs) (l, i))) ∙ omega arith

pub order_at : (gs : List ℕ) (n : ℕ) (colour : List ℕ → List ℕ) → ((xs : List ℕ) → InGrid gs xs → length (colour xs) ≡ n) → (xs : List ℕ) → InGrid gs xs → (k : ℕ) → k < n → get_or (in_order_of gs colour) (point_of gs xs * n + k) 0 ≡ get_or (colour xs) k 0
unfolding in_order_of InGrid point_of
order_at [] n colour h [] i k l = let e : 0 * n + k ≡ k = omega arith in rw e
order_at [] n colour h (x ∷ xs) i k l = absurd i
order_at (g ∷ gs) n colour h [] i k l = absurd i
order_at (g ∷ gs) n colour h (x ∷ xs) (m, i) k l =
    let inner : ℕ = point_of gs xs * n + k in
    let e : (x * product gs + point_of gs xs) * n + k ≡ x * (product gs * n) + inner = omega arith in
    let low : inner < product gs * n = below (point_of gs xs) (product gs) n k (point_below gs xs (in_grid_lem gs xs i)) l in
    rw e (along_at g (product gs * n) (λ x. in_order_of gs (λ xs. colour (x ∷ xs))) (λ x l. order_length gs n (λ xs. colour (x ∷ xs)) (λ xs i. h (x ∷ xs) (l, i))) x m inner low ∙ order_at gs n (λ xs. colour (x ∷ xs)) (λ xs i. h (x ∷ xs) (m, i)) xs i k l)

-- ---- any numbers are in that order

-- the numbers of a point, part by part
colour_in : (gs : List ℕ) (n : ℕ) (ns : List ℕ) → List ℕ → List ℕ
colour_in [] n ns xs = ns
colour_in (g ∷ gs) n ns [] = []
colour_in (g ∷ gs) n ns (x ∷ xs) = let m = product gs * n in colour_in gs n (take m (drop (x * m) ns)) xs

part_length : (g m x : ℕ) (ns : List ℕ) → length ns ≡ g * m → x < g → length (take m (drop (x * m) ns)) ≡ m
part_length g m x ns e l = length-take-le m (drop (x * m) ns) (omega (arith, length-drop (x * m) ns, mul-le-mul_right m l))

colour_length : (gs : List ℕ) (n : ℕ) (ns : List ℕ) → length ns ≡ product gs * n → (xs : List ℕ) → InGrid gs xs → length (colour_in gs n ns xs) ≡ n
unfolding colour_in InGrid product
colour_length [] n ns e [] i = omega arith
colour_length [] n ns e (x ∷ xs) i = absurd i
colour_length (g ∷ gs) n ns e [] i = absurd i
colour_length (g ∷ gs) n ns e (x ∷ xs) (l, i) =
    let m : ℕ = product gs * n in
    let all : length ns ≡ g * m = omega arith in
    colour_length gs n (take m (drop (x * m) ns)) (part_length g m x ns all l) xs i

-- parts that are the same, one behind the other, are the same
along_same : (g : ℕ) (f h : ℕ → List ℕ) → ((x : ℕ) → x < g → f x ≡ h x) → along g f ≡ along g h
unfolding along
along_same zero f h e = refl
along_same (suc g) f h e = rw (e 0 (omega arith), along_same g (λ x. f (suc x)) (λ x. h (suc x)) (λ x l. e (suc x) (omega arith)))

-- numbers are their parts of one length, one behind the other
parts : (g m : ℕ) (ns : List ℕ) → length ns ≡ g * m → ns ≡ along g (λ x. take m (drop (x * m) ns))
unfolding along
parts zero m ns e = sym (take_all 0 ns (omega arith))
parts (suc g) m ns e =
    let rest : List ℕ = drop m ns in
    let behind : length rest ≡ g * m = omega (arith, length-drop m ns) in
    let none_before : 0 * m ≡ 0 = omega arith in
    let first : drop (0 * m) ns ≡ ns = ap (λ (i : ℕ). drop i ns) none_before in
    let one_on : (x : ℕ) → m + x * m ≡ suc x * m = λ x. omega arith in
    let next : (x : ℕ) → x < g → take m (drop (x * m) rest) ≡ take m (drop (suc x * m) ns) = λ x l. ap (take m) (drop-drop (x * m) m ns ∙ ap (λ (i : ℕ). drop i ns) (one_on x)) in
    sym (take-append-drop m ns) ∙ ap (λ (r : List ℕ). take m ns ++ r) (parts g m rest behind ∙ along_same g _ _ next) ∙ ap (λ (r : List ℕ). take m r ++ along g (λ x. take m (drop (suc x * m) ns))) (sym first)

coloured : (gs : List ℕ) (n : ℕ) (ns : List ℕ) → length ns ≡ product gs * n → ns ≡ in_order_of gs (colour_in gs n ns)
unfolding in_order_of colour_in product
coloured [] n ns e = refl
coloured (g ∷ gs) n ns e =
    let m : ℕ = product gs * n in
    let all : length ns ≡ g * m = omega arith in
    parts g m ns all ∙ along_same g _ _ (λ x l. coloured gs n (take m (drop (x * m) ns)) (part_length g m x ns all l))

pub in_order : (gs : List ℕ) (n : ℕ) (ns : List ℕ) → length ns ≡ product gs * n → (colour : List ℕ → List ℕ) × Coloured gs n ns colour
in_order gs n ns e = (colour_in gs n ns, record { each_output = colour_length gs n ns e; written = coloured gs n ns e })
