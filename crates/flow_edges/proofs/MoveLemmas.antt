-- The edges of a value that moves, leaf by leaf.
use Rattle.std.proofs.Common.{◌≡◌, ◌∙◌, ◌≤◌, ◌<◌, ◌-◌, ◌+◌, ◌*◌, ℕ, zero, suc, refl, ap, sym, arith, Bool, true, false, List, [], ◌∷◌, ◌++◌, length, length-append, append_assoc, append-nil, mul_assoc}
use native.Mathlib.Nat.{mul_comm, suc-mul, zero-mul}
use Rattle.std.specs.Prelude.{if◌then◌else◌}
use Rattle.std.specs.List.{flat_map, range_with_len}
use Rattle.pt_base.specs.declared.slot.Edge.{Edge}
use Rattle.flow_edges.specs.Moves.{Move, edge_between, edges_between, edges_from, leaf_edges, move_edges}

-- one more leaf of several
pub next_leaf : (m : Move) (xs new whole : List Edge) (n j : ℕ) → j < n → new ≡ xs ++ leaf_edges m j →
    xs ++ flat_map (leaf_edges m) (range_with_len j (n - j)) ≡ whole →
    new ++ flat_map (leaf_edges m) (range_with_len (j + 1) (n - (j + 1))) ≡ whole
next_leaf m xs new whole n j lt added e =
    let is : n - j ≡ suc (n - (j + 1)) = omega (arith, lt) in
    ap (λ ys. ys ++ flat_map (leaf_edges m) (range_with_len (j + 1) (n - (j + 1)))) added
    ∙ append_assoc xs (leaf_edges m j) (flat_map (leaf_edges m) (range_with_len (j + 1) (n - (j + 1))))
    ∙ ap (λ k. xs ++ flat_map (leaf_edges m) (range_with_len j k)) (sym is) ∙ e

-- all of them
pub all_leaves : (m : Move) (xs whole : List Edge) (n j : ℕ) → n ≤ j → xs ++ flat_map (leaf_edges m) (range_with_len j (n - j)) ≡ whole → xs ≡ whole
all_leaves m xs whole n j le e =
    let is : n - j ≡ zero = omega (arith, le) in
    sym (append-nil xs) ∙ ap (λ k. xs ++ flat_map (leaf_edges m) (range_with_len j k)) (sym is) ∙ e

nothing_each : {X : Type 0} (f : X → List Edge) → ((x : X) → f x ≡ []) → (xs : List X) → flat_map f xs ≡ []
nothing_each f none [] = refl
nothing_each f none (x ∷ xs) = ap (λ ys. ys ++ flat_map f xs) (none x) ∙ nothing_each f none xs

-- nothing moves that comes from nowhere
pub nothing_from : (m : Move) → m.from ≡ [] → move_edges m ≡ []
nothing_from m e = nothing_each (leaf_edges m) (λ j. ap (flat_map (edges_from m j)) e) (range_with_len 0 m.leaves)

-- nor what goes nowhere
pub nothing_to : (m : Move) → m.to ≡ [] → move_edges m ≡ []
nothing_to m e =
    nothing_each (leaf_edges m) (λ j. nothing_each (edges_from m j) (λ a. ap (flat_map (λ b. edges_between m (a + j) (b + j))) e) m.from) (range_with_len 0 m.leaves)

no_items : (xs : List ℕ) → length xs ≡ 0 → xs ≡ []
no_items [] h = refl
no_items (x ∷ xs) h = absurd (omega (arith, h))

pub adds_nothing_from : (old : List Edge) (m : Move) → length m.from ≡ 0 → old ≡ old ++ move_edges m
adds_nothing_from old m h = sym (append-nil old) ∙ ap (λ ys. old ++ ys) (sym (nothing_from m (no_items m.from h)))

pub adds_nothing_to : (old : List Edge) (m : Move) → length m.to ≡ 0 → old ≡ old ++ move_edges m
adds_nothing_to old m h = sym (append-nil old) ∙ ap (λ ys. old ++ ys) (sym (nothing_to m (no_items m.to h)))

-- ---- how many edges a value that moves has

-- there and back
abbrev ways : Move → ℕ
ways m = if m.back then 2 else 1

between_count : (m : Move) (a b : ℕ) → length (edges_between m a b) ≡ ways m
between_count m a b = go m.back
  where
    go : (back : Bool) → length (edge_between m.span a b ∷ (if back then edge_between m.span b a ∷ [] else [])) ≡ (if back then 2 else 1)
    go true = refl
    go false = refl

-- each gives as many
each_count : {X : Type 0} (f : X → List Edge) (k : ℕ) → ((x : X) → length (f x) ≡ k) → (xs : List X) → length (flat_map f xs) ≡ length xs * k
each_count f k all [] = sym (zero-mul k)
each_count f k all (x ∷ xs) =
    let rest : length (flat_map f xs) ≡ length xs * k = each_count f k all xs in
    let first : length (f x) ≡ k = all x in
    let both : length (f x ++ flat_map f xs) ≡ length xs * k + k = omega (arith, length-append (f x) (flat_map f xs), rest, first) in
    both ∙ sym (suc-mul (length xs) k)

range_count : (n from : ℕ) → length (range_with_len from n) ≡ n
range_count zero from = refl
range_count (suc n) from = ap suc (range_count n (from + 1))

pub count_is : (m : Move) → length (move_edges m) ≡ m.leaves * (length m.from * (length m.to * ways m))
count_is m =
    each_count (leaf_edges m) (length m.from * (length m.to * ways m))
    (λ j. each_count (edges_from m j) (length m.to * ways m) (λ a. each_count (λ b. edges_between m (a + j) (b + j)) (ways m) (λ b. between_count m (a + j) (b + j)) m.to) m.from)
    (range_with_len 0 m.leaves)
    ∙ ap (λ n. n * (length m.from * (length m.to * ways m))) (range_count m.leaves 0)

-- as they are counted
pub counted : (m : Move) (n : ℕ) → n ≡ length m.from * length m.to * m.leaves * (if m.back then 2 else 1) → n ≡ length (move_edges m)
counted m n is =
    is
    ∙ ap (λ k. k * ways m) (mul_comm (length m.from * length m.to) m.leaves)
    ∙ mul_assoc m.leaves (length m.from * length m.to) (ways m)
    ∙ ap (λ k. m.leaves * k) (mul_assoc (length m.from) (length m.to) (ways m))
    ∙ sym (count_is m)
