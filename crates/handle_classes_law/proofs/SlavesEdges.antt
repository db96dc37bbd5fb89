-- What edges that marks are closed under say of values that move.
use Rattle.std.proofs.Common.{◌≡◌, ◌∙◌, ◌<◌, ℕ, zero, suc, ◌+◌, refl, ap, sym, subst, arith, Bool, true, false, List, [], ◌∷◌, ◌++◌, if◌then◌else◌}
use Rattle.std.specs.Prelude.{◌&&◌, ◌||◌, not, nat_eq, cond}
use Rattle.std.specs.List.{list_any, list_all, filter, flat_map, range_with_len}
use Rattle.std.proofs.lemmas.Bool.{and_from}
use Rattle.pt_base.specs.declared.slot.Edge.{Edge}
use Rattle.pt_base.proofs.Booleans.{and_true_first, and_true_second, false_not_true}
use Rattle.pt_base.proofs.Numbers.{nat_eq_same}
use Rattle.typed_tree.specs.ExpressionTree as src
use Rattle.flow_edges.specs.Moves.{Move, first_of_each, edges_between, edges_from, leaf_edges, move_edges}
use Rattle.flow_edges.specs.Edges.{moved_to}
use Rattle.handle_classes_law.proofs.SlavesBench.{Bench, seen}

-- ---- edges

-- with its start an edge has its end
abbrev pub AreClosed : (ℕ → Bool) → List Edge → Type 0
AreClosed m [] = Unit {0}
AreClosed m (e ∷ es) = (m e.from.0 ≡ true → m e.to.0 ≡ true) × AreClosed m es

pub closed_first : (m : ℕ → Bool) (xs ys : List Edge) → AreClosed m (xs ++ ys) → AreClosed m xs
closed_first m [] ys h = tt
closed_first m (x ∷ xs) ys h = (h.0, closed_first m xs ys h.1)

pub closed_rest : (m : ℕ → Bool) (xs ys : List Edge) → AreClosed m (xs ++ ys) → AreClosed m ys
closed_rest m [] ys h = h
closed_rest m (x ∷ xs) ys h = closed_rest m xs ys h.1

-- one of two
pub either : {R : Type 0} (a c : Bool) → (a || c) ≡ true → (a ≡ true → R) → (c ≡ true → R) → R
either true c h f g = f refl
either false c h f g = g h

-- a marked leaf marks the same leaf of all targets
flow_from : (m : ℕ → Bool) (v : Move) (j a : ℕ) (to : List ℕ) → AreClosed m (flat_map (λ t. edges_between v (a + j) (t + j)) to) → m (a + j) ≡ true → list_all (λ t. m (t + j)) to ≡ true
flow_from m v j a [] h is = refl
flow_from m v j a (t ∷ ts) h is =
    and_from (m (t + j)) (list_all (λ z. m (z + j)) ts) ((closed_first m (edges_between v (a + j) (t + j)) (flat_map (λ z. edges_between v (a + j) (z + j)) ts) h).0 is)
    (flow_from m v j a ts (closed_rest m (edges_between v (a + j) (t + j)) (flat_map (λ z. edges_between v (a + j) (z + j)) ts) h) is)

flow_leaf : (m : ℕ → Bool) (v : Move) (j : ℕ) (from : List ℕ) → AreClosed m (flat_map (edges_from v j) from) → list_any (λ s. m (s + j)) from ≡ true → list_all (λ t. m (t + j)) v.to ≡ true
flow_leaf m v j [] h is = false_not_true is
flow_leaf m v j (a ∷ xs) h is =
    either (m (a + j)) (list_any (λ s. m (s + j)) xs) is (flow_from m v j a v.to (closed_first m (edges_from v j a) (flat_map (edges_from v j) xs) h))
    (λ k. flow_leaf m v j xs (closed_rest m (edges_from v j a) (flat_map (edges_from v j) xs) h) k)

-- and backwards, where what is behind a pointer moves
back_edge : (m : ℕ → Bool) (v : Move) (a t : ℕ) → v.back ≡ true → AreClosed m (edges_between v a t) → m t ≡ true → m a ≡ true
back_edge m v a t back h is = (subst (λ z. AreClosed m (if z then record { from = record { 0 = t }; to = record { 0 = a }; span = v.span } ∷ [] else [])) back h.1).0 is

back_from : (m : ℕ → Bool) (v : Move) (j a : ℕ) (to : List ℕ) → v.back ≡ true → AreClosed m (flat_map (λ t. edges_between v (a + j) (t + j)) to) → list_any (λ t. m (t + j)) to ≡ true → m (a + j) ≡ true
back_from m v j a [] back h is = false_not_true is
back_from m v j a (t ∷ ts) back h is =
    either (m (t + j)) (list_any (λ z. m (z + j)) ts) is (back_edge m v (a + j) (t + j) back (closed_first m (edges_between v (a + j) (t + j)) (flat_map (λ z. edges_between v (a + j) (z + j)) ts) h))
    (λ k. back_from m v j a ts back (closed_rest m (edges_between v (a + j) (t + j)) (flat_map (λ z. edges_between v (a + j) (z + j)) ts) h) k)

back_leaf : (m : ℕ → Bool) (v : Move) (j : ℕ) (from : List ℕ) → v.back ≡ true → AreClosed m (flat_map (edges_from v j) from) → list_any (λ t. m (t + j)) v.to ≡ true → list_all (λ s. m (s + j)) from ≡ true
back_leaf m v j [] back h is = refl
back_leaf m v j (a ∷ xs) back h is =
    and_from (m (a + j)) (list_all (λ s. m (s + j)) xs) (back_from m v j a v.to back (closed_first m (edges_from v j a) (flat_map (edges_from v j) xs) h) is)
    (back_leaf m v j xs back (closed_rest m (edges_from v j a) (flat_map (edges_from v j) xs) h) is)

in_range : (m : ℕ → Bool) (make : ℕ → List Edge) (start n j : ℕ) → AreClosed m (flat_map make (range_with_len start n)) → j < n → AreClosed m (make (start + j))
in_range m make start zero j h less = absurd (omega (arith, less))
in_range m make start (suc n) zero h less = subst (λ z. AreClosed m (make z)) (let e : start ≡ start + 0 = omega arith in e) (closed_first m (make start) (flat_map make (range_with_len (start + 1) n)) h)
in_range m make start (suc n) (suc j) h less = subst (λ z. AreClosed m (make z)) (let e : start + 1 + j ≡ start + suc j = omega arith in e) (in_range m make (start + 1) n j (closed_rest m (make start) (flat_map make (range_with_len (start + 1) n)) h) (omega (arith, less)))

leaf_closed : (m : ℕ → Bool) (v : Move) (j : ℕ) → AreClosed m (move_edges v) → j < v.leaves → AreClosed m (leaf_edges v j)
leaf_closed m v j h less = subst (λ z. AreClosed m (leaf_edges v z)) (let e : 0 + j ≡ j = omega arith in e) (in_range m (leaf_edges v) 0 v.leaves j h less)

-- some of the slots that a value comes from mark all to which it goes, leaf by leaf
pub moved_on : (m : ℕ → Bool) (v : Move) (j : ℕ) → AreClosed m (move_edges v) → j < v.leaves → list_any (λ s. m (s + j)) v.from ≡ true → list_all (λ t. m (t + j)) v.to ≡ true
moved_on m v j h less is = flow_leaf m v j v.from (leaf_closed m v j h less) is

pub moved_back : (m : ℕ → Bool) (v : Move) (j : ℕ) → v.back ≡ true → AreClosed m (move_edges v) → j < v.leaves → list_any (λ t. m (t + j)) v.to ≡ true → list_all (λ s. m (s + j)) v.from ≡ true
moved_back m v j back h less is = back_leaf m v j v.from back (leaf_closed m v j h less) is

-- ---- each slot once

any_without : (f : ℕ → Bool) (x : ℕ) (ys : List ℕ) → f x ≡ false → list_any f ys ≡ true → list_any f (filter (λ y. not (nat_eq y x)) ys) ≡ true
any_without f x [] free h = false_not_true h
any_without f x (y ∷ ys) free h = go (nat_eq y x) refl (λ k. any_without f x ys free k)
  where
    go : (c : Bool) → nat_eq y x ≡ c → (list_any f ys ≡ true → list_any f (filter (λ z. not (nat_eq z x)) ys) ≡ true) → list_any f (cond (not c) (y ∷ filter (λ z. not (nat_eq z x)) ys) (filter (λ z. not (nat_eq z x)) ys)) ≡ true
    go true is more = either (f y) (list_any f ys) h (λ k. false_not_true (sym (ap f (nat_eq_same y x is) ∙ free) ∙ k)) more
    go false is more = either (f y) (list_any f ys) h (λ k. ap (λ z. z || list_any f (filter (λ w. not (nat_eq w x)) ys)) k) (λ k. second (f y) (list_any f (filter (λ w. not (nat_eq w x)) ys)) (more k))
      where
        second : (a c : Bool) → c ≡ true → (a || c) ≡ true
        second true c h = refl
        second false c h = h

pub any_of_each : (f : ℕ → Bool) (xs : List ℕ) → list_any f xs ≡ true → list_any f (first_of_each xs) ≡ true
any_of_each f [] h = h
any_of_each f (x ∷ xs) h = go (f x) refl (any_of_each f xs) h
  where
    go : (c : Bool) → f x ≡ c → (list_any f xs ≡ true → list_any f (first_of_each xs) ≡ true) → (c || list_any f xs) ≡ true → (c || list_any f (filter (λ y. not (nat_eq y x)) (first_of_each xs))) ≡ true
    go true is more k = refl
    go false is more k = any_without f x (first_of_each xs) is (more k)

all_with : (f : ℕ → Bool) (x : ℕ) (ys : List ℕ) → f x ≡ true → list_all f (filter (λ y. not (nat_eq y x)) ys) ≡ true → list_all f ys ≡ true
all_with f x [] held h = refl
all_with f x (y ∷ ys) held h = go (nat_eq y x) refl (λ k. all_with f x ys held k) h
  where
    go : (c : Bool) → nat_eq y x ≡ c → (list_all f (filter (λ z. not (nat_eq z x)) ys) ≡ true → list_all f ys ≡ true) → list_all f (cond (not c) (y ∷ filter (λ z. not (nat_eq z x)) ys) (filter (λ z. not (nat_eq z x)) ys)) ≡ true → (f y && list_all f ys) ≡ true
    go true is more k = and_from (f y) (list_all f ys) (ap f (nat_eq_same y x is) ∙ held) (more k)
    go false is more k = and_from (f y) (list_all f ys) (and_true_first (f y) (list_all f (filter (λ z. not (nat_eq z x)) ys)) k) (more (and_true_second (f y) (list_all f (filter (λ z. not (nat_eq z x)) ys)) k))

pub all_of_each : (f : ℕ → Bool) (xs : List ℕ) → list_all f (first_of_each xs) ≡ true → list_all f xs ≡ true
all_of_each f [] h = refl
all_of_each f (x ∷ xs) h =
    let one = and_true_first (f x) (list_all f (filter (λ y. not (nat_eq y x)) (first_of_each xs))) h in
    and_from (f x) (list_all f xs) one (all_of_each f xs (all_with f x (first_of_each xs) one (and_true_second (f x) (list_all f (filter (λ y. not (nat_eq y x)) (first_of_each xs))) h)))

-- the value of an expression moves to these slots, and the marks are closed under that
abbrev pub Moves : Bench → src.ExprTree → List ℕ → Type 0
Moves b a ys = AreClosed b.marks (move_edges (moved_to (seen b) a ys))
