-- Members of lists.
use Rattle.std.proofs.Common.{◌≡◌, refl, sym, subst, ◌⊎◌, inl, inr, Bool, true, false, List, [], ◌∷◌, map, cond}
use Rattle.std.specs.List.{Contains, filter, flat_map}
use Rattle.std.proofs.lemmas.List.Elements.{Contains-append_left, Contains-append_right, Contains-append_cases}
use Rattle.pt_base.proofs.Members.{contains_cases, contains_first, contains_later, contains_nothing}

pub contains_map : {X Y : Type 0} (f : X → Y) (xs : List X) (x : X) → Contains xs x → Contains (map f xs) (f x)
contains_map f [] x h = absurd (contains_nothing x h)
contains_map {X} {Y} f (y ∷ ys) x h = go (λ i. contains_map f ys x i) (contains_cases y ys x h)
  where
    go : (Contains ys x → Contains (map f ys) (f x)) → (y ≡ x) ⊎ Contains ys x → Contains (map f (y ∷ ys)) (f x)
    go rest (inl e) = subst (λ (z : X). Contains (map f (y ∷ ys)) (f z)) e (contains_first (f y) (map f ys))
    go rest (inr i) = contains_later (f y) (map f ys) (f x) (rest i)

pub from_map : {X Y : Type 0} (f : X → Y) (xs : List X) (y : Y) → Contains (map f xs) y → (x : X) × Contains xs x × (f x ≡ y)
from_map f [] y h = absurd (contains_nothing y h)
from_map {X} {Y} f (x ∷ xs) y h = go (λ i. from_map f xs y i) (contains_cases (f x) (map f xs) y h)
  where
    go : (Contains (map f xs) y → (z : X) × Contains xs z × (f z ≡ y)) → (f x ≡ y) ⊎ Contains (map f xs) y → (z : X) × Contains (x ∷ xs) z × (f z ≡ y)
    go rest (inl e) = (x, contains_first x xs, e)
    go rest (inr i) = let r = rest i in (r.0, contains_later x xs r.0 r.1, r.2)

pub contains_flat : {X Y : Type 0} (f : X → List Y) (xs : List X) (x : X) (y : Y) → Contains xs x → Contains (f x) y → Contains (flat_map f xs) y
contains_flat f [] x y h i = absurd (contains_nothing x h)
contains_flat {X} {Y} f (z ∷ zs) x y h i = go (λ j. contains_flat f zs x y j i) (contains_cases z zs x h)
  where
    go : (Contains zs x → Contains (flat_map f zs) y) → (z ≡ x) ⊎ Contains zs x → Contains (flat_map f (z ∷ zs)) y
    go rest (inl e) = Contains-append_left (f z) (flat_map f zs) y (subst (λ (u : X). Contains (f u) y) (sym e) i)
    go rest (inr j) = Contains-append_right (f z) (flat_map f zs) y (rest j)

pub from_flat : {X Y : Type 0} (f : X → List Y) (xs : List X) (y : Y) → Contains (flat_map f xs) y → (x : X) × Contains xs x × Contains (f x) y
from_flat f [] y h = absurd (contains_nothing y h)
from_flat {X} {Y} f (x ∷ xs) y h = go (λ i. from_flat f xs y i) (Contains-append_cases (f x) (flat_map f xs) y h)
  where
    go : (Contains (flat_map f xs) y → (z : X) × Contains xs z × Contains (f z) y) → Contains (f x) y ⊎ Contains (flat_map f xs) y → (z : X) × Contains (x ∷ xs) z × Contains (f z) y
    go rest (inl i) = (x, contains_first x xs, i)
    go rest (inr i) = let r = rest i in (r.0, contains_later x xs r.0 r.1, r.2)

pub contains_filter : {X : Type 0} (test : X → Bool) (xs : List X) (x : X) → Contains xs x → test x ≡ true → Contains (filter test xs) x
contains_filter test [] x h t = absurd (contains_nothing x h)
contains_filter {X} test (y ∷ ys) x h t = go (λ i. contains_filter test ys x i t) (test y) refl (contains_cases y ys x h)
  where
    go : (Contains ys x → Contains (filter test ys) x) → (b : Bool) → test y ≡ b → (y ≡ x) ⊎ Contains ys x → Contains (cond b (y ∷ filter test ys) (filter test ys)) x
    go rest true e (inl s) = subst (λ (z : X). Contains (y ∷ filter test ys) z) s (contains_first y (filter test ys))
    go rest true e (inr i) = contains_later y (filter test ys) x (rest i)
    go rest false e (inl s) = let no : test x ≡ false = subst (λ (z : X). test z ≡ false) s e in cc
    go rest false e (inr i) = rest i

pub from_filter : {X : Type 0} (test : X → Bool) (xs : List X) (x : X) → Contains (filter test xs) x → Contains xs x × (test x ≡ true)
from_filter test [] x h = absurd (contains_nothing x h)
from_filter {X} test (y ∷ ys) x h = go (λ i. from_filter test ys x i) (test y) refl h
  where
    later : Contains ys x × (test x ≡ true) → Contains (y ∷ ys) x × (test x ≡ true)
    later r = (contains_later y ys x r.0, r.1)

    first : (Contains (filter test ys) x → Contains ys x × (test x ≡ true)) → test y ≡ true → (y ≡ x) ⊎ Contains (filter test ys) x → Contains (y ∷ ys) x × (test x ≡ true)
    first rest e (inl s) = (subst (λ (z : X). Contains (y ∷ ys) z) s (contains_first y ys), subst (λ (z : X). test z ≡ true) s e)
    first rest e (inr i) = later (rest i)

    go : (Contains (filter test ys) x → Contains ys x × (test x ≡ true)) → (b : Bool) → test y ≡ b → Contains (cond b (y ∷ filter test ys) (filter test ys)) x → Contains (y ∷ ys) x × (test x ≡ true)
    go rest true e i = first rest e (contains_cases y (filter test ys) x i)
    go rest false e i = later (rest i)
