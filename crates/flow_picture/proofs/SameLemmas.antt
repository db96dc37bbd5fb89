-- Lists with the same members.
use Rattle.std.proofs.Common.{◌≡◌, ◌∙◌, ◌≤◌, ◌⊎◌, ℕ, zero, suc, inl, inr, ap, arith, drop, length, refl, subst, sym, Bool, true, false, Some, List, [], ◌∷◌, ◌++◌, append_assoc}
use Rattle.std.specs.Prelude.{slice_get}
use Rattle.std.specs.List.{Contains, flat_map}
use Rattle.std.proofs.lemmas.List.Elements.{Contains-append_cases, Contains-append_left, Contains-append_right}
use Rattle.pt_base.proofs.Lists.{append_nil}
use Rattle.pt_base.proofs.Members.{contains_cases, contains_first, contains_later, contains_nothing}
use Rattle.reach.specs.Tables.{item_if}
use Rattle.flow_picture.specs.Kept.{HasSame}

pub same_itself : {X : Type 0} (xs : List X) → HasSame xs xs
same_itself xs = λ x. (λ h. h, λ h. h)

pub same_is : {X : Type 0} (xs ys : List X) → xs ≡ ys → HasSame xs ys
same_is xs ys e = subst (λ zs. HasSame xs zs) e (same_itself xs)

pub same_after : {X : Type 0} (xs ys zs : List X) → HasSame xs ys → HasSame ys zs → HasSame xs zs
same_after xs ys zs a b = λ x. (λ h. (b x).0 ((a x).0 h), λ h. (a x).1 ((b x).1 h))

front : {X : Type 0} (xs ys zs : List X) → ((x : X) → Contains xs x → Contains ys x) → (x : X) → Contains (xs ++ zs) x → Contains (ys ++ zs) x
front {X} xs ys zs a x h = go (Contains-append_cases xs zs x h)
  where
    go : Contains xs x ⊎ Contains zs x → Contains (ys ++ zs) x
    go (inl i) = Contains-append_left ys zs x (a x i)
    go (inr i) = Contains-append_right ys zs x i

pub same_front : {X : Type 0} (xs ys zs : List X) → HasSame xs ys → HasSame (xs ++ zs) (ys ++ zs)
same_front xs ys zs a = λ x. (front xs ys zs (λ y. (a y).0) x, front ys xs zs (λ y. (a y).1) x)

-- a loop's step
pub same_on : {X : Type 0} (s s' xs rest all : List X) → HasSame s' (s ++ xs) → HasSame (s ++ (xs ++ rest)) all → HasSame (s' ++ rest) all
same_on s s' xs rest all a b =
    same_after (s' ++ rest) ((s ++ xs) ++ rest) all (same_front s' (s ++ xs) rest a)
    (subst (λ zs. HasSame zs all) (sym (append_assoc s xs rest)) b)

pub flat_on : {X Y : Type 0} (f : X → List Y) (xs rest : List X) (x : X) (s s' all : List Y) → xs ≡ x ∷ rest → HasSame s' (s ++ f x) → HasSame (s ++ flat_map f xs) all → HasSame (s' ++ flat_map f rest) all
flat_on f xs rest x s s' all split a b = same_on s s' (f x) (flat_map f rest) all a (subst (λ ys. HasSame (s ++ flat_map f ys) all) split b)

ended : {X : Type 0} (i : ℕ) (xs : List X) → length xs ≤ i → drop i xs ≡ []
ended zero [] le = refl
ended (suc i) [] le = refl
ended zero (x ∷ xs) le = absurd (omega (arith, le))
ended (suc i) (x ∷ xs) le = ended i xs (omega (arith, le))

ends : {Y : Type 0} (s rest all : List Y) → rest ≡ [] → HasSame (s ++ rest) all → HasSame s all
ends s rest all e h = subst (λ zs. HasSame zs all) (ap (λ zs. s ++ zs) e ∙ append_nil s) h

-- a loop's end
pub same_end : {X Y : Type 0} (f : X → List Y) (xs : List X) (i : ℕ) (s all : List Y) → length xs ≤ i → HasSame (s ++ flat_map f (drop i xs)) all → HasSame s all
same_end f xs i s all le h = ends s (flat_map f (drop i xs)) all (ap (flat_map f) (ended i xs le)) h

-- the same of a recursion that gives nothing of nothing
pub same_over : {X Y : Type 0} (f : List X → List Y) (xs : List X) (i : ℕ) (s all : List Y) → f [] ≡ [] → length xs ≤ i → HasSame (s ++ f (drop i xs)) all → HasSame s all
same_over f xs i s all none le h = ends s (f (drop i xs)) all (ap f (ended i xs le) ∙ none) h

-- the item, since the truth holds
pub same_if : {X : Type 0} (b : Bool) (x : X) (s s' : List X) → b ≡ true → HasSame s' (s ++ x ∷ []) → HasSame s' (s ++ item_if b x)
same_if b x s s' e h = subst (λ (c : Bool). HasSame s' (s ++ item_if c x)) (sym e) h

-- what stands there already isn't needed again
pub same_kept : {X : Type 0} (xs : List X) (b : Bool) (x : X) → Contains xs x → HasSame xs (xs ++ item_if b x)
same_kept {X} xs b x h = λ y. (Contains-append_left xs (item_if b x) y, λ i. go y (Contains-append_cases xs (item_if b x) y i))
  where
    one : (b : Bool) (y : X) → Contains (item_if b x) y → Contains xs y
    one true y i = last (contains_cases x [] y i)
      where
        last : (x ≡ y) ⊎ Contains [] y → Contains xs y
        last (inl e) = subst (λ (z : X). Contains xs z) e h
        last (inr j) = absurd (contains_nothing y j)
    one false y i = absurd (contains_nothing y i)

    go : (y : X) → Contains xs y ⊎ Contains (item_if b x) y → Contains xs y
    go y (inl i) = i
    go y (inr i) = one b y i

-- the one item, where the truth holds
pub from_item : {X : Type 0} (b : Bool) (x y : X) → Contains (item_if b x) y → (b ≡ true) × (x ≡ y)
from_item {X} true x y h = go (contains_cases x [] y h)
  where
    go : (x ≡ y) ⊎ Contains [] y → (true ≡ true) × (x ≡ y)
    go (inl e) = (λ i. true, e)
    go (inr i) = absurd (contains_nothing y i)
from_item false x y h = absurd (contains_nothing y h)

pub in_item : {X : Type 0} (b : Bool) (x : X) → b ≡ true → Contains (item_if b x) x
in_item b x e = subst (λ (c : Bool). Contains (item_if c x) x) (sym e) (contains_first x [])

-- an item of a list stands there
pub stands_at : {X : Type 0} (xs : List X) (k : ℕ) (x : X) → Some x ≡ slice_get xs k → Contains xs x
stands_at [] k x e = cc
stands_at {X} (y ∷ ys) zero x e = let same : y ≡ x = cc in subst (λ (z : X). Contains (y ∷ ys) z) same (contains_first y ys)
stands_at (y ∷ ys) (suc k) x e = contains_later y ys x (stands_at ys k x e)
