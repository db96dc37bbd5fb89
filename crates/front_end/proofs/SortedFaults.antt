-- Two ascending lists with the same members are equal.
use Rattle.std.proofs.Common.{◌≡◌, ◌⊎◌, ◌∙◌, ◌↔◌, ℕ, List, [], ◌∷◌, ◌++◌, sym, ap, subst, inl, inr, refl}
use Rattle.std.specs.Ordering.{ordering_reverse, ordering_then, nat_cmp}
use Rattle.std.proofs.lemmas.Cmp.{nat_cmp_total}
use Rattle.std.specs.declared.cmp.Ordering.{Ordering}
use Rattle.std.specs.declared.cmp.Ordering.TheVariants.{Less, Equal, Greater}
use Rattle.std.specs.List.{Contains}
use Rattle.std.specs.List.Sorted.{IsStrictlySortedBy}
use Rattle.std.proofs.lemmas.List.Elements.{All-contains}
use Rattle.std.proofs.lemmas.Map.Keys.{sorted_tail}
use Rattle.std.proofs.lemmas.Map.Views.{All-after_first}
use Rattle.pt_base.proofs.Members.{contains_cases, contains_first, contains_later, contains_nothing}
use Rattle.check_declarations.specs.declared.fault.TypeFault.{TypeFault}
use Rattle.check_declarations.specs.Faults.{fault_cmp, fault_number}

-- of two elements each one is not below the other
abbrev pub IsOneWay : {X : Type 0} → (X → X → Ordering) → Type 0
IsOneWay R = (x y : _) → R x y ≡ Less → R y x ≡ Less → ⊥

-- the head of an ascending list is below what the tail has
below : {X : Type 0} (R : X → X → Ordering) → (x : X) (xs : List X) (z : X) → IsStrictlySortedBy R (x ∷ xs) → Contains xs z → R x z ≡ Less
below R x xs z s h = All-contains (λ q. R x q ≡ Less) xs z (All-after_first R x xs s) h

heads : {X : Type 0} (R : X → X → Ordering) → IsOneWay R → (x : X) (xs : List X) (y : X) (ys : List X)
    → IsStrictlySortedBy R (x ∷ xs) → IsStrictlySortedBy R (y ∷ ys)
    → (y ≡ x) ⊎ Contains ys x → (x ≡ y) ⊎ Contains xs y → x ≡ y
heads R o x xs y ys s t (inl e) q = sym e
heads R o x xs y ys s t (inr a) (inl e) = e
heads R o x xs y ys s t (inr a) (inr b) = absurd (o x y (below R x xs y s b) (below R y ys x t a))

-- what is in the tail of one list and in the other, is in the other's tail
tails : {X : Type 0} (R : X → X → Ordering) → IsOneWay R → (x : X) (xs : List X) (y : X) (ys : List X) (z : X)
    → IsStrictlySortedBy R (x ∷ xs) → x ≡ y → Contains xs z → (y ≡ z) ⊎ Contains ys z → Contains ys z
tails R o x xs y ys z s e h (inl q) =
    let lt : R x z ≡ Less = below R x xs z s h in
    let same : z ≡ x = sym (e ∙ q) in
    let itself : R x x ≡ Less = subst (λ u. R x u ≡ Less) same lt in
    absurd (o x x itself itself)
tails R o x xs y ys z s e h (inr b) = b

pub same_members : {X : Type 0} (R : X → X → Ordering) → IsOneWay R → (xs ys : List X)
    → IsStrictlySortedBy R xs → IsStrictlySortedBy R ys → ((z : X) → Contains xs z ↔ Contains ys z) → xs ≡ ys
same_members R o [] [] s t m = refl
same_members R o [] (y ∷ ys) s t m = absurd (contains_nothing y ((m y).1 (contains_first y ys)))
same_members R o (x ∷ xs) [] s t m = absurd (contains_nothing x ((m x).0 (contains_first x xs)))
same_members R o (x ∷ xs) (y ∷ ys) s t m =
    let e : x ≡ y = heads R o x xs y ys s t (contains_cases y ys x ((m x).0 (contains_first x xs))) (contains_cases x xs y ((m y).1 (contains_first y ys))) in
    let rest : xs ≡ ys = same_members R o xs ys (sorted_tail R x xs s) (sorted_tail R y ys t)
    (λ z. (
      (λ h. tails R o x xs y ys z s e h (contains_cases y ys z ((m z).0 (contains_later x xs z h)))),
      (λ h. tails R o y ys x xs z t (sym e) h (contains_cases x xs z ((m z).1 (contains_later y ys z h)))),
    )) in
    cc

-- ---- the order of faults

then_turned : (a b : Ordering) → ordering_then (ordering_reverse a) (ordering_reverse b) ≡ ordering_reverse (ordering_then a b)
then_turned Less b = refl
then_turned Equal b = refl
then_turned Greater b = refl

three_turned : (a b c d e f : Ordering) → a ≡ ordering_reverse d → b ≡ ordering_reverse e → c ≡ ordering_reverse f
    → ordering_then (ordering_then a b) c ≡ ordering_reverse (ordering_then (ordering_then d e) f)
three_turned a b c d e f p q r =
    ap (λ x. ordering_then (ordering_then x b) c) p
    ∙ ap (λ x. ordering_then (ordering_then (ordering_reverse d) x) c) q
    ∙ ap (λ x. ordering_then (ordering_then (ordering_reverse d) (ordering_reverse e)) x) r
    ∙ ap (λ x. ordering_then x (ordering_reverse f)) (then_turned d e)
    ∙ then_turned (ordering_then d e) f

turned : (f g : TypeFault) → fault_cmp f g ≡ ordering_reverse (fault_cmp g f)
turned f g =
    three_turned (nat_cmp f.span.from g.span.from) (nat_cmp f.span.to g.span.to) (nat_cmp (fault_number f.kind) (fault_number g.kind))
    (nat_cmp g.span.from f.span.from) (nat_cmp g.span.to f.span.to) (nat_cmp (fault_number g.kind) (fault_number f.kind))
    (nat_cmp_total.antisymm f.span.from g.span.from) (nat_cmp_total.antisymm f.span.to g.span.to)
    (nat_cmp_total.antisymm (fault_number f.kind) (fault_number g.kind))

less_once : (a b : Ordering) → a ≡ ordering_reverse b → a ≡ Less → b ≡ Less → ⊥
less_once a b t h k = let e : a ≡ Greater = t ∙ ap ordering_reverse k in cc

pub one_way : IsOneWay fault_cmp
one_way f g h k = less_once (fault_cmp f g) (fault_cmp g f) (turned f g) h k
