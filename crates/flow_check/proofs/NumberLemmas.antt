-- Numbers from 0 on, and those of them that pass a test.
use Rattle.std.proofs.Common.{◌≡◌, ◌∙◌, ◌<◌, ◌-◌, ◌+◌, ℕ, suc, refl, ap, sym, subst, arith, Bool, true, false, List, [], ◌∷◌, ◌++◌, length, map, get_or, cond, nat_eq}
use Rattle.std.specs.List.{AllPairs, IsDistinct, filter, range_with_len}
use Rattle.std.proofs.lemmas.List.FromFn.{get_or-range_with_len, length-range_with_len}
use Rattle.std.proofs.lemmas.List.Kept.{AllPairs-filter}
use Rattle.std.proofs.lemmas.Map.Keys.{IsDistinct-from_apart}
use Rattle.pt_base.proofs.Members.{range_first}
use Rattle.pt_base.proofs.Numbers.{nat_eq_below}
use Rattle.reach.proofs.MoreLemmas.{moved_on}
use Rattle.reach.specs.Tables.{item_if}

-- ---- the numbers below one

range_ascends : (n : ℕ) → AllPairs (λ a b. a < b) (range_with_len 0 n)
range_ascends n = λ i j d lt within.
    let long : length (range_with_len 0 n) ≡ n = length-range_with_len 0 n in
    let last : j < n = subst (λ k. j < k) long within in
    let first : i < n = omega (arith, lt, last) in
    let a : get_or (range_with_len 0 n) i d ≡ 0 + i = get_or-range_with_len 0 n i d first in
    let b : get_or (range_with_len 0 n) j d ≡ 0 + j = get_or-range_with_len 0 n j d last in
    subst (λ x. x < get_or (range_with_len 0 n) j d) (sym a) (subst (λ y. 0 + i < y) (sym b) (omega (arith, lt)))

-- ---- those that pass a test

pub passing_differ : (test : ℕ → Bool) (n : ℕ) → IsDistinct nat_eq (filter test (range_with_len 0 n))
passing_differ test n =
    let up : AllPairs (λ a b. a < b) (filter test (range_with_len 0 n)) = AllPairs-filter (λ a b. a < b) test (range_with_len 0 n) (range_ascends n) in
    IsDistinct-from_apart nat_eq (filter test (range_with_len 0 n)) (λ i j d lt within. nat_eq_below _ _ (up i j d lt within))

one_kept : {X : Type 0} (f : ℕ → X) (test : ℕ → Bool) (j : ℕ) (rest : List ℕ) → map f (filter test (j ∷ rest)) ≡ item_if (test j) (f j) ++ map f (filter test rest)
one_kept {X} f test j rest = go (test j)
  where
    go : (b : Bool) → map f (cond b (j ∷ filter test rest) (filter test rest)) ≡ item_if b (f j) ++ map f (filter test rest)
    go true = refl
    go false = refl

-- one number after the other
pub next_kept : {X : Type 0} (f : ℕ → X) (test : ℕ → Bool) (list list' all : List X) (n j : ℕ) → j < n → list' ≡ list ++ item_if (test j) (f j) →
    list ++ map f (filter test (range_with_len j (n - j))) ≡ all → list' ++ map f (filter test (range_with_len (j + 1) (n - (j + 1)))) ≡ all
next_kept f test list list' all n j lt added is =
    let rest : List ℕ = range_with_len (j + 1) (n - (j + 1)) in
    moved_on list list' (item_if (test j) (f j)) (map f (filter test rest)) all added
    (ap (λ xs. list ++ xs) (sym (ap (λ xs. map f (filter test xs)) (range_first j n lt) ∙ one_kept f test j rest)) ∙ is)
