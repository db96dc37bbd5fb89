-- The names of new functions are short, and none is another's.
use Rattle.std.proofs.Common.{◌≡◌, ◌∙◌, ◌+◌, ◌≤◌, ◌<◌, ◌^◌, ℕ, suc, refl, ap, sym, arith, Bool, true, false, List, [], ◌∷◌, ◌++◌, length, map, drop}
use Rattle.std.specs.Prelude.{◌||◌, not, codes}
use Rattle.std.specs.List.{list_all, list_any}
use Rattle.std.specs.Str.{bytes_eq}
use Rattle.std.specs.Fmt.{decimal}
use Rattle.std.specs.Str.Parse.{digits_value}
use Rattle.std.proofs.lemmas.Bool.Decides.{nat_tests}
use Rattle.std.proofs.lemmas.Fmt.{decimal_is_IsNumeral, length-decimal-le}
use Rattle.pt_base.specs.Names.{is_short}
use Rattle.pt_base.proofs.Booleans.{both_hold, both_hold_first, both_hold_second, from_not_true, or_false_first, or_false_second}
use Rattle.pt_base.proofs.Lists.{bytes_eq_same, length_append}
use Rattle.typed_tree.specs.WellFormed.{are_distinct, name_of}
use Rattle.lifted_trees.specs.Sites.{SiteTree}
use Rattle.lifted_trees.specs.Laws.{is_undotted}
use Rattle.lifted_trees.specs.Lifted.{op_functions, op_name}

-- ---- equal decimals are of one number

same_decimals : (m n : ℕ) → m < 2 ^ 64 → n < 2 ^ 64 → decimal m ≡ decimal n → m ≡ n
same_decimals m n p q e = sym (decimal_is_IsNumeral m p).1 ∙ ap (digits_value 10) e ∙ (decimal_is_IsNumeral n q).1

same_op_names : (m n : ℕ) → m < 2 ^ 64 → n < 2 ^ 64 → op_name m ≡ op_name n → m ≡ n
same_op_names m n p q e = same_decimals m n p q (ap (drop 3) e)

op_names_apart : (m n : ℕ) → m < n → n < 2 ^ 64 → bytes_eq (op_name m) (op_name n) ≡ false
op_names_apart m n lt few = go (bytes_eq (op_name m) (op_name n)) refl
  where
    go : (b : Bool) → bytes_eq (op_name m) (op_name n) ≡ b → bytes_eq (op_name m) (op_name n) ≡ false
    go false e = e
    go true e =
        let small : m < 2 ^ 64 = omega (arith, lt, few) in
        let same : m ≡ n = same_op_names m n small few (bytes_eq_same (op_name m) (op_name n) e) in
        absurd (omega (arith, lt, same))

-- ---- all names

abbrev names_from : ℕ → ℕ → List SiteTree → List (List ℕ)
names_from exprs n xs = map name_of (op_functions exprs n xs)

none_later : (exprs m n : ℕ) (xs : List SiteTree) → m < n → n + length xs ≤ 4_096 → list_any (bytes_eq (op_name m)) (names_from exprs n xs) ≡ false
none_later exprs m n [] lt few = refl
none_later exprs m n (x ∷ xs) lt few =
    let apart : bytes_eq (op_name m) (op_name n) ≡ false = op_names_apart m n lt (omega (arith, few)) in
    let rest : list_any (bytes_eq (op_name m)) (names_from exprs (suc n) xs) ≡ false = none_later exprs m (suc n) xs (omega (arith, lt)) (omega (arith, few)) in
    ap (λ b. b || list_any (bytes_eq (op_name m)) (names_from exprs (suc n) xs)) apart ∙ rest

new_distinct : (exprs n : ℕ) (xs : List SiteTree) → n + length xs ≤ 4_096 → are_distinct (names_from exprs n xs) ≡ true
new_distinct exprs n [] few = refl
new_distinct exprs n (x ∷ xs) few =
    both_hold (not (list_any (bytes_eq (op_name n)) (names_from exprs (suc n) xs))) (are_distinct (names_from exprs (suc n) xs))
    (ap not (none_later exprs n (suc n) xs (omega arith) (omega (arith, few)))) (new_distinct exprs (suc n) xs (omega (arith, few)))

-- a name without a dot is none of the new ones
dotted_apart : (n : ℕ) (name : List ℕ) → is_undotted name ≡ true → (b : Bool) → bytes_eq name (op_name n) ≡ b → bytes_eq name (op_name n) ≡ false
dotted_apart n name h false e = e
dotted_apart n name h true e = let no : false ≡ true = ap is_undotted (sym (bytes_eq_same name (op_name n) e)) ∙ h in cc

none_dotted : (exprs n : ℕ) (name : List ℕ) (xs : List SiteTree) → is_undotted name ≡ true → list_any (bytes_eq name) (names_from exprs n xs) ≡ false
none_dotted exprs n name [] h = refl
none_dotted exprs n name (x ∷ xs) h =
    ap (λ b. b || list_any (bytes_eq name) (names_from exprs (suc n) xs)) (dotted_apart n name h (bytes_eq name (op_name n)) refl) ∙ none_dotted exprs (suc n) name xs h

any_append : (test : List ℕ → Bool) (xs ys : List (List ℕ)) → list_any test xs ≡ false → list_any test ys ≡ false → list_any test (xs ++ ys) ≡ false
any_append test [] ys h k = k
any_append test (x ∷ xs) ys h k = ap (λ b. b || list_any test (xs ++ ys)) (or_false_first (test x) (list_any test xs) h) ∙ any_append test xs ys (or_false_second (test x) (list_any test xs) h) k

pub all_distinct : (exprs : ℕ) (names : List (List ℕ)) (xs : List SiteTree) → are_distinct names ≡ true → list_all is_undotted names ≡ true → length xs ≤ 4_096 → are_distinct (names ++ names_from exprs 0 xs) ≡ true
all_distinct exprs [] xs h k few = new_distinct exprs 0 xs (omega (arith, few))
all_distinct exprs (name ∷ names) xs h k few =
    both_hold (not (list_any (bytes_eq name) (names ++ names_from exprs 0 xs))) (are_distinct (names ++ names_from exprs 0 xs))
    (ap not (any_append (bytes_eq name) names (names_from exprs 0 xs) (from_not_true (list_any (bytes_eq name) names) (both_hold_first _ _ h)) (none_dotted exprs 0 name xs (both_hold_first _ _ k))))
    (all_distinct exprs names xs (both_hold_second (not (list_any (bytes_eq name) names)) (are_distinct names) h) (both_hold_second (is_undotted name) (list_all is_undotted names) k) few)

op_name_short : (n : ℕ) → n < 4_096 → is_short (op_name n) ≡ true
op_name_short n lt =
    let digits : length (decimal n) ≤ 4 = length-decimal-le 4 n (omega arith) (omega (arith, lt)) (omega (arith, lt)) in
    let whole : length (op_name n) ≡ 3 + length (decimal n) = length_append (codes "op.") (decimal n) in
    grind (arith, nat_tests, digits, whole)

pub new_short : (exprs n : ℕ) (xs : List SiteTree) → n + length xs ≤ 4_096 → list_all is_short (names_from exprs n xs) ≡ true
new_short exprs n [] few = refl
new_short exprs n (x ∷ xs) few = both_hold (is_short (op_name n)) (list_all is_short (names_from exprs (suc n) xs)) (op_name_short n (omega (arith, few))) (new_short exprs (suc n) xs (omega (arith, few)))
