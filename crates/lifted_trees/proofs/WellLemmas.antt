-- A lifted tree is well formed.
use Rattle.std.proofs.Common.{◌≡◌, ◌∙◌, ◌+◌, ◌*◌, ◌≤◌, ◌<◌, ◌^◌, ℕ, suc, refl, ap, sym, subst, arith, Bool, true, false, List, [], ◌∷◌, ◌++◌, length, map}
use Rattle.std.specs.Prelude.{IsTrue, ◌&&◌, ◌||◌, nat_eq, nat_le, nat_lt, sum_by}
use Rattle.std.specs.List.{list_all, list_any}
use Rattle.std.proofs.lemmas.Bool.Decides.{nat_tests}
use Rattle.std.proofs.lemmas.List.Sums.{sum_by-append}
use Rattle.pt_base.specs.Names.{is_short}
use Rattle.pt_base.proofs.Booleans.{both_hold, both_hold_first, both_hold_second}
use Rattle.pt_base.proofs.Lists.{length_append, length_map, map_append}
use Rattle.pt_base.proofs.Members.{all_hold_append}
use Rattle.pt_base.proofs.Numbers.{nat_eq_self}
use Rattle.typed_tree.specs.declared.part.Part.{Part}
use Rattle.typed_tree.specs.Nodes.{expr_nodes, function_nodes, nodes_of}
use Rattle.typed_tree.specs.Parts.{function_parts, function_variables}
use Rattle.typed_tree.specs.TypedTree.{FunctionTree, TypedTree}
use Rattle.typed_tree.specs.WellFormed.{are_consecutive, are_distinct, are_numbered, are_rising, function_sound, global_sound, globals_small, is_start, is_well_formed, name_of, names_sound, numbers_sound, structs_sound}
use Rattle.typed_tree.proofs.WellFormedLemmas.{Facts, facts_of}
use Rattle.lifted_trees.specs.Sites.{SiteTree}
use Rattle.lifted_trees.specs.Laws.{LiftedTreesAreWellFormed}
use Rattle.lifted_trees.specs.Lifted.{Lifting, all_sites, callees, lifted, numbered_sites, op_expr, op_function, op_functions, raised_from, site_at}
use Rattle.lifted_trees.proofs.FunctionLemmas.{new_sound, old_sound, raised_count}
use Rattle.lifted_trees.proofs.NameLemmas.{all_distinct, new_short}
use Rattle.lifted_trees.proofs.NodeLemmas.{exprs_few, op_exprs_few, op_functions_few}

all_implies : {A : Type 0} (p q : A → Bool) (xs : List A) → ((x : A) → p x ≡ true → q x ≡ true) → list_all p xs ≡ true → list_all q xs ≡ true
all_implies p q [] each h = refl
all_implies p q (x ∷ xs) each h = both_hold (q x) (list_all q xs) (each x (both_hold_first (p x) (list_all p xs) h)) (all_implies p q xs each (both_hold_second (p x) (list_all p xs) h))

either_first : (a b c : Bool) → (a || b) ≡ true → (b ≡ true → c ≡ true) → (a || c) ≡ true
either_first true b c h k = refl
either_first false b c h k = k h

any_first : {A : Type 0} (test : A → Bool) (xs ys : List A) → list_any test xs ≡ true → list_any test (xs ++ ys) ≡ true
any_first test [] ys h = cc
any_first test (x ∷ xs) ys h = either_first (test x) (list_any test xs) (list_any test (xs ++ ys)) h (any_first test xs ys)

-- ---- numbers of outermost expressions

numbered_more : (first : ℕ) (ps : List Part) (last more : ℕ) → IsTrue (are_numbered first ps last) → IsTrue (are_numbered first ps (last + more))
numbered_more first [] last more h = grind (arith, nat_tests, h)
numbered_more first (q ∷ qs) last more h =
    both_hold (nat_eq q.expr.0 first) (are_numbered (suc first) qs (last + more)) (both_hold_first _ _ h) (numbered_more (suc first) qs last more (both_hold_second (nat_eq q.expr.0 first) (are_numbered (suc first) qs last) h))

consecutive_more : (ps : List Part) (last more : ℕ) → IsTrue (are_consecutive ps last) → IsTrue (are_consecutive ps (last + more))
consecutive_more [] last more h = refl
consecutive_more (q ∷ qs) last more h = numbered_more q.expr.0 (q ∷ qs) last more h

exprs_count : (l : Lifting) → length (lifted l).exprs ≡ length l.tree.exprs + length l.order
exprs_count l =
    length_append (raised_from (callees l) l.secret 0 0 l.tree.exprs) (map op_expr (numbered_sites l))
    ∙ ap (λ n. n + length (map op_expr (numbered_sites l))) (raised_count (callees l) l.secret 0 0 l.tree.exprs)
    ∙ ap (λ n. length l.tree.exprs + n) (length_map op_expr (numbered_sites l) ∙ length_map (λ x. site_at l x.place) l.order)

old_numbers : (l : Lifting) (f : FunctionTree) → IsTrue (numbers_sound l.tree f) → IsTrue (numbers_sound (lifted l) f)
old_numbers l f h =
    both_hold (are_consecutive (function_parts f.body) (length (lifted l).exprs)) (are_rising (length f.signature.params) (function_variables f.body))
    (subst (λ n. IsTrue (are_consecutive (function_parts f.body) n)) (sym (exprs_count l)) (consecutive_more (function_parts f.body) (length l.tree.exprs) (length l.order) (both_hold_first _ _ h)))
    (both_hold_second (are_consecutive (function_parts f.body) (length l.tree.exprs)) (are_rising (length f.signature.params) (function_variables f.body)) h)

op_numbers : (t : TypedTree) (n e : ℕ) (x : SiteTree) → e < length t.exprs → IsTrue (numbers_sound t (op_function n e x))
op_numbers t n e x lt =
    let below : nat_le (suc e) (length t.exprs) ≡ true = grind (arith, nat_tests, lt) in
    both_hold (nat_eq e e && nat_le (suc e) (length t.exprs)) true (both_hold (nat_eq e e) (nat_le (suc e) (length t.exprs)) (nat_eq_self e) below) refl

new_numbers : (t : TypedTree) (exprs n : ℕ) (xs : List SiteTree) → exprs + (n + length xs) ≤ length t.exprs → IsTrue (list_all (numbers_sound t) (op_functions exprs n xs))
new_numbers t exprs n [] few = refl
new_numbers t exprs n (x ∷ xs) few =
    both_hold (numbers_sound t (op_function n (exprs + n) x)) (list_all (numbers_sound t) (op_functions exprs (suc n) xs)) (op_numbers t n (exprs + n) x (omega (arith, few))) (new_numbers t exprs (suc n) xs (omega (arith, few)))

-- ---- nodes

nodes_few : (l : Lifting) → length (all_sites l) ≤ 4_096 → length l.order ≤ 4_096 → nodes_of l.tree < 2 ^ 24 → nodes_of (lifted l) < 2 ^ 28
nodes_few l sites order few =
    let functions = op_functions (length l.tree.exprs) 0 (numbered_sites l) in
    let old = raised_from (callees l) l.secret 0 0 l.tree.exprs in
    let count : length (numbered_sites l) ≡ length l.order = length_map (λ x. site_at l x.place) l.order in
    let one : sum_by function_nodes (l.tree.functions ++ functions) ≡ sum_by function_nodes l.tree.functions + sum_by function_nodes functions = sum_by-append function_nodes l.tree.functions functions in
    let two : sum_by function_nodes functions ≤ 5 * length (numbered_sites l) = op_functions_few (length l.tree.exprs) 0 (numbered_sites l) in
    let three : sum_by expr_nodes (old ++ map op_expr (numbered_sites l)) ≡ sum_by expr_nodes old + sum_by expr_nodes (map op_expr (numbered_sites l)) = sum_by-append expr_nodes old (map op_expr (numbered_sites l)) in
    let four : sum_by expr_nodes old ≤ sum_by expr_nodes l.tree.exprs + 3 * length (all_sites l) = exprs_few (callees l) l.secret 0 0 l.tree.exprs in
    let five : sum_by expr_nodes (map op_expr (numbered_sites l)) ≤ 3 * length (numbered_sites l) = op_exprs_few (numbered_sites l) in
    omega (arith, sites, order, few, count, one, two, three, four, five)

-- ---- the whole

pub well_formed : LiftedTreesAreWellFormed
unfolding is_well_formed
well_formed l well ordered named undotted sites order few =
    let facts : Facts l.tree = facts_of l.tree well in
    let functions = op_functions (length l.tree.exprs) 0 (numbered_sites l) in
    let count : length (numbered_sites l) ≡ length l.order = length_map (λ x. site_at l x.place) l.order in
    let few_new : length (numbered_sites l) ≤ 4_096 = omega (arith, count, order) in
    let sound : IsTrue (list_all (function_sound (lifted l)) (l.tree.functions ++ functions)) =
    all_hold_append (function_sound (lifted l)) l.tree.functions functions (all_implies (function_sound l.tree) (function_sound (lifted l)) l.tree.functions (old_sound l ordered) facts.functions) (new_sound l well named) in
    let names : map name_of (l.tree.functions ++ functions) ≡ map name_of l.tree.functions ++ map name_of functions = map_append name_of l.tree.functions functions in
    let distinct : IsTrue (are_distinct (map name_of (l.tree.functions ++ functions))) =
    subst (λ ns. IsTrue (are_distinct ns)) (sym names) (all_distinct (length l.tree.exprs) (map name_of l.tree.functions) (numbered_sites l) facts.names undotted few_new) in
    let short : IsTrue (list_all is_short (map name_of (l.tree.functions ++ functions))) =
    subst (λ ns. IsTrue (list_all is_short ns)) (sym names) (all_hold_append is_short (map name_of l.tree.functions) (map name_of functions) facts.short (new_short (length l.tree.exprs) 0 (numbered_sites l) (omega (arith, few_new)))) in
    let start : IsTrue (list_any is_start (l.tree.functions ++ functions)) = any_first is_start l.tree.functions functions facts.start in
    let long : length l.tree.exprs + (0 + length (numbered_sites l)) ≤ length (lifted l).exprs = let all = exprs_count l in omega (arith, count, all) in
    let numbered : IsTrue (list_all (numbers_sound (lifted l)) (l.tree.functions ++ functions)) =
    all_hold_append (numbers_sound (lifted l)) l.tree.functions functions (all_implies (numbers_sound l.tree) (numbers_sound (lifted l)) l.tree.functions (old_numbers l) facts.numbered)
    (new_numbers (lifted l) (length l.tree.exprs) 0 (numbered_sites l) long) in
    let small : nodes_of (lifted l) < 2 ^ 28 = nodes_few l sites order few in
    let nodes : IsTrue (nat_lt (nodes_of (lifted l)) (2 ^ 28)) = grind (arith, nat_tests, small) in
    both_hold (structs_sound l.tree.structs 0 l.tree.structs && (list_all (global_sound l.tree.structs) l.tree.globals && globals_small l.tree.globals))
    ((list_all (function_sound (lifted l)) (l.tree.functions ++ functions) && (names_sound (map name_of (l.tree.functions ++ functions)) && list_any is_start (l.tree.functions ++ functions)))
    && (list_all (numbers_sound (lifted l)) (l.tree.functions ++ functions) && nat_lt (nodes_of (lifted l)) (2 ^ 28)))
    (both_hold (structs_sound l.tree.structs 0 l.tree.structs) (list_all (global_sound l.tree.structs) l.tree.globals && globals_small l.tree.globals) facts.structs (both_hold (list_all (global_sound l.tree.structs) l.tree.globals) (globals_small l.tree.globals) facts.globals facts.small))
    (both_hold (list_all (function_sound (lifted l)) (l.tree.functions ++ functions) && (names_sound (map name_of (l.tree.functions ++ functions)) && list_any is_start (l.tree.functions ++ functions)))
    (list_all (numbers_sound (lifted l)) (l.tree.functions ++ functions) && nat_lt (nodes_of (lifted l)) (2 ^ 28))
    (both_hold (list_all (function_sound (lifted l)) (l.tree.functions ++ functions)) (names_sound (map name_of (l.tree.functions ++ functions)) && list_any is_start (l.tree.functions ++ functions)) sound
    (both_hold (names_sound (map name_of (l.tree.functions ++ functions))) (list_any is_start (l.tree.functions ++ functions)) (both_hold (are_distinct (map name_of (l.tree.functions ++ functions))) (list_all is_short (map name_of (l.tree.functions ++ functions))) distinct short) start))
    (both_hold (list_all (numbers_sound (lifted l)) (l.tree.functions ++ functions)) (nat_lt (nodes_of (lifted l)) (2 ^ 28)) numbered nodes))
