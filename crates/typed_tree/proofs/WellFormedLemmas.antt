-- What is known of a well formed program.
use Rattle.std.proofs.Common.{◌≤◌, ◌<◌, ◌^◌, ℕ, List, [], ◌∷◌, length, arith, map}
use Rattle.std.specs.Prelude.{IsTrue, nat_lt, sum_by}
use Rattle.std.specs.List.{list_all, list_any}
use Rattle.std.proofs.lemmas.Bool.Decides.{nat_tests}
use Rattle.std.proofs.lemmas.List.Sums.{sum_by-cons}
use Rattle.pt_base.specs.Names.{is_short}
use Rattle.pt_base.proofs.Booleans.{both_hold_first, both_hold_second}
use Rattle.typed_tree.specs.TypedTree.{FunctionTree, TypedTree}
use Rattle.typed_tree.specs.Nodes.{nodes_of, function_nodes, expr_nodes}
use Rattle.typed_tree.specs.ExpressionTree.{ExprTree, typed}
use Rattle.typed_tree.specs.WellFormed.{is_well_formed, structs_sound, global_sound, globals_small, function_sound, name_of, are_distinct, is_start, numbers_sound}

-- the facts that make a program well formed
pub record Facts (t : TypedTree) : Type 0 where
  pub structs : IsTrue (structs_sound t.structs 0 t.structs)
  pub globals : IsTrue (list_all (global_sound t.structs) t.globals)
  pub small : IsTrue (globals_small t.globals)
  pub functions : IsTrue (list_all (function_sound t) t.functions)
  pub names : IsTrue (are_distinct (map name_of t.functions))
  pub short : IsTrue (list_all is_short (map name_of t.functions))
  pub start : IsTrue (list_any is_start t.functions)
  pub numbered : IsTrue (list_all (numbers_sound t) t.functions)
  pub few : IsTrue (nat_lt (nodes_of t) (2 ^ 28))

pub facts_of : (t : TypedTree) → IsTrue (is_well_formed t) → Facts t
unfolding is_well_formed
facts_of t h =
    let declared = both_hold_first _ _ h in
    let rest = both_hold_second _ _ h in
    let functions = both_hold_first _ _ rest in
    let exprs = both_hold_second _ _ rest in
    record {
      structs = both_hold_first _ _ declared;
      globals = both_hold_first _ _ (both_hold_second _ _ declared);
      small = both_hold_second _ _ (both_hold_second _ _ declared);
      functions = both_hold_first _ _ functions;
      names = both_hold_first _ _ (both_hold_first _ _ (both_hold_second _ _ functions));
      short = both_hold_second _ _ (both_hold_first _ _ (both_hold_second _ _ functions));
      start = both_hold_second _ _ (both_hold_second _ _ functions);
      numbered = both_hold_first _ _ exprs;
      few = both_hold_second _ _ exprs;
    }

-- a list is no longer than the sum over it of what is at least 1
length_le_sum : {X : Type 0} (f : X → ℕ) → ((x : X) → 1 ≤ f x) → (xs : List X) → length xs ≤ sum_by f xs
length_le_sum f each [] = grind arith
length_le_sum f each (x ∷ xs) = rw (sum_by-cons f x xs) (grind (arith, each x, length_le_sum f each xs))

function_counts : (f : FunctionTree) → 1 ≤ function_nodes f
function_counts f = omega arith

expr_counts : (e : ExprTree) → 1 ≤ expr_nodes e
expr_counts (typed s t a) = omega arith

-- the numbers of functions have 28 bits
pub functions_few : (t : TypedTree) → IsTrue (is_well_formed t) → length t.functions < 2 ^ 28
functions_few t h =
    let few = (facts_of t h).few in
    let counted = length_le_sum function_nodes function_counts t.functions in
    grind (arith, nat_tests, counted, few)

-- and so have those of outermost expressions
pub exprs_few : (t : TypedTree) → IsTrue (is_well_formed t) → length t.exprs < 2 ^ 28
exprs_few t h =
    let few = (facts_of t h).few in
    let counted = length_le_sum expr_nodes expr_counts t.exprs in
    grind (arith, nat_tests, counted, few)
