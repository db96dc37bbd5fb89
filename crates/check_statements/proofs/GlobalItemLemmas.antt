-- As many leaves as a global's initialiser has items suffice.
use Rattle.std.proofs.Common.{◌≡◌, ℕ, List, [], ◌∷◌, ◌++◌, ◌<◌, ◌+◌, Bool, ◌&&◌, Option, is_some, slice_get, length, refl, ap, subst, ◌∙◌, arith, Vec, Result, ℤ}
use Rattle.std.specs.declared.alloc.AllocError.{AllocError}
use Rattle.std.specs.declared.alloc.Global.{Global}
use Rattle.check_declarations.specs.declared.findings.Findings.{Findings}
use Rattle.check_statements.specs.Gives.{GivesGlobal}
use Rattle.pt_tree.specs.ExpressionTree.{ExprTree, expr_trees}
use Rattle.type_rules.specs.declared.types.Type.{«Type»}
use Rattle.check_declarations.specs.Structs.{Structs}
use Rattle.check_expressions.specs.Environment.{Env}
use Rattle.check_statements.specs.GlobalInitialisers.{GlobalInit, global_item, excess_faults, global_items}
use Rattle.typed_tree.proofs.AlikeLists.{AreAlike, alike_at}

abbrev step : Env → Structs → Bool → ExprTree → Option «Type» → GlobalInit → GlobalInit
step env structs c a leaf rest =
    let one = global_item env structs leaf a in
    record { structs = rest.structs; values = one.values ++ rest.values; faults = one.faults ++ excess_faults c leaf a ++ rest.faults }

same_items : (es : List ExprTree) (env : Env) (structs : Structs) (ls ls' : List «Type») (c : Bool) (n : ℕ) → ((k : ℕ) → k < n + length es → slice_get ls k ≡ slice_get ls' k) → global_items env structs ls c n (expr_trees es) ≡ global_items env structs ls' c n (expr_trees es)
same_items [] env structs ls ls' c n h = refl
same_items (a ∷ es) env structs ls ls' c n h =
    let is : slice_get ls n ≡ slice_get ls' n = h n (omega arith) in
    let after = global_item env structs (slice_get ls n) a in
    let rest : global_items env after.structs ls (c && is_some (slice_get ls n)) (n + 1) (expr_trees es) ≡ global_items env after.structs ls' (c && is_some (slice_get ls n)) (n + 1) (expr_trees es) = same_items es env _ ls ls' _ (n + 1) (λ k lt. h k (omega (arith, lt))) in
    ap (step env structs c a (slice_get ls n)) rest
    ∙ ap (λ leaf. step env structs c a leaf (global_items env (global_item env structs leaf a).structs ls' (c && is_some leaf) (n + 1) (expr_trees es))) is

pub global_items_alike : (es : List ExprTree) (env : Env) (structs : Structs) (w : ℕ) (ls ls' : List «Type») (c : Bool) → w ≡ length es → AreAlike w ls ls' → global_items env structs ls c 0 (expr_trees es) ≡ global_items env structs ls' c 0 (expr_trees es)
global_items_alike es env structs w ls ls' c e h = same_items es env structs ls ls' c 0 (λ k lt. alike_at w k ls ls' h (omega (arith, e, lt)))

pub globals_alike : (r : Result (Vec ℤ Global) AllocError) (before after : Findings) (env : Env) (structs : Structs) (es : List ExprTree) (w : ℕ) (given ls ls' : List «Type») (c c' : Bool) → GivesGlobal r before after (global_items env structs given c 0 (expr_trees es)) → given ≡ ls → c ≡ c' → w ≡ length es → AreAlike w ls ls' → GivesGlobal r before after (global_items env structs ls' c' 0 (expr_trees es))
globals_alike r before after env structs es w given ls ls' c c' h is same e alike =
    subst (λ (all : GlobalInit). GivesGlobal r before after all)
    (ap (λ l. global_items env structs l c 0 (expr_trees es)) is ∙ global_items_alike es env structs w ls ls' c e alike ∙ ap (λ b. global_items env structs ls' b 0 (expr_trees es)) same) h
