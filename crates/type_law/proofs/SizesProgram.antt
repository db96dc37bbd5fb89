-- The typed tree of a program has at most three nodes for each node of the program.
use Rattle.std.proofs.Common.{◌≡◌, ◌≤◌, ◌+◌, ◌*◌, ◌++◌, ◌∙◌, ap, refl, ℕ, zero, suc, Bool, true, false, List, [], ◌∷◌, length, map, arith, Option, Some, None}
use Rattle.std.specs.Prelude.{◌&&◌, not, is_some, slice_get, slice_set, sum_by, if◌then◌else◌}
use Rattle.std.specs.Option.{option_map_or}
use Rattle.std.proofs.lemmas.List.{length-append, length-map}
use Rattle.std.proofs.lemmas.List.Sums.{sum_by-cons}
use Rattle.pt_base.specs.declared.ids.FnId.{FnId}
use Rattle.pt_base.specs.declared.span.Span.{Span}
use Rattle.pt_tree.specs.ExpressionTree as e
use Rattle.pt_tree.specs.StatementTree.{InitTree, InitDeclaratorTree, DeclarationTree, BlockTree, no_init, single, braces, stmt_trees}
use Rattle.pt_tree.specs.ProgramTree as i
use Rattle.pt_tree.specs.ProgramTree.{ParamTree, ItemTree}
use Rattle.pt_tree.specs.Nodes as parsed
use Rattle.type_rules.specs.declared.types.Type.{«Type»}
use Rattle.type_rules.specs.Types.{is_bad}
use Rattle.typed_tree.specs.declared.variable.Var.{Var}
use Rattle.typed_tree.specs.ExpressionTree.{ExprTree}
use Rattle.typed_tree.specs.StatementTree.{BodyTree, block, body_trees}
use Rattle.typed_tree.specs.TypedTree.{FunctionTree}
use Rattle.typed_tree.specs.Nodes as typed
use Rattle.check_declarations.specs.declared.specifiers.Specified.{Specified}
use Rattle.check_declarations.specs.Cells.{cells_of}
use Rattle.check_declarations.specs.Specifiers.{specified}
use Rattle.check_declarations.specs.Structs.{Structs}
use Rattle.check_expressions.specs.declared.meaning.Callable.{Callable}
use Rattle.check_expressions.specs.declared.meaning.Variable.{Variable}
use Rattle.check_expressions.specs.Environment.{Env, opened, with_global}
use Rattle.check_expressions.specs.StructInfos.{field_info, struct_info, infos_of}
use Rattle.check_statements.specs.declared.constants.Number.{Number}
use Rattle.check_statements.specs.Constants.{number_of}
use Rattle.check_statements.specs.GlobalInitialisers.{item_of, global_item, global_items, global_initialised}
use Rattle.check_statements.specs.Leaves.{leaves_of}
use Rattle.check_statements.specs.Statements.{checked_block}
use Rattle.check_programs.specs.declared.function_marks.FunctionMarks.{FunctionMarks}
use Rattle.check_programs.specs.Unions.{function_marks}
use Rattle.check_programs.specs.Blocks.{block_in}
use Rattle.check_programs.specs.Parameters as p
use Rattle.check_programs.specs.Parameters.{parameters_of, is_void_param, param_variable, with_param}
use Rattle.check_programs.specs.Progress.{Progress, at_start}
use Rattle.check_programs.specs.Functions.{Checked, Head, head_of, result_of, var_of, entry_of, number_in, earlier, declared_as, with_parts, with_body, with_definition, with_head, with_start, completed, checked_function}
use Rattle.check_programs.specs.Globals as g
use Rattle.check_programs.specs.Programs.{checked_item, function_name, checked_items, tree_of}
use Rattle.type_law.specs.SizesLaws.{TypedTreesAreSmall}
use Rattle.type_law.proofs.SizesSpecifier.{struct_nodes, specified_small}
use Rattle.type_law.proofs.SizesExpression.{judge_small}
use Rattle.type_law.proofs.SizesStatement.{trees_nodes, trees_append, all_checked_small}

-- ---- the nodes of a program so far

abbrev functions_nodes : List FunctionTree → ℕ
functions_nodes [] = 0
functions_nodes (f ∷ fs) = typed.function_nodes f + functions_nodes fs

abbrev progress_nodes : Progress → ℕ
progress_nodes st = (struct_nodes st.structs + length st.globals) + (functions_nodes st.functions + trees_nodes st.exprs)

functions_push : (fs : List FunctionTree) (f : FunctionTree) → functions_nodes (fs ++ f ∷ []) ≡ functions_nodes fs + typed.function_nodes f
functions_push [] f = omega arith
functions_push (x ∷ fs) f = let rest = functions_push fs f in omega (arith, rest)

-- another entry in place of one, each of which has a node
set_small : (fs : List FunctionTree) (k : ℕ) (f : FunctionTree) (n : ℕ) → typed.function_nodes f ≤ 1 + n → functions_nodes (slice_set fs k f) ≤ n + functions_nodes fs
set_small [] k f n h = omega arith
set_small (x ∷ fs) zero f n h = omega (arith, h)
set_small (x ∷ fs) (suc k) f n h = let rest = set_small fs k f n h in omega (arith, rest)

with_body_small : (fs : List FunctionTree) (k : ℕ) (at : Span) (vars : List Var) (body : BodyTree) → functions_nodes (with_body fs k at vars body) ≤ (length vars + typed.body_nodes body) + functions_nodes fs
with_body_small fs k at vars body = go (slice_get fs k)
  where
    go : (o : Option FunctionTree) → functions_nodes (option_map_or (λ f. slice_set fs k (with_parts f at vars body)) o fs) ≤ (length vars + typed.body_nodes body) + functions_nodes fs
    go None = omega arith
    go (Some f) = set_small fs k (with_parts f at vars body) (length vars + typed.body_nodes body) (omega arith)

-- ---- globals

item_of_small : (env : Env) (structs : Structs) (leaf : Option «Type») (a : e.ExprTree) (n : Option Number) → struct_nodes (item_of env structs leaf a n).structs ≤ 3 * parsed.expr_nodes a + struct_nodes structs
item_of_small env structs leaf a (Some n) = omega arith
item_of_small env structs leaf a None = let one = judge_small env structs a in omega (arith, one)

items_small : (env : Env) (structs : Structs) (leaves : List «Type») (is_counted : Bool) (n : ℕ) (es : e.ExprTrees) → struct_nodes (global_items env structs leaves is_counted n es).structs ≤ 3 * parsed.exprs_nodes es + struct_nodes structs
items_small env structs leaves is_counted n e.no_exprs = omega arith
items_small env structs leaves is_counted n (e.expr_and a es) =
    let one = item_of_small env structs (slice_get leaves n) a (number_of a) in
    let rest = items_small env (global_item env structs (slice_get leaves n) a).structs leaves (is_counted && is_some (slice_get leaves n)) (n + 1) es in
    omega (arith, one, rest)

initialised_small : (env : Env) (structs : Structs) (ty : «Type») (x : InitTree) → struct_nodes (global_initialised env structs ty x).structs ≤ 3 * parsed.init_nodes x + struct_nodes structs
initialised_small env structs ty no_init = omega arith
initialised_small env structs ty (single a) = item_of_small env structs (Some ty) a (number_of a)
initialised_small env structs ty (braces span es) = let all = items_small env structs (leaves_of structs ty) (not (is_bad ty)) 0 es in omega (arith, all)

-- behind an item: no more nodes than so many, and no variables
record Small (nodes : ℕ) (st : Progress) (c : Checked) : Type 0 where
  few : progress_nodes c.progress ≤ nodes + progress_nodes st
  none : length c.progress.env.variables ≡ 0

global_small : (given : Specified) (st : Progress) (d : InitDeclaratorTree) → length st.env.variables ≡ 0 → Small (1 + 3 * parsed.init_nodes d.init) st (g.declared_one given st d)
global_small given st d none =
    let more = length-append st.globals (g.typed_global given d.declarator (g.start_cells st.cells (cells_of st.structs (g.global_type given d.declarator)) (global_initialised (with_global st.env d.declarator.name.bytes (g.object_of given d.declarator)) st.structs (g.global_type given d.declarator) d.init).values) ∷ []) in
    let init = initialised_small (with_global st.env d.declarator.name.bytes (g.object_of given d.declarator)) st.structs (g.global_type given d.declarator) d.init in
    record { few = omega (arith, more, init); none = none }

globals_small : (given : Specified) (st : Progress) (ds : List InitDeclaratorTree) → length st.env.variables ≡ 0 → Small (3 * parsed.inits_nodes ds) st (g.declared_all given st ds)
globals_small given st [] none = record { few = omega arith; none = none }
globals_small given st (d ∷ ds) none =
    let one = global_small given st d none in
    let rest = globals_small given (g.declared_one given st d).progress ds one.none in
    let first = one.few in
    let others = rest.few in
    record { few = omega (arith, first, others); none = rest.none }

declaration_small : (st : Progress) (d : DeclarationTree) → length st.env.variables ≡ 0 → Small (3 * parsed.declaration_nodes d) st (g.checked_declaration st d)
declaration_small st d none =
    let j = specified_small true st.structs d.specs in
    let all = globals_small (specified true st.structs d.specs).given (record st { structs = (specified true st.structs d.specs).structs }) d.declarators none in
    let few = all.few in
    record { few = omega (arith, j, few); none = all.none }

-- ---- parameters

param_added : (env : Env) (is_named : Bool) (v : Variable) → length (with_param env is_named v).variables ≡ 1 + length env.variables
param_added env true v = length-append env.variables (v ∷ []) ∙ omega arith
param_added env false v = length-append env.variables (v ∷ []) ∙ omega arith

params_added : (marks : FunctionMarks) (defines : Bool) (env : Env) (structs : Structs) (ps : List ParamTree) → length (p.declared_all marks defines env structs ps).env.variables ≤ parsed.params_nodes ps + length env.variables
params_added marks defines env structs [] = omega arith
params_added marks defines env structs (x ∷ ps) =
    let one = param_added env (is_some x.name) (param_variable marks defines (length env.variables) x (specified false structs x.specs).given) in
    let rest = params_added marks defines (p.declared_one marks defines env structs x).env (p.declared_one marks defines env structs x).structs ps in
    omega (arith, one, rest)

param_structs : (marks : FunctionMarks) (defines : Bool) (env : Env) (structs : Structs) (ps : List ParamTree) → struct_nodes (p.declared_all marks defines env structs ps).structs ≤ parsed.params_nodes ps + struct_nodes structs
param_structs marks defines env structs [] = omega arith
param_structs marks defines env structs (x ∷ ps) =
    let one = specified_small false structs x.specs in
    let rest = param_structs marks defines (p.declared_one marks defines env structs x).env (p.declared_one marks defines env structs x).structs ps in
    omega (arith, one, rest)

parameters_few : (ps : List ParamTree) → parsed.params_nodes (parameters_of ps) ≤ parsed.params_nodes ps
parameters_few [] = omega arith
parameters_few (x ∷ []) = go (is_void_param x)
  where
    go : (b : Bool) → parsed.params_nodes (if b then [] else x ∷ []) ≤ parsed.params_nodes (x ∷ [])
    go true = omega arith
    go false = omega arith
parameters_few (x ∷ y ∷ ps) = omega arith

-- ---- functions

-- what stands before a body
record SmallHead (env : Env) (structs : Structs) (f : i.FunctionTree) (h : Head) : Type 0 where
  variables : length h.env.variables ≤ parsed.params_nodes f.params + length env.variables
  structs_few : struct_nodes h.structs ≤ (parsed.specs_nodes f.specs + parsed.params_nodes f.params) + struct_nodes structs

head_small : (marks : FunctionMarks) (env : Env) (structs : Structs) (f : i.FunctionTree) → SmallHead env structs f (head_of marks env structs f)
unfolding head_of
head_small marks env structs f =
    let few = parameters_few f.params in
    let j = specified_small true structs f.specs in
    let vars = params_added marks (is_some f.body) (opened env) (result_of marks.privileged structs f).structs (parameters_of f.params) in
    let own = param_structs marks (is_some f.body) (opened env) (result_of marks.privileged structs f).structs (parameters_of f.params) in
    record { variables = omega (arith, few, vars); structs_few = omega (arith, few, j, own) }

declared_as_small : (marks : FunctionMarks) (st : Progress) (f : Callable) (at : Span) (o : Option FnId) → progress_nodes (declared_as marks st f at o) ≤ (1 + length st.env.variables) + progress_nodes st
declared_as_small marks st f at None =
    let more = functions_push st.functions (entry_of marks f st.env.variables at) in
    let same = length-map st.env.variables var_of in
    omega (arith, more, same)
declared_as_small marks st f at (Some k) = omega arith

declared_as_variables : (marks : FunctionMarks) (st : Progress) (f : Callable) (at : Span) (o : Option FnId) → length (declared_as marks st f at o).env.variables ≡ length st.env.variables
declared_as_variables marks st f at None = refl
declared_as_variables marks st f at (Some k) = refl

definition_small : (st : Progress) (k : ℕ) (result : «Type») (at : Span) (b : Option BlockTree) → Small (3 * parsed.body_nodes b + length st.env.variables) st (with_definition st k result at b)
unfolding block_in
definition_small st k result at None = record { few = omega arith; none = refl }
definition_small st k result at (Some b) =
    let body = all_checked_small (record { result = result; in_loop = false; in_switch = false }) (record { env = st.env; structs = st.structs; next = length st.exprs }) (stmt_trees b.items) in
    let same = length-map (checked_block result (record { env = st.env; structs = st.structs; next = length st.exprs }) b.items).state.env.variables var_of in
    let parts = with_body_small st.functions k at (map var_of (checked_block result (record { env = st.env; structs = st.structs; next = length st.exprs }) b.items).state.env.variables) (block b.span (body_trees (checked_block result (record { env = st.env; structs = st.structs; next = length st.exprs }) b.items).bodies)) in
    let trees = trees_append st.exprs (checked_block result (record { env = st.env; structs = st.structs; next = length st.exprs }) b.items).trees in
    record { few = omega (arith, body, same, parts, trees); none = refl }

completed_small : (marks : FunctionMarks) (st : Progress) (f : Callable) (function : i.FunctionTree) → Small ((1 + 2 * length st.env.variables) + 3 * parsed.body_nodes function.body) st (completed marks st f function)
unfolding completed
completed_small marks st f function =
    let before = declared_as_small marks st f function.declarator.name.span (earlier st f) in
    let vars = declared_as_variables marks st f function.declarator.name.span (earlier st f) in
    let own = definition_small (declared_as marks st f function.declarator.name.span (earlier st f)) (number_in st (earlier st f)) f.result function.declarator.name.span function.body in
    let few = own.few in
    record { few = omega (arith, before, vars, few); none = own.none }

function_small : (marks : FunctionMarks) (st : Progress) (f : i.FunctionTree) → length st.env.variables ≡ 0 → Small (3 * parsed.function_nodes f) st (checked_function marks st f)
function_small marks st f none =
    let head = head_small marks st.env st.structs f in
    let own = completed_small marks (with_start (with_head st (head_of marks st.env st.structs f)) (head_of marks st.env st.structs f).callable (is_some f.body)) (head_of marks st.env st.structs f).callable f in
    let vars = head.variables in
    let structs = head.structs_few in
    let few = own.few in
    record { few = omega (arith, none, vars, structs, few); none = own.none }

-- ---- programs

item_small : (marks : FunctionMarks) (st : Progress) (x : ItemTree) → length st.env.variables ≡ 0 → Small (3 * parsed.item_nodes x) st (checked_item marks st x)
item_small marks st (i.declares d) none = declaration_small st d none
item_small marks st (i.function f) none = function_small marks st f none

program_small : (marks : List ℕ → FunctionMarks) (st : Progress) (xs : List ItemTree) → length st.env.variables ≡ 0 → Small (3 * parsed.nodes_of xs) st (checked_items marks st xs)
program_small marks st [] none = record { few = omega arith; none = none }
program_small marks st (x ∷ xs) none =
    let one = item_small (marks (function_name x)) st x none in
    let rest = program_small marks (checked_item (marks (function_name x)) st x).progress xs one.none in
    let first = one.few in
    let others = rest.few in
    record { few = omega (arith, first, others); none = rest.none }

structs_sum : (ss : Structs) → sum_by (λ s. 1 + length s.fields) (infos_of ss) ≡ struct_nodes ss
structs_sum [] = refl
structs_sum (s ∷ ss) =
    let more = sum_by-cons (λ x. 1 + length x.fields) (struct_info s) (infos_of ss) in
    let same = length-map s.1.fields field_info in
    let rest = structs_sum ss in
    more ∙ ap (λ n. (1 + length (map field_info s.1.fields)) + n) rest ∙ ap (λ n. (1 + n) + struct_nodes ss) same

functions_sum : (fs : List FunctionTree) → sum_by typed.function_nodes fs ≡ functions_nodes fs
functions_sum [] = refl
functions_sum (f ∷ fs) = sum_by-cons typed.function_nodes f fs ∙ ap (λ n. typed.function_nodes f + n) (functions_sum fs)

trees_sum : (xs : List ExprTree) → sum_by typed.expr_nodes xs ≡ trees_nodes xs
trees_sum [] = refl
trees_sum (x ∷ xs) = sum_by-cons typed.expr_nodes x xs ∙ ap (λ n. typed.expr_nodes x + n) (trees_sum xs)

-- the tree that a walk leaves
left_small : (st : Progress) → typed.nodes_of (tree_of st) ≡ progress_nodes st
left_small st =
    let a = structs_sum st.structs in
    let b = functions_sum st.functions in
    let c = trees_sum st.exprs in
    omega (arith, a, b, c)

pub typed_trees_are_small : TypedTreesAreSmall
typed_trees_are_small items =
    let all = program_small (function_marks items) at_start items refl in
    let few = all.few in
    let same = left_small (checked_items (function_marks items) at_start items).progress in
    omega (arith, few, same)
