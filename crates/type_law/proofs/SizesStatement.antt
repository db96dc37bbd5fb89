-- Statements, with their outermost expressions and the variables and structs that they declare, have at
-- most three nodes for each node of the program.
use Rattle.std.proofs.Common.{◌≡◌, ◌≤◌, ◌+◌, ◌*◌, ◌++◌, ℕ, Bool, false, List, [], ◌∷◌, length, arith, Option, Some, None}
use Rattle.std.specs.Prelude.{◌&&◌, not, is_some, slice_get}
use Rattle.std.proofs.lemmas.List.{length-append}
use Rattle.pt_base.specs.declared.span.Span.{Span}
use Rattle.pt_tree.specs.ExpressionTree as e
use Rattle.pt_tree.specs.StatementTree as s
use Rattle.pt_tree.specs.StatementTree.{InitTree, InitDeclaratorTree, DeclarationTree, no_init, single, braces}
use Rattle.pt_tree.specs.Nodes as parsed
use Rattle.type_rules.specs.declared.types.Type.{«Type»}
use Rattle.type_rules.specs.Types.{is_bad}
use Rattle.typed_tree.specs.ExpressionTree.{ExprTree}
use Rattle.typed_tree.specs.StatementTree as t
use Rattle.typed_tree.specs.Nodes as typed
use Rattle.typed_tree.specs.Nodes.{expr_nodes}
use Rattle.check_declarations.specs.declared.specifiers.Specified.{Specified}
use Rattle.check_declarations.specs.Specifiers.{specified}
use Rattle.check_declarations.specs.Structs.{Structs}
use Rattle.check_expressions.specs.Environment.{Env}
use Rattle.check_expressions.specs.Expressions.{judge}
use Rattle.check_expressions.specs.Operands.{value_of, value_tree, span_of}
use Rattle.check_statements.specs.declared.context.Context.{Context}
use Rattle.check_statements.specs.declared.constants.Number.{Number}
use Rattle.check_statements.specs.declared.switches.Kind.{Kind}
use Rattle.check_statements.specs.Constants.{number_of}
use Rattle.check_statements.specs.Declarations.{local_type, variable_of, known_variable, declared_one, declared_all, declared}
use Rattle.check_statements.specs.Initialisers.{item, items, initialised}
use Rattle.check_statements.specs.Labels.{Seen, none_seen, case_by, labelled}
use Rattle.check_statements.specs.Leaves.{leaves_of}
use Rattle.check_statements.specs.Outermost.{State, evaluated, tested, fitted, maybe_evaluated, maybe_tested}
use Rattle.check_statements.specs.Statements.{looping, switching, inside, with_structs, for_begun, given_back, switched, checked, checked_else, checked_all, checked_sections, checked_section}
use Rattle.type_law.proofs.SizesSpecifier.{struct_nodes, specified_small}
use Rattle.type_law.proofs.SizesTree.{value_small, as_type_small}
use Rattle.type_law.proofs.SizesExpression.{judge_small}

-- outermost expressions
abbrev pub trees_nodes : List ExprTree → ℕ
trees_nodes [] = 0
trees_nodes (x ∷ xs) = expr_nodes x + trees_nodes xs

pub trees_append : (xs ys : List ExprTree) → trees_nodes (xs ++ ys) ≡ trees_nodes xs + trees_nodes ys
trees_append [] ys = omega arith
trees_append (x ∷ xs) ys = let rest = trees_append xs ys in omega (arith, rest)

-- what is declared where a statement stands: structs and variables
abbrev pub state_nodes : State → ℕ
state_nodes st = struct_nodes st.structs + length st.env.variables

-- ---- outermost expressions

pub evaluated_small : (st : State) (a : e.ExprTree) → expr_nodes (evaluated st a).tree + state_nodes (evaluated st a).state ≤ 3 * parsed.expr_nodes a + state_nodes st
evaluated_small st a =
    let one = judge_small st.env st.structs a in
    let read = value_small (span_of a) (judge st.env st.structs a).operand in
    omega (arith, one, read)

tested_small : (st : State) (a : e.ExprTree) → expr_nodes (tested st a).tree + state_nodes (tested st a).state ≤ 3 * parsed.expr_nodes a + state_nodes st
tested_small st a = evaluated_small st a

fitted_small : (st : State) (ty : «Type») (a : e.ExprTree) → expr_nodes (fitted st ty a).tree + state_nodes (fitted st ty a).state ≤ 3 * parsed.expr_nodes a + state_nodes st
fitted_small st ty a =
    let one = judge_small st.env st.structs a in
    let read = value_small (span_of a) (judge st.env st.structs a).operand in
    let own = as_type_small ty (value_of (judge st.env st.structs a).operand).null (value_tree (span_of a) (judge st.env st.structs a).operand) in
    omega (arith, one, read, own)

maybe_evaluated_small : (st : State) (a : Option e.ExprTree) → trees_nodes (maybe_evaluated st a).trees + state_nodes (maybe_evaluated st a).state ≤ 3 * parsed.option_nodes a + state_nodes st
maybe_evaluated_small st None = omega arith
maybe_evaluated_small st (Some a) = let one = evaluated_small st a in omega (arith, one)

maybe_tested_small : (st : State) (a : Option e.ExprTree) → trees_nodes (maybe_tested st a).trees + state_nodes (maybe_tested st a).state ≤ 3 * parsed.option_nodes a + state_nodes st
maybe_tested_small st None = omega arith
maybe_tested_small st (Some a) = let one = tested_small st a in omega (arith, one)

given_back_small : (st : State) (result : «Type») (span : Span) (a : Option e.ExprTree) → trees_nodes (given_back st result span a).trees + state_nodes (given_back st result span a).state ≤ 3 * parsed.option_nodes a + state_nodes st
given_back_small st result span None = omega arith
given_back_small st result span (Some a) = let one = fitted_small st result a in omega (arith, one)

-- ---- declarations

item_small : (st : State) (leaf : Option «Type») (is_excess : Bool) (a : e.ExprTree) → expr_nodes (item st leaf is_excess a).tree + state_nodes (item st leaf is_excess a).state ≤ 3 * parsed.expr_nodes a + state_nodes st
item_small st (Some ty) is_excess a = fitted_small st ty a
item_small st None is_excess a = evaluated_small st a

items_small : (st : State) (leaves : List «Type») (is_counted : Bool) (n : ℕ) (es : e.ExprTrees)
    → trees_nodes (items st leaves is_counted n es).trees + state_nodes (items st leaves is_counted n es).state ≤ 3 * parsed.exprs_nodes es + state_nodes st
items_small st leaves is_counted n e.no_exprs = omega arith
items_small st leaves is_counted n (e.expr_and a es) =
    let one = item_small st (slice_get leaves n) is_counted a in
    let rest = items_small (item st (slice_get leaves n) is_counted a).state leaves (is_counted && is_some (slice_get leaves n)) (n + 1) es in
    omega (arith, one, rest)

initialised_small : (st : State) (ty : «Type») (i : InitTree) → trees_nodes (initialised st ty i).trees + state_nodes (initialised st ty i).state ≤ 3 * parsed.init_nodes i + state_nodes st
initialised_small st ty no_init = omega arith
initialised_small st ty (single a) = let one = fitted_small st ty a in omega (arith, one)
initialised_small st ty (braces span es) = let all = items_small st (leaves_of st.structs ty) (not (is_bad ty)) 0 es in omega (arith, all)

declared_one_small : (given : Specified) (st : State) (d : InitDeclaratorTree)
    → trees_nodes (declared_one given st d).trees + state_nodes (declared_one given st d).state ≤ 1 + (3 * parsed.init_nodes d.init + state_nodes st)
declared_one_small given st d =
    let more = length-append st.env.variables (variable_of given d.declarator ∷ []) in
    let init = initialised_small (known_variable st given d.declarator) (local_type given d.declarator) d.init in
    omega (arith, more, init)

declared_all_small : (given : Specified) (st : State) (ds : List InitDeclaratorTree)
    → length (declared_all given st ds).declarators + (trees_nodes (declared_all given st ds).trees + state_nodes (declared_all given st ds).state) ≤ 3 * parsed.inits_nodes ds + state_nodes st
declared_all_small given st [] = omega arith
declared_all_small given st (d ∷ ds) =
    let one = declared_one_small given st d in
    let rest = declared_all_small given (declared_one given st d).state ds in
    let trees = trees_append (declared_one given st d).trees (declared_all given (declared_one given st d).state ds).trees in
    omega (arith, one, rest, trees)

declared_small : (st : State) (d : DeclarationTree)
    → typed.declaration_nodes (declared st d).declaration + (trees_nodes (declared st d).trees + state_nodes (declared st d).state) ≤ 3 * parsed.declaration_nodes d + state_nodes st
declared_small st d =
    let j = specified_small false st.structs d.specs in
    let all = declared_all_small (specified false st.structs d.specs).given (record { env = st.env; structs = (specified false st.structs d.specs).structs; next = st.next }) d.declarators in
    omega (arith, j, all)

for_begun_small : (st : State) (i : s.ForInitTree) → typed.for_init_nodes (for_begun st i).init + (trees_nodes (for_begun st i).trees + state_nodes (for_begun st i).state) ≤ 3 * parsed.for_init_nodes i + state_nodes st
for_begun_small st (s.for_declare d) = declared_small st d
for_begun_small st s.for_nothing = omega arith
for_begun_small st (s.for_expr a) = let one = evaluated_small st a in omega (arith, one)

-- ---- labels

case_small : (env : Env) (kind : Kind) (structs : Structs) (seen : Seen) (span : Span) (a : e.ExprTree) (n : Option Number)
    → struct_nodes (case_by env kind structs seen span a n).structs ≤ 3 * parsed.expr_nodes a + struct_nodes structs
case_small env kind structs seen span a (Some n) = omega arith
case_small env kind structs seen span a None = let one = judge_small env structs a in omega (arith, one)

labelled_small : (env : Env) (kind : Kind) (structs : Structs) (seen : Seen) (l : s.LabelTree) → struct_nodes (labelled env kind structs seen l).structs ≤ 3 * parsed.label_nodes l + struct_nodes structs
labelled_small env kind structs seen (s.case_label span a) = let one = case_small env kind structs seen span a (number_of a) in omega (arith, one)
labelled_small env kind structs seen (s.default_label span) = omega arith

switched_small : (st : State) (a : e.ExprTree) → expr_nodes (switched st a).tree + state_nodes (switched st a).state ≤ 3 * parsed.expr_nodes a + state_nodes st
switched_small st a = evaluated_small st a

-- ---- statements

mutual
  checked_small : (c : Context) (st : State) (x : s.StmtTree)
      → typed.body_nodes (checked c st x).tree + (trees_nodes (checked c st x).trees + state_nodes (checked c st x).state) ≤ 3 * parsed.stmt_nodes x + state_nodes st
  checked_small c st (s.declare d) = declared_small st d
  checked_small c st (s.block span ss) = let all = all_checked_small c (inside st) ss in omega (arith, all)
  checked_small c st (s.nothing span) = omega arith
  checked_small c st (s.evaluate span a) = let p = evaluated_small st a in omega (arith, p)
  checked_small c st (s.choose span a x o) =
      let p = tested_small st a in
      let q = checked_small c (tested st a).state x in
      let r = else_small c (checked c (tested st a).state x).state o in
      let trees = trees_append (checked c (tested st a).state x).trees (checked_else c (checked c (tested st a).state x).state o).trees in
      omega (arith, p, q, r, trees)
  checked_small c st (s.while_true span a x) =
      let p = tested_small st a in
      let q = checked_small (looping c) (tested st a).state x in
      omega (arith, p, q)
  checked_small c st (s.do_while span x a) =
      let q = checked_small (looping c) st x in
      let p = tested_small (checked (looping c) st x).state a in
      let trees = trees_append (checked (looping c) st x).trees ((tested (checked (looping c) st x).state a).tree ∷ []) in
      omega (arith, p, q, trees)
  checked_small c st (s.for_each span i a u x) =
      let b = for_begun_small (inside st) i in
      let p = maybe_tested_small (for_begun (inside st) i).state a in
      let q = maybe_evaluated_small (maybe_tested (for_begun (inside st) i).state a).state u in
      let r = checked_small (looping c) (maybe_evaluated (maybe_tested (for_begun (inside st) i).state a).state u).state x in
      let last = trees_append (maybe_evaluated (maybe_tested (for_begun (inside st) i).state a).state u).trees (checked (looping c) (maybe_evaluated (maybe_tested (for_begun (inside st) i).state a).state u).state x).trees in
      let middle = trees_append (maybe_tested (for_begun (inside st) i).state a).trees ((maybe_evaluated (maybe_tested (for_begun (inside st) i).state a).state u).trees ++ (checked (looping c) (maybe_evaluated (maybe_tested (for_begun (inside st) i).state a).state u).state x).trees) in
      let all = trees_append (for_begun (inside st) i).trees ((maybe_tested (for_begun (inside st) i).state a).trees ++ ((maybe_evaluated (maybe_tested (for_begun (inside st) i).state a).state u).trees ++ (checked (looping c) (maybe_evaluated (maybe_tested (for_begun (inside st) i).state a).state u).state x).trees)) in
      omega (arith, b, p, q, r, last, middle, all)
  checked_small c st (s.give_back span a) = let p = given_back_small st c.result span a in omega (arith, p)
  checked_small c st (s.stop_loop span) = omega arith
  checked_small c st (s.next_turn span) = omega arith
  checked_small c st (s.switch span a ss) =
      let p = switched_small st a in
      let q = sections_small (switching c) (switched st a).kind none_seen (switched st a).state ss in
      omega (arith, p, q)

  else_small : (c : Context) (st : State) (o : s.ElseTree)
      → typed.else_nodes (checked_else c st o).tree + (trees_nodes (checked_else c st o).trees + state_nodes (checked_else c st o).state) ≤ 3 * parsed.else_nodes o + state_nodes st
  else_small c st s.no_else = omega arith
  else_small c st (s.otherwise x) = checked_small c st x

  pub all_checked_small : (c : Context) (st : State) (xs : s.StmtTrees)
      → typed.bodies_nodes (t.body_trees (checked_all c st xs).bodies) + (trees_nodes (checked_all c st xs).trees + state_nodes (checked_all c st xs).state) ≤ 3 * parsed.stmts_nodes xs + state_nodes st
  all_checked_small c st s.no_stmts = omega arith
  all_checked_small c st (s.stmt_and x xs) =
      let one = checked_small c st x in
      let rest = all_checked_small c (checked c st x).state xs in
      let trees = trees_append (checked c st x).trees (checked_all c (checked c st x).state xs).trees in
      omega (arith, one, rest, trees)

  sections_small : (c : Context) (kind : Kind) (seen : Seen) (st : State) (xs : s.SectionTrees)
      → typed.section_nodes (t.section_trees (checked_sections c kind seen st xs).sections) + (trees_nodes (checked_sections c kind seen st xs).trees + state_nodes (checked_sections c kind seen st xs).state) ≤ 3 * parsed.sections_nodes xs + state_nodes st
  sections_small c kind seen st s.no_sections = omega arith
  sections_small c kind seen st (s.section_and (s.section span label xs) rest) =
      let l = labelled_small st.env kind st.structs seen label in
      let all = all_checked_small c (with_structs st (labelled st.env kind st.structs seen label).structs) xs in
      let others = sections_small c kind (checked_section c kind seen st (s.section span label xs)).seen (checked_section c kind seen st (s.section span label xs)).state rest in
      let trees = trees_append (checked_section c kind seen st (s.section span label xs)).trees (checked_sections c kind (checked_section c kind seen st (s.section span label xs)).seen (checked_section c kind seen st (s.section span label xs)).state rest).trees in
      omega (arith, l, all, others, trees)
