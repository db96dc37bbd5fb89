-- The outermost expressions of judged statements and programs have null only where it may stand.
use Rattle.std.proofs.Common.{◌≡◌, ℕ, ◌+◌, refl, List, [], ◌∷◌, ◌++◌, Bool, true, false, Option, Some, None, is_some, length}
use Rattle.std.specs.Prelude.{◌&&◌, not, slice_get}
use Rattle.std.specs.List.{list_all}
use Rattle.pt_base.specs.declared.ids.FnId.{FnId}
use Rattle.pt_base.specs.declared.span.Span.{Span}
use Rattle.pt_base.proofs.Booleans.{both_hold, both_hold_first, both_hold_second}
use Rattle.pt_tree.specs.ExpressionTree as e
use Rattle.pt_tree.specs.ProgramTree as parsed
use Rattle.pt_tree.specs.ProgramTree.{ItemTree}
use Rattle.pt_tree.specs.StatementTree as s
use Rattle.pt_tree.specs.StatementTree.{BlockTree}
use Rattle.type_rules.specs.declared.types.Type.{«Type»}
use Rattle.type_rules.specs.Types.{is_bad}
use Rattle.typed_tree.specs.ExpressionTree.{ExprTree}
use Rattle.check_declarations.specs.declared.specifiers.Specified.{Specified}
use Rattle.check_declarations.specs.Specifiers.{specified}
use Rattle.check_declarations.specs.Structs.{Structs}
use Rattle.check_expressions.specs.declared.meaning.Callable.{Callable}
use Rattle.check_expressions.specs.Environment.{Env}
use Rattle.check_expressions.specs.Expressions.{judge}
use Rattle.check_expressions.specs.Operands.{span_of, value_of, value_tree}
use Rattle.check_statements.specs.declared.context.Context.{Context}
use Rattle.check_statements.specs.declared.switches.Kind.{Kind}
use Rattle.check_statements.specs.Outermost.{State, evaluated, tested, fitted, maybe_evaluated, maybe_tested}
use Rattle.check_statements.specs.Leaves.{leaves_of}
use Rattle.check_statements.specs.Initialisers.{item, items, initialised}
use Rattle.check_statements.specs.Declarations as d
use Rattle.check_statements.specs.Declarations.{known_variable, local_type}
use Rattle.check_statements.specs.Labels.{Seen, none_seen, labelled}
use Rattle.check_statements.specs.Statements.{looping, switching, inside, with_structs, for_begun, given_back, switched, checked, checked_else, checked_all, checked_sections, checked_section}
use Rattle.check_programs.specs.declared.function_marks.FunctionMarks.{FunctionMarks}
use Rattle.check_programs.specs.Blocks.{block_in}
use Rattle.check_programs.specs.Functions.{Head, head_of, earlier, number_in, declared, declared_as, with_definition, with_head, with_start, completed, checked_function}
use Rattle.check_programs.specs.Globals as g
use Rattle.check_programs.specs.Progress.{Progress, at_start}
use Rattle.check_programs.specs.Programs.{checked_item, checked_items, function_name}
use Rattle.check_programs.specs.Unions.{function_marks}
use Rattle.half_names_law.specs.SaidNulls.{is_placed}
use Rattle.half_names_law.specs.SaidLaws.{CheckedProgramsPlaceNulls}
use Rattle.half_names_law.proofs.SaidConversions.{placed_of, as_type_placed, value_stands}
use Rattle.half_names_law.proofs.SaidJudgments.{judged_stands}

abbrev ArePlaced : List ExprTree → Type 0
ArePlaced xs = list_all is_placed xs ≡ true

both : (xs ys : List ExprTree) → ArePlaced xs → ArePlaced ys → ArePlaced (xs ++ ys)
both [] ys h k = k
both (x ∷ xs) ys h k = both_hold (is_placed x) (list_all is_placed (xs ++ ys)) (both_hold_first (is_placed x) (list_all is_placed xs) h) (both xs ys (both_hold_second (is_placed x) (list_all is_placed xs) h) k)

more : (x : ExprTree) (xs : List ExprTree) → is_placed x ≡ true → ArePlaced xs → ArePlaced (x ∷ xs)
more x xs h k = both_hold (is_placed x) (list_all is_placed xs) h k

-- ---- outermost expressions

evaluated_placed : (st : State) (a : e.ExprTree) → is_placed (evaluated st a).tree ≡ true
evaluated_placed st a = let j = judge st.env st.structs a in placed_of (value_tree (span_of a) j.operand) (value_stands (span_of a) j.operand (judged_stands a st.env st.structs))

fitted_placed : (st : State) (ty : «Type») (a : e.ExprTree) → is_placed (fitted st ty a).tree ≡ true
fitted_placed st ty a = let j = judge st.env st.structs a in as_type_placed ty (value_of j.operand).null (value_tree (span_of a) j.operand) (value_stands (span_of a) j.operand (judged_stands a st.env st.structs))

maybe_placed : (st : State) (o : Option e.ExprTree) → ArePlaced (maybe_evaluated st o).trees
maybe_placed st None = refl
maybe_placed st (Some a) = more (evaluated st a).tree [] (evaluated_placed st a) refl

maybe_tested_placed : (st : State) (o : Option e.ExprTree) → ArePlaced (maybe_tested st o).trees
maybe_tested_placed st None = refl
maybe_tested_placed st (Some a) = more (tested st a).tree [] (evaluated_placed st a) refl

-- ---- initialisers and declarations

item_placed : (st : State) (o : Option «Type») (excess : Bool) (a : e.ExprTree) → is_placed (item st o excess a).tree ≡ true
item_placed st (Some ty) excess a = fitted_placed st ty a
item_placed st None excess a = evaluated_placed st a

items_placed : (es : e.ExprTrees) (st : State) (leaves : List «Type») (counted : Bool) (n : ℕ) → ArePlaced (items st leaves counted n es).trees
items_placed e.no_exprs st leaves counted n = refl
items_placed (e.expr_and a es) st leaves counted n =
    let p = item st (slice_get leaves n) counted a in
    more p.tree (items p.state leaves (counted && is_some (slice_get leaves n)) (n + 1) es).trees (item_placed st (slice_get leaves n) counted a) (items_placed es p.state leaves (counted && is_some (slice_get leaves n)) (n + 1))

initialised_placed : (st : State) (ty : «Type») (init : s.InitTree) → ArePlaced (initialised st ty init).trees
initialised_placed st ty s.no_init = refl
initialised_placed st ty (s.single a) = more (fitted st ty a).tree [] (fitted_placed st ty a) refl
initialised_placed st ty (s.braces at es) = items_placed es st (leaves_of st.structs ty) (not (is_bad ty)) 0

all_declared_placed : (ds : List s.InitDeclaratorTree) (given : Specified) (st : State) → ArePlaced (d.declared_all given st ds).trees
all_declared_placed [] given st = refl
all_declared_placed (x ∷ xs) given st =
    let one = d.declared_one given st x in
    both one.trees (d.declared_all given one.state xs).trees (initialised_placed (known_variable st given x.declarator) (local_type given x.declarator) x.init) (all_declared_placed xs given one.state)

declared_placed : (st : State) (x : s.DeclarationTree) → ArePlaced (d.declared st x).trees
declared_placed st x = let j = specified false st.structs x.specs in all_declared_placed x.declarators j.given (record { env = st.env; structs = j.structs; next = st.next })

begun_placed : (st : State) (i : s.ForInitTree) → ArePlaced (for_begun st i).trees
begun_placed st (s.for_declare x) = declared_placed st x
begun_placed st s.for_nothing = refl
begun_placed st (s.for_expr a) = more (evaluated st a).tree [] (evaluated_placed st a) refl

returned_placed : (st : State) (result : «Type») (at : Span) (o : Option e.ExprTree) → ArePlaced (given_back st result at o).trees
returned_placed st result at None = refl
returned_placed st result at (Some a) = more (fitted st result a).tree [] (fitted_placed st result a) refl

-- ---- statements

mutual
  checked_placed : (x : s.StmtTree) (c : Context) (st : State) → ArePlaced (checked c st x).trees
  checked_placed (s.declare x) c st = declared_placed st x
  checked_placed (s.block at ss) c st = all_placed ss c (inside st)
  checked_placed (s.nothing at) c st = refl
  checked_placed (s.evaluate at a) c st = more (evaluated st a).tree [] (evaluated_placed st a) refl
  checked_placed (s.choose at a x o) c st =
      let p = tested st a in
      let q = checked c p.state x in
      more p.tree (q.trees ++ (checked_else c q.state o).trees) (evaluated_placed st a) (both q.trees (checked_else c q.state o).trees (checked_placed x c p.state) (else_placed o c q.state))
  checked_placed (s.while_true at a x) c st =
      let p = tested st a in
      more p.tree (checked (looping c) p.state x).trees (evaluated_placed st a) (checked_placed x (looping c) p.state)
  checked_placed (s.do_while at x a) c st =
      let q = checked (looping c) st x in
      both q.trees ((tested q.state a).tree ∷ []) (checked_placed x (looping c) st) (more (tested q.state a).tree [] (evaluated_placed q.state a) refl)
  checked_placed (s.for_each at i a u x) c st =
      let b = for_begun (inside st) i in
      let p = maybe_tested b.state a in
      let q = maybe_evaluated p.state u in
      let r = checked (looping c) q.state x in
      both b.trees (p.trees ++ (q.trees ++ r.trees)) (begun_placed (inside st) i) (both p.trees (q.trees ++ r.trees) (maybe_tested_placed b.state a) (both q.trees r.trees (maybe_placed p.state u) (checked_placed x (looping c) q.state)))
  checked_placed (s.give_back at a) c st = returned_placed st c.result at a
  checked_placed (s.stop_loop at) c st = refl
  checked_placed (s.next_turn at) c st = refl
  checked_placed (s.switch at a ss) c st =
      let p = switched st a in
      more p.tree (checked_sections (switching c) p.kind none_seen p.state ss).trees (evaluated_placed st a) (sections_placed ss (switching c) p.kind none_seen p.state)

  else_placed : (o : s.ElseTree) (c : Context) (st : State) → ArePlaced (checked_else c st o).trees
  else_placed s.no_else c st = refl
  else_placed (s.otherwise x) c st = checked_placed x c st

  all_placed : (xs : s.StmtTrees) (c : Context) (st : State) → ArePlaced (checked_all c st xs).trees
  all_placed s.no_stmts c st = refl
  all_placed (s.stmt_and x xs) c st =
      let one = checked c st x in
      both one.trees (checked_all c one.state xs).trees (checked_placed x c st) (all_placed xs c one.state)

  sections_placed : (xs : s.SectionTrees) (c : Context) (kind : Kind) (seen : Seen) (st : State) → ArePlaced (checked_sections c kind seen st xs).trees
  sections_placed s.no_sections c kind seen st = refl
  sections_placed (s.section_and x xs) c kind seen st =
      let one = checked_section c kind seen st x in
      both one.trees (checked_sections c kind one.seen one.state xs).trees (section_placed x c kind seen st) (sections_placed xs c kind one.seen one.state)

  section_placed : (x : s.SectionTree) (c : Context) (kind : Kind) (seen : Seen) (st : State) → ArePlaced (checked_section c kind seen st x).trees
  section_placed (s.section at label xs) c kind seen st = all_placed xs c (with_structs st (labelled st.env kind st.structs seen label).structs)

-- ---- programs

block_placed : (result : «Type») (env : Env) (structs : Structs) (before : ℕ) (xs : List s.StmtTree) → ArePlaced (block_in result env structs before xs).trees
unfolding block_in
block_placed result env structs before xs = all_placed (s.stmt_trees xs) (record { result = result; in_loop = false; in_switch = false }) (record { env = env; structs = structs; next = before })

globals_placed : (ds : List s.InitDeclaratorTree) (given : Specified) (st : Progress) → ArePlaced st.exprs → ArePlaced (g.declared_all given st ds).progress.exprs
globals_placed [] given st h = h
globals_placed (x ∷ xs) given st h = globals_placed xs given (g.declared_one given st x).progress h

defined_placed : (o : Option BlockTree) (st : Progress) (k : ℕ) (result : «Type») (at : Span) → ArePlaced st.exprs → ArePlaced (with_definition st k result at o).progress.exprs
defined_placed None st k result at h = h
defined_placed (Some b) st k result at h = both st.exprs (block_in result st.env st.structs (length st.exprs) b.items).trees h (block_placed result st.env st.structs (length st.exprs) b.items)

known_placed : (marks : FunctionMarks) (st : Progress) (f : Callable) (at : Span) → ArePlaced st.exprs → ArePlaced (declared marks st f at).exprs
known_placed marks st f at h = go (earlier st f)
  where
    go : (o : Option FnId) → ArePlaced (declared_as marks st f at o).exprs
    go None = h
    go (Some k) = h

completed_placed : (marks : FunctionMarks) (st : Progress) (f : Callable) (function : parsed.FunctionTree) → ArePlaced st.exprs → ArePlaced (completed marks st f function).progress.exprs
unfolding completed
completed_placed marks st f function h =
    let at = function.declarator.name.span in
    defined_placed function.body (declared marks st f at) (number_in st (earlier st f)) f.result at (known_placed marks st f at h)

function_placed : (marks : FunctionMarks) (st : Progress) (f : parsed.FunctionTree) → ArePlaced st.exprs → ArePlaced (checked_function marks st f).progress.exprs
function_placed marks st f h =
    let head : Head = head_of marks st.env st.structs f in
    completed_placed marks (with_start (with_head st head) head.callable (is_some f.body)) head.callable f h

one_placed : (marks : FunctionMarks) (st : Progress) (x : ItemTree) → ArePlaced st.exprs → ArePlaced (checked_item marks st x).progress.exprs
one_placed marks st (parsed.declares x) h = let j = specified true st.structs x.specs in globals_placed x.declarators j.given (record st { structs = j.structs }) h
one_placed marks st (parsed.function f) h = function_placed marks st f h

program_placed : (xs : List ItemTree) (marks : List ℕ → FunctionMarks) (st : Progress) → ArePlaced st.exprs → ArePlaced (checked_items marks st xs).progress.exprs
program_placed [] marks st h = h
program_placed (x ∷ xs) marks st h = program_placed xs marks (checked_item (marks (function_name x)) st x).progress (one_placed (marks (function_name x)) st x h)

pub programs_place_nulls : CheckedProgramsPlaceNulls
programs_place_nulls items = program_placed items (function_marks items) at_start refl
