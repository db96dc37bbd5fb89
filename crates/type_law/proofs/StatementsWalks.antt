-- Whatever the faults, declarations and initialisers number their outermost expressions one after the
-- other, and add variables at the end.
use Rattle.std.proofs.Common.{ℕ, ◌+◌, refl, List, [], ◌∷◌, Bool, false, Option, Some, None, length, map, arith}
use Rattle.std.specs.Prelude.{◌&&◌, is_some, not, slice_get}
use Rattle.pt_base.specs.declared.ids.VarId.{VarId}
use Rattle.pt_base.specs.declared.span.Span.{Span}
use Rattle.pt_tree.specs.ExpressionTree as e
use Rattle.pt_tree.specs.StatementTree as s
use Rattle.pt_tree.specs.StatementTree.{InitTree, InitDeclaratorTree, DeclarationTree, ForInitTree, no_init, single, braces}
use Rattle.type_rules.specs.declared.types.Type.{«Type»}
use Rattle.type_rules.specs.Types.{is_bad}
use Rattle.typed_tree.specs.declared.part.Role.TheVariants as role
use Rattle.typed_tree.specs.Parts.{part_of, optional_part, init_parts, declarator_parts, declaration_parts, for_init_parts}
use Rattle.check_declarations.specs.declared.specifiers.Specified.{Specified}
use Rattle.check_declarations.specs.Specifiers.{specified}
use Rattle.check_statements.specs.Leaves.{leaves_of}
use Rattle.check_statements.specs.Outermost.{State, maybe_evaluated, maybe_tested}
use Rattle.check_statements.specs.Initialisers.{item, items, initialised}
use Rattle.check_statements.specs.Declarations.{known_variable, local_type, variable_of, declared_one, declared_all, declared}
use Rattle.check_statements.specs.Statements.{for_begun, given_back, with_structs}
use Rattle.type_law.proofs.StatementsNumbering.{Goes, goes_nowhere, goes_on, goes_one, goes_with}

item_goes : (v : VarId) (st : State) (leaf : Option «Type») (excess : Bool) (a : e.ExprTree) → Goes st (item st leaf excess a).state ((item st leaf excess a).tree ∷ []) (part_of (role.Init v) (item st leaf excess a).id ∷ [])
item_goes v st None excess a = goes_one st _ _ _
item_goes v st (Some ty) excess a = goes_one st _ _ _

pub items_go : (v : VarId) (st : State) (leaves : List «Type») (counted : Bool) (k : ℕ) (es : e.ExprTrees) → Goes st (items st leaves counted k es).state (items st leaves counted k es).trees (map (part_of (role.Init v)) (items st leaves counted k es).ids)
items_go v st leaves counted k e.no_exprs = goes_nowhere st
items_go v st leaves counted k (e.expr_and a es) =
    let leaf = slice_get leaves k in
    let p = item st leaf counted a in
    let rest = items p.state leaves (counted && is_some leaf) (k + 1) es in
    goes_on st p.state rest.state (p.tree ∷ []) rest.trees (part_of (role.Init v) p.id ∷ []) (map (part_of (role.Init v)) rest.ids)
    (item_goes v st leaf counted a) (items_go v p.state leaves (counted && is_some leaf) (k + 1) es)

pub initialised_goes : (v : VarId) (st : State) (ty : «Type») (init : InitTree) → Goes st (initialised st ty init).state (initialised st ty init).trees (init_parts v (initialised st ty init).init)
initialised_goes v st ty no_init = goes_nowhere st
initialised_goes v st ty (single a) = goes_one st _ _ _
initialised_goes v st ty (braces p es) = items_go v st (leaves_of st.structs ty) (not (is_bad ty)) 0 es

-- a variable more
pub goes_variable : (st : State) (given : Specified) (d : InitDeclaratorTree) → Goes st (known_variable st given d.declarator) [] []
goes_variable st given d = record {
  file = refl;
  functions = refl;
  globals = refl;
  new = variable_of given d.declarator ∷ [];
  variables = refl;
  next = omega arith;
  numbers = tt;
  many = refl;
}

pub initialiser_goes : (given : Specified) (st : State) (d : InitDeclaratorTree) → Goes (known_variable st given d.declarator) (declared_one given st d).state (declared_one given st d).trees (declarator_parts (declared_one given st d).declarator)
initialiser_goes given st d = initialised_goes (record { 0 = length st.env.variables }) (known_variable st given d.declarator) (local_type given d.declarator) d.init

pub declared_one_goes : (given : Specified) (st : State) (d : InitDeclaratorTree) → Goes st (declared_one given st d).state (declared_one given st d).trees (declarator_parts (declared_one given st d).declarator)
declared_one_goes given st d =
    let one = declared_one given st d in
    goes_on st (known_variable st given d.declarator) one.state [] one.trees [] (declarator_parts one.declarator) (goes_variable st given d) (initialiser_goes given st d)

pub declared_all_goes : (given : Specified) (st : State) (ds : List InitDeclaratorTree) → Goes st (declared_all given st ds).state (declared_all given st ds).trees (declaration_parts (declared_all given st ds).declarators)
declared_all_goes given st [] = goes_nowhere st
declared_all_goes given st (d ∷ ds) =
    let one = declared_one given st d in
    let rest = declared_all given one.state ds in
    goes_on st one.state rest.state one.trees rest.trees (declarator_parts one.declarator) (declaration_parts rest.declarators)
    (declared_one_goes given st d) (declared_all_goes given one.state ds)

pub declared_goes : (st : State) (d : DeclarationTree) → Goes st (declared st d).state (declared st d).trees (declaration_parts (declared st d).declaration.declarators)
declared_goes st d =
    let j = specified false st.structs d.specs in
    let all = declared_all j.given (with_structs st j.structs) d.declarators in
    goes_with st all.state j.structs all.trees (declaration_parts all.declarators) (declared_all_goes j.given (with_structs st j.structs) d.declarators)

pub begun_goes : (st : State) (i : ForInitTree) → Goes st (for_begun st i).state (for_begun st i).trees (for_init_parts (for_begun st i).init)
begun_goes st (s.for_declare d) = declared_goes st d
begun_goes st s.for_nothing = goes_nowhere st
begun_goes st (s.for_expr a) = goes_one st _ _ _

pub maybe_tested_goes : (st : State) (a : Option e.ExprTree) → Goes st (maybe_tested st a).state (maybe_tested st a).trees (optional_part role.Condition (maybe_tested st a).id)
maybe_tested_goes st None = goes_nowhere st
maybe_tested_goes st (Some a) = goes_one st _ _ _

pub maybe_evaluated_goes : (st : State) (a : Option e.ExprTree) → Goes st (maybe_evaluated st a).state (maybe_evaluated st a).trees (optional_part role.Value (maybe_evaluated st a).id)
maybe_evaluated_goes st None = goes_nowhere st
maybe_evaluated_goes st (Some a) = goes_one st _ _ _

pub given_back_goes : (st : State) (ty : «Type») (at : Span) (a : Option e.ExprTree) → Goes st (given_back st ty at a).state (given_back st ty at a).trees (optional_part role.Returned (given_back st ty at a).id)
given_back_goes st ty at None = goes_nowhere st
given_back_goes st ty at (Some a) = goes_one st _ _ _
