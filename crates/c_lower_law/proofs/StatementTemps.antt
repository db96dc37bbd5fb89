-- Temporaries are integers and pointers: those of statements, and of whole programs.
use Rattle.std.proofs.Common.{◌≡◌, ◌∙◌, ℕ, ◌+◌, refl, ap, sym, subst, Bool, true, false, not, Option, Some, None, List, [], ◌∷◌, ◌++◌, map, length, if◌then◌else◌}
use Rattle.std.specs.Prelude.{IsTrue, ◌&&◌, slice_get, get_or, option_map, nat_le}
use Rattle.std.specs.List.{list_all}
use Rattle.std.proofs.lemmas.Option.{get_or_from_slice_get}
use Rattle.pt_base.specs.declared.int_type.IntType.{IntType}
use Rattle.pt_base.specs.declared.span.Span.{Span}
use Rattle.pt_base.proofs.Booleans.{both_hold_first, both_hold_second, false_not_true}
use Rattle.pt_base.proofs.Members.{all_true_at}
use Rattle.typed_tree.specs.declared.ids.ExprId.{ExprId}
use Rattle.typed_tree.specs.declared.types.VarTy.{VarTy}
use Rattle.typed_tree.specs.declared.variable.Var.{Var}
use Rattle.typed_tree.specs.declared.statement.TypedInit.{TypedInit}
use Rattle.typed_tree.specs.declared.statement.TypedInit.TheVariants as n
use Rattle.typed_tree.specs.declared.statement.TypedDeclarator.{TypedDeclarator}
use Rattle.typed_tree.specs.declared.statement.TypedForInit.{TypedForInit}
use Rattle.typed_tree.specs.declared.statement.TypedForInit.TheVariants as f
use Rattle.typed_tree.specs.ExpressionTree.{ExprTree}
use Rattle.typed_tree.specs.StatementTree.{BodyTree, ElseTree, BodyTrees, SectionTree, SectionTrees, block, nothing, evaluate, declare, choose, while_true, do_while, for_each, give_back, stop_loop, next_turn, switch, no_else, otherwise, no_bodies, body_and, section, no_sections, section_and}
use Rattle.typed_tree.specs.TypedTree.{TypedTree, FunctionTree}
use Rattle.typed_tree.specs.TypeTests.{same_types, both_int, integer_of, is_scalar, is_value}
use Rattle.typed_tree.specs.WellFormed.{is_well_formed, function_sound, params_lead, variable_sound, body_sound, is_block, names_in, scope_in}
use Rattle.typed_tree.specs.WellFormedExpression.{Names, is_typed, ty_of}
use Rattle.typed_tree.specs.WellFormedStatement as w
use Rattle.typed_tree.specs.WellFormedStatement.{found_fits, expr_fits, any_type, promotes_to, option_fits, items_fit, item_types, init_fits, declarator_fits, declaration_fits, for_init_fits, return_fits, labels_of, labels_fit, is_sound, else_sound, all_sound, sections_sound}
use Rattle.source_meaning.specs.Expressions.{type_of}
use Rattle.source_meaning.specs.Statements.{no_expr}
use Rattle.source_soundness.proofs.ProgramFacts.{facts}
use Rattle.pt_core.specs.CodeTree.{PlaceTree}
use Rattle.pt_core.specs.Types.{type_at}
use Rattle.lowering.specs.Lowered.{Temp, Effects, past, counting, int}
use Rattle.lowering.specs.Expressions.{value_in, effects_in, object_in}
use Rattle.lowering.specs.Leaves.{leaf_places}
use Rattle.lowering.specs.Expressions as l
use Rattle.lowering.specs.Statements as s
use Rattle.lowering.specs.Statements.{Code, Onward, to_head, inside, outermost, items_in, value_stored, variable_place, initialised, declared, tested, stepped, begun, switch_temps, section_by, statement_in, otherwise_in, all_in, sections_in}
use Rattle.c_lower_law.proofs.Entering.{AreScalar}
use Rattle.c_lower_law.proofs.CallLaws.{Scalars, temps_of}
use Rattle.c_lower_law.proofs.TempTypes.{scalar_both, scope_for, value_scalar, effects_scalar, object_scalar}

abbrev code_for : w.Scope → Code
code_for c = record { scope = scope_for c.names; exprs = c.exprs }

-- ---- outermost expressions

typed_there : (c : w.Scope) (test : Option VarTy → Bool) (e : ExprId) → expr_fits c test e ≡ true → is_typed c.names (outermost (code_for c) e) ≡ true
typed_there c test e h = go (slice_get c.exprs e.0) refl h
  where
    go : (o : Option ExprTree) → slice_get c.exprs e.0 ≡ o → found_fits c.names test o ≡ true → is_typed c.names (get_or c.exprs e.0 no_expr) ≡ true
    go None is h = false_not_true h
    go (Some a) is h = subst (λ z. is_typed c.names z ≡ true) (sym (get_or_from_slice_get c.exprs e.0 a no_expr is)) (both_hold_first (is_typed c.names a) (test (ty_of a)) h)

outer_value : (c : w.Scope) (test : Option VarTy → Bool) (e : ExprId) (k : ℕ) → expr_fits c test e ≡ true → AreScalar (value_in (scope_for c.names) (outermost (code_for c) e) k).temps
outer_value c test e k h = value_scalar (outermost (code_for c) e) c.names k (typed_there c test e h)

outer_effects : (c : w.Scope) (test : Option VarTy → Bool) (e : ExprId) (k : ℕ) → expr_fits c test e ≡ true → AreScalar (effects_in (scope_for c.names) (outermost (code_for c) e) k).temps
outer_effects c test e k h = effects_scalar (outermost (code_for c) e) c.names k (typed_there c test e h)

-- ---- declarations

items_scalar : (c : w.Scope) (ts : List VarTy) (places : List PlaceTree) (es : List ExprId) (k : ℕ) → items_fit c ts es ≡ true → AreScalar (items_in (code_for c) places es k).temps
items_scalar c ts [] [] k h = tt
items_scalar c ts (p ∷ places) [] k h = tt
items_scalar c ts [] (e ∷ es) k h = tt
items_scalar c [] (p ∷ places) (e ∷ es) k h = false_not_true h
items_scalar c (t ∷ ts) (p ∷ places) (e ∷ es) k h =
    let v = value_in (scope_for c.names) (outermost (code_for c) e) k in
    scalar_both v.temps (items_in (code_for c) places es (past k v.temps)).temps (outer_value c (same_types (Some t)) e k (both_hold_first (expr_fits c (same_types (Some t)) e) (items_fit c ts es) h))
    (items_scalar c ts places es (past k v.temps) (both_hold_second (expr_fits c (same_types (Some t)) e) (items_fit c ts es) h))

init_scalar : (c : w.Scope) (o : Option VarTy) (init : TypedInit) (x k : ℕ) → init_fits c o init ≡ true → AreScalar (initialised (code_for c) init x k).temps
init_scalar c None init x k h = false_not_true h
init_scalar c (Some t) n.Nothing x k h = tt
init_scalar c (Some t) (n.Value e) x k h = go (l.is_struct (Some (type_at (code_for c).scope.variables x)))
  where
    fits : expr_fits c (same_types (Some t)) e ≡ true
    fits = both_hold_second (is_value (Some t)) (expr_fits c (same_types (Some t)) e) h

    go : (b : Bool) → AreScalar (if b then l.place_effects (l.copied (variable_place (code_for c) x) (object_in (scope_for c.names) (outermost (code_for c) e) k)) else l.place_effects (l.given (variable_place (code_for c) x) (value_in (scope_for c.names) (outermost (code_for c) e) k))).temps
    go true = (object_scalar (outermost (code_for c) e) c.names k (typed_there c (same_types (Some t)) e fits)).temps
    go false = outer_value c (same_types (Some t)) e k fits
init_scalar c (Some t) (n.Items at es) x k h = items_scalar c (item_types c.names.structs t) (leaf_places (scope_for c.names).structs (type_at (scope_for c.names).variables x) at (s.variable (code_for c) x)) es k h

declared_scalar : (c : w.Scope) (ds : List TypedDeclarator) (k : ℕ) → declaration_fits c ds ≡ true → AreScalar (declared (code_for c) ds k).temps
declared_scalar c [] k h = tt
declared_scalar c (d ∷ ds) k h =
    let init = initialised (code_for c) d.init d.var.0 k in
    scalar_both init.temps (declared (code_for c) ds (past k init.temps)).temps (init_scalar c (option_map (λ (x : Var). x.ty) (slice_get c.names.vars d.var.0)) d.init d.var.0 k (both_hold_first (declarator_fits c d) (list_all (declarator_fits c) ds) h))
    (declared_scalar c ds (past k init.temps) (both_hold_second (declarator_fits c d) (list_all (declarator_fits c) ds) h))

tested_scalar : (c : w.Scope) (test : Option VarTy → Bool) (o : Option ExprId) (k : ℕ) → option_fits c test o ≡ true → AreScalar (tested (code_for c) o k).temps
tested_scalar c test None k h = tt
tested_scalar c test (Some e) k h = outer_value c test e k h

stepped_scalar : (c : w.Scope) (test : Option VarTy → Bool) (o : Option ExprId) (k : ℕ) → option_fits c test o ≡ true → AreScalar (stepped (code_for c) o k).temps
stepped_scalar c test None k h = tt
stepped_scalar c test (Some e) k h = outer_effects c test e k h

begun_scalar : (c : w.Scope) (i : TypedForInit) (k : ℕ) → for_init_fits c i ≡ true → AreScalar (begun (code_for c) i k).temps
begun_scalar c f.Nothing k h = tt
begun_scalar c (f.Declare d) k h = declared_scalar c d.declarators k h
begun_scalar c (f.Evaluate e) k h = outer_effects c any_type e k h

-- ---- statements

mutual
  pub statement_scalar : (body : BodyTree) (c : w.Scope) (out again : Bool) (mode : Onward) (k : ℕ) → is_sound c out again body ≡ true → AreScalar (statement_in (code_for c) body mode k).temps
  statement_scalar (block at bs) c out again mode k h = all_scalar bs c out again mode k h
  statement_scalar (nothing at) c out again mode k h = tt
  statement_scalar (evaluate at e) c out again mode k h = outer_effects c any_type e k h
  statement_scalar (declare d) c out again mode k h = declared_scalar c d.declarators k h
  statement_scalar (choose at e a b) c out again mode k h =
      let rest = both_hold_second (expr_fits c is_scalar e) (is_sound c out again a && else_sound c out again b) h in
      let v = value_in (scope_for c.names) (outermost (code_for c) e) k in
      let x = statement_in (code_for c) a mode (past k v.temps) in
      let y = otherwise_in (code_for c) b mode (past (past k v.temps) x.temps) in
      scalar_both (v.temps ++ x.temps) y.temps
      (scalar_both v.temps x.temps (outer_value c is_scalar e k (both_hold_first (expr_fits c is_scalar e) (is_sound c out again a && else_sound c out again b) h)) (statement_scalar a c out again mode (past k v.temps) (both_hold_first (is_sound c out again a) (else_sound c out again b) rest)))
      (else_scalar b c out again mode (past (past k v.temps) x.temps) (both_hold_second (is_sound c out again a) (else_sound c out again b) rest))
  statement_scalar (while_true at e a) c out again mode k h =
      let t = tested (code_for c) (Some e) k in
      scalar_both t.temps (statement_in (code_for c) a to_head (past k t.temps)).temps (tested_scalar c is_scalar (Some e) k (both_hold_first (expr_fits c is_scalar e) (is_sound c true true a) h)) (statement_scalar a c true true to_head (past k t.temps) (both_hold_second (expr_fits c is_scalar e) (is_sound c true true a) h))
  statement_scalar (do_while at a e) c out again mode k h =
      let t = tested (code_for c) (Some e) (k + 1) in
      (tt, scalar_both t.temps (statement_in (code_for c) a to_head (past (k + 1) t.temps)).temps (tested_scalar c is_scalar (Some e) (k + 1) (both_hold_second (is_sound c true true a) (expr_fits c is_scalar e) h)) (statement_scalar a c true true to_head (past (k + 1) t.temps) (both_hold_first (is_sound c true true a) (expr_fits c is_scalar e) h)))
  statement_scalar (for_each at i test None a) c out again mode k h =
      let rest = both_hold_second (for_init_fits c i) (option_fits c is_scalar test && (option_fits c any_type None && is_sound c true true a)) h in
      let more = both_hold_second (option_fits c is_scalar test) (option_fits c any_type None && is_sound c true true a) rest in
      let first = begun (code_for c) i k in
      let j = past k first.temps in
      let t = tested (code_for c) test j in
      let body = statement_in (code_for c) a to_head (past j t.temps) in
      scalar_both first.temps (t.temps ++ body.temps) (begun_scalar c i k (both_hold_first (for_init_fits c i) (option_fits c is_scalar test && (option_fits c any_type None && is_sound c true true a)) h))
      (scalar_both t.temps body.temps (tested_scalar c is_scalar test j (both_hold_first (option_fits c is_scalar test) (option_fits c any_type None && is_sound c true true a) rest)) (statement_scalar a c true true to_head (past j t.temps) (both_hold_second (option_fits c any_type None) (is_sound c true true a) more)))
  statement_scalar (for_each at i test (Some u) a) c out again mode k h =
      let rest = both_hold_second (for_init_fits c i) (option_fits c is_scalar test && (option_fits c any_type (Some u) && is_sound c true true a)) h in
      let more = both_hold_second (option_fits c is_scalar test) (option_fits c any_type (Some u) && is_sound c true true a) rest in
      let first = begun (code_for c) i k in
      let j = past k first.temps in
      let back = stepped (code_for c) (Some u) (j + 1) in
      let t = tested (code_for c) test (past (j + 1) back.temps) in
      let body = statement_in (code_for c) a to_head (past (past (j + 1) back.temps) t.temps) in
      scalar_both first.temps (counting int ∷ (back.temps ++ (t.temps ++ body.temps))) (begun_scalar c i k (both_hold_first (for_init_fits c i) (option_fits c is_scalar test && (option_fits c any_type (Some u) && is_sound c true true a)) h)) (
        tt,
        scalar_both back.temps (t.temps ++ body.temps) (stepped_scalar c any_type (Some u) (j + 1) (both_hold_first (option_fits c any_type (Some u)) (is_sound c true true a) more))
            (scalar_both t.temps body.temps (tested_scalar c is_scalar test (past (j + 1) back.temps) (both_hold_first (option_fits c is_scalar test) (option_fits c any_type (Some u) && is_sound c true true a) rest)) (statement_scalar a c true true to_head (past (past (j + 1) back.temps) t.temps) (both_hold_second (option_fits c any_type (Some u)) (is_sound c true true a) more))),
      )
  statement_scalar (give_back at None) c out again mode k h = tt
  statement_scalar (give_back at (Some e)) c out again mode k h = outer_value c (λ t. both_int (integer_of t) c.result) e k h
  statement_scalar (stop_loop at) c out again mode k h = tt
  statement_scalar (next_turn at) c out again mode k h = tt
  statement_scalar (switch at e ty ss) c out again mode k h =
      let rest = both_hold_second (expr_fits c (promotes_to ty) e) (labels_fit ty (labels_of ss) && sections_sound c again ss) h in
      let v = value_in (scope_for c.names) (outermost (code_for c) e) k in
      let j = past k v.temps in
      let body = sections_in (code_for c) at ss (inside mode (j + 2)) j 0 (j + 3) in
      scalar_both (v.temps ++ switch_temps ty) body.temps
      (scalar_both v.temps (switch_temps ty) (outer_value c (promotes_to ty) e k (both_hold_first (expr_fits c (promotes_to ty) e) (labels_fit ty (labels_of ss) && sections_sound c again ss) h)) (tt, (tt, (tt, tt))))
      (sections_scalar ss c again at (inside mode (j + 2)) j 0 (j + 3) (both_hold_second (labels_fit ty (labels_of ss)) (sections_sound c again ss) rest))

  else_scalar : (b : ElseTree) (c : w.Scope) (out again : Bool) (mode : Onward) (k : ℕ) → else_sound c out again b ≡ true → AreScalar (otherwise_in (code_for c) b mode k).temps
  else_scalar no_else c out again mode k h = tt
  else_scalar (otherwise b) c out again mode k h = statement_scalar b c out again mode k h

  all_scalar : (bs : BodyTrees) (c : w.Scope) (out again : Bool) (mode : Onward) (k : ℕ) → all_sound c out again bs ≡ true → AreScalar (all_in (code_for c) bs mode k).temps
  all_scalar no_bodies c out again mode k h = tt
  all_scalar (body_and b rest) c out again mode k h =
      let first = statement_in (code_for c) b mode k in
      scalar_both first.temps (all_in (code_for c) rest mode (past k first.temps)).temps (statement_scalar b c out again mode k (both_hold_first (is_sound c out again b) (all_sound c out again rest) h)) (all_scalar rest c out again mode (past k first.temps) (both_hold_second (is_sound c out again b) (all_sound c out again rest) h))

  sections_scalar : (ss : SectionTrees) (c : w.Scope) (again : Bool) (at : Span) (mode : Onward) (j m k : ℕ) → sections_sound c again ss ≡ true → AreScalar (sections_in (code_for c) at ss mode j m k).temps
  sections_scalar no_sections c again at mode j m k h = tt
  sections_scalar (section_and (section at1 label bs) rest) c again at mode j m k h =
      let body = all_in (code_for c) bs mode k in
      scalar_both body.temps (sections_in (code_for c) at rest mode j (m + 1) (past k body.temps)).temps (all_scalar bs c true again mode k (both_hold_first (all_sound c true again bs) (sections_sound c again rest) h)) (sections_scalar rest c again at mode j (m + 1) (past k body.temps) (both_hold_second (all_sound c true again bs) (sections_sound c again rest) h))

-- ---- programs

-- the temporaries of a well formed program have one cell each
pub temps_are_scalar : (program : TypedTree) → IsTrue (is_well_formed program) → Scalars program
temps_are_scalar program h j g body is has =
    let sound = all_true_at (function_sound program) program.functions j g (facts program h).functions is in
    let own = both_hold_second (list_all (variable_sound program.structs) g.vars) (body_sound program g g.body) (both_hold_second (nat_le (length g.signature.params) 8 && params_lead g.signature.params g.vars) (list_all (variable_sound program.structs) g.vars && body_sound program g g.body) sound) in
    let fits : body_sound program g (Some body) ≡ true = subst (λ o. body_sound program g o ≡ true) has own in
    statement_scalar body (scope_in program g) false false s.nowhere (length g.vars) (both_hold_second (is_block body) (is_sound (scope_in program g) false false body) (both_hold_second (not g.signature.host) (is_block body && is_sound (scope_in program g) false false body) fits))
