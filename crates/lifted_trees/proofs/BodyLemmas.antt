-- Statements stay well formed where the expressions that they name do, and name well-formed ones alone.
use Rattle.std.proofs.Common.{refl, Bool, true, Option, Some, None, List, [], ◌∷◌, ◌++◌, map}
use Rattle.std.specs.Prelude.{IsTrue, ◌&&◌, slice_get, option_map}
use Rattle.std.specs.List.{list_all}
use Rattle.pt_base.specs.declared.ids.VarId.{VarId}
use Rattle.pt_base.proofs.Booleans.{both_hold, both_hold_first, both_hold_second}
use Rattle.pt_base.proofs.Members.{all_hold_append}
use Rattle.pt_tree.specs.declared.signature.Signature.{Signature}
use Rattle.typed_tree.specs.declared.ids.ExprId.{ExprId}
use Rattle.typed_tree.specs.declared.part.Part.{Part}
use Rattle.typed_tree.specs.declared.part.Role.{Role}
use Rattle.typed_tree.specs.declared.part.Role.TheVariants.{Value, Condition, Init, Returned}
use Rattle.typed_tree.specs.declared.statement.TypedInit.{TypedInit}
use Rattle.typed_tree.specs.declared.statement.TypedInit.TheVariants as i
use Rattle.typed_tree.specs.declared.statement.TypedDeclarator.{TypedDeclarator}
use Rattle.typed_tree.specs.declared.statement.TypedForInit.{TypedForInit}
use Rattle.typed_tree.specs.declared.statement.TypedForInit.TheVariants as f
use Rattle.typed_tree.specs.declared.types.VarTy.{VarTy}
use Rattle.typed_tree.specs.ExpressionTree.{ExprTree}
use Rattle.typed_tree.specs.Parts.{part_of, optional_part, init_parts, declarator_parts, declaration_parts, for_init_parts, parts_of, else_parts, all_parts, section_parts}
use Rattle.typed_tree.specs.StatementTree.{BodyTree, ElseTree, BodyTrees, SectionTrees, block, nothing, evaluate, declare, choose, while_true, do_while, for_each, give_back, stop_loop, next_turn, switch, no_else, otherwise, no_bodies, body_and, section, no_sections, section_and}
use Rattle.typed_tree.specs.TypeTests.{both_int, integer_of, is_scalar, is_value, same_types}
use Rattle.typed_tree.specs.WellFormedExpression.{Names, ty_of, is_typed}
use Rattle.typed_tree.specs.WellFormedStatement.{Scope, any_type, declaration_fits, declarator_fits, expr_fits, for_init_fits, found_fits, init_fits, is_sound, else_sound, all_sound, sections_sound, item_types, items_fit, labels_fit, labels_of, option_fits, promotes_to, return_fits}

-- the same scope, but for what can be called and the outermost expressions
abbrev pub moved : Scope → List Signature → List ExprTree → Scope
moved c signatures exprs = record { names = record c.names { signatures = signatures }; exprs = exprs; result = c.result }

-- ---- statements that stay well formed

module _ (c : Scope) (signatures : List Signature) (exprs : List ExprTree)
    (follows : (test : Option VarTy → Bool) (a : ExprId) → IsTrue (expr_fits c test a) → IsTrue (expr_fits (moved c signatures exprs) test a)) where
  option_moved : (test : Option VarTy → Bool) (a : Option ExprId) → IsTrue (option_fits c test a) → IsTrue (option_fits (moved c signatures exprs) test a)
  option_moved test None h = h
  option_moved test (Some a) h = follows test a h

  items_moved : (ts : List VarTy) (es : List ExprId) → IsTrue (items_fit c ts es) → IsTrue (items_fit (moved c signatures exprs) ts es)
  items_moved ts [] h = refl
  items_moved [] (a ∷ es) h = h
  items_moved (ty ∷ ts) (a ∷ es) h =
      both_hold (expr_fits (moved c signatures exprs) (same_types (Some ty)) a) (items_fit (moved c signatures exprs) ts es) (follows (same_types (Some ty)) a (both_hold_first _ _ h))
      (items_moved ts es (both_hold_second (expr_fits c (same_types (Some ty)) a) (items_fit c ts es) h))

  init_moved : (ty : Option VarTy) (init : TypedInit) → IsTrue (init_fits c ty init) → IsTrue (init_fits (moved c signatures exprs) ty init)
  init_moved None init h = h
  init_moved (Some ty) i.Nothing h = refl
  init_moved (Some ty) (i.Value a) h =
      both_hold (is_value (Some ty)) (expr_fits (moved c signatures exprs) (same_types (Some ty)) a) (both_hold_first _ _ h) (follows (same_types (Some ty)) a (both_hold_second (is_value (Some ty)) _ h))
  init_moved (Some ty) (i.Items s es) h = items_moved (item_types c.names.structs ty) es h

  declaration_moved : (ds : List TypedDeclarator) → IsTrue (declaration_fits c ds) → IsTrue (declaration_fits (moved c signatures exprs) ds)
  declaration_moved [] h = refl
  declaration_moved (d ∷ ds) h =
      both_hold (declarator_fits (moved c signatures exprs) d) (declaration_fits (moved c signatures exprs) ds) (init_moved (option_map (λ x. x.ty) (slice_get c.names.vars d.var.0)) d.init (both_hold_first _ _ h))
      (declaration_moved ds (both_hold_second (declarator_fits c d) (declaration_fits c ds) h))

  for_init_moved : (init : TypedForInit) → IsTrue (for_init_fits c init) → IsTrue (for_init_fits (moved c signatures exprs) init)
  for_init_moved f.Nothing h = h
  for_init_moved (f.Declare d) h = declaration_moved d.declarators h
  for_init_moved (f.Evaluate a) h = follows any_type a h

  return_moved : (a : Option ExprId) → IsTrue (return_fits c a) → IsTrue (return_fits (moved c signatures exprs) a)
  return_moved None h = h
  return_moved (Some a) h = follows (λ ty. both_int (integer_of ty) c.result) a h

  mutual
    pub sound_moved : (b : BodyTree) (out again : Bool) → IsTrue (is_sound c out again b) → IsTrue (is_sound (moved c signatures exprs) out again b)
    sound_moved (block s bs) out again h = all_moved bs out again h
    sound_moved (nothing s) out again h = h
    sound_moved (evaluate s a) out again h = follows any_type a h
    sound_moved (declare d) out again h = declaration_moved d.declarators h
    sound_moved (choose s a b o) out again h =
        let rest = both_hold_second (expr_fits c is_scalar a) (is_sound c out again b && else_sound c out again o) h in
        both_hold _ _ (follows is_scalar a (both_hold_first _ _ h))
        (both_hold _ _ (sound_moved b out again (both_hold_first _ _ rest)) (else_moved o out again (both_hold_second (is_sound c out again b) (else_sound c out again o) rest)))
    sound_moved (while_true s a b) out again h =
        both_hold _ _ (follows is_scalar a (both_hold_first _ _ h)) (sound_moved b true true (both_hold_second (expr_fits c is_scalar a) (is_sound c true true b) h))
    sound_moved (do_while s b a) out again h =
        both_hold _ _ (sound_moved b true true (both_hold_first _ _ h)) (follows is_scalar a (both_hold_second (is_sound c true true b) (expr_fits c is_scalar a) h))
    sound_moved (for_each s init test next b) out again h =
        let rest = both_hold_second (for_init_fits c init) (option_fits c is_scalar test && (option_fits c any_type next && is_sound c true true b)) h in
        let last = both_hold_second (option_fits c is_scalar test) (option_fits c any_type next && is_sound c true true b) rest in
        both_hold _ _ (for_init_moved init (both_hold_first _ _ h))
        (both_hold _ _ (option_moved is_scalar test (both_hold_first _ _ rest))
        (both_hold _ _ (option_moved any_type next (both_hold_first _ _ last)) (sound_moved b true true (both_hold_second (option_fits c any_type next) (is_sound c true true b) last))))
    sound_moved (give_back s a) out again h = return_moved a h
    sound_moved (stop_loop s) out again h = h
    sound_moved (next_turn s) out again h = h
    sound_moved (switch s a ty ss) out again h =
        let rest = both_hold_second (expr_fits c (promotes_to ty) a) (labels_fit ty (labels_of ss) && sections_sound c again ss) h in
        both_hold _ _ (follows (promotes_to ty) a (both_hold_first _ _ h))
        (both_hold _ _ (both_hold_first (labels_fit ty (labels_of ss)) _ rest) (sections_moved ss again (both_hold_second (labels_fit ty (labels_of ss)) (sections_sound c again ss) rest)))

    else_moved : (o : ElseTree) (out again : Bool) → IsTrue (else_sound c out again o) → IsTrue (else_sound (moved c signatures exprs) out again o)
    else_moved no_else out again h = h
    else_moved (otherwise b) out again h = sound_moved b out again h

    all_moved : (bs : BodyTrees) (out again : Bool) → IsTrue (all_sound c out again bs) → IsTrue (all_sound (moved c signatures exprs) out again bs)
    all_moved no_bodies out again h = h
    all_moved (body_and b rest) out again h =
        both_hold _ _ (sound_moved b out again (both_hold_first _ _ h)) (all_moved rest out again (both_hold_second (is_sound c out again b) (all_sound c out again rest) h))

    sections_moved : (ss : SectionTrees) (again : Bool) → IsTrue (sections_sound c again ss) → IsTrue (sections_sound (moved c signatures exprs) again ss)
    sections_moved no_sections again h = h
    sections_moved (section_and (section s l bs) rest) again h =
        both_hold _ _ (all_moved bs true again (both_hold_first _ _ h)) (sections_moved rest again (both_hold_second (all_sound c true again bs) (sections_sound c again rest) h))

-- ---- what statements name is well formed

module _ (c : Scope) where
  abbrev pub names_typed : Part → Bool
  names_typed q = expr_fits c any_type q.expr

  found_typed : (n : Names) (test : Option VarTy → Bool) (o : Option ExprTree) → IsTrue (found_fits n test o) → IsTrue (found_fits n any_type o)
  found_typed n test None h = h
  found_typed n test (Some a) h = both_hold (is_typed n a) true (both_hold_first (is_typed n a) (test (ty_of a)) h) refl

  one_typed : (role : Role) (test : Option VarTy → Bool) (a : ExprId) → IsTrue (expr_fits c test a) → IsTrue (list_all names_typed (part_of role a ∷ []))
  one_typed role test a h = both_hold (expr_fits c any_type a) true (found_typed c.names test (slice_get c.exprs a.0) h) refl

  option_typed : (role : Role) (test : Option VarTy → Bool) (a : Option ExprId) → IsTrue (option_fits c test a) → IsTrue (list_all names_typed (optional_part role a))
  option_typed role test None h = refl
  option_typed role test (Some a) h = one_typed role test a h

  items_typed : (v : VarId) (ts : List VarTy) (es : List ExprId) → IsTrue (items_fit c ts es) → IsTrue (list_all names_typed (map (part_of (Init v)) es))
  items_typed v ts [] h = refl
  items_typed v [] (a ∷ es) h = cc
  items_typed v (ty ∷ ts) (a ∷ es) h =
      both_hold (expr_fits c any_type a) (list_all names_typed (map (part_of (Init v)) es)) (found_typed c.names (same_types (Some ty)) (slice_get c.exprs a.0) (both_hold_first _ _ h))
      (items_typed v ts es (both_hold_second (expr_fits c (same_types (Some ty)) a) (items_fit c ts es) h))

  init_typed : (v : VarId) (ty : Option VarTy) (init : TypedInit) → IsTrue (init_fits c ty init) → IsTrue (list_all names_typed (init_parts v init))
  init_typed v None init h = cc
  init_typed v (Some ty) i.Nothing h = refl
  init_typed v (Some ty) (i.Value a) h = one_typed (Init v) (same_types (Some ty)) a (both_hold_second (is_value (Some ty)) _ h)
  init_typed v (Some ty) (i.Items s es) h = items_typed v (item_types c.names.structs ty) es h

  declaration_typed : (ds : List TypedDeclarator) → IsTrue (declaration_fits c ds) → IsTrue (list_all names_typed (declaration_parts ds))
  declaration_typed [] h = refl
  declaration_typed (d ∷ ds) h =
      all_hold_append names_typed (declarator_parts d) (declaration_parts ds) (init_typed d.var (option_map (λ x. x.ty) (slice_get c.names.vars d.var.0)) d.init (both_hold_first _ _ h))
      (declaration_typed ds (both_hold_second (declarator_fits c d) (declaration_fits c ds) h))

  for_init_typed : (init : TypedForInit) → IsTrue (for_init_fits c init) → IsTrue (list_all names_typed (for_init_parts init))
  for_init_typed f.Nothing h = refl
  for_init_typed (f.Declare d) h = declaration_typed d.declarators h
  for_init_typed (f.Evaluate a) h = one_typed Value any_type a h

  return_typed : (a : Option ExprId) → IsTrue (return_fits c a) → IsTrue (list_all names_typed (optional_part Returned a))
  return_typed None h = refl
  return_typed (Some a) h = one_typed Returned (λ ty. both_int (integer_of ty) c.result) a h

  mutual
    pub parts_typed : (b : BodyTree) (out again : Bool) → IsTrue (is_sound c out again b) → IsTrue (list_all names_typed (parts_of b))
    parts_typed (block s bs) out again h = all_typed bs out again h
    parts_typed (nothing s) out again h = refl
    parts_typed (evaluate s a) out again h = one_typed Value any_type a h
    parts_typed (declare d) out again h = declaration_typed d.declarators h
    parts_typed (choose s a b o) out again h =
        let rest = both_hold_second (expr_fits c is_scalar a) (is_sound c out again b && else_sound c out again o) h in
        all_hold_append names_typed (part_of Condition a ∷ []) (parts_of b ++ else_parts o) (one_typed Condition is_scalar a (both_hold_first _ _ h))
        (all_hold_append names_typed (parts_of b) (else_parts o) (parts_typed b out again (both_hold_first _ _ rest)) (else_typed o out again (both_hold_second (is_sound c out again b) (else_sound c out again o) rest)))
    parts_typed (while_true s a b) out again h =
        all_hold_append names_typed (part_of Condition a ∷ []) (parts_of b) (one_typed Condition is_scalar a (both_hold_first _ _ h)) (parts_typed b true true (both_hold_second (expr_fits c is_scalar a) (is_sound c true true b) h))
    parts_typed (do_while s b a) out again h =
        all_hold_append names_typed (parts_of b) (part_of Condition a ∷ []) (parts_typed b true true (both_hold_first _ _ h)) (one_typed Condition is_scalar a (both_hold_second (is_sound c true true b) (expr_fits c is_scalar a) h))
    parts_typed (for_each s init test next b) out again h =
        let rest = both_hold_second (for_init_fits c init) (option_fits c is_scalar test && (option_fits c any_type next && is_sound c true true b)) h in
        let last = both_hold_second (option_fits c is_scalar test) (option_fits c any_type next && is_sound c true true b) rest in
        all_hold_append names_typed (for_init_parts init) (optional_part Condition test ++ (optional_part Value next ++ parts_of b)) (for_init_typed init (both_hold_first _ _ h))
        (all_hold_append names_typed (optional_part Condition test) (optional_part Value next ++ parts_of b) (option_typed Condition is_scalar test (both_hold_first _ _ rest))
        (all_hold_append names_typed (optional_part Value next) (parts_of b) (option_typed Value any_type next (both_hold_first _ _ last)) (parts_typed b true true (both_hold_second (option_fits c any_type next) (is_sound c true true b) last))))
    parts_typed (give_back s a) out again h = return_typed a h
    parts_typed (stop_loop s) out again h = refl
    parts_typed (next_turn s) out again h = refl
    parts_typed (switch s a ty ss) out again h =
        let rest = both_hold_second (expr_fits c (promotes_to ty) a) (labels_fit ty (labels_of ss) && sections_sound c again ss) h in
        all_hold_append names_typed (part_of Condition a ∷ []) (section_parts ss) (one_typed Condition (promotes_to ty) a (both_hold_first _ _ h)) (sections_typed ss again (both_hold_second (labels_fit ty (labels_of ss)) (sections_sound c again ss) rest))

    else_typed : (o : ElseTree) (out again : Bool) → IsTrue (else_sound c out again o) → IsTrue (list_all names_typed (else_parts o))
    else_typed no_else out again h = refl
    else_typed (otherwise b) out again h = parts_typed b out again h

    all_typed : (bs : BodyTrees) (out again : Bool) → IsTrue (all_sound c out again bs) → IsTrue (list_all names_typed (all_parts bs))
    all_typed no_bodies out again h = refl
    all_typed (body_and b rest) out again h =
        all_hold_append names_typed (parts_of b) (all_parts rest) (parts_typed b out again (both_hold_first _ _ h)) (all_typed rest out again (both_hold_second (is_sound c out again b) (all_sound c out again rest) h))

    sections_typed : (ss : SectionTrees) (again : Bool) → IsTrue (sections_sound c again ss) → IsTrue (list_all names_typed (section_parts ss))
    sections_typed no_sections again h = refl
    sections_typed (section_and (section s l bs) rest) again h =
        all_hold_append names_typed (all_parts bs) (section_parts rest) (all_typed bs true again (both_hold_first _ _ h)) (sections_typed rest again (both_hold_second (all_sound c true again bs) (sections_sound c again rest) h))
