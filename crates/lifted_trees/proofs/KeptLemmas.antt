-- What a raised expression keeps: its type, and of a place where it begins, how it goes on, and what it may be.
use Rattle.std.proofs.Common.{◌≡◌, ◌∙◌, ◌+◌, ℕ, refl, ap, Bool, true, false, Option, Some, None, List, [], ◌∷◌, ◌++◌, length}
use Rattle.std.specs.Prelude.{IsTrue, ◌&&◌, ◌||◌, not, if◌then◌else◌, option_map, slice_get}
use Rattle.std.specs.Option.{option_map_or}
use Rattle.pt_base.specs.declared.span.Span.{Span}
use Rattle.pt_base.proofs.Booleans.{both_hold_first, both_hold_second}
use Rattle.typed_tree.specs.declared.types.VarTy.{VarTy}
use Rattle.typed_tree.specs.ExpressionTree as t
use Rattle.typed_tree.specs.ExpressionTree.{ExprTree, FormTree, ExprTrees, LinkTree, LinkTrees, OperandTrees, PlaceTree, RootTree, StepTrees, typed, no_exprs, expr_and, link, no_links, link_and, operand, no_operands, operand_and, place, no_steps, step_and}
use Rattle.typed_tree.specs.TypeTests.{type_of_elem, pointee_of, points_to_const, integer_of}
use Rattle.typed_tree.specs.WellFormedExpression.{Names, ty_of, is_assign, is_struct, assigned_type, root_type, steps_type, step_type, item_type, place_type, has_item, is_object, is_named, ends_in_field, is_addressed, root_const, place_const, is_written, has_operands, param_type, arguments_fit, is_typed, form_fits, root_fits, place_fits}
use Rattle.pt_tree.specs.declared.signature.Param.{Param}
use Rattle.typed_tree.specs.TypeTests.{same_types}
use Rattle.lifted_trees.specs.Sites.{Secrets, span_of, is_number, changes_int, is_operator, secret_behind, left_site, sites_in, root_sites}
use Rattle.lifted_trees.specs.Lifted.{Callees, request, chain_of, left_operand, raised, raised_form, raised_operand, raised_links, raised_operands, raised_all, raised_place, raised_root, raised_steps}

module _ (n m : Names) (c : Callees) (p : Secrets) (structs : m.structs ≡ n.structs) (globals : m.globals ≡ n.globals) (vars : m.vars ≡ n.vars) where
  pub ty_kept : (a : ExprTree) (i : ℕ) → ty_of (raised c p i a) ≡ ty_of a
  ty_kept (typed s ty f) i = refl

  pub operand_ty_kept : (a : ExprTree) (i : ℕ) → ty_of (raised_operand c p i a) ≡ ty_of a
  operand_ty_kept (typed s ty (t.convert a)) i = refl
  operand_ty_kept (typed s ty f) i = refl

  -- ---- assignments

  no_assignment : (b : Bool) (f g : FormTree) → is_assign f ≡ false → is_assign g ≡ false → is_assign (if b then f else g) ≡ false
  no_assignment true f g h k = h
  no_assignment false f g h k = k

  pushed_no_assignment : (first : ExprTree) (kept : List LinkTree) (l : LinkTree) → is_assign (chain_of first (kept ++ l ∷ [])) ≡ false
  pushed_no_assignment first [] l = refl
  pushed_no_assignment first (x ∷ xs) l = refl

  -- a chain behind a step is no assignment, where what follows keeps that
  linked_no_assignment : (l : LinkTree) (rest : LinkTrees) (i : ℕ) (at : Span) (ty : Option VarTy) (far : Bool) (base : ExprTree) (kept : List LinkTree) →
      ((i : ℕ) (at : Span) (ty : Option VarTy) (far : Bool) (base : ExprTree) (kept : List LinkTree) → is_assign (chain_of base kept) ≡ false → is_assign (raised_links c p i at ty far base kept rest) ≡ false) →
      is_assign (raised_links c p i at ty far base kept (link_and l rest)) ≡ false
  linked_no_assignment (link s to op b) rest i at ty far base kept follows =
      let j = i + length (left_site far at ty op) in
      let k = j + length (sites_in p b) in
      no_assignment (is_operator op && (far || p b)) _ _
      (follows (k + 1) s (Some to) (secret_behind far op (p b))
      (typed s (Some to) (request c k (left_operand c i far at ty op (typed at ty (chain_of base kept)) ∷ raised c p j b ∷ []))) [] refl)
      (follows k s (Some to) (secret_behind far op (p b)) base (kept ++ link s to op (raised c p j b) ∷ []) (pushed_no_assignment base kept (link s to op (raised c p j b))))

  links_no_assignment : (ls : LinkTrees) (i : ℕ) (at : Span) (ty : Option VarTy) (far : Bool) (base : ExprTree) (kept : List LinkTree) →
      is_assign (chain_of base kept) ≡ false → is_assign (raised_links c p i at ty far base kept ls) ≡ false
  links_no_assignment no_links i at ty far base kept h = h
  links_no_assignment (link_and l rest) i at ty far base kept h = linked_no_assignment l rest i at ty far base kept (links_no_assignment rest)

  chain_no_assignment : (ls : LinkTrees) (a : ExprTree) (ty : Option VarTy) (i : ℕ) → IsTrue (form_fits n (t.chain a ls) ty) → is_assign (raised_form c p i ty (t.chain a ls)) ≡ false
  chain_no_assignment no_links a ty i h = let no : false ≡ true = both_hold_second (is_typed n a) _ h in cc
  chain_no_assignment (link_and l rest) a ty i h = linked_no_assignment l rest (i + length (sites_in p a)) (span_of a) (ty_of a) (p a) (raised c p i a) [] (links_no_assignment rest)

  pub assign_kept : (f : FormTree) (ty : Option VarTy) (i : ℕ) → IsTrue (form_fits n f ty) → is_assign (raised_form c p i ty f) ≡ is_assign f
  assign_kept (t.unary op a) ty i h = no_assignment (p a && is_number (ty_of a)) _ _ refl refl
  assign_kept (t.convert a) ty i h = no_assignment (p a && changes_int (ty_of a) ty) _ _ refl refl
  assign_kept (t.chain a ls) ty i h = chain_no_assignment ls a ty i h
  assign_kept f ty i h = refl

  assigned_kept : (a : ExprTree) (i : ℕ) → IsTrue (is_typed n a) → assigned_type (raised c p i a) ≡ assigned_type a
  assigned_kept (typed s ty f) i h = ap (λ b. if b && is_struct ty then ty else None) (assign_kept f ty i h)

  -- ---- places

  root_kept : (r : RootTree) (i : ℕ) → IsTrue (root_fits n r) → root_type m (raised_root c p i r) ≡ root_type n r
  root_kept (t.local v) i h = ap (λ xs. option_map (λ x. x.ty) (slice_get xs v.0)) vars
  root_kept (t.global g) i h = ap (λ xs. option_map (λ x. x.var.ty) (slice_get xs g.0)) globals
  root_kept (t.deref a s) i h = ap (λ ty. option_map type_of_elem (pointee_of ty)) (ty_kept a i)
  root_kept (t.assigned a) i h = assigned_kept a i h

  steps_kept : (ss : StepTrees) (ty : Option VarTy) (i : ℕ) → steps_type n.structs ty (raised_steps c p i ss) ≡ steps_type n.structs ty ss
  steps_kept no_steps ty i = refl
  steps_kept (step_and (t.field k) rest) ty i = steps_kept rest (step_type n.structs ty (t.field k)) i
  steps_kept (step_and (t.item a s) rest) ty i =
      ap (λ u. steps_type n.structs (item_type ty (integer_of u)) (raised_steps c p (i + length (sites_in p a)) rest)) (ty_kept a i)
      ∙ steps_kept rest (step_type n.structs ty (t.item a s)) (i + length (sites_in p a))

  pub place_kept : (x : PlaceTree) (i : ℕ) → IsTrue (place_fits n x) → place_type m (raised_place c p i x) ≡ place_type n x
  place_kept (place r ss) i h =
      ap (λ xs. steps_type xs (root_type m (raised_root c p i r)) (raised_steps c p (i + length (root_sites p r)) ss)) structs
      ∙ ap (λ ty. steps_type n.structs ty (raised_steps c p (i + length (root_sites p r)) ss)) (root_kept r i (both_hold_first _ _ h))
      ∙ steps_kept ss (root_type n r) (i + length (root_sites p r))

  items_kept : (ss : StepTrees) (i : ℕ) → has_item (raised_steps c p i ss) ≡ has_item ss
  items_kept no_steps i = refl
  items_kept (step_and (t.field k) rest) i = items_kept rest i
  items_kept (step_and (t.item a s) rest) i = refl

  object_kept : (x : PlaceTree) (i : ℕ) → is_object (raised_place c p i x) ≡ is_object x
  object_kept (place (t.local v) ss) i = refl
  object_kept (place (t.global g) ss) i = refl
  object_kept (place (t.deref a s) ss) i = refl
  object_kept (place (t.assigned a) ss) i = items_kept ss (i + length (sites_in p a))

  named_kept : (r : RootTree) (i : ℕ) → is_named (raised_root c p i r) ≡ is_named r
  named_kept (t.local v) i = refl
  named_kept (t.global g) i = refl
  named_kept (t.deref a s) i = refl
  named_kept (t.assigned a) i = refl

  ends_kept : (ss : StepTrees) (start : Bool) (i : ℕ) → ends_in_field start (raised_steps c p i ss) ≡ ends_in_field start ss
  ends_kept no_steps start i = refl
  ends_kept (step_and (t.field k) rest) start i = ends_kept rest true i
  ends_kept (step_and (t.item a s) rest) start i = ends_kept rest false (i + length (sites_in p a))

  pub addressed_kept : (x : PlaceTree) (i : ℕ) → is_addressed (raised_place c p i x) ≡ is_addressed x
  addressed_kept (place r ss) i =
      ap (λ b. b && ends_in_field (is_named (raised_root c p i r)) (raised_steps c p (i + length (root_sites p r)) ss)) (object_kept (place r ss) i)
      ∙ ap (λ b. is_object (place r ss) && ends_in_field b (raised_steps c p (i + length (root_sites p r)) ss)) (named_kept r i)
      ∙ ap (λ b. is_object (place r ss) && b) (ends_kept ss (is_named r) (i + length (root_sites p r)))

  root_const_kept : (r : RootTree) (i : ℕ) → root_const m (raised_root c p i r) ≡ root_const n r
  root_const_kept (t.local v) i = refl
  root_const_kept (t.global g) i = ap (λ xs. option_map_or (λ x. x.fixed) (slice_get xs g.0) false) globals
  root_const_kept (t.deref a s) i = ap points_to_const (ty_kept a i)
  root_const_kept (t.assigned a) i = refl

  pub const_kept : (x : PlaceTree) (i : ℕ) → place_const m (raised_place c p i x) ≡ place_const n x
  const_kept (place r ss) i = root_const_kept r i

  pub written_kept : (x : PlaceTree) (i : ℕ) → is_written m (raised_place c p i x) ≡ is_written n x
  written_kept x i = ap (λ b. b && not (place_const m (raised_place c p i x))) (object_kept x i) ∙ ap (λ b. is_object x && not b) (const_kept x i)

  -- ---- lists

  pub operands_kept : (os : OperandTrees) (i : ℕ) → has_operands (raised_operands c p i os) ≡ has_operands os
  operands_kept no_operands i = refl
  operands_kept (operand_and (operand s a) rest) i = refl

  pub arguments_kept : (es : ExprTrees) (params : List Param) (i : ℕ) → arguments_fit params (raised_all c p i es) ≡ arguments_fit params es
  arguments_kept no_exprs [] i = refl
  arguments_kept no_exprs (q ∷ qs) i = refl
  arguments_kept (expr_and a rest) [] i = refl
  arguments_kept (expr_and a rest) (q ∷ qs) i =
      ap (λ ty. same_types ty (Some (param_type q.kind)) && arguments_fit qs (raised_all c p (i + length (sites_in p a)) rest)) (ty_kept a i)
      ∙ ap (λ b. same_types (ty_of a) (Some (param_type q.kind)) && b) (arguments_kept rest qs (i + length (sites_in p a)))
