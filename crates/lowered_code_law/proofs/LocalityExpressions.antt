-- Expressions and places are lowered alike in two scopes where they name only globals of the same types: by induction on the tree.
use Rattle.std.proofs.Common.{◌≡◌, ◌∙◌, refl, ap, ℕ, suc, ◌+◌, Bool, true, false, Option, Some, None, List, [], ◌∷◌, ◌++◌}
use Rattle.std.specs.Prelude.{◌||◌, not, pos}
use Rattle.pt_base.specs.declared.ids.FnId.{FnId}
use Rattle.pt_base.specs.declared.int_type.IntType.TheVariants as int
use Rattle.pt_base.specs.declared.span.Span.{Span}
use Rattle.pt_base.proofs.Members.{contains_first}
use Rattle.typed_tree.specs.declared.types.VarTy.{VarTy}
use Rattle.typed_tree.specs.declared.link.LogicalOp.{LogicalOp}
use Rattle.typed_tree.specs.ExpressionTree as src
use Rattle.typed_tree.specs.ExpressionTree.{typed, FormTree, ExprTrees, no_exprs, expr_and, LinkTree, LinkTrees, no_links, link_and, link, OperandTrees, no_operands, operand_and, operand, RootTree, StepTree, StepTrees, no_steps, step_and, step_trees}
use Rattle.typed_tree.specs.WellFormedExpression.{ty_of}
use Rattle.pt_core.specs.CodeTree.{address, constant, decay, global, place}
use Rattle.source_meaning.specs.Expressions.{type_or_int, type_of}
use Rattle.usages.specs.declared.usage.How.{How}
use Rattle.usages.specs.declared.usage.How.TheVariants.{Kept, Operated, Passed}
use Rattle.usages.specs.Usages.{converted, used, evaluated, form_usages, argument_usages, link_usages, operand_usages, place_usages, root_usages, step_usages}
use Rattle.reach.specs.Contexts.{form_globals, place_globals, root_globals}
use Rattle.lowering.specs.Lowered.{Effects, Lowered, LoweredPlace, past, temp, holding, effects_of, held, held_if}
use Rattle.lowering.specs.Operators as operators
use Rattle.lowering.specs.Purity.{takes_left_first, is_pure, are_pure}
use Rattle.lowering.specs.Expressions.{is_struct, named_place, behind, field_in, decayed, decayed_type, element_place, left_place, fixed_if, value_at, checked, place_effects, linked, chain_so_far, started, valued, with_operand, arm, chosen, assigned, compounded, counted, counted_after, argued, call_effects, called, value_in, form_in, effects_in, form_effects, links_in, operands_in, arguments_in, object_in, form_object, place_in, root_in, steps_in}
use Rattle.lowered_code_law.proofs.LocalityAgreeing.{Scopes, here, there, Agree, Known, former, latter, last_known}

-- an assignment of equal values to equal places
assigned_same : (used : Bool) (ty : Option VarTy) (a : src.ExprTree) (w : Scopes) (n : ℕ) (p q : LoweredPlace) → p ≡ q → ((m : ℕ) → object_in (here w) a m ≡ object_in (there w) a m) → ((m : ℕ) → value_in (here w) a m ≡ value_in (there w) a m) →
    (let to = left_place used a n p in assigned (is_struct ty) to (object_in (here w) a (past n to.temps)) (value_in (here w) a (past n to.temps)))
    ≡ (let to = left_place used a n q in assigned (is_struct ty) to (object_in (there w) a (past n to.temps)) (value_in (there w) a (past n to.temps)))
assigned_same used ty a w n p q e object value = λ i. let to = left_place used a n (e i) in assigned (is_struct ty) to (object (past n to.temps) i) (value (past n to.temps) i)

mutual
  pub value_same : (a : src.ExprTree) (w : Scopes) (how : How) (n : ℕ) → Agree w (evaluated how a) → value_in (here w) a n ≡ value_in (there w) a n
  value_same (typed s ty form) w how n h = form_same form w s ty n (former w (form_usages ty form) (used how (typed s ty form) ∷ []) h) (last_known w (form_usages ty form) (used how (typed s ty form)) h)

  form_same : (form : FormTree) (w : Scopes) (s : Span) (ty : Option VarTy) (n : ℕ) → Agree w (form_usages ty form) → Known w (form_globals form) → form_in (here w) form s ty n ≡ form_in (there w) form s ty n
  form_same (src.constant v) w s ty n h g = refl
  form_same src.null w s ty n h g = refl
  form_same (src.read p) w s ty n h g = λ i. value_at (place_same p w n h g i)
  form_same (src.decay p) w s ty n h g = λ i. let at = place_same p w n h g i in record { stmts = at.stmts; value = decay at.place; temps = at.temps }
  form_same (src.address p) w s ty n h g = λ i. let at = place_same p w n h g i in record { stmts = at.stmts; value = address at.place; temps = at.temps }
  form_same (src.unary op a) w s ty n h g = λ i. let v = value_same a w Operated n h i in record v { value = operators.prefixed op (type_of a) v.value s }
  form_same (src.convert a) w s ty n h g = λ i. let v = value_same a w (converted (ty_of a) ty) n h i in record v { value = operators.converted (type_or_int ty) v.value }
  form_same (src.discard a) w s ty n h g = λ i. valued (effects_same a w Kept n h i) (constant int.Int (pos 0))
  form_same (src.chain a ls) w s ty n h g =
      ap (λ (v : Lowered). links_in (here w) ls a [] s (type_of a) v n) (value_same a w Operated n (former w (evaluated Operated a) (link_usages ls) h))
      ∙ links_same ls w a [] s (type_of a) (value_in (there w) a n) n (latter w (evaluated Operated a) (link_usages ls) h)
  form_same (src.logical op a os) w s ty n h g =
      let whole = typed s ty (src.logical op a os) in
      let first = value_in (there w) a n in
      let k = past n first.temps in
      ap (λ (v : Lowered). valued (operands_in (here w) os op (past n v.temps) (started whole (past n v.temps) (type_of a) s v) n) (temp (past n v.temps)))
      (value_same a w Operated n (former w (evaluated Operated a) (operand_usages os) h))
      ∙ ap (λ (far : Effects). valued far (temp k)) (operands_same os w op k (started whole k (type_of a) s first) n (latter w (evaluated Operated a) (operand_usages os) h))
  form_same (src.choice a b d) w s ty n h g =
      let arms = latter w (evaluated Operated a) (evaluated Kept b ++ evaluated Kept d) h in
      λ i. let test = value_same a w Operated n (former w (evaluated Operated a) (evaluated Kept b ++ evaluated Kept d) h) i in
      let k = past n test.temps in
      let first = value_same b w Kept (k + 1) (former w (evaluated Kept b) (evaluated Kept d) arms) i in
      let second = value_same d w Kept (past (k + 1) first.temps) (latter w (evaluated Kept b) (evaluated Kept d) arms) i in
      valued (chosen test (holding (type_or_int ty) (typed s ty (src.choice a b d)) ∷ []) (arm k first) first.temps (arm k second) second.temps) (temp k)
  form_same (src.assign p a) w s ty n h g =
      ap value_at
      (assigned_same true ty a w n (place_in (here w) p n) (place_in (there w) p n) (place_same p w n (former w (place_usages p) (evaluated Kept a) h) g)
      (λ m. object_same a w Kept m (latter w (place_usages p) (evaluated Kept a) h)) (λ m. value_same a w Kept m (latter w (place_usages p) (evaluated Kept a) h)))
  form_same (src.compound p at step a) w s ty n h g =
      λ i. let to = left_place true a n (place_same p w n (former w (place_usages p) (evaluated Operated a) h) g i) in
      value_at (compounded s step to (value_same a w Operated (past n to.temps) (latter w (place_usages p) (evaluated Operated a) h) i))
  form_same (src.step p at back false) w s ty n h g = λ i. value_at (counted s back (fixed_if true n (place_same p w n h g i)))
  form_same (src.step p at back true) w s ty n h g = λ i. let to = fixed_if true n (place_same p w n h g i) in counted_after s back (past n to.temps) (holding to.ty (typed at (Some to.ty) (src.read p))) to
  form_same (src.call f arguments) w s ty n h g = λ i. called f.0 s ty (typed s ty (src.call f arguments)) n (arguments_same arguments w f 0 n h i)

  pub effects_same : (a : src.ExprTree) (w : Scopes) (how : How) (n : ℕ) → Agree w (evaluated how a) → effects_in (here w) a n ≡ effects_in (there w) a n
  effects_same (typed s ty form) w how n h =
      let parts = former w (form_usages ty form) (used how (typed s ty form) ∷ []) h in
      let own = last_known w (form_usages ty form) (used how (typed s ty form)) h in
      form_effects_same form w s ty n (form_in (here w) form s ty n) (form_in (there w) form s ty n) parts own (form_same form w s ty n parts own)

  form_effects_same : (form : FormTree) (w : Scopes) (s : Span) (ty : Option VarTy) (n : ℕ) (v x : Lowered) → Agree w (form_usages ty form) → Known w (form_globals form) → v ≡ x → form_effects (here w) form s ty n v ≡ form_effects (there w) form s ty n x
  form_effects_same (src.constant z) w s ty n v x h g e = refl
  form_effects_same src.null w s ty n v x h g e = refl
  form_effects_same (src.read p) w s ty n v x h g e = λ i. checked (place_same p w n h g i)
  form_effects_same (src.decay p) w s ty n v x h g e = λ i. checked (place_same p w n h g i)
  form_effects_same (src.address p) w s ty n v x h g e = λ i. checked (place_same p w n h g i)
  form_effects_same (src.unary op a) w s ty n v x h g e = λ i. effects_of (held n (holding (type_or_int ty) (typed s ty (src.unary op a))) (e i))
  form_effects_same (src.convert a) w s ty n v x h g e = effects_same a w (converted (ty_of a) ty) n h
  form_effects_same (src.discard a) w s ty n v x h g e = effects_same a w Kept n h
  form_effects_same (src.chain a ls) w s ty n v x h g e = λ i. effects_of (held n (holding (type_or_int ty) (typed s ty (src.chain a ls))) (e i))
  form_effects_same (src.logical op a os) w s ty n v x h g e = λ i. effects_of (e i)
  form_effects_same (src.choice a b d) w s ty n v x h g e =
      let arms = latter w (evaluated Operated a) (evaluated Kept b ++ evaluated Kept d) h in
      λ i. let test = value_same a w Operated n (former w (evaluated Operated a) (evaluated Kept b ++ evaluated Kept d) h) i in
      let first = effects_same b w Kept (past n test.temps) (former w (evaluated Kept b) (evaluated Kept d) arms) i in
      let second = effects_same d w Kept (past (past n test.temps) first.temps) (latter w (evaluated Kept b) (evaluated Kept d) arms) i in
      chosen test [] first.stmts first.temps second.stmts second.temps
  form_effects_same (src.assign p a) w s ty n v x h g e =
      ap place_effects
      (assigned_same false ty a w n (place_in (here w) p n) (place_in (there w) p n) (place_same p w n (former w (place_usages p) (evaluated Kept a) h) g)
      (λ m. object_same a w Kept m (latter w (place_usages p) (evaluated Kept a) h)) (λ m. value_same a w Kept m (latter w (place_usages p) (evaluated Kept a) h)))
  form_effects_same (src.compound p at step a) w s ty n v x h g e =
      λ i. let to = left_place false a n (place_same p w n (former w (place_usages p) (evaluated Operated a) h) g i) in
      place_effects (compounded s step to (value_same a w Operated (past n to.temps) (latter w (place_usages p) (evaluated Operated a) h) i))
  form_effects_same (src.step p at back postfix) w s ty n v x h g e = λ i. place_effects (counted s back (place_same p w n h g i))
  form_effects_same (src.call f arguments) w s ty n v x h g e = λ i. call_effects f.0 s None [] (arguments_same arguments w f 0 n h i)

  links_same : (ls : LinkTrees) (w : Scopes) (first : src.ExprTree) (before : List LinkTree) (s : Span) (ty : VarTy) (far : Lowered) (n : ℕ) → Agree w (link_usages ls) → links_in (here w) ls first before s ty far n ≡ links_in (there w) ls first before s ty far n
  links_same no_links w first before s ty far n h = refl
  links_same (link_and (link at to step a) rest) w first before s ty far n h =
      let ready = held_if (not (takes_left_first step) || not (is_pure a)) n (holding ty (chain_so_far first before s ty)) far in
      let m = past n ready.temps in
      ap (λ (v : Lowered). links_in (here w) rest first (before ++ link at to step a ∷ []) at to (linked ty step at ready v) n) (value_same a w Operated m (former w (evaluated Operated a) (link_usages rest) h))
      ∙ links_same rest w first (before ++ link at to step a ∷ []) at to (linked ty step at ready (value_in (there w) a m)) n (latter w (evaluated Operated a) (link_usages rest) h)

  operands_same : (os : OperandTrees) (w : Scopes) (op : LogicalOp) (k : ℕ) (far : Effects) (n : ℕ) → Agree w (operand_usages os) → operands_in (here w) os op k far n ≡ operands_in (there w) os op k far n
  operands_same no_operands w op k far n h = refl
  operands_same (operand_and (operand s a) rest) w op k far n h =
      let m = past n far.temps in
      ap (λ (v : Lowered). operands_in (here w) rest op k (with_operand op k (type_of a) s far v) n) (value_same a w Operated m (former w (evaluated Operated a) (operand_usages rest) h))
      ∙ operands_same rest w op k (with_operand op k (type_of a) s far (value_in (there w) a m)) n (latter w (evaluated Operated a) (operand_usages rest) h)

  arguments_same : (all : ExprTrees) (w : Scopes) (f : FnId) (k n : ℕ) → Agree w (argument_usages f k all) → arguments_in (here w) all n ≡ arguments_in (there w) all n
  arguments_same no_exprs w f k n h = refl
  arguments_same (expr_and a rest) w f k n h =
      λ i. let v = held_if (not (are_pure rest)) n (holding (type_of a) a) (value_same a w (Passed f k) n (former w (evaluated (Passed f k) a) (argument_usages f (suc k) rest) h) i) in
      argued v (arguments_same rest w f (suc k) (past n v.temps) (latter w (evaluated (Passed f k) a) (argument_usages f (suc k) rest) h) i)

  pub object_same : (a : src.ExprTree) (w : Scopes) (how : How) (n : ℕ) → Agree w (evaluated how a) → object_in (here w) a n ≡ object_in (there w) a n
  object_same (typed s ty form) w how n h = form_object_same form w s ty n (former w (form_usages ty form) (used how (typed s ty form) ∷ []) h) (last_known w (form_usages ty form) (used how (typed s ty form)) h)

  form_object_same : (form : FormTree) (w : Scopes) (s : Span) (ty : Option VarTy) (n : ℕ) → Agree w (form_usages ty form) → Known w (form_globals form) → form_object (here w) form s ty n ≡ form_object (there w) form s ty n
  form_object_same (src.read p) w s ty n h g = place_same p w n h g
  form_object_same (src.assign p a) w s ty n h g =
      assigned_same true ty a w n (place_in (here w) p n) (place_in (there w) p n) (place_same p w n (former w (place_usages p) (evaluated Kept a) h) g)
      (λ m. object_same a w Kept m (latter w (place_usages p) (evaluated Kept a) h)) (λ m. value_same a w Kept m (latter w (place_usages p) (evaluated Kept a) h))
  form_object_same form w s ty n h g = refl

  place_same : (p : src.PlaceTree) (w : Scopes) (n : ℕ) → Agree w (place_usages p) → Known w (place_globals p) → place_in (here w) p n ≡ place_in (there w) p n
  place_same (src.place root steps) w n h g =
      ap (λ (far : LoweredPlace). steps_in (here w) steps root [] far n) (root_same root w n (former w (root_usages root) (step_usages steps) h) g)
      ∙ steps_same steps w root [] (root_in (there w) root n) n (latter w (root_usages root) (step_usages steps) h)

  root_same : (root : RootTree) (w : Scopes) (n : ℕ) → Agree w (root_usages root) → Known w (root_globals root) → root_in (here w) root n ≡ root_in (there w) root n
  root_same (src.local v) w n h g = refl
  root_same (src.global x) w n h g = ap (λ (ty : VarTy). named_place (src.global x) ty (place (global x.0) [])) (g x (contains_first x []))
  root_same (src.deref a s) w n h g = λ i. behind s a (value_same a w Kept n h i)
  root_same (src.assigned a) w n h g = object_same a w Kept n h

  steps_same : (steps : StepTrees) (w : Scopes) (root : RootTree) (before : List StepTree) (far : LoweredPlace) (n : ℕ) → Agree w (step_usages steps) → steps_in (here w) steps root before far n ≡ steps_in (there w) steps root before far n
  steps_same no_steps w root before far n h = refl
  steps_same (step_and (src.field k) rest) w root before far n h = steps_same rest w root (before ++ src.field k ∷ []) (field_in (there w) k far) n h
  steps_same (step_and (src.item index s) rest) w root before far n h =
      let first = decayed s (src.place root (step_trees before)) far in
      let ty = decayed_type far.fixed far.ty in
      let array : Lowered = record { stmts = far.stmts; value = decay far.place; temps = far.temps } in
      let base = held_if (not (is_pure index)) n (holding ty first) array in
      let m = past n base.temps in
      ap (λ (v : Lowered). steps_in (here w) rest root (before ++ src.item index s ∷ []) (element_place s first index ty base v) n) (value_same index w Operated m (former w (evaluated Operated index) (step_usages rest) h))
      ∙ steps_same rest w root (before ++ src.item index s ∷ []) (element_place s first index ty base (value_in (there w) index m)) n (latter w (evaluated Operated index) (step_usages rest) h)
