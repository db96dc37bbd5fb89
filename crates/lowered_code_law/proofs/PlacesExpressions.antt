-- Expressions and places, lowered, without their places are what is lowered without places: by induction on the tree.
use Rattle.std.proofs.Common.{◌≡◌, ◌∙◌, refl, ap, ℕ, ◌+◌, Bool, true, false, Option, Some, None, List, [], ◌∷◌, ◌++◌, map}
use Rattle.std.specs.Prelude.{◌||◌, not, pos}
use Rattle.std.proofs.lemmas.List.{map-append}
use Rattle.pt_base.specs.declared.int_type.IntType.TheVariants as int
use Rattle.pt_base.specs.declared.span.Span.{Span}
use Rattle.typed_tree.specs.declared.types.VarTy.{VarTy}
use Rattle.typed_tree.specs.declared.link.LinkStep.{LinkStep}
use Rattle.typed_tree.specs.declared.link.LogicalOp.{LogicalOp}
use Rattle.typed_tree.specs.ExpressionTree as src
use Rattle.typed_tree.specs.ExpressionTree.{typed, FormTree, ExprTrees, no_exprs, expr_and, LinkTree, LinkTrees, no_links, link_and, link, OperandTrees, no_operands, operand_and, operand, RootTree, StepTree, StepTrees, no_steps, step_and, step_trees}
use Rattle.pt_core.specs.CodeTree.{address, constant, decay}
use Rattle.source_meaning.specs.Expressions.{type_or_int, type_of}
use Rattle.lowering.specs.Lowered.{Effects, Lowered, LoweredPlace, past, temp, holding, effects_of, held, held_if}
use Rattle.lowering.specs.Operators.{converted, prefixed}
use Rattle.lowering.specs.Purity.{takes_left_first, is_pure, are_pure}
use Rattle.lowering.specs.Expressions.{Scope, is_struct, behind, field_in, decayed, decayed_type, element_place, left_place, fixed_if, value_at, checked, place_effects, linked, chain_so_far, started, valued, with_operand, arm, chosen, assigned, compounded, counted, counted_after, argued, call_effects, called, value_in, form_in, effects_in, form_effects, links_in, operands_in, arguments_in, object_in, form_object, place_in, root_in, steps_in}
use Rattle.lowered_code_law.specs.PlacesBareTrees.{bare, bare_all, bare_form, bare_links, bare_operands, bare_place, bare_root, bare_steps, nowhere}
use Rattle.lowered_code_law.proofs.PlacesForms.{all_pure_bare, argued_bare, arm_bare, assigned_bare, bare_arguments, bare_effects, bare_found, bare_link, bare_lowered, bare_step, behind_bare, call_bare, called_bare, chain_bare, checked_bare, chosen_bare, compounded_bare, converted_bare, counted_after_bare, counted_bare, element_bare, field_bare, fixed_if_bare, held_bare, held_if_bare, left_bare, linked_bare, operand_bare, past_bare, prefixed_bare, pure_bare, started_bare, step_trees_bare, type_bare}

-- an assignment, of which place and values are known without places
assign_bare : (used : Bool) (ty : Option VarTy) (a : src.ExprTree) (c : Scope) (n : ℕ) (p q : LoweredPlace) → bare_found p ≡ q → ((m : ℕ) → bare_found (object_in c a m) ≡ object_in c (bare a) m) → ((m : ℕ) → bare_lowered (value_in c a m) ≡ value_in c (bare a) m) →
    bare_found (let to = left_place used a n p in assigned (is_struct ty) to (object_in c a (past n to.temps)) (value_in c a (past n to.temps)))
    ≡ (let to = left_place used (bare a) n q in assigned (is_struct ty) to (object_in c (bare a) (past n to.temps)) (value_in c (bare a) (past n to.temps)))
assign_bare used ty a c n p q e object value =
    let to = left_place used a n p in
    let left = left_bare used a n p ∙ ap (left_place used (bare a) n) e in
    let number = past_bare n to.temps ∙ ap (λ (x : LoweredPlace). past n x.temps) left in
    let other = object (past n to.temps) ∙ ap (object_in c (bare a)) number in
    let given = value (past n to.temps) ∙ ap (value_in c (bare a)) number in
    assigned_bare (is_struct ty) to (object_in c a (past n to.temps)) (value_in c a (past n to.temps)) ∙ (λ i. assigned (is_struct ty) (left i) (other i) (given i))

compound_bare : (used : Bool) (s : Span) (step : LinkStep) (a : src.ExprTree) (c : Scope) (n : ℕ) (p q : LoweredPlace) → bare_found p ≡ q → ((m : ℕ) → bare_lowered (value_in c a m) ≡ value_in c (bare a) m) →
    bare_found (let to = left_place used a n p in compounded s step to (value_in c a (past n to.temps)))
    ≡ (let to = left_place used (bare a) n q in compounded nowhere step to (value_in c (bare a) (past n to.temps)))
compound_bare used s step a c n p q e value =
    let to = left_place used a n p in
    let left = left_bare used a n p ∙ ap (left_place used (bare a) n) e in
    let number = past_bare n to.temps ∙ ap (λ (x : LoweredPlace). past n x.temps) left in
    let given = value (past n to.temps) ∙ ap (value_in c (bare a)) number in
    compounded_bare s step to (value_in c a (past n to.temps)) ∙ (λ i. compounded nowhere step (left i) (given i))

mutual
  pub value_bare : (a : src.ExprTree) (c : Scope) (n : ℕ) → bare_lowered (value_in c a n) ≡ value_in c (bare a) n
  value_bare (typed s ty form) c n = form_bare form c s ty n

  form_bare : (form : FormTree) (c : Scope) (s : Span) (ty : Option VarTy) (n : ℕ) → bare_lowered (form_in c form s ty n) ≡ form_in c (bare_form form) nowhere ty n
  form_bare (src.constant v) c s ty n = refl
  form_bare src.null c s ty n = refl
  form_bare (src.read p) c s ty n = λ i. value_at (place_bare p c n i)
  form_bare (src.decay p) c s ty n = λ i. let at = place_bare p c n i in record { stmts = at.stmts; value = decay at.place; temps = at.temps }
  form_bare (src.address p) c s ty n = λ i. let at = place_bare p c n i in record { stmts = at.stmts; value = address at.place; temps = at.temps }
  form_bare (src.unary op a) c s ty n =
      let v = value_in c a n in
      (λ i. record (bare_lowered v) { value = prefixed_bare op (type_of a) v.value s i })
      ∙ (λ i. let x = value_bare a c n i in record x { value = prefixed op (type_bare a i) x.value nowhere })
  form_bare (src.convert a) c s ty n =
      let v = value_in c a n in
      (λ i. record (bare_lowered v) { value = converted_bare (type_or_int ty) v.value i })
      ∙ (λ i. let x = value_bare a c n i in record x { value = converted (type_or_int ty) x.value })
  form_bare (src.discard a) c s ty n = λ i. valued (effects_bare a c n i) (constant int.Int (pos 0))
  form_bare (src.chain a ls) c s ty n = links_bare ls c a [] s (type_of a) (value_in c a n) n ∙ (λ i. links_in c (bare_links ls) (bare a) [] nowhere (type_bare a i) (value_bare a c n i) n)
  form_bare (src.logical op a os) c s ty n =
      let whole = typed s ty (src.logical op a os) in
      let first = value_in c a n in
      let k = past n first.temps in
      let number = past_bare n first.temps ∙ ap (λ (x : Lowered). past n x.temps) (value_bare a c n) in
      let start = started_bare whole k (type_of a) s first ∙ (λ i. started (bare whole) (number i) (type_bare a i) nowhere (value_bare a c n i)) in
      (λ i. valued (operands_bare os c op k (started whole k (type_of a) s first) n i) (temp k)) ∙ (λ i. valued (operands_in c (bare_operands os) op (number i) (start i) n) (temp (number i)))
  form_bare (src.choice a b d) c s ty n =
      let whole = typed s ty (src.choice a b d) in
      let own = holding (type_or_int ty) whole ∷ [] in
      let test = value_in c a n in
      let k = past n test.temps in
      let first = value_in c b (k + 1) in
      let second = value_in c d (past (k + 1) first.temps) in
      let number = past_bare n test.temps ∙ ap (λ (x : Lowered). past n x.temps) (value_bare a c n) in
      let one = value_bare b c (k + 1) ∙ (λ i. value_in c (bare b) (number i + 1)) in
      let next = past_bare (k + 1) first.temps ∙ (λ i. past (number i + 1) (one i).temps) in
      let two = value_bare d c (past (k + 1) first.temps) ∙ ap (value_in c (bare d)) next in
      let held = holding (type_or_int ty) (bare whole) ∷ [] in
      let parts = chosen_bare test own (arm k first) first.temps (arm k second) second.temps
      ∙ (λ i. chosen (bare_lowered test) held (arm_bare k first i) (bare_lowered first).temps (arm_bare k second i) (bare_lowered second).temps) in
      (λ i. valued (parts i) (temp k)) ∙ (λ i. valued (chosen (value_bare a c n i) held (arm (number i) (one i)) (one i).temps (arm (number i) (two i)) (two i).temps) (temp (number i)))
  form_bare (src.assign p a) c s ty n = ap value_at (assign_bare true ty a c n (place_in c p n) (place_in c (bare_place p) n) (place_bare p c n) (λ m. object_bare a c m) (λ m. value_bare a c m))
  form_bare (src.compound p at step a) c s ty n = ap value_at (compound_bare true s step a c n (place_in c p n) (place_in c (bare_place p) n) (place_bare p c n) (λ m. value_bare a c m))
  form_bare (src.step p at back false) c s ty n =
      let to = fixed_if true n (place_in c p n) in
      ap value_at (counted_bare s back to ∙ ap (counted nowhere back) (fixed_if_bare true n (place_in c p n) ∙ ap (fixed_if true n) (place_bare p c n)))
  form_bare (src.step p at back true) c s ty n =
      let to = fixed_if true n (place_in c p n) in
      let left = fixed_if_bare true n (place_in c p n) ∙ ap (fixed_if true n) (place_bare p c n) in
      let number = past_bare n to.temps ∙ ap (λ (x : LoweredPlace). past n x.temps) left in
      counted_after_bare s back (past n to.temps) (holding to.ty (typed at (Some to.ty) (src.read p))) to
      ∙ (λ i. counted_after nowhere back (number i) (holding (left i).ty (typed nowhere (Some (left i).ty) (src.read (bare_place p)))) (left i))
  form_bare (src.call f arguments) c s ty n =
      let whole = typed s ty (src.call f arguments) in
      called_bare f.0 s ty whole n (arguments_in c arguments n) ∙ ap (called f.0 nowhere ty (bare whole) n) (arguments_bare arguments c n)

  pub effects_bare : (a : src.ExprTree) (c : Scope) (n : ℕ) → bare_effects (effects_in c a n) ≡ effects_in c (bare a) n
  effects_bare (typed s ty form) c n = form_effects_bare form c s ty n (form_in c form s ty n) (form_in c (bare_form form) nowhere ty n) (form_bare form c s ty n)

  form_effects_bare : (form : FormTree) (c : Scope) (s : Span) (ty : Option VarTy) (n : ℕ) (v x : Lowered) → bare_lowered v ≡ x → bare_effects (form_effects c form s ty n v) ≡ form_effects c (bare_form form) nowhere ty n x
  form_effects_bare (src.constant z) c s ty n v x e = refl
  form_effects_bare src.null c s ty n v x e = refl
  form_effects_bare (src.read p) c s ty n v x e = checked_bare (place_in c p n) ∙ ap checked (place_bare p c n)
  form_effects_bare (src.decay p) c s ty n v x e = checked_bare (place_in c p n) ∙ ap checked (place_bare p c n)
  form_effects_bare (src.address p) c s ty n v x e = checked_bare (place_in c p n) ∙ ap checked (place_bare p c n)
  form_effects_bare (src.unary op a) c s ty n v x e =
      let whole = typed s ty (src.unary op a) in
      ap effects_of (held_bare n (holding (type_or_int ty) whole) v ∙ ap (held n (holding (type_or_int ty) (bare whole))) e)
  form_effects_bare (src.convert a) c s ty n v x e = effects_bare a c n
  form_effects_bare (src.discard a) c s ty n v x e = effects_bare a c n
  form_effects_bare (src.chain a ls) c s ty n v x e =
      let whole = typed s ty (src.chain a ls) in
      ap effects_of (held_bare n (holding (type_or_int ty) whole) v ∙ ap (held n (holding (type_or_int ty) (bare whole))) e)
  form_effects_bare (src.logical op a os) c s ty n v x e = ap effects_of e
  form_effects_bare (src.choice a b d) c s ty n v x e =
      let test = value_in c a n in
      let k = past n test.temps in
      let first = effects_in c b k in
      let second = effects_in c d (past k first.temps) in
      let number = past_bare n test.temps ∙ ap (λ (y : Lowered). past n y.temps) (value_bare a c n) in
      let one = effects_bare b c k ∙ ap (effects_in c (bare b)) number in
      let next = past_bare k first.temps ∙ (λ i. past (number i) (one i).temps) in
      let two = effects_bare d c (past k first.temps) ∙ ap (effects_in c (bare d)) next in
      chosen_bare test [] first.stmts first.temps second.stmts second.temps ∙ (λ i. chosen (value_bare a c n i) [] (one i).stmts (one i).temps (two i).stmts (two i).temps)
  form_effects_bare (src.assign p a) c s ty n v x e = ap place_effects (assign_bare false ty a c n (place_in c p n) (place_in c (bare_place p) n) (place_bare p c n) (λ m. object_bare a c m) (λ m. value_bare a c m))
  form_effects_bare (src.compound p at step a) c s ty n v x e = ap place_effects (compound_bare false s step a c n (place_in c p n) (place_in c (bare_place p) n) (place_bare p c n) (λ m. value_bare a c m))
  form_effects_bare (src.step p at back postfix) c s ty n v x e = ap place_effects (counted_bare s back (place_in c p n) ∙ ap (counted nowhere back) (place_bare p c n))
  form_effects_bare (src.call f arguments) c s ty n v x e = call_bare f.0 s None [] (arguments_in c arguments n) ∙ ap (call_effects f.0 nowhere None []) (arguments_bare arguments c n)

  links_bare : (ls : LinkTrees) (c : Scope) (first : src.ExprTree) (before : List LinkTree) (s : Span) (ty : VarTy) (far : Lowered) (n : ℕ) → bare_lowered (links_in c ls first before s ty far n) ≡ links_in c (bare_links ls) (bare first) (map bare_link before) nowhere ty (bare_lowered far) n
  links_bare no_links c first before s ty far n = refl
  links_bare (link_and (link at to step a) rest) c first before s ty far n =
      let waits = not (takes_left_first step) || not (is_pure a) in
      let x = holding ty (chain_so_far first before s ty) in
      let ready = held_if waits n x far in
      let v = value_in c a (past n ready.temps) in
      let held = held_if_bare waits n x far ∙ (λ i. held_if (not (takes_left_first step) || not (pure_bare a i)) n (holding ty (chain_bare first before s ty i)) (bare_lowered far)) in
      let number = past_bare n ready.temps ∙ ap (λ (y : Lowered). past n y.temps) held in
      let value = value_bare a c (past n ready.temps) ∙ ap (value_in c (bare a)) number in
      let next = linked_bare ty step at ready v ∙ (λ i. linked ty step nowhere (held i) (value i)) in
      links_bare rest c first (before ++ link at to step a ∷ []) at to (linked ty step at ready v) n
      ∙ (λ i. links_in c (bare_links rest) (bare first) (map-append bare_link before (link at to step a ∷ []) i) nowhere to (next i) n)

  operands_bare : (os : OperandTrees) (c : Scope) (op : LogicalOp) (k : ℕ) (far : Effects) (n : ℕ) → bare_effects (operands_in c os op k far n) ≡ operands_in c (bare_operands os) op k (bare_effects far) n
  operands_bare no_operands c op k far n = refl
  operands_bare (operand_and (operand s a) rest) c op k far n =
      let v = value_in c a (past n far.temps) in
      let value = value_bare a c (past n far.temps) ∙ ap (value_in c (bare a)) (past_bare n far.temps) in
      let next = operand_bare op k (type_of a) s far v ∙ (λ i. with_operand op k (type_bare a i) nowhere (bare_effects far) (value i)) in
      operands_bare rest c op k (with_operand op k (type_of a) s far v) n ∙ (λ i. operands_in c (bare_operands rest) op k (next i) n)

  arguments_bare : (all : ExprTrees) (c : Scope) (n : ℕ) → bare_arguments (arguments_in c all n) ≡ arguments_in c (bare_all all) n
  arguments_bare no_exprs c n = refl
  arguments_bare (expr_and a rest) c n =
      let waits = not (are_pure rest) in
      let v = held_if waits n (holding (type_of a) a) (value_in c a n) in
      let first = held_if_bare waits n (holding (type_of a) a) (value_in c a n) ∙ (λ i. held_if (not (all_pure_bare rest i)) n (holding (type_bare a i) (bare a)) (value_bare a c n i)) in
      let number = past_bare n v.temps ∙ ap (λ (y : Lowered). past n y.temps) first in
      let others = arguments_bare rest c (past n v.temps) ∙ ap (arguments_in c (bare_all rest)) number in
      argued_bare v (arguments_in c rest (past n v.temps)) ∙ (λ i. argued (first i) (others i))

  pub object_bare : (a : src.ExprTree) (c : Scope) (n : ℕ) → bare_found (object_in c a n) ≡ object_in c (bare a) n
  object_bare (typed s ty form) c n = form_object_bare form c s ty n

  form_object_bare : (form : FormTree) (c : Scope) (s : Span) (ty : Option VarTy) (n : ℕ) → bare_found (form_object c form s ty n) ≡ form_object c (bare_form form) nowhere ty n
  form_object_bare (src.read p) c s ty n = place_bare p c n
  form_object_bare (src.assign p a) c s ty n = assign_bare true ty a c n (place_in c p n) (place_in c (bare_place p) n) (place_bare p c n) (λ m. object_bare a c m) (λ m. value_bare a c m)
  form_object_bare form c s ty n = refl

  place_bare : (p : src.PlaceTree) (c : Scope) (n : ℕ) → bare_found (place_in c p n) ≡ place_in c (bare_place p) n
  place_bare (src.place root steps) c n = more_bare steps c root [] (root_in c root n) n ∙ (λ i. steps_in c (bare_steps steps) (bare_root root) [] (start_bare root c n i) n)

  start_bare : (root : RootTree) (c : Scope) (n : ℕ) → bare_found (root_in c root n) ≡ root_in c (bare_root root) n
  start_bare (src.local v) c n = refl
  start_bare (src.global g) c n = refl
  start_bare (src.deref a s) c n = behind_bare s a (value_in c a n) ∙ ap (behind nowhere (bare a)) (value_bare a c n)
  start_bare (src.assigned a) c n = object_bare a c n

  more_bare : (steps : StepTrees) (c : Scope) (root : RootTree) (before : List StepTree) (far : LoweredPlace) (n : ℕ) → bare_found (steps_in c steps root before far n) ≡ steps_in c (bare_steps steps) (bare_root root) (map bare_step before) (bare_found far) n
  more_bare no_steps c root before far n = refl
  more_bare (step_and (src.field k) rest) c root before far n =
      more_bare rest c root (before ++ src.field k ∷ []) (field_in c k far) n ∙ (λ i. steps_in c (bare_steps rest) (bare_root root) (map-append bare_step before (src.field k ∷ []) i) (field_bare c k far i) n)
  more_bare (step_and (src.item index s) rest) c root before far n =
      let first = decayed s (src.place root (step_trees before)) far in
      let ty = decayed_type far.fixed far.ty in
      let array : Lowered = record { stmts = far.stmts; value = decay far.place; temps = far.temps } in
      let waits = not (is_pure index) in
      let base = held_if waits n (holding ty first) array in
      let v = value_in c index (past n base.temps) in
      let start = ap (λ (steps : StepTrees). typed nowhere (Some ty) (src.decay (src.place (bare_root root) steps))) (step_trees_bare before) in
      let held = held_if_bare waits n (holding ty first) array ∙ (λ i. held_if (not (pure_bare index i)) n (holding ty (start i)) (bare_lowered array)) in
      let number = past_bare n base.temps ∙ ap (λ (y : Lowered). past n y.temps) held in
      let value = value_bare index c (past n base.temps) ∙ ap (value_in c (bare index)) number in
      let next = element_bare s first index ty base v ∙ (λ i. element_place nowhere (start i) (bare index) ty (held i) (value i)) in
      more_bare rest c root (before ++ src.item index s ∷ []) (element_place s first index ty base v) n
      ∙ (λ i. steps_in c (bare_steps rest) (bare_root root) (map-append bare_step before (src.item index s ∷ []) i) (next i) n)
