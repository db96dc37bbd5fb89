-- Expressions and places, lowered, name no more than they did: by induction on the tree.
use Rattle.std.proofs.Common.{ℕ, ◌+◌, true, false, Option, Some, None, List, [], ◌∷◌, ◌++◌}
use Rattle.std.specs.Prelude.{◌||◌, not}
use Rattle.pt_base.specs.declared.span.Span.{Span}
use Rattle.typed_tree.specs.declared.types.VarTy.{VarTy}
use Rattle.typed_tree.specs.declared.link.LogicalOp.{LogicalOp}
use Rattle.typed_tree.specs.ExpressionTree as src
use Rattle.typed_tree.specs.ExpressionTree.{typed, FormTree, ExprTrees, no_exprs, expr_and, LinkTree, LinkTrees, no_links, link_and, link, OperandTrees, no_operands, operand_and, operand, RootTree, StepTree, StepTrees, no_steps, step_and, step_trees}
use Rattle.pt_core.specs.CodeTree.{decay}
use Rattle.source_meaning.specs.Expressions.{type_or_int, type_of}
use Rattle.lowering.specs.Lowered.{Effects, Lowered, LoweredPlace, past, holding, held_if}
use Rattle.lowering.specs.Purity.{takes_left_first, is_pure, are_pure}
use Rattle.lowering.specs.Expressions.{Scope, is_struct, field_in, decayed, decayed_type, element_place, left_place, fixed_if, linked, chain_so_far, started, with_operand, arm, value_in, form_in, effects_in, form_effects, links_in, operands_in, arguments_in, object_in, form_object, place_in, root_in, steps_in}
use Rattle.lowered_code_law.proofs.NamesNaming.{Allowed, ExprNames, FormNames, ExprsName, LinksName, OperandsName, PlaceNames, RootNames, StepsName, EffectsWithin, LoweredWithin, FoundWithin, ArgumentsWithin}
use Rattle.lowered_code_law.proofs.NamesForms.{converted_within, prefixed_within, held_within, held_if_within, field_within, element_within, fixed_if_within, checked_within, linked_within, started_within, operand_within, arm_within, chosen_within, assigned_within, compounded_within, counted_within, counted_after_within, argued_within, call_within, called_within}

mutual
  pub value_within : (a : src.ExprTree) (w : Allowed) (c : Scope) (n : ℕ) → ExprNames w a → LoweredWithin w (value_in c a n)
  value_within (typed s ty form) w c n h = form_within form w c s ty n h

  form_within : (form : FormTree) (w : Allowed) (c : Scope) (s : Span) (ty : Option VarTy) (n : ℕ) → FormNames w form → LoweredWithin w (form_in c form s ty n)
  form_within (src.constant v) w c s ty n h = (tt, tt)
  form_within src.null w c s ty n h = (tt, tt)
  form_within (src.read p) w c s ty n h = place_within p w c n h
  form_within (src.decay p) w c s ty n h = place_within p w c n h
  form_within (src.address p) w c s ty n h = place_within p w c n h
  form_within (src.unary op a) w c s ty n h = let v = value_within a w c n h in (v.0, prefixed_within w op (type_of a) (value_in c a n).value s v.1)
  form_within (src.convert a) w c s ty n h = let v = value_within a w c n h in (v.0, converted_within w (type_or_int ty) (value_in c a n).value v.1)
  form_within (src.discard a) w c s ty n h = (effects_within a w c n h, tt)
  form_within (src.chain a ls) w c s ty n h = links_within ls w c a [] s (type_of a) (value_in c a n) n h.1 (value_within a w c n h.0)
  form_within (src.logical op a os) w c s ty n h =
      let first = value_in c a n in
      let k = past n first.temps in
      let whole = typed s ty (src.logical op a os) in
      (operands_within os w c op k (started whole k (type_of a) s first) n h.1 (started_within w whole k (type_of a) s first (value_within a w c n h.0)), tt)
  form_within (src.choice a b d) w c s ty n h =
      let test = value_in c a n in
      let k = past n test.temps in
      let first = value_in c b (k + 1) in
      let second = value_in c d (past (k + 1) first.temps) in
      let own = holding (type_or_int ty) (typed s ty (src.choice a b d)) ∷ [] in (
        chosen_within w test own (arm k first) first.temps (arm k second) second.temps (value_within a w c n h.0)
            (arm_within w k first (value_within b w c (k + 1) h.1)) (arm_within w k second (value_within d w c (past (k + 1) first.temps) h.2)),
        tt,
      )
  form_within (src.assign p a) w c s ty n h =
      let to = left_place true a n (place_in c p n) in
      let left = fixed_if_within (true || not (is_pure a)) w n (place_in c p n) (place_within p w c n h.0) in
      assigned_within (is_struct ty) w to (object_in c a (past n to.temps)) (value_in c a (past n to.temps)) left (object_within a w c (past n to.temps) h.1) (value_within a w c (past n to.temps) h.1)
  form_within (src.compound p at step a) w c s ty n h =
      let to = left_place true a n (place_in c p n) in
      let left = fixed_if_within (true || not (is_pure a)) w n (place_in c p n) (place_within p w c n h.0) in
      compounded_within w s step to (value_in c a (past n to.temps)) left (value_within a w c (past n to.temps) h.1)
  form_within (src.step p at back false) w c s ty n h = counted_within w s back (fixed_if true n (place_in c p n)) (fixed_if_within true w n (place_in c p n) (place_within p w c n h))
  form_within (src.step p at back true) w c s ty n h =
      let to = fixed_if true n (place_in c p n) in
      counted_after_within w s back (past n to.temps) (holding to.ty (typed at (Some to.ty) (src.read p))) to (fixed_if_within true w n (place_in c p n) (place_within p w c n h))
  form_within (src.call f arguments) w c s ty n h = called_within w f.0 s ty (typed s ty (src.call f arguments)) n (arguments_in c arguments n) h.0 (arguments_within arguments w c n h.1)

  pub effects_within : (a : src.ExprTree) (w : Allowed) (c : Scope) (n : ℕ) → ExprNames w a → EffectsWithin w (effects_in c a n)
  effects_within (typed s ty form) w c n h = form_effects_within form w c s ty n (form_in c form s ty n) h (form_within form w c s ty n h)

  form_effects_within : (form : FormTree) (w : Allowed) (c : Scope) (s : Span) (ty : Option VarTy) (n : ℕ) (v : Lowered) → FormNames w form → LoweredWithin w v → EffectsWithin w (form_effects c form s ty n v)
  form_effects_within (src.constant x) w c s ty n v h k = tt
  form_effects_within src.null w c s ty n v h k = tt
  form_effects_within (src.read p) w c s ty n v h k = checked_within w (place_in c p n) (place_within p w c n h)
  form_effects_within (src.decay p) w c s ty n v h k = checked_within w (place_in c p n) (place_within p w c n h)
  form_effects_within (src.address p) w c s ty n v h k = checked_within w (place_in c p n) (place_within p w c n h)
  form_effects_within (src.unary op a) w c s ty n v h k = (held_within w n (holding (type_or_int ty) (typed s ty (src.unary op a))) v k).0
  form_effects_within (src.convert a) w c s ty n v h k = effects_within a w c n h
  form_effects_within (src.discard a) w c s ty n v h k = effects_within a w c n h
  form_effects_within (src.chain a ls) w c s ty n v h k = (held_within w n (holding (type_or_int ty) (typed s ty (src.chain a ls))) v k).0
  form_effects_within (src.logical op a os) w c s ty n v h k = k.0
  form_effects_within (src.choice a b d) w c s ty n v h k =
      let test = value_in c a n in
      let first = effects_in c b (past n test.temps) in
      let second = effects_in c d (past (past n test.temps) first.temps) in
      chosen_within w test [] first.stmts first.temps second.stmts second.temps (value_within a w c n h.0) (effects_within b w c (past n test.temps) h.1) (effects_within d w c (past (past n test.temps) first.temps) h.2)
  form_effects_within (src.assign p a) w c s ty n v h k =
      let to = left_place false a n (place_in c p n) in
      let left = fixed_if_within (false || not (is_pure a)) w n (place_in c p n) (place_within p w c n h.0) in
      (assigned_within (is_struct ty) w to (object_in c a (past n to.temps)) (value_in c a (past n to.temps)) left (object_within a w c (past n to.temps) h.1) (value_within a w c (past n to.temps) h.1)).0
  form_effects_within (src.compound p at step a) w c s ty n v h k =
      let to = left_place false a n (place_in c p n) in
      let left = fixed_if_within (false || not (is_pure a)) w n (place_in c p n) (place_within p w c n h.0) in
      (compounded_within w s step to (value_in c a (past n to.temps)) left (value_within a w c (past n to.temps) h.1)).0
  form_effects_within (src.step p at back postfix) w c s ty n v h k = (counted_within w s back (place_in c p n) (place_within p w c n h)).0
  form_effects_within (src.call f arguments) w c s ty n v h k = call_within w f.0 s None [] (arguments_in c arguments n) h.0 (arguments_within arguments w c n h.1)

  links_within : (ls : LinkTrees) (w : Allowed) (c : Scope) (first : src.ExprTree) (before : List LinkTree) (s : Span) (ty : VarTy) (far : Lowered) (n : ℕ) → LinksName w ls → LoweredWithin w far → LoweredWithin w (links_in c ls first before s ty far n)
  links_within no_links w c first before s ty far n h k = k
  links_within (link_and (link at to step a) rest) w c first before s ty far n h k =
      let waits = not (takes_left_first step) || not (is_pure a) in
      let x = holding ty (chain_so_far first before s ty) in
      let ready = held_if waits n x far in
      let v = value_in c a (past n ready.temps) in
      links_within rest w c first (before ++ link at to step a ∷ []) at to (linked ty step at ready v) n h.1
      (linked_within w ty step at ready v (held_if_within waits w n x far k) (value_within a w c (past n ready.temps) h.0))

  operands_within : (os : OperandTrees) (w : Allowed) (c : Scope) (op : LogicalOp) (k : ℕ) (far : Effects) (n : ℕ) → OperandsName w os → EffectsWithin w far → EffectsWithin w (operands_in c os op k far n)
  operands_within no_operands w c op k far n h i = i
  operands_within (operand_and (operand s a) rest) w c op k far n h i =
      let v = value_in c a (past n far.temps) in
      operands_within rest w c op k (with_operand op k (type_of a) s far v) n h.1 (operand_within w op k (type_of a) s far v i (value_within a w c (past n far.temps) h.0))

  arguments_within : (all : ExprTrees) (w : Allowed) (c : Scope) (n : ℕ) → ExprsName w all → ArgumentsWithin w (arguments_in c all n)
  arguments_within no_exprs w c n h = (tt, tt)
  arguments_within (expr_and a rest) w c n h =
      let waits = not (are_pure rest) in
      let x = holding (type_of a) a in
      let v = held_if waits n x (value_in c a n) in
      argued_within w v (arguments_in c rest (past n v.temps)) (held_if_within waits w n x (value_in c a n) (value_within a w c n h.0)) (arguments_within rest w c (past n v.temps) h.1)

  pub object_within : (a : src.ExprTree) (w : Allowed) (c : Scope) (n : ℕ) → ExprNames w a → FoundWithin w (object_in c a n)
  object_within (typed s ty form) w c n h = form_object_within form w c s ty n h

  form_object_within : (form : FormTree) (w : Allowed) (c : Scope) (s : Span) (ty : Option VarTy) (n : ℕ) → FormNames w form → FoundWithin w (form_object c form s ty n)
  form_object_within (src.read p) w c s ty n h = place_within p w c n h
  form_object_within (src.assign p a) w c s ty n h =
      let to = left_place true a n (place_in c p n) in
      let left = fixed_if_within (true || not (is_pure a)) w n (place_in c p n) (place_within p w c n h.0) in
      assigned_within (is_struct ty) w to (object_in c a (past n to.temps)) (value_in c a (past n to.temps)) left (object_within a w c (past n to.temps) h.1) (value_within a w c (past n to.temps) h.1)
  form_object_within form w c s ty n h = (tt, tt)

  place_within : (p : src.PlaceTree) (w : Allowed) (c : Scope) (n : ℕ) → PlaceNames w p → FoundWithin w (place_in c p n)
  place_within (src.place root steps) w c n h = steps_within steps w c root [] (root_in c root n) n h.1 (root_within root w c n h.0)

  root_within : (root : RootTree) (w : Allowed) (c : Scope) (n : ℕ) → RootNames w root → FoundWithin w (root_in c root n)
  root_within (src.local v) w c n h = (tt, tt)
  root_within (src.global g) w c n h = (tt, h)
  root_within (src.deref a s) w c n h = value_within a w c n h
  root_within (src.assigned a) w c n h = object_within a w c n h

  steps_within : (steps : StepTrees) (w : Allowed) (c : Scope) (root : RootTree) (before : List StepTree) (far : LoweredPlace) (n : ℕ) → StepsName w steps → FoundWithin w far → FoundWithin w (steps_in c steps root before far n)
  steps_within no_steps w c root before far n h k = k
  steps_within (step_and (src.field j) rest) w c root before far n h k = steps_within rest w c root (before ++ src.field j ∷ []) (field_in c j far) n h (field_within w c j far k)
  steps_within (step_and (src.item index s) rest) w c root before far n h k =
      let first = decayed s (src.place root (step_trees before)) far in
      let ty = decayed_type far.fixed far.ty in
      let waits = not (is_pure index) in
      let array : Lowered = record { stmts = far.stmts; value = decay far.place; temps = far.temps } in
      let base = held_if waits n (holding ty first) array in
      let v = value_in c index (past n base.temps) in
      steps_within rest w c root (before ++ src.item index s ∷ []) (element_place s first index ty base v) n h.1
      (element_within w s first index ty base v (held_if_within waits w n (holding ty first) array k) (value_within index w c (past n base.temps) h.0))
