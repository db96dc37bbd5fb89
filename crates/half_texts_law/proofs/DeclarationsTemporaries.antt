-- A lowered expression has fewer temporaries than three times its nodes: by induction on the tree.
use Rattle.std.proofs.Common.{◌≤◌, ◌<◌, ◌+◌, ◌*◌, ℕ, Bool, true, false, List, [], ◌∷◌, ◌++◌, length, Option, Some, None, arith, length-append}
use Rattle.std.specs.Prelude.{◌||◌, not}
use Rattle.pt_base.specs.declared.span.Span.{Span}
use Rattle.typed_tree.specs.declared.types.VarTy.{VarTy}
use Rattle.typed_tree.specs.declared.link.LogicalOp.{LogicalOp}
use Rattle.typed_tree.specs.ExpressionTree as src
use Rattle.typed_tree.specs.ExpressionTree.{typed, FormTree, ExprTrees, no_exprs, expr_and, LinkTree, LinkTrees, no_links, link_and, link, OperandTrees, no_operands, operand_and, operand, RootTree, StepTree, StepTrees, no_steps, step_and, step_trees}
use Rattle.typed_tree.specs.Nodes.{expr_nodes, form_nodes, exprs_nodes, link_nodes, operand_nodes, place_nodes, root_nodes, step_nodes}
use Rattle.pt_core.specs.CodeTree as core
use Rattle.source_meaning.specs.Expressions.{type_or_int, type_of}
use Rattle.lowering.specs.Lowered.{Temp, Effects, Lowered, LoweredPlace, Arguments, past, holding, int, held_if}
use Rattle.lowering.specs.Purity.{takes_left_first, is_pure, are_pure}
use Rattle.lowering.specs.Expressions.{Scope, is_struct, field_in, decayed, decayed_type, element_place, left_place, fixed_root, fixed_through, fixed_if, linked, chain_so_far, started, with_operand, assigned, called, value_in, form_in, effects_in, form_effects, links_in, operands_in, arguments_in, object_in, form_object, place_in, root_in, steps_in}

-- ---- what a form adds of its own

pub two : {X : Type 0} (xs ys : List X) → length (xs ++ ys) ≤ length xs + length ys
two xs ys = omega (arith, length-append xs ys)

pub three : {X : Type 0} (xs ys zs : List X) → length (xs ++ ys ++ zs) ≤ length xs + length ys + length zs
three xs ys zs = omega (arith, length-append (xs ++ ys) zs, length-append xs ys)

one_more : {X : Type 0} (xs : List X) (x : X) → length (xs ++ x ∷ []) ≤ 1 + length xs
one_more xs x = omega (arith, length-append xs (x ∷ []))

held_few : (b : Bool) (n : ℕ) (x : Temp) (v : Lowered) → length (held_if b n x v).temps ≤ 1 + length v.temps
held_few true n x v = one_more v.temps x
held_few false n x v = omega arith

root_few : (n : ℕ) (x : Temp) (p : LoweredPlace) (at : core.PlaceTree) → length (fixed_root n x p at).temps ≤ 1 + length p.temps
root_few n x p (core.place (core.deref pointer s) path) = one_more p.temps x
root_few n x p (core.place (core.local v) path) = omega arith
root_few n x p (core.place (core.global g) path) = omega arith

through_few : (n : ℕ) (o : Option Temp) (p : LoweredPlace) → length (fixed_through n o p).temps ≤ 1 + length p.temps
through_few n None p = omega arith
through_few n (Some x) p = root_few n x p p.place

fixed_few : (b : Bool) (n : ℕ) (p : LoweredPlace) → length (fixed_if b n p).temps ≤ 1 + length p.temps
fixed_few true n p = through_few n p.through p
fixed_few false n p = omega arith

assigned_few : (whole : Bool) (to of : LoweredPlace) (v : Lowered) (k : ℕ) → length of.temps < k → length v.temps < k → length (assigned whole to of v).temps < length to.temps + k
assigned_few true to of v k h i = omega (arith, two to.temps of.temps)
assigned_few false to of v k h i = omega (arith, two to.temps v.temps)

called_few : (f : ℕ) (s : Span) (ty : Option VarTy) (e : src.ExprTree) (n : ℕ) (a : Arguments) → length (called f s ty e n a).temps ≤ 1 + length a.temps
called_few f s None e n a = omega (arith, two {X = Temp} a.temps [])
called_few f s (Some ty) e n a = one_more a.temps (holding ty e)

-- ---- expressions

mutual
  pub value_few : (a : src.ExprTree) (c : Scope) (n : ℕ) → length (value_in c a n).temps < 3 * expr_nodes a
  value_few (typed s ty form) c n = let h = form_few form c s ty n in omega (arith, h)

  form_few : (form : FormTree) (c : Scope) (s : Span) (ty : Option VarTy) (n : ℕ) → length (form_in c form s ty n).temps < 3 + 3 * form_nodes form
  form_few (src.constant v) c s ty n = omega arith
  form_few src.null c s ty n = omega arith
  form_few (src.read p) c s ty n = let h = place_few p c n in omega (arith, h)
  form_few (src.decay p) c s ty n = let h = place_few p c n in omega (arith, h)
  form_few (src.address p) c s ty n = let h = place_few p c n in omega (arith, h)
  form_few (src.unary op a) c s ty n = let h = value_few a c n in omega (arith, h)
  form_few (src.convert a) c s ty n = let h = value_few a c n in omega (arith, h)
  form_few (src.discard a) c s ty n = let h = effects_few a c n in omega (arith, h)
  form_few (src.chain a ls) c s ty n =
      let h = value_few a c n in
      let i = links_few ls c a [] s (type_of a) (value_in c a n) n in
      omega (arith, h, i)
  form_few (src.logical op a os) c s ty n =
      let first = value_in c a n in
      let k = past n first.temps in
      let whole = typed s ty (src.logical op a os) in
      let far = started whole k (type_of a) s first in
      let h = value_few a c n in
      let i = operands_few os c op k far n in
      let j : length far.temps ≤ 1 + length first.temps = one_more first.temps (holding int whole) in
      omega (arith, h, i, j)
  form_few (src.choice a b d) c s ty n =
      let test = value_in c a n in
      let k = past n test.temps in
      let first = value_in c b (k + 1) in
      let second = value_in c d (past (k + 1) first.temps) in
      let own = holding (type_or_int ty) (typed s ty (src.choice a b d)) ∷ [] in
      let h = value_few a c n in
      let i = value_few b c (k + 1) in
      let j = value_few d c (past (k + 1) first.temps) in
      let l = three (test.temps ++ own) first.temps second.temps in
      let m = two test.temps own in
      omega (arith, h, i, j, l, m)
  form_few (src.assign p a) c s ty n =
      let to = left_place true a n (place_in c p n) in
      let h = place_few p c n in
      let i : length to.temps ≤ 1 + length (place_in c p n).temps = fixed_few (true || not (is_pure a)) n (place_in c p n) in
      let j = assigned_few (is_struct ty) to (object_in c a (past n to.temps)) (value_in c a (past n to.temps)) (3 * expr_nodes a) (object_few a c (past n to.temps)) (value_few a c (past n to.temps)) in
      omega (arith, h, i, j)
  form_few (src.compound p at step a) c s ty n =
      let to = left_place true a n (place_in c p n) in
      let v = value_in c a (past n to.temps) in
      let h = place_few p c n in
      let i : length to.temps ≤ 1 + length (place_in c p n).temps = fixed_few (true || not (is_pure a)) n (place_in c p n) in
      let j = value_few a c (past n to.temps) in
      let l = two to.temps v.temps in
      omega (arith, h, i, j, l)
  form_few (src.step p at back false) c s ty n =
      let to = fixed_if true n (place_in c p n) in
      let h = place_few p c n in
      let i : length to.temps ≤ 1 + length (place_in c p n).temps = fixed_few true n (place_in c p n) in
      let j = two {X = Temp} to.temps [] in
      omega (arith, h, i, j)
  form_few (src.step p at back true) c s ty n =
      let to = fixed_if true n (place_in c p n) in
      let x = holding to.ty (typed at (Some to.ty) (src.read p)) in
      let h = place_few p c n in
      let i : length to.temps ≤ 1 + length (place_in c p n).temps = fixed_few true n (place_in c p n) in
      let j = one_more to.temps x in
      let l = two {X = Temp} (to.temps ++ x ∷ []) [] in
      omega (arith, h, i, j, l)
  form_few (src.call f arguments) c s ty n =
      let h = arguments_few arguments c n in
      let i = called_few f.0 s ty (typed s ty (src.call f arguments)) n (arguments_in c arguments n) in
      omega (arith, h, i)

  pub effects_few : (a : src.ExprTree) (c : Scope) (n : ℕ) → length (effects_in c a n).temps < 3 * expr_nodes a
  effects_few (typed s ty form) c n = let h = form_effects_few form c s ty n in omega (arith, h)

  form_effects_few : (form : FormTree) (c : Scope) (s : Span) (ty : Option VarTy) (n : ℕ) → length (form_effects c form s ty n (form_in c form s ty n)).temps < 3 + 3 * form_nodes form
  form_effects_few (src.constant v) c s ty n = omega arith
  form_effects_few src.null c s ty n = omega arith
  form_effects_few (src.read p) c s ty n = let h = place_few p c n in omega (arith, h)
  form_effects_few (src.decay p) c s ty n = let h = place_few p c n in omega (arith, h)
  form_effects_few (src.address p) c s ty n = let h = place_few p c n in omega (arith, h)
  form_effects_few (src.unary op a) c s ty n =
      let h = value_few a c n in
      let i = one_more (value_in c a n).temps (holding (type_or_int ty) (typed s ty (src.unary op a))) in
      omega (arith, h, i)
  form_effects_few (src.convert a) c s ty n = let h = effects_few a c n in omega (arith, h)
  form_effects_few (src.discard a) c s ty n = let h = effects_few a c n in omega (arith, h)
  form_effects_few (src.chain a ls) c s ty n =
      let v = links_in c ls a [] s (type_of a) (value_in c a n) n in
      let h = value_few a c n in
      let i = links_few ls c a [] s (type_of a) (value_in c a n) n in
      let j = one_more v.temps (holding (type_or_int ty) (typed s ty (src.chain a ls))) in
      omega (arith, h, i, j)
  form_effects_few (src.logical op a os) c s ty n =
      let first = value_in c a n in
      let k = past n first.temps in
      let whole = typed s ty (src.logical op a os) in
      let far = started whole k (type_of a) s first in
      let h = value_few a c n in
      let i = operands_few os c op k far n in
      let j : length far.temps ≤ 1 + length first.temps = one_more first.temps (holding int whole) in
      omega (arith, h, i, j)
  form_effects_few (src.choice a b d) c s ty n =
      let test = value_in c a n in
      let first = effects_in c b (past n test.temps) in
      let second = effects_in c d (past (past n test.temps) first.temps) in
      let h = value_few a c n in
      let i = effects_few b c (past n test.temps) in
      let j = effects_few d c (past (past n test.temps) first.temps) in
      let l = three (test.temps ++ []) first.temps second.temps in
      let m = two {X = Temp} test.temps [] in
      omega (arith, h, i, j, l, m)
  form_effects_few (src.assign p a) c s ty n =
      let to = left_place false a n (place_in c p n) in
      let h = place_few p c n in
      let i : length to.temps ≤ 1 + length (place_in c p n).temps = fixed_few (false || not (is_pure a)) n (place_in c p n) in
      let j = assigned_few (is_struct ty) to (object_in c a (past n to.temps)) (value_in c a (past n to.temps)) (3 * expr_nodes a) (object_few a c (past n to.temps)) (value_few a c (past n to.temps)) in
      omega (arith, h, i, j)
  form_effects_few (src.compound p at step a) c s ty n =
      let to = left_place false a n (place_in c p n) in
      let v = value_in c a (past n to.temps) in
      let h = place_few p c n in
      let i : length to.temps ≤ 1 + length (place_in c p n).temps = fixed_few (false || not (is_pure a)) n (place_in c p n) in
      let j = value_few a c (past n to.temps) in
      let l = two to.temps v.temps in
      omega (arith, h, i, j, l)
  form_effects_few (src.step p at back postfix) c s ty n =
      let h = place_few p c n in
      let j = two {X = Temp} (place_in c p n).temps [] in
      omega (arith, h, j)
  form_effects_few (src.call f arguments) c s ty n =
      let h = arguments_few arguments c n in
      let i = two {X = Temp} (arguments_in c arguments n).temps [] in
      omega (arith, h, i)

  links_few : (ls : LinkTrees) (c : Scope) (first : src.ExprTree) (before : List LinkTree) (s : Span) (ty : VarTy) (far : Lowered) (n : ℕ) → length (links_in c ls first before s ty far n).temps ≤ length far.temps + 3 * link_nodes ls
  links_few no_links c first before s ty far n = omega arith
  links_few (link_and (link at to step e) rest) c first before s ty far n =
      let x = holding ty (chain_so_far first before s ty) in
      let ready = held_if (not (takes_left_first step) || not (is_pure e)) n x far in
      let v = value_in c e (past n ready.temps) in
      let h : length ready.temps ≤ 1 + length far.temps = held_few (not (takes_left_first step) || not (is_pure e)) n x far in
      let i = value_few e c (past n ready.temps) in
      let j = two ready.temps v.temps in
      let l = links_few rest c first (before ++ link at to step e ∷ []) at to (linked ty step at ready v) n in
      omega (arith, h, i, j, l)

  operands_few : (os : OperandTrees) (c : Scope) (op : LogicalOp) (k : ℕ) (far : Effects) (n : ℕ) → length (operands_in c os op k far n).temps ≤ length far.temps + 3 * operand_nodes os
  operands_few no_operands c op k far n = omega arith
  operands_few (operand_and (operand s e) rest) c op k far n =
      let v = value_in c e (past n far.temps) in
      let i = value_few e c (past n far.temps) in
      let j = two far.temps v.temps in
      let l = operands_few rest c op k (with_operand op k (type_of e) s far v) n in
      omega (arith, i, j, l)

  arguments_few : (es : ExprTrees) (c : Scope) (n : ℕ) → length (arguments_in c es n).temps ≤ 3 * exprs_nodes es
  arguments_few no_exprs c n = omega arith
  arguments_few (expr_and e rest) c n =
      let v = held_if (not (are_pure rest)) n (holding (type_of e) e) (value_in c e n) in
      let h : length v.temps ≤ 1 + length (value_in c e n).temps = held_few (not (are_pure rest)) n (holding (type_of e) e) (value_in c e n) in
      let i = value_few e c n in
      let j = arguments_few rest c (past n v.temps) in
      let l = two v.temps (arguments_in c rest (past n v.temps)).temps in
      omega (arith, h, i, j, l)

  pub object_few : (a : src.ExprTree) (c : Scope) (n : ℕ) → length (object_in c a n).temps < 3 * expr_nodes a
  object_few (typed s ty form) c n = let h = form_object_few form c s ty n in omega (arith, h)

  form_object_few : (form : FormTree) (c : Scope) (s : Span) (ty : Option VarTy) (n : ℕ) → length (form_object c form s ty n).temps < 3 + 3 * form_nodes form
  form_object_few (src.read p) c s ty n = let h = place_few p c n in omega (arith, h)
  form_object_few (src.assign p a) c s ty n =
      let to = left_place true a n (place_in c p n) in
      let h = place_few p c n in
      let i : length to.temps ≤ 1 + length (place_in c p n).temps = fixed_few (true || not (is_pure a)) n (place_in c p n) in
      let j = assigned_few (is_struct ty) to (object_in c a (past n to.temps)) (value_in c a (past n to.temps)) (3 * expr_nodes a) (object_few a c (past n to.temps)) (value_few a c (past n to.temps)) in
      omega (arith, h, i, j)
  form_object_few _ c s ty n = omega arith

  place_few : (p : src.PlaceTree) (c : Scope) (n : ℕ) → length (place_in c p n).temps ≤ 3 * place_nodes p
  place_few (src.place root steps) c n =
      let h = root_place_few root c n in
      let i = steps_few steps c root [] (root_in c root n) n in
      omega (arith, h, i)

  root_place_few : (r : RootTree) (c : Scope) (n : ℕ) → length (root_in c r n).temps ≤ 3 * root_nodes r
  root_place_few (src.local v) c n = omega arith
  root_place_few (src.global g) c n = omega arith
  root_place_few (src.deref e s) c n = let h = value_few e c n in omega (arith, h)
  root_place_few (src.assigned e) c n = let h = object_few e c n in omega (arith, h)

  steps_few : (ss : StepTrees) (c : Scope) (root : RootTree) (before : List StepTree) (far : LoweredPlace) (n : ℕ) → length (steps_in c ss root before far n).temps ≤ length far.temps + 3 * step_nodes ss
  steps_few no_steps c root before far n = omega arith
  steps_few (step_and (src.field k) rest) c root before far n = let h = steps_few rest c root (before ++ src.field k ∷ []) (field_in c k far) n in omega (arith, h)
  steps_few (step_and (src.item e s) rest) c root before far n =
      let first = decayed s (src.place root (step_trees before)) far in
      let ty = decayed_type far.fixed far.ty in
      let value : Lowered = record { stmts = far.stmts; value = core.decay far.place; temps = far.temps } in
      let base = held_if (not (is_pure e)) n (holding ty first) value in
      let v = value_in c e (past n base.temps) in
      let h : length base.temps ≤ 1 + length far.temps = held_few (not (is_pure e)) n (holding ty first) value in
      let i = value_few e c (past n base.temps) in
      let j = two base.temps v.temps in
      let l = steps_few rest c root (before ++ src.item e s ∷ []) (element_place s first e ty base v) n in
      omega (arith, h, i, j, l)
