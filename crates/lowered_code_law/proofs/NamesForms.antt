-- What is lowered from parts names no more than its parts do.
use Rattle.std.proofs.Common.{ℕ, Bool, true, false, Option, Some, None, List, [], ◌∷◌, ◌++◌, if◌then◌else◌}
use Rattle.std.specs.Prelude.{Contains}
use Rattle.pt_base.specs.declared.int_type.IntType.{IntType}
use Rattle.pt_base.specs.declared.span.Span.{Span}
use Rattle.pt_base.specs.IntTypes.{promoted}
use Rattle.pt_int.specs.declared.operator.UnOp.{UnOp}
use Rattle.pt_int.specs.declared.operator.UnOp.TheVariants.{Not}
use Rattle.typed_tree.specs.declared.types.VarTy.{VarTy}
use Rattle.typed_tree.specs.declared.types.VarTy.TheVariants.{Int, Struct, Array, Pointer}
use Rattle.typed_tree.specs.declared.link.LinkStep.{LinkStep}
use Rattle.typed_tree.specs.declared.link.LinkStep.TheVariants.{Arithmetic, Shift, Move, MoveBy, Difference, Compare}
use Rattle.typed_tree.specs.declared.link.LogicalOp.{LogicalOp}
use Rattle.typed_tree.specs.declared.link.LogicalOp.TheVariants.{And, Or}
use Rattle.typed_tree.specs.ExpressionTree as src
use Rattle.typed_tree.specs.TypeTests.{same_int}
use Rattle.pt_core.specs.CodeTree.{local, global, deref, PlaceTree, place, ExprTree, read, convert, StmtTree, check, assign, copy, call, choose, expr_trees, stmt_trees}
use Rattle.lowering.specs.Lowered.{Temp, Effects, Lowered, LoweredPlace, Arguments, pure, past, temp, hold, followed, held, held_if}
use Rattle.lowering.specs.Operators.{as_int, converted, prefixed, truth_of, promoted_of, stepped, stored, unit_step, unit_of}
use Rattle.lowering.specs.Expressions.{Scope, place_with_field, field_in, element_place, fixed_root, fixed_through, fixed_if, checked, linked, started, where_open, with_operand, arm, chosen, copied, given, assigned, compounded, counted, counted_after, argued, call_effects, called}
use Rattle.lowered_code_law.proofs.NamesNaming.{Allowed, PlaceWithin, ExprWithin, ExprsWithin, StmtWithin, StmtsWithin, AreWithin, ValuesWithin, EffectsWithin, LoweredWithin, FoundWithin, ArgumentsWithin}

-- ---- lists

pub both_within : (w : Allowed) (xs ys : List StmtTree) → AreWithin w xs → AreWithin w ys → AreWithin w (xs ++ ys)
both_within w [] ys h k = k
both_within w (x ∷ xs) ys h k = (h.0, both_within w xs ys h.1 k)

pub trees_within : (w : Allowed) (xs : List StmtTree) → AreWithin w xs → StmtsWithin w (stmt_trees xs)
trees_within w [] h = tt
trees_within w (x ∷ xs) h = (h.0, trees_within w xs h.1)

pub values_within : (w : Allowed) (xs : List ExprTree) → ValuesWithin w xs → ExprsWithin w (expr_trees xs)
values_within w [] h = tt
values_within w (x ∷ xs) h = (h.0, values_within w xs h.1)

pub followed_within : (w : Allowed) (a b : Effects) → EffectsWithin w a → EffectsWithin w b → EffectsWithin w (followed a b)
followed_within w a b h k = both_within w a.stmts b.stmts h k

-- statements, and one behind them
pub one_more : (w : Allowed) (xs : List StmtTree) (x : StmtTree) → AreWithin w xs → StmtWithin w x → AreWithin w (xs ++ x ∷ [])
one_more w xs x h k = both_within w xs (x ∷ []) h (k, tt)

-- ---- values

pub as_int_within : (w : Allowed) (ty : VarTy) (to : IntType) (a : ExprTree) → ExprWithin w a → ExprWithin w (as_int ty to a)
as_int_within w (Int t) to a h = go (same_int t to)
  where
    go : (b : Bool) → ExprWithin w (if b then a else convert to a)
    go true = h
    go false = h
as_int_within w (Struct n) to a h = h
as_int_within w (Array elem count) to a h = h
as_int_within w (Pointer elem fixed) to a h = h

pub converted_within : (w : Allowed) (ty : VarTy) (a : ExprTree) → ExprWithin w a → ExprWithin w (converted ty a)
converted_within w (Int to) a h = h
converted_within w ty a h = h

pub prefixed_within : (w : Allowed) (op : UnOp) (ty : VarTy) (a : ExprTree) (s : Span) → ExprWithin w a → ExprWithin w (prefixed op ty a s)
prefixed_within w op (Int t) a s h = h
prefixed_within w Not (Pointer elem fixed) a s h = (h, tt)
prefixed_within w op ty a s h = h

pub truth_within : (w : Allowed) (ty : VarTy) (a : ExprTree) (s : Span) → ExprWithin w a → ExprWithin w (truth_of ty a s)
truth_within w (Int t) a s h = h
truth_within w (Pointer elem fixed) a s h = (h, tt)
truth_within w ty a s h = h

pub stepped_within : (w : Allowed) (ty : VarTy) (step : LinkStep) (a b : ExprTree) (s : Span) → ExprWithin w a → ExprWithin w b → ExprWithin w (stepped ty step a b s)
stepped_within w ty (Arithmetic op t) a b s h k = (as_int_within w ty t a h, k)
stepped_within w ty (Shift to_left) a b s h k = (as_int_within w ty (promoted_of ty) a h, k)
stepped_within w ty (Move back) a b s h k = (h, k)
stepped_within w ty MoveBy a b s h k = (k, h)
stepped_within w ty Difference a b s h k = (h, k)
stepped_within w ty (Compare op) a b s h k = (h, k)

pub stored_within : (w : Allowed) (ty : VarTy) (step : LinkStep) (a : ExprTree) → ExprWithin w a → ExprWithin w (stored ty step a)
stored_within w (Int to) (Arithmetic op t) a h = as_int_within w (Int t) to a h
stored_within w (Int to) (Shift to_left) a h = as_int_within w (Int (promoted to)) to a h
stored_within w ty step a h = h

unit_within : (w : Allowed) (ty : VarTy) → ExprWithin w (unit_of ty)
unit_within w (Int t) = tt
unit_within w ty = tt

-- ---- values that are held

pub hold_within : (w : Allowed) (k : ℕ) (a : ExprTree) → ExprWithin w a → StmtWithin w (hold k a)
hold_within w k a h = (tt, h)

pub held_within : (w : Allowed) (n : ℕ) (x : Temp) (v : Lowered) → LoweredWithin w v → LoweredWithin w (held n x v)
held_within w n x v h = (one_more w v.stmts (hold (past n v.temps) v.value) h.0 (hold_within w (past n v.temps) v.value h.1), tt)

pub held_if_within : (b : Bool) (w : Allowed) (n : ℕ) (x : Temp) (v : Lowered) → LoweredWithin w v → LoweredWithin w (held_if b n x v)
held_if_within true w n x v h = held_within w n x v h
held_if_within false w n x v h = h

-- ---- places

pub with_field_within : (w : Allowed) (p : PlaceTree) (k : ℕ) → PlaceWithin w p → PlaceWithin w (place_with_field p k)
with_field_within w (place root path) k h = h

pub field_within : (w : Allowed) (c : Scope) (k : ℕ) (p : LoweredPlace) → FoundWithin w p → FoundWithin w (field_in c k p)
field_within w c k p h = (h.0, with_field_within w p.place k h.1)

pub element_within : (w : Allowed) (s : Span) (first index : src.ExprTree) (ty : VarTy) (base v : Lowered) → LoweredWithin w base → LoweredWithin w v → FoundWithin w (element_place s first index ty base v)
element_within w s first index ty base v h k = (both_within w base.stmts v.stmts h.0 k.0, (h.1, k.1))

fixed_root_within : (w : Allowed) (n : ℕ) (x : Temp) (p : LoweredPlace) (at : PlaceTree) → FoundWithin w p → PlaceWithin w at → FoundWithin w (fixed_root n x p at)
fixed_root_within w n x p (place (deref pointer s) path) h k =
    let there = place (deref (temp (past n p.temps)) s) path in
    (both_within w p.stmts (hold (past n p.temps) pointer ∷ check there ∷ []) h.0 (hold_within w (past n p.temps) pointer k, (tt, tt)), tt)
fixed_root_within w n x p (place (local v) path) h k = h
fixed_root_within w n x p (place (global g) path) h k = h

fixed_through_within : (w : Allowed) (n : ℕ) (o : Option Temp) (p : LoweredPlace) → FoundWithin w p → FoundWithin w (fixed_through n o p)
fixed_through_within w n None p h = h
fixed_through_within w n (Some x) p h = fixed_root_within w n x p p.place h h.1

pub fixed_if_within : (b : Bool) (w : Allowed) (n : ℕ) (p : LoweredPlace) → FoundWithin w p → FoundWithin w (fixed_if b n p)
fixed_if_within true w n p h = fixed_through_within w n p.through p h
fixed_if_within false w n p h = h

pub checked_within : (w : Allowed) (p : LoweredPlace) → FoundWithin w p → EffectsWithin w (checked p)
checked_within w p h = one_more w p.stmts (check p.place) h.0 h.1

-- ---- chains

pub linked_within : (w : Allowed) (ty : VarTy) (step : LinkStep) (s : Span) (far v : Lowered) → LoweredWithin w far → LoweredWithin w v → LoweredWithin w (linked ty step s far v)
linked_within w ty step s far v h k = (both_within w far.stmts v.stmts h.0 k.0, stepped_within w ty step far.value v.value s h.1 k.1)

-- ---- `&&`, `||` and `?:`

pub started_within : (w : Allowed) (whole : src.ExprTree) (k : ℕ) (ty : VarTy) (s : Span) (v : Lowered) → LoweredWithin w v → EffectsWithin w (started whole k ty s v)
started_within w whole k ty s v h = one_more w v.stmts (hold k (truth_of ty v.value s)) h.0 (hold_within w k (truth_of ty v.value s) (truth_within w ty v.value s h.1))

where_open_within : (w : Allowed) (op : LogicalOp) (k : ℕ) (xs : List StmtTree) → AreWithin w xs → StmtWithin w (where_open op k xs)
where_open_within w And k xs h = (tt, trees_within w xs h, tt)
where_open_within w Or k xs h = (tt, tt, trees_within w xs h)

pub operand_within : (w : Allowed) (op : LogicalOp) (k : ℕ) (ty : VarTy) (s : Span) (far : Effects) (v : Lowered) → EffectsWithin w far → LoweredWithin w v → EffectsWithin w (with_operand op k ty s far v)
operand_within w op k ty s far v h i =
    let truth = hold k (truth_of ty v.value s) in
    let inner = v.stmts ++ truth ∷ [] in
    one_more w far.stmts (where_open op k inner) h
    (where_open_within w op k inner (one_more w v.stmts truth i.0 (hold_within w k (truth_of ty v.value s) (truth_within w ty v.value s i.1))))

pub arm_within : (w : Allowed) (k : ℕ) (v : Lowered) → LoweredWithin w v → AreWithin w (arm k v)
arm_within w k v h = one_more w v.stmts (hold k v.value) h.0 (hold_within w k v.value h.1)

pub chosen_within : (w : Allowed) (test : Lowered) (own : List Temp) (xs : List StmtTree) (first : List Temp) (ys : List StmtTree) (second : List Temp) → LoweredWithin w test → AreWithin w xs → AreWithin w ys → EffectsWithin w (chosen test own xs first ys second)
chosen_within w test own xs first ys second h k m =
    one_more w test.stmts (choose test.value (stmt_trees xs) (stmt_trees ys)) h.0 (h.1, trees_within w xs k, trees_within w ys m)

-- ---- assignments

pub copied_within : (w : Allowed) (to other : LoweredPlace) → FoundWithin w to → FoundWithin w other → FoundWithin w (copied to other)
copied_within w to other h k = (one_more w (to.stmts ++ other.stmts) (copy to.place other.place) (both_within w to.stmts other.stmts h.0 k.0) (h.1, k.1), h.1)

pub given_within : (w : Allowed) (to : LoweredPlace) (v : Lowered) → FoundWithin w to → LoweredWithin w v → FoundWithin w (given to v)
given_within w to v h k = (one_more w (to.stmts ++ v.stmts) (assign to.place v.value) (both_within w to.stmts v.stmts h.0 k.0) (h.1, k.1), h.1)

pub assigned_within : (b : Bool) (w : Allowed) (to other : LoweredPlace) (v : Lowered) → FoundWithin w to → FoundWithin w other → LoweredWithin w v → FoundWithin w (assigned b to other v)
assigned_within true w to other v h k m = copied_within w to other h k
assigned_within false w to other v h k m = given_within w to v h m

pub compounded_within : (w : Allowed) (s : Span) (step : LinkStep) (to : LoweredPlace) (v : Lowered) → FoundWithin w to → LoweredWithin w v → FoundWithin w (compounded s step to v)
compounded_within w s step to v h k =
    let sum = stepped to.ty step (read to.place) v.value s in
    let kept = stored_within w to.ty step sum (stepped_within w to.ty step (read to.place) v.value s h.1 k.1) in
    (one_more w (to.stmts ++ v.stmts) (assign to.place (stored to.ty step sum)) (both_within w to.stmts v.stmts h.0 k.0) (h.1, kept), h.1)

pub counted_within : (w : Allowed) (s : Span) (back : Bool) (to : LoweredPlace) → FoundWithin w to → FoundWithin w (counted s back to)
counted_within w s back to h = compounded_within w s (unit_step to.ty back) to (pure (unit_of to.ty)) h (tt, unit_within w to.ty)

pub counted_after_within : (w : Allowed) (s : Span) (back : Bool) (k : ℕ) (x : Temp) (to : LoweredPlace) → FoundWithin w to → LoweredWithin w (counted_after s back k x to)
counted_after_within w s back k x to h =
    let old = record to { stmts = to.stmts ++ hold k (read to.place) ∷ []; temps = to.temps ++ x ∷ [] } in
    ((counted_within w s back old (one_more w to.stmts (hold k (read to.place)) h.0 (hold_within w k (read to.place) h.1), h.1)).0, tt)

-- ---- calls

pub argued_within : (w : Allowed) (v : Lowered) (rest : Arguments) → LoweredWithin w v → ArgumentsWithin w rest → ArgumentsWithin w (argued v rest)
argued_within w v rest h k = (both_within w v.stmts rest.stmts h.0 k.0, (h.1, k.1))

pub call_within : (w : Allowed) (f : ℕ) (s : Span) (result : Option ℕ) (own : List Temp) (a : Arguments) → Contains w.callees (record { 0 = f }) → ArgumentsWithin w a → EffectsWithin w (call_effects f s result own a)
call_within w f s result own a c h = one_more w a.stmts (call f (expr_trees a.values) result s) h.0 (c, values_within w a.values h.1)

pub called_within : (w : Allowed) (f : ℕ) (s : Span) (ty : Option VarTy) (e : src.ExprTree) (n : ℕ) (a : Arguments) → Contains w.callees (record { 0 = f }) → ArgumentsWithin w a → LoweredWithin w (called f s ty e n a)
called_within w f s None e n a c h = (call_within w f s None [] a c h, tt)
called_within w f s (Some ty) e n a c h = (call_within w f s (Some (past n a.temps)) [] a c h, tt)
