-- The lowering of expressions: one equation for each form. What comes before a call, an assignment, `&&`,
-- `||`, `?:`, `++` or `--` is held in a temporary, so that evaluation goes from left to right.
use Rattle.std.specs.Prelude.{ℕ, ◌+◌, pos, Bool, true, false, not, ◌||◌, List, [], ◌∷◌, ◌++◌, Option, Some, None, length, if◌then◌else◌, get_or}
use Rattle.pt_base.specs.declared.span.Span.{Span}
use Rattle.pt_base.specs.declared.int_type.IntType.{IntType}
use Rattle.pt_base.specs.declared.int_type.IntType.TheVariants as i
use Rattle.pt_tree.specs.declared.signature.Elem.{Elem}
use Rattle.pt_tree.specs.declared.signature.Elem.TheVariants as e
use Rattle.typed_tree.specs.declared.types.VarTy.{VarTy}
use Rattle.typed_tree.specs.declared.types.VarTy.TheVariants.{Int, Array, Pointer}
use Rattle.typed_tree.specs.declared.types.StructInfo.{StructInfo}
use Rattle.typed_tree.specs.declared.link.LinkStep.{LinkStep}
use Rattle.typed_tree.specs.declared.link.LinkStep.TheVariants.{Move}
use Rattle.typed_tree.specs.declared.link.LogicalOp.{LogicalOp}
use Rattle.typed_tree.specs.declared.link.LogicalOp.TheVariants.{And, Or}
use Rattle.typed_tree.specs.ExpressionTree as t
use Rattle.typed_tree.specs.ExpressionTree.{typed, FormTree, ExprTrees, no_exprs, expr_and, LinkTree, LinkTrees, no_links, link_and, link, link_trees, OperandTree, OperandTrees, no_operands, operand_and, operand, RootTree, StepTree, StepTrees, no_steps, step_and, step_trees}
use Rattle.typed_tree.specs.TypeTests.{points_to_const}
use Rattle.pt_core.specs.CodeTree.{local, global, deref, PlaceTree, place, ExprTree, constant, read, null, address, decay, move, StmtTree, check, assign, copy, call, choose, expr_trees, stmt_trees}
use Rattle.pt_core.specs.Types.{field_type, pointee_type, element_of, type_at}
use Rattle.source_meaning.specs.Expressions.{type_or_int, type_of}
use Rattle.lowering.specs.Lowered.{Temp, Effects, Lowered, LoweredPlace, Arguments, nothing, pure, past, temp_place, temp, hold, holding, int, followed, effects_of, held, held_if}
use Rattle.lowering.specs.Purity.{takes_left_first, is_pure, are_pure}
use Rattle.lowering.specs.Operators.{converted, prefixed, truth_of, stepped, stored, unit_step, unit_of}
pub use Rattle.typed_tree.specs.WellFormedExpression.{is_struct}

-- What an expression's numbers name: the structs, and the types of globals and of the function's variables.
pub record Scope : Type 0 where
  pub structs : List StructInfo
  pub globals : List VarTy
  pub variables : List VarTy

-- ---- types

abbrev pub int_of : Option VarTy → IntType
int_of (Some (Int t)) = t
int_of _ = i.Int

abbrev pub elem_of : VarTy → Elem
elem_of (Pointer elem fixed) = elem
elem_of ty = e.Int i.Int

-- ---- places

abbrev pub named_place : RootTree → VarTy → PlaceTree → LoweredPlace
named_place root ty p = record { stmts = []; place = p; ty = ty; fixed = false; through = None; temps = [] }

-- what the value of a pointer points to
abbrev pub behind : Span → t.ExprTree → Lowered → LoweredPlace
behind s e v = record {
  stmts = v.stmts;
  place = place (deref v.value s) [];
  ty = pointee_type (type_of e);
  fixed = points_to_const (Some (type_of e));
  through = Some (holding (type_of e) e);
  temps = v.temps;
}

abbrev pub with_field : List ℕ → ℕ → List ℕ
with_field path k = path ++ k ∷ []

abbrev pub place_with_field : PlaceTree → ℕ → PlaceTree
place_with_field (place root path) k = place root (with_field path k)

-- a field of an object
abbrev pub field_in : Scope → ℕ → LoweredPlace → LoweredPlace
field_in c k p = record p { place = place_with_field p.place k; ty = field_type c.structs p.ty k }

-- a pointer to the first element of an array, which is const where the array is
abbrev pub decayed_type : Bool → VarTy → VarTy
decayed_type fixed ty = Pointer (element_of ty) fixed

abbrev pub decayed : Span → t.PlaceTree → LoweredPlace → t.ExprTree
decayed s source p = typed s (Some (decayed_type p.fixed p.ty)) (t.decay source)

-- an array's element, as what a moved pointer points to
abbrev pub moved_to : Span → t.ExprTree → t.ExprTree → VarTy → t.ExprTree
moved_to s first index ty = typed s (Some ty) (t.chain first (link_and (link s ty (Move false) index) no_links))

abbrev pub element_place : Span → t.ExprTree → t.ExprTree → VarTy → Lowered → Lowered → LoweredPlace
element_place s first index ty base v = record {
  stmts = base.stmts ++ v.stmts;
  place = place (deref (move base.value v.value false s) s) [];
  ty = pointee_type ty;
  fixed = points_to_const (Some ty);
  through = Some (holding ty (moved_to s first index ty));
  temps = base.temps ++ v.temps;
}

-- the pointer through which a place leads is held, and dereferenced once, so that it traps here or never
abbrev pub fixed_root : ℕ → Temp → LoweredPlace → PlaceTree → LoweredPlace
fixed_root n x p (place (deref pointer s) path) =
    let there = place (deref (temp (past n p.temps)) s) path in
    record p { stmts = p.stmts ++ (hold (past n p.temps) pointer ∷ check there ∷ []); place = there; temps = p.temps ++ x ∷ [] }
fixed_root n x p (place (local v) path) = p
fixed_root n x p (place (global g) path) = p

abbrev pub fixed_through : ℕ → Option Temp → LoweredPlace → LoweredPlace
fixed_through n None p = p
fixed_through n (Some x) p = fixed_root n x p p.place

abbrev pub fixed_if : Bool → ℕ → LoweredPlace → LoweredPlace
fixed_if b n p = if b then fixed_through n p.through p else p

-- the value of the object, whatever came before
abbrev pub value_at : LoweredPlace → Lowered
value_at p = record { stmts = p.stmts; value = read p.place; temps = p.temps }

-- the object is found, and that is all
abbrev pub checked : LoweredPlace → Effects
checked p = record { stmts = p.stmts ++ check p.place ∷ []; temps = p.temps }

abbrev pub place_effects : LoweredPlace → Effects
place_effects p = record { stmts = p.stmts; temps = p.temps }

-- ---- chains

-- the expression that a chain is so far
abbrev pub chain_so_far : t.ExprTree → List LinkTree → Span → VarTy → t.ExprTree
chain_so_far first [] s ty = first
chain_so_far first (l ∷ ls) s ty = typed s (Some ty) (t.chain first (link_trees (l ∷ ls)))

abbrev pub linked : VarTy → LinkStep → Span → Lowered → Lowered → Lowered
linked ty step s far v = record { stmts = far.stmts ++ v.stmts; value = stepped ty step far.value v.value s; temps = far.temps ++ v.temps }

-- ---- `&&` and `||`

-- the first operand's truth, held in the temporary that holds the whole
abbrev pub started : t.ExprTree → ℕ → VarTy → Span → Lowered → Effects
started whole k ty s first = record { stmts = first.stmts ++ hold k (truth_of ty first.value s) ∷ []; temps = first.temps ++ holding int whole ∷ [] }

abbrev pub valued : Effects → ExprTree → Lowered
valued done value = record { stmts = done.stmts; value = value; temps = done.temps }

-- what an operand does where the value so far leaves it open
abbrev pub where_open : LogicalOp → ℕ → List StmtTree → StmtTree
where_open And k stmts = choose (temp k) (stmt_trees stmts) (stmt_trees [])
where_open Or k stmts = choose (temp k) (stmt_trees []) (stmt_trees stmts)

abbrev pub with_operand : LogicalOp → ℕ → VarTy → Span → Effects → Lowered → Effects
with_operand op k ty s far v = record {
  stmts = far.stmts ++ where_open op k (v.stmts ++ hold k (truth_of ty v.value s) ∷ []) ∷ [];
  temps = far.temps ++ v.temps;
}

-- ---- `?:`

abbrev pub arm : ℕ → Lowered → List StmtTree
arm k v = v.stmts ++ hold k v.value ∷ []

-- the first is the condition; the arms' temporaries are behind it
abbrev pub chosen : Lowered → List Temp → List StmtTree → List Temp → List StmtTree → List Temp → Effects
chosen test own yeses first nos second =
    record { stmts = test.stmts ++ choose test.value (stmt_trees yeses) (stmt_trees nos) ∷ []; temps = test.temps ++ own ++ first ++ second }

-- ---- assignments

abbrev pub copied : LoweredPlace → LoweredPlace → LoweredPlace
copied to of = record to { stmts = to.stmts ++ of.stmts ++ copy to.place of.place ∷ []; temps = to.temps ++ of.temps }

abbrev pub given : LoweredPlace → Lowered → LoweredPlace
given to v = record to { stmts = to.stmts ++ v.stmts ++ assign to.place v.value ∷ []; temps = to.temps ++ v.temps }

-- an assignment of an object or of a value
abbrev pub assigned : Bool → LoweredPlace → LoweredPlace → Lowered → LoweredPlace
assigned whole to of v = if whole then copied to of else given to v

-- the left place of an assignment of this value, which is fixed where statements come between, and where
-- it is used once more
abbrev pub left_place : Bool → t.ExprTree → ℕ → LoweredPlace → LoweredPlace
left_place used a n p = fixed_if (used || not (is_pure a)) n p

-- from the place's value a step with the operand gives what is stored
abbrev pub compounded : Span → LinkStep → LoweredPlace → Lowered → LoweredPlace
compounded s step to v =
    record to { stmts = to.stmts ++ v.stmts ++ assign to.place (stored to.ty step (stepped to.ty step (read to.place) v.value s)) ∷ []; temps = to.temps ++ v.temps }

-- `++` and `--`; behind its operand the value before it is held
abbrev pub counted : Span → Bool → LoweredPlace → LoweredPlace
counted s back to = compounded s (unit_step to.ty back) to (pure (unit_of to.ty))

abbrev pub counted_after : Span → Bool → ℕ → Temp → LoweredPlace → Lowered
counted_after s back k x to =
    let old = record to { stmts = to.stmts ++ hold k (read to.place) ∷ []; temps = to.temps ++ x ∷ [] } in
    let after = counted s back old in
    record { stmts = after.stmts; value = temp k; temps = after.temps }

-- ---- calls

abbrev pub argued : Lowered → Arguments → Arguments
argued v rest = record { stmts = v.stmts ++ rest.stmts; values = v.value ∷ rest.values; temps = v.temps ++ rest.temps }

abbrev pub call_effects : ℕ → Span → Option ℕ → List Temp → Arguments → Effects
call_effects f s result own a = record { stmts = a.stmts ++ call f (expr_trees a.values) result s ∷ []; temps = a.temps ++ own }

-- a call whose result is held, if it has one
abbrev pub called : ℕ → Span → Option VarTy → t.ExprTree → ℕ → Arguments → Lowered
called f s None e n a = valued (call_effects f s None [] a) (constant i.Int (pos 0))
called f s (Some ty) e n a = valued (call_effects f s (Some (past n a.temps)) (holding ty e ∷ []) a) (temp (past n a.temps))

-- ---- expressions

abbrev mutual
  -- the value of an expression; the first free number is n
  pub value_in : Scope → t.ExprTree → ℕ → Lowered
  value_in c (typed s ty form) n = form_in c form s ty n

  pub form_in : Scope → FormTree → Span → Option VarTy → ℕ → Lowered
  form_in c (t.constant v) s ty n = pure (constant (int_of ty) v)
  form_in c t.null s ty n = pure (null (elem_of (type_or_int ty)))
  form_in c (t.read p) s ty n = value_at (place_in c p n)
  form_in c (t.decay p) s ty n = let at = place_in c p n in record { stmts = at.stmts; value = decay at.place; temps = at.temps }
  form_in c (t.address p) s ty n = let at = place_in c p n in record { stmts = at.stmts; value = address at.place; temps = at.temps }
  form_in c (t.unary op a) s ty n = let v = value_in c a n in record v { value = prefixed op (type_of a) v.value s }
  form_in c (t.convert a) s ty n = let v = value_in c a n in record v { value = converted (type_or_int ty) v.value }
  form_in c (t.discard a) s ty n = valued (effects_in c a n) (constant i.Int (pos 0))
  form_in c (t.chain a links) s ty n = links_in c links a [] s (type_of a) (value_in c a n) n
  form_in c (t.logical op a others) s ty n =
      let first = value_in c a n in
      let k = past n first.temps in
      valued (operands_in c others op k (started (typed s ty (t.logical op a others)) k (type_of a) s first) n) (temp k)
  form_in c (t.choice a b d) s ty n =
      let test = value_in c a n in
      let k = past n test.temps in
      let first = value_in c b (k + 1) in
      let second = value_in c d (past (k + 1) first.temps) in
      valued (chosen test (holding (type_or_int ty) (typed s ty (t.choice a b d)) ∷ []) (arm k first) first.temps (arm k second) second.temps) (temp k)
  form_in c (t.assign p a) s ty n =
      let to = left_place true a n (place_in c p n) in
      value_at (assigned (is_struct ty) to (object_in c a (past n to.temps)) (value_in c a (past n to.temps)))
  form_in c (t.compound p at step a) s ty n =
      let to = left_place true a n (place_in c p n) in
      value_at (compounded s step to (value_in c a (past n to.temps)))
  form_in c (t.step p at back false) s ty n = value_at (counted s back (fixed_if true n (place_in c p n)))
  form_in c (t.step p at back true) s ty n =
      let to = fixed_if true n (place_in c p n) in
      counted_after s back (past n to.temps) (holding to.ty (typed at (Some to.ty) (t.read p))) to
  form_in c (t.call f arguments) s ty n = called f.0 s ty (typed s ty (t.call f arguments)) n (arguments_in c arguments n)

  -- what an expression does where its value is dropped; it is evaluated all the same, as it may trap
  pub effects_in : Scope → t.ExprTree → ℕ → Effects
  effects_in c (typed s ty form) n = form_effects c form s ty n (form_in c form s ty n)

  pub form_effects : Scope → FormTree → Span → Option VarTy → ℕ → Lowered → Effects
  form_effects c (t.constant x) s ty n v = nothing
  form_effects c t.null s ty n v = nothing
  form_effects c (t.read p) s ty n v = checked (place_in c p n)
  form_effects c (t.decay p) s ty n v = checked (place_in c p n)
  form_effects c (t.address p) s ty n v = checked (place_in c p n)
  form_effects c (t.unary op a) s ty n v = effects_of (held n (holding (type_or_int ty) (typed s ty (t.unary op a))) v)
  form_effects c (t.convert a) s ty n v = effects_in c a n
  form_effects c (t.discard a) s ty n v = effects_in c a n
  form_effects c (t.chain a links) s ty n v = effects_of (held n (holding (type_or_int ty) (typed s ty (t.chain a links))) v)
  form_effects c (t.logical op a others) s ty n v = effects_of v
  form_effects c (t.choice a b d) s ty n v =
      let test = value_in c a n in
      let first = effects_in c b (past n test.temps) in
      let second = effects_in c d (past (past n test.temps) first.temps) in
      chosen test [] first.stmts first.temps second.stmts second.temps
  form_effects c (t.assign p a) s ty n v =
      let to = left_place false a n (place_in c p n) in
      place_effects (assigned (is_struct ty) to (object_in c a (past n to.temps)) (value_in c a (past n to.temps)))
  form_effects c (t.compound p at step a) s ty n v =
      let to = left_place false a n (place_in c p n) in
      place_effects (compounded s step to (value_in c a (past n to.temps)))
  form_effects c (t.step p at back postfix) s ty n v = place_effects (counted s back (place_in c p n))
  form_effects c (t.call f arguments) s ty n v = call_effects f.0 s None [] (arguments_in c arguments n)

  -- the links of a chain behind the value so far, of which these are the first
  pub links_in : Scope → LinkTrees → t.ExprTree → List LinkTree → Span → VarTy → Lowered → ℕ → Lowered
  links_in c no_links first before s ty far n = far
  links_in c (link_and (link at to step e) rest) first before s ty far n =
      let ready = held_if (not (takes_left_first step) || not (is_pure e)) n (holding ty (chain_so_far first before s ty)) far in
      links_in c rest first (before ++ link at to step e ∷ []) at to (linked ty step at ready (value_in c e (past n ready.temps))) n

  -- the operands of `&&` or `||` behind the first, with the value so far in temporary k
  pub operands_in : Scope → OperandTrees → LogicalOp → ℕ → Effects → ℕ → Effects
  operands_in c no_operands op k far n = far
  operands_in c (operand_and (operand s e) rest) op k far n =
      operands_in c rest op k (with_operand op k (type_of e) s far (value_in c e (past n far.temps))) n

  -- the arguments of a call: each is held where one behind it isn't pure
  pub arguments_in : Scope → ExprTrees → ℕ → Arguments
  arguments_in c no_exprs n = record { stmts = []; values = []; temps = [] }
  arguments_in c (expr_and e rest) n =
      let v = held_if (not (are_pure rest)) n (holding (type_of e) e) (value_in c e n) in
      argued v (arguments_in c rest (past n v.temps))

  -- the object whose value an expression of a struct's type gives
  pub object_in : Scope → t.ExprTree → ℕ → LoweredPlace
  object_in c (typed s ty form) n = form_object c form s ty n

  pub form_object : Scope → FormTree → Span → Option VarTy → ℕ → LoweredPlace
  form_object c (t.read p) s ty n = place_in c p n
  form_object c (t.assign p a) s ty n =
      let to = left_place true a n (place_in c p n) in
      assigned (is_struct ty) to (object_in c a (past n to.temps)) (value_in c a (past n to.temps))
  form_object c form s ty n = named_place (t.local (record { 0 = 0 })) (type_or_int ty) (temp_place 0)

  -- a place
  pub place_in : Scope → t.PlaceTree → ℕ → LoweredPlace
  place_in c (t.place root steps) n = steps_in c steps root [] (root_in c root n) n

  pub root_in : Scope → RootTree → ℕ → LoweredPlace
  root_in c (t.local v) n = named_place (t.local v) (type_at c.variables v.0) (place (local v.0) [])
  root_in c (t.global g) n = named_place (t.global g) (type_at c.globals g.0) (place (global g.0) [])
  root_in c (t.deref e s) n = behind s e (value_in c e n)
  root_in c (t.assigned e) n = object_in c e n

  -- the steps of a place behind those that were taken
  pub steps_in : Scope → StepTrees → RootTree → List StepTree → LoweredPlace → ℕ → LoweredPlace
  steps_in c no_steps root before far n = far
  steps_in c (step_and (t.field k) rest) root before far n = steps_in c rest root (before ++ t.field k ∷ []) (field_in c k far) n
  steps_in c (step_and (t.item e s) rest) root before far n =
      let first = decayed s (t.place root (step_trees before)) far in
      let ty = decayed_type far.fixed far.ty in
      let base = held_if (not (is_pure e)) n (holding ty first) (record { stmts = far.stmts; value = decay far.place; temps = far.temps }) in
      steps_in c rest root (before ++ t.item e s ∷ []) (element_place s first e ty base (value_in c e (past n base.temps))) n
