-- What a body evaluates names no more than the lists of what it names.
use Rattle.std.proofs.Common.{ℕ, suc, zero, Option, Some, None, List, [], ◌∷◌, ◌++◌}
use Rattle.std.specs.Prelude.{Contains, slice_get, get_or}
use Rattle.std.proofs.lemmas.List.Elements.{Contains-append_left, Contains-append_right}
use Rattle.pt_base.specs.declared.ids.FnId.{FnId}
use Rattle.pt_base.specs.declared.ids.GlobalId.{GlobalId}
use Rattle.pt_base.proofs.Members.{contains_first}
use Rattle.typed_tree.specs.declared.part.Part.{Part}
use Rattle.typed_tree.specs.declared.part.Role.{Role}
use Rattle.typed_tree.specs.declared.part.Role.TheVariants.{Value}
use Rattle.typed_tree.specs.declared.types.VarTy.{VarTy}
use Rattle.typed_tree.specs.ExpressionTree.{ExprTree, FormTree, ExprTrees, LinkTrees, OperandTrees, PlaceTree, RootTree, StepTrees, typed, constant, null, read, decay, address, unary, convert, discard, chain, logical, choice, assign, compound, step, call, no_exprs, expr_and, link, no_links, link_and, operand, no_operands, operand_and, place, local, global, deref, assigned, field, item, no_steps, step_and}
use Rattle.typed_tree.specs.WellFormedExpression.{ty_of}
use Rattle.typed_tree.specs.TypedTree.{TypedTree}
use Rattle.typed_tree.specs.Lookup.{parts_in}
use Rattle.source_meaning.specs.Statements.{no_expr}
use Rattle.usages.specs.declared.usage.How.{How}
use Rattle.usages.specs.declared.usage.How.TheVariants.{Kept, Operated, Passed}
use Rattle.usages.specs.Usages.{UsageTree, used, converted, evaluated, form_usages, argument_usages, link_usages, operand_usages, place_usages, root_usages, step_usages, how_of, part_usages, item_number, parts_usages, usages_in}
use Rattle.reach.specs.Contexts.{form_callees, expr_callees, root_globals, place_globals, form_globals, expr_globals, globals_in, callees_in}
use Rattle.reach.proofs.ListLemmas.{contains_flat}
use Rattle.lowered_code_law.proofs.NamesNaming.{Allowed, ExprNames, FormNames, ExprsName, LinksName, OperandsName, PlaceNames, RootNames, StepsName, FoundNames, PartsName}

-- ---- lists of what is evaluated

-- what an expression itself names and calls
abbrev pub UsageNamed : Allowed → UsageTree → Type 0
UsageNamed w u = ((g : GlobalId) → Contains (expr_globals u.value) g → Contains w.globals g) × ((c : FnId) → Contains (expr_callees u.value) c → Contains w.callees c)

abbrev pub AllNamed : Allowed → List UsageTree → Type 0
AllNamed w us = (u : UsageTree) → Contains us u → UsageNamed w u

first_named : (w : Allowed) (us vs : List UsageTree) → AllNamed w (us ++ vs) → AllNamed w us
first_named w us vs h = λ u k. h u (Contains-append_left us vs u k)

rest_named : (w : Allowed) (us vs : List UsageTree) → AllNamed w (us ++ vs) → AllNamed w vs
rest_named w us vs h = λ u k. h u (Contains-append_right us vs u k)

last_named : (w : Allowed) (us : List UsageTree) (u : UsageTree) → AllNamed w (us ++ u ∷ []) → UsageNamed w u
last_named w us u h = h u (Contains-append_right us (u ∷ []) u (contains_first u []))

-- ---- by induction

abbrev GlobalsNamed : Allowed → List GlobalId → Type 0
GlobalsNamed w gs = (g : GlobalId) → Contains gs g → Contains w.globals g

abbrev CalleesNamed : Allowed → List FnId → Type 0
CalleesNamed w cs = (c : FnId) → Contains cs c → Contains w.callees c

mutual
  pub expr_named : (a : ExprTree) (w : Allowed) (how : How) → AllNamed w (evaluated how a) → ExprNames w a
  expr_named (typed s ty f) w how h =
      let own = last_named w (form_usages ty f) (used how (typed s ty f)) h in
      form_named f w ty (first_named w (form_usages ty f) (used how (typed s ty f) ∷ []) h) own.0 own.1

  form_named : (f : FormTree) (w : Allowed) (ty : Option VarTy) → AllNamed w (form_usages ty f) → GlobalsNamed w (form_globals f) → CalleesNamed w (form_callees f) → FormNames w f
  form_named (constant v) w ty h g c = tt
  form_named null w ty h g c = tt
  form_named (read p) w ty h g c = place_named p w h g
  form_named (decay p) w ty h g c = place_named p w h g
  form_named (address p) w ty h g c = place_named p w h g
  form_named (unary op a) w ty h g c = expr_named a w Operated h
  form_named (convert a) w ty h g c = expr_named a w (converted (ty_of a) ty) h
  form_named (discard a) w ty h g c = expr_named a w Kept h
  form_named (chain a ls) w ty h g c = (
    expr_named a w Operated (first_named w (evaluated Operated a) (link_usages ls) h),
    links_named ls w (rest_named w (evaluated Operated a) (link_usages ls) h),
  )
  form_named (logical op a os) w ty h g c = (
    expr_named a w Operated (first_named w (evaluated Operated a) (operand_usages os) h),
    operands_named os w (rest_named w (evaluated Operated a) (operand_usages os) h),
  )
  form_named (choice a b d) w ty h g c =
      let arms = rest_named w (evaluated Operated a) (evaluated Kept b ++ evaluated Kept d) h in (
        expr_named a w Operated (first_named w (evaluated Operated a) (evaluated Kept b ++ evaluated Kept d) h),
        expr_named b w Kept (first_named w (evaluated Kept b) (evaluated Kept d) arms),
        expr_named d w Kept (rest_named w (evaluated Kept b) (evaluated Kept d) arms),
      )
  form_named (assign p a) w ty h g c = (
    place_named p w (first_named w (place_usages p) (evaluated Kept a) h) g,
    expr_named a w Kept (rest_named w (place_usages p) (evaluated Kept a) h),
  )
  form_named (compound p at op a) w ty h g c = (
    place_named p w (first_named w (place_usages p) (evaluated Operated a) h) g,
    expr_named a w Operated (rest_named w (place_usages p) (evaluated Operated a) h),
  )
  form_named (step p at back postfix) w ty h g c = place_named p w h g
  form_named (call f arguments) w ty h g c = (c f (contains_first f []), arguments_named arguments w f 0 h)

  arguments_named : (all : ExprTrees) (w : Allowed) (f : FnId) (k : ℕ) → AllNamed w (argument_usages f k all) → ExprsName w all
  arguments_named no_exprs w f k h = tt
  arguments_named (expr_and a rest) w f k h = (
    expr_named a w (Passed f k) (first_named w (evaluated (Passed f k) a) (argument_usages f (suc k) rest) h),
    arguments_named rest w f (suc k) (rest_named w (evaluated (Passed f k) a) (argument_usages f (suc k) rest) h),
  )

  links_named : (ls : LinkTrees) (w : Allowed) → AllNamed w (link_usages ls) → LinksName w ls
  links_named no_links w h = tt
  links_named (link_and (link s ty op a) rest) w h = (
    expr_named a w Operated (first_named w (evaluated Operated a) (link_usages rest) h),
    links_named rest w (rest_named w (evaluated Operated a) (link_usages rest) h),
  )

  operands_named : (os : OperandTrees) (w : Allowed) → AllNamed w (operand_usages os) → OperandsName w os
  operands_named no_operands w h = tt
  operands_named (operand_and (operand s a) rest) w h = (
    expr_named a w Operated (first_named w (evaluated Operated a) (operand_usages rest) h),
    operands_named rest w (rest_named w (evaluated Operated a) (operand_usages rest) h),
  )

  place_named : (p : PlaceTree) (w : Allowed) → AllNamed w (place_usages p) → GlobalsNamed w (place_globals p) → PlaceNames w p
  place_named (place root steps) w h g = (
    root_named root w (first_named w (root_usages root) (step_usages steps) h) g,
    steps_named steps w (rest_named w (root_usages root) (step_usages steps) h),
  )

  root_named : (root : RootTree) (w : Allowed) → AllNamed w (root_usages root) → GlobalsNamed w (root_globals root) → RootNames w root
  root_named (local v) w h g = tt
  root_named (global x) w h g = g x (contains_first x [])
  root_named (deref a s) w h g = expr_named a w Kept h
  root_named (assigned a) w h g = expr_named a w Kept h

  steps_named : (steps : StepTrees) (w : Allowed) → AllNamed w (step_usages steps) → StepsName w steps
  steps_named no_steps w h = tt
  steps_named (step_and (field k) rest) w h = steps_named rest w h
  steps_named (step_and (item a s) rest) w h = (
    expr_named a w Operated (first_named w (evaluated Operated a) (step_usages rest) h),
    steps_named rest w (rest_named w (evaluated Operated a) (step_usages rest) h),
  )

-- ---- outermost expressions

part_named : (o : Option ExprTree) (w : Allowed) (how : How) → AllNamed w (part_usages how o) → FoundNames w o
part_named None w how h = tt
part_named (Some a) w how h = expr_named a w how h

pub parts_named : (ps : List Part) (w : Allowed) (exprs : List ExprTree) (before : Role) (k : ℕ) → AllNamed w (parts_usages exprs before k ps) → PartsName w exprs ps
parts_named [] w exprs before k h = tt
parts_named (p ∷ ps) w exprs before k h =
    let m = item_number before k p.role in
    let first = part_usages (how_of p.role m) (slice_get exprs p.expr.0) in
    let rest = parts_usages exprs p.role m ps in
    (part_named (slice_get exprs p.expr.0) w (how_of p.role m) (first_named w first rest h), parts_named ps w exprs p.role m (rest_named w first rest h))

-- where there is no expression, that stands for it which names nothing
pub outermost_names : (exprs : List ExprTree) (w : Allowed) (k : ℕ) → FoundNames w (slice_get exprs k) → ExprNames w (get_or exprs k no_expr)
outermost_names [] w k h = tt
outermost_names (a ∷ rest) w zero h = h
outermost_names (a ∷ rest) w (suc k) h = outermost_names rest w k h

-- ---- a function's body

-- what the body of a function names and calls
abbrev pub named_by : TypedTree → FnId → Allowed
named_by t f = record { globals = globals_in t f; callees = callees_in t f }

body_named : (t : TypedTree) (f : FnId) → AllNamed (named_by t f) (usages_in t f)
body_named t f = λ u k. (
  λ g i. contains_flat (λ (x : UsageTree). expr_globals x.value) (usages_in t f) u g k i,
  λ c i. contains_flat (λ (x : UsageTree). expr_callees x.value) (usages_in t f) u c k i,
)

evaluated_names : (t : TypedTree) (f : FnId) (w : Allowed) → AllNamed w (usages_in t f) → PartsName w t.exprs (parts_in t f)
unfolding usages_in
evaluated_names t f w h = parts_named (parts_in t f) w t.exprs Value 0 h

pub parts_name : (t : TypedTree) (f : FnId) → PartsName (named_by t f) t.exprs (parts_in t f)
parts_name t f = evaluated_names t f (named_by t f) (body_named t f)
