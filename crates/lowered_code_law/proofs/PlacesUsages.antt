-- What a body evaluates, without places, is what the body without places evaluates; it names and calls the same.
use Rattle.std.proofs.Common.{◌≡◌, ◌∙◌, refl, ap, sym, ℕ, zero, suc, Option, Some, None, List, [], ◌∷◌, ◌++◌, map, option_map}
use Rattle.std.specs.Prelude.{option_and_then, slice_get}
use Rattle.std.specs.List.{flat_map}
use Rattle.std.proofs.lemmas.List.{map-append}
use Rattle.std.proofs.lemmas.Option.{slice_get-map}
use Rattle.pt_base.specs.declared.ids.FnId.{FnId}
use Rattle.pt_base.specs.declared.ids.VarId.{VarId}
use Rattle.typed_tree.specs.declared.part.Part.{Part}
use Rattle.typed_tree.specs.declared.part.Role.{Role}
use Rattle.typed_tree.specs.declared.part.Role.TheVariants.{Value, Condition}
use Rattle.typed_tree.specs.declared.types.VarTy.{VarTy}
use Rattle.typed_tree.specs.declared.statement.TypedInit.{TypedInit}
use Rattle.typed_tree.specs.declared.statement.TypedInit.TheVariants as init
use Rattle.typed_tree.specs.declared.statement.TypedDeclarator.{TypedDeclarator}
use Rattle.typed_tree.specs.declared.statement.TypedForInit.{TypedForInit}
use Rattle.typed_tree.specs.declared.statement.TypedForInit.TheVariants as begin
use Rattle.typed_tree.specs.ExpressionTree as src
use Rattle.typed_tree.specs.ExpressionTree.{ExprTree, typed, FormTree, ExprTrees, no_exprs, expr_and, LinkTrees, no_links, link_and, link, OperandTrees, no_operands, operand_and, operand, RootTree, StepTrees, no_steps, step_and}
use Rattle.typed_tree.specs.Lookup.{function_at, parts_in}
use Rattle.typed_tree.specs.Parts.{part_of, optional_part, init_parts, declaration_parts, for_init_parts, parts_of, else_parts, all_parts, section_parts, function_parts}
use Rattle.typed_tree.specs.StatementTree as b
use Rattle.typed_tree.specs.StatementTree.{BodyTree, ElseTree, no_else, otherwise, BodyTrees, no_bodies, body_and, section, SectionTrees, no_sections, section_and}
use Rattle.typed_tree.specs.TypedTree.{FunctionTree, TypedTree}
use Rattle.typed_tree.specs.WellFormedExpression.{ty_of}
use Rattle.usages.specs.declared.usage.How.{How}
use Rattle.usages.specs.declared.usage.How.TheVariants.{Kept, Operated, Passed}
use Rattle.usages.specs.Usages.{UsageTree, used, converted, evaluated, form_usages, argument_usages, link_usages, operand_usages, place_usages, root_usages, step_usages, how_of, item_number, part_usages, parts_usages, usages_in}
use Rattle.reach.specs.Contexts.{callees_in, expr_callees, expr_globals, form_callees, form_globals, globals_in, place_globals, root_globals}
use Rattle.lowered_code_law.specs.PlacesBareTrees.{bare, bare_all, bare_bodies, bare_body, bare_declarator, bare_else, bare_for_init, bare_form, bare_function, bare_init, bare_links, bare_operands, bare_place, bare_program, bare_root, bare_sections, bare_steps}

abbrev bare_usage : UsageTree → UsageTree
bare_usage u = used u.how (bare u.value)

-- ---- what expressions evaluate

both_bare : (us vs xs ys : List UsageTree) → xs ≡ map bare_usage us → ys ≡ map bare_usage vs → xs ++ ys ≡ map bare_usage (us ++ vs)
both_bare us vs xs ys e f = (λ i. e i ++ f i) ∙ sym (map-append bare_usage us vs)

ty_bare : (a : ExprTree) → ty_of (bare a) ≡ ty_of a
ty_bare (typed s ty form) = refl

mutual
  evaluated_bare : (a : ExprTree) (how : How) → evaluated how (bare a) ≡ map bare_usage (evaluated how a)
  evaluated_bare (typed s ty form) how = both_bare (form_usages ty form) (used how (typed s ty form) ∷ []) (form_usages ty (bare_form form)) (used how (bare (typed s ty form)) ∷ []) (form_evaluated form ty) refl

  form_evaluated : (form : FormTree) (ty : Option VarTy) → form_usages ty (bare_form form) ≡ map bare_usage (form_usages ty form)
  form_evaluated (src.constant v) ty = refl
  form_evaluated src.null ty = refl
  form_evaluated (src.read p) ty = place_evaluated p
  form_evaluated (src.decay p) ty = place_evaluated p
  form_evaluated (src.address p) ty = place_evaluated p
  form_evaluated (src.unary op a) ty = evaluated_bare a Operated
  form_evaluated (src.convert a) ty = ap (λ (from : Option VarTy). evaluated (converted from ty) (bare a)) (ty_bare a) ∙ evaluated_bare a (converted (ty_of a) ty)
  form_evaluated (src.discard a) ty = evaluated_bare a Kept
  form_evaluated (src.chain a ls) ty = both_bare (evaluated Operated a) (link_usages ls) (evaluated Operated (bare a)) (link_usages (bare_links ls)) (evaluated_bare a Operated) (links_evaluated ls)
  form_evaluated (src.logical op a os) ty = both_bare (evaluated Operated a) (operand_usages os) (evaluated Operated (bare a)) (operand_usages (bare_operands os)) (evaluated_bare a Operated) (operands_evaluated os)
  form_evaluated (src.choice a b d) ty =
      both_bare (evaluated Operated a) (evaluated Kept b ++ evaluated Kept d) (evaluated Operated (bare a)) (evaluated Kept (bare b) ++ evaluated Kept (bare d)) (evaluated_bare a Operated)
      (both_bare (evaluated Kept b) (evaluated Kept d) (evaluated Kept (bare b)) (evaluated Kept (bare d)) (evaluated_bare b Kept) (evaluated_bare d Kept))
  form_evaluated (src.assign p a) ty = both_bare (place_usages p) (evaluated Kept a) (place_usages (bare_place p)) (evaluated Kept (bare a)) (place_evaluated p) (evaluated_bare a Kept)
  form_evaluated (src.compound p at op a) ty = both_bare (place_usages p) (evaluated Operated a) (place_usages (bare_place p)) (evaluated Operated (bare a)) (place_evaluated p) (evaluated_bare a Operated)
  form_evaluated (src.step p at back postfix) ty = place_evaluated p
  form_evaluated (src.call f arguments) ty = arguments_evaluated arguments f 0

  arguments_evaluated : (all : ExprTrees) (f : FnId) (k : ℕ) → argument_usages f k (bare_all all) ≡ map bare_usage (argument_usages f k all)
  arguments_evaluated no_exprs f k = refl
  arguments_evaluated (expr_and a rest) f k =
      both_bare (evaluated (Passed f k) a) (argument_usages f (suc k) rest) (evaluated (Passed f k) (bare a)) (argument_usages f (suc k) (bare_all rest)) (evaluated_bare a (Passed f k)) (arguments_evaluated rest f (suc k))

  links_evaluated : (ls : LinkTrees) → link_usages (bare_links ls) ≡ map bare_usage (link_usages ls)
  links_evaluated no_links = refl
  links_evaluated (link_and (link s ty op a) rest) = both_bare (evaluated Operated a) (link_usages rest) (evaluated Operated (bare a)) (link_usages (bare_links rest)) (evaluated_bare a Operated) (links_evaluated rest)

  operands_evaluated : (os : OperandTrees) → operand_usages (bare_operands os) ≡ map bare_usage (operand_usages os)
  operands_evaluated no_operands = refl
  operands_evaluated (operand_and (operand s a) rest) = both_bare (evaluated Operated a) (operand_usages rest) (evaluated Operated (bare a)) (operand_usages (bare_operands rest)) (evaluated_bare a Operated) (operands_evaluated rest)

  place_evaluated : (p : src.PlaceTree) → place_usages (bare_place p) ≡ map bare_usage (place_usages p)
  place_evaluated (src.place root steps) = both_bare (root_usages root) (step_usages steps) (root_usages (bare_root root)) (step_usages (bare_steps steps)) (root_evaluated root) (steps_evaluated steps)

  root_evaluated : (root : RootTree) → root_usages (bare_root root) ≡ map bare_usage (root_usages root)
  root_evaluated (src.local v) = refl
  root_evaluated (src.global g) = refl
  root_evaluated (src.deref a s) = evaluated_bare a Kept
  root_evaluated (src.assigned a) = evaluated_bare a Kept

  steps_evaluated : (steps : StepTrees) → step_usages (bare_steps steps) ≡ map bare_usage (step_usages steps)
  steps_evaluated no_steps = refl
  steps_evaluated (step_and (src.field k) rest) = steps_evaluated rest
  steps_evaluated (step_and (src.item a s) rest) = both_bare (evaluated Operated a) (step_usages rest) (evaluated Operated (bare a)) (step_usages (bare_steps rest)) (evaluated_bare a Operated) (steps_evaluated rest)

-- ---- parts

declared_parts : (ds : List TypedDeclarator) → declaration_parts (map bare_declarator ds) ≡ declaration_parts ds
declared_parts [] = refl
declared_parts (d ∷ ds) = λ i. start d.init d.var i ++ declared_parts ds i
  where
    start : (x : TypedInit) (v : VarId) → init_parts v (bare_init x) ≡ init_parts v x
    start init.Nothing v = refl
    start (init.Value e) v = refl
    start (init.Items s es) v = refl

begun_parts : (d : TypedForInit) → for_init_parts (bare_for_init d) ≡ for_init_parts d
begun_parts begin.Nothing = refl
begun_parts (begin.Declare d) = declared_parts d.declarators
begun_parts (begin.Evaluate e) = refl

mutual
  parts_bare : (x : BodyTree) → parts_of (bare_body x) ≡ parts_of x
  parts_bare (b.block s ys) = all_parts_bare ys
  parts_bare (b.nothing s) = refl
  parts_bare (b.evaluate s e) = refl
  parts_bare (b.declare d) = declared_parts d.declarators
  parts_bare (b.choose s e y o) = λ i. part_of Condition e ∷ (parts_bare y i ++ else_parts_bare o i)
  parts_bare (b.while_true s e y) = λ i. part_of Condition e ∷ parts_bare y i
  parts_bare (b.do_while s y e) = λ i. parts_bare y i ++ (part_of Condition e ∷ [])
  parts_bare (b.for_each s d o step y) = λ i. begun_parts d i ++ (optional_part Condition o ++ (optional_part Value step ++ parts_bare y i))
  parts_bare (b.give_back s o) = refl
  parts_bare (b.stop_loop s) = refl
  parts_bare (b.next_turn s) = refl
  parts_bare (b.switch s e ty ss) = λ i. part_of Condition e ∷ section_parts_bare ss i

  else_parts_bare : (o : ElseTree) → else_parts (bare_else o) ≡ else_parts o
  else_parts_bare no_else = refl
  else_parts_bare (otherwise y) = parts_bare y

  all_parts_bare : (ys : BodyTrees) → all_parts (bare_bodies ys) ≡ all_parts ys
  all_parts_bare no_bodies = refl
  all_parts_bare (body_and y rest) = λ i. parts_bare y i ++ all_parts_bare rest i

  section_parts_bare : (ss : SectionTrees) → section_parts (bare_sections ss) ≡ section_parts ss
  section_parts_bare no_sections = refl
  section_parts_bare (section_and (section at label ys) rest) = λ i. all_parts_bare ys i ++ section_parts_bare rest i

-- ---- functions

-- the function of a number, without places
pub function_bare : (t : TypedTree) (f : FnId) → function_at (bare_program t) f ≡ option_map bare_function (function_at t f)
function_bare t f = slice_get-map bare_function t.functions f.0

function_parts_bare : (t : TypedTree) (f : FnId) → parts_in (bare_program t) f ≡ parts_in t f
function_parts_bare t f = ap (λ (o : Option FunctionTree). function_parts (option_and_then (λ (x : FunctionTree). x.body) o)) (function_bare t f) ∙ go (function_at t f)
  where
    body : (o : Option BodyTree) → function_parts (option_map bare_body o) ≡ function_parts o
    body None = refl
    body (Some x) = parts_bare x

    go : (o : Option FunctionTree) → function_parts (option_and_then (λ (x : FunctionTree). x.body) (option_map bare_function o)) ≡ function_parts (option_and_then (λ (x : FunctionTree). x.body) o)
    go None = refl
    go (Some x) = body x.body

part_bare : (how : How) (exprs : List ExprTree) (k : ℕ) → part_usages how (slice_get (map bare exprs) k) ≡ map bare_usage (part_usages how (slice_get exprs k))
part_bare how [] k = refl
part_bare how (a ∷ rest) zero = evaluated_bare a how
part_bare how (a ∷ rest) (suc k) = part_bare how rest k

all_usages_bare : (ps : List Part) (exprs : List ExprTree) (before : Role) (k : ℕ) → parts_usages (map bare exprs) before k ps ≡ map bare_usage (parts_usages exprs before k ps)
all_usages_bare [] exprs before k = refl
all_usages_bare (p ∷ ps) exprs before k =
    let m = item_number before k p.role in
    both_bare (part_usages (how_of p.role m) (slice_get exprs p.expr.0)) (parts_usages exprs p.role m ps) (part_usages (how_of p.role m) (slice_get (map bare exprs) p.expr.0)) (parts_usages (map bare exprs) p.role m ps)
    (part_bare (how_of p.role m) exprs p.expr.0) (all_usages_bare ps exprs p.role m)

usages_bare : (t : TypedTree) (f : FnId) → usages_in (bare_program t) f ≡ map bare_usage (usages_in t f)
unfolding usages_in
usages_bare t f = ap (parts_usages (map bare t.exprs) Value 0) (function_parts_bare t f) ∙ all_usages_bare (parts_in t f) t.exprs Value 0

-- ---- names

own_callees : (a : ExprTree) → expr_callees (bare a) ≡ expr_callees a
own_callees (typed s ty form) = go form
  where
    go : (form : FormTree) → form_callees (bare_form form) ≡ form_callees form
    go (src.call g arguments) = refl
    go form = refl

own_globals : (a : ExprTree) → expr_globals (bare a) ≡ expr_globals a
own_globals (typed s ty form) = go form
  where
    start : (root : RootTree) → root_globals (bare_root root) ≡ root_globals root
    start (src.global g) = refl
    start root = refl

    place : (p : src.PlaceTree) → place_globals (bare_place p) ≡ place_globals p
    place (src.place root steps) = start root

    go : (form : FormTree) → form_globals (bare_form form) ≡ form_globals form
    go (src.read p) = place p
    go (src.decay p) = place p
    go (src.address p) = place p
    go (src.assign p a) = place p
    go (src.compound p at op a) = place p
    go (src.step p at back postfix) = place p
    go form = refl

each_bare : {A : Type 0} (f : ExprTree → List A) → ((a : ExprTree) → f (bare a) ≡ f a) → (us : List UsageTree) → flat_map (λ (u : UsageTree). f u.value) (map bare_usage us) ≡ flat_map (λ (u : UsageTree). f u.value) us
each_bare f h [] = refl
each_bare f h (u ∷ us) = λ i. h u.value i ++ each_bare f h us i

-- it calls the same
pub callees_bare : (t : TypedTree) (f : FnId) → callees_in (bare_program t) f ≡ callees_in t f
callees_bare t f = ap (λ (us : List UsageTree). flat_map (λ (u : UsageTree). expr_callees u.value) us) (usages_bare t f) ∙ each_bare expr_callees own_callees (usages_in t f)

-- and names the same globals
pub globals_bare : (t : TypedTree) (f : FnId) → globals_in (bare_program t) f ≡ globals_in t f
globals_bare t f = ap (λ (us : List UsageTree). flat_map (λ (u : UsageTree). expr_globals u.value) us) (usages_bare t f) ∙ each_bare expr_globals own_globals (usages_in t f)
