-- The meaning of code names structs by the types of their fields alone.
use Rattle.std.proofs.Common.{◌≡◌, ◌∙◌, ℕ, zero, suc, ◌+◌, refl, ap, sym, Bool, true, false, Option, Some, None, List, [], ◌∷◌, ◌++◌, map, if◌then◌else◌}
use Rattle.std.specs.Prelude.{get_or, take, pos}
use Rattle.pt_base.specs.declared.int_type.IntType.TheVariants as int
use Rattle.pt_base.specs.declared.span.Span.{Span}
use Rattle.runs.specs.Pointers.{if_ok, reached}
use Rattle.runs.specs.State.{gives, ◌>>=◌, take_turn}
use Rattle.pt_int.specs.Conversion.{conv}
use Rattle.typed_tree.specs.declared.ids.ExprId.{ExprId}
use Rattle.typed_tree.specs.declared.types.VarTy.{VarTy}
use Rattle.typed_tree.specs.declared.types.VarTy.TheVariants.{Int, Struct, Array, Pointer}
use Rattle.typed_tree.specs.declared.types.Field.{Field}
use Rattle.typed_tree.specs.declared.types.StructInfo.{StructInfo}
use Rattle.typed_tree.specs.declared.link.LinkStep.{LinkStep}
use Rattle.typed_tree.specs.declared.link.LogicalOp.{LogicalOp}
use Rattle.typed_tree.specs.declared.statement.TypedInit.{TypedInit}
use Rattle.typed_tree.specs.declared.statement.TypedInit.TheVariants as n
use Rattle.typed_tree.specs.declared.statement.TypedDeclarator.{TypedDeclarator}
use Rattle.typed_tree.specs.declared.statement.TypedForInit.{TypedForInit}
use Rattle.typed_tree.specs.declared.statement.TypedForInit.TheVariants as f
use Rattle.typed_tree.specs.ExpressionTree as t
use Rattle.typed_tree.specs.ExpressionTree.{ExprTree, typed, FormTree, ExprTrees, no_exprs, expr_and, LinkTrees, no_links, link_and, link, OperandTrees, no_operands, operand_and, operand, PlaceTree, place, RootTree, StepTree, StepTrees, no_steps, step_and}
use Rattle.typed_tree.specs.StatementTree.{BodyTree, block, nothing, evaluate, declare, choose, while_true, do_while, for_each, give_back, stop_loop, next_turn, switch, ElseTree, no_else, otherwise, BodyTrees, no_bodies, body_and, SectionTree, section, SectionTrees, no_sections, section_and}
use Rattle.typed_tree.specs.Sizes.{sizes_of, cells_by, elem_cells, offset_of, fields_of, fields_cells, sizes_after}
use Rattle.typed_tree.specs.TypeTests.{type_of_elem}
use Rattle.source_meaning.specs.Memory.{Cell, number, read, local, put}
use Rattle.source_meaning.specs.State.{State, Outcome}
use Rattle.source_meaning.specs.Values as v
use Rattle.source_meaning.specs.Values.{Value, holds, whole, cell_of, number_of, is_true, truth_value, converted, converted_cell, target_of, moved_cell, Location, unary_cell, stepped, unit_step, cleared}
use Rattle.source_meaning.specs.Expressions.{Context, or_trap, type_at, field_type, field_of, decayed, address_of, object_at, dereferenced, element_of, indexed, cells_at, loaded, store, compounded, cell_or_trap, step_gives, counted, is_decided, link_type, type_or_int, type_of, value_of, form_value, values_of, links_value, link_value, operands_value, operand_value, location_of, root_location, assigned_location, form_location, steps_location, step_location}
use Rattle.source_meaning.specs.Statements.{Code, no_expr, outermost, goes_on, returned, after_flow, variable_at, items_stored, initialised, cleared_at, declared, Round, leaves, body_round, looped, tested, stepped_first, tested_later, for_begins, chosen, past_switch, statement, otherwise_of, all_of, sections_from, section_of}
use Rattle.half_names_law.specs.Laws.{field_types}

-- ---- structs with the same types

-- all that the meaning asks of structs is the same
pub record SameTypes (a b : List StructInfo) : Type 0 where
  pub sizes_are : sizes_of a ≡ sizes_of b
  pub offsets : (n k : ℕ) → offset_of a n k ≡ offset_of b n k
  pub fields : (n k : ℕ) → field_type a n k ≡ field_type b n k

types_in : List Field → List VarTy
types_in fs = map (λ (f : Field). f.ty) fs

types_cells : List ℕ → List VarTy → ℕ
types_cells ss [] = 0
types_cells ss (t ∷ ts) = cells_by ss t + types_cells ss ts

after_types : List ℕ → List (List VarTy) → List ℕ
after_types ss [] = ss
after_types ss (ts ∷ tss) = after_types (ss ++ types_cells ss ts ∷ []) tss

cells_are : (ss : List ℕ) (fs : List Field) → fields_cells ss fs ≡ types_cells ss (types_in fs)
unfolding types_in types_cells
cells_are ss [] = refl
cells_are ss (f ∷ fs) = ap (λ n. cells_by ss f.ty + n) (cells_are ss fs)

after_are : (ss : List ℕ) (xs : List StructInfo) → sizes_after ss xs ≡ after_types ss (field_types xs)
unfolding after_types types_in
after_are ss [] = refl
after_are ss (x ∷ xs) = ap (λ n. sizes_after (ss ++ n ∷ []) xs) (cells_are ss x.fields) ∙ after_are (ss ++ types_cells ss (types_in x.fields) ∷ []) xs

first_types : (k : ℕ) (fs : List Field) → types_in (take k fs) ≡ take k (types_in fs)
unfolding types_in
first_types zero fs = refl
first_types (suc k) [] = refl
first_types (suc k) (f ∷ fs) = ap (λ ts. f.ty ∷ ts) (first_types k fs)

types_at : (xs : List StructInfo) (n : ℕ) → types_in (fields_of xs n) ≡ get_or (field_types xs) n []
unfolding types_in
types_at [] n = refl
types_at (x ∷ xs) zero = refl
types_at (x ∷ xs) (suc n) = types_at xs n

field_at_types : (fs : List Field) (k : ℕ) → (get_or fs k (record { name = []; ty = Int int.Int; marked = false })).ty ≡ get_or (types_in fs) k (Int int.Int)
unfolding types_in
field_at_types [] k = refl
field_at_types (f ∷ fs) zero = refl
field_at_types (f ∷ fs) (suc k) = field_at_types fs k

pub same_types : (a b : List StructInfo) → field_types a ≡ field_types b → SameTypes a b
same_types a b h = record {
  sizes_are = table;
  offsets = λ n k. offset a n k ∙ (λ i. types_cells (table i) (take k (get_or (h i) n []))) ∙ sym (offset b n k);
  fields = λ n k. typed_at a n k ∙ (λ i. get_or (get_or (h i) n []) k (Int int.Int)) ∙ sym (typed_at b n k);
}
  where
    table : sizes_of a ≡ sizes_of b
    table = after_are [] a ∙ ap (after_types []) h ∙ sym (after_are [] b)

    offset : (xs : List StructInfo) (n k : ℕ) → offset_of xs n k ≡ types_cells (sizes_of xs) (take k (get_or (field_types xs) n []))
    offset xs n k = cells_are (sizes_of xs) (take k (fields_of xs n)) ∙ ap (types_cells (sizes_of xs)) (first_types k (fields_of xs n) ∙ ap (take k) (types_at xs n))

    typed_at : (xs : List StructInfo) (n k : ℕ) → field_type xs n k ≡ get_or (get_or (field_types xs) n []) k (Int int.Int)
    typed_at xs n k = field_at_types (fields_of xs n) k ∙ ap (λ ts. get_or ts k (Int int.Int)) (types_at xs n)

-- ---- parts of expressions

abbrev pub with_structs : Context → List StructInfo → Context
with_structs c b = record c { structs = b }

module _ (c : Context) (b : List StructInfo) (h : SameTypes c.structs b) where
  loaded_same : (at : Location) (ty : VarTy) (st : State) → loaded c at ty st ≡ loaded (with_structs c b) at ty st
  loaded_same at (Struct k) st = ap (λ ss. whole (cells_at st at (cells_by ss (Struct k)))) h.sizes_are
  loaded_same at (Int k) st = refl
  loaded_same at (Array elem count) st = refl
  loaded_same at (Pointer elem fixed) st = refl

  field_same : (k : ℕ) (at : Location) (ty : VarTy) → field_of c k at ty ≡ field_of (with_structs c b) k at ty
  field_same k at (Struct m) = λ i. record { block = at.block; cell = at.cell + h.offsets m k i; ty = h.fields m k i }
  field_same k at (Int m) = refl
  field_same k at (Array elem count) = refl
  field_same k at (Pointer elem fixed) = refl

  pointee_same : (ty : VarTy) (cell : Cell) → dereferenced c ty cell ≡ dereferenced (with_structs c b) ty cell
  pointee_same (Pointer elem fixed) cell = ap (λ ss. if_ok (reached (elem_cells ss elem) (target_of cell)) (object_at (type_of_elem elem))) h.sizes_are
  pointee_same (Int m) cell = refl
  pointee_same (Struct m) cell = refl
  pointee_same (Array elem count) cell = refl

  compounded_same : (s : Span) (at : Location) (step : LinkStep) (u : Value) → compounded c s at step u ≡ compounded (with_structs c b) s at step u
  compounded_same s at step u = λ i st. or_trap s (stepped (h.sizes_are i) at.ty step (read st.memory at.block at.cell) (cell_of u)) st >>= λ cell. store at (holds (converted_cell at.ty cell))

  counted_same : (s : Span) (back postfix : Bool) (at : Location) → counted c s back postfix at ≡ counted (with_structs c b) s back postfix at
  counted_same s back postfix at = λ i st. compounded_same s at (unit_step at.ty back) (holds (number (pos 1))) i st >>= λ u. gives (step_gives postfix (loaded_same at at.ty st i) u)

  indexed_same : (s : Span) (at : Location) (index : Value) → indexed c s at index ≡ indexed (with_structs c b) s at index
  indexed_same s at index = λ i st. or_trap s (moved_cell (number_of index) (decayed at at.ty)) st >>= λ cell. or_trap s (pointee_same (element_of at.ty) cell i)

-- ---- expressions

mutual
  pub value_same : (e : ExprTree) (c : Context) (b : List StructInfo) (h : SameTypes c.structs b) → value_of e c ≡ value_of e (with_structs c b)
  value_same (typed s ty form) c b h = form_same form s ty c b h

  form_same : (form : FormTree) (s : Span) (ty : Option VarTy) (c : Context) (b : List StructInfo) (h : SameTypes c.structs b) → form_value form s ty c ≡ form_value form s ty (with_structs c b)
  form_same (t.constant u) s ty c b h = refl
  form_same t.null s ty c b h = refl
  form_same (t.read p) s ty c b h = λ i st. location_same p c b h i st >>= λ at st1. gives (loaded_same c b h at at.ty st1 i) st1
  form_same (t.decay p) s ty c b h = λ i st. location_same p c b h i st >>= λ at. gives (holds (decayed at at.ty))
  form_same (t.address p) s ty c b h = λ i st. location_same p c b h i st >>= λ at. gives (holds (address_of at))
  form_same (t.unary op a) s ty c b h = λ i st. value_same a c b h i st >>= λ u. cell_or_trap s (unary_cell op (type_of a) (cell_of u))
  form_same (t.convert a) s ty c b h = λ i st. value_same a c b h i st >>= λ u. gives (converted (type_or_int ty) u)
  form_same (t.discard a) s ty c b h = λ i st. value_same a c b h i st >>= λ u. gives v.nothing
  form_same (t.chain a links) s ty c b h = λ i st. value_same a c b h i st >>= λ u. links_same links (type_of a) u c b h i
  form_same (t.logical op a others) s ty c b h = λ i st. value_same a c b h i st >>= λ u. operands_same others op (is_true u) c b h i
  form_same (t.choice a x y) s ty c b h = λ i st. value_same a c b h i st >>= λ u. if is_true u then value_same x c b h i else value_same y c b h i
  form_same (t.assign p a) s ty c b h = λ i st. location_same p c b h i st >>= λ at st1. value_same a c b h i st1 >>= store at
  form_same (t.compound p left step a) s ty c b h = λ i st. location_same p c b h i st >>= λ at st1. value_same a c b h i st1 >>= λ u. compounded_same c b h s at step u i
  form_same (t.step p left back postfix) s ty c b h = λ i st. location_same p c b h i st >>= λ at. counted_same c b h s back postfix at i
  form_same (t.call f arguments) s ty c b h = λ i st. values_same arguments c b h i st >>= c.calls c.frame s f.0

  values_same : (es : ExprTrees) (c : Context) (b : List StructInfo) (h : SameTypes c.structs b) → values_of es c ≡ values_of es (with_structs c b)
  values_same no_exprs c b h = refl
  values_same (expr_and e rest) c b h = λ i st. value_same e c b h i st >>= λ u st1. values_same rest c b h i st1 >>= λ us. gives (u ∷ us)

  links_same : (ls : LinkTrees) (ty : VarTy) (u : Value) (c : Context) (b : List StructInfo) (h : SameTypes c.structs b) → links_value ls ty u c ≡ links_value ls ty u (with_structs c b)
  links_same no_links ty u c b h = refl
  links_same (link_and l rest) ty u c b h = λ i st. link_same l ty u c b h i st >>= λ w. links_same rest (link_type l) w c b h i

  link_same : (l : t.LinkTree) (ty : VarTy) (u : Value) (c : Context) (b : List StructInfo) (h : SameTypes c.structs b) → link_value l ty u c ≡ link_value l ty u (with_structs c b)
  link_same (link s to step e) ty u c b h = λ i st. value_same e c b h i st >>= λ w. cell_or_trap s (stepped (h.sizes_are i) ty step (cell_of u) (cell_of w))

  operands_same : (os : OperandTrees) (op : LogicalOp) (z : Bool) (c : Context) (b : List StructInfo) (h : SameTypes c.structs b) → operands_value os op z c ≡ operands_value os op z (with_structs c b)
  operands_same no_operands op z c b h = refl
  operands_same (operand_and o rest) op z c b h = λ i st. if is_decided op z then gives (truth_value z) st else (operand_same o c b h i st >>= λ u. operands_same rest op (is_true u) c b h i)

  operand_same : (o : t.OperandTree) (c : Context) (b : List StructInfo) (h : SameTypes c.structs b) → operand_value o c ≡ operand_value o (with_structs c b)
  operand_same (operand s e) c b h = value_same e c b h

  location_same : (p : PlaceTree) (c : Context) (b : List StructInfo) (h : SameTypes c.structs b) → location_of p c ≡ location_of p (with_structs c b)
  location_same (place root steps) c b h = λ i st. root_same root c b h i st >>= λ at. steps_same steps at c b h i

  root_same : (root : RootTree) (c : Context) (b : List StructInfo) (h : SameTypes c.structs b) → root_location root c ≡ root_location root (with_structs c b)
  root_same (t.local x) c b h = refl
  root_same (t.global g) c b h = refl
  root_same (t.deref e s) c b h = λ i st. value_same e c b h i st >>= λ u. or_trap s (pointee_same c b h (type_of e) (cell_of u) i)
  root_same (t.assigned e) c b h = assigned_same e c b h

  assigned_same : (e : ExprTree) (c : Context) (b : List StructInfo) (h : SameTypes c.structs b) → assigned_location e c ≡ assigned_location e (with_structs c b)
  assigned_same (typed s ty form) c b h = form_location_same form c b h

  form_location_same : (form : FormTree) (c : Context) (b : List StructInfo) (h : SameTypes c.structs b) → form_location form c ≡ form_location form (with_structs c b)
  form_location_same (t.assign p a) c b h = λ i st. location_same p c b h i st >>= λ at st1. value_same a c b h i st1 >>= λ u st2. store at u st2 >>= λ w. gives at
  form_location_same (t.constant u) c b h = refl
  form_location_same t.null c b h = refl
  form_location_same (t.read p) c b h = refl
  form_location_same (t.decay p) c b h = refl
  form_location_same (t.address p) c b h = refl
  form_location_same (t.unary op a) c b h = refl
  form_location_same (t.convert a) c b h = refl
  form_location_same (t.discard a) c b h = refl
  form_location_same (t.chain a links) c b h = refl
  form_location_same (t.logical op a others) c b h = refl
  form_location_same (t.choice a x y) c b h = refl
  form_location_same (t.compound p left step a) c b h = refl
  form_location_same (t.step p left back postfix) c b h = refl
  form_location_same (t.call f arguments) c b h = refl

  steps_same : (ss : StepTrees) (at : Location) (c : Context) (b : List StructInfo) (h : SameTypes c.structs b) → steps_location ss at c ≡ steps_location ss at (with_structs c b)
  steps_same no_steps at c b h = refl
  steps_same (step_and step rest) at c b h = λ i st. step_same step at c b h i st >>= λ next. steps_same rest next c b h i

  step_same : (step : StepTree) (at : Location) (c : Context) (b : List StructInfo) (h : SameTypes c.structs b) → step_location step at c ≡ step_location step at (with_structs c b)
  step_same (t.field k) at c b h = λ i st. gives (field_same c b h k at at.ty i) st
  step_same (t.item e s) at c b h = λ i st. value_same e c b h i st >>= λ u. indexed_same c b h s at u i

-- ---- statements

abbrev pub code_with : Code → List StructInfo → Code
code_with code b = record { context = with_structs code.context b; exprs = code.exprs }

module _ (code : Code) (b : List StructInfo) (h : SameTypes code.context.structs b) where
  outer : (e : ExprId) → outermost code e ≡ outermost (code_with code b) e
  outer e = value_same (get_or code.exprs e.0 no_expr) code.context b h

  items_same : (es : List ExprId) (x cell : ℕ) → items_stored es x cell code ≡ items_stored es x cell (code_with code b)
  items_same [] x cell = refl
  items_same (e ∷ es) x cell = λ i st. outer e i st >>= λ u st1. store (variable_at code x cell) u st1 >>= λ w. items_same es x (cell + 1) i

  init_same : (o : TypedInit) (x : ℕ) → initialised o x code ≡ initialised o x (code_with code b)
  init_same n.Nothing x = refl
  init_same (n.Value e) x = λ i st. outer e i st >>= λ u st1. store (variable_at code x 0) u st1 >>= λ w. gives goes_on
  init_same (n.Items s es) x = items_same es x 0

  cleared_same : (x : ℕ) (st : State) → cleared_at code x st ≡ cleared_at (code_with code b) x st
  cleared_same x st = λ i. record st { memory = put st.memory (local code.context.frame.depth x) (cleared (h.sizes_are i) (type_at code.context.variables x)) }

  declared_same : (ds : List TypedDeclarator) → declared ds code ≡ declared ds (code_with code b)
  declared_same [] = refl
  declared_same (d ∷ ds) = λ i st. init_same d.init d.var.0 i (cleared_same d.var.0 st i) >>= λ flow. declared_same ds i

  tested_same : (o : Option ExprId) (body body' : State → Outcome Round) → body ≡ body' → tested o code body ≡ tested o (code_with code b) body'
  tested_same None body body' same = same
  tested_same (Some e) body body' same = λ i st. outer e i st >>= λ u. if is_true u then same i else gives (leaves goes_on)

  stepped_same : (first : Bool) (o : Option ExprId) (rest rest' : State → Outcome Round) → rest ≡ rest' → stepped_first first o code rest ≡ stepped_first first o (code_with code b) rest'
  stepped_same true o rest rest' same = same
  stepped_same false None rest rest' same = same
  stepped_same false (Some e) rest rest' same = λ i st. outer e i st >>= λ u. same i

  later_same : (first : Bool) (e : ExprId) (body body' : State → Outcome Round) → body ≡ body' → tested_later first e code body ≡ tested_later first e (code_with code b) body'
  later_same true e body body' same = same
  later_same false e body body' same = tested_same (Some e) body body' same

  begins_same : (o : TypedForInit) → for_begins o code ≡ for_begins o (code_with code b)
  begins_same f.Nothing = refl
  begins_same (f.Declare d) = declared_same d.declarators
  begins_same (f.Evaluate e) = λ i st. outer e i st >>= λ u. gives goes_on

mutual
  pub statement_same : (a : BodyTree) (code : Code) (b : List StructInfo) (h : SameTypes code.context.structs b) → statement a code ≡ statement a (code_with code b)
  statement_same (block s statements) code b h = all_same statements code b h
  statement_same (nothing s) code b h = refl
  statement_same (evaluate s e) code b h = λ i st. outer code b h e i st >>= λ u. gives goes_on
  statement_same (declare d) code b h = declared_same code b h d.declarators
  statement_same (choose s e x y) code b h = λ i st. outer code b h e i st >>= λ u. if is_true u then statement_same x code b h i else else_same y code b h i
  statement_same (while_true s e a) code b h =
      λ i st. looped st.left (λ first. tested_same code b h (Some e) (λ st1. statement a code st1 >>= body_round) (λ st1. statement a (code_with code b) st1 >>= body_round) (λ j st1. statement_same a code b h j st1 >>= body_round) i) true st
  statement_same (do_while s a e) code b h =
      λ i st. looped st.left (λ first. later_same code b h first e (λ st1. statement a code st1 >>= body_round) (λ st1. statement a (code_with code b) st1 >>= body_round) (λ j st1. statement_same a code b h j st1 >>= body_round) i) true st
  statement_same (for_each s begin test step a) code b h =
      λ i st. begins_same code b h begin i st >>= λ flow st1. looped st1.left (λ first.
      stepped_same code b h first step (tested test code (λ st2. statement a code st2 >>= body_round)) (tested test (code_with code b) (λ st2. statement a (code_with code b) st2 >>= body_round))
      (tested_same code b h test (λ st2. statement a code st2 >>= body_round) (λ st2. statement a (code_with code b) st2 >>= body_round) (λ j st2. statement_same a code b h j st2 >>= body_round)) i) true st1
  statement_same (give_back s None) code b h = refl
  statement_same (give_back s (Some e)) code b h = λ i st. outer code b h e i st >>= λ u. gives (returned u)
  statement_same (stop_loop s) code b h = refl
  statement_same (next_turn s) code b h = refl
  statement_same (switch s e ty sections) code b h =
      λ i st. outer code b h e i st >>= λ u st1. take_turn st1.left st1 (λ st2. sections_same sections (chosen sections (conv ty (number_of u))) code b h i st2 >>= past_switch)

  else_same : (a : ElseTree) (code : Code) (b : List StructInfo) (h : SameTypes code.context.structs b) → otherwise_of a code ≡ otherwise_of a (code_with code b)
  else_same no_else code b h = refl
  else_same (otherwise a) code b h = statement_same a code b h

  all_same : (xs : BodyTrees) (code : Code) (b : List StructInfo) (h : SameTypes code.context.structs b) → all_of xs code ≡ all_of xs (code_with code b)
  all_same no_bodies code b h = refl
  all_same (body_and s rest) code b h = λ i st. statement_same s code b h i st >>= after_flow (all_same rest code b h i)

  sections_same : (xs : SectionTrees) (skipped : ℕ) (code : Code) (b : List StructInfo) (h : SameTypes code.context.structs b) → sections_from xs skipped code ≡ sections_from xs skipped (code_with code b)
  sections_same no_sections skipped code b h = refl
  sections_same (section_and s rest) zero code b h = λ i st. section_same s code b h i st >>= after_flow (sections_same rest zero code b h i)
  sections_same (section_and s rest) (suc skipped) code b h = sections_same rest skipped code b h

  section_same : (x : SectionTree) (code : Code) (b : List StructInfo) (h : SameTypes code.context.structs b) → section_of x code ≡ section_of x (code_with code b)
  section_same (section s label statements) code b h = all_same statements code b h
