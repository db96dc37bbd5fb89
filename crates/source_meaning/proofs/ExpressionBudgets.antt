-- Expressions keep their budget where calls do.
use Rattle.std.proofs.Common.{◌≡◌, ℕ, Bool, List, [], ◌∷◌, Option, Result, Ok, Err, if◌then◌else◌, pos, refl}
use Rattle.pt_base.specs.declared.span.Span.{Span}
use Rattle.pt_base.specs.declared.trap.Trap.{Trap}
use Rattle.runs.specs.State.{gives, ◌>>=◌}
use Rattle.typed_tree.specs.declared.types.VarTy.{VarTy}
use Rattle.typed_tree.specs.declared.types.VarTy.TheVariants.{Int, Struct, Array, Pointer}
use Rattle.typed_tree.specs.declared.link.LinkStep.{LinkStep}
use Rattle.typed_tree.specs.declared.link.LogicalOp.{LogicalOp}
use Rattle.typed_tree.specs.ExpressionTree as t
use Rattle.typed_tree.specs.ExpressionTree.{ExprTree, typed, FormTree, ExprTrees, no_exprs, expr_and, LinkTrees, no_links, link_and, link, OperandTrees, no_operands, operand_and, operand, PlaceTree, place, RootTree, StepTree, StepTrees, no_steps, step_and}
use Rattle.source_meaning.specs.Memory.{local, global, Cell, number, null, read}
use Rattle.source_meaning.specs.State.{State}
use Rattle.source_meaning.specs.Values.{Value, holds, nothing, cell_of, is_true, truth_value, converted, converted_cell, Location, moved_cell, number_of, unary_cell, stepped, unit_step}
use Rattle.source_meaning.specs.Expressions.{Frame, Calls, Context, sizes, or_trap, type_at, field_at, decayed, address_of, dereferenced, element_of, indexed, loaded, stored_in, store, compounded, cell_or_trap, step_gives, counted, is_decided, link_type, type_or_int, type_of, nowhere, value_of, form_value, values_of, links_value, link_value, operands_value, operand_value, location_of, root_location, assigned_location, form_location, steps_location, step_location}
use Rattle.source_meaning.proofs.Budgets.{longer, Keeps, keeps_bind, keeps_gives, keeps_trapped, keeps_read, keeps_memory, keeps_if, keeps_either}

pub record CallsKeep (calls : Calls) : Type 0 where
  pub each : (frame : Frame) (s : Span) (f : ℕ) (values : List Value) → Keeps (calls frame s f values)

-- ---- objects

keeps_or_trap : {A : Type 0} (s : Span) (r : Result A Trap) → Keeps (or_trap s r)
keeps_or_trap s (Ok a) = keeps_gives a
keeps_or_trap s (Err trap) = keeps_trapped trap s

same_loaded : (c : Context) (at : Location) (ty : VarTy) (d : ℕ) (st : State) → loaded c at ty (longer d st) ≡ loaded c at ty st
same_loaded c at (Int t) d st = refl
same_loaded c at (Struct n) d st = refl
same_loaded c at (Array elem count) d st = refl
same_loaded c at (Pointer elem fixed) d st = refl

keeps_loaded : (c : Context) (at : Location) → Keeps (λ st. gives (loaded c at at.ty st) st)
keeps_loaded c at = keeps_read (loaded c at at.ty) (λ v st. gives v st) (same_loaded c at at.ty) keeps_gives

pub keeps_store : (at : Location) (v : Value) → Keeps (store at v)
keeps_store at v = keeps_memory (λ memory. stored_in memory at v) (λ st. gives v st) (keeps_gives v)

keeps_indexed : (c : Context) (s : Span) (at : Location) (index : Value) → Keeps (indexed c s at index)
keeps_indexed c s at index =
    keeps_bind (or_trap s (moved_cell (number_of index) (decayed at at.ty))) (λ cell. or_trap s (dereferenced c (element_of at.ty) cell)) (keeps_or_trap s (moved_cell (number_of index) (decayed at at.ty))) (λ cell. keeps_or_trap s (dereferenced c (element_of at.ty) cell))

-- ---- operators

keeps_cell : (s : Span) (r : Result Cell Trap) → Keeps (cell_or_trap s r)
keeps_cell s r = keeps_bind (or_trap s r) (λ cell. gives (holds cell)) (keeps_or_trap s r) (λ cell. keeps_gives (holds cell))

keeps_compounded : (c : Context) (s : Span) (at : Location) (step : LinkStep) (v : Value) → Keeps (compounded c s at step v)
keeps_compounded c s at step v =
    keeps_read (λ st. read st.memory at.block at.cell) (λ old st. or_trap s (stepped (sizes c) at.ty step old (cell_of v)) st >>= λ cell. store at (holds (converted_cell at.ty cell))) (λ d st. refl)
    (λ old. keeps_bind (or_trap s (stepped (sizes c) at.ty step old (cell_of v))) (λ cell. store at (holds (converted_cell at.ty cell)))
    (keeps_or_trap s (stepped (sizes c) at.ty step old (cell_of v))) (λ cell. keeps_store at (holds (converted_cell at.ty cell))))

keeps_counted : (c : Context) (s : Span) (back postfix : Bool) (at : Location) → Keeps (counted c s back postfix at)
keeps_counted c s back postfix at =
    keeps_read (loaded c at at.ty) (λ old st. compounded c s at (unit_step at.ty back) (holds (number (pos 1))) st >>= λ v. gives (step_gives postfix old v)) (same_loaded c at at.ty)
    (λ old. keeps_bind (compounded c s at (unit_step at.ty back) (holds (number (pos 1)))) (λ v. gives (step_gives postfix old v))
    (keeps_compounded c s at (unit_step at.ty back) (holds (number (pos 1)))) (λ v. keeps_gives (step_gives postfix old v)))

-- ---- the forms

mutual
  pub keeps_value : (e : ExprTree) (c : Context) → CallsKeep c.calls → Keeps (value_of e c)
  keeps_value (typed s ty form) c k = keeps_form form s ty c k

  keeps_form : (form : FormTree) (s : Span) (ty : Option VarTy) (c : Context) → CallsKeep c.calls → Keeps (form_value form s ty c)
  keeps_form (t.constant v) s ty c k = keeps_gives (holds (number v))
  keeps_form t.null s ty c k = keeps_gives (holds null)
  keeps_form (t.read p) s ty c k = keeps_bind (location_of p c) (λ at st. gives (loaded c at at.ty st) st) (keeps_location p c k) (λ at. keeps_loaded c at)
  keeps_form (t.decay p) s ty c k = keeps_bind (location_of p c) (λ at. gives (holds (decayed at at.ty))) (keeps_location p c k) (λ at. keeps_gives (holds (decayed at at.ty)))
  keeps_form (t.address p) s ty c k = keeps_bind (location_of p c) (λ at. gives (holds (address_of at))) (keeps_location p c k) (λ at. keeps_gives (holds (address_of at)))
  keeps_form (t.unary op a) s ty c k =
      keeps_bind (value_of a c) (λ v. cell_or_trap s (unary_cell op (type_of a) (cell_of v))) (keeps_value a c k) (λ v. keeps_cell s (unary_cell op (type_of a) (cell_of v)))
  keeps_form (t.convert a) s ty c k = keeps_bind (value_of a c) (λ v. gives (converted (type_or_int ty) v)) (keeps_value a c k) (λ v. keeps_gives (converted (type_or_int ty) v))
  keeps_form (t.discard a) s ty c k = keeps_bind (value_of a c) (λ v. gives nothing) (keeps_value a c k) (λ v. keeps_gives nothing)
  keeps_form (t.chain a links) s ty c k = keeps_bind (value_of a c) (λ v. links_value links (type_of a) v c) (keeps_value a c k) (λ v. keeps_links links (type_of a) v c k)
  keeps_form (t.logical op a operands) s ty c k =
      keeps_bind (value_of a c) (λ v. operands_value operands op (is_true v) c) (keeps_value a c k) (λ v. keeps_operands operands op (is_true v) c k)
  keeps_form (t.choice a b d) s ty c k =
      keeps_bind (value_of a c) (λ v. if is_true v then value_of b c else value_of d c) (keeps_value a c k) (λ v. keeps_if (is_true v) (value_of b c) (value_of d c) (keeps_value b c k) (keeps_value d c k))
  keeps_form (t.assign p a) s ty c k =
      keeps_bind (location_of p c) (λ at st. value_of a c st >>= store at) (keeps_location p c k) (λ at. keeps_bind (value_of a c) (store at) (keeps_value a c k) (keeps_store at))
  keeps_form (t.compound p left step a) s ty c k =
      keeps_bind (location_of p c) (λ at st. value_of a c st >>= compounded c s at step) (keeps_location p c k) (λ at. keeps_bind (value_of a c) (compounded c s at step) (keeps_value a c k) (keeps_compounded c s at step))
  keeps_form (t.step p left back postfix) s ty c k = keeps_bind (location_of p c) (counted c s back postfix) (keeps_location p c k) (keeps_counted c s back postfix)
  keeps_form (t.call f arguments) s ty c k = keeps_bind (values_of arguments c) (c.calls c.frame s f.0) (keeps_values arguments c k) (k.each c.frame s f.0)

  keeps_values : (es : ExprTrees) (c : Context) → CallsKeep c.calls → Keeps (values_of es c)
  keeps_values no_exprs c k = keeps_gives []
  keeps_values (expr_and e rest) c k =
      keeps_bind (value_of e c) (λ v st. values_of rest c st >>= λ vs. gives (v ∷ vs)) (keeps_value e c k) (λ v. keeps_bind (values_of rest c) (λ vs. gives (v ∷ vs)) (keeps_values rest c k) (λ vs. keeps_gives (v ∷ vs)))

  keeps_links : (links : LinkTrees) (ty : VarTy) (v : Value) (c : Context) → CallsKeep c.calls → Keeps (links_value links ty v c)
  keeps_links no_links ty v c k = keeps_gives v
  keeps_links (link_and l rest) ty v c k = keeps_bind (link_value l ty v c) (λ w. links_value rest (link_type l) w c) (keeps_link l ty v c k) (λ w. keeps_links rest (link_type l) w c k)

  keeps_link : (l : t.LinkTree) (ty : VarTy) (v : Value) (c : Context) → CallsKeep c.calls → Keeps (link_value l ty v c)
  keeps_link (link s to step e) ty v c k =
      keeps_bind (value_of e c) (λ w. cell_or_trap s (stepped (sizes c) ty step (cell_of v) (cell_of w))) (keeps_value e c k) (λ w. keeps_cell s (stepped (sizes c) ty step (cell_of v) (cell_of w)))

  keeps_operands : (operands : OperandTrees) (op : LogicalOp) (b : Bool) (c : Context) → CallsKeep c.calls → Keeps (operands_value operands op b c)
  keeps_operands no_operands op b c k = keeps_gives (truth_value b)
  keeps_operands (operand_and o rest) op b c k =
      keeps_either (is_decided op b) (λ st. gives (truth_value b) st) (λ st. operand_value o c st >>= λ v. operands_value rest op (is_true v) c) (keeps_gives (truth_value b))
      (keeps_bind (operand_value o c) (λ v. operands_value rest op (is_true v) c) (keeps_operand o c k) (λ v. keeps_operands rest op (is_true v) c k))

  keeps_operand : (o : t.OperandTree) (c : Context) → CallsKeep c.calls → Keeps (operand_value o c)
  keeps_operand (operand s e) c k = keeps_value e c k

  keeps_location : (p : PlaceTree) (c : Context) → CallsKeep c.calls → Keeps (location_of p c)
  keeps_location (place root steps) c k = keeps_bind (root_location root c) (λ at. steps_location steps at c) (keeps_root root c k) (λ at. keeps_steps steps at c k)

  keeps_root : (root : RootTree) (c : Context) → CallsKeep c.calls → Keeps (root_location root c)
  keeps_root (t.local v) c k = keeps_gives (record { block = local c.frame.depth v.0; cell = 0; ty = type_at c.variables v.0 })
  keeps_root (t.global g) c k = keeps_gives (record { block = global g.0; cell = 0; ty = type_at c.globals g.0 })
  keeps_root (t.deref e s) c k = keeps_bind (value_of e c) (λ v. or_trap s (dereferenced c (type_of e) (cell_of v))) (keeps_value e c k) (λ v. keeps_or_trap s (dereferenced c (type_of e) (cell_of v)))
  keeps_root (t.assigned e) c k = keeps_assigned e c k

  keeps_assigned : (e : ExprTree) (c : Context) → CallsKeep c.calls → Keeps (assigned_location e c)
  keeps_assigned (typed s ty form) c k = keeps_form_location form c k

  keeps_form_location : (form : FormTree) (c : Context) → CallsKeep c.calls → Keeps (form_location form c)
  keeps_form_location (t.assign p a) c k =
      keeps_bind (location_of p c) (λ at st. value_of a c st >>= λ v st2. store at v st2 >>= λ w. gives at) (keeps_location p c k)
      (λ at. keeps_bind (value_of a c) (λ v st2. store at v st2 >>= λ w. gives at) (keeps_value a c k) (λ v. keeps_bind (store at v) (λ w. gives at) (keeps_store at v) (λ w. keeps_gives at)))
  keeps_form_location form c k = keeps_gives nowhere

  keeps_steps : (steps : StepTrees) (at : Location) (c : Context) → CallsKeep c.calls → Keeps (steps_location steps at c)
  keeps_steps no_steps at c k = keeps_gives at
  keeps_steps (step_and step rest) at c k = keeps_bind (step_location step at c) (λ next. steps_location rest next c) (keeps_step step at c k) (λ next. keeps_steps rest next c k)

  keeps_step : (step : StepTree) (at : Location) (c : Context) → CallsKeep c.calls → Keeps (step_location step at c)
  keeps_step (t.field n) at c k = keeps_gives (field_at c n at)
  keeps_step (t.item e s) at c k = keeps_bind (value_of e c) (indexed c s at) (keeps_value e c k) (keeps_indexed c s at)
