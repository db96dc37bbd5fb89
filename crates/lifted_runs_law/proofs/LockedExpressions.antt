-- Expressions go in step where calls do.
use Rattle.std.proofs.Common.{◌≡◌, sym, subst, ap, ℕ, Bool, List, [], ◌∷◌, Option, Result, Ok, Err, if◌then◌else◌, pos, refl}
use Rattle.pt_base.specs.declared.span.Span.{Span}
use Rattle.pt_base.specs.declared.trap.Trap.{Trap}
use Rattle.runs.specs.State.{Event, gives, ◌>>=◌}
use Rattle.typed_tree.specs.declared.types.StructInfo.{StructInfo}
use Rattle.typed_tree.specs.declared.types.VarTy.{VarTy}
use Rattle.typed_tree.specs.declared.types.VarTy.TheVariants.{Int, Struct, Array, Pointer}
use Rattle.typed_tree.specs.declared.link.LinkStep.{LinkStep}
use Rattle.typed_tree.specs.declared.link.LogicalOp.{LogicalOp}
use Rattle.typed_tree.specs.ExpressionTree as t
use Rattle.typed_tree.specs.ExpressionTree.{ExprTree, typed, FormTree, ExprTrees, no_exprs, expr_and, LinkTrees, no_links, link_and, link, OperandTrees, no_operands, operand_and, operand, PlaceTree, place, RootTree, StepTree, StepTrees, no_steps, step_and}
use Rattle.source_meaning.specs.Memory.{local, global, Cell, number, null, read}
use Rattle.source_meaning.specs.State.{State}
use Rattle.source_meaning.specs.Values.{Value, holds, nothing, cell_of, is_true, truth_value, converted, converted_cell, Location, moved_cell, number_of, unary_cell, stepped, unit_step}
use Rattle.source_meaning.specs.Expressions.{Frame, Calls, Context, sizes, or_trap, type_at, field_at, decayed, address_of, dereferenced, element_of, indexed, loaded, stored_in, store, compounded, cell_or_trap, step_gives, counted, is_decided, link_type, type_or_int, type_of, nowhere, value_of, form_value, values_of, links_value, link_value, operands_value, operand_value, location_of, root_location, assigned_location, form_location, steps_location, step_location}
use Rattle.lifted_runs_law.proofs.Locked.{Lock, lock_bind, lock_change, lock_either, lock_fit, lock_gives, lock_if, lock_read, lock_trapped}
use Rattle.lifted_runs_law.proofs.Objects.{same_dereferenced, same_field, same_loaded}

module _ (first : ℕ) (structs : List StructInfo) (globals variables : List VarTy) (frame : Frame) (calls calls' : Calls)
    (keep : (frame : Frame) (s : Span) (f : ℕ) (values : List Value) → Lock first (calls frame s f values) (calls' frame s f values)) where
  abbrev c : Context
  c = record { structs = structs; globals = globals; variables = variables; frame = frame; calls = calls }

  abbrev c' : Context
  c' = record { structs = structs; globals = globals; variables = variables; frame = frame; calls = calls' }

  -- ---- objects

  lock_or_trap : {A : Type 0} (s : Span) (r : Result A Trap) → Lock first (or_trap s r) (or_trap s r)
  lock_or_trap s (Ok a) = lock_gives first a
  lock_or_trap s (Err trap) = lock_trapped first trap s

  same_events : (at : Location) (ty : VarTy) (st : State) (es : List Event) → loaded c at ty (record st { events = es }) ≡ loaded c at ty st
  same_events at (Int t) st es = refl
  same_events at (Struct n) st es = refl
  same_events at (Array elem count) st es = refl
  same_events at (Pointer elem fixed) st es = refl

  lock_loaded : (at : Location) → Lock first (λ st. gives (loaded c at at.ty st) st) (λ st. gives (loaded c' at at.ty st) st)
  lock_loaded at =
      lock_fit first (λ st. gives (loaded c at at.ty st) st) (λ st. gives (loaded c at at.ty st) st) (λ st. gives (loaded c' at at.ty st) st) (λ st. ap (λ v. gives v st) (same_loaded first 0 c c' refl at at.ty st))
      (lock_read first (loaded c at at.ty) (λ v st. gives v st) (λ v st. gives v st) (same_events at at.ty) (lock_gives first))

  pub lock_store : (at : Location) (v : Value) → Lock first (store at v) (store at v)
  lock_store at v = lock_change first (λ st. record st { memory = stored_in st.memory at v }) (λ st. gives v st) (λ st. gives v st) (λ st es. refl) (λ st. refl) (lock_gives first v)

  lock_pointed : (s : Span) (ty : VarTy) (cell : Cell) → Lock first (or_trap s (dereferenced c ty cell)) (or_trap s (dereferenced c' ty cell))
  lock_pointed s ty cell = subst (λ r. Lock first (or_trap s (dereferenced c ty cell)) (or_trap s r)) (sym (same_dereferenced first 0 c c' refl ty cell)) (lock_or_trap s (dereferenced c ty cell))

  lock_field : (k : ℕ) (at : Location) → Lock first (λ st. gives (field_at c k at) st) (λ st. gives (field_at c' k at) st)
  lock_field k at = subst (λ x. Lock first (λ st. gives (field_at c k at) st) (λ st. gives x st)) (sym (same_field first 0 c c' refl k at)) (lock_gives first (field_at c k at))

  lock_indexed : (s : Span) (at : Location) (index : Value) → Lock first (indexed c s at index) (indexed c' s at index)
  lock_indexed s at index =
      lock_bind first (or_trap s (moved_cell (number_of index) (decayed at at.ty))) (or_trap s (moved_cell (number_of index) (decayed at at.ty)))
      (λ cell. or_trap s (dereferenced c (element_of at.ty) cell)) (λ cell. or_trap s (dereferenced c' (element_of at.ty) cell))
      (lock_or_trap s (moved_cell (number_of index) (decayed at at.ty))) (λ cell. lock_pointed s (element_of at.ty) cell)

  -- ---- operators

  lock_cell : (s : Span) (r : Result Cell Trap) → Lock first (cell_or_trap s r) (cell_or_trap s r)
  lock_cell s r = lock_bind first (or_trap s r) (or_trap s r) (λ cell. gives (holds cell)) (λ cell. gives (holds cell)) (lock_or_trap s r) (λ cell. lock_gives first (holds cell))

  lock_compounded : (s : Span) (at : Location) (op : LinkStep) (v : Value) → Lock first (compounded c s at op v) (compounded c' s at op v)
  lock_compounded s at op v =
      lock_read first (λ st. read st.memory at.block at.cell) (λ old st. or_trap s (stepped (sizes c) at.ty op old (cell_of v)) st >>= λ cell. store at (holds (converted_cell at.ty cell)))
      (λ old st. or_trap s (stepped (sizes c) at.ty op old (cell_of v)) st >>= λ cell. store at (holds (converted_cell at.ty cell))) (λ st es. refl)
      (λ old. lock_bind first (or_trap s (stepped (sizes c) at.ty op old (cell_of v))) (or_trap s (stepped (sizes c) at.ty op old (cell_of v))) (λ cell. store at (holds (converted_cell at.ty cell))) (λ cell. store at (holds (converted_cell at.ty cell)))
      (lock_or_trap s (stepped (sizes c) at.ty op old (cell_of v))) (λ cell. lock_store at (holds (converted_cell at.ty cell))))

  lock_counted : (s : Span) (back postfix : Bool) (at : Location) → Lock first (counted c s back postfix at) (counted c' s back postfix at)
  lock_counted s back postfix at =
      lock_fit first (counted c s back postfix at) (λ st. compounded c' s at (unit_step at.ty back) (holds (number (pos 1))) st >>= λ v. gives (step_gives postfix (loaded c at at.ty st) v)) (counted c' s back postfix at)
      (λ st. ap (λ old. compounded c' s at (unit_step at.ty back) (holds (number (pos 1))) st >>= λ v. gives (step_gives postfix old v)) (same_loaded first 0 c c' refl at at.ty st))
      (lock_read first (loaded c at at.ty) (λ old st. compounded c s at (unit_step at.ty back) (holds (number (pos 1))) st >>= λ v. gives (step_gives postfix old v))
      (λ old st. compounded c' s at (unit_step at.ty back) (holds (number (pos 1))) st >>= λ v. gives (step_gives postfix old v)) (same_events at at.ty)
      (λ old. lock_bind first (compounded c s at (unit_step at.ty back) (holds (number (pos 1)))) (compounded c' s at (unit_step at.ty back) (holds (number (pos 1))))
      (λ v. gives (step_gives postfix old v)) (λ v. gives (step_gives postfix old v)) (lock_compounded s at (unit_step at.ty back) (holds (number (pos 1)))) (λ v. lock_gives first (step_gives postfix old v))))

  -- ---- the forms

  mutual
    pub lock_value : (e : ExprTree) → Lock first (value_of e c) (value_of e c')
    lock_value (typed s ty form) = lock_form form s ty

    lock_form : (form : FormTree) (s : Span) (ty : Option VarTy) → Lock first (form_value form s ty c) (form_value form s ty c')
    lock_form (t.constant v) s ty = lock_gives first (holds (number v))
    lock_form t.null s ty = lock_gives first (holds null)
    lock_form (t.read p) s ty = lock_bind first (location_of p c) (location_of p c') (λ at st. gives (loaded c at at.ty st) st) (λ at st. gives (loaded c' at at.ty st) st) (lock_location p) (λ at. lock_loaded at)
    lock_form (t.decay p) s ty = lock_bind first (location_of p c) (location_of p c') (λ at. gives (holds (decayed at at.ty))) (λ at. gives (holds (decayed at at.ty))) (lock_location p) (λ at. lock_gives first (holds (decayed at at.ty)))
    lock_form (t.address p) s ty = lock_bind first (location_of p c) (location_of p c') (λ at. gives (holds (address_of at))) (λ at. gives (holds (address_of at))) (lock_location p) (λ at. lock_gives first (holds (address_of at)))
    lock_form (t.unary op a) s ty = lock_bind first (value_of a c) (value_of a c') (λ v. cell_or_trap s (unary_cell op (type_of a) (cell_of v))) (λ v. cell_or_trap s (unary_cell op (type_of a) (cell_of v))) (lock_value a) (λ v. lock_cell s (unary_cell op (type_of a) (cell_of v)))
    lock_form (t.convert a) s ty = lock_bind first (value_of a c) (value_of a c') (λ v. gives (converted (type_or_int ty) v)) (λ v. gives (converted (type_or_int ty) v)) (lock_value a) (λ v. lock_gives first (converted (type_or_int ty) v))
    lock_form (t.discard a) s ty = lock_bind first (value_of a c) (value_of a c') (λ v. gives nothing) (λ v. gives nothing) (lock_value a) (λ v. lock_gives first nothing)
    lock_form (t.chain a links) s ty = lock_bind first (value_of a c) (value_of a c') (λ v. links_value links (type_of a) v c) (λ v. links_value links (type_of a) v c') (lock_value a) (λ v. lock_links links (type_of a) v)
    lock_form (t.logical op a operands) s ty = lock_bind first (value_of a c) (value_of a c') (λ v. operands_value operands op (is_true v) c) (λ v. operands_value operands op (is_true v) c') (lock_value a) (λ v. lock_operands operands op (is_true v))
    lock_form (t.choice a b d) s ty = lock_bind first (value_of a c) (value_of a c') (λ v. if is_true v then value_of b c else value_of d c) (λ v. if is_true v then value_of b c' else value_of d c') (lock_value a) (λ v. lock_if first (is_true v) (value_of b c) (value_of d c) (value_of b c') (value_of d c') (lock_value b) (lock_value d))
    lock_form (t.assign p a) s ty = lock_bind first (location_of p c) (location_of p c') (λ at st. value_of a c st >>= store at) (λ at st. value_of a c' st >>= store at) (lock_location p) (λ at. lock_bind first (value_of a c) (value_of a c') (store at) (store at) (lock_value a) (lock_store at))
    lock_form (t.compound p left step a) s ty = lock_bind first (location_of p c) (location_of p c') (λ at st. value_of a c st >>= compounded c s at step) (λ at st. value_of a c' st >>= compounded c' s at step) (lock_location p) (λ at. lock_bind first (value_of a c) (value_of a c') (compounded c s at step) (compounded c' s at step) (lock_value a) (lock_compounded s at step))
    lock_form (t.step p left back postfix) s ty = lock_bind first (location_of p c) (location_of p c') (counted c s back postfix) (counted c' s back postfix) (lock_location p) (lock_counted s back postfix)
    lock_form (t.call f arguments) s ty = lock_bind first (values_of arguments c) (values_of arguments c') (calls frame s f.0) (calls' frame s f.0) (lock_values arguments) (keep frame s f.0)

    lock_values : (es : ExprTrees) → Lock first (values_of es c) (values_of es c')
    lock_values no_exprs = lock_gives first []
    lock_values (expr_and e rest) = lock_bind first (value_of e c) (value_of e c') (λ v st. values_of rest c st >>= λ vs. gives (v ∷ vs)) (λ v st. values_of rest c' st >>= λ vs. gives (v ∷ vs)) (lock_value e) (λ v. lock_bind first (values_of rest c) (values_of rest c') (λ vs. gives (v ∷ vs)) (λ vs. gives (v ∷ vs)) (lock_values rest) (λ vs. lock_gives first (v ∷ vs)))

    lock_links : (links : LinkTrees) (ty : VarTy) (v : Value) → Lock first (links_value links ty v c) (links_value links ty v c')
    lock_links no_links ty v = lock_gives first v
    lock_links (link_and l rest) ty v = lock_bind first (link_value l ty v c) (link_value l ty v c') (λ w. links_value rest (link_type l) w c) (λ w. links_value rest (link_type l) w c') (lock_link l ty v) (λ w. lock_links rest (link_type l) w)

    lock_link : (l : t.LinkTree) (ty : VarTy) (v : Value) → Lock first (link_value l ty v c) (link_value l ty v c')
    lock_link (link s to step e) ty v = lock_bind first (value_of e c) (value_of e c') (λ w. cell_or_trap s (stepped (sizes c) ty step (cell_of v) (cell_of w))) (λ w. cell_or_trap s (stepped (sizes c') ty step (cell_of v) (cell_of w))) (lock_value e) (λ w. lock_cell s (stepped (sizes c) ty step (cell_of v) (cell_of w)))

    lock_operands : (operands : OperandTrees) (op : LogicalOp) (b : Bool) → Lock first (operands_value operands op b c) (operands_value operands op b c')
    lock_operands no_operands op b = lock_gives first (truth_value b)
    lock_operands (operand_and o rest) op b = lock_either first (is_decided op b) (λ st. gives (truth_value b) st) (λ st. operand_value o c st >>= λ v. operands_value rest op (is_true v) c) (λ st. gives (truth_value b) st) (λ st. operand_value o c' st >>= λ v. operands_value rest op (is_true v) c') (lock_gives first (truth_value b)) (lock_bind first (operand_value o c) (operand_value o c') (λ v. operands_value rest op (is_true v) c) (λ v. operands_value rest op (is_true v) c') (lock_operand o) (λ v. lock_operands rest op (is_true v)))

    lock_operand : (o : t.OperandTree) → Lock first (operand_value o c) (operand_value o c')
    lock_operand (operand s e) = lock_value e

    lock_location : (p : PlaceTree) → Lock first (location_of p c) (location_of p c')
    lock_location (place root steps) = lock_bind first (root_location root c) (root_location root c') (λ at. steps_location steps at c) (λ at. steps_location steps at c') (lock_root root) (λ at. lock_steps steps at)

    lock_root : (root : RootTree) → Lock first (root_location root c) (root_location root c')
    lock_root (t.local v) = lock_gives first (record { block = local c.frame.depth v.0; cell = 0; ty = type_at c.variables v.0 })
    lock_root (t.global g) = lock_gives first (record { block = global g.0; cell = 0; ty = type_at c.globals g.0 })
    lock_root (t.deref e s) = lock_bind first (value_of e c) (value_of e c') (λ v. or_trap s (dereferenced c (type_of e) (cell_of v))) (λ v. or_trap s (dereferenced c' (type_of e) (cell_of v))) (lock_value e) (λ v. lock_pointed s (type_of e) (cell_of v))
    lock_root (t.assigned e) = lock_assigned e

    lock_assigned : (e : ExprTree) → Lock first (assigned_location e c) (assigned_location e c')
    lock_assigned (typed s ty form) = lock_form_location form

    lock_form_location : (form : FormTree) → Lock first (form_location form c) (form_location form c')
    lock_form_location (t.assign p a) = lock_bind first (location_of p c) (location_of p c') (λ at st. value_of a c st >>= λ v st2. store at v st2 >>= λ w. gives at) (λ at st. value_of a c' st >>= λ v st2. store at v st2 >>= λ w. gives at) (lock_location p) (λ at. lock_bind first (value_of a c) (value_of a c') (λ v st2. store at v st2 >>= λ w. gives at) (λ v st2. store at v st2 >>= λ w. gives at) (lock_value a) (λ v. lock_bind first (store at v) (store at v) (λ w. gives at) (λ w. gives at) (lock_store at v) (λ w. lock_gives first at)))
    lock_form_location form = lock_gives first nowhere

    lock_steps : (steps : StepTrees) (at : Location) → Lock first (steps_location steps at c) (steps_location steps at c')
    lock_steps no_steps at = lock_gives first at
    lock_steps (step_and step rest) at = lock_bind first (step_location step at c) (step_location step at c') (λ next. steps_location rest next c) (λ next. steps_location rest next c') (lock_step step at) (λ next. lock_steps rest next)

    lock_step : (step : StepTree) (at : Location) → Lock first (step_location step at c) (step_location step at c')
    lock_step (t.field n) at = lock_field n at
    lock_step (t.item e s) at = lock_bind first (value_of e c) (value_of e c') (indexed c s at) (indexed c' s at) (lock_value e) (lock_indexed s at)
