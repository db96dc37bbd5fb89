-- Objects and their slots, one behind the other.
use Rattle.std.proofs.Common.{◌≡◌, ◌∙◌, ℕ, zero, suc, ◌+◌, ◌<◌, refl, ap, sym, subst, arith, List, [], ◌∷◌, ◌++◌, length, length-append, map, append_assoc, drop, drop-cons, add-one}
use Rattle.std.specs.Prelude.{slice_get, get_or}
use Rattle.std.specs.Option.{option_map_or}
use Rattle.std.proofs.lemmas.List.{length-map}
use Rattle.typed_tree.specs.declared.types.VarTy.{VarTy}
use Rattle.typed_tree.specs.declared.types.StructInfo.{StructInfo}
use Rattle.typed_tree.specs.declared.variable.Var.{Var}
use Rattle.typed_tree.specs.declared.variable.TypedGlobal.{TypedGlobal}
use Rattle.typed_tree.specs.TypedTree.{FunctionTree, TypedTree}
use Rattle.sides.specs.declared.objects.Object.{Object}
use Rattle.sides.specs.declared.slots.Owner.{Owner}
use Rattle.sides.specs.declared.slots.Owner.TheVariants.{Variable, Global}
use Rattle.sides.specs.declared.slots.SlotInfo.{SlotInfo}
use Rattle.sides.specs.declared.layout.Layout.{Layout}
use Rattle.sides.specs.Layouts.{functions_objects, function_objects, IsLayout}
use Rattle.sides.specs.LeafTables.{IsLeafTable}
use Rattle.sides.specs.Leaves.{leaves_of, leaf_count}
use Rattle.sides.specs.Objects.{types_count, objects_from, variable_types, function_starts_from, functions_count, variable_objects, global_types, result_start}
use Rattle.sides.specs.Slots.{slot_of, globals_slots, variables_slots, functions_slots, results_slots, slots_of}

-- ---- how many slots there are

pub globals_long : (structs : List StructInfo) (k : ℕ) (gs : List TypedGlobal) → length (globals_slots structs k gs) ≡ types_count (leaf_count structs) (map (λ g. g.var.ty) gs)
globals_long structs k [] = refl
globals_long structs k (g ∷ gs) =
    let joined = length-append (map (slot_of (Global (record { 0 = k }))) (leaves_of structs g.var.ty)) (globals_slots structs (suc k) gs) in
    let first = length-map (leaves_of structs g.var.ty) (slot_of (Global (record { 0 = k }))) in
    let rest = globals_long structs (suc k) gs in
    omega (arith, joined, first, rest)

pub variables_long : (structs : List StructInfo) (f k : ℕ) (xs : List Var) → length (variables_slots structs f k xs) ≡ types_count (leaf_count structs) (map (λ x. x.ty) xs)
variables_long structs f k [] = refl
variables_long structs f k (x ∷ xs) =
    let joined = length-append (map (slot_of (Variable (record { 0 = f }) (record { 0 = k }))) (leaves_of structs x.ty)) (variables_slots structs f (suc k) xs) in
    let first = length-map (leaves_of structs x.ty) (slot_of (Variable (record { 0 = f }) (record { 0 = k }))) in
    let rest = variables_long structs f (suc k) xs in
    omega (arith, joined, first, rest)

pub functions_long : (structs : List StructInfo) (k : ℕ) (fs : List FunctionTree) → length (functions_slots structs k fs) ≡ functions_count (leaf_count structs) fs
functions_long structs k [] = refl
functions_long structs k (f ∷ fs) =
    let joined = length-append (variables_slots structs k 0 f.vars) (functions_slots structs (suc k) fs) in
    let first = variables_long structs k 0 f.vars in
    let rest = functions_long structs (suc k) fs in
    omega (arith, joined, first, rest)

-- ---- one more

-- after one more object and its slots
pub object_on : (structs : List StructInfo) (owner : Owner) (ty : VarTy) (tys : List VarTy) (o : Object) (os os' all : List Object) (s s' : List SlotInfo) →
    o ≡ record { ty = ty; start = length s } → os' ≡ os ++ o ∷ [] → s' ≡ s ++ map (slot_of owner) (leaves_of structs ty) →
    os ++ objects_from (leaf_count structs) (length s) (ty ∷ tys) ≡ all → os' ++ objects_from (leaf_count structs) (length s') tys ≡ all
object_on structs owner ty tys o os os' all s s' is push e h =
    let long : length s' ≡ length s + leaf_count structs ty = ap length e ∙ length-append s (map (slot_of owner) (leaves_of structs ty)) ∙ ap (λ n. length s + n) (length-map (leaves_of structs ty) (slot_of owner)) in
    ap (λ xs. xs ++ objects_from (leaf_count structs) (length s') tys) push
    ∙ ap (λ n. (os ++ o ∷ []) ++ objects_from (leaf_count structs) n tys) long
    ∙ append_assoc os (o ∷ []) (objects_from (leaf_count structs) (length s + leaf_count structs ty) tys)
    ∙ ap (λ x. os ++ (x ∷ objects_from (leaf_count structs) (length s + leaf_count structs ty) tys)) is
    ∙ h

-- after the variables of one more function and their slots
pub function_on : (structs : List StructInfo) (k : ℕ) (f : FunctionTree) (fs : List FunctionTree) (own : List Object) (os os' all : List (List Object)) (s s' : List SlotInfo) →
    own ≡ objects_from (leaf_count structs) (length s) (variable_types f) → os' ≡ os ++ own ∷ [] → s' ≡ s ++ variables_slots structs k 0 f.vars →
    os ++ functions_objects (leaf_count structs) (length s) (f ∷ fs) ≡ all → os' ++ functions_objects (leaf_count structs) (length s') fs ≡ all
function_on structs k f fs own os os' all s s' is push e h =
    let long : length s' ≡ length s + types_count (leaf_count structs) (variable_types f) = ap length e ∙ length-append s (variables_slots structs k 0 f.vars) ∙ ap (λ n. length s + n) (variables_long structs k 0 f.vars) in
    ap (λ xs. xs ++ functions_objects (leaf_count structs) (length s') fs) push
    ∙ ap (λ n. (os ++ own ∷ []) ++ functions_objects (leaf_count structs) n fs) long
    ∙ append_assoc os (own ∷ []) (functions_objects (leaf_count structs) (length s + types_count (leaf_count structs) (variable_types f)) fs)
    ∙ ap (λ x. os ++ (x ∷ functions_objects (leaf_count structs) (length s + types_count (leaf_count structs) (variable_types f)) fs)) is
    ∙ h

-- ---- by number

pub objects_at : (count : VarTy → ℕ) (start : ℕ) (fs : List FunctionTree) (f : ℕ) →
    get_or (functions_objects count start fs) f [] ≡ objects_from count (get_or (function_starts_from count start fs) f 0) (option_map_or variable_types (slice_get fs f) [])
objects_at count start [] f = refl
objects_at count start (x ∷ xs) zero = refl
objects_at count start (x ∷ xs) (suc f) = objects_at count (start + types_count count (variable_types x)) xs f

pub variables_at : (t : TypedTree) (f : ℕ) → get_or (function_objects t) f [] ≡ variable_objects t f
variables_at t f = objects_at (leaf_count t.structs) (types_count (leaf_count t.structs) (global_types t)) t.functions f

-- ---- a whole layout

-- what was laid out in steps, from no slots on
pub record Steps (t : TypedTree) (structs : List StructInfo) (gs : List TypedGlobal) (fs : List FunctionTree) (s0 s1 s2 : List SlotInfo) : Type 0 where
  pub structs_are : structs ≡ t.structs
  pub globals_are : gs ≡ t.globals
  pub functions_are : fs ≡ t.functions
  pub none : s0 ≡ []
  pub first : s1 ≡ s0 ++ globals_slots structs 0 gs
  pub second : s2 ≡ s1 ++ functions_slots structs 0 fs

module _ (t : TypedTree) (structs : List StructInfo) (gs : List TypedGlobal) (fs : List FunctionTree) (s0 s1 s2 : List SlotInfo) (steps : Steps t structs gs fs s0 s1 s2) where
  long_globals : length s1 ≡ types_count (leaf_count t.structs) (global_types t)
  long_globals = ap length steps.first ∙ (λ i. length (steps.none i ++ globals_slots (steps.structs_are i) 0 (steps.globals_are i))) ∙ globals_long t.structs 0 t.globals

  long_functions : length s2 ≡ result_start t
  long_functions =
      ap length steps.second ∙ length-append s1 (functions_slots structs 0 fs) ∙ (λ i. long_globals i + length (functions_slots (steps.structs_are i) 0 (steps.functions_are i)))
      ∙ ap (λ n. types_count (leaf_count t.structs) (global_types t) + n) (functions_long t.structs 0 t.functions)

  pub layout_is : (l : Layout) → IsLeafTable structs l.table → l.globals.items ≡ objects_from (leaf_count structs) (length s0) (map (λ g. g.var.ty) gs) →
      l.variables.items ≡ functions_objects (leaf_count structs) (length s1) fs → l.results ≡ length s2 → IsLayout t l
  layout_is l table globals variables results = record {
    table = subst (λ ss. IsLeafTable ss l.table) steps.structs_are table;
    globals = globals ∙ (λ i. objects_from (leaf_count (steps.structs_are i)) (length (steps.none i)) (map (λ g. g.var.ty) (steps.globals_are i)));
    variables = variables ∙ (λ i. functions_objects (leaf_count (steps.structs_are i)) (long_globals i) (steps.functions_are i));
    results = results ∙ long_functions;
  }

  pub slots_are : (s3 : List SlotInfo) → s3 ≡ s2 ++ results_slots 0 fs → s3 ≡ slots_of t
  unfolding slots_of
  slots_are s3 third =
      third
      ∙ ap (λ xs. xs ++ results_slots 0 fs) (steps.second ∙ ap (λ xs. xs ++ functions_slots structs 0 fs) steps.first)
      ∙ (λ i. ((steps.none i ++ globals_slots (steps.structs_are i) 0 (steps.globals_are i)) ++ functions_slots (steps.structs_are i) 0 (steps.functions_are i)) ++ results_slots 0 (steps.functions_are i))
      ∙ append_assoc (globals_slots t.structs 0 t.globals) (functions_slots t.structs 0 t.functions) (results_slots 0 t.functions)
