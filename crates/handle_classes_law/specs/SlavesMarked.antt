-- The classes that an accepted program's marks give: of each variable, global, parameter and result of the
-- slave's program.
use Rattle.std.specs.Prelude.{ℕ, ◌+◌, ◌-◌, Bool, false, not, ◌&&◌, ◌||◌, List, [], ◌∷◌, Option, Some, None, slice_get, get_or, nat_lt, length, is_none, if◌then◌else◌}
use Rattle.std.specs.Option.{option_map_or}
use Rattle.pt_base.specs.declared.int_type.IntType.TheVariants as i
use Rattle.pt_tree.specs.declared.signature.Param.{Param}
use Rattle.typed_tree.specs.declared.types.VarTy.{VarTy}
use Rattle.typed_tree.specs.declared.types.VarTy.TheVariants.{Int}
use Rattle.typed_tree.specs.declared.types.StructInfo.{StructInfo}
use Rattle.typed_tree.specs.ExpressionTree as t
use Rattle.pt_core.specs.Types.{pointee_type}
use Rattle.typed_tree.specs.WellFormedExpression.{is_main, param_type}
use Rattle.typed_tree.specs.TypedTree.{TypedTree, FunctionTree}
use Rattle.source_meaning.specs.Expressions.{type_of}
use Rattle.sides.specs.declared.objects.Object.{Object}
use Rattle.reach.specs.Contexts.{is_plain}
use Rattle.sides.specs.Leaves.{leaves_of, whole}
use Rattle.sides.specs.Objects.{global_objects, variable_objects, result_start}
use Rattle.sides.specs.Carried as carried
use Rattle.sides.specs.Carried.{carried, scope_of}
use Rattle.sides.specs.Seeds.{gives_back, is_sealed_leaf}
use Rattle.lowering.specs.Lowered.{Temp}
use Rattle.lowering.specs.Functions.{lowered_body}
use Rattle.handle_classes.specs.Classes.{Class, World, integer_class}
use Rattle.handle_classes_law.specs.ObjectsCells.{is_pointer, leaf_under, class_at}

abbrev pub Marks : Type 0
Marks = ℕ → Bool

-- An integer in a temporary may be a handle where one that it may come from is marked, and then a handle may
-- be written there: `c ? a : b` of a marked and an unmarked variable. A pointer's class is the expression's.
abbrev pub kept_class : Class → Class
kept_class c = if c.pointer then c else record c { must = c.may }

-- an integer that no code names: no handle, and none may be written there
abbrev pub nothing_class : Marks → List StructInfo → VarTy → Class
nothing_class m structs ty = kept_class (class_at m structs ty [])

-- an object of an owner's, by its slots; one that isn't there is an integer that is no handle
abbrev pub object_class : Marks → List StructInfo → Option Object → Class
object_class m structs None = nothing_class m structs (Int i.Int)
object_class m structs (Some x) = class_at m structs x.ty (x.start ∷ [])

-- the class of a typed expression's value, in this scope
abbrev pub class_by : Marks → carried.Scope → t.ExprTree → Class
class_by m c e = class_at m c.structs (type_of e) (carried c e)

-- a temporary, by the expression that it holds; one that counts holds a number
abbrev pub held_class : Marks → carried.Scope → Temp → Class
held_class m c x = option_map_or (λ e. kept_class (class_by m c e)) x.holds (nothing_class m c.structs x.ty)

abbrev pub temps_of : TypedTree → FunctionTree → List Temp
temps_of t f = option_map_or (λ body. (lowered_body t f body).temps) f.body []

-- the variable v of the function f: its own, or a temporary behind those
abbrev pub variable_in : Marks → TypedTree → ℕ → FunctionTree → ℕ → Class
variable_in m t n f v =
    if nat_lt v (length f.vars) then object_class m t.structs (slice_get (variable_objects t n) v)
    else option_map_or (held_class m (scope_of t n)) (slice_get (temps_of t f) (v - length f.vars)) (nothing_class m t.structs (Int i.Int))

abbrev pub variable_class : Marks → TypedTree → ℕ → ℕ → Class
variable_class m t n v = option_map_or (λ f. variable_in m t n f v) (slice_get t.functions n) (nothing_class m t.structs (Int i.Int))

-- a global is no pointer
abbrev pub global_class : Marks → TypedTree → ℕ → Class
global_class m t g = record (object_class m t.structs (slice_get (global_objects t) g)) { pointer = false }

-- ---- results

-- main's result is the exit status
abbrev pub may_give : Marks → TypedTree → ℕ → Bool
may_give m t f = not (option_map_or (λ x. is_main x.signature) (slice_get t.functions f) false) && m (result_start t + f)

-- ---- parameters

-- Of a privileged function: what goes in, by the mark of the parameter or of the field under which it lies;
-- what comes back sealed needs a cell for handles.
abbrev pub entry_by : TypedTree → ℕ → ℕ → Bool → VarTy → Class
entry_by t g n marked ty = record (class_at (λ s. false) t.structs ty []) {
  may = λ j. marked || (is_pointer ty && (get_or (leaves_of t.structs ty) (leaf_under t.structs (pointee_type ty) j) whole).marked);
  must = λ j. is_pointer ty && (gives_back (slice_get t.functions g) n && option_map_or (λ x. is_sealed_leaf t (record { 0 = g }) n x (leaf_under t.structs (pointee_type ty) j)) (slice_get (variable_objects t g) n) false);
}

abbrev pub entry_class : TypedTree → ℕ → ℕ → Param → Class
entry_class t g n p = entry_by t g n p.marked (param_type p.kind)

-- Of a host that isn't privileged: nothing for an unmarked parameter; for a marked one what its result may be,
-- or anything where nothing comes back. Such a host takes no pointers.
abbrev pub host_class : Marks → TypedTree → ℕ → FunctionTree → ℕ → Param → Class
host_class m t g f n p = integer_class (p.marked && (is_none f.signature.result || m (result_start t + g)))

abbrev pub param_in : Marks → TypedTree → ℕ → FunctionTree → ℕ → Class
param_in m t g f n =
    if is_plain f then variable_class m t g n
    else option_map_or (λ p. if f.signature.privileged then entry_class t g n p else host_class m t g f n p) (slice_get f.signature.params n) (integer_class false)

abbrev pub param_class : Marks → TypedTree → ℕ → ℕ → Class
param_class m t g n = option_map_or (λ f. param_in m t g f n) (slice_get t.functions g) (integer_class false)

-- ---- all of them

abbrev pub slave_world : Marks → TypedTree → World
slave_world m t = record {
  variable = variable_class m t;
  global = global_class m t;
  received = λ n. record (class_at m t.structs (Int i.Int) []) { size = 0; must = λ j. false };
  param = param_class m t;
  result = may_give m t;
}
