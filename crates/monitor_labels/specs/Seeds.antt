-- Where secrets begin.
use Rattle.std.specs.Prelude.{ℕ, ◌+◌, List, [], ◌∷◌, ◌++◌, Bool, false, ◌&&◌, ◌||◌, if◌then◌else◌, get_or, map}
use Rattle.std.specs.List.{flat_map, list_any}
use Rattle.pt_base.specs.declared.slot.Slot.{Slot}
use Rattle.pt_tree.specs.declared.signature.Elem.{Elem}
use Rattle.pt_tree.specs.declared.signature.Elem.TheVariants as e
use Rattle.pt_tree.specs.declared.signature.Signature.{Signature}
use Rattle.typed_tree.specs.declared.types.VarTy.{VarTy}
use Rattle.typed_tree.specs.declared.types.VarTy.TheVariants.{Int, Struct, Array, Pointer}
use Rattle.typed_tree.specs.declared.types.Field.{Field}
use Rattle.typed_tree.specs.declared.types.StructInfo.{StructInfo}
use Rattle.typed_tree.specs.declared.variable.Var.{Var}
use Rattle.pt_core.specs.CodeTree.{FunctionTree, GlobalTree, MonitorTree}
use Rattle.monitor_labels.specs.Nodes.{Node, of_variable, of_result, of_global, gives_result, slot_of}

-- ---- marked fields

-- a field marked `priv` lies in it, where it is known of structs whether one lies in them
abbrev pub elem_is_marked : List Bool → Elem → Bool
elem_is_marked known (e.Int t) = false
elem_is_marked known (e.Struct n) = get_or known n false

-- or in what it points to
abbrev pub type_is_marked : List Bool → VarTy → Bool
type_is_marked known (Int t) = false
type_is_marked known (Struct n) = get_or known n false
type_is_marked known (Array elem count) = elem_is_marked known elem
type_is_marked known (Pointer elem fixed) = elem_is_marked known elem

abbrev pub field_is_marked : List Bool → Field → Bool
field_is_marked known f = f.marked || type_is_marked known f.ty

-- of each struct, behind those before it, which alone its fields name
abbrev pub marked_after : List Bool → List StructInfo → List Bool
marked_after known [] = known
marked_after known (s ∷ ss) = marked_after (known ++ list_any (field_is_marked known) s.fields ∷ []) ss

abbrev pub marked_structs : List StructInfo → List Bool
marked_structs structs = marked_after [] structs

-- it is marked, or a marked field lies in it or in what it points to
abbrev pub begins_secret : List Bool → Var → Bool
begins_secret known x = x.marked || type_is_marked known x.ty

-- ---- nodes

abbrev pub node_if : Bool → Node → List Node
node_if b n = if b then n ∷ [] else []

-- such ones among the variables of a function, of which the first has the number i
abbrev pub variables_with : (Var → Bool) → ℕ → ℕ → List Var → List Node
variables_with such f i [] = []
variables_with such f i (x ∷ xs) = node_if (such x) (of_variable f i) ++ variables_with such f (i + 1) xs

abbrev pub variable_seeds : List Bool → FunctionTree → List Node
variable_seeds known f = variables_with (begins_secret known) f.id 0 f.vars

-- what a privileged host gives
abbrev pub result_seeds : ℕ × Signature → List Node
result_seeds s = node_if (s.1.host && gives_result s.1) (of_result s.0)

abbrev pub global_seeds : List Bool → GlobalTree → List Node
global_seeds known g = node_if (begins_secret known g.var) (of_global g.id)

abbrev pub seed_nodes : MonitorTree → List Node
seed_nodes p =
    flat_map (variable_seeds (marked_structs p.structs)) p.functions
    ++ (flat_map result_seeds p.signatures
    ++ flat_map (global_seeds (marked_structs p.structs)) p.globals)

abbrev pub seeds_of : MonitorTree → List Slot
seeds_of p = map (slot_of p) (seed_nodes p)
