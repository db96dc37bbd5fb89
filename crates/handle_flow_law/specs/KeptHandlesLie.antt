-- Where handles lie in the memory of a slave of an accepted program.
use Rattle.std.specs.Prelude.{◌≡◌, ◌⊎◌, ◌+◌, ◌-◌, ◌≤◌, ℕ, false, List, Some, IsTrue, Contains, length, slice_get}
use Rattle.pt_tree.specs.declared.host_model.HostModel.{HostModel}
use Rattle.block_memory.specs.declared.cell.Cell.TheVariants.{Sealed}
use Rattle.block_memory.specs.declared.cell.BlockName.{BlockName}
use Rattle.block_memory.specs.declared.cell.BlockName.TheVariants.{Local, Global, Received}
use Rattle.typed_tree.specs.ExpressionTree.{ExprTree}
use Rattle.typed_tree.specs.TypedTree.{TypedTree, FunctionTree}
use Rattle.typed_tree.specs.WellFormed.{is_well_formed}
use Rattle.source_meaning.specs.Expressions.{type_of}
use Rattle.propagation.specs.Paths.{IsPriv}
use Rattle.reach.specs.Tables.{slot_number}
use Rattle.sides.specs.Carried.{Scope, carried, scope_of}
use Rattle.sides.specs.Objects.{global_objects, variable_objects}
use Rattle.sides.specs.declared.objects.Object.{Object}
use Rattle.flow_rules.specs.declared.accepted.Accepted.{Accepted}
use Rattle.flow_rules.specs.Faults.{IsAccepted, edges_of_all}
use Rattle.wire.specs.declared.message.ReplyBody.{ReplyBody}
use Rattle.pt_core.specs.Steps.{Active}
use Rattle.lowering.specs.Lowered.{Temp}
use Rattle.handle_classes.specs.Invariant.{cell_of}
use Rattle.handle_classes_law.specs.ObjectsCells.{is_pointer, leaf_under}
use Rattle.handle_classes_law.specs.SlavesMarked.{temps_of}
use Rattle.pair_meaning.specs.Pair.{slave_at}
use Rattle.handle_flow_law.specs.KeptLaws.{boot_of}

-- the slot is privileged: a path of the program's edges leads to it from a seed
abbrev pub IsSecret : TypedTree → Accepted → ℕ → Type 0
IsSecret t a s = IsPriv a.sides.seeds (edges_of_all t a.sides) (slot_number s)

-- the object is no pointer, and its cell lies under a privileged slot
pub record IsSecretCell (t : TypedTree) (a : Accepted) (x : Object) (n : ℕ) : Type 0 where
  pub integer : is_pointer x.ty ≡ false
  pub secret : IsSecret t a (x.start + leaf_under t.structs x.ty n)

-- the expression is no pointer, and what it gives may be what a privileged slot holds
pub record IsSecretValue (t : TypedTree) (a : Accepted) (c : Scope) (e : ExprTree) (n : ℕ) : Type 0 where
  pub integer : is_pointer (type_of e) ≡ false
  pub slot : ℕ
  pub carries : Contains (carried c e) slot
  pub secret : IsSecret t a (slot + leaf_under t.structs (type_of e) n)

-- a temporary of this function, which holds such an expression; the temporaries are numbered behind its variables
pub record IsSecretTemporary (t : TypedTree) (a : Accepted) (f : ℕ) (x : FunctionTree) (v n : ℕ) : Type 0 where
  pub temporary : Temp
  pub expression : ExprTree
  pub behind : length x.vars ≤ v
  pub is : slice_get (temps_of t x) (v - length x.vars) ≡ Some temporary
  pub holds : temporary.holds ≡ Some expression
  pub value : IsSecretValue t a (scope_of t f) expression n

-- a variable of the function with this number, or a temporary
abbrev pub IsSecretVariable : TypedTree → Accepted → ℕ → FunctionTree → ℕ → ℕ → Type 0
IsSecretVariable t a f x v n = ((o : Object) × (slice_get (variable_objects t f) v ≡ Some o) × IsSecretCell t a o n) ⊎ IsSecretTemporary t a f x v n

-- it is one of a function that is active, which was entered at this depth
pub record IsSecretLocal (t : TypedTree) (a : Accepted) (active : List Active) (depth v n : ℕ) : Type 0 where
  pub entered : Active
  pub among : Contains active entered
  pub at : entered.depth ≡ depth
  pub function : FunctionTree
  pub is : slice_get t.functions entered.function ≡ Some function
  pub secret : IsSecretVariable t a entered.function function v n

-- the cell of a block, where these functions are active
abbrev pub LiesUnderMark : TypedTree → Accepted → List Active → BlockName → ℕ → Type 0
LiesUnderMark t a active (Local depth v) n = IsSecretLocal t a active depth v n
LiesUnderMark t a active (Global g) n = (o : Object) × (slice_get (global_objects t) g ≡ Some o) × IsSecretCell t a o n
LiesUnderMark t a active (Received k) n = ⊥

-- Whatever replies it is given, and however many steps it made: where a cell of its memory is a handle, the cell is a variable's or
-- a global's under a privileged slot, or a temporary's whose expression may have the value of one.
abbrev pub HandlesLieUnderMarks : Type 0
HandlesLieUnderMarks = (t : TypedTree) (a : Accepted) (hosts : List (ℕ × HostModel)) (input : List ℕ) (turns : ℕ) (replies : List ReplyBody) (k : ℕ) → IsTrue (is_well_formed t) → IsAccepted t a →
    let x = (slave_at (boot_of t a hosts input turns) replies k).slave in
    (block : BlockName) (n handle : ℕ) → cell_of x.machine.blocks block n ≡ Sealed handle → LiesUnderMark t a x.machine.active block n
