-- The slave's code is fine in the classes that an accepted program's marks give.
use Rattle.std.specs.Prelude.{◌≡◌, ◌<◌, ℕ, Bool, true, false, Some, All, IsTrue, length, slice_get, get_or, is_some, not, ◌&&◌, ◌||◌}
use Rattle.std.specs.Option.{option_map_or}
use Rattle.pt_base.specs.declared.slot.Edge.{Edge}
use Rattle.pt_tree.specs.declared.signature.Param.{Param}
use Rattle.typed_tree.specs.TypedTree.{TypedTree, FunctionTree}
use Rattle.typed_tree.specs.WellFormed.{is_well_formed}
use Rattle.typed_tree.specs.WellFormedExpression.{is_main, param_type}
use Rattle.sides.specs.Leaves.{leaves_of, whole}
use Rattle.sides.specs.Seeds.{is_out, is_sealed_result}
use Rattle.sides.specs.Slots.{slots_of}
use Rattle.sides.specs.declared.halves.Sides.{Sides}
use Rattle.pt_core.specs.Types.{pointee_type}
use Rattle.handle_classes_law.specs.ObjectsCells.{leaf_under}
use Rattle.flow_rules.specs.declared.accepted.Accepted.{Accepted}
use Rattle.flow_rules.specs.Faults.{IsAccepted, edges_of_all, flows_of}
use Rattle.pt_core.specs.CodeTree.{ProgramTree}
use Rattle.handle_classes.specs.Classes.{World}
use Rattle.handle_classes.specs.Judgment.{IsFineProgram}
use Rattle.handle_classes_law.specs.SlavesMarked.{Marks, slave_world}
pub use Rattle.splitter.specs.Accepted.{slave_code as slave_half}

-- the privileged slots of an accepted program
abbrev pub marks_of : TypedTree → Accepted → Marks
marks_of t a = (flows_of t a.sides a.marks).is_priv

-- ---- the parameter is marked, by the signature

abbrev pub is_marked : TypedTree → ℕ → ℕ → Bool
is_marked t f n = option_map_or (λ (x : FunctionTree). option_map_or (λ (p : Param). p.marked) (slice_get x.signature.params n) false) (slice_get t.functions f) false

-- a function that the slave runs itself
abbrev pub is_own : TypedTree → ℕ → Bool
is_own t f = option_map_or (λ (x : FunctionTree). is_some x.body && not x.signature.privileged) (slice_get t.functions f) false

-- Of what isn't the slave's own function, a parameter for which a handle may be asked is marked.
abbrev pub AsksMarkedAlone : TypedTree → World → Type 0
AsksMarkedAlone t w = (f n : ℕ) → is_own t f ≡ false → (w.param f n).pointer ≡ false → (w.param f n).may 0 ≡ true → is_marked t f n ≡ true

-- what comes back sealed may: a result of a privileged function that isn't declassified
abbrev pub SealedMayCome : TypedTree → World → Type 0
SealedMayCome t w = (f : ℕ) (x : FunctionTree) → slice_get t.functions f ≡ Some x → is_main x.signature ≡ false → is_sealed_result x.signature ≡ true → w.result f ≡ true

-- and where an argument of a host of the slave may be a handle, so may its result
abbrev pub MixedMayCome : TypedTree → World → Type 0
MixedMayCome t w = (f n : ℕ) (x : FunctionTree) → slice_get t.functions f ≡ Some x → is_main x.signature ≡ false → is_some x.body ≡ false → x.signature.privileged ≡ false → is_some x.signature.result ≡ true → (w.param f n).may 0 ≡ true → w.result f ≡ true

-- A cell that a parameter points to comes back sealed: all do where the parameter is marked `priv` and not
-- `declassify`, else those under a marked field.
abbrev pub comes_sealed : TypedTree → Param → ℕ → Bool
comes_sealed t p j = (p.marked && not p.declassify) || (get_or (leaves_of t.structs (param_type p.kind)) (leaf_under t.structs (pointee_type (param_type p.kind)) j) whole).marked

-- and where a cell does, of what a privileged function may write through its parameter, a handle may be written
abbrev pub SealedCellsMayCome : TypedTree → World → Type 0
SealedCellsMayCome t w = (f n j : ℕ) (x : FunctionTree) (p : Param) → slice_get t.functions f ≡ Some x → x.signature.privileged ≡ true → slice_get x.signature.params n ≡ Some p → is_out p.kind ≡ true →
    j < (w.param f n).size → comes_sealed t p j ≡ true → (w.param f n).must j ≡ true

-- main gives none
abbrev pub MainGivesNone : TypedTree → World → Type 0
MainGivesNone t w = (f : ℕ) (x : FunctionTree) → slice_get t.functions f ≡ Some x → is_main x.signature ≡ true → w.result f ≡ false

-- the slave's own functions are entered with what their variables take
abbrev pub EntersOwn : TypedTree → World → Type 0
EntersOwn t w = (f n : ℕ) → is_own t f ≡ true → w.param f n ≡ w.variable f n

pub record IsSlaveWorld (t : TypedTree) (p : ProgramTree) (w : World) : Type 0 where
  pub fine : IsFineProgram p w
  pub asks : AsksMarkedAlone t w
  pub comes : SealedMayCome t w
  pub mixed : MixedMayCome t w
  pub cells : SealedCellsMayCome t w
  pub enters : EntersOwn t w
  pub ends : MainGivesNone t w

abbrev pub SlaveClasses : Type 0
SlaveClasses = (t : TypedTree) (a : Accepted) → IsTrue (is_well_formed t) → IsAccepted t a → IsSlaveWorld t (slave_half t a) (slave_world (marks_of t a) t)

-- ---- what holds of the classes whatever the marks and the code

-- a handle that a variable or a global must be able to hold is one that it may hold, and no global is a pointer
pub record KeepsOwn (w : World) : Type 0 where
  pub variables : (f v n : ℕ) → (w.variable f v).pointer ≡ false → (w.variable f v).must n ≡ true → (w.variable f v).may n ≡ true
  pub objects : (g : ℕ) → (w.global g).pointer ≡ false
  pub globals : (g n : ℕ) → (w.global g).must n ≡ true → (w.global g).may n ≡ true

abbrev pub MarkedWorlds : Type 0
MarkedWorlds = (m : Marks) (t : TypedTree) → KeepsOwn (slave_world m t) × AsksMarkedAlone t (slave_world m t) × MainGivesNone t (slave_world m t) × EntersOwn t (slave_world m t) × MixedMayCome t (slave_world m t)

-- and of a well formed program
abbrev pub SealedCells : Type 0
SealedCells = (m : Marks) (t : TypedTree) → IsTrue (is_well_formed t) → SealedCellsMayCome t (slave_world m t)

-- both ends of the edge are slots of the program
abbrev pub JoinsSlots : TypedTree → Edge → Type 0
JoinsSlots t e = (e.from.0 < length (slots_of t)) × (e.to.0 < length (slots_of t))

-- each edge of a well formed program joins two of its slots
abbrev pub EdgesJoinSlots : Type 0
EdgesJoinSlots = (t : TypedTree) (s : Sides) → IsTrue (is_well_formed t) → All (JoinsSlots t) (edges_of_all t s)
