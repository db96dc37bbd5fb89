-- What a slave asks for may be sent: its handles are the store's, with their types, and stand where handles may.
use Rattle.std.specs.Prelude.{◌≡◌, ℕ, List, [], ◌∷◌, Bool, true, ◌&&◌, ◌||◌, IsTrue, drop, length, map}
use Rattle.std.specs.List.{list_all}
use Rattle.pt_tree.specs.declared.signature.Elem.{Elem}
use Rattle.pt_tree.specs.declared.signature.Param.{Param}
use Rattle.pt_tree.specs.declared.signature.ParamKind.{ParamKind}
use Rattle.pt_tree.specs.declared.signature.ParamKind.TheVariants as kind
use Rattle.typed_tree.specs.declared.types.StructInfo.{StructInfo}
use Rattle.typed_tree.specs.WellFormed.{is_variable_type, structs_sound}
use Rattle.typed_tree.specs.WellFormedExpression.{param_type}
use Rattle.block_memory.specs.declared.cell.Cell.{Cell}
use Rattle.block_memory.specs.declared.cell.Cell.TheVariants as cell
use Rattle.block_memory.specs.declared.cell.Pointer.TheVariants.{Null, At}
use Rattle.block_memory.specs.Blocks.{Blocks}
use Rattle.pt_core.specs.CodeTree.{ProgramTree}
use Rattle.pt_core.specs.Steps.{Active}
use Rattle.core_soundness_law.specs.Fits.{MemoryFits}
use Rattle.core_soundness_law.specs.Kept.{by_store}
use Rattle.core_soundness_law.specs.Outside.{ArgumentsFit}
use Rattle.marshalling.specs.Handles.{Entries}
use Rattle.marshalling.specs.HonestCalls.{AreKnown}
use Rattle.marshalling.specs.Leaves.{range_leaves}
use Rattle.marshalling.specs.Sendable.{is_sendable}

-- ---- handles under marks

-- a handle stands here only where one may
abbrev pub may_hold : Bool → Cell → Bool
may_hold secret (cell.Int v) = true
may_hold secret (cell.Ptr p) = true
may_hold secret (cell.Sealed handle) = secret

-- in cells that lie under these marks, for a parameter with this mark
abbrev pub are_allowed : Bool → List Bool → List Cell → Bool
are_allowed marked [] cells = true
are_allowed marked (under ∷ marks) [] = true
are_allowed marked (under ∷ marks) (c ∷ cells) = may_hold (marked || under) c && are_allowed marked marks cells

-- the marks of so many elements' cells
abbrev pub range_marks : List StructInfo → Elem → ℕ → List Bool
range_marks structs elem count = map (λ leaf. leaf.marked) (range_leaves structs elem count)

abbrev pub StandsFor : List StructInfo → Blocks → Bool → ParamKind → Cell → Type 0
StandsFor structs x marked (kind.Int t) c = may_hold marked c ≡ true
StandsFor structs x marked (kind.Ptr elem fixed) (cell.Int v) = Unit {0}
StandsFor structs x marked (kind.Ptr elem fixed) (cell.Sealed handle) = Unit {0}
StandsFor structs x marked (kind.Ptr elem fixed) (cell.Ptr Null) = Unit {0}
StandsFor structs x marked (kind.Ptr elem fixed) (cell.Ptr (At block base count index)) = are_allowed marked (range_marks structs elem count) (drop base (x block).cells) ≡ true

-- A handle is an argument of a marked parameter, or lies behind one or under a marked field: what the code's own conditions give.
abbrev pub HandlesStand : List StructInfo → Blocks → List Param → List Cell → Type 0
HandlesStand structs x [] args = Unit {0}
HandlesStand structs x (p ∷ params) [] = Unit {0}
HandlesStand structs x (p ∷ params) (c ∷ args) = StandsFor structs x p.marked p.kind c × HandlesStand structs x params args

-- each parameter is of a variable's type
abbrev pub AreParameters : List StructInfo → List Param → Type 0
AreParameters structs params = IsTrue (list_all (λ (p : Param). is_variable_type (length structs) (param_type p.kind)) params)

-- ---- laws

-- What fits by a store and has its handles under marks may be sent to a monitor with that store.
abbrev pub SendableByFits : Type 0
SendableByFits = (slave : ProgramTree) (store : Entries) (params : List Param) (x : Blocks) (a : Active) (rest : List Active) (args : List Cell) →
    IsTrue (structs_sound slave.structs 0 slave.structs) → AreParameters slave.structs params →
    MemoryFits (by_store store) slave (a ∷ rest) x → ArgumentsFit (by_store store) slave.structs x a.depth params args → HandlesStand slave.structs x params args →
    is_sendable store slave.structs params x args ≡ true

-- each handle of such a memory is one of the store
abbrev pub KnownByFits : Type 0
KnownByFits = (slave : ProgramTree) (store : Entries) (active : List Active) (x : Blocks) → MemoryFits (by_store store) slave active x → AreKnown store x
