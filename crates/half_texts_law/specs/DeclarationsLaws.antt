-- Both halves of a checked program can be declared, and so their text keeps their meaning.
use Rattle.std.specs.Prelude.{◌≡◌, ◌^◌, ◌<◌, ℕ, List, [], Bool, true, false, Some, IsTrue, slice_get}
use Rattle.pt_tree.specs.declared.signature.Signature.{Signature}
use Rattle.pt_tree.specs.Facts.{items_sound}
use Rattle.pt_tree.specs.Nodes as parsed
use Rattle.pt_tree.specs.ProgramTree.{ItemTree}
use Rattle.typed_tree.specs.TypedTree.{TypedTree}
use Rattle.check_programs.specs.Programs.{checked_program, type_faults}
use Rattle.flow_rules.specs.declared.accepted.Accepted.{Accepted}
use Rattle.flow_rules.specs.Faults.{IsAccepted}
use Rattle.pt_core.specs.CodeTree.{FunctionTree, ProgramTree}
use Rattle.pt_core.specs.WellFormed.{signature_at, is_sound, monitor_program}
use Rattle.lowering.specs.Functions.{functions_from}
use Rattle.splitter.specs.Halves.{halves_of, monitor_of}
use Rattle.half_names_law.specs.Declarable.{Declarable, prototypes_take_no_pointers}
use Rattle.half_names_law.specs.Laws.{MeaningKept}
use Rattle.half_names_law.specs.Standing.{own_marks, whole_marks, all_said}
use Rattle.half_texts_law.specs.DeclarationsTrees.{Marked}
pub use Rattle.splitter.specs.Accepted.{slave_code as slave_half}

-- ---- the tree

-- in a program without a fault all marks stand where they may, and names differ that have to
abbrev pub TreesAreMarked : Type 0
TreesAreMarked = (items : List ItemTree) → IsTrue (items_sound items) → type_faults items ≡ [] → Marked (checked_program items).tree

-- ---- the halves

abbrev pub monitor_half : TypedTree → Accepted → ProgramTree
monitor_half t a = monitor_program (monitor_of t (halves_of a.sides) (functions_from t 0 t.functions))

-- A parsed program's nodes are few, its constants in range and its words short.
abbrev pub HalvesAreDeclarable : Type 0
HalvesAreDeclarable = (items : List ItemTree) (a : Accepted) → parsed.nodes_of items < 2 ^ 22 → IsTrue (items_sound items) → type_faults items ≡ [] → let t : TypedTree = (checked_program items).tree in
    Declarable (slave_half t a) × Declarable (monitor_half t a)

-- ---- with all that is known of halves

-- a half that is sound, that can be declared, and whose code C can say
pub record IsWritable (monitor : Bool) (p : ProgramTree) : Type 0 where
  pub sound : IsTrue (is_sound monitor p)
  pub declarable : Declarable p
  pub said : IsTrue (all_said monitor p)

-- both halves of a checked program that breaks no rule
abbrev pub AcceptedHalvesAreWritable : Type 0
AcceptedHalvesAreWritable = (items : List ItemTree) (a : Accepted) → parsed.nodes_of items < 2 ^ 22 → IsTrue (items_sound items) → type_faults items ≡ [] → let t : TypedTree = (checked_program items).tree in
    IsAccepted t a → IsWritable false (slave_half t a) × IsWritable true (monitor_half t a)

-- each function's statements, as the text has them, mean what the half's do
abbrev pub HalfMeans : Bool → ProgramTree → Type 0
HalfMeans monitor p = (n : ℕ) (f : FunctionTree) (s : Signature) → slice_get p.functions n ≡ Some f → signature_at p f.id ≡ Some s →
    MeaningKept (whole_marks monitor p) monitor p n f s × (IsTrue (prototypes_take_no_pointers p) → MeaningKept (own_marks monitor p) monitor p n f s)

-- those of both halves of such a program
abbrev pub AcceptedHalvesKeepTheirMeaning : Type 0
AcceptedHalvesKeepTheirMeaning = (items : List ItemTree) (a : Accepted) → parsed.nodes_of items < 2 ^ 22 → IsTrue (items_sound items) → type_faults items ≡ [] → let t : TypedTree = (checked_program items).tree in
    IsAccepted t a → HalfMeans false (slave_half t a) × HalfMeans true (monitor_half t a)
