-- What is proved of the texts of both halves of a checked program that breaks no rule.
use Rattle.std.specs.Prelude.{◌≡◌, ◌^◌, ◌<◌, ℕ, List, [], Bool, true, false, Some, IsTrue}
use Rattle.std.specs.List.{list_all}
use Rattle.pt_tree.specs.declared.signature.Signature.{Signature}
use Rattle.pt_tree.specs.Facts.{items_sound}
use Rattle.pt_tree.specs.Nodes as parsed
use Rattle.pt_tree.specs.ProgramTree.{ItemTree}
use Rattle.typed_tree.specs.declared.types.VarTy.{VarTy}
use Rattle.typed_tree.specs.TypedTree.{TypedTree}
use Rattle.typed_tree.specs.WellFormed.{is_well_formed}
use Rattle.check_programs.specs.Programs.{checked_items, checked_program, type_faults, with_main}
use Rattle.check_programs.specs.Progress.{at_start}
use Rattle.check_programs.specs.Unions.{function_marks}
use Rattle.flow_rules.specs.declared.accepted.Accepted.{Accepted}
use Rattle.flow_rules.specs.Faults.{IsAccepted}
use Rattle.source_meaning.specs.Expressions as m
use Rattle.source_meaning.specs.Functions.{calls_within}
use Rattle.pt_core.specs.CodeTree.{FunctionTree, MonitorTree, ProgramTree, SlaveTree}
use Rattle.pt_core.specs.Statements.{do_all}
use Rattle.pt_core.specs.Calls.{calls_within as core_within}
use Rattle.pt_core.specs.WellFormed.{called_signature, monitor_program, signature_at, slave_program}
use Rattle.lowering.specs.Functions.{functions_from}
use Rattle.splitter.specs.Halves.{Halves, halves_of, monitor_of, slave_of}
use Rattle.split_law.specs.Laws.{AreHalves, SharesNothing}
use Rattle.c_printer.specs.ReadsBack.{ReadsBack}
use Rattle.half_trees.specs.Halves.{monitor_tree, slave_tree}
use Rattle.half_meaning_law.specs.Relations.{frame_of}
use Rattle.half_meaning_law.specs.Statements.{CallsAlike, StatementsMean}
use Rattle.half_names_law.specs.Declarable.{has_small_frame, prototypes_take_no_pointers}
use Rattle.half_names_law.specs.Standing.{own_marks, statements_at, whole_marks}
use Rattle.half_names_law.specs.Laws.{judged_tree, statements_checked}
use Rattle.half_texts_law.specs.DeclarationsLaws.{monitor_half}
use Rattle.half_texts_law.specs.Calls.{IsActive, prototypes_are_hosts}
use Rattle.half_texts_law.specs.CallsLaws.{scene_of_hosts, StartsAlike}
use Rattle.split_text.specs.Texts.{monitor_text, slave_text}

-- ---- the texts

-- no function's variables are too large together for the type judgments
abbrev pub has_small_frames : ProgramTree → Bool
has_small_frames p = list_all (has_small_frame p) p.functions

-- The slave's text has tokens, and they derive the slave's tree, positions aside. The type judgments take a
-- function that is only declared for a host, which takes no pointer: so they find no fault in the tree where no
-- such function takes one, and none at all if each function counts as one that has a body.
pub record SlaveReads (s : SlaveTree) : Type 0 where
  pub read : ReadsBack (slave_text s) (slave_tree s)
  pub entered : IsTrue (has_small_frames (slave_program s)) → (with_main (checked_items (whole_marks false (slave_program s)) at_start (slave_tree s))).faults ≡ []
  pub judged : IsTrue (has_small_frames (slave_program s)) → IsTrue (prototypes_take_no_pointers (slave_program s)) → type_faults (slave_tree s) ≡ []

-- The monitor's text reads back in the same way. Its functions without a body are hosts, so no item of its tree has
-- a fault; it has no main.
pub record MonitorReads (p : MonitorTree) : Type 0 where
  pub read : ReadsBack (monitor_text p) (monitor_tree p)
  pub hosts : IsTrue (prototypes_are_hosts (monitor_program p))
  pub judged : IsTrue (has_small_frames (monitor_program p)) → (checked_items (function_marks (monitor_tree p)) at_start (monitor_tree p)).faults ≡ []

-- ---- what the monitor's text does

-- Calls in the monitor's text, the statements of its functions, and functions that are entered where none is active
-- come to the same as the half's, by the calls of both meanings: nothing is given of functions without a body.
pub record RunsByItself (p : ProgramTree) : Type 0 where
  pub calls : (depth n : ℕ) (f : FunctionTree) (frames : ℕ → List VarTy) (frame : m.Frame) → IsActive p n f frames frame.depth →
      CallsAlike (scene_of_hosts true p f frames frame depth) (called_signature true p)
  pub statements : (depth n : ℕ) (f : FunctionTree) (s : Signature) (frames : ℕ → List VarTy) (frame : m.Frame) → IsActive p n f frames frame.depth → signature_at p f.id ≡ Some s →
      StatementsMean (scene_of_hosts true p f frames frame depth) (statements_at (own_marks true p) true p n f) (statements_checked p f s (statements_at (own_marks true p) true p n f))
      (do_all f.body (frame_of (scene_of_hosts true p f frames frame depth)) (core_within p depth))
  pub starts : (depth : ℕ) → StartsAlike true p (judged_tree (own_marks true p) true p) (calls_within (judged_tree (own_marks true p) true p) depth) (core_within p depth)

-- ---- laws

-- each function without a body in the monitor's program is a host
abbrev pub MonitorsDeclareHosts : Type 0
MonitorsDeclareHosts = (t : TypedTree) (h : Halves) → IsTrue (is_well_formed t) → AreHalves t h → SharesNothing t → IsTrue (prototypes_are_hosts (monitor_program (monitor_of t h (functions_from t 0 t.functions))))

-- What holds of checked programs that break no rule. A parsed program's nodes are few, its constants in range and its
-- words short.
abbrev pub OfAccepted : (TypedTree → Accepted → Type 0) → Type 0
OfAccepted P = (items : List ItemTree) (a : Accepted) → parsed.nodes_of items < 2 ^ 22 → IsTrue (items_sound items) → type_faults items ≡ [] → IsAccepted (checked_program items).tree a → P (checked_program items).tree a

abbrev pub TextsReadBack : TypedTree → Accepted → Type 0
TextsReadBack t a = SlaveReads (slave_of t (halves_of a.sides) (functions_from t 0 t.functions)) × MonitorReads (monitor_of t (halves_of a.sides) (functions_from t 0 t.functions))

abbrev pub AcceptedTextsReadBack : Type 0
AcceptedTextsReadBack = OfAccepted TextsReadBack

abbrev pub AcceptedMonitorsRunByThemselves : Type 0
AcceptedMonitorsRunByThemselves = OfAccepted (λ t a. RunsByItself (monitor_half t a))
