-- The code of both halves can be said in C.
use Rattle.std.specs.Prelude.{List, true, false, IsTrue}
use Rattle.pt_tree.specs.ProgramTree.{ItemTree}
use Rattle.typed_tree.specs.TypedTree.{TypedTree}
use Rattle.typed_tree.specs.WellFormed.{is_well_formed}
use Rattle.check_programs.specs.Programs.{checked_program}
use Rattle.flow_rules.specs.declared.accepted.Accepted.{Accepted}
use Rattle.flow_rules.specs.Faults.{IsAccepted}
use Rattle.pt_core.specs.WellFormed.{monitor_program, slave_program}
use Rattle.lowering.specs.Functions.{functions_from}
use Rattle.splitter.specs.Halves.{Halves, halves_of, monitor_of, slave_of}
use Rattle.split_law.specs.Laws.{AreHalves, SharesNothing}
use Rattle.half_names_law.specs.SaidNulls.{nulls_stand}
pub use Rattle.half_meaning_law.specs.CForms.{CodeIsSaid}

abbrev pub SlavesAreSaid : Type 0
SlavesAreSaid = (t : TypedTree) (h : Halves) → IsTrue (is_well_formed t) → IsTrue (nulls_stand t) → AreHalves t h → CodeIsSaid false (slave_program (slave_of t h (functions_from t 0 t.functions)))

abbrev pub MonitorsAreSaid : Type 0
MonitorsAreSaid = (t : TypedTree) (h : Halves) → IsTrue (is_well_formed t) → IsTrue (nulls_stand t) → AreHalves t h → SharesNothing t → CodeIsSaid true (monitor_program (monitor_of t h (functions_from t 0 t.functions)))

-- both halves of a checked program that breaks no rule
abbrev pub AcceptedHalvesAreSaid : Type 0
AcceptedHalvesAreSaid = (items : List ItemTree) (a : Accepted) → let t : TypedTree = (checked_program items).tree in
    IsTrue (is_well_formed t) → IsAccepted t a →
    CodeIsSaid false (slave_program (slave_of t (halves_of a.sides) (functions_from t 0 t.functions))) × CodeIsSaid true (monitor_program (monitor_of t (halves_of a.sides) (functions_from t 0 t.functions)))
