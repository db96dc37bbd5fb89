-- Both texts, by the laws of what they are made of.
use Rattle.std.proofs.Common.{◌≡◌, List, [], true, false, refl}
use Rattle.std.specs.Prelude.{IsTrue}
use Rattle.std.specs.List.{list_all}
use Rattle.typed_tree.specs.TypedTree.{TypedTree}
use Rattle.check_programs.specs.Programs.{checked_program}
use Rattle.type_law.specs.ProgramsLaws.{ProgramsAreWellFormed}
use Rattle.source_meaning.specs.Functions.{calls_within}
use Rattle.pt_core.specs.Calls.{calls_within as core_within}
use Rattle.pt_core.specs.CodeTree.{MonitorTree, ProgramTree, SlaveTree}
use Rattle.pt_core.specs.WellFormed.{is_well_formed_monitor, is_well_formed_slave, monitor_program, slave_program}
use Rattle.pt_core.proofs.WellFormedLemmas.{facts_of}
use Rattle.lowering.specs.Functions.{functions_from}
use Rattle.splitter.specs.Halves.{Halves, halves_of, monitor_of, slave_of}
use Rattle.split_law.specs.Laws.{AcceptedShareNothing, MonitorsAreWellFormed, SlavesAreWellFormed}
use Rattle.c_printer.specs.ReadsBack.{PrintedReadsBack}
use Rattle.half_trees.specs.Halves.{monitor_tree, slave_tree}
use Rattle.half_trees_law.specs.Laws.{MonitorTreesArePlain, SlaveTreesArePlain}
use Rattle.half_names_law.specs.Declarable.{prototypes_take_no_pointers}
use Rattle.half_names_law.specs.Standing.{own_marks}
use Rattle.half_names_law.specs.Laws.{judged_tree, HalvesHaveNoFault, SlavesHaveNoTypeFault}
use Rattle.half_texts_law.specs.DeclarationsLaws.{AcceptedHalvesAreWritable, AcceptedHalvesKeepTheirMeaning, HalfMeans, IsWritable, monitor_half}
use Rattle.half_texts_law.specs.Calls.{prototypes_are_hosts}
use Rattle.half_texts_law.specs.CallsLaws.{HalfHostsAgree, HalfHostStartsAgree}
use Rattle.half_texts_law.proofs.CallsHostLaw.{no_pointers}
use Rattle.split_text.specs.Texts.{monitor_heading, slave_heading}
use Rattle.half_texts_law.specs.TextsLaws.{AcceptedMonitorsRunByThemselves, AcceptedTextsReadBack, MonitorReads, MonitorsDeclareHosts, RunsByItself, SlaveReads}

-- ---- the texts

slave_reads : PrintedReadsBack → SlaveTreesArePlain → SlavesHaveNoTypeFault → (s : SlaveTree) → IsTrue (is_well_formed_slave s) → IsWritable false (slave_program s) → SlaveReads s
slave_reads printed plain fine s well can = record {
  read = printed slave_heading (slave_tree s) refl (plain s well);
  entered = λ small. (fine s well can.declarable can.said small).0;
  judged = λ small none. (fine s well can.declarable can.said small).1 none;
}

-- where functions without a body are hosts, they take no pointers
hosts_plain : (p : ProgramTree) → IsWritable true p → IsTrue (prototypes_are_hosts p) → IsTrue (prototypes_take_no_pointers p)
hosts_plain p can hosts = no_pointers p (facts_of true p can.sound).signatures hosts

monitor_reads : PrintedReadsBack → MonitorTreesArePlain → HalvesHaveNoFault → (p : MonitorTree) → IsTrue (is_well_formed_monitor p) → IsWritable true (monitor_program p) → IsTrue (prototypes_are_hosts (monitor_program p)) → MonitorReads p
unfolding monitor_tree
monitor_reads printed plain fine p well can hosts = record {
  read = printed monitor_heading (monitor_tree p) refl (plain p well);
  hosts = hosts;
  judged = λ small. (fine true (monitor_program p) can.sound can.declarable can.said small).1 (hosts_plain (monitor_program p) can hosts);
}

pub texts_read : ProgramsAreWellFormed → SlavesAreWellFormed → MonitorsAreWellFormed → AcceptedShareNothing → AcceptedHalvesAreWritable → SlaveTreesArePlain → MonitorTreesArePlain → PrintedReadsBack → HalvesHaveNoFault → SlavesHaveNoTypeFault →
    MonitorsDeclareHosts → AcceptedTextsReadBack
texts_read programs slaves monitors apart writable slave_plain monitor_plain printed no_fault no_type_fault hosts items a few constants none is =
    let t : TypedTree = (checked_program items).tree in
    let code = functions_from t 0 t.functions in
    let h : Halves = halves_of a.sides in
    let well = programs items few constants none in
    let halves = apart t a is in
    let can = writable items a few constants none is in (
      slave_reads printed slave_plain no_type_fault (slave_of t h code) (slaves t h well halves.0) can.0,
      monitor_reads printed monitor_plain no_fault (monitor_of t h code) (monitors t h well halves.0 halves.1) can.1 (hosts t h well halves.0 halves.1),
    )

-- ---- what the monitor's text does

runs : HalfHostsAgree → HalfHostStartsAgree → (p : ProgramTree) → IsWritable true p → HalfMeans true p → IsTrue (prototypes_are_hosts p) → RunsByItself p
runs agree begin p can means hosts =
    let calls = agree true p can.sound can.declarable can.said hosts in
    record {
      calls = calls;
      statements = λ depth n f s frames frame active named. (means n f s active.there named).1 (hosts_plain p can hosts) frames frame (calls_within (judged_tree (own_marks true p) true p) depth) (core_within p depth) active.own (calls depth n f frames frame active);
      starts = begin true p can.sound can.declarable can.said hosts;
    }

pub monitors_run : ProgramsAreWellFormed → AcceptedShareNothing → AcceptedHalvesAreWritable → AcceptedHalvesKeepTheirMeaning → HalfHostsAgree → HalfHostStartsAgree → MonitorsDeclareHosts → AcceptedMonitorsRunByThemselves
monitors_run programs apart writable meaning agree begin hosts items a few constants none is =
    let t : TypedTree = (checked_program items).tree in
    let well = programs items few constants none in
    let halves = apart t a is in
    runs agree begin (monitor_half t a) (writable items a few constants none is).1 (meaning items a few constants none is).1 (hosts t (halves_of a.sides) well halves.0 halves.1)
