-- What is split off from the lowered code are the program's halves.
use Rattle.std.proofs.Common.{◌≡◌, ◌∙◌, ap, List, IfOk, Result, Ok, Err}
use Rattle.typed_tree.specs.TypedTree.{TypedTree}
use Rattle.pt_core.specs.declared.monitor.MonitorProgram.{MonitorProgram}
use Rattle.pt_core.specs.declared.slave.SlaveProgram.{SlaveProgram}
use Rattle.pt_core.specs.CodeTree.{FunctionTree, SlaveTree, MonitorTree, view_slave, view_monitor}
use Rattle.lowering.specs.Functions.{functions_from}
use Rattle.flow_rules.specs.declared.accepted.Accepted.{Accepted}
use Rattle.splitter.specs.Halves.{halves_of, slave_of, monitor_of}
use Rattle.program_halves.specs.ProgramHalves.{AreHalves}

are_halves : (t : TypedTree) (a : Accepted) (code : List FunctionTree) (slave : SlaveTree) (monitor : MonitorTree) → code ≡ functions_from t 0 t.functions
    → slave ≡ slave_of t (halves_of a.sides) code → monitor ≡ monitor_of t (halves_of a.sides) code → AreHalves t a slave monitor
are_halves t a code slave monitor is s m = (s ∙ ap (slave_of t (halves_of a.sides)) is, m ∙ ap (monitor_of t (halves_of a.sides)) is)

pub halves_are : {E : Type 0} (t : TypedTree) (a : Accepted) (code : List FunctionTree) (r : Result (SlaveProgram × MonitorProgram) E) → code ≡ functions_from t 0 t.functions
    → IfOk r (λ x. view_slave x.0 ≡ slave_of t (halves_of a.sides) code) → IfOk r (λ x. view_monitor x.1 ≡ monitor_of t (halves_of a.sides) code)
    → IfOk r (λ x. AreHalves t a (view_slave x.0) (view_monitor x.1))
halves_are t a code (Ok x) is s m = are_halves t a code (view_slave x.0) (view_monitor x.1) is s m
halves_are t a code (Err e) is s m = tt
