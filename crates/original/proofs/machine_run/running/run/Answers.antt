use Rattle.std.proofs.Common.{ℕ, false, subst, sym}
use Rattle.std.specs.Prelude.{IsTrue}
use Rattle.host_table.specs.Hosts.{hosts_of}
use Rattle.typed_tree.specs.TypedView.{view_typed}
use Rattle.pt_core.specs.CodeTree.{ProgramTree, view_program}
use Rattle.pt_core.specs.Steps.{at_rest}
use Rattle.pt_core.specs.WellFormed.{is_well_formed}
use Rattle.lowering.specs.Functions.{core_program}
use Rattle.core_machine.specs.Machines.{Shown}
use Rattle.core_machine.specs.Sound.{IsSound}
use Rattle.core_machine.proofs.SoundLemmas.{whole_is_sound}
use Rattle.original.specs.MachineRunHeard.{Heard}
use Rattle.original.proofs.MachineRun.{Made, made_steps, of_a_run, ran}
use Rattle.original.proofs.machine_run.running.run.Goals as goal

pub new-requires : goal.new-requires
new-requires g c =
    let typed = view_typed c.args.program.now in
    let whole : IsTrue (is_well_formed (core_program typed)) = c.lowered_programs_are_well_formed.ensures typed c.args.program.now.well_formed in
    subst (λ (p : ProgramTree). IsSound p) (sym c.in_ok-code.ensures) (whole_is_sound (core_program typed) whole)

pub end_of-requires : goal.end_of-requires
end_of-requires g c =
    let t = view_typed c.args.program.now in
    let hosts = hosts_of c.args.hosts in
    let code : ProgramTree = view_program c.in_ok-code.code in
    let made : Shown code c.in_ok-machine.machine (at_rest code c.args.turns) = subst (λ (budget : ℕ). Shown code c.in_ok-machine.machine (at_rest code budget)) c.from.ensures c.in_ok-machine.ensures.shown in
    let steps : Made t hosts c.args.turns c.in_ok-went.went.stepped _ _ =
    made_steps t hosts c.args.turns c.main_of-main.result.0 c.main_of-main.ensures code c.in_ok-code.ensures c.in_ok-machine.machine _ _ made c.in_ok-enter.ensures _ _ c.in_ok-gate.ensures c.in_ok-went.went.stepped _ _ (λ (h : Heard). false) c.in_ok-went.ensures in
    of_a_run c.steps_are_the_run.ensures c.silent_runs_agree.ensures t hosts c.args.turns c.requires c.in_ok-went.went.stepped _ _ steps

pub returns : goal.returns
returns g c =
    let t = view_typed c.args.program.now in
    let hosts = hosts_of c.args.hosts in
    let code : ProgramTree = view_program c.in_ok-code.code in
    let made : Shown code c.in_ok-machine.machine (at_rest code c.args.turns) = subst (λ (budget : ℕ). Shown code c.in_ok-machine.machine (at_rest code budget)) c.from.ensures c.in_ok-machine.ensures.shown in
    let steps : Made t hosts c.args.turns c.in_ok-went.went.stepped _ _ =
    made_steps t hosts c.args.turns c.main_of-main.result.0 c.main_of-main.ensures code c.in_ok-code.ensures c.in_ok-machine.machine _ _ made c.in_ok-enter.ensures _ _ c.in_ok-gate.ensures c.in_ok-went.went.stepped _ _ (λ (h : Heard). false) c.in_ok-went.ensures in
    let told = ran c.lowering_keeps_the_run.ensures c.bytes_are_the_runs.ensures t hosts c.args.turns c.requires c.args.program.now.well_formed c.in_ok-went.went.stepped _ _ steps
    c.in_ok-end.end c.in_ok-end.ensures c.turns.result c.turns.ensures c.into_written.result.items c.into_written.ensures in
    record { bytes = told.bytes_are; end_is = told.end_is; turns_are = told.turns_are }
