use Rattle.std.proofs.Common.{◌∙◌, ◌<◌, ℕ, List, ap, false, map, refl, subst, sym}
use Rattle.std.specs.Prelude.{All, IsTrue}
use Rattle.pt_base.specs.declared.ids.FnId.{FnId}
use Rattle.pt_tree.specs.declared.host_model.HostModel.{HostModel}
use Rattle.pt_tree.specs.declared.signature.Signature.{Signature}
use Rattle.typed_tree.specs.WellFormed.{are_rising}
use Rattle.host_table.specs.Hosts.{Hosts, hosts_of, models_by}
use Rattle.pt_core.specs.CodeTree.{ProgramTree, numbered, view_boot}
use Rattle.pt_core.specs.WellFormed.{boot_program, is_sound}
use Rattle.core_steps_law.specs.WholeRun.{begun_machine}
use Rattle.core_machine.specs.Machines.{Shown}
use Rattle.slave_interp.proofs.BeginLemmas.{begun_at, boot_sound, hosts_rise, signatures_rise}
use Rattle.slave_interp.proofs.engine.Engine.new.Goals as goal

pub hosts_by-requires : goal.hosts_by-requires
hosts_by-requires c = subst (λ (hs : List (FnId × HostModel)). IsTrue (are_rising 0 (map (λ h. h.0) (numbered hs)))) (sym c.as_slice-2.ensures) (hosts_rise (view_boot c.args.boot) c.requires)

pub begun-requires : goal.begun-requires
begun-requires c = subst (λ (p : ProgramTree). IsTrue (is_sound false p)) (sym c.program_of-code.ensures) (boot_sound (view_boot c.args.boot) c.requires)

pub new-requires-5 : goal.new-requires-5
new-requires-5 c =
    subst (λ (ss : List (ℕ × Signature)). IsTrue (are_rising 0 (map (λ s. s.0) ss)))
    (sym (ap (λ (ss : List (FnId × Signature)). numbered ss) c.replace-signatures.ensures.value ∙ ap (λ (p : ProgramTree). p.signatures) c.program_of-code.ensures))
    (signatures_rise (boot_program (view_boot c.args.boot)) (boot_sound (view_boot c.args.boot) c.requires))

pub returns : goal.returns
returns c =
    let b = view_boot c.args.boot in
    begun_at b _ (hosts_of c.in_ok-hosts.hosts) c.replace-signatures.result c.requires
    (subst (λ (bytes : List ℕ). All (λ x. x < 256) bytes) c.as_slice.ensures c.fit_types.ensures.bytes)
    c.fit_types.ensures.turns
    (subst (λ (p : ProgramTree). Shown p c.in_ok-machine.machine (begun_machine p c.args.boot.turns)) c.program_of-code.ensures c.in_ok-machine.ensures)
    (c.replace-structs.ensures.value ∙ ap (λ (p : ProgramTree). p.structs) c.program_of-code.ensures)
    (ap (λ (ss : List (FnId × Signature)). numbered ss) c.replace-signatures.ensures.value ∙ ap (λ (p : ProgramTree). p.signatures) c.program_of-code.ensures)
    (ap (λ (h : Hosts). h.models) c.in_ok-hosts.ensures ∙ ap (λ (hs : List (FnId × HostModel)). models_by (numbered hs)) c.as_slice-2.ensures)
    (ap (λ (h : Hosts). h.input) c.in_ok-hosts.ensures ∙ c.as_slice-3.ensures)
    c.in_ok-gate.ensures c.new-6.ensures refl refl
