use Rattle.std.proofs.Common.{◌≡◌, drop}
use Rattle.std.specs.List.{list_all}
use Rattle.host_models.specs.Fitting.{fits}
use Rattle.pt_core.specs.CodeTree.{numbered, view_boot}
use Rattle.pt_core.specs.WellFormed.{boot_program, host_fits}
use Rattle.boot_rules.proofs.hosts.hosts_fit.Given as goal

abbrev pub invariant-loop-host : goal.invariant-loop-host
invariant-loop-host l =
    list_all (host_fits fits (boot_program (view_boot l.candidate.boot.now))) (numbered (drop l.host-index l.hosts)) ≡ list_all (host_fits fits (boot_program (view_boot l.candidate.boot.now))) (numbered l.fn.hosts)
