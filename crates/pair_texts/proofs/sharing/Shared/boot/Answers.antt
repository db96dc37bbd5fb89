use Rattle.std.proofs.Common.{◌≡◌, IfOk, subst}
use Rattle.host_table.specs.Hosts.{hosts_of}
use Rattle.host_table.specs.RunHosts.{models_of}
use Rattle.pt_core.specs.CodeTree.{SlaveTree, view_boot}
use Rattle.pair_meaning.specs.Start.{boot_of}
use Rattle.pair_texts.proofs.sharing.Shared.boot.Goals as goal

pub returns : goal.returns
returns c =
    subst (λ (s : SlaveTree). IfOk c.boot_with.result (λ boot. view_boot boot ≡ boot_of s (models_of (hosts_of c.args.self.now.hosts).models) c.args.input.now c.args.turns)) c.in_ok-slave.ensures c.boot_with.ensures
