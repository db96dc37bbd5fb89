use Rattle.std.proofs.Common.{◌≡◌, ◌++◌, drop, map}
use Rattle.host_table.specs.Hosts.{hosts_of}
use Rattle.host_table.specs.RunHosts.{models_of}
use Rattle.pt_core.specs.CodeTree.{numbered}
use Rattle.pair_meaning.specs.Start.{models_for}
use Rattle.pair_texts.proofs.models.models_for.Given as goal

abbrev pub invariant-loop-f : goal.invariant-loop-f
invariant-loop-f l =
    numbered l.models.items ++ models_for (models_of (hosts_of l.hosts).models) (map (λ f. f.0) (drop l.f-index l.of))
    ≡ models_for (models_of (hosts_of l.hosts).models) (map (λ f. f.0) l.fn.of)
