use Rattle.std.proofs.Common.{Some, ap, sym, ◌∙◌}
use Rattle.host_table.specs.Hosts.{hosts_of}
use Rattle.host_table.proofs.ModelLemmas.{place_model, place_read}
use Rattle.host_table.proofs.host.Host.model.Goals as goal

pub returns-in-Some : goal.returns-in-Some
unfolding hosts_of
returns-in-Some c =
    ap (λ m. Some m.1) (place_read _ _ _ c.in-Some.ensures c.index.result.now c.index.ensures)
    ∙ sym (place_model _ _ _ c.args.self.now.ordered c.in-Some.ensures)
