use Rattle.std.proofs.Common.{◌∙◌, ap, true, List, nat_eq}
use Rattle.std.specs.Prelude.{unwrap_or}
use Rattle.std.specs.Map.{lookup}
use Rattle.host_table.specs.Hosts.{hosts_of}
use Rattle.monitor_interp.specs.declared.marks.Mark.{Mark}
use Rattle.monitor_interp.specs.Gates.{is_host_in}
use Rattle.monitor_interp.specs.Heard.{Heard}
use Rattle.monitor_interp.proofs.GateLemmas.{host_is, marked}
use Rattle.monitor_interp.proofs.gate.BytesGate.is_host.Goals as goal

pub returns : goal.returns
returns c =
    c.is_host.ensures
    ∙ ap (λ (ms : List Mark). unwrap_or (lookup (nat_eq c.args.f.0) (marked ms)) true) c.as_slice.ensures.value
    ∙ host_is (hosts_of c.self.inside.hosts) c.self.inside.written.items c.self.inside.marks.items c.args.f.0
    ∙ ap (λ (h : Heard). is_host_in h c.args.f.0) c.self.view_is
