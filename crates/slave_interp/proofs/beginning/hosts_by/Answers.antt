use Rattle.std.proofs.Common.{List, ℕ, nat_eq, subst, sym}
use Rattle.std.specs.List.{IsDistinct}
use Rattle.std.specs.Map.{keys_of}
use Rattle.pt_tree.specs.declared.host_model.HostModel.{HostModel}
use Rattle.host_table.specs.Hosts.{hosts_of}
use Rattle.pt_core.specs.CodeTree.{numbered}
use Rattle.slave_interp.proofs.BeginLemmas.{hosts_with, models_differ}
use Rattle.slave_interp.proofs.beginning.hosts_by.Goals as goal

pub from_models-hosts-requires : goal.from_models-hosts-requires
from_models-hosts-requires c = subst (λ (hs : List (ℕ × HostModel)). IsDistinct nat_eq (keys_of hs)) (sym c.in_ok-models.ensures) (models_differ (numbered c.args.models.now) c.requires)

pub returns : goal.returns
returns c = hosts_with _ (hosts_of c.give.new.self) c.in_ok-models.models.items (numbered c.args.models.now) c.args.input.now c.from_models-hosts.ensures c.in_ok-models.ensures c.in_ok-give.ensures.ok
