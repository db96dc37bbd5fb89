-- What the hosts of a table without faults have.
use Rattle.std.specs.Prelude.{◌≡◌, ℕ, true, List, Some, IsSome, slice_get}
use Rattle.host_models.specs.Fitting.{fits}
use Rattle.pt_tree.specs.declared.host_model.HostModel.{HostModel}
use Rattle.pt_tree.specs.declared.signature.Signature.{Signature}
use Rattle.host_table.specs.Hosts.{Hosts}

-- each host among these functions has a model, which fits it
pub record HasHosts (hosts : Hosts) (fns : List Signature) : Type 0 where
  pub model : (f : ℕ) (s : Signature) → slice_get fns f ≡ Some s → s.host ≡ true → IsSome (hosts.models f)
  pub fit : (f : ℕ) (s : Signature) (model : HostModel) → slice_get fns f ≡ Some s → hosts.models f ≡ Some model → fits model s ≡ true
