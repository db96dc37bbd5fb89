-- The hosts of a run, and how calls change them.
use Rattle.std.specs.Prelude.{◌≡◌, ℕ, length, slice_get, length, ℤ, Bool, nat_eq, List, [], Option, Some, None, option_map, unwrap_or, if◌then◌else◌}
use Rattle.std.specs.List.{list_any}
use Rattle.std.specs.Map.{lookup}
use Rattle.pt_base.specs.declared.ids.FnId.{FnId}
use Rattle.pt_tree.specs.HostStep.{Answer, host_step}
use Rattle.pt_tree.specs.declared.host_model.HostModel.{HostModel}
use Rattle.pt_tree.specs.declared.host_model.HostModel.TheVariants.{Table, Feed, Input, Bytes, Line}
use Rattle.host_table.specs.declared.host.Host.{Host}

pub record Hosts : Type 0 where
  -- what stands for the function of each number, if it is a host here
  pub models : ℕ → Option HostModel
  -- the input of the run
  pub input : List ℕ

-- what a host shows of itself
unfoldable pub hosts_of : Host → Hosts
hosts_of host = record { models = λ f. lookup (nat_eq f) host.models.items; input = host.input.items }

-- the model of each number in a list of them
abbrev pub models_by : List (ℕ × HostModel) → ℕ → Option HostModel
models_by models f = lookup (nat_eq f) models

-- what a call of one of the hosts gives
abbrev pub call_of : Hosts → ℕ → List ℤ → Option Answer
call_of hosts f args = option_map (λ model. host_step hosts.input model args) (hosts.models f)

-- this model stands for one host, and all else is as before
abbrev pub with_model : Hosts → ℕ → HostModel → Hosts
with_model hosts f model = record { models = λ g. if nat_eq f g then Some model else hosts.models g; input = hosts.input }

-- the bytes that a call writes
abbrev pub bytes_of : Option (List ℕ) → List ℕ
bytes_of written = unwrap_or written []

-- how many answers a model has before it stays at one, with an input of this many bytes
abbrev pub count_of : HostModel → ℕ → ℕ
count_of (Table rows other) bytes = 0
count_of (Feed values other next) bytes = length values
count_of (Input next) bytes = bytes
count_of Bytes bytes = 0
count_of (Line name) bytes = 0

-- the function of this number is listed
abbrev pub is_listed : List FnId → ℕ → Bool
is_listed fns f = list_any (λ g. nat_eq f g.0) fns

-- the listed ones of the hosts, with their input
abbrev pub part_of : Hosts → List FnId → Hosts
part_of hosts fns = record { models = λ f. if is_listed fns f then hosts.models f else None; input = hosts.input }

-- the model of the function of this number stands at place i
pub record IsPlaceOf (models : List (ℕ × HostModel)) (f i : ℕ) : Type 0 where
  pub model : HostModel
  pub stands : slice_get models i ≡ Some (f, model)
