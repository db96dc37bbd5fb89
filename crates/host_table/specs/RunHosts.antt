-- What a run has of the hosts of a table: a model for every number.
use Rattle.std.specs.Prelude.{◌≡◌, ℕ, ℤ, pos, List, [], Option, Some, None}
use Rattle.pt_tree.specs.declared.host_model.HostModel.{HostModel}
use Rattle.pt_tree.specs.declared.host_model.HostModel.TheVariants.{Table}
use Rattle.pt_tree.specs.HostStep.{Answer, host_step}
use Rattle.runs.specs.State.{Hosts, put_host}
use Rattle.host_table.specs.Hosts as table

-- what stands for a number that no host has: it answers 0
abbrev pub no_model : HostModel
no_model = Table [] (pos 0)

abbrev pub model_or_none : Option HostModel → HostModel
model_or_none (Some model) = model
model_or_none None = no_model

-- what stands for each number
abbrev pub models_of : (ℕ → Option HostModel) → Hosts
models_of models f = model_or_none (models f)

-- what a call of this number gives in a run
abbrev pub answer_in : table.Hosts → ℕ → List ℤ → Answer
answer_in hosts f args = host_step hosts.input (models_of hosts.models f) args

-- the hosts of a run after a call of this number, behind which this model stands for it
pub record AreAfter (old : table.Hosts) (f : ℕ) (next : HostModel) (new : table.Hosts) : Type 0 where
  pub models : models_of new.models ≡ put_host (models_of old.models) f next
  pub input : new.input ≡ old.input
