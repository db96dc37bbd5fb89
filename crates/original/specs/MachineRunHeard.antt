-- What a run's machine hears of hosts through its gate.
use Rattle.std.specs.Prelude.{ℕ, Bool, List}
use Rattle.pt_tree.specs.declared.host_model.HostModel.{HostModel}

pub record Heard : Type 0 where
  -- what stands for each function of the program
  pub models : List HostModel
  -- the input of the run
  pub input : List ℕ
  -- what was written so far
  pub bytes : List ℕ
  -- of each function, whether it is a host
  pub is_host : List Bool
