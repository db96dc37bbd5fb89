-- What a monitor's machine hears of hosts through its gate.
use Rattle.std.specs.Prelude.{ℕ, Bool, List}
use Rattle.pt_tree.specs.declared.host_model.HostModel.{HostModel}

-- a function or host of the program, and what stands for it
pub record Known : Type 0 where
  pub number : ℕ
  pub host : Bool
  pub model : HostModel

pub record Heard : Type 0 where
  pub known : List Known
  -- the input of the run
  pub input : List ℕ
  -- what was written and not handed out yet
  pub bytes : List ℕ
