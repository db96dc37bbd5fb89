-- What the machine of a slave hears through its gate.
use Rattle.std.specs.Prelude.{ℕ, List, Option}
use Rattle.pt_tree.specs.declared.host_model.HostModel.{HostModel}
use Rattle.pt_tree.specs.declared.signature.Signature.{Signature}

pub record Hearing : Type 0 where
  -- what functions and hosts are called with
  pub signatures : List (ℕ × Signature)
  -- what stands for each of them
  pub models : List (ℕ × HostModel)
  -- the input of the run
  pub input : List ℕ
  -- what the call of a host made last wrote, if it did
  pub wrote : Option (List ℕ)
