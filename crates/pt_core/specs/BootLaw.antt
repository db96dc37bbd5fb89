-- What a boot adds to the slave's program.
use Rattle.std.specs.Prelude.{ℕ, List, ◌↔◌, IsTrue}
use Rattle.pt_tree.specs.declared.host_model.HostModel.{HostModel}
use Rattle.pt_core.specs.CodeTree.{SlaveTree, BootTree}
use Rattle.pt_core.specs.WellFormed.{Fits, slave_program, hosts_fit, is_well_formed_slave, is_well_formed_boot}

-- the slave's program with these models for its hosts, this input and so many turns
abbrev pub boot_with : SlaveTree → List (ℕ × HostModel) → List ℕ → ℕ → BootTree
boot_with s hosts input turns = record {
  structs = s.structs;
  signatures = s.signatures;
  functions = s.functions;
  globals = s.globals;
  hosts = hosts;
  input = input;
  turns = turns;
}

-- a boot is well formed exactly where the slave's program is, and the models fit the hosts that it calls
abbrev pub BootsAddHosts : Type 0
BootsAddHosts = (fits : Fits) (s : SlaveTree) (hosts : List (ℕ × HostModel)) (input : List ℕ) (turns : ℕ)
    → IsTrue (is_well_formed_boot fits (boot_with s hosts input turns)) ↔ (IsTrue (is_well_formed_slave s) × IsTrue (hosts_fit fits (slave_program s) hosts))
