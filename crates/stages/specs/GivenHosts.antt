-- What a host table gives, and how long an input may be.
use Rattle.std.specs.Prelude.{◌≡◌, ℕ, List, [], Some, option_map}
use Rattle.typed_tree.specs.TypedTree.{TypedTree, signatures_of}
use Rattle.host_table.specs.HostFaults.{host_faults, reading_of, table_hosts}
use Rattle.host_table.specs.Hosts.{Hosts}

-- the most bytes that an input may have
abbrev pub most : ℕ
most = 1048576

-- the table has no faults for the program of this tree, and gives these hosts
pub record GivesHosts (table : List ℕ) (tree : TypedTree) (hosts : Hosts) : Type 0 where
  pub faultless : host_faults table (signatures_of tree) ≡ []
  pub given : option_map (λ value. table_hosts value (signatures_of tree)) (reading_of table) ≡ Some hosts
