-- The block that explains a fault of a host table: a sentence, and the line that `local` reports. The fault of an
-- entry is told where the program declares its host, with that line and a mark under it. An empty line ends a block.
use Rattle.std.specs.Prelude.{ℕ, List, [], ◌++◌, Option, codes, option_and_then}
use Rattle.std.specs.Option.{option_map_or}
use Rattle.refusal_lines.specs.HostLines.{host_line}
use Rattle.host_table.specs.declared.fault.HostFault.{HostFault}
use Rattle.host_table.specs.ReportLines.{faulty_function}
use Rattle.typed_tree.specs.Lookup.{function_at}
use Rattle.typed_tree.specs.TypedTree.{FunctionTree, TypedTree}
use Rattle.source_places.specs.declared.place.Place.{Place}
use Rattle.source_places.specs.Heads.{head, head_of}
use Rattle.explaining.specs.FrontBlocks.{span_excerpt}
use Rattle.pair_explaining.specs.PairNames.{Names}
use Rattle.pair_explaining.specs.PairSentences.{host_sentence}

-- where a text begins
abbrev pub first_place : Place
first_place = record { line = 1; column = 1 }

-- the host whose entry has the fault; None where the whole table has it
abbrev pub faulty_host : TypedTree → HostFault → Option FunctionTree
faulty_host t fault = option_and_then (function_at t) (faulty_function fault)

-- what is said of the entry of a host, with the line of the host's declaration
abbrev pub entry_text : List ℕ → List ℕ → HostFault → FunctionTree → List ℕ
entry_text name text fault f = head name text f.name.from ++ host_sentence fault f.signature.name ++ codes "\n" ++ span_excerpt text f.name

-- what is said of the whole table in the file of this name
abbrev pub table_text : List ℕ → HostFault → List ℕ
table_text name fault = head_of name first_place ++ host_sentence fault [] ++ codes "\n"

abbrev pub host_text : Names → List ℕ → TypedTree → HostFault → List ℕ
host_text names text t fault = option_map_or (entry_text names.program text fault) (faulty_host t fault) (table_text names.host fault)

-- of the program of this text
abbrev pub host_block : Names → List ℕ → TypedTree → HostFault → List ℕ
host_block names text t fault = host_text names text t fault ++ host_line t fault ++ codes "\n"
