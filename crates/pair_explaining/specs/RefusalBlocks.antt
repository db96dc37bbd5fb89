-- The blocks that explain why texts are refused.
use Rattle.std.specs.Prelude.{◌≡◌, ℕ, List, ⊤}
use Rattle.std.specs.List.{flat_map}
use Rattle.std.specs.List.Sorted.{IsStrictlySortedBy}
use Rattle.flow_rules.specs.Faults.{fault_cmp}
use Rattle.stages.specs.Climb.{Refusal, Texts, lex, parse, types, host, policy, flow, input}
use Rattle.explaining.specs.Explains.{AreFlowBlocks}
use Rattle.explaining.specs.FrontBlocks.{lex_block, parse_block, type_block}
use Rattle.pair_explaining.specs.HostBlocks.{host_block}
use Rattle.pair_explaining.specs.PairNames.{Names}
use Rattle.pair_explaining.specs.PolicyBlocks.{policy_block}

-- the report has a block for each of these faults; an input has none that is told
abbrev pub AreBlocks : Names → Texts → Refusal → List ℕ → Type 0
AreBlocks names t (lex fault) report = report ≡ lex_block names.program t.program fault
AreBlocks names t (parse fault) report = report ≡ parse_block names.program t.program fault
AreBlocks names t (types faults) report = report ≡ flat_map (type_block names.program t.program) faults
AreBlocks names t (host tree faults) report = report ≡ flat_map (host_block names t.program tree) faults
AreBlocks names t (policy fault) report = report ≡ policy_block names.policy t.policy fault
AreBlocks names t (flow tree faults) report = AreFlowBlocks names.program t.program tree faults report
AreBlocks names t input report = ⊥

-- blocks tell of it: it isn't of the input, and faults of flows stand each once and in order
abbrev pub IsTold : Refusal → Type 0
IsTold (lex fault) = ⊤
IsTold (parse fault) = ⊤
IsTold (types faults) = ⊤
IsTold (host tree faults) = ⊤
IsTold (policy fault) = ⊤
IsTold (flow tree faults) = IsStrictlySortedBy fault_cmp faults
IsTold input = ⊥
