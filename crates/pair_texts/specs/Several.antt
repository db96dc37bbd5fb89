-- Texts of several pairs: of one program, one host table and one policy, and with an input for each.
use Rattle.std.specs.Prelude.{◌≡◌, ◌≤◌, ℕ, List, [], ◌∷◌, Some, IsTrue, length, map, slice_get, take, ⊤}
use Rattle.typed_tree.specs.TypedTree.{TypedTree, signatures_of}
use Rattle.typed_tree.specs.WellFormed.{is_well_formed}
use Rattle.front_end.specs.Reading.{HasTypedTree}
use Rattle.host_table.specs.Hosts.{hosts_of}
use Rattle.host_table.specs.Whole.{HasHosts}
use Rattle.policy.specs.PolicyFault.{IsPolicy}
use Rattle.policy.specs.Verdicts.{start}
use Rattle.flow_rules.specs.declared.accepted.Accepted.{Accepted}
use Rattle.flow_rules.specs.Faults.{IsAccepted}
use Rattle.program_halves.specs.ProgramHalves.{monitor_half, slave_half}
use Rattle.pt_core.specs.CodeTree.{view_monitor, view_slave}
use Rattle.stages.specs.Climb as stage
use Rattle.stages.specs.Climb.{IsRefused, Refusal, Texts, as_written, of_pair}
use Rattle.stages.specs.GivenHosts.{GivesHosts, most}
use Rattle.stages.specs.Seen.{IsHalt, view_refusal}
use Rattle.stages.specs.declared.climbs.GivenTexts.{GivenTexts}
use Rattle.stages.specs.declared.refusal.Stop.{Stop}
use Rattle.stages.specs.declared.refusal.Stop.TheVariants as stop
use Rattle.stages.specs.declared.refusal.Stop.TheVariants.{Refused}
use Rattle.pair_texts.specs.declared.sharing.Shared.{Shared}
use Rattle.pair_texts.specs.Start.{names_of}

-- ---- texts

-- the texts that several pairs share
pub record SharedTexts : Type 0 where
  pub program : List ℕ
  pub host : List ℕ
  pub policy : List ℕ

-- those of the pair with this input
abbrev pub with_input : SharedTexts → List ℕ → Texts
with_input t input = record { program = t.program; host = t.host; policy = t.policy; input = input; way = as_written }

abbrev pub shared_with : GivenTexts → SharedTexts
shared_with given = record { program = given.program.now; host = given.host.now; policy = given.policy.now }

-- One of the pairs is refused so. A fault of another stage than that of inputs is one of all.
abbrev pub IsOneRefused : SharedTexts → List (List ℕ) → Refusal → Type 0
IsOneRefused t inputs r = (place : ℕ) × (input : List ℕ) × (slice_get inputs place ≡ Some input) × IsRefused of_pair (with_input t input) r

-- they stop so; want of memory tells nothing
abbrev pub StopOne : SharedTexts → List (List ℕ) → Stop → Type 0
StopOne t inputs (Refused r) = IsOneRefused t inputs (view_refusal r)
StopOne t inputs stop.Memory = ⊤

-- none of the inputs is too long
abbrev pub AreShort : List (List ℕ) → Type 0
AreShort [] = ⊤
AreShort (input ∷ inputs) = (length input ≤ most) × AreShort inputs

-- one of the inputs stops at its stage so, whatever stands beside it
pub record IsHaltOfOne (inputs : List (List ℕ)) (e : Stop) : Type 0 where
  pub place : ℕ
  pub input : List ℕ
  pub stands : slice_get inputs place ≡ Some input
  pub halts : (t : Texts) (tree : TypedTree) → t.input ≡ input → IsHalt (stage.inputs ∷ []) t tree e

-- of each text these are the first bytes, one more than it may have
pub record AreCutShared (whole cut : SharedTexts) : Type 0 where
  pub program : cut.program ≡ take 1048577 whole.program
  pub host : cut.host ≡ take 1048577 whole.host
  pub policy : cut.policy ≡ take 1048577 whole.policy

-- the same of each input
abbrev pub AreCutInputs : List (List ℕ) → List (List ℕ) → Type 0
AreCutInputs whole cut = cut ≡ map (take 1048577) whole

-- ---- what the pairs share

-- The texts pass all stages before that of inputs, and the pairs share this: the two halves of the program, the table's hosts, the policy
-- at its start and the names of the program's functions.
pub record AreShared (t : SharedTexts) (x : Shared) : Type 0 where
  pub tree : TypedTree
  pub accepted : Accepted
  pub has : HasTypedTree t.program tree
  pub well_formed : IsTrue (is_well_formed tree)
  pub given : GivesHosts t.host tree (hosts_of x.hosts)
  pub fit : HasHosts (hosts_of x.hosts) (signatures_of tree)
  pub rules : IsPolicy (signatures_of tree) t.policy x.policy.rules
  pub begins : x.policy ≡ start x.policy.rules
  pub is : IsAccepted tree accepted
  pub slave_is : view_slave x.slave ≡ slave_half tree accepted
  pub monitor_is : view_monitor x.monitor ≡ monitor_half tree accepted
  pub names_are : x.names ≡ names_of tree
