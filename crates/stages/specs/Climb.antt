-- How far the texts of a program come: the stages that they go through, and the first that refuses them.
use Rattle.std.specs.Prelude.{◌≡◌, ◌≢◌, ◌<◌, ◌≤◌, ◌⊎◌, ℕ, List, [], ◌∷◌, length, ⊤}
use Rattle.c_lexer.specs.declared.error.LexFault.{LexFault}
use Rattle.check_declarations.specs.declared.fault.TypeFault.{TypeFault}
use Rattle.typed_tree.specs.TypedTree.{TypedTree, signatures_of}
use Rattle.front_end.specs.declared.parse_fault.ParseFault.{ParseFault}
use Rattle.front_end.specs.Reading.{HasTypedTree, ComesTo as ReadsAs, lex_fault, parse_fault, type_faults_of}
use Rattle.host_table.specs.declared.fault.HostFault.{HostFault}
use Rattle.host_table.specs.HostFaults.{host_faults}
use Rattle.host_table.specs.Hosts.{Hosts}
use Rattle.policy.specs.declared.error.PolicyFault.{PolicyFault}
use Rattle.policy.specs.declared.rule.Rule.{Rule}
use Rattle.policy.specs.PolicyFault.{IsPolicy, IsPolicyFault}
use Rattle.flow_rules.specs.declared.accepted.Accepted.{Accepted}
use Rattle.flow_rules.specs.declared.fault.FlowFault.{FlowFault}
use Rattle.flow_rules.specs.Faults.{IsAccepted}
use Rattle.stages.specs.FlowFaults.{HasFlowFaults}
use Rattle.stages.specs.GivenHosts.{GivesHosts, most}

-- Which program is run of a text: the one that is written there, or that with a request in the place of each operator on
-- privileged values. No stage asks for it: what a request is, is said where texts are lifted.
pub data Way : Type 0 where
  as_written : Way
  with_requests : Way

-- A program's text, and those beside it that a command has.
pub record Texts : Type 0 where
  pub program : List ℕ
  pub host : List ℕ
  pub policy : List ℕ
  pub input : List ℕ
  pub way : Way

-- a program's text with nothing beside it
abbrev pub alone : List ℕ → Texts
alone text = record { program = text; host = []; policy = []; input = []; way = as_written }

-- Why texts aren't taken further: the faults of the first stage that has one.
pub data Refusal : Type 0 where
  lex : LexFault → Refusal
  parse : ParseFault → Refusal
  types : List TypeFault → Refusal
  -- the faults of the host table for the program of this tree
  host : TypedTree → List HostFault → Refusal
  policy : PolicyFault → Refusal
  -- the faults of the flows of the program of this tree
  flow : TypedTree → List FlowFault → Refusal
  -- the input is too long
  input : Refusal

-- What a command asks of a program that has a typed tree.
pub data Stage : Type 0 where
  hosts : Stage
  rules : Stage
  flows : Stage
  inputs : Stage

-- the texts pass this stage
abbrev pub Passes : Stage → Texts → TypedTree → Type 0
Passes hosts t tree = (given : Hosts) × GivesHosts t.host tree given
Passes rules t tree = (read : List Rule) × IsPolicy (signatures_of tree) t.policy read
Passes flows t tree = (a : Accepted) × IsAccepted tree a
Passes inputs t tree = length t.input ≤ most

-- they don't, and this is why
abbrev pub Fails : Stage → Texts → TypedTree → Refusal → Type 0
Fails hosts t tree r = (faults : List HostFault) × (faults ≡ host_faults t.host (signatures_of tree)) × (faults ≢ []) × (r ≡ host tree faults)
Fails rules t tree r = (fault : PolicyFault) × IsPolicyFault (signatures_of tree) t.policy fault × (r ≡ policy fault)
Fails flows t tree r = (faults : List FlowFault) × HasFlowFaults tree faults × (r ≡ flow tree faults)
Fails inputs t tree r = (most < length t.input) × (r ≡ input)

-- they pass all of these
abbrev pub Pass : List Stage → Texts → TypedTree → Type 0
Pass [] t tree = ⊤
Pass (s ∷ ss) t tree = Passes s t tree × Pass ss t tree

-- the first of these that they don't pass refuses them so
abbrev pub StopsAt : List Stage → Texts → TypedTree → Refusal → Type 0
StopsAt [] t tree r = ⊥
StopsAt (s ∷ ss) t tree r = Fails s t tree r ⊎ (Passes s t tree × StopsAt ss t tree r)

-- the text has no typed tree, and this is why
abbrev pub IsUnread : List ℕ → Refusal → Type 0
IsUnread text (lex fault) = ReadsAs text (lex_fault fault)
IsUnread text (parse fault) = ReadsAs text (parse_fault fault)
IsUnread text (types faults) = ReadsAs text (type_faults_of faults)
IsUnread text (host tree faults) = ⊥
IsUnread text (policy fault) = ⊥
IsUnread text (flow tree faults) = ⊥
IsUnread text input = ⊥

-- a command that climbs these stages refuses the texts so
abbrev pub IsRefused : List Stage → Texts → Refusal → Type 0
IsRefused ss t r = IsUnread t.program r ⊎ ((tree : TypedTree) × HasTypedTree t.program tree × StopsAt ss t tree r)

-- the texts pass, and the program has this tree
abbrev pub HasPassed : List Stage → Texts → TypedTree → Type 0
HasPassed ss t tree = HasTypedTree t.program tree × Pass ss t tree

-- what the run of a pair asks for
abbrev pub of_pair : List Stage
of_pair = hosts ∷ rules ∷ flows ∷ inputs ∷ []
