-- What contracts see of answers.
use Rattle.std.specs.Prelude.{◌≡◌, List, Result, Ok, Err, length, ⊤}
use Rattle.front_end.specs.Reading.{HasTypedTree}
use Rattle.host_table.specs.Hosts.{hosts_of}
use Rattle.host_table.specs.Whole.{HasHosts}
use Rattle.policy.specs.PolicyFault.{IsPolicy}
use Rattle.policy.specs.Verdicts.{start}
use Rattle.propagation.specs.Marks.{AreMarks}
use Rattle.sides.specs.Placed.{AreSides}
use Rattle.sides.specs.Slots.{slots_of}
use Rattle.typed_tree.specs.TypedTree.{TypedTree, signatures_of}
use Rattle.typed_tree.specs.TypedView.{view_typed}
use Rattle.flow_rules.specs.declared.accepted.Accepted.{Accepted}
use Rattle.flow_rules.specs.declared.fault.FlowError.{FlowError}
use Rattle.flow_rules.specs.declared.fault.FlowError.TheVariants as flowing
use Rattle.flow_rules.specs.Faults.{IsAccepted, edges_of_all}
use Rattle.stages.specs.declared.climbs.GivenTexts.{GivenTexts}
use Rattle.stages.specs.declared.climbs.PassedTexts.{PassedTexts}
use Rattle.stages.specs.declared.refusal.Refusal as code
use Rattle.stages.specs.declared.refusal.Refusal.TheVariants.{Lex, Parse, Types, Host, Policy, Flow, Input}
use Rattle.stages.specs.declared.refusal.Stop.{Stop}
use Rattle.stages.specs.declared.refusal.Stop.TheVariants.{Refused, Memory}
use Rattle.stages.specs.declared.tracing.Traced.{Traced}
use Rattle.stages.specs.Climb.{IsRefused, Refusal, Stage, StopsAt, Texts, lex, parse, types, host, policy, flow, input}
use Rattle.stages.specs.FlowFaults.{HasFlowFaults}
use Rattle.stages.specs.GivenHosts.{GivesHosts}

-- the refusal as definitions name it
abbrev pub view_refusal : code.Refusal → Refusal
view_refusal (Lex fault) = lex fault
view_refusal (Parse fault) = parse fault
view_refusal (Types faults) = types faults.items
view_refusal (Host program faults) = host (view_typed program) faults
view_refusal (Policy fault) = policy fault
view_refusal (Flow program faults) = flow (view_typed program) faults
view_refusal Input = input

-- a command that climbs these stages stops so; want of memory tells nothing
abbrev pub IsStop : List Stage → Texts → Stop → Type 0
IsStop ss t (Refused r) = IsRefused ss t (view_refusal r)
IsStop ss t Memory = ⊤

-- a rung stops it there, of a program of this tree
abbrev pub IsHalt : List Stage → Texts → TypedTree → Stop → Type 0
IsHalt ss t tree (Refused r) = StopsAt ss t tree (view_refusal r)
IsHalt ss t tree Memory = ⊤

-- The flows of a program as they were traced: its sides, the edges of the slave's functions, and how far secrets come
-- along them.
pub record IsTraced (t : TypedTree) (x : Traced) : Type 0 where
  pub sides : AreSides t x.sides
  pub edges : x.edges ≡ edges_of_all t x.sides
  pub marks : AreMarks x.sides.seeds x.edges (length (slots_of t)) x.marks

-- without a fault what is kept of the program, else all faults of its flows
abbrev pub IsJudged : TypedTree → Result Accepted FlowError → Type 0
IsJudged t (Ok a) = IsAccepted t a
IsJudged t (Err (flowing.Faults fs)) = HasFlowFaults t fs
IsJudged t (Err flowing.Memory) = ⊤

-- these are the texts, whatever the input and the way
pub record AreGiven (t : Texts) (g : GivenTexts) : Type 0 where
  pub program : t.program ≡ g.program.now
  pub host : t.host ≡ g.host.now
  pub policy : t.policy ≡ g.policy.now

-- the texts pass the stages before the input, and this is what those give
pub record HavePassed (t : Texts) (p : PassedTexts) : Type 0 where
  pub tree : HasTypedTree t.program (view_typed p.program)
  pub given : GivesHosts t.host (view_typed p.program) (hosts_of p.hosts)
  pub fit : HasHosts (hosts_of p.hosts) (signatures_of (view_typed p.program))
  pub rules : IsPolicy (signatures_of (view_typed p.program)) t.policy p.policy.rules
  pub begins : p.policy ≡ start p.policy.rules
  pub accepted : IsAccepted (view_typed p.program) p.accepted
