-- Where a stage stops a climb, and where the climb of several stages stops then.
use Rattle.std.proofs.Common.{◌≡◌, ◌≢◌, ◌<◌, ◌∙◌, ℕ, List, [], ◌∷◌, length, Result, Ok, Err, refl, sym, ap, subst, inl, inr}
use Rattle.std.specs.Prelude.{IfErr}
use Rattle.pt_tree.specs.declared.signature.Signature.{Signature}
use Rattle.typed_tree.specs.declared.typed.Typed.{Typed}
use Rattle.typed_tree.specs.TypedTree.{TypedTree, signatures_of}
use Rattle.typed_tree.specs.TypedView.{view_typed}
use Rattle.front_end.specs.declared.error.FrontError.{FrontError}
use Rattle.front_end.specs.declared.error.FrontError.TheVariants.{Lex, Parse, Types, Memory}
use Rattle.front_end.specs.Reading.{HasTypedTree, Reads, ComesTo as ReadsAs, lex_fault, parse_fault, type_faults_of}
use Rattle.host_table.specs.declared.fault.HostFault.{HostFault}
use Rattle.host_table.specs.declared.fault.HostError.{HostError}
use Rattle.host_table.specs.declared.fault.HostError.TheVariants as tables
use Rattle.host_table.specs.declared.host.Host.{Host}
use Rattle.host_table.specs.HostFaults.{host_faults, IsReading}
use Rattle.host_table.specs.Hosts.{hosts_of}
use Rattle.host_table.specs.Whole.{HasHosts}
use Rattle.policy.specs.declared.error.PolicyError.{PolicyError}
use Rattle.policy.specs.declared.error.PolicyError.TheVariants as lines
use Rattle.policy.specs.PolicyFault.{IsPolicy, IsPolicyError, IsPolicyFault}
use Rattle.policy.specs.Verdicts.{Standing, start}
use Rattle.flow_rules.specs.declared.accepted.Accepted.{Accepted}
use Rattle.flow_rules.specs.declared.fault.FlowError.{FlowError}
use Rattle.flow_rules.specs.declared.fault.FlowError.TheVariants as flowing
use Rattle.flow_rules.specs.declared.fault.FlowFault.{FlowFault}
use Rattle.flow_rules.specs.Faults.{IsAccepted}
use Rattle.stages.specs.declared.climbs.GivenTexts.{GivenTexts}
use Rattle.stages.specs.declared.refusal.Stop.{Stop}
use Rattle.stages.specs.declared.refusal.Stop.TheVariants as stop
use Rattle.stages.specs.Climb.{Passes, Stage, StopsAt, Texts, host, flow, input, hosts, rules, flows, inputs}
use Rattle.stages.specs.FlowFaults.{HasFlowFaults}
use Rattle.stages.specs.GivenHosts.{GivesHosts, most}
use Rattle.stages.specs.Seen.{AreGiven, HavePassed, IsHalt, IsJudged, IsStop}
use Rattle.stages.specs.Stops.{front_stop, policy_stop}

-- ---- one stage

pub front_stops : (ss : List Stage) (t : Texts) (text : List ℕ) (e : FrontError) → Reads text (Err e) → t.program ≡ text → IsStop ss t (front_stop e)
front_stops ss t text (Lex fault) reads same = inl (subst (λ (xs : List ℕ). ReadsAs xs (lex_fault fault)) (sym same) reads)
front_stops ss t text (Parse fault) reads same = inl (subst (λ (xs : List ℕ). ReadsAs xs (parse_fault fault)) (sym same) reads)
front_stops ss t text (Types faults) reads same = inl (subst (λ (xs : List ℕ). ReadsAs xs (type_faults_of faults.items)) (sym same) reads)
front_stops ss t text Memory reads same = tt

-- the faults that reading a table answered
pub table_faults : (text : List ℕ) (fns : List Signature) (r : Result Host HostError) (e : HostError) (faults : List HostFault) → IsReading text fns r
    → r ≡ Err e → e ≡ tables.Faults faults → (faults ≡ host_faults text fns) × (faults ≢ [])
table_faults text fns r e faults reading is same = subst (IsReading text fns) (is ∙ ap Err same) reading

pub host_stops : (ss : List Stage) (t : Texts) (tree : TypedTree) (text : List ℕ) (faults : List HostFault) → (faults ≡ host_faults text (signatures_of tree)) × (faults ≢ [])
    → t.host ≡ text → StopsAt (hosts ∷ ss) t tree (host tree faults)
host_stops ss t tree text faults found same = inl (faults, found.0 ∙ ap (λ (xs : List ℕ). host_faults xs (signatures_of tree)) (sym same), found.1, refl)

pub policy_stops : (ss : List Stage) (t : Texts) (tree : TypedTree) (text : List ℕ) (e : PolicyError) → IsPolicyError (signatures_of tree) text e → t.policy ≡ text
    → IsHalt (rules ∷ ss) t tree (policy_stop e)
policy_stops ss t tree text (lines.Fault fault) is same = inl (fault, subst (λ (xs : List ℕ). IsPolicyFault (signatures_of tree) xs fault) (sym same) is, refl)
policy_stops ss t tree text lines.Memory is same = tt

-- the faults that judging a program answered
pub flow_faults : (tree : TypedTree) (r : Result Accepted FlowError) (e : FlowError) (faults : List FlowFault) → IsJudged tree r → r ≡ Err e → e ≡ flowing.Faults faults
    → HasFlowFaults tree faults
flow_faults tree r e faults judged is same = subst (IsJudged tree) (is ∙ ap Err same) judged

pub flow_stops : (ss : List Stage) (t : Texts) (tree : TypedTree) (faults : List FlowFault) → HasFlowFaults tree faults → StopsAt (flows ∷ ss) t tree (flow tree faults)
flow_stops ss t tree faults has = inl (faults, has, refl)

pub input_stops : (ss : List Stage) (t : Texts) (tree : TypedTree) (text : List ℕ) → most < length text → t.input ≡ text → StopsAt (inputs ∷ ss) t tree input
input_stops ss t tree text long same = inl (subst (λ (xs : List ℕ). most < length xs) (sym same) long, refl)

-- ---- several

-- what stops a program of this tree stops the climb
pub halted : (ss : List Stage) (t : Texts) (tree : TypedTree) (e : Stop) → HasTypedTree t.program tree → IsHalt ss t tree e → IsStop ss t e
halted ss t tree (stop.Refused r) has x = inr (tree, has, x)
halted ss t tree stop.Memory has x = tt

pub answer_halted : {A : Type 0} (ss : List Stage) (t : Texts) (tree : TypedTree) (r : Result A Stop) → HasTypedTree t.program tree → IfErr r (IsHalt ss t tree) → IfErr r (IsStop ss t)
answer_halted ss t tree (Ok x) has is = tt
answer_halted ss t tree (Err e) has is = halted ss t tree e has is

-- what stops a climb behind a stage that is passed stops it with that stage
pub halted_behind : (s : Stage) (ss : List Stage) (t : Texts) (tree : TypedTree) (e : Stop) → Passes s t tree → IsHalt ss t tree e → IsHalt (s ∷ ss) t tree e
halted_behind s ss t tree (stop.Refused r) p x = inr (p, x)
halted_behind s ss t tree stop.Memory p x = tt

-- what holds of two parts holds of what they are called
pub moved : {A B : Type 0} (P : A → B → Type 0) (x y : A) (a b : B) → x ≡ y → a ≡ b → P x a → P y b
moved P x y a b e f h = subst (λ c. P y c) f (subst (λ z. P z a) e h)

-- ---- the stages before the input

module _ (t : Texts) (g : GivenTexts) (are : AreGiven t g) (read : Typed) (has : HasTypedTree g.program.now (view_typed read)) where
  -- the program is the one that was read
  pub has_tree : (p : Typed) → p ≡ read → HasTypedTree t.program (view_typed p)
  has_tree p same = subst (λ (xs : List ℕ). HasTypedTree xs (view_typed p)) (sym are.program) (subst (λ (q : Typed). HasTypedTree g.program.now (view_typed q)) (sym same) has)

  pub passes_hosts : (p : Typed) (given : Host) → GivesHosts g.host.now (view_typed p) (hosts_of given) → Passes hosts t (view_typed p)
  passes_hosts p given gives = (hosts_of given, subst (λ (xs : List ℕ). GivesHosts xs (view_typed p) (hosts_of given)) (sym are.host) gives)

  pub passes_rules : (p : Typed) (standing : Standing) → IsPolicy (signatures_of (view_typed p)) g.policy.now standing.rules → Passes rules t (view_typed p)
  passes_rules p standing is = (standing.rules, subst (λ (xs : List ℕ). IsPolicy (signatures_of (view_typed p)) xs standing.rules) (sym are.policy) is)

  pub have_passed : (p judged : Typed) (given : Host) (standing : Standing) (a : Accepted) → p ≡ read → GivesHosts g.host.now (view_typed p) (hosts_of given)
      → HasHosts (hosts_of given) (signatures_of (view_typed p)) → IsPolicy (signatures_of (view_typed p)) g.policy.now standing.rules → standing ≡ start standing.rules
      → judged ≡ p → IsAccepted (view_typed judged) a → HavePassed t (record { program = judged; hosts = given; policy = standing; accepted = a })
  unfolding hosts_of passes_hosts passes_rules
  have_passed p judged given standing a same gives fit is begins same' accepted = record {
    tree = has_tree judged (same' ∙ same);
    given = subst (λ (q : Typed). GivesHosts t.host (view_typed q) (hosts_of given)) (sym same') (passes_hosts p given gives).1;
    fit = subst (λ (q : Typed). HasHosts (hosts_of given) (signatures_of (view_typed q))) (sym same') fit;
    rules = subst (λ (q : Typed). IsPolicy (signatures_of (view_typed q)) t.policy standing.rules) (sym same') (passes_rules p standing is).1;
    begins = begins;
    accepted = accepted;
  }
