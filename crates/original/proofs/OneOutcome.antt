-- Texts come to one outcome at most.
use Rattle.std.proofs.Common.{◌≡◌, ◌∙◌, ℕ, List, [], ◌∷◌, Some, refl, ap, sym, subst, inl, inr}
use Rattle.typed_tree.specs.TypedTree.{TypedTree}
use Rattle.flow_rules.specs.declared.fault.FlowFault.{FlowFault}
use Rattle.host_table.specs.declared.fault.HostFault.{HostFault}
use Rattle.host_table.specs.Hosts.{Hosts}
use Rattle.host_table.specs.RunHosts.{models_of}
use Rattle.runs.specs.Run.{Run, written}
use Rattle.source_meaning.specs.WholeRun.{whole_run}
use Rattle.stages.specs.Climb.{HasPassed, IsRefused, Refusal, StopsAt, Texts, flow, host, hosts, input, inputs, lex, parse, policy, types}
use Rattle.stages.specs.Commands.{AreAlike, Climb, ComesTo, came, refused, without_ways}
use Rattle.stages.specs.GivenHosts.{GivesHosts}
use Rattle.stages.proofs.Commands.{one_climb}
use Rattle.stages.proofs.OneRefusal.{tree_is_one}
use Rattle.original.specs.Original.{IsOriginal, IsRun, Ran}
use Rattle.original.specs.Laws.{OutcomeIsOne}

some_is : (a b : Hosts) → Some a ≡ Some b → a ≡ b
some_is a b e = cc

run_is_one : (t : Texts) (turns : ℕ) (a b : Run) → IsRun t turns a → IsRun t turns b → a ≡ b
run_is_one t turns a b x y =
    let trees : y.tree ≡ x.tree = tree_is_one t.program y.tree x.tree y.read.program x.read.program in
    let there : GivesHosts t.host x.tree y.hosts = subst (λ (z : TypedTree). GivesHosts t.host z y.hosts) trees y.read.table in
    let one : x.hosts ≡ y.hosts = some_is x.hosts y.hosts (sym x.read.table.given ∙ there.given) in
    let back : x.tree ≡ y.tree = sym trees in
    x.is ∙ (λ i. whole_run (back i) (models_of (one i).models) t.input turns) ∙ sym y.is

original_is_one : (turns : ℕ) (t : Texts) (x y : Ran) → IsOriginal turns t x → IsOriginal turns t y → x ≡ y
original_is_one turns t x y is is' =
    let same : is.0 ≡ is'.0 = run_is_one t turns is.0 is'.0 is.1 is'.1 in
    let bytes : x.bytes ≡ y.bytes = is.2 ∙ ap (λ (r : Run). written r.events) same ∙ sym is'.2 in
    let ends : x.end ≡ y.end = is.3 ∙ ap (λ (r : Run). r.end) same ∙ sym is'.3 in
    λ i. record { bytes = bytes i; end = ends i }

-- what runs has passed
pub original_has_passed : (turns : ℕ) (t : Texts) (x : Ran) → IsOriginal turns t x → (tree : TypedTree) × HasPassed (hosts ∷ inputs ∷ []) t tree
original_has_passed turns t x is = let run = is.1 in (run.tree, (run.read.program, ((run.hosts, run.read.table), (run.short, tt {0}))))

-- ---- without flows there are no ways

not_host : (tree at : TypedTree) (faults : List FlowFault) (found : List HostFault) → flow tree faults ≡ host at found → ⊥
not_host tree at faults found is = cc

not_input : (tree : TypedTree) (faults : List FlowFault) → flow tree faults ≡ input → ⊥
not_input tree faults is = cc

no_flows : (t : Texts) (tree at : TypedTree) (faults : List FlowFault) → StopsAt (hosts ∷ inputs ∷ []) t at (flow tree faults) → ⊥
no_flows t tree at faults (inl x) = not_host tree at faults x.0 x.3
no_flows t tree at faults (inr (p, inl x)) = not_input tree faults x.1
no_flows t tree at faults (inr (p, inr x)) = x.1

plain : (t : Texts) (r : Refusal) → IsRefused (hosts ∷ inputs ∷ []) t r → without_ways r ≡ r
plain t (lex fault) is = refl
plain t (parse fault) is = refl
plain t (types faults) is = refl
plain t (host tree faults) is = refl
plain t (policy fault) is = refl
plain t (flow tree faults) (inl is) = absurd is
plain t (flow tree faults) (inr is) = absurd (no_flows t tree is.0 faults is.2)
plain t input is = refl

same_climb : (t : Texts) (turns : ℕ) (a b : Climb Ran) → ComesTo (hosts ∷ inputs ∷ []) (IsOriginal turns) t a → ComesTo (hosts ∷ inputs ∷ []) (IsOriginal turns) t b → AreAlike a b → a ≡ b
same_climb t turns (refused r) (refused s) x y alike = ap (λ (z : Refusal). refused z) (sym (plain t r x) ∙ alike ∙ plain t s y)
same_climb t turns (refused r) (came y) x is alike = absurd alike
same_climb t turns (came x) (refused s) is y alike = absurd alike
same_climb t turns (came x) (came y) is is' alike = ap (λ (z : Ran). came z) alike

pub outcome_is_one : OutcomeIsOne
outcome_is_one t turns a b x y =
    same_climb t turns a b x y (one_climb (hosts ∷ inputs ∷ []) (IsOriginal turns) (original_has_passed turns) (original_is_one turns) t a b x y)
