-- Texts are refused in one way at most, but for the ways that faults of flows show, and those that pass aren't refused.
use Rattle.std.proofs.Common.{◌≡◌, ◌≤◌, ◌<◌, ◌∙◌, ℕ, List, [], ◌∷◌, length, refl, sym, ap, subst, inl, inr, arith}
use Rattle.typed_tree.specs.TypedTree.{TypedTree, signatures_of}
use Rattle.front_end.proofs.OneReading.{reading_is_one}
use Rattle.front_end.specs.Reading.{HasTypedTree, Reading, typed_tree, lex_fault, parse_fault, type_faults_of, ComesTo as ReadsAs}
use Rattle.host_table.specs.declared.fault.HostFault.{HostFault}
use Rattle.policy.specs.declared.error.PolicyFault.{PolicyFault}
use Rattle.policy.proofs.LawLemmas.{fault_is_one, policy_or_fault_lem}
use Rattle.flow_rules.specs.declared.fault.FlowFault.{FlowFault}
use Rattle.stages.specs.Climb.{Fails, IsUnread, Pass, Passes, Refusal, Stage, StopsAt, Texts, lex, parse, types, host, policy, flow, input, hosts, rules, flows, inputs}
use Rattle.stages.specs.Commands.{without_ways}
use Rattle.stages.specs.GivenHosts.{most}
use Rattle.stages.specs.Laws.{PassedOrRefused, RefusalsAreOne}
use Rattle.stages.proofs.OneFaults.{accepted_or_faulty, faults_differ_in_ways}

-- ---- one stage

both_sizes : (m n : ℕ) → m < n → n ≤ m → ⊥
both_sizes m n a b = omega arith

-- both are these, and these differ in ways alone
one_of : (a b c d : Refusal) → a ≡ c → b ≡ d → without_ways c ≡ without_ways d → without_ways a ≡ without_ways b
one_of a b c d x y same = ap without_ways x ∙ same ∙ sym (ap without_ways y)

stage_is_one : (s : Stage) (t : Texts) (tree : TypedTree) (a b : Refusal) → Fails s t tree a → Fails s t tree b → without_ways a ≡ without_ways b
stage_is_one hosts t tree a b x y = one_of a b (host tree x.0) (host tree y.0) x.3 y.3 (ap (λ (fs : List HostFault). host tree fs) (x.1 ∙ sym y.1))
stage_is_one rules t tree a b x y =
    one_of a b (policy x.0) (policy y.0) x.2 y.2 (ap (λ (f : PolicyFault). policy f) (fault_is_one (signatures_of tree) t.policy x.0 y.0 x.1 y.1))
stage_is_one flows t tree a b x y = one_of a b (flow tree x.0) (flow tree y.0) x.2 y.2 (ap (λ (fs : List FlowFault). flow tree fs) (faults_differ_in_ways tree x.0 y.0 x.1 y.1))
stage_is_one inputs t tree a b x y = one_of a b input input x.1 y.1 refl

passes_or_fails : (s : Stage) (t : Texts) (tree : TypedTree) (r : Refusal) → Passes s t tree → Fails s t tree r → ⊥
passes_or_fails hosts t tree r p f = f.2 (f.1 ∙ p.1.faultless)
passes_or_fails rules t tree r p f = (policy_or_fault_lem (signatures_of tree) t.policy).1 p.0 f.0 p.1 f.1
passes_or_fails flows t tree r p f = accepted_or_faulty tree p.0 f.0 p.1 f.1
passes_or_fails inputs t tree r p f = both_sizes most (length t.input) f.0 p

-- ---- all of a climb

pub stops_are_one : (ss : List Stage) (t : Texts) (tree : TypedTree) (a b : Refusal) → StopsAt ss t tree a → StopsAt ss t tree b → without_ways a ≡ without_ways b
stops_are_one [] t tree a b x y = absurd x
stops_are_one (s ∷ ss) t tree a b (inl x) (inl y) = stage_is_one s t tree a b x y
stops_are_one (s ∷ ss) t tree a b (inl x) (inr y) = absurd (passes_or_fails s t tree a y.0 x)
stops_are_one (s ∷ ss) t tree a b (inr x) (inl y) = absurd (passes_or_fails s t tree b x.0 y)
stops_are_one (s ∷ ss) t tree a b (inr x) (inr y) = stops_are_one ss t tree a b x.1 y.1

pub pass_or_stop : (ss : List Stage) (t : Texts) (tree : TypedTree) (r : Refusal) → Pass ss t tree → StopsAt ss t tree r → ⊥
pass_or_stop [] t tree r p x = x
pass_or_stop (s ∷ ss) t tree r p (inl x) = passes_or_fails s t tree r p.0 x
pass_or_stop (s ∷ ss) t tree r p (inr x) = pass_or_stop ss t tree r p.1 x.1

-- ---- texts that have no tree

-- a text that reads so is refused so
abbrev Refuses : Reading → Refusal → Type 0
Refuses (typed_tree tree) r = ⊥
Refuses (lex_fault fault) r = r ≡ lex fault
Refuses (parse_fault fault) r = r ≡ parse fault
Refuses (type_faults_of faults) r = r ≡ types faults

record Unread (text : List ℕ) (r : Refusal) : Type 0 where
  pub reading : Reading
  pub is : ReadsAs text reading
  pub refuses : Refuses reading r

unread : (text : List ℕ) (r : Refusal) → IsUnread text r → Unread text r
unread text (lex fault) is = record { reading = lex_fault fault; is = is; refuses = refl }
unread text (parse fault) is = record { reading = parse_fault fault; is = is; refuses = refl }
unread text (types faults) is = record { reading = type_faults_of faults; is = is; refuses = refl }
unread text (host tree faults) is = absurd is
unread text (policy fault) is = absurd is
unread text (flow tree faults) is = absurd is
unread text input is = absurd is

refuses_one : (g : Reading) (a b : Refusal) → Refuses g a → Refuses g b → a ≡ b
refuses_one (typed_tree tree) a b x y = absurd x
refuses_one (lex_fault fault) a b x y = x ∙ sym y
refuses_one (parse_fault fault) a b x y = x ∙ sym y
refuses_one (type_faults_of faults) a b x y = x ∙ sym y

unread_is_one : (text : List ℕ) (a b : Refusal) → IsUnread text a → IsUnread text b → a ≡ b
unread_is_one text a b x y =
    let p : Unread text a = unread text a x in
    let q : Unread text b = unread text b y in
    refuses_one p.reading a b p.refuses (subst (λ (g : Reading). Refuses g b) (reading_is_one text q.reading p.reading q.is p.is) q.refuses)

typed_or_unread : (text : List ℕ) (tree : TypedTree) (r : Refusal) → HasTypedTree text tree → IsUnread text r → ⊥
typed_or_unread text tree r has x =
    let p : Unread text r = unread text r x in
    subst (λ (g : Reading). Refuses g r) (reading_is_one text p.reading (typed_tree tree) p.is has) p.refuses

-- ---- texts that have one

abbrev tree_in : Reading → TypedTree → TypedTree
tree_in (typed_tree tree) other = tree
tree_in (lex_fault fault) other = other
tree_in (parse_fault fault) other = other
tree_in (type_faults_of faults) other = other

-- a text has one typed tree at most
pub tree_is_one : (text : List ℕ) (t u : TypedTree) → HasTypedTree text t → HasTypedTree text u → t ≡ u
tree_is_one text t u a b = ap (λ (g : Reading). tree_in g t) (reading_is_one text (typed_tree t) (typed_tree u) a b)

-- ---- the laws

pub one_refusal : RefusalsAreOne
one_refusal ss t a b (inl x) (inl y) = ap without_ways (unread_is_one t.program a b x y)
one_refusal ss t a b (inl x) (inr y) = absurd (typed_or_unread t.program y.0 a y.1 x)
one_refusal ss t a b (inr x) (inl y) = absurd (typed_or_unread t.program x.0 b x.1 y)
one_refusal ss t a b (inr x) (inr y) =
    stops_are_one ss t x.0 a b x.2 (subst (λ (tree : TypedTree). StopsAt ss t tree b) (tree_is_one t.program y.0 x.0 y.1 x.1) y.2)

pub passed_unrefused : PassedOrRefused
passed_unrefused ss t tree r p (inl x) = typed_or_unread t.program tree r p.0 x
passed_unrefused ss t tree r p (inr x) =
    pass_or_stop ss t tree r p.1 (subst (λ (other : TypedTree). StopsAt ss t other r) (tree_is_one t.program x.0 tree x.1 p.0) x.2)
