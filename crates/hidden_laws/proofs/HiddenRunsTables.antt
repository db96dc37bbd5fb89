-- One program with two tables that differ in privileged hosts alone begins with one boot.
use Rattle.std.proofs.Common.{◌≡◌, ◌∙◌, ℕ, suc, ◌+◌, Bool, true, false, cond, List, [], ◌∷◌, map, Option, Some, refl, sym, ap, subst, arith}
use Rattle.std.specs.Prelude.{◌&&◌, not, slice_get}
use Rattle.std.specs.List.{filter}
use Rattle.pt_base.proofs.Booleans.{and_parts, from_not_true}
use Rattle.pt_base.proofs.Numbers.{as_zero_plus}
use Rattle.pt_tree.specs.declared.host_model.HostModel.{HostModel}
use Rattle.pt_tree.specs.declared.signature.Signature.{Signature}
use Rattle.runs.specs.State.{Hosts}
use Rattle.host_table.specs.RunHosts.{model_or_none, models_of}
use Rattle.policy.specs.declared.rule.Rule.{Rule}
use Rattle.policy.specs.PolicyFault.{IsPolicy}
use Rattle.policy.proofs.LawLemmas.{policy_is_one}
use Rattle.typed_tree.specs.TypedTree.{TypedTree, signatures_of}
use Rattle.front_end.specs.Reading.{Reading, HasTypedTree, typed_tree, lex_fault, parse_fault, type_faults_of}
use Rattle.front_end.proofs.OneReading.{reading_is_one}
use Rattle.flow_rules.specs.declared.accepted.Accepted.{Accepted}
use Rattle.flow_rules.specs.Faults.{IsAccepted}
use Rattle.lowering.specs.Functions.{functions_from, signatures_from}
use Rattle.splitter.specs.Halves.{Halves, asked, halves_of, is_among, is_slave_host, slave_of}
use Rattle.program_halves.specs.ProgramHalves.{slave_half}
use Rattle.program_halves.proofs.OneHalves.{same_halves}
use Rattle.pt_core.specs.CodeTree.{BootTree, SlaveTree}
use Rattle.pt_core.specs.BootLaw.{boot_with}
use Rattle.pair_meaning.specs.Monitors.{Monitor}
use Rattle.pair_meaning.specs.Start.{boot_of, input_for, models_for}
use Rattle.pair_texts.specs.Start.{HaveBegun, Texts}
use Rattle.hidden_laws.specs.HiddenRunsLaws.{AreSameOfPlain, BootsAndRulesTellAll, PrivilegedRowsAreHidden}

-- ---- the slave's own hosts

abbrev Agree : (ℕ → Option HostModel) → (ℕ → Option HostModel) → ℕ → List Signature → Type 0
Agree hosts others k ss = (i : ℕ) (s : Signature) → slice_get ss i ≡ Some s → s.host ≡ true → s.privileged ≡ false → hosts (k + i) ≡ others (k + i)

same_models : (hosts others : ℕ → Option HostModel) (called : ℕ → Bool) (k : ℕ) (ss : List Signature) → Agree hosts others k ss →
    models_for (models_of hosts) (map (λ s. s.0) (filter (λ s. is_slave_host (called s.0) s.1) (signatures_from k ss)))
    ≡ models_for (models_of others) (map (λ s. s.0) (filter (λ s. is_slave_host (called s.0) s.1) (signatures_from k ss)))
same_models hosts others called k [] agree = refl
same_models hosts others called k (s ∷ ss) agree =
    go (is_slave_host (called k) s) refl (same_models hosts others called (suc k) ss (λ i s e host plain. subst (λ n. hosts n ≡ others n) (next i) (agree (suc i) s e host plain)))
  where
    next : (i : ℕ) → k + suc i ≡ suc k + i
    next i = omega arith

    own : k + 0 ≡ k
    own = omega arith

    rest : List (ℕ × Signature)
    rest = filter (λ s. is_slave_host (called s.0) s.1) (signatures_from (suc k) ss)

    here : is_slave_host (called k) s ≡ true → hosts k ≡ others k
    here e =
        let parts = and_parts (s.host && not s.privileged) (called k) e in
        let two = and_parts s.host (not s.privileged) parts.0 in
        subst (λ n. hosts n ≡ others n) own (agree 0 s refl two.0 (from_not_true s.privileged two.1))

    go : (b : Bool) → is_slave_host (called k) s ≡ b → models_for (models_of hosts) (map (λ s. s.0) rest) ≡ models_for (models_of others) (map (λ s. s.0) rest) →
        models_for (models_of hosts) (map (λ s. s.0) (cond b ((k, s) ∷ rest) rest)) ≡ models_for (models_of others) (map (λ s. s.0) (cond b ((k, s) ∷ rest) rest))
    go true e more = λ i. (k, model_or_none (here e i)) ∷ more i
    go false e more = more

-- ---- one program

abbrev tree_in : Reading → TypedTree → TypedTree
tree_in (typed_tree t) u = t
tree_in (lex_fault fault) u = u
tree_in (parse_fault fault) u = u
tree_in (type_faults_of faults) u = u

one_tree : (text : List ℕ) (t u : TypedTree) → HasTypedTree text t → HasTypedTree text u → t ≡ u
one_tree text t u h k = ap (λ (r : Reading). tree_in r t) (reading_is_one text (typed_tree t) (typed_tree u) h k)

-- whichever sides are found
one_slave : (t u : TypedTree) (a c : Accepted) → t ≡ u → IsAccepted t a → IsAccepted u c → slave_half t a ≡ slave_half u c
one_slave t u a c e is is' = subst (λ (x : TypedTree). IsAccepted x c → slave_half t a ≡ slave_half x c) e same is'
  where
    same : IsAccepted t c → slave_half t a ≡ slave_half t c
    same is' = ap (λ (h : Halves). slave_of t h (functions_from t 0 t.functions)) (same_halves t a.sides c.sides is.sides is'.sides)

same_rules : (t u : TypedTree) (text other : List ℕ) (rules rules' : List Rule) → t ≡ u → text ≡ other → IsPolicy (signatures_of t) text rules → IsPolicy (signatures_of u) other rules' → rules ≡ rules'
same_rules t u text other rules rules' trees texts is is' =
    policy_is_one (signatures_of t) text rules rules' is
    (subst (λ (x : TypedTree). IsPolicy (signatures_of x) text rules') (sym trees) (subst (λ (l : List ℕ). IsPolicy (signatures_of u) l rules') (sym texts) is'))

-- ---- what both begin with

boots_same : (half half' : SlaveTree) (hosts others : Hosts) (input other : List ℕ) (turns : ℕ) → half ≡ half' → input ≡ other → models_for hosts half.hosts ≡ models_for others half.hosts →
    boot_of half hosts input turns ≡ boot_of half' others other turns
boots_same half half' hosts others input other turns halves inputs models =
    ap (λ (ms : List (ℕ × HostModel)). boot_with half ms (input_for ms input) turns) models ∙ ap (λ (l : List ℕ). boot_of half others l turns) inputs
    ∙ ap (λ (h : SlaveTree). boot_of h others other turns) halves

module _ (t t' : Texts) (turns : ℕ) (b b' : BootTree) (m m' : Monitor) (one : HaveBegun t turns b m) (other : HaveBegun t' turns b' m') (programs : t.program ≡ t'.program) where
  trees : one.started.tree ≡ other.started.tree
  trees =
      one_tree t.program one.started.tree other.started.tree one.started.read.program
      (subst (λ (l : List ℕ). HasTypedTree l other.started.tree) (sym programs) other.started.read.program)

  slaves : slave_half one.started.tree one.started.accepted ≡ slave_half other.started.tree other.started.accepted
  slaves = one_slave one.started.tree other.started.tree one.started.accepted other.started.accepted trees one.started.is other.started.is

  boots : t.input ≡ t'.input → AreSameOfPlain one.started.tree one.started.hosts other.started.hosts → b ≡ b'
  boots inputs plain =
      let half : SlaveTree = slave_half one.started.tree one.started.accepted in
      one.started.boot_is
      ∙ boots_same half (slave_half other.started.tree other.started.accepted) (models_of one.started.hosts.models) (models_of other.started.hosts.models) t.input t'.input turns slaves inputs
      (same_models one.started.hosts.models other.started.hosts.models (is_among (asked (halves_of one.started.accepted.sides) (functions_from one.started.tree 0 one.started.tree.functions))) 0 (signatures_of one.started.tree)
      (λ i s e host open_to. subst (λ n. one.started.hosts.models n ≡ other.started.hosts.models n) (as_zero_plus i) (plain i s e host open_to)))
      ∙ sym other.started.boot_is

  rules : t.policy ≡ t'.policy → one.started.rules ≡ other.started.rules
  rules policies = same_rules one.started.tree other.started.tree t.policy t'.policy one.started.rules other.started.rules trees policies one.started.read.policy other.started.read.policy

pub rows_hidden : BootsAndRulesTellAll → PrivilegedRowsAreHidden
rows_hidden law t t' turns b b' m m' own own' begin programs policies inputs plain =
    law t t' turns b b' m m' own own' begin (boots t t' turns b b' m m' begin.one begin.other programs inputs plain) (rules t t' turns b b' m m' begin.one begin.other programs policies)
