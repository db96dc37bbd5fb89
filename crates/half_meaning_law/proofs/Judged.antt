-- The judgments of chains, whose parts are judged without fault.
use Rattle.std.proofs.Common.{◌≡◌, ◌∙◌, refl, ap, sym, subst, Bool, true, false, Option, None, List, [], ◌∷◌, ◌++◌, append_assoc, if◌then◌else◌}
use Rattle.std.specs.Prelude.{is_some, not}
use Rattle.pt_base.specs.declared.span.Span.{Span}
use Rattle.pt_base.proofs.Booleans.{true_not_false}
use Rattle.pt_base.proofs.Lists.{append_nil}
use Rattle.pt_tree.specs.declared.operator.BinaryOp.{BinaryOp}
use Rattle.pt_tree.specs.ExpressionTree as e
use Rattle.check_declarations.specs.declared.fault.TypeFault.{TypeFault}
use Rattle.check_declarations.specs.Structs.{Structs}
use Rattle.check_expressions.specs.Environment.{Env}
use Rattle.check_expressions.specs.Expressions.{Judged, Linked, over, judge, judge_links, judge_link}
use Rattle.check_expressions.specs.Links.{SoFar, begun, linked, link_rule, rule_faults, has_none, chained, links_tree, sort_of, logical_of}
use Rattle.check_declarations.specs.declared.fault.FaultKind.TheVariants.{WrongType}
use Rattle.check_declarations.specs.Faults.{fault_at}
use Rattle.check_expressions.specs.Postfixes.{is_call}
use Rattle.typed_tree.specs.declared.link.LogicalOp.{LogicalOp}
use Rattle.check_expressions.specs.Operands.{plain, fine, refused, var_type, value_of, value_tree, read_tree, span_of, joined}
use Rattle.pt_core.specs.CodeTree.{ExprTree}
use Rattle.half_trees.specs.Names.{nowhere}
use Rattle.half_trees.specs.Expressions as h
use Rattle.half_trees.specs.Expressions.{with_link, one_link, are_alike, chain_of}
use Rattle.half_meaning_law.specs.Relations.{Scene}
use Rattle.half_meaning_law.specs.CForms.{c_type}
use Rattle.half_meaning_law.specs.Expressions.{IsFine, ExpressionMeans}
use Rattle.half_meaning_law.proofs.Chains.{var_type_as, FarHolds, begun_holds, LinkHolds, link_held, some_links}

-- ---- faults

-- of two lists without faults
pub no_faults : (xs ys : List TypeFault) → xs ≡ [] → ys ≡ [] → xs ++ ys ≡ []
no_faults xs ys p q = ap (λ z. z ++ ys) p ∙ q

-- ---- links

-- links are judged without fault, and are the expression so far
pub record LinksFine (s : Scene) (structs : Structs) (a : ExprTree) (l : Linked) : Type 0 where
  pub faults : l.faults ≡ []
  pub structs_stay : l.structs ≡ structs
  pub far : FarHolds s a l.far
  pub some : has_none l.far.links ≡ false

judged_more : (env : Env) (structs : Structs) (sp : Span) (b : Bool) (far : SoFar) (ls : e.LinkTrees) (l : e.LinkTree) →
    judge_links env structs sp b far (with_link ls l) ≡ record {
      far = (judge_link env (judge_links env structs sp b far ls).structs sp b (judge_links env structs sp b far ls).far l).far;
      structs = (judge_link env (judge_links env structs sp b far ls).structs sp b (judge_links env structs sp b far ls).far l).structs;
      faults = (judge_links env structs sp b far ls).faults ++ (judge_link env (judge_links env structs sp b far ls).structs sp b (judge_links env structs sp b far ls).far l).faults;
    }
unfolding judge_links
judged_more env structs sp b far e.no_links l =
    ap (λ fs. let z : Linked = record { far = (judge_link env structs sp b far l).far; structs = (judge_link env structs sp b far l).structs; faults = fs } in z) (append_nil (judge_link env structs sp b far l).faults)
judged_more env structs sp b far (e.link_and k rest) l =
    ap (λ (z : Linked). let y : Linked = record { far = z.far; structs = z.structs; faults = one.faults ++ z.faults } in y) (judged_more env one.structs sp b one.far rest l)
    ∙ ap (λ fs. let z : Linked = record { far = last.far; structs = last.structs; faults = fs } in z) (sym (append_assoc one.faults so_far.faults last.faults))
  where
    one : Linked
    one = judge_link env structs sp b far k

    so_far : Linked
    so_far = judge_links env one.structs sp b one.far rest

    last : Linked
    last = judge_link env so_far.structs sp b so_far.far l

-- one link more, whose operand is judged without fault
pub links_next : (s : Scene) (env : Env) (structs : Structs) (a b d : ExprTree) (op : BinaryOp) (tb : e.ExprTree) (sp : Span) (begin : SoFar) (ls : e.LinkTrees) →
    (judge_links env structs sp false begin ls).faults ≡ [] → (judge_links env structs sp false begin ls).structs ≡ structs → IsFine structs (judge env structs tb) →
    LinkHolds s a b d op (judge_links env structs sp false begin ls).far (value_of (judge env structs tb).operand) (value_tree (span_of tb) (judge env structs tb).operand) →
    LinksFine s structs d (judge_links env structs sp false begin (with_link ls (one_link op tb)))
unfolding judge_link linked
links_next s env structs a b d op tb sp begin ls none stay fine l =
    subst (λ z. LinksFine s structs d z) (sym (judged_more env structs sp false begin ls (one_link op tb)))
    (subst (λ z. LinksFine s structs d (record {
      far = (judge_link env z sp false q.far (one_link op tb)).far;
      structs = (judge_link env z sp false q.far (one_link op tb)).structs;
      faults = q.faults ++ (judge_link env z sp false q.far (one_link op tb)).faults;
    })) (sym stay) (record {
      faults = no_faults q.faults (p.faults ++ rule_faults (link_rule false op q.far.value (value_of p.operand)) q.far.span (span_of tb)) none
          (no_faults p.faults (rule_faults (link_rule false op q.far.value (value_of p.operand)) q.far.span (span_of tb)) fine.faults (ap (λ z. rule_faults z q.far.span (span_of tb)) l.is ∙ l.fine q.far.span (span_of tb)));
      structs_stay = fine.structs_stay;
      far = link_held s a b d op q.far (value_of p.operand) (value_tree (span_of tb) p.operand) (joined sp nowhere) l;
      some = some_links q.far.links _;
    }))
  where
    q : Linked
    q = judge_links env structs sp false begin ls

    p : Judged
    p = judge env structs tb

-- ---- whole chains

far_means : (s : Scene) (structs : Structs) (d : ExprTree) (far : SoFar) (after : Structs) (faults : List TypeFault) (sp : Span) → FarHolds s d far → has_none far.links ≡ false → after ≡ structs → faults ≡ [] →
    ExpressionMeans s structs d (over faults after (chained None sp far))
unfolding chained links_tree value_of value_tree read_tree
far_means s structs d far after faults sp held some stay none =
    subst (λ z. ExpressionMeans s structs d (over faults after (if z then refused (fault_at WrongType sp ∷ []) else fine (plain far.value.ty (links_tree None sp (var_type far.value.ty) far.first far.links))))) (sym some) (record {
      fine = record { faults = no_faults faults [] none refl; structs_stay = stay };
      typed = held.whole ∙ held.typed;
      tree = λ at. ap var_type held.typed ∙ var_type_as (c_type s.context d);
      plain = λ p. refl;
      same = λ at. held.same;
    })

-- ---- what the induction keeps of each expression

-- there are postfixes, and the first is no call
abbrev pub leads_on : e.PostfixTrees → Bool
leads_on e.no_postfixes = false
leads_on (e.postfix_and p ps) = not (is_call p)

-- an operand that has postfixes already isn't called
abbrev pub NotCalled : e.ExprTree → Type 0
NotCalled (e.postfix sp a ps) = (sp ≡ nowhere) × (leads_on ps ≡ true)
NotCalled (e.name w) = Unit {0}
NotCalled (e.constant k) = Unit {0}
NotCalled (e.prefix sp op a) = Unit {0}
NotCalled (e.cast sp specs pointer a) = Unit {0}
NotCalled (e.chain sp a ls) = Unit {0}
NotCalled (e.choice sp a b d) = Unit {0}
NotCalled (e.assign sp op a b) = Unit {0}

-- what is no chain
abbrev pub IsNoChain : e.ExprTree → Type 0
IsNoChain (e.chain sp a ls) = ⊥
IsNoChain (e.postfix sp a ps) = Unit {0}
IsNoChain (e.name w) = Unit {0}
IsNoChain (e.constant k) = Unit {0}
IsNoChain (e.prefix sp op a) = Unit {0}
IsNoChain (e.cast sp specs pointer a) = Unit {0}
IsNoChain (e.choice sp a b d) = Unit {0}
IsNoChain (e.assign sp op a b) = Unit {0}

-- the links of a chain so far
pub record ChainFine (s : Scene) (env : Env) (structs : Structs) (a : ExprTree) (sp : Span) (f : e.ExprTree) (ls : e.LinkTrees) : Type 0 where
  pub sort : sort_of ls ≡ None
  pub first : IsFine structs (judge env structs f)
  pub links : LinksFine s structs a (judge_links env structs nowhere false (begun (span_of f) (judge env structs f).operand) ls)

abbrev pub ChainHolds : Scene → Env → Structs → ExprTree → e.ExprTree → Type 0
ChainHolds s env structs a (e.chain sp f ls) = ChainFine s env structs a sp f ls
ChainHolds s env structs a (e.name w) = Unit {0}
ChainHolds s env structs a (e.constant k) = Unit {0}
ChainHolds s env structs a (e.prefix sp op b) = Unit {0}
ChainHolds s env structs a (e.cast sp specs pointer b) = Unit {0}
ChainHolds s env structs a (e.postfix sp b ps) = Unit {0}
ChainHolds s env structs a (e.choice sp b d f) = Unit {0}
ChainHolds s env structs a (e.assign sp op b d) = Unit {0}

pub no_chain : (s : Scene) (env : Env) (structs : Structs) (a : ExprTree) (tree : e.ExprTree) → IsNoChain tree → ChainHolds s env structs a tree
no_chain s env structs a (e.chain sp f ls) h = absurd h
no_chain s env structs a (e.name w) h = tt
no_chain s env structs a (e.constant k) h = tt
no_chain s env structs a (e.prefix sp op b) h = tt
no_chain s env structs a (e.cast sp specs pointer b) h = tt
no_chain s env structs a (e.postfix sp b ps) h = tt
no_chain s env structs a (e.choice sp b d f) h = tt
no_chain s env structs a (e.assign sp op b d) h = tt

pub record Held (s : Scene) (env : Env) (structs : Structs) (a : ExprTree) (tree : e.ExprTree) : Type 0 where
  pub means : ExpressionMeans s structs a (judge env structs tree)
  pub chain : ChainHolds s env structs a tree
  pub shape : NotCalled tree

chain_means : (s : Scene) (env : Env) (structs : Structs) (d : ExprTree) (f : e.ExprTree) (ls : e.LinkTrees) → ChainFine s env structs d nowhere f ls → ExpressionMeans s structs d (judge env structs (e.chain nowhere f ls))
unfolding judge
chain_means s env structs d f ls h =
    subst (λ z. ExpressionMeans s structs d (made z (sort_of ls))) (sym h.first.structs_stay)
    (subst (λ z. ExpressionMeans s structs d (made structs z)) (sym h.sort)
    (far_means s structs d q.far q.structs (p.faults ++ q.faults) nowhere h.links.far h.links.some h.links.structs_stay (no_faults p.faults q.faults h.first.faults h.links.faults)))
  where
    p : Judged
    p = judge env structs f

    q : Linked
    q = judge_links env structs nowhere false (begun (span_of f) p.operand) ls

    made : Structs → Option LogicalOp → Judged
    made z o =
        let r = judge_links env z nowhere (is_some o) (begun (span_of f) p.operand) ls in
        over (p.faults ++ r.faults) r.structs (chained o nowhere r.far)

pub chain_held : (s : Scene) (env : Env) (structs : Structs) (d : ExprTree) (f : e.ExprTree) (ls : e.LinkTrees) → ChainFine s env structs d nowhere f ls → Held s env structs d (e.chain nowhere f ls)
chain_held s env structs d f ls h = record { means = chain_means s env structs d f ls h; chain = h; shape = tt }

-- what a link has to hold, whatever the chain that is `a`
abbrev pub Linkable : Scene → Env → Structs → ExprTree → ExprTree → ExprTree → BinaryOp → e.ExprTree → Type 0
Linkable s env structs a b d op tb = (far : SoFar) → FarHolds s a far → LinkHolds s a b d op far (value_of (judge env structs tb).operand) (value_tree (span_of tb) (judge env structs tb).operand)

-- a chain with one link
pub one_held : (s : Scene) (env : Env) (structs : Structs) (a b d : ExprTree) (op : BinaryOp) (ta tb : e.ExprTree) → IsFine structs (judge env structs ta) → IsFine structs (judge env structs tb) → logical_of op ≡ None →
    LinkHolds s a b d op (begun (span_of ta) (judge env structs ta).operand) (value_of (judge env structs tb).operand) (value_tree (span_of tb) (judge env structs tb).operand) → Held s env structs d (chain_of op ta tb)
unfolding judge_links sort_of
one_held s env structs a b d op ta tb left right sort on =
    chain_held s env structs d ta (e.link_and (one_link op tb) e.no_links) (record {
      sort = sort;
      first = left;
      links = links_next s env structs a b d op tb nowhere (begun (span_of ta) (judge env structs ta).operand) e.no_links refl refl right on;
    })

-- the same behind what holds
one_behind : (s : Scene) (env : Env) (structs : Structs) (a b d : ExprTree) (op : BinaryOp) (ta tb : e.ExprTree) → ExpressionMeans s structs a (judge env structs ta) → IsFine structs (judge env structs tb) → logical_of op ≡ None →
    Linkable s env structs a b d op tb → Held s env structs d (chain_of op ta tb)
one_behind s env structs a b d op ta tb left right sort on =
    one_held s env structs a b d op ta tb left.fine right sort (on (begun (span_of ta) (judge env structs ta).operand) (begun_holds s structs a (judge env structs ta) (span_of ta) left))

-- a chain that is made longer keeps its sort
sort_more : (ls : e.LinkTrees) (l : e.LinkTree) (op : BinaryOp) → are_alike ls op ≡ true → sort_of ls ≡ None → sort_of (with_link ls l) ≡ None
unfolding sort_of
sort_more e.no_links l op some h = true_not_false (sym some)
sort_more (e.link_and (e.link sp first a) rest) l op some h = h

pub linked_held : (s : Scene) (env : Env) (structs : Structs) (a b d : ExprTree) (op : BinaryOp) (ta tb : e.ExprTree) → Held s env structs a ta → IsFine structs (judge env structs tb) → logical_of op ≡ None →
    Linkable s env structs a b d op tb → Held s env structs d (h.linked op ta tb)
linked_held s env structs a b d op (e.name w) tb left fine sort on = one_behind s env structs a b d op (e.name w) tb left.means fine sort on
linked_held s env structs a b d op (e.constant k) tb left fine sort on = one_behind s env structs a b d op (e.constant k) tb left.means fine sort on
linked_held s env structs a b d op (e.prefix sp q f) tb left fine sort on = one_behind s env structs a b d op (e.prefix sp q f) tb left.means fine sort on
linked_held s env structs a b d op (e.cast sp specs pointer f) tb left fine sort on = one_behind s env structs a b d op (e.cast sp specs pointer f) tb left.means fine sort on
linked_held s env structs a b d op (e.postfix sp f ps) tb left fine sort on = one_behind s env structs a b d op (e.postfix sp f ps) tb left.means fine sort on
linked_held s env structs a b d op (e.choice sp f g k) tb left fine sort on = one_behind s env structs a b d op (e.choice sp f g k) tb left.means fine sort on
linked_held s env structs a b d op (e.assign sp q f g) tb left fine sort on = one_behind s env structs a b d op (e.assign sp q f g) tb left.means fine sort on
linked_held s env structs a b d op (e.chain sp f ls) tb left fine sort on = go (are_alike ls op) refl
  where
    go : (z : Bool) → are_alike ls op ≡ z → Held s env structs d (if z then e.chain nowhere f (with_link ls (one_link op tb)) else chain_of op (e.chain sp f ls) tb)
    go true alike = chain_held s env structs d f (with_link ls (one_link op tb)) (record {
      sort = sort_more ls (one_link op tb) op alike left.chain.sort;
      first = left.chain.first;
      links = links_next s env structs a b d op tb nowhere (begun (span_of f) (judge env structs f).operand) ls left.chain.links.faults left.chain.links.structs_stay fine (on (judge_links env structs nowhere false (begun (span_of f) (judge env structs f).operand) ls).far left.chain.links.far);
    })
    go false alike = one_behind s env structs a b d op (e.chain sp f ls) tb left.means fine sort on
