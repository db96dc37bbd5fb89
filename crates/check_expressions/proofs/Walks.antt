-- How the walks over links and arguments go on, and what the parts of an expression give together.
use Rattle.std.proofs.Common.{append-nil, IfOk, ◌≡◌, ℕ, ◌+◌, List, [], ◌∷◌, ◌++◌, Bool, slice_get, is_some, sym, ap, ◌∙◌, append_assoc, subst, refl, Result, Ok, Err, Option, Vec}
use Rattle.std.specs.declared.alloc.AllocError.{AllocError}
use Rattle.std.specs.declared.alloc.Global.{Global}
use Rattle.pt_base.specs.declared.ids.FnId.{FnId}
use Rattle.pt_base.specs.declared.span.Span.{Span}
use Rattle.pt_tree.specs.declared.operator.BinaryOp.{BinaryOp}
use Rattle.pt_tree.specs.ExpressionTree as e
use Rattle.pt_tree.specs.SpecifierTree.{SpecTrees}
use Rattle.type_rules.specs.declared.types.Type.{«Type»}
use Rattle.typed_tree.specs.declared.link.LogicalOp.{LogicalOp}
use Rattle.typed_tree.specs.ExpressionTree.{ExprTree}
use Rattle.check_declarations.specs.declared.fault.TypeFault.{TypeFault}
use Rattle.check_declarations.specs.declared.findings.Findings.{Findings}
use Rattle.check_declarations.specs.Gives.{Reaches}
use Rattle.check_declarations.specs.Structs.{Structs}
use Rattle.check_expressions.specs.declared.operand.Operand.{Operand}
use Rattle.check_expressions.specs.Environment.{Env}
use Rattle.check_expressions.specs.Assignments.{assigned}
use Rattle.check_expressions.specs.Choices.{Placed, chosen}
use Rattle.check_expressions.specs.Expressions.{Judged, Arguments, Linked, alone, over, judge, judge_links, judge_link, judge_postfixes, judge_postfix, judge_arguments, headed, cast_specified}
use Rattle.check_expressions.specs.Gives.{GivesJudged, GivesMade, HeadIs, at}
use Rattle.check_expressions.specs.Links.{SoFar, begun, chained, sort_of}
use Rattle.check_expressions.specs.Operands.{Known, Made, fine, joined, span_of, value_of, value_tree}
use Rattle.check_expressions.specs.Prefixes.{cast_to}
use Rattle.check_expressions.specs.Postfixes.{argument_tree, argument_faults, function_called}
use Rattle.check_expressions.specs.Views.{known}

-- ---- what operators make

operand_of : Made → Known
operand_of m = m.operand

faults_of : Made → List TypeFault
faults_of m = m.faults

-- what stands alone
pub made_alone : (r : Result Operand AllocError) (before : Findings) (faults : Vec TypeFault Global) (m : Made) → GivesMade r before.faults.items faults.items m → GivesJudged r before (record { structs = before.structs; faults = faults }) (alone before.structs m)
made_alone (Ok o) before faults m h = (h.0, record { structs_are = refl; faults_are = h.1 })
made_alone (Err e) before faults m h = tt {0}

-- what has no fault
pub made_fine : (r : Result Operand AllocError) (before : Findings) (k : Known) → IfOk r (λ o. known o ≡ k) → GivesJudged r before before (alone before.structs (fine k))
made_fine (Ok o) before k h = (h, record { structs_are = refl; faults_are = sym (append-nil before.faults.items) })
made_fine (Err e) before k h = tt {0}

-- what an operator makes of judged operands
pub made_over : {V : Type 0} (r : Result Operand AllocError) (before middle : Findings) (faults : Vec TypeFault Global) (found judged : V) (structs : Structs) (own : List TypeFault) (F : Structs → V → Made) → found ≡ judged → Reaches before middle structs own → GivesMade r middle.faults.items faults.items (F middle.structs found) → GivesJudged r before (record { structs = middle.structs; faults = faults }) (over own structs (F structs judged))
unfolding operand_of faults_of
made_over (Ok o) before middle faults found judged structs own F v m h =
    let same : F middle.structs found ≡ F structs judged = ap (λ y. F y found) m.structs_are ∙ ap (F structs) v in (
      h.0 ∙ ap operand_of same,
      record {
        structs_are = m.structs_are;
        faults_are = h.1 ∙ ap (λ m. middle.faults.items ++ faults_of m) same ∙ ap (λ xs. xs ++ (F structs judged).faults) m.faults_are ∙ append_assoc before.faults.items own (F structs judged).faults;
      },
    )
made_over (Err e) before middle faults found judged structs own F v m h = tt {0}

-- the judgment of a tree that is another one
pub judge_at : (r : Result Operand AllocError) (before after : Findings) (env : Env) (x y : e.ExprTree) → x ≡ y → GivesJudged r before after (judge env before.structs y) → GivesJudged r before after (judge env before.structs x)
judge_at r before after env x y is h = subst (λ z. GivesJudged r before after (judge env before.structs z)) (sym is) h

-- what comes behind findings that have added faults already
pub judged_behind : (r : Result Operand AllocError) (before middle after : Findings) (faults : List TypeFault) (j : Judged) → middle.faults.items ≡ before.faults.items ++ faults → GivesJudged r middle after j → GivesJudged r before after (record { operand = j.operand; structs = j.structs; faults = faults ++ j.faults })
judged_behind (Ok o) before middle after faults j m h =
    (h.0, record { structs_are = h.1.structs_are; faults_are = h.1.faults_are ∙ ap (λ xs. xs ++ j.faults) m ∙ append_assoc before.faults.items faults j.faults })
judged_behind (Err e) before middle after faults j m h = tt {0}

-- ---- one judgment behind another

pub then_reaches : (before middle after : Findings) (s s' : Structs) (p q : List TypeFault) → Reaches before middle s p → Reaches middle after s' q → Reaches before after s' (p ++ q)
then_reaches before middle after s s' p q m h =
    record { structs_are = h.structs_are; faults_are = h.faults_are ∙ ap (λ xs. xs ++ q) m.faults_are ∙ append_assoc before.faults.items p q }

-- a cast, by what its specifiers say
pub cast_gives : (r : Result Operand AllocError) (env : Env) (before middle after : Findings) (faults : Vec TypeFault Global) (s : Span) (specs : SpecTrees) (pointer : Bool) (a : e.ExprTree) (base : «Type») (k : Placed)
    → base ≡ (cast_specified before.structs specs).base
    → Reaches before middle (cast_specified before.structs specs).structs (cast_specified before.structs specs).faults
    → k ≡ at a (judge env middle.structs a)
    → Reaches middle after (judge env middle.structs a).structs (judge env middle.structs a).faults
    → GivesMade r after.faults.items faults.items (cast_to pointer base s k.span k.known)
    → GivesJudged r before (record { structs = after.structs; faults = faults }) (judge env before.structs (e.cast s specs pointer a))
unfolding judge
cast_gives r env before middle after faults s specs pointer a base k b m is t h =
    let j = cast_specified before.structs specs in
    let p = judge env j.structs a in
    let same : judge env middle.structs a ≡ p = ap (λ y. judge env y a) m.structs_are in
    made_over r before after faults k (at a p) p.structs (j.faults ++ p.faults) (λ st (x : Placed). cast_to pointer j.base s x.span x.known) (is ∙ ap (at a) same)
    (then_reaches before middle after j.structs p.structs j.faults p.faults m (subst (λ (y : Judged). Reaches middle after y.structs y.faults) same t))
    (subst (λ y. GivesMade r after.faults.items faults.items (cast_to pointer y s k.span k.known)) b h)

-- an assignment, by its sides
pub assign_gives : (r : Result Operand AllocError) (env : Env) (before middle after : Findings) (faults : Vec TypeFault Global) (s : Span) (op : Option BinaryOp) (a b : e.ExprTree) (k l : Placed)
    → k ≡ at a (judge env before.structs a)
    → Reaches before middle (judge env before.structs a).structs (judge env before.structs a).faults
    → l ≡ at b (judge env middle.structs b)
    → Reaches middle after (judge env middle.structs b).structs (judge env middle.structs b).faults
    → GivesMade r after.faults.items faults.items (assigned after.structs op s k.span k.known l.span l.known)
    → GivesJudged r before (record { structs = after.structs; faults = faults }) (judge env before.structs (e.assign s op a b))
unfolding judge
assign_gives r env before middle after faults s op a b k l k_is m l_is t h =
    let p = judge env before.structs a in
    let q = judge env p.structs b in
    let same : judge env middle.structs b ≡ q = ap (λ y. judge env y b) m.structs_are in
    let right : l ≡ at b q = l_is ∙ ap (at b) same in
    let found : Placed × Placed = (k, l) in
    let judged : Placed × Placed = (at a p, at b q) in
    let is : found ≡ judged = (λ i. (k_is i, right i)) in
    made_over r before after faults found judged q.structs (p.faults ++ q.faults) (λ st (x : Placed × Placed). assigned st op s x.0.span x.0.known x.1.span x.1.known) is
    (then_reaches before middle after p.structs q.structs p.faults q.faults m (subst (λ (y : Judged). Reaches middle after y.structs y.faults) same t))
    h

-- a choice, by its test and its arms
pub choice_gives : (r : Result Operand AllocError) (env : Env) (before middle third after : Findings) (faults : Vec TypeFault Global) (s : Span) (a b c : e.ExprTree) (k l n : Placed)
    → k ≡ at a (judge env before.structs a)
    → Reaches before middle (judge env before.structs a).structs (judge env before.structs a).faults
    → l ≡ at b (judge env middle.structs b)
    → Reaches middle third (judge env middle.structs b).structs (judge env middle.structs b).faults
    → n ≡ at c (judge env third.structs c)
    → Reaches third after (judge env third.structs c).structs (judge env third.structs c).faults
    → GivesMade r after.faults.items faults.items (chosen s k l n)
    → GivesJudged r before (record { structs = after.structs; faults = faults }) (judge env before.structs (e.choice s a b c))
unfolding judge
choice_gives r env before middle third after faults s a b c k l n k_is m l_is t n_is u h =
    let p = judge env before.structs a in
    let q = judge env p.structs b in
    let v = judge env q.structs c in
    let same : judge env middle.structs b ≡ q = ap (λ y. judge env y b) m.structs_are in
    let reached : Reaches middle third q.structs q.faults = subst (λ (y : Judged). Reaches middle third y.structs y.faults) same t in
    let same_last : judge env third.structs c ≡ v = ap (λ y. judge env y c) reached.structs_are in
    let first : l ≡ at b q = l_is ∙ ap (at b) same in
    let last : n ≡ at c v = n_is ∙ ap (at c) same_last in
    let found : Placed × Placed × Placed = (k, l, n) in
    let judged : Placed × Placed × Placed = (at a p, at b q, at c v) in
    let is : found ≡ judged = (λ i. (k_is i, first i, last i)) in
    made_over r before after faults found judged v.structs (p.faults ++ q.faults ++ v.faults) (λ st (x : Placed × Placed × Placed). chosen s x.0 x.1 x.2) is
    (then_reaches before third after q.structs v.structs (p.faults ++ q.faults) v.faults
    (then_reaches before middle third p.structs q.structs p.faults q.faults m reached)
    (subst (λ (y : Judged). Reaches third after y.structs y.faults) same_last u))
    h

-- the chain of an operand and its links
pub chain_gives : (r : Result Operand AllocError) (env : Env) (before middle linked : Findings) (faults : Vec TypeFault Global) (s : Span) (a : e.ExprTree) (ls : e.LinkTrees) (sort : Option LogicalOp) (first : Placed) (start far : SoFar)
    → first ≡ at a (judge env before.structs a)
    → Reaches before middle (judge env before.structs a).structs (judge env before.structs a).faults
    → start ≡ begun first.span first.known
    → sort ≡ sort_of ls
    → far ≡ (judge_links env middle.structs s (is_some sort) start ls).far
    → Reaches middle linked (judge_links env middle.structs s (is_some sort) start ls).structs (judge_links env middle.structs s (is_some sort) start ls).faults
    → GivesMade r linked.faults.items faults.items (chained sort s far)
    → GivesJudged r before (record { structs = linked.structs; faults = faults }) (judge env before.structs (e.chain s a ls))
unfolding judge
chain_gives r env before middle linked faults s a ls sort first start far f m b o l t h =
    let p = judge env before.structs a in
    let q = judge_links env p.structs s (is_some (sort_of ls)) (begun (span_of a) p.operand) ls in
    let same : judge_links env middle.structs s (is_some sort) start ls ≡ q =
    ap (λ y. judge_links env y s (is_some sort) start ls) m.structs_are
    ∙ ap (λ y. judge_links env p.structs s (is_some y) start ls) o
    ∙ ap (λ y. judge_links env p.structs s (is_some (sort_of ls)) y ls) (b ∙ ap (λ (y : Placed). begun y.span y.known) f) in
    let far_of : Linked → SoFar = λ x. x.far in
    made_over r before linked faults far q.far q.structs (p.faults ++ q.faults) (λ st y. chained (sort_of ls) s y) (l ∙ ap far_of same)
    (then_reaches before middle linked p.structs q.structs p.faults q.faults m (subst (λ (y : Linked). Reaches middle linked y.structs y.faults) same t))
    (subst (λ y. GivesMade r linked.faults.items faults.items (chained y s far)) o h)

-- what stands before postfixes: where a function is called, its name isn't judged
pub head_is : (name callee : Option FnId) (k : Placed) (before after : Findings) (a : e.ExprTree) (j : Judged)
    → callee ≡ name
    → k ≡ at a (headed callee before.structs j)
    → Reaches before after (headed callee before.structs j).structs (headed callee before.structs j).faults
    → HeadIs name callee k before after a j
head_is name callee k before after a j c is h =
    subst (λ o. HeadIs o callee k before after a j) c (record { callee_is = refl; operand_is = is; reaches = h })

-- the postfixes behind what stands before them
pub postfix_gives : (r : Result Operand AllocError) (env : Env) (before middle after : Findings) (s : Span) (a : e.ExprTree) (ps : e.PostfixTrees) (callee : Option FnId) (k : Placed)
    → HeadIs (function_called env a ps) callee k before middle a (judge env before.structs a)
    → GivesJudged r middle after (judge_postfixes env middle.structs s callee k.span k.known ps)
    → GivesJudged r before after (judge env before.structs (e.postfix s a ps))
unfolding judge
postfix_gives r env before middle after s a ps callee k h t =
    let name = function_called env a ps in
    let p = headed name before.structs (judge env before.structs a) in
    let q = judge_postfixes env p.structs s name (span_of a) p.operand ps in
    let same : judge_postfixes env middle.structs s callee k.span k.known ps ≡ q =
    ap (λ y. judge_postfixes env y s callee k.span k.known ps) h.reaches.structs_are
    ∙ ap (λ y. judge_postfixes env p.structs s y k.span k.known ps) h.callee_is
    ∙ ap (λ (y : Placed). judge_postfixes env p.structs s name y.span y.known ps) h.operand_is in
    judged_behind r before middle after p.faults q h.reaches.faults_are (subst (λ y. GivesJudged r middle after y) same t)

-- the judgment of a postfix that is another one
pub postfix_at : (r : Result Operand AllocError) (before after : Findings) (env : Env) (s : Span) (callee : Option FnId) (k : Placed) (x y : e.PostfixTree) → x ≡ y → GivesJudged r before after (judge_postfix env before.structs s callee k.span k.known y) → GivesJudged r before after (judge_postfix env before.structs s callee k.span k.known x)
postfix_at r before after env s callee k x y is h = subst (λ z. GivesJudged r before after (judge_postfix env before.structs s callee k.span k.known z)) (sym is) h

-- ---- links

-- what is so far, then what the rest gives, is what all give
pub record LinksStep (rest all : Linked) (noted start : List TypeFault) : Type 0 where
  pub far : rest.far ≡ all.far
  pub structs : rest.structs ≡ all.structs
  pub faults : noted ++ rest.faults ≡ start ++ all.faults

pub links_step : (env : Env) (st st' : Structs) (s : Span) (is_logical : Bool) (far far' : SoFar) (l : e.LinkTree) (ls : e.LinkTrees) (noted noted' start : List TypeFault) (all : Linked) → LinksStep (judge_links env st s is_logical far (e.link_and l ls)) all noted start → far' ≡ (judge_link env st s is_logical far l).far → st' ≡ (judge_link env st s is_logical far l).structs → noted' ≡ noted ++ (judge_link env st s is_logical far l).faults → LinksStep (judge_links env st' s is_logical far' ls) all noted' start
unfolding judge_links
links_step env st st' s is_logical far far' l ls noted noted' start all before f t n =
    let one = judge_link env st s is_logical far l in
    let rest = judge_links env one.structs s is_logical one.far ls in
    let same : judge_links env st' s is_logical far' ls ≡ rest = ap (λ y. judge_links env y s is_logical far' ls) t ∙ ap (λ y. judge_links env one.structs s is_logical y ls) f in
    let far_of : Linked → SoFar = λ x. x.far in
    let structs_of : Linked → Structs = λ x. x.structs in
    let faults_of : Linked → List TypeFault = λ x. x.faults in
    record {
      far = ap far_of same ∙ before.far;
      structs = ap structs_of same ∙ before.structs;
      faults = ap (λ xs. xs ++ faults_of (judge_links env st' s is_logical far' ls)) n ∙ ap (λ ys. (noted ++ one.faults) ++ ys) (ap faults_of same) ∙ append_assoc noted one.faults rest.faults ∙ before.faults;
    }

-- ---- arguments

pub record ArgumentsStep (rest all : Arguments) (trees : List ExprTree) (noted start : List TypeFault) : Type 0 where
  pub trees_are : trees ++ rest.trees ≡ all.trees
  pub structs : rest.structs ≡ all.structs
  pub faults : noted ++ rest.faults ≡ start ++ all.faults

pub arguments_step : (env : Env) (st st' : Structs) (params : List «Type») (n : ℕ) (a : e.ExprTree) (es : e.ExprTrees) (trees trees' : List ExprTree) (noted middle noted' start : List TypeFault) (all : Arguments) → ArgumentsStep (judge_arguments env st params n (e.expr_and a es)) all trees noted start → st' ≡ (judge env st a).structs → middle ≡ noted ++ (judge env st a).faults → noted' ≡ middle ++ argument_faults (slice_get params n) (value_of (judge env st a).operand) (span_of a) → trees' ≡ trees ++ argument_tree (slice_get params n) (value_of (judge env st a).operand) (value_tree (span_of a) (judge env st a).operand) ∷ [] → ArgumentsStep (judge_arguments env st' params (n + 1) es) all trees' noted' start
unfolding judge_arguments
arguments_step env st st' params n a es trees trees' noted middle noted' start all before t m f x =
    let p = judge env st a in
    let own = argument_faults (slice_get params n) (value_of p.operand) (span_of a) in
    let tree = argument_tree (slice_get params n) (value_of p.operand) (value_tree (span_of a) p.operand) in
    let rest = judge_arguments env p.structs params (n + 1) es in
    let same : judge_arguments env st' params (n + 1) es ≡ rest = ap (λ y. judge_arguments env y params (n + 1) es) t in
    let trees_of : Arguments → List ExprTree = λ y. y.trees in
    let structs_of : Arguments → Structs = λ y. y.structs in
    let faults_of : Arguments → List TypeFault = λ y. y.faults in
    record {
      trees_are = ap (λ xs. xs ++ trees_of (judge_arguments env st' params (n + 1) es)) x ∙ ap (λ ys. (trees ++ tree ∷ []) ++ ys) (ap trees_of same) ∙ append_assoc trees (tree ∷ []) rest.trees ∙ before.trees_are;
      structs = ap structs_of same ∙ before.structs;
      faults =
          ap (λ xs. xs ++ faults_of (judge_arguments env st' params (n + 1) es)) (f ∙ ap (λ xs. xs ++ own) m)
          ∙ ap (λ ys. ((noted ++ p.faults) ++ own) ++ ys) (ap faults_of same)
          ∙ ap (λ xs. xs ++ rest.faults) (append_assoc noted p.faults own)
          ∙ append_assoc noted (p.faults ++ own) rest.faults
          ∙ before.faults;
    }
