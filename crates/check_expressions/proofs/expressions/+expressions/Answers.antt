use Rattle.std.proofs.Common.{rules, ◌≡◌, ◌∙◌, map, [], ◌∷◌, ◌++◌, slice_get, ap, sym, refl, subst, Some, None, Ok, List, append-nil, is_some, true, false}
use Rattle.std.proofs.lemmas.List.{map-append}
use Rattle.pt_base.proofs.Places.{drop_step_at}
use Rattle.pt_tree.specs.ExpressionTree as parsed
use Rattle.pt_tree.specs.SpecifierTree.{spec_trees, view_spec}
use Rattle.pt_tree.proofs.ListsInTrees.{view_call}
use Rattle.typed_tree.specs.ExpressionTree.{view_expr, ExprTree}
use Rattle.check_declarations.specs.Gives.{Reaches}
use Rattle.check_expressions.specs.EnvOf.{env_of}
use Rattle.check_expressions.specs.Choices.{Placed}
use Rattle.check_expressions.specs.Expressions.{Arguments, Linked, judge_arguments, judge_links, judge, judge_postfix, judge_postfixes, headed, literal}
use Rattle.check_expressions.specs.Gives.{GivesJudged, GivesMade, at}
use Rattle.check_expressions.specs.Operands.{span_of, value_of, value_tree, joined, fine}
use Rattle.check_expressions.specs.Postfixes.{argument_tree, argument_faults, indexed, arrow, called, params_for, function_called}
use Rattle.check_expressions.specs.Prefixes.{prefixed, stepped}
use Rattle.check_expressions.specs.Views.{known, placed, so_far}
use Rattle.check_expressions.proofs.Rows.{view_chain, view_postfixes}
use Rattle.check_expressions.proofs.Walks.{LinksStep, links_step, ArgumentsStep, arguments_step, made_alone, made_fine, made_over, judge_at, cast_gives, assign_gives, choice_gives, chain_gives, head_is, postfix_gives, postfix_at}
use Rattle.check_expressions.proofs.expressions.+expressions.Goals as goal

pub more_links-loop-link-preserved : goal.more_links-loop-link-preserved
more_links-loop-link-preserved t c =
    let env = env_of c.args.names.now in
    let whole = c.args.whole in
    let split = ap (λ xs. parsed.link_trees (map parsed.view_link xs)) (drop_step_at c.args.links.now c.loop-link.link-index c.link-item.result (search rules) c.link-item.is) in
    let all = judge_links env c.args.findings.now.structs whole.span whole.is_logical (so_far c.args.far) (parsed.link_trees (map parsed.view_link c.args.links.now)) in
    let before = subst (λ x. LinksStep (judge_links env c.loop-link.findings.structs whole.span whole.is_logical (so_far c.loop-link.far) x) all c.loop-link.findings.faults.items c.args.findings.now.faults.items) split
    (record { far = c.loop-link.invariant.far; structs = c.loop-link.invariant.structs; faults = c.loop-link.invariant.faults }) in
    let one = c.in_ok-far.ensures in
    let k = links_step env _ _ whole.span whole.is_logical _ _ (parsed.view_link c.link-item.result) _ _ _ _ all before one.0 one.1.structs_are one.1.faults_are in
    record { far = k.far; structs = k.structs; faults = k.faults }

pub arguments-loop-n-preserved : goal.arguments-loop-n-preserved
arguments-loop-n-preserved t c =
    let env = env_of c.args.names.now in
    let a = parsed.view_expr c.index-args-n.result in
    let params = c.args.params.now in
    let n = c.loop-n.n in
    let split = ap (λ xs. parsed.expr_trees (map parsed.view_expr xs)) (drop_step_at c.args.args.now n c.index-args-n.result (search rules) c.index-args-n.is) in
    let all = judge_arguments env c.args.findings.now.structs params 0 (parsed.expr_trees (map parsed.view_expr c.args.args.now)) in
    let before = subst (λ x. ArgumentsStep (judge_arguments env c.loop-n.findings.structs params n x) all (map view_expr c.loop-n.trees.items) c.loop-n.findings.faults.items c.args.findings.now.faults.items) split
    (record { trees_are = c.loop-n.invariant.trees; structs = c.loop-n.invariant.structs; faults = c.loop-n.invariant.faults }) in
    let j = c.in_ok-operand.ensures in
    let k = known c.in_ok-operand.operand in
    let noted = c.expression.new.findings.faults.items in
    let param = c.param_at-param.ensures in
    let tree =
    c.in_ok-argument.ensures.tree
    ∙ ap (λ z. argument_tree z (value_of k) (value_tree c.span_of.result k)) param
    ∙ ap (λ z. argument_tree (slice_get params n) (value_of k) (value_tree z k)) c.span_of.ensures
    ∙ ap (λ z. argument_tree (slice_get params n) (value_of z) (value_tree (span_of a) z)) j.0 in
    let faults =
    c.in_ok-argument.ensures.faults
    ∙ ap (λ z. noted ++ argument_faults z (value_of k) c.span_of.result) param
    ∙ ap (λ z. noted ++ argument_faults (slice_get params n) (value_of k) z) c.span_of.ensures
    ∙ ap (λ z. noted ++ argument_faults (slice_get params n) (value_of z) (span_of a)) j.0 in
    let trees = ap (map view_expr) c.in_ok-push.ensures.items ∙ map-append view_expr c.loop-n.trees.items (c.in_ok-argument.field-0 ∷ []) ∙ ap (λ z. map view_expr c.loop-n.trees.items ++ z ∷ []) tree in
    let r = arguments_step env _ _ params n a _ _ _ _ _ _ _ all before j.1.structs_are j.1.faults_are faults trees in
    record { trees = r.trees_are; structs = r.structs; faults = r.faults }

pub expression-returns-in-Name : goal.expression-returns-in-Name
unfolding judge
expression-returns-in-Name t c =
    judge_at c.named.result c.args.findings.now _ (env_of c.args.names.now) _ _ (ap parsed.view_expr c.in-Name.is) (made_alone c.named.result c.args.findings.now c.named.new.faults _ c.named.ensures)

pub expression-returns-in-Constant : goal.expression-returns-in-Constant
unfolding judge
expression-returns-in-Constant t c =
    judge_at c.literal.result c.args.findings.now _ (env_of c.args.names.now) _ _ (ap parsed.view_expr c.in-Constant.is) (made_fine c.literal.result c.args.findings.now _ c.literal.ensures)

pub operation-returns-in-Name : goal.operation-returns-in-Name
unfolding judge
operation-returns-in-Name t c =
    judge_at c.named.result c.args.findings.now _ (env_of c.args.names.now) _ _ (ap parsed.view_expr c.in-Name.is) (made_alone c.named.result c.args.findings.now c.named.new.faults _ c.named.ensures)

pub operation-returns-in-Constant : goal.operation-returns-in-Constant
unfolding judge
operation-returns-in-Constant t c =
    judge_at c.literal.result c.args.findings.now _ (env_of c.args.names.now) _ _ (ap parsed.view_expr c.in-Constant.is) (made_fine c.literal.result c.args.findings.now _ c.literal.ensures)

pub operation-returns-in_ok-operand-in-Prefix : goal.operation-returns-in_ok-operand-in-Prefix
unfolding judge
operation-returns-in_ok-operand-in-Prefix t c =
    let env = env_of c.args.names.now in
    let a = parsed.view_expr c.deref.result.now in
    let s = c.in-Prefix.s in
    let op = c.in-Prefix.op in
    let shape = ap parsed.view_expr c.in-Prefix.is ∙ ap (λ x. parsed.prefix s op (parsed.view_expr x)) (sym c.deref.ensures) in
    let p = c.in_ok-operand-in-Prefix.ensures in
    judge_at c.prefixed.result c.args.findings.now _ env _ _ shape
    (made_over c.prefixed.result c.args.findings.now c.placed.new.findings c.prefixed.new.faults (placed c.in_ok-operand-in-Prefix.operand) (at a (judge env c.args.findings.now.structs a)) _ _ (λ st (x : Placed). prefixed st op s x.span x.known) p.0 p.1 c.prefixed.ensures)

pub operation-returns-in_ok-operand-in-Cast : goal.operation-returns-in_ok-operand-in-Cast
operation-returns-in_ok-operand-in-Cast t c =
    let env = env_of c.args.names.now in
    let s = c.in-Cast.s in
    let pointer = c.in-Cast.pointer in
    let specs = spec_trees (map view_spec c.deref-in-Cast.result.now) in
    let a = parsed.view_expr c.deref-in-Cast-2.result.now in
    let shape =
    ap parsed.view_expr c.in-Cast.is
    ∙ ap (λ xs. parsed.cast s (spec_trees (map view_spec xs)) pointer (parsed.view_expr c.in-Cast.a.value)) (sym c.deref-in-Cast.ensures.value)
    ∙ ap (λ x. parsed.cast s specs pointer (parsed.view_expr x)) (sym c.deref-in-Cast-2.ensures) in
    let b = c.in_ok-base-in-Cast.ensures in
    let p = c.in_ok-operand-in-Cast.ensures in
    judge_at c.cast_to.result c.args.findings.now _ env _ _ shape
    (cast_gives c.cast_to.result env c.args.findings.now c.cast_base.new.findings c.placed-in-Cast.new.findings c.cast_to.new.faults s specs pointer a _ _ b.0 b.1 p.0 p.1 c.cast_to.ensures)

pub operation-returns-in_ok-head-in-Postfix : goal.operation-returns-in_ok-head-in-Postfix
operation-returns-in_ok-head-in-Postfix t c =
    let env = env_of c.args.names.now in
    let s = c.in-Postfix.s in
    let a = parsed.view_expr c.deref-in-Postfix.result.now in
    let ps = parsed.postfix_trees (map parsed.view_postfix c.deref-in-Postfix-2.result.now) in
    let shape =
    ap parsed.view_expr c.in-Postfix.is
    ∙ view_postfixes s c.in-Postfix.a c.in-Postfix.postfixes
    ∙ ap (λ x. parsed.postfix s (parsed.view_expr x) (parsed.postfix_trees (map parsed.view_postfix c.in-Postfix.postfixes.items))) (sym c.deref-in-Postfix.ensures)
    ∙ ap (λ xs. parsed.postfix s a (parsed.postfix_trees (map parsed.view_postfix xs))) (sym c.deref-in-Postfix-2.ensures.value) in
    let head = placed c.in_ok-head-in-Postfix.head.operand in
    let callee = c.in_ok-head-in-Postfix.head.callee in
    let middle = c.head_of.new.findings in
    let rest = subst (λ xs. GivesJudged c.more_postfixes.result middle c.more_postfixes.new.findings (judge_postfixes env middle.structs s callee head.span head.known (parsed.postfix_trees (map parsed.view_postfix xs)))) (c.deref-in-Postfix-3.ensures.value ∙ sym c.deref-in-Postfix-2.ensures.value) c.more_postfixes.ensures in
    judge_at c.more_postfixes.result c.args.findings.now _ env _ _ shape
    (postfix_gives c.more_postfixes.result env c.args.findings.now middle c.more_postfixes.new.findings s a ps callee head c.in_ok-head-in-Postfix.ensures rest)

pub operation-returns-in_ok-far-in-Chain : goal.operation-returns-in_ok-far-in-Chain
operation-returns-in_ok-far-in-Chain t c =
    let env = env_of c.args.names.now in
    let s = c.in-Chain.s in
    let a = parsed.view_expr c.deref-in-Chain.result.now in
    let ls = parsed.link_trees (map parsed.view_link c.deref-in-Chain-2.result.now) in
    let shape =
    ap parsed.view_expr c.in-Chain.is
    ∙ view_chain s c.in-Chain.a c.in-Chain.links
    ∙ ap (λ x. parsed.chain s (parsed.view_expr x) (parsed.link_trees (map parsed.view_link c.in-Chain.links.items))) (sym c.deref-in-Chain.ensures)
    ∙ ap (λ xs. parsed.chain s a (parsed.link_trees (map parsed.view_link xs))) (sym c.deref-in-Chain-2.ensures.value) in
    let p = c.in_ok-first-in-Chain.ensures in
    let start = so_far c.in_ok-start-in-Chain.start in
    let middle = c.placed-in-Chain.new.findings in
    let linked = c.more_links.new.findings in
    let q = c.in_ok-far-in-Chain.ensures in
    let same : judge_links env middle.structs s c.is_some.result start (parsed.link_trees (map parsed.view_link c.deref-in-Chain-3.result.now)) ≡ judge_links env middle.structs s (is_some c.sort_of-sort.result) start ls =
    ap (λ b. judge_links env middle.structs s b start (parsed.link_trees (map parsed.view_link c.deref-in-Chain-3.result.now))) c.is_some.ensures
    ∙ ap (λ xs. judge_links env middle.structs s (is_some c.sort_of-sort.result) start (parsed.link_trees (map parsed.view_link xs))) (c.deref-in-Chain-3.ensures.value ∙ sym c.deref-in-Chain-2.ensures.value) in
    judge_at c.chained.result c.args.findings.now _ env _ _ shape
    (chain_gives c.chained.result env c.args.findings.now middle linked c.chained.new.faults s a ls c.sort_of-sort.result (placed c.in_ok-first-in-Chain.first) start (so_far c.in_ok-far-in-Chain.far) p.0 p.1 c.in_ok-start-in-Chain.ensures c.sort_of-sort.ensures (q.0 ∙ ap (λ (y : Linked). y.far) same) (subst (λ (y : Linked). Reaches middle linked y.structs y.faults) same q.1) c.chained.ensures)

pub operation-returns-in_ok-last-in-Choice : goal.operation-returns-in_ok-last-in-Choice
operation-returns-in_ok-last-in-Choice t c =
    let env = env_of c.args.names.now in
    let s = c.in-Choice.s in
    let i = parsed.view_expr c.deref-in-Choice.result.now in
    let j = parsed.view_expr c.deref-in-Choice-2.result.now in
    let k = parsed.view_expr c.deref-in-Choice-3.result.now in
    let shape =
    ap parsed.view_expr c.in-Choice.is
    ∙ ap (λ x. parsed.choice s (parsed.view_expr x) (parsed.view_expr c.in-Choice.b.value) (parsed.view_expr c.in-Choice.c.value)) (sym c.deref-in-Choice.ensures)
    ∙ ap (λ x. parsed.choice s i (parsed.view_expr x) (parsed.view_expr c.in-Choice.c.value)) (sym c.deref-in-Choice-2.ensures)
    ∙ ap (λ x. parsed.choice s i j (parsed.view_expr x)) (sym c.deref-in-Choice-3.ensures) in
    let p = c.in_ok-test-in-Choice.ensures in
    let q = c.in_ok-first-in-Choice.ensures in
    let r = c.in_ok-last-in-Choice.ensures in
    judge_at c.chosen.result c.args.findings.now _ env _ _ shape
    (choice_gives c.chosen.result env c.args.findings.now c.placed-in-Choice.new.findings c.placed-in-Choice-2.new.findings c.placed-in-Choice-3.new.findings c.chosen.new.faults s i j k _ _ _ p.0 p.1 q.0 q.1 r.0 r.1 c.chosen.ensures)

pub operation-returns-in_ok-right-in-Assign : goal.operation-returns-in_ok-right-in-Assign
operation-returns-in_ok-right-in-Assign t c =
    let env = env_of c.args.names.now in
    let s = c.in-Assign.s in
    let op = c.in-Assign.op in
    let i = parsed.view_expr c.deref-in-Assign.result.now in
    let j = parsed.view_expr c.deref-in-Assign-2.result.now in
    let shape =
    ap parsed.view_expr c.in-Assign.is
    ∙ ap (λ x. parsed.assign s op (parsed.view_expr x) (parsed.view_expr c.in-Assign.b.value)) (sym c.deref-in-Assign.ensures)
    ∙ ap (λ x. parsed.assign s op i (parsed.view_expr x)) (sym c.deref-in-Assign-2.ensures) in
    let p = c.in_ok-left-in-Assign.ensures in
    let q = c.in_ok-right-in-Assign.ensures in
    judge_at c.assigned.result c.args.findings.now _ env _ _ shape
    (assign_gives c.assigned.result env c.args.findings.now c.placed-in-Assign.new.findings c.placed-in-Assign-2.new.findings c.assigned.new.faults s op i j _ _ p.0 p.1 q.0 q.1 c.assigned.ensures)

-- ---- postfixes

pub head_of-returns-in-Some : goal.head_of-returns-in-Some
unfolding headed
head_of-returns-in-Some t c =
    let a = parsed.view_expr c.args.a.now in
    let j = judge (env_of c.args.names.now) c.args.findings.now.structs a in
    let f = c.in-Some.f in
    let operand : record { span = c.span_of.result; known = known c.faulty.result } ≡ at a (headed (Some f) c.args.findings.now.structs j) = (λ i. record { span = c.span_of.ensures i; known = c.faulty.ensures i }) in
    head_is _ (Some f) _ c.args.findings.now c.args.findings.now a j c.in-Some.ensures operand (record { structs_are = refl; faults_are = sym (append-nil c.args.findings.now.faults.items) })

pub head_of-returns-in_ok-operand-in-None : goal.head_of-returns-in_ok-operand-in-None
unfolding headed
head_of-returns-in_ok-operand-in-None t c =
    let a = parsed.view_expr c.args.a.now in
    let p = c.in_ok-operand-in-None.ensures in
    head_is _ None _ c.args.findings.now c.placed.new.findings a (judge (env_of c.args.names.now) c.args.findings.now.structs a) c.in-None.ensures p.0 p.1

pub one_postfix-returns-in_ok-index-in-Index : goal.one_postfix-returns-in_ok-index-in-Index
unfolding judge_postfix
one_postfix-returns-in_ok-index-in-Index t c =
    let env = env_of c.args.names.now in
    let k = placed c.args.head.operand in
    let a = parsed.view_expr c.in-Index.a in
    let p = c.in_ok-index-in-Index.ensures in
    let middle = c.placed.new.findings in
    let made = subst (λ w. GivesMade c.indexed.result middle.faults.items c.indexed.new.faults.items (indexed w k.span k.known c.in_ok-index-in-Index.index.span (known c.in_ok-index-in-Index.index.operand))) c.joined-s.ensures c.indexed.ensures in
    postfix_at c.indexed.result c.args.findings.now _ env c.args.s c.args.head.callee k _ _ (ap parsed.view_postfix c.in-Index.is)
    (made_over c.indexed.result c.args.findings.now middle c.indexed.new.faults (placed c.in_ok-index-in-Index.index) (at a (judge env c.args.findings.now.structs a)) _ _ (λ st (x : Placed). indexed (joined c.args.s c.in-Index.span) k.span k.known x.span x.known) p.0 p.1 made)

pub one_postfix-returns-in_ok-trees-in-Call : goal.one_postfix-returns-in_ok-trees-in-Call
unfolding judge_postfix
one_postfix-returns-in_ok-trees-in-Call t c =
    let env = env_of c.args.names.now in
    let before = c.args.findings.now in
    let k = placed c.args.head.operand in
    let callee = c.args.head.callee in
    let span = c.in-Call.span in
    let es = parsed.expr_trees (map parsed.view_expr c.deref.result.now) in
    let shape = ap parsed.view_postfix c.in-Call.is ∙ view_call span c.in-Call.args ∙ ap (λ xs. parsed.call span (parsed.expr_trees (map parsed.view_expr xs))) (sym c.deref.ensures.value) in
    let middle = c.arguments.new.findings in
    let q = c.in_ok-trees-in-Call.ensures in
    let judged = judge_arguments env before.structs (params_for env callee) 0 es in
    let same : judge_arguments env before.structs c.params_for-params.result.now 0 es ≡ judged = ap (λ z. judge_arguments env before.structs z 0 es) c.params_for-params.ensures in
    let trees = map view_expr c.in_ok-trees-in-Call.trees.items in
    let made = subst (λ w. GivesMade c.called.result middle.faults.items c.called.new.faults.items (called env callee k.known.ty w trees)) c.joined-s-in-Call.ensures c.called.ensures in
    postfix_at c.called.result before _ env c.args.s callee k _ _ shape
    (made_over c.called.result before middle c.called.new.faults trees judged.trees judged.structs judged.faults (λ st (x : List ExprTree). called env callee k.known.ty (joined c.args.s span) x) (q.0 ∙ ap (λ (y : Arguments). y.trees) same) (subst (λ (y : Arguments). Reaches before middle y.structs y.faults) same q.1) made)

pub one_postfix-returns-in-Field : goal.one_postfix-returns-in-Field
unfolding judge_postfix
one_postfix-returns-in-Field t c =
    postfix_at c.dotted.result c.args.findings.now _ (env_of c.args.names.now) c.args.s c.args.head.callee (placed c.args.head.operand) _ _ (ap parsed.view_postfix c.in-Field.is)
    (made_alone c.dotted.result c.args.findings.now c.dotted.new.faults _ c.dotted.ensures)

pub one_postfix-returns-in-Arrow : goal.one_postfix-returns-in-Arrow
unfolding judge_postfix
one_postfix-returns-in-Arrow t c =
    let before = c.args.findings.now in
    let k = placed c.args.head.operand in
    let made = subst (λ w. GivesMade c.arrow.result before.faults.items c.arrow.new.faults.items (arrow before.structs w c.in-Arrow.word k.span k.known)) c.joined-s-in-Arrow.ensures c.arrow.ensures in
    postfix_at c.arrow.result before _ (env_of c.args.names.now) c.args.s c.args.head.callee k _ _ (ap parsed.view_postfix c.in-Arrow.is)
    (made_alone c.arrow.result before c.arrow.new.faults _ made)

pub one_postfix-returns-in-Increment : goal.one_postfix-returns-in-Increment
unfolding judge_postfix
one_postfix-returns-in-Increment t c =
    let before = c.args.findings.now in
    let k = placed c.args.head.operand in
    let made = subst (λ w. GivesMade c.stepped.result before.faults.items c.stepped.new.faults.items (stepped before.structs w false true k.span k.known)) c.joined-s-in-Increment.ensures c.stepped.ensures in
    postfix_at c.stepped.result before _ (env_of c.args.names.now) c.args.s c.args.head.callee k _ _ (ap parsed.view_postfix c.in-Increment.is)
    (made_alone c.stepped.result before c.stepped.new.faults _ made)

pub one_postfix-returns-in-Decrement : goal.one_postfix-returns-in-Decrement
unfolding judge_postfix
one_postfix-returns-in-Decrement t c =
    let before = c.args.findings.now in
    let k = placed c.args.head.operand in
    let made = subst (λ w. GivesMade c.stepped-in-Decrement.result before.faults.items c.stepped-in-Decrement.new.faults.items (stepped before.structs w true true k.span k.known)) c.joined-s-in-Decrement.ensures c.stepped-in-Decrement.ensures in
    postfix_at c.stepped-in-Decrement.result before _ (env_of c.args.names.now) c.args.s c.args.head.callee k _ _ (ap parsed.view_postfix c.in-Decrement.is)
    (made_alone c.stepped-in-Decrement.result before c.stepped-in-Decrement.new.faults _ made)
