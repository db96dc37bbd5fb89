-- An expression's tree has at most three nodes for each node of the expression.
use Rattle.std.proofs.Common.{◌≤◌, ◌+◌, ◌*◌, ℕ, Bool, true, false, List, arith, Option, Some, None}
use Rattle.std.specs.Prelude.{is_some, slice_get}
use Rattle.pt_base.specs.declared.ids.FnId.{FnId}
use Rattle.pt_base.specs.declared.span.Span.{Span}
use Rattle.pt_tree.specs.declared.word.Word.{Word}
use Rattle.pt_tree.specs.ExpressionTree as e
use Rattle.pt_tree.specs.SpecifierTree.{SpecTrees}
use Rattle.pt_tree.specs.Nodes as parsed
use Rattle.type_rules.specs.declared.types.Type.{«Type»}
use Rattle.type_rules.specs.declared.types.Value.{Value}
use Rattle.typed_tree.specs.ExpressionTree.{ExprTree, expr_trees}
use Rattle.typed_tree.specs.Nodes.{expr_nodes, exprs_nodes}
use Rattle.check_declarations.specs.Structs.{Structs}
use Rattle.check_expressions.specs.declared.meaning.Meaning.{Meaning}
use Rattle.check_expressions.specs.declared.meaning.Meaning.TheVariants.{Function, Global, Local}
use Rattle.check_expressions.specs.Environment.{Env, find}
use Rattle.check_expressions.specs.Operands.{Known, value_of, value_tree, span_of, joined}
use Rattle.check_expressions.specs.Links.{SoFar, begun, link_rule, sort_of}
use Rattle.check_expressions.specs.Postfixes.{function_called, params_for, argument_tree}
use Rattle.check_expressions.specs.Expressions.{Judged, meant, named_as, named, literal, cast_specified, headed, postfix_span, judge, judge_links, judge_link, judge_postfixes, judge_postfix, judge_arguments}
use Rattle.type_law.proofs.SizesSpecifier.{struct_nodes, specified_small}
use Rattle.type_law.proofs.SizesTree.{weight_of, value_small, as_type_small}
use Rattle.type_law.proofs.SizesOperator.{made_nodes, stepped_small, prefixed_small, cast_small, chosen_small, far_nodes, begun_small, linked_small, chained_small, assigned_small, indexed_small, dotted_small, arrow_small, called_small}

-- what is judged behind these structs, with the structs behind it, against so many nodes
abbrev pub Fits : Structs → ℕ → Known → Structs → Type 0
Fits before n k after = 2 + (weight_of k + struct_nodes after) ≤ 3 * n + struct_nodes before

-- ---- simple expressions

meant_small : (env : Env) (s : Span) (m : Meaning) → made_nodes (meant env s m) ≤ 1
unfolding meant
meant_small env s (Function f) = omega arith
meant_small env s (Global g) = omega arith
meant_small env s (Local v) = omega arith

named_as_small : (env : Env) (s : Span) (m : Option Meaning) → made_nodes (named_as env s m) ≤ 1
unfolding named_as
named_as_small env s None = omega arith
named_as_small env s (Some m) = meant_small env s m

named_small : (env : Env) (w : Word) → made_nodes (named env w) ≤ 1
unfolding named
named_small env w = named_as_small env w.span (find env w.bytes)

literal_small : (c : _) → weight_of (literal c) ≤ 1
unfolding literal
literal_small c = omega arith

cast_structs_small : (structs : Structs) (specs : SpecTrees) → struct_nodes (cast_specified structs specs).structs ≤ parsed.specs_nodes specs + struct_nodes structs
unfolding cast_specified
cast_structs_small structs specs = specified_small false structs specs

argument_small : (t : Option «Type») (w : Value) (x : ExprTree) → expr_nodes (argument_tree t w x) ≤ 1 + expr_nodes x
unfolding argument_tree
argument_small None w x = omega arith
argument_small (Some t) w x = as_type_small t w.null x

-- a callee isn't judged
headed_small : (callee : Option FnId) (structs : Structs) (n : ℕ) (p : Judged) → 1 ≤ n → Fits structs n p.operand p.structs → Fits structs n (headed callee structs p).operand (headed callee structs p).structs
unfolding headed
headed_small None structs n p some h = h
headed_small (Some f) structs n p some h = omega (arith, some)

-- ---- all expressions

-- an expression has a node
some_node : (a : e.ExprTree) → 1 ≤ parsed.expr_nodes a
some_node (e.name w) = omega arith
some_node (e.constant c) = omega arith
some_node (e.prefix s op a) = omega arith
some_node (e.cast s specs pointer a) = omega arith
some_node (e.postfix s a ps) = omega arith
some_node (e.chain s a ls) = omega arith
some_node (e.choice s a b c) = omega arith
some_node (e.assign s op a b) = omega arith

mutual
  unfolding judge judge_links judge_link judge_postfixes judge_postfix judge_arguments

  pub judge_small : (env : Env) (structs : Structs) (a : e.ExprTree) → Fits structs (parsed.expr_nodes a) (judge env structs a).operand (judge env structs a).structs
  judge_small env structs (e.name w) = let one = named_small env w in omega (arith, one)
  judge_small env structs (e.constant c) = let one = literal_small c in omega (arith, one)
  judge_small env structs (e.prefix s op a) =
      let p = judge_small env structs a in
      let own = prefixed_small (judge env structs a).structs op s (span_of a) (judge env structs a).operand in
      omega (arith, p, own)
  judge_small env structs (e.cast s specs pointer a) =
      let base = cast_structs_small structs specs in
      let p = judge_small env (cast_specified structs specs).structs a in
      let own = cast_small pointer (cast_specified structs specs).base s (span_of a) (judge env (cast_specified structs specs).structs a).operand in
      omega (arith, base, p, own)
  judge_small env structs (e.postfix s a ps) =
      let head = headed_small (function_called env a ps) structs (parsed.expr_nodes a) (judge env structs a) (some_node a) (judge_small env structs a) in
      let rest = postfixes_small env (headed (function_called env a ps) structs (judge env structs a)).structs s (function_called env a ps) (span_of a) (headed (function_called env a ps) structs (judge env structs a)).operand ps in
      omega (arith, head, rest)
  judge_small env structs (e.chain s a ls) =
      let p = judge_small env structs a in
      let begin = begun_small (span_of a) (judge env structs a).operand in
      let rest = links_small env (judge env structs a).structs s (is_some (sort_of ls)) (begun (span_of a) (judge env structs a).operand) ls in
      let own = chained_small (sort_of ls) s (judge_links env (judge env structs a).structs s (is_some (sort_of ls)) (begun (span_of a) (judge env structs a).operand) ls).far in
      omega (arith, p, begin, rest, own)
  judge_small env structs (e.choice s a b c) =
      let p = judge_small env structs a in
      let q = judge_small env (judge env structs a).structs b in
      let r = judge_small env (judge env (judge env structs a).structs b).structs c in
      let own = chosen_small s (record { span = span_of a; known = (judge env structs a).operand }) (record { span = span_of b; known = (judge env (judge env structs a).structs b).operand }) (record { span = span_of c; known = (judge env (judge env (judge env structs a).structs b).structs c).operand }) in
      omega (arith, p, q, r, own)
  judge_small env structs (e.assign s op a b) =
      let p = judge_small env structs a in
      let q = judge_small env (judge env structs a).structs b in
      let own = assigned_small (judge env (judge env structs a).structs b).structs op s (span_of a) (judge env structs a).operand (span_of b) (judge env (judge env structs a).structs b).operand in
      omega (arith, p, q, own)

  links_small : (env : Env) (structs : Structs) (s : Span) (is_logical : Bool) (far : SoFar) (ls : e.LinkTrees)
      → far_nodes (judge_links env structs s is_logical far ls).far + struct_nodes (judge_links env structs s is_logical far ls).structs ≤ 3 * parsed.links_nodes ls + (far_nodes far + struct_nodes structs)
  links_small env structs s is_logical far e.no_links = omega arith
  links_small env structs s is_logical far (e.link_and l ls) =
      let one = link_small env structs s is_logical far l in
      let rest = links_small env (judge_link env structs s is_logical far l).structs s is_logical (judge_link env structs s is_logical far l).far ls in
      omega (arith, one, rest)

  link_small : (env : Env) (structs : Structs) (s : Span) (is_logical : Bool) (far : SoFar) (l : e.LinkTree)
      → far_nodes (judge_link env structs s is_logical far l).far + struct_nodes (judge_link env structs s is_logical far l).structs ≤ 3 * parsed.link_nodes l + (far_nodes far + struct_nodes structs)
  link_small env structs s is_logical far (e.link span op a) =
      let q = judge_small env structs a in
      let read = value_small (span_of a) (judge env structs a).operand in
      let own = linked_small (link_rule is_logical op far.value (value_of (judge env structs a).operand)) op (joined s span) far (value_of (judge env structs a).operand) (value_tree (span_of a) (judge env structs a).operand) in
      omega (arith, q, read, own)

  postfixes_small : (env : Env) (structs : Structs) (s : Span) (callee : Option FnId) (at : Span) (k : Known) (ps : e.PostfixTrees)
      → weight_of (judge_postfixes env structs s callee at k ps).operand + struct_nodes (judge_postfixes env structs s callee at k ps).structs ≤ 3 * parsed.postfixes_nodes ps + (weight_of k + struct_nodes structs)
  postfixes_small env structs s callee at k e.no_postfixes = omega arith
  postfixes_small env structs s callee at k (e.postfix_and p ps) =
      let one = postfix_small env structs s callee at k p in
      let rest = postfixes_small env (judge_postfix env structs s callee at k p).structs s None (joined s (postfix_span p)) (judge_postfix env structs s callee at k p).operand ps in
      omega (arith, one, rest)

  postfix_small : (env : Env) (structs : Structs) (s : Span) (callee : Option FnId) (at : Span) (k : Known) (p : e.PostfixTree)
      → weight_of (judge_postfix env structs s callee at k p).operand + struct_nodes (judge_postfix env structs s callee at k p).structs ≤ 3 * parsed.postfix_nodes p + (weight_of k + struct_nodes structs)
  postfix_small env structs s callee at k (e.index span a) =
      let q = judge_small env structs a in
      let own = indexed_small (joined s span) at k (span_of a) (judge env structs a).operand in
      omega (arith, q, own)
  postfix_small env structs s callee at k (e.call span es) =
      let q = arguments_small env structs (params_for env callee) 0 es in
      let own = called_small env callee k.ty (joined s span) (judge_arguments env structs (params_for env callee) 0 es).trees in
      omega (arith, q, own)
  postfix_small env structs s callee at k (e.dot span w) = let own = dotted_small structs w at k in omega (arith, own)
  postfix_small env structs s callee at k (e.arrow span w) = let own = arrow_small structs (joined s span) w at k in omega (arith, own)
  postfix_small env structs s callee at k (e.increment span) = let own = stepped_small structs (joined s span) false true at k in omega (arith, own)
  postfix_small env structs s callee at k (e.decrement span) = let own = stepped_small structs (joined s span) true true at k in omega (arith, own)

  arguments_small : (env : Env) (structs : Structs) (params : List «Type») (n : ℕ) (es : e.ExprTrees)
      → exprs_nodes (expr_trees (judge_arguments env structs params n es).trees) + struct_nodes (judge_arguments env structs params n es).structs ≤ 3 * parsed.exprs_nodes es + struct_nodes structs
  arguments_small env structs params n e.no_exprs = omega arith
  arguments_small env structs params n (e.expr_and a es) =
      let p = judge_small env structs a in
      let read = value_small (span_of a) (judge env structs a).operand in
      let own = argument_small (slice_get params n) (value_of (judge env structs a).operand) (value_tree (span_of a) (judge env structs a).operand) in
      let rest = arguments_small env (judge env structs a).structs params (n + 1) es in
      omega (arith, p, read, own, rest)
