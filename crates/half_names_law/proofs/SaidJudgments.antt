-- Each expression that is judged has null only where it may stand: one case for each form.
use Rattle.std.proofs.Common.{◌≡◌, ℕ, ◌+◌, refl, List, Bool, true, false, Option, Some, None, is_some}
use Rattle.std.specs.Prelude.{slice_get}
use Rattle.pt_base.specs.declared.ids.FnId.{FnId}
use Rattle.pt_base.specs.declared.span.Span.{Span}
use Rattle.pt_base.proofs.Booleans.{both_hold}
use Rattle.pt_tree.specs.ExpressionTree as e
use Rattle.type_rules.specs.declared.types.Type.{«Type»}
use Rattle.typed_tree.specs.ExpressionTree.{expr_trees}
use Rattle.check_declarations.specs.Structs.{Structs}
use Rattle.check_expressions.specs.Environment.{Env}
use Rattle.check_expressions.specs.Expressions.{Judged, CastBase, Linked, Arguments, cast_specified, headed, postfix_span, judge, judge_links, judge_link, judge_postfixes, judge_postfix, judge_arguments}
use Rattle.check_expressions.specs.Links.{SoFar, begun, sort_of}
use Rattle.check_expressions.specs.Operands.{Known, joined, span_of, value_of, value_tree}
use Rattle.check_expressions.specs.Postfixes.{argument_tree, function_called, params_for}
use Rattle.half_names_law.specs.SaidNulls.{arguments_stand, is_placed}
use Rattle.half_names_law.proofs.SaidConversions.{KnownStands, faulty_stands, value_stands, value_null}
use Rattle.half_names_law.proofs.SaidChains.{Under, begun_stands, linked_stands, chained_stands}
use Rattle.half_names_law.proofs.SaidJudged.{named_stands, literal_stands, prefixed_stands, cast_stands, chosen_stands, assigned_stands, indexed_stands, dotted_stands, arrow_stands, stepped_stands, argument_placed, called_stands}

headed_stands : (o : Option FnId) (structs : Structs) (j : Judged) → KnownStands j.operand → KnownStands (headed o structs j).operand
unfolding headed
headed_stands None structs j h = h
headed_stands (Some f) structs j h = faulty_stands

mutual
  unfolding judge judge_links judge_link judge_postfixes judge_postfix judge_arguments

  pub judged_stands : (a : e.ExprTree) (env : Env) (structs : Structs) → KnownStands (judge env structs a).operand
  judged_stands (e.name w) env structs = named_stands env w
  judged_stands (e.constant c) env structs = literal_stands c
  judged_stands (e.prefix s op a) env structs =
      let p : Judged = judge env structs a in
      prefixed_stands p.structs op s (span_of a) p.operand (judged_stands a env structs)
  judged_stands (e.cast s specs pointer a) env structs =
      let c : CastBase = cast_specified structs specs in
      let p : Judged = judge env c.structs a in
      cast_stands pointer c.base s (span_of a) p.operand (judged_stands a env c.structs)
  judged_stands (e.postfix s a ps) env structs =
      let callee = function_called env a ps in
      let p : Judged = headed callee structs (judge env structs a) in
      postfixes_stand ps env p.structs s callee (span_of a) p.operand (headed_stands callee structs (judge env structs a) (judged_stands a env structs))
  judged_stands (e.chain s a ls) env structs =
      let p : Judged = judge env structs a in
      let q : Linked = judge_links env p.structs s (is_some (sort_of ls)) (begun (span_of a) p.operand) ls in
      chained_stands (sort_of ls) s q.far (links_stand ls env p.structs s (is_some (sort_of ls)) (begun (span_of a) p.operand) (begun_stands (is_some (sort_of ls)) (span_of a) p.operand (judged_stands a env structs)))
  judged_stands (e.choice s a b c) env structs =
      let p : Judged = judge env structs a in
      let q : Judged = judge env p.structs b in
      let r : Judged = judge env q.structs c in
      chosen_stands s (record { span = span_of a; known = p.operand }) (record { span = span_of b; known = q.operand }) (record { span = span_of c; known = r.operand }) (judged_stands a env structs) (judged_stands b env p.structs) (judged_stands c env q.structs)
  judged_stands (e.assign s op a b) env structs =
      let p : Judged = judge env structs a in
      let q : Judged = judge env p.structs b in
      assigned_stands q.structs op s (span_of a) p.operand (span_of b) q.operand (judged_stands a env structs) (judged_stands b env p.structs)

  links_stand : (ls : e.LinkTrees) (env : Env) (structs : Structs) (s : Span) (is_logical : Bool) (far : SoFar) → Under is_logical far → Under is_logical (judge_links env structs s is_logical far ls).far
  links_stand e.no_links env structs s is_logical far h = h
  links_stand (e.link_and l ls) env structs s is_logical far h =
      let one : Linked = judge_link env structs s is_logical far l in
      links_stand ls env one.structs s is_logical one.far (link_stands l env structs s is_logical far h)

  link_stands : (l : e.LinkTree) (env : Env) (structs : Structs) (s : Span) (is_logical : Bool) (far : SoFar) → Under is_logical far → Under is_logical (judge_link env structs s is_logical far l).far
  link_stands (e.link span op a) env structs s is_logical far h =
      let q : Judged = judge env structs a in
      let k = judged_stands a env structs in
      linked_stands is_logical op (joined s span) far (value_of q.operand) (value_tree (span_of a) q.operand) h (value_null q.operand k) (value_stands (span_of a) q.operand k)

  postfixes_stand : (ps : e.PostfixTrees) (env : Env) (structs : Structs) (s : Span) (callee : Option FnId) (at : Span) (k : Known) → KnownStands k → KnownStands (judge_postfixes env structs s callee at k ps).operand
  postfixes_stand e.no_postfixes env structs s callee at k h = h
  postfixes_stand (e.postfix_and p ps) env structs s callee at k h =
      let one : Judged = judge_postfix env structs s callee at k p in
      postfixes_stand ps env one.structs s None (joined s (postfix_span p)) one.operand (postfix_stands p env structs s callee at k h)

  postfix_stands : (p : e.PostfixTree) (env : Env) (structs : Structs) (s : Span) (callee : Option FnId) (at : Span) (k : Known) → KnownStands k → KnownStands (judge_postfix env structs s callee at k p).operand
  postfix_stands (e.index span a) env structs s callee at k h =
      let q : Judged = judge env structs a in
      indexed_stands (joined s span) at k (span_of a) q.operand h (judged_stands a env structs)
  postfix_stands (e.call span es) env structs s callee at k h =
      let q : Arguments = judge_arguments env structs (params_for env callee) 0 es in
      called_stands env callee k.ty (joined s span) q.trees (given_stand es env structs (params_for env callee) 0)
  postfix_stands (e.dot span w) env structs s callee at k h = dotted_stands structs w at k h
  postfix_stands (e.arrow span w) env structs s callee at k h = arrow_stands structs (joined s span) w at k h
  postfix_stands (e.increment span) env structs s callee at k h = stepped_stands structs (joined s span) false true at k h
  postfix_stands (e.decrement span) env structs s callee at k h = stepped_stands structs (joined s span) true true at k h

  given_stand : (es : e.ExprTrees) (env : Env) (structs : Structs) (params : List «Type») (n : ℕ) → arguments_stand (expr_trees (judge_arguments env structs params n es).trees) ≡ true
  given_stand e.no_exprs env structs params n = refl
  given_stand (e.expr_and a es) env structs params n =
      let p : Judged = judge env structs a in
      let rest : Arguments = judge_arguments env p.structs params (n + 1) es in
      both_hold (is_placed (argument_tree (slice_get params n) (value_of p.operand) (value_tree (span_of a) p.operand))) (arguments_stand (expr_trees rest.trees))
      (argument_placed (slice_get params n) (span_of a) p.operand (judged_stands a env structs)) (given_stand es env p.structs params (n + 1))
