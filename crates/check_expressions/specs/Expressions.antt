-- The type judgments of expressions (C99 6.5): what is known of each, its typed tree, and its faults. An
-- operator finds no fault in an operand of type Bad.
use Rattle.std.specs.Prelude.{ℕ, ◌+◌, pos, List, [], ◌∷◌, ◌++◌, Bool, true, false, Option, Some, None, is_some, slice_get}
use Rattle.std.specs.Ordering.{int_eq}
use Rattle.pt_base.specs.declared.ids.FnId.{FnId}
use Rattle.pt_base.specs.declared.span.Span.{Span}
use Rattle.pt_tree.specs.declared.word.Word.{Word}
use Rattle.pt_tree.specs.declared.word.Constant.{Constant}
use Rattle.pt_tree.specs.SpecifierTree.{SpecTrees}
use Rattle.pt_tree.specs.ExpressionTree as e
use Rattle.type_rules.specs.declared.types.Type.{«Type»}
use Rattle.type_rules.specs.declared.types.Type.TheVariants.{Int}
use Rattle.typed_tree.specs.declared.types.VarTy.TheVariants as v
use Rattle.typed_tree.specs.ExpressionTree.{ExprTree, typed, constant, local, global, RootTree}
use Rattle.check_declarations.specs.declared.fault.FaultKind.TheVariants.{UnknownName, OutOfProfile}
use Rattle.check_declarations.specs.declared.fault.TypeFault.{TypeFault}
use Rattle.check_declarations.specs.declared.marks.Carrier.TheVariants as carrier
use Rattle.check_declarations.specs.Faults.{fault_at}
use Rattle.check_declarations.specs.Marks.{mark_faults}
use Rattle.check_declarations.specs.Specifiers.{specified}
use Rattle.check_declarations.specs.Structs.{Structs}
use Rattle.check_expressions.specs.declared.meaning.Meaning.{Meaning}
use Rattle.check_expressions.specs.declared.meaning.Meaning.TheVariants.{Function, Global, Local}
use Rattle.check_expressions.specs.declared.meaning.Object.{Object}
use Rattle.check_expressions.specs.Environment.{Env, find, global_at, variable_at}
use Rattle.check_expressions.specs.Operands.{Known, Made, value, object, designated, faulty, fine, refused, value_of, value_tree, span_of, joined}
use Rattle.check_expressions.specs.Prefixes.{prefixed, cast_to, stepped}
use Rattle.check_expressions.specs.Links.{SoFar, begun, linked, link_rule, rule_faults, chained, sort_of}
use Rattle.check_expressions.specs.Choices.{chosen}
use Rattle.check_expressions.specs.Assignments.{assigned}
use Rattle.check_expressions.specs.Postfixes.{indexed, dotted, arrow, called, params_for, function_called, argument_tree, argument_faults}

-- What is known of an expression, the structs that are declared after it, since a cast may hold the
-- body of one, and the faults in it.
pub record Judged : Type 0 where
  pub operand : Known
  pub structs : Structs
  pub faults : List TypeFault

-- ---- names and constants

abbrev pub an_object : Object → RootTree → Known
an_object o root = designated o.ty o.fixed (object root [])

-- a function's name stands in calls alone
unfoldable pub meant : Env → Span → Meaning → Made
meant env s (Function f) = refused (fault_at OutOfProfile s ∷ [])
meant env s (Global g) = fine (an_object (global_at env g) (global g))
meant env s (Local v) = fine (an_object (variable_at env v) (local v))

unfoldable pub named_as : Env → Span → Option Meaning → Made
named_as env s None = refused (fault_at UnknownName s ∷ [])
named_as env s (Some m) = meant env s m

unfoldable pub named : Env → Word → Made
named env w = named_as env w.span (find env w.bytes)

unfoldable pub literal : Constant → Known
literal c = record { ty = Int c.ty; fixed = false; designates = false; null = int_eq c.value (pos 0); tree = value (typed c.span (Some (v.Int c.ty)) (constant c.value)) }

-- ---- parts and wholes

-- what stands alone
abbrev pub alone : Structs → Made → Judged
alone structs m = record { operand = m.operand; structs = structs; faults = m.faults }

-- what an operator makes of judged operands with these faults
abbrev pub over : List TypeFault → Structs → Made → Judged
over faults structs m = record { operand = m.operand; structs = structs; faults = faults ++ m.faults }

-- what the specifiers of a cast say, which take no attributes
pub record CastBase : Type 0 where
  pub base : «Type»
  pub structs : Structs
  pub faults : List TypeFault

unfoldable pub cast_specified : Structs → SpecTrees → CastBase
cast_specified structs specs =
    let j = specified false structs specs in
    record { base = j.given.base; structs = j.structs; faults = j.faults ++ mark_faults carrier.Nothing j.given.attributes }

-- where a function is called, its name isn't judged as an expression
unfoldable pub headed : Option FnId → Structs → Judged → Judged
headed (Some f) structs p = record { operand = faulty; structs = structs; faults = [] }
headed None structs p = p

pub record Arguments : Type 0 where
  pub trees : List ExprTree
  pub structs : Structs
  pub faults : List TypeFault

-- the links of a chain, all together
pub record Linked : Type 0 where
  pub far : SoFar
  pub structs : Structs
  pub faults : List TypeFault

unfoldable pub postfix_span : e.PostfixTree → Span
postfix_span (e.index s a) = s
postfix_span (e.call s es) = s
postfix_span (e.dot s w) = s
postfix_span (e.arrow s w) = s
postfix_span (e.increment s) = s
postfix_span (e.decrement s) = s

unfoldable mutual
  pub judge : Env → Structs → e.ExprTree → Judged
  judge env structs (e.name w) = alone structs (named env w)
  judge env structs (e.constant c) = alone structs (fine (literal c))
  judge env structs (e.prefix s op a) =
      let p = judge env structs a in
      over p.faults p.structs (prefixed p.structs op s (span_of a) p.operand)
  judge env structs (e.cast s specs pointer a) =
      let j = cast_specified structs specs in
      let p = judge env j.structs a in
      over (j.faults ++ p.faults) p.structs (cast_to pointer j.base s (span_of a) p.operand)
  judge env structs (e.postfix s a ps) =
      let callee = function_called env a ps in
      let p = headed callee structs (judge env structs a) in
      let q = judge_postfixes env p.structs s callee (span_of a) p.operand ps in
      record { operand = q.operand; structs = q.structs; faults = p.faults ++ q.faults }
  judge env structs (e.chain s a ls) =
      let p = judge env structs a in
      let q = judge_links env p.structs s (is_some (sort_of ls)) (begun (span_of a) p.operand) ls in
      over (p.faults ++ q.faults) q.structs (chained (sort_of ls) s q.far)
  judge env structs (e.choice s a b c) =
      let p = judge env structs a in
      let q = judge env p.structs b in
      let r = judge env q.structs c in
      over (p.faults ++ q.faults ++ r.faults) r.structs (chosen s (record { span = span_of a; known = p.operand }) (record { span = span_of b; known = q.operand }) (record { span = span_of c; known = r.operand }))
  judge env structs (e.assign s op a b) =
      let p = judge env structs a in
      let q = judge env p.structs b in
      over (p.faults ++ q.faults) q.structs (assigned q.structs op s (span_of a) p.operand (span_of b) q.operand)

  -- the links of a chain with the span `s`, of && and || where `is_logical` holds, behind all so far
  pub judge_links : Env → Structs → Span → Bool → SoFar → e.LinkTrees → Linked
  judge_links env structs s is_logical far e.no_links = record { far = far; structs = structs; faults = [] }
  judge_links env structs s is_logical far (e.link_and l ls) =
      let one = judge_link env structs s is_logical far l in
      let rest = judge_links env one.structs s is_logical one.far ls in
      record { far = rest.far; structs = rest.structs; faults = one.faults ++ rest.faults }

  pub judge_link : Env → Structs → Span → Bool → SoFar → e.LinkTree → Linked
  judge_link env structs s is_logical far (e.link span op a) =
      let q = judge env structs a in
      let rule = link_rule is_logical op far.value (value_of q.operand) in
      record {
        far = linked rule op (joined s span) far (value_of q.operand) (value_tree (span_of a) q.operand);
        structs = q.structs;
        faults = q.faults ++ rule_faults rule far.span (span_of a);
      }

  -- the postfixes of an expression with the span `s`, behind an operand with the span `at` or the name
  -- of the function that is called
  pub judge_postfixes : Env → Structs → Span → Option FnId → Span → Known → e.PostfixTrees → Judged
  judge_postfixes env structs s callee at k e.no_postfixes = record { operand = k; structs = structs; faults = [] }
  judge_postfixes env structs s callee at k (e.postfix_and p ps) =
      let one = judge_postfix env structs s callee at k p in
      let rest = judge_postfixes env one.structs s None (joined s (postfix_span p)) one.operand ps in
      record { operand = rest.operand; structs = rest.structs; faults = one.faults ++ rest.faults }

  pub judge_postfix : Env → Structs → Span → Option FnId → Span → Known → e.PostfixTree → Judged
  judge_postfix env structs s callee at k (e.index span a) =
      let q = judge env structs a in
      over q.faults q.structs (indexed (joined s span) at k (span_of a) q.operand)
  judge_postfix env structs s callee at k (e.call span es) =
      let q = judge_arguments env structs (params_for env callee) 0 es in
      over q.faults q.structs (called env callee k.ty (joined s span) q.trees)
  judge_postfix env structs s callee at k (e.dot span w) = alone structs (dotted structs w at k)
  judge_postfix env structs s callee at k (e.arrow span w) = alone structs (arrow structs (joined s span) w at k)
  judge_postfix env structs s callee at k (e.increment span) = alone structs (stepped structs (joined s span) false true at k)
  judge_postfix env structs s callee at k (e.decrement span) = alone structs (stepped structs (joined s span) true true at k)

  -- the arguments from number n on
  pub judge_arguments : Env → Structs → List «Type» → ℕ → e.ExprTrees → Arguments
  judge_arguments env structs params n e.no_exprs = record { trees = []; structs = structs; faults = [] }
  judge_arguments env structs params n (e.expr_and a es) =
      let p = judge env structs a in
      let rest = judge_arguments env p.structs params (n + 1) es in
      record {
        trees = argument_tree (slice_get params n) (value_of p.operand) (value_tree (span_of a) p.operand) ∷ rest.trees;
        structs = rest.structs;
        faults = p.faults ++ argument_faults (slice_get params n) (value_of p.operand) (span_of a) ++ rest.faults;
      }
