-- Calls: their arguments, and what becomes of their results.
use Rattle.std.proofs.Common.{◌≡◌, ◌∙◌, ◌+◌, ℕ, suc, refl, ap, sym, subst, arith, false, Option, Some, List, [], ◌∷◌, ◌++◌, length, map, Result, Ok, if◌then◌else◌}
use Rattle.std.specs.Prelude.{IsTrue, nat_eq, slice_get}
use Rattle.pt_base.specs.declared.ids.FnId.{FnId}
use Rattle.pt_base.specs.declared.span.Span.{Span}
use Rattle.pt_base.proofs.Booleans.{both_hold_first, both_hold_second, true_not_false}
use Rattle.pt_base.proofs.Lists.{length_map}
use Rattle.pt_base.proofs.Numbers.{as_plus_zero, nat_eq_true}
use Rattle.runs.specs.State.{gives, ◌>>=◌}
use Rattle.pt_tree.specs.declared.signature.Param.{Param}
use Rattle.pt_tree.specs.declared.signature.ParamKind.{ParamKind}
use Rattle.pt_tree.specs.declared.signature.ParamKind.TheVariants as kind
use Rattle.pt_tree.specs.declared.signature.Signature.{Signature}
use Rattle.pt_tree.specs.ExpressionTree as p
use Rattle.type_rules.specs.declared.types.Type.{«Type»}
use Rattle.type_rules.specs.declared.types.Type.TheVariants as ty
use Rattle.type_rules.specs.Conversions.{fit_rule, is_wrong}
use Rattle.typed_tree.specs.ExpressionTree as t
use Rattle.typed_tree.specs.ExpressionTree.{typed, expr_trees}
use Rattle.typed_tree.specs.TypeTests.{is_scalar}
use Rattle.typed_tree.specs.WellFormedExpression.{param_type}
use Rattle.check_declarations.specs.declared.fault.FaultKind.TheVariants.{WrongType, OutOfProfile, ArgCount}
use Rattle.check_declarations.specs.declared.fault.TypeFault.{TypeFault}
use Rattle.check_declarations.specs.Faults.{fault_if, fault_at}
use Rattle.check_declarations.specs.Structs.{Structs}
use Rattle.check_expressions.specs.declared.meaning.Callable.{Callable}
use Rattle.check_expressions.specs.declared.meaning.Meaning.TheVariants.{Function}
use Rattle.check_expressions.specs.Environment.{Env, find}
use Rattle.check_expressions.specs.Expressions.{Judged, Arguments, judge, judge_postfixes, judge_postfix, judge_arguments, headed}
use Rattle.check_expressions.specs.Conversions.{as_type}
use Rattle.check_expressions.specs.Operands.{Made, fine, refused, plain, value_of, value_tree, span_of, var_type}
use Rattle.check_expressions.specs.Postfixes as post
use Rattle.check_expressions.specs.Postfixes.{function_called, function_named, function_meant, is_called, is_call, called, called_function, call_of, call_tree, params_for, params_of, function_params, argument_tree, argument_faults}
use Rattle.block_memory.specs.declared.cell.Cell as core
use Rattle.source_meaning.specs.State.{State, Outcome}
use Rattle.source_meaning.specs.Values as mv
use Rattle.source_meaning.specs.Values.{holds}
use Rattle.source_meaning.specs.Expressions as x
use Rattle.pt_core.specs.CodeTree.{ExprTree, ExprTrees, no_exprs, expr_and}
use Rattle.pt_core.specs.Types.{type_of}
use Rattle.pt_core.specs.Values as w
use Rattle.pt_core.specs.Values.{Stop, ◌>>?◌, written}
use Rattle.pt_core.specs.Statements as c
use Rattle.pt_core.specs.Statements.{does, evaluated, with_blocks, kept_in, kept}
use Rattle.pt_core.specs.WellFormedExpression.{expr_fits, stands_for}
use Rattle.pt_core.specs.WellFormedStatement.{arguments_fit}
use Rattle.half_trees.specs.Names.{nowhere, word, function_name}
use Rattle.half_trees.specs.Expressions as h
use Rattle.half_trees.specs.Statements as hs
use Rattle.half_meaning_law.specs.Relations.{Scene, context_of, Alike}
use Rattle.half_meaning_law.specs.CForms.{are_passed, is_stored}
use Rattle.half_meaning_law.specs.Known.{type_as, function_id, FunctionKnown, Known as AllKnown}
use Rattle.half_meaning_law.specs.Expressions.{Evaluates, IsValue, asked, IsFine, SceneFits}
use Rattle.half_meaning_law.specs.Statements.{AreArguments}
use Rattle.half_meaning_law.proofs.Operators.{ev_bind}
use Rattle.half_meaning_law.proofs.Judged.{no_faults}
use Rattle.half_meaning_law.proofs.Stores.{Stored, stored_held}

-- ---- arguments

-- the arguments are judged without fault, and have the values of the normal form's
pub record ArgumentsMean (s : Scene) (structs : Structs) (ps : List Param) (es : ExprTrees) (a : Arguments) : Type 0 where
  pub faults : a.faults ≡ []
  pub structs_stay : a.structs ≡ structs
  pub count : length a.trees ≡ length ps
  pub same : (st : State) (st' : c.State) → Alike s st st' → Evaluates (AreArguments s ps) st (x.values_of (expr_trees a.trees) (context_of s) st) (w.values_of s.context s.frame.depth es st'.memory)

abbrev types_of : List Param → List «Type»
types_of ps = map (λ p. type_as (param_type p.kind)) ps

param_scalar : (z : ParamKind) → IsTrue (is_scalar (Some (param_type z)))
param_scalar (kind.Int n) = refl
param_scalar (kind.Ptr el g) = refl

more_values : (s : Scene) (q : Param) (ps : List Param) (one : Outcome mv.Value) (r : Result core.Cell Stop) (rest : State → Outcome (List mv.Value)) (r' : Result (List core.Cell) Stop) (st : State) →
    Evaluates (IsValue s (param_type q.kind)) st one r → Evaluates (AreArguments s ps) st (rest st) r' → Evaluates (AreArguments s (q ∷ ps)) st (one >>= λ g st1. rest st1 >>= λ gs. gives (g ∷ gs)) (r >>? λ k. r' >>? λ ks. Ok (k ∷ ks))
more_values s q ps one r rest r' st first later =
    ev_bind (IsValue s (param_type q.kind)) (AreArguments s (q ∷ ps)) st one r (λ g st1. rest st1 >>= λ gs. gives (g ∷ gs)) (λ k. r' >>? λ ks. Ok (k ∷ ks)) first
    (λ g k is. ev_bind (AreArguments s ps) (AreArguments s (q ∷ ps)) st (rest st) r' (λ gs. gives (g ∷ gs)) (λ ks. Ok (k ∷ ks)) later (λ gs ks are. (refl, (is, are))))

at_next : (n j : ℕ) → n + 1 + j ≡ n + suc j
at_next n j = omega arith

-- an argument, and those behind it
more_held : (s : Scene) (env : Env) (structs : Structs) (all : List «Type») (n : ℕ) (q : Param) (ps : List Param) (a : ExprTree) (es : ExprTrees) → slice_get all n ≡ Some (type_as (param_type q.kind)) →
    Stored s structs (param_type q.kind) a (judge env structs (h.expression_tree s.context a)) → ArgumentsMean s structs ps es (judge_arguments env structs all (n + 1) (h.argument_trees s.context es)) →
    ArgumentsMean s structs (q ∷ ps) (expr_and a es) (judge_arguments env structs all n (h.argument_trees s.context (expr_and a es)))
unfolding judge_arguments argument_tree argument_faults
more_held s env structs all n q ps a es is one later =
    subst (λ z. ArgumentsMean s structs (q ∷ ps) (expr_and a es) (made (slice_get all n) z)) (sym one.fine.structs_stay)
    (subst (λ z. ArgumentsMean s structs (q ∷ ps) (expr_and a es) (made z structs)) (sym is) (record {
      faults = no_faults (j.faults ++ own) rest.faults (no_faults j.faults own one.fine.faults (ap (λ z. fault_if z WrongType (span_of (h.expression_tree s.context a))) one.value.fit)) later.faults;
      structs_stay = later.structs_stay;
      count = ap suc later.count;
      same = λ st st' al. more_values s q ps (x.value_of (as_type (type_as (param_type q.kind)) (value_of j.operand).null (value_tree (span_of (h.expression_tree s.context a)) j.operand)) (context_of s) st) (asked s a st'.memory)
          (x.values_of (expr_trees rest.trees) (context_of s)) (w.values_of s.context s.frame.depth es st'.memory) st (one.value.same (span_of (h.expression_tree s.context a)) st st' al) (later.same st st' al);
    }))
  where
    j : Judged
    j = judge env structs (h.expression_tree s.context a)

    own : List TypeFault
    own = fault_if (is_wrong (fit_rule (type_as (param_type q.kind)) (value_of j.operand))) WrongType (span_of (h.expression_tree s.context a))

    rest : Arguments
    rest = judge_arguments env structs all (n + 1) (h.argument_trees s.context es)

    made : Option «Type» → Structs → Arguments
    made o z =
        let r = judge_arguments env z all (n + 1) (h.argument_trees s.context es) in
        record {
          trees = argument_tree o (value_of j.operand) (value_tree (span_of (h.expression_tree s.context a)) j.operand) ∷ r.trees;
          structs = r.structs;
          faults = j.faults ++ argument_faults o (value_of j.operand) (span_of (h.expression_tree s.context a)) ++ r.faults;
        }

-- the arguments from number n on
pub arguments_held : (s : Scene) (env : Env) (structs : Structs) (all : List «Type») (n : ℕ) (ps : List Param) (es : ExprTrees) → SceneFits s → AllKnown s env structs → ((j : ℕ) → slice_get all (n + j) ≡ slice_get (types_of ps) j) →
    IsTrue (arguments_fit s.context ps es) → IsTrue (are_passed s.context ps es) → ArgumentsMean s structs ps es (judge_arguments env structs all n (h.argument_trees s.context es))
unfolding judge_arguments
arguments_held s env structs all n [] no_exprs fits known there ok on = record { faults = refl; structs_stay = refl; count = refl; same = λ st st' al. (refl, tt) }
arguments_held s env structs all n [] (expr_and a es) fits known there ok on = true_not_false (sym ok)
arguments_held s env structs all n (q ∷ ps) no_exprs fits known there ok on = true_not_false (sym ok)
arguments_held s env structs all n (q ∷ ps) (expr_and a es) fits known there ok on =
    more_held s env structs all n q ps a es (ap (λ z. slice_get all z) (as_plus_zero n) ∙ there 0)
    (stored_held s env structs (param_type q.kind) a fits known (param_scalar q.kind) (both_hold_first (expr_fits s.context a) (stands_for (type_of s.context a) (param_type q.kind)) (both_hold_first _ (arguments_fit s.context ps es) ok))
    (both_hold_second (expr_fits s.context a) (stands_for (type_of s.context a) (param_type q.kind)) (both_hold_first _ (arguments_fit s.context ps es) ok)) (both_hold_first (is_stored s.context (param_type q.kind) a) (are_passed s.context ps es) on))
    (arguments_held s env structs all (n + 1) ps es fits known (λ j. ap (λ z. slice_get all z) (at_next n j) ∙ there (suc j)) (both_hold_second _ (arguments_fit s.context ps es) ok) (both_hold_second (is_stored s.context (param_type q.kind) a) (are_passed s.context ps es) on))

-- ---- what is judged of a call

-- the typed tree of a call
abbrev pub typed_call : Callable → FnId → List t.ExprTree → t.ExprTree
typed_call c f trees = typed nowhere (var_type c.result) (t.call f (expr_trees trees))

-- a call is fine, and this is its value
pub record CallJudged (structs : Structs) (result : «Type») (tree : t.ExprTree) (j : Judged) : Type 0 where
  pub fine : IsFine structs j
  pub operand : j.operand ≡ plain result tree

called_is : (c : Callable) (f : FnId) (trees : List t.ExprTree) (sp : Span) → post.is_main c.name ≡ false → length trees ≡ length c.params → call_of c sp f trees ≡ fine (plain c.result (call_tree sp c.result f trees))
unfolding call_of
called_is c f trees sp plain_name same =
    ap (λ z. if z then refused (fault_at OutOfProfile sp ∷ []) else if nat_eq (length trees) (length c.params) then fine (plain c.result (call_tree sp c.result f trees)) else refused (fault_at ArgCount sp ∷ [])) plain_name
    ∙ ap (λ z. if z then fine (plain c.result (call_tree sp c.result f trees)) else refused (fault_at ArgCount sp ∷ [])) (nat_eq_true (length trees) (length c.params) same)

meant_is : (env : Env) (name : List ℕ) (f : FnId) (ps : p.PostfixTrees) (sp : Span) (es : p.ExprTrees) → find env name ≡ Some (Function f) → function_called env (p.name (word name)) (p.postfix_and (p.call sp es) ps) ≡ Some f
unfolding function_called is_called is_call function_named function_meant
meant_is env name f ps sp es is = ap function_meant is

-- the parameters that arguments are held against
abbrev params_known : (s : Scene) (names : List (ℕ × Signature)) (env : Env) (f : ℕ) (signature : Signature) → FunctionKnown s names env f signature → Type 0
params_known s names env f signature known = params_for env (Some (function_id known.place)) ≡ types_of signature.params

params_are : (s : Scene) (names : List (ℕ × Signature)) (env : Env) (f : ℕ) (signature : Signature) (known : FunctionKnown s names env f signature) → params_known s names env f signature known
unfolding params_for params_of function_params
params_are s names env f signature known =
    ap params_of known.known ∙ ap (λ z. if z then [] else known.callable.params) known.no_main ∙ known.params

pub call_judged : (s : Scene) (names : List (ℕ × Signature)) (env : Env) (structs : Structs) (f : ℕ) (signature : Signature) (es : ExprTrees) (known : FunctionKnown s names env f signature) →
    ArgumentsMean s structs signature.params es (judge_arguments env structs (types_of signature.params) 0 (h.argument_trees s.context es)) →
    CallJudged structs known.callable.result (typed_call known.callable (function_id known.place) (judge_arguments env structs (types_of signature.params) 0 (h.argument_trees s.context es)).trees) (judge env structs (hs.call_tree names s.context f es))
unfolding judge headed judge_postfixes judge_postfix called called_function
call_judged s names env structs f signature es known args =
    subst (λ z. Goal (made z)) (sym (meant_is env (function_name names f) (function_id known.place) p.no_postfixes nowhere (h.argument_trees s.context es) known.named))
    (subst (λ z. Goal (with_params z)) (sym (params_are s names env f signature known))
    (subst (λ z. Goal (with_callable z)) (sym known.known)
    (subst (λ (z : Made). Goal (with_made z)) (sym (called_is known.callable (function_id known.place) a.trees nowhere known.no_main (args.count ∙ sym (length_map (λ p. type_as (param_type p.kind)) signature.params) ∙ ap length (sym known.params)))) (record {
      fine = record { faults = no_faults (a.faults ++ []) [] (no_faults a.faults [] args.faults refl) refl; structs_stay = args.structs_stay };
      operand = refl;
    }))))
  where
    a : Arguments
    a = judge_arguments env structs (types_of signature.params) 0 (h.argument_trees s.context es)

    Goal : Judged → Type 0
    Goal j = CallJudged structs known.callable.result (typed_call known.callable (function_id known.place) a.trees) j

    made : Option FnId → Judged
    made callee =
        let o = headed callee structs (judge env structs (p.name (word (function_name names f)))) in
        let q = judge_postfixes env o.structs nowhere callee nowhere o.operand (p.postfix_and (p.call nowhere (h.argument_trees s.context es)) p.no_postfixes) in
        record { operand = q.operand; structs = q.structs; faults = o.faults ++ q.faults }

    with_made : Made → Judged
    with_made z = record { operand = z.operand; structs = a.structs; faults = (a.faults ++ z.faults) ++ [] }

    with_callable : Option Callable → Judged
    with_callable z = with_made (called_function z nowhere (function_id known.place) a.trees)

    with_params : List «Type» → Judged
    with_params z =
        let r = judge_arguments env structs z 0 (h.argument_trees s.context es) in
        let q = called env (Some (function_id known.place)) ty.Bad nowhere r.trees in
        record { operand = q.operand; structs = r.structs; faults = (r.faults ++ q.faults) ++ [] }
