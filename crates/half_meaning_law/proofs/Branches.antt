-- `if` and `while`.
use Rattle.std.proofs.Common.{◌≡◌, ◌∙◌, ◌+◌, ℕ, suc, refl, ap, sym, subst, arith, Bool, true, false, List, [], ◌∷◌, ◌++◌, length, if◌then◌else◌}
use Rattle.pt_base.proofs.Lists.{length_append}
use Rattle.runs.specs.State.{◌>>=◌}
use Rattle.pt_tree.specs.StatementTree as e
use Rattle.type_rules.specs.Conversions.{condition_rule}
use Rattle.typed_tree.specs.ExpressionTree as t
use Rattle.typed_tree.specs.StatementTree as b
use Rattle.check_declarations.specs.declared.fault.FaultKind.TheVariants.{WrongType}
use Rattle.check_declarations.specs.declared.fault.TypeFault.{TypeFault}
use Rattle.check_declarations.specs.Faults.{fault_if}
use Rattle.check_declarations.specs.Structs.{Structs}
use Rattle.check_expressions.specs.Expressions.{Judged, judge}
use Rattle.check_expressions.specs.Operands.{value_of, value_tree, span_of}
use Rattle.check_statements.specs.declared.context.Context as k
use Rattle.check_statements.specs.Outermost as o
use Rattle.check_statements.specs.Outermost.{is_no_condition}
use Rattle.check_statements.specs.Statements.{Checked, CheckedElse, checked, checked_all, checked_else, inside}
use Rattle.source_meaning.specs.State.{State, Outcome}
use Rattle.source_meaning.specs.Values as mv
use Rattle.source_meaning.specs.Values.{holds}
use Rattle.source_meaning.specs.Expressions as x
use Rattle.source_meaning.specs.Statements as m
use Rattle.source_meaning.specs.Statements.{Round, again, leaves, statement, otherwise_of, body_round, no_expr}
use Rattle.pt_core.specs.CodeTree.{ExprTree, StmtTrees, no_stmts, stmt_and, choose}
use Rattle.pt_core.specs.Values as w
use Rattle.pt_core.specs.Values.{Stop, ◌>>?◌}
use Rattle.pt_core.specs.Statements as c
use Rattle.pt_core.specs.Statements.{does, do_all, evaluated}
use Rattle.half_trees.specs.Names.{nowhere}
use Rattle.half_trees.specs.Expressions as h
use Rattle.half_trees.specs.Statements as hs
use Rattle.half_meaning_law.specs.Relations.{Scene, context_of, frame_of, Alike, Same}
use Rattle.half_meaning_law.specs.Expressions.{Evaluates, asked}
use Rattle.half_meaning_law.specs.Statements.{code_of, ListedFrom, GoesOn, SameRuns, advanced, StatementsMean}
use Rattle.half_meaning_law.proofs.Judged.{no_faults}
use Rattle.half_meaning_law.proofs.Runs.{same_evaluated, listed_parts}
use Rattle.half_meaning_law.proofs.Steps.{StatementMeans, one_means}
use Rattle.half_meaning_law.proofs.Flows.{advanced_none, advanced_more, block_means, Condition}

-- ---- if

-- the statements of a branch, judged in a block of their own, wherever that stands
abbrev pub BranchMeans : Scene → k.Context → o.State → List e.StmtTree → (c.State → c.Outcome c.Flow) → Type 0
BranchMeans s w st xs run = (n : ℕ) → StatementsMean s (inside (advanced st n)) (checked_all w (inside (advanced st n)) (e.stmt_trees xs)) run

-- `else` with its block, or nothing
record ElseMeans (s : Scene) (st : o.State) (one : CheckedElse) (run : c.State → c.Outcome c.Flow) : Type 0 where
  fine : one.faults ≡ []
  state : one.state ≡ advanced st (length one.trees)
  same : (exprs : List t.ExprTree) → ListedFrom exprs st.next one.trees → SameRuns s (otherwise_of one.tree (code_of s exprs)) run

else_means : (s : Scene) (w : k.Context) (st : o.State) (ys : StmtTrees) (trees : List e.StmtTree) (n : ℕ) → BranchMeans s w st trees (do_all ys (frame_of s) s.core_calls) → ElseMeans s (advanced st n) (checked_else w (advanced st n) (hs.else_tree ys trees)) (do_all ys (frame_of s) s.core_calls)
else_means s w st no_stmts trees n branch = record {
  fine = refl;
  state = advanced_none (advanced st n);
  same = λ exprs listed st1 st1' al. record { alike = al; same = tt };
}
else_means s w st (stmt_and y ys) trees n branch =
    let h = block_means s w (advanced st n) trees (do_all (stmt_and y ys) (frame_of s) s.core_calls) (branch n) in
    record { fine = h.fine; state = h.state; same = h.same }

choose_runs : (s : Scene) (a : ExprTree) (xs ys : StmtTrees) (y : t.ExprTree) (left right : State → Outcome m.Flow) → ((st : State) (st' : c.State) → Alike s st st' → Evaluates (λ g q. mv.is_true g ≡ w.holds_in q) st (x.value_of y (context_of s) st) (asked s a st'.memory)) →
    SameRuns s left (do_all xs (frame_of s) s.core_calls) → SameRuns s right (do_all ys (frame_of s) s.core_calls) →
    SameRuns s (λ st. x.value_of y (context_of s) st >>= λ g. if mv.is_true g then left else right) (does (choose a xs ys) (frame_of s) s.core_calls)
choose_runs s a xs ys y left right test first second st st' al =
    same_evaluated s (λ g q. mv.is_true g ≡ w.holds_in q) (GoesOn s) st st' (x.value_of y (context_of s) st) (asked s a st'.memory) (λ g. if mv.is_true g then left else right)
    (λ q. if w.holds_in q then do_all xs (frame_of s) s.core_calls else do_all ys (frame_of s) s.core_calls) al (test st st' al)
    (λ g q is. subst (λ z. Same s (GoesOn s) ((if z then left else right) st) ((if w.holds_in q then do_all xs (frame_of s) s.core_calls else do_all ys (frame_of s) s.core_calls) st')) (sym is) (go (w.holds_in q)))
  where
    go : (z : Bool) → Same s (GoesOn s) ((if z then left else right) st) ((if z then do_all xs (frame_of s) s.core_calls else do_all ys (frame_of s) s.core_calls) st')
    go true = first st st' al
    go false = second st st' al

pub choose_means : (s : Scene) (w : k.Context) (st : o.State) (a : ExprTree) (xs ys : StmtTrees) (trees others : List e.StmtTree) → Condition s st.structs a (judge st.env st.structs (h.expression_tree s.context a)) →
    BranchMeans s w st trees (do_all xs (frame_of s) s.core_calls) → BranchMeans s w st others (do_all ys (frame_of s) s.core_calls) →
    StatementsMean s st (checked_all w st (e.stmt_trees (e.choose nowhere (h.expression_tree s.context a) (hs.braced trees) (hs.else_tree ys others) ∷ []))) (does (choose a xs ys) (frame_of s) s.core_calls)
choose_means s w st a xs ys trees others test left right = one_means s w st (e.choose nowhere (h.expression_tree s.context a) (hs.braced trees) (hs.else_tree ys others)) run
    (subst (λ z. StatementMeans s st (made z) run) (sym test.fine.structs_stay)
    (subst (λ z. StatementMeans s st (later z) run) (sym (first.state ∙ advanced_more st 1 (length q.trees) (1 + length q.trees) refl)) (record {
      fine = no_faults tests (q.faults ++ r.faults) (no_faults j.faults own test.fine.faults (ap (λ z. fault_if z WrongType (span_of (h.expression_tree s.context a))) test.good)) (no_faults q.faults r.faults first.fine second.fine);
      state = second.state ∙ advanced_more st (1 + length q.trees) (length r.trees) (suc (length (q.trees ++ r.trees))) (counts (length q.trees) (length r.trees) (length (q.trees ++ r.trees)) (length_append q.trees r.trees));
      same = λ exprs listed st1 st1' al.
          let parts = listed_parts exprs (st.next + 1) q.trees r.trees listed.1 in
          let there : st.next + 1 + length q.trees ≡ st.next + (1 + length q.trees) = omega arith in
          subst (λ z. Same s (GoesOn s) (x.value_of z (context_of s) st1 >>= λ g. if mv.is_true g then statement q.tree (code_of s exprs) else otherwise_of r.tree (code_of s exprs)) (run st1')) (sym listed.0)
          (choose_runs s a xs ys (value_tree (span_of (h.expression_tree s.context a)) j.operand) (statement q.tree (code_of s exprs)) (otherwise_of r.tree (code_of s exprs)) (test.same (span_of (h.expression_tree s.context a)))
          (first.same exprs parts.0) (second.same exprs (subst (λ z. ListedFrom exprs z r.trees) there parts.1)) st1 st1' al);
    })))
  where
    run : c.State → c.Outcome c.Flow
    run = does (choose a xs ys) (frame_of s) s.core_calls

    j : Judged
    j = judge st.env st.structs (h.expression_tree s.context a)

    own : List TypeFault
    own = fault_if (is_no_condition (condition_rule (value_of j.operand))) WrongType (span_of (h.expression_tree s.context a))

    tests : List TypeFault
    tests = j.faults ++ own

    q : Checked
    q = checked w (advanced st 1) (hs.braced trees)

    first : StatementMeans s (advanced st 1) q (do_all xs (frame_of s) s.core_calls)
    first = block_means s w (advanced st 1) trees (do_all xs (frame_of s) s.core_calls) (left 1)

    r : CheckedElse
    r = checked_else w (advanced st (1 + length q.trees)) (hs.else_tree ys others)

    second : ElseMeans s (advanced st (1 + length q.trees)) r (do_all ys (frame_of s) s.core_calls)
    second = else_means s w st ys others (1 + length q.trees) right

    made : Structs → Checked
    made z =
        let p : o.State = record { env = st.env; structs = z; next = st.next + 1 } in
        let one = checked w p (hs.braced trees) in
        let two = checked_else w one.state (hs.else_tree ys others) in
        record { state = two.state; tree = b.choose nowhere (record { 0 = st.next }) one.tree two.tree; trees = value_tree (span_of (h.expression_tree s.context a)) j.operand ∷ (one.trees ++ two.trees); faults = tests ++ (one.faults ++ two.faults) }

    later : o.State → Checked
    later z =
        let two = checked_else w z (hs.else_tree ys others) in
        record { state = two.state; tree = b.choose nowhere (record { 0 = st.next }) q.tree two.tree; trees = value_tree (span_of (h.expression_tree s.context a)) j.operand ∷ (q.trees ++ two.trees); faults = tests ++ (q.faults ++ two.faults) }

    counts : (m n k : ℕ) → k ≡ m + n → (1 + m) + n ≡ suc k
    counts m n k is = omega (arith, is)
