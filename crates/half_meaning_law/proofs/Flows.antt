-- Blocks, conditions, loops, and what leaves them.
use Rattle.std.proofs.Common.{◌≡◌, ◌∙◌, ◌+◌, ℕ, refl, ap, sym, subst, arith, Bool, true, false, not, Some, None, List, [], ◌∷◌, Ok}
use Rattle.std.specs.Prelude.{IsTrue, ◌||◌}
use Rattle.pt_base.specs.declared.int_type.IntType.{IntType}
use Rattle.pt_base.specs.declared.span.Span.{Span}
use Rattle.pt_base.proofs.Booleans.{true_not_false}
use Rattle.runs.specs.State.{gives, ◌>>=◌}
use Rattle.pt_tree.specs.StatementTree as e
use Rattle.type_rules.specs.declared.types.Type.TheVariants as ty
use Rattle.type_rules.specs.declared.types.Value.{Value}
use Rattle.type_rules.specs.Conversions.{condition_rule, fit_rule, is_wrong}
use Rattle.typed_tree.specs.declared.types.VarTy.{VarTy}
use Rattle.typed_tree.specs.declared.types.VarTy.TheVariants as v
use Rattle.typed_tree.specs.ExpressionTree as t
use Rattle.typed_tree.specs.TypeTests.{is_scalar}
use Rattle.check_declarations.specs.declared.fault.FaultKind.TheVariants.{WrongType, OutOfProfile}
use Rattle.check_declarations.specs.Faults.{fault_if}
use Rattle.check_declarations.specs.Structs.{Structs}
use Rattle.check_expressions.specs.Environment.{Env}
use Rattle.check_expressions.specs.Expressions.{Judged, judge, literal}
use Rattle.check_expressions.specs.Conversions.{as_type}
use Rattle.check_expressions.specs.Operands.{value_of, value_tree, read_tree, span_of}
use Rattle.check_statements.specs.declared.context.Context as k
use Rattle.check_statements.specs.Outermost as o
use Rattle.check_statements.specs.Outermost.{is_no_condition}
use Rattle.check_statements.specs.Statements.{checked, checked_all, inside, outside, wants_value}
use Rattle.block_memory.specs.declared.cell.Cell as core
use Rattle.source_meaning.specs.Memory.{Cell, number, null as no_cell, pointer}
use Rattle.source_meaning.specs.State.{State}
use Rattle.source_meaning.specs.Values as mv
use Rattle.source_meaning.specs.Values.{holds}
use Rattle.source_meaning.specs.Expressions as x
use Rattle.source_meaning.specs.Statements as m
use Rattle.source_meaning.specs.Statements.{Round, again, leaves, statement, otherwise_of, body_round, no_expr}
use Rattle.pt_core.specs.CodeTree.{ExprTree, break_out, continue_on, give_back}
use Rattle.pt_core.specs.Types.{type_of}
use Rattle.pt_core.specs.Values as w
use Rattle.pt_core.specs.Values.{Stop, ◌>>?◌}
use Rattle.pt_core.specs.Statements as c
use Rattle.pt_core.specs.Statements.{does, do_all, evaluated}
use Rattle.pt_core.specs.WellFormedExpression.{expr_fits}
use Rattle.half_trees.specs.Names.{nowhere}
use Rattle.half_trees.specs.Expressions as h
use Rattle.half_trees.specs.Statements as hs
use Rattle.half_meaning_law.specs.Relations.{Scene, context_of, frame_of, core_cell, CellFits, Alike, Same}
use Rattle.half_meaning_law.specs.CForms.{is_null, stands, points_const, with_const}
use Rattle.half_meaning_law.specs.Known.{type_as, Known as AllKnown}
use Rattle.half_meaning_law.specs.Expressions.{Evaluates, IsValue, asked, IsFine, SceneFits}
use Rattle.half_meaning_law.specs.Statements.{SameReturn, GoesOn, SameRuns, advanced, StatementsMean}
use Rattle.half_meaning_law.proofs.Operators.{ev_weaken, holds_same}
use Rattle.half_meaning_law.proofs.Judged.{no_faults, Held}
use Rattle.half_meaning_law.proofs.ExpressionLaw.{expr_held, null_is}
use Rattle.half_meaning_law.proofs.Runs.{same_evaluated, evaluated_both}
use Rattle.half_meaning_law.proofs.Steps.{StatementMeans, one_means, ValueFor, integer_for}

-- ---- states

-- no outermost expression more
pub advanced_none : (st : o.State) → st ≡ advanced st 0
advanced_none st = let same : st.next ≡ st.next + 0 = omega arith in ap (λ n. let y : o.State = record { env = st.env; structs = st.structs; next = n } in y) same

pub advanced_more : (st : o.State) (a b n : ℕ) → a + b ≡ n → advanced (advanced st a) b ≡ advanced st n
advanced_more st a b n is = let same : st.next + a + b ≡ st.next + n = omega (arith, is) in ap (λ n. let y : o.State = record { env = st.env; structs = st.structs; next = n } in y) same

-- ---- what leaves

break_means : (s : Scene) (w : k.Context) (st : o.State) → w.in_loop ≡ true → StatementMeans s st (checked w st (e.stop_loop nowhere)) (does break_out (frame_of s) s.core_calls)
break_means s w st on = record {
  fine = ap (λ z. fault_if (not (z || w.in_switch)) OutOfProfile nowhere) on;
  state = advanced_none st;
  same = λ exprs listed st1 st1' al. record { alike = al; same = tt };
}

continue_means : (s : Scene) (w : k.Context) (st : o.State) → w.in_loop ≡ true → StatementMeans s st (checked w st (e.next_turn nowhere)) (does continue_on (frame_of s) s.core_calls)
continue_means s w st on = record {
  fine = ap (λ z. fault_if (not z) OutOfProfile nowhere) on;
  state = advanced_none st;
  same = λ exprs listed st1 st1' al. record { alike = al; same = tt };
}

pub breaks : (s : Scene) (w : k.Context) (st : o.State) → w.in_loop ≡ true → StatementsMean s st (checked_all w st (e.stmt_trees (e.stop_loop nowhere ∷ []))) (does break_out (frame_of s) s.core_calls)
breaks s w st on = one_means s w st (e.stop_loop nowhere) (does break_out (frame_of s) s.core_calls) (break_means s w st on)

pub continues : (s : Scene) (w : k.Context) (st : o.State) → w.in_loop ≡ true → StatementsMean s st (checked_all w st (e.stmt_trees (e.next_turn nowhere ∷ []))) (does continue_on (frame_of s) s.core_calls)
continues s w st on = one_means s w st (e.next_turn nowhere) (does continue_on (frame_of s) s.core_calls) (continue_means s w st on)

pub returns_nothing : (s : Scene) (w : k.Context) (st : o.State) → w.result ≡ ty.Void → StatementsMean s st (checked_all w st (e.stmt_trees (e.give_back nowhere None ∷ []))) (does (give_back None) (frame_of s) s.core_calls)
returns_nothing s w st is = one_means s w st (e.give_back nowhere None) (does (give_back None) (frame_of s) s.core_calls) (record {
  fine = ap (λ z. fault_if (wants_value z) WrongType nowhere) is;
  state = advanced_none st;
  same = λ exprs listed st1 st1' al. record { alike = al; same = refl };
})

returned_same : (s : Scene) (to : IntType) (g : mv.Value) (q : core.Cell) → IsValue s (v.Int to) g q → SameReturn g (Some q)
returned_same s to g q h = go h.cell h.fits h.is h.same
  where
    go : (cell : Cell) → CellFits s None cell → g ≡ holds cell → q ≡ core_cell s cell → SameReturn g (Some q)
    go (number n) f is same = (n, is, same)
    go no_cell f is same = absurd f
    go (pointer b base count index) f is same = absurd f

value_runs : (s : Scene) (to : IntType) (a : ExprTree) (y : t.ExprTree) → ((st : State) (st' : c.State) → Alike s st st' → Evaluates (IsValue s (v.Int to)) st (x.value_of y (context_of s) st) (asked s a st'.memory)) →
    SameRuns s (λ st. x.value_of y (context_of s) st >>= λ g. gives (m.returned g)) (does (give_back (Some a)) (frame_of s) s.core_calls)
value_runs s to a y values st st' al =
    subst (λ z. Same s (GoesOn s) (x.value_of y (context_of s) st >>= λ g. gives (m.returned g)) z) (sym (evaluated_both (asked s a st'.memory) (λ q. Ok (Some q)) st' (λ q. gives (c.returned q))))
    (same_evaluated s (IsValue s (v.Int to)) (GoesOn s) st st' (x.value_of y (context_of s) st) (asked s a st'.memory) (λ g. gives (m.returned g)) (λ q st1. evaluated (Ok (Some q)) st1 (λ q. gives (c.returned q))) al (values st st' al)
    (λ g q is. record { alike = al; same = returned_same s to g q is }))

pub returns_value : (s : Scene) (w : k.Context) (st : o.State) (to : IntType) (a : ExprTree) → SceneFits s → AllKnown s st.env st.structs → w.result ≡ ty.Int to → IsTrue (expr_fits s.context a) → type_of s.context a ≡ v.Int to → IsTrue (stands a) →
    StatementsMean s st (checked_all w st (e.stmt_trees (e.give_back nowhere (Some (h.expression_tree s.context a)) ∷ []))) (does (give_back (Some a)) (frame_of s) s.core_calls)
returns_value s w st to a fits known result good is on =
    subst (λ z. StatementsMean s st (checked_all z st (e.stmt_trees (e.give_back nowhere (Some (h.expression_tree s.context a)) ∷ []))) (does (give_back (Some a)) (frame_of s) s.core_calls)) (ap (λ z. let y : k.Context = record { result = z; in_loop = w.in_loop; in_switch = w.in_switch } in y) (sym result))
    (one_means s (record { result = ty.Int to; in_loop = w.in_loop; in_switch = w.in_switch }) st (e.give_back nowhere (Some (h.expression_tree s.context a))) (does (give_back (Some a)) (frame_of s) s.core_calls) (record {
      fine = no_faults j.faults (fault_if (is_wrong (fit_rule (ty.Int to) (value_of j.operand))) WrongType (span_of (h.expression_tree s.context a))) held.means.fine.faults (ap (λ z. fault_if z WrongType (span_of (h.expression_tree s.context a))) value.fit);
      state = ap (λ z. let y : o.State = record { env = st.env; structs = z; next = st.next + 1 } in y) held.means.fine.structs_stay;
      same = λ exprs listed st1 st1' al. subst (λ z. Same s (GoesOn s) (x.value_of z (context_of s) st1 >>= λ g. gives (m.returned g)) (does (give_back (Some a)) (frame_of s) s.core_calls st1')) (sym listed.0)
          (value_runs s to a (as_type (ty.Int to) (value_of j.operand).null (value_tree (span_of (h.expression_tree s.context a)) j.operand)) (value.same (span_of (h.expression_tree s.context a))) st1 st1' al);
    }))
  where
    j : Judged
    j = judge st.env st.structs (h.expression_tree s.context a)

    held : Held s st.env st.structs a (h.expression_tree s.context a)
    held = expr_held s st.env st.structs a fits known good on

    value : ValueFor s (v.Int to) j.operand (asked s a)
    value = integer_for s st.structs a j to held.means is

-- ---- blocks

pub block_means : (s : Scene) (w : k.Context) (st : o.State) (xs : List e.StmtTree) (run : c.State → c.Outcome c.Flow) → StatementsMean s (inside st) (checked_all w (inside st) (e.stmt_trees xs)) run → StatementMeans s st (checked w st (hs.braced xs)) run
block_means s w st xs run h = record { fine = h.fine; state = ap outside h.state; same = h.same }

-- ---- conditions

-- both hold, or neither does
abbrev SameTruth : mv.Value → core.Cell → Type 0
SameTruth g q = mv.is_true g ≡ w.holds_in q

pub record Condition (s : Scene) (structs : Structs) (a : ExprTree) (j : Judged) : Type 0 where
  pub fine : IsFine structs j
  pub good : is_no_condition (condition_rule (value_of j.operand)) ≡ false
  pub same : (at : Span) (st : State) (st' : c.State) → Alike s st st' → Evaluates SameTruth st (x.value_of (value_tree at j.operand) (context_of s) st) (asked s a st'.memory)

scalar_condition : (u : VarTy) (f : Bool) (val : Value) → IsTrue (is_scalar (Some u)) → val.ty ≡ type_as (with_const f u) → is_no_condition (condition_rule val) ≡ false
unfolding condition_rule
scalar_condition (v.Int n) f val ok is = ap (λ z. is_no_condition (condition_rule (record { ty = z; null = val.null }))) is
scalar_condition (v.Pointer el g) f val ok is = ap (λ z. is_no_condition (condition_rule (record { ty = z; null = val.null }))) is
scalar_condition (v.Struct n) f val ok is = true_not_false (sym ok)
scalar_condition (v.Array el n) f val ok is = true_not_false (sym ok)

truth_same : (s : Scene) (u : VarTy) (g : mv.Value) (q : core.Cell) → IsValue s u g q → SameTruth g q
truth_same s u g q h = ap mv.is_true h.is ∙ sym (holds_same s h.cell) ∙ ap w.holds_in (sym h.same)

pub condition_held : (s : Scene) (env : Env) (structs : Structs) (a : ExprTree) → SceneFits s → AllKnown s env structs → IsTrue (expr_fits s.context a) → IsTrue (is_scalar (Some (type_of s.context a))) → IsTrue (is_null a || stands a) →
    Condition s structs a (judge env structs (h.expression_tree s.context a))
unfolding judge literal value_of value_tree read_tree condition_rule
condition_held s env structs a fits known good scalar on = go (is_null a) refl on
  where
    go : (z : Bool) → is_null a ≡ z → IsTrue (z || stands a) → Condition s structs a (judge env structs (h.expression_tree s.context a))
    go true is on1 =
        let r = null_is a is in
        subst (λ z. Condition s structs z (judge env structs (h.expression_tree s.context z))) (sym r.1)
        (record { fine = record { faults = refl; structs_stay = refl }; good = refl; same = λ at st st' al. (refl, refl) })
    go false is on1 =
        let held = expr_held s env structs a fits known good on1 in
        record {
          fine = held.means.fine;
          good = scalar_condition (type_of s.context a) (points_const s.context a) (value_of (judge env structs (h.expression_tree s.context a)).operand) scalar held.means.typed;
          same = λ at st st' al. ev_weaken (IsValue s (type_of s.context a)) SameTruth st (x.value_of (value_tree at (judge env structs (h.expression_tree s.context a)).operand) (context_of s) st) (asked s a st'.memory) (held.means.same at st st' al) (λ g q is. truth_same s (type_of s.context a) g q is);
        }
