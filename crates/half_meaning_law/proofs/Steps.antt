-- Single statements, and what is stored.
use Rattle.std.proofs.Common.{◌≡◌, ◌∙◌, ◌+◌, pos, refl, ap, sym, subst, Bool, true, false, not, Some, List, [], ◌∷◌, ◌++◌, length, Result, Ok, Err, if◌then◌else◌, None}
use Rattle.std.specs.Prelude.{◌&&◌, ◌||◌}
use Rattle.pt_base.specs.declared.int_type.IntType.{IntType}
use Rattle.pt_base.specs.declared.int_type.IntType.TheVariants as i
use Rattle.pt_base.specs.declared.span.Span.{Span}
use Rattle.pt_base.proofs.Lists.{append_nil}
use Rattle.runs.specs.State.{gives, trapped, spent, ◌>>=◌}
use Rattle.pt_tree.specs.declared.signature.Elem.{Elem}
use Rattle.pt_tree.specs.ExpressionTree as p
use Rattle.pt_tree.specs.StatementTree as e
use Rattle.type_rules.specs.declared.types.Type.{«Type»}
use Rattle.type_rules.specs.declared.types.Type.TheVariants as ty
use Rattle.type_rules.specs.Types.{value_type, is_bad}
use Rattle.type_rules.specs.Conversions.{fit_rule, is_wrong}
use Rattle.type_rules.specs.declared.conversions.Fit.TheVariants as fit
use Rattle.type_rules.proofs.TypeLemmas.{is_same_elem-self}
use Rattle.typed_tree.specs.declared.types.VarTy.{VarTy}
use Rattle.typed_tree.specs.declared.types.VarTy.TheVariants as v
use Rattle.typed_tree.specs.ExpressionTree as t
use Rattle.typed_tree.specs.ExpressionTree.{typed}
use Rattle.check_declarations.specs.declared.fault.TypeFault.{TypeFault}
use Rattle.check_declarations.specs.Structs.{Structs}
use Rattle.check_expressions.specs.Expressions.{Judged, judge, literal}
use Rattle.check_expressions.specs.Conversions.{as_type, to_pointer, to_null, is_of_pointer, converted}
use Rattle.check_expressions.specs.Operands.{Known, fine, value_of, value_tree, read_tree, span_of}
use Rattle.check_statements.specs.declared.context.Context as k
use Rattle.check_statements.specs.Outermost as o
use Rattle.check_statements.specs.Statements.{Checked, CheckedAll, checked, checked_all}
use Rattle.block_memory.specs.declared.cell.Cell as core
use Rattle.block_memory.specs.Blocks.{Blocks}
use Rattle.source_meaning.specs.Memory.{null as no_cell}
use Rattle.source_meaning.specs.State.{Outcome}
use Rattle.source_meaning.specs.Values as mv
use Rattle.source_meaning.specs.Values.{holds}
use Rattle.source_meaning.specs.Expressions as x
use Rattle.source_meaning.specs.Statements as m
use Rattle.source_meaning.specs.Statements.{no_expr, all_of, statement}
use Rattle.pt_core.specs.CodeTree.{ExprTree, null}
use Rattle.pt_core.specs.Types.{type_of}
use Rattle.pt_core.specs.Values.{Stop, ◌>>?◌}
use Rattle.pt_core.specs.Statements as c
use Rattle.pt_core.specs.Statements.{does, evaluated, with_blocks}
use Rattle.half_trees.specs.Names.{nowhere}
use Rattle.half_meaning_law.specs.Relations.{Scene, context_of, is_pointer, reach_of, CellFits, Same}
use Rattle.half_meaning_law.specs.CForms.{points_const, with_const, c_type}
use Rattle.half_meaning_law.specs.Known.{type_as}
use Rattle.half_meaning_law.specs.Expressions.{Evaluates, IsValue, SameValues, asked, IsFine, ExpressionMeans}
use Rattle.half_meaning_law.specs.Statements.{code_of, ListedFrom, GoesOn, SameRuns, advanced, StatementsMean}
use Rattle.half_meaning_law.proofs.Operators.{ev_bind, ev_weaken}
use Rattle.half_meaning_law.proofs.Types.{to_int_same}

-- ---- one statement

-- a statement is judged without fault, and its typed tree runs as this does
pub record StatementMeans (s : Scene) (st : o.State) (one : Checked) (run : c.State → c.Outcome c.Flow) : Type 0 where
  pub fine : one.faults ≡ []
  pub state : one.state ≡ advanced st (length one.trees)
  pub same : (exprs : List t.ExprTree) → ListedFrom exprs st.next one.trees → SameRuns s (statement one.tree (code_of s exprs)) run

after_none : (a : Outcome m.Flow) → (a >>= m.after_flow (λ st. gives m.goes_on st)) ≡ a
after_none (gives m.goes_on st) = refl
after_none (gives m.broke st) = refl
after_none (gives m.continues st) = refl
after_none (gives (m.returned u) st) = refl
after_none (trapped trap span st) = refl
after_none (spent st) = refl

pub one_means : (s : Scene) (w : k.Context) (st : o.State) (a : e.StmtTree) (run : c.State → c.Outcome c.Flow) → StatementMeans s st (checked w st a) run → StatementsMean s st (checked_all w st (e.stmt_trees (a ∷ []))) run
one_means s w st a run h =
    subst (λ ts. StatementsMean s st (made ts (one.faults ++ [])) run) (sym (append_nil one.trees))
    (subst (λ fs. StatementsMean s st (made one.trees fs) run) (sym (append_nil one.faults)) (record {
      fine = h.fine;
      state = h.state;
      same = λ exprs listed st1 st1' al. subst (λ z. Same s (GoesOn s) z (run st1')) (sym (after_none (statement one.tree (code_of s exprs) st1))) (h.same exprs listed st1 st1' al);
    }))
  where
    one : Checked
    one = checked w st a

    made : List t.ExprTree → List TypeFault → CheckedAll
    made ts fs = record { state = one.state; bodies = one.tree ∷ []; trees = ts; faults = fs }

-- an expression that is evaluated alone
pub evaluate_means : (s : Scene) (w : k.Context) (st : o.State) (a : p.ExprTree) (run : c.State → c.Outcome c.Flow) → IsFine st.structs (judge st.env st.structs a) →
    SameRuns s (λ st1. x.value_of (value_tree (span_of a) (judge st.env st.structs a).operand) (context_of s) st1 >>= λ v. gives m.goes_on) run → StatementsMean s st (checked_all w st (e.stmt_trees (e.evaluate nowhere a ∷ []))) run
evaluate_means s w st a run fine same = one_means s w st (e.evaluate nowhere a) run (record {
  fine = fine.faults;
  state = ap (λ z. let y : o.State = record { env = st.env; structs = z; next = st.next + 1 } in y) fine.structs_stay;
  same = λ exprs listed st1 st1' al. subst (λ z. Same s (GoesOn s) (x.value_of z (context_of s) st1 >>= λ v. gives m.goes_on) (run st1')) (sym listed.0) (same st1 st1' al);
})

-- ---- what is stored in an object of a type

-- a judged operand fits an object of the type, and as a value of it is what the normal form asks
pub record ValueFor (s : Scene) (u : VarTy) (k : Known) (ask : Blocks → Result core.Cell Stop) : Type 0 where
  pub good : is_bad k.ty ≡ false
  pub fit : is_wrong (fit_rule (type_as u) (value_of k)) ≡ false
  pub same : (at : Span) → SameValues s u (as_type (type_as u) (value_of k).null (value_tree at k)) ask

-- what is judged a value isn't of a faulty type
pub good_value : (z : «Type») (f : Bool) (u : VarTy) → value_type z f ≡ type_as u → is_bad z ≡ false
good_value ty.Bad f (v.Int t) h = cc
good_value ty.Bad f (v.Struct n) h = cc
good_value ty.Bad f (v.Array el count) h = cc
good_value ty.Bad f (v.Pointer el g) h = cc
good_value ty.Void f u h = refl
good_value (ty.Int t) f u h = refl
good_value (ty.Struct n) f u h = refl
good_value (ty.Array el count) f u h = refl
good_value (ty.Pointer el g) f u h = refl

reach_is : (s : Scene) (u : VarTy) → reach_of s u ≡ (if is_pointer u then Some s.frame.depth else None)
reach_is s (v.Int t) = refl
reach_is s (v.Struct n) = refl
reach_is s (v.Array el count) = refl
reach_is s (v.Pointer el g) = refl

same_reach : (s : Scene) (z u : VarTy) → is_pointer z ≡ is_pointer u → reach_of s z ≡ reach_of s u
same_reach s z u same = reach_is s z ∙ ap (λ b. if b then Some s.frame.depth else None) same ∙ sym (reach_is s u)

-- the same value of another type of its kind
pub value_as : (s : Scene) (u z : VarTy) (g : mv.Value) (q : core.Cell) → is_pointer z ≡ is_pointer u → IsValue s u g q → IsValue s z g q
value_as s u z g q same h = record { cell = h.cell; is = h.is; same = h.same; fits = subst (λ b. CellFits s b h.cell) (sym (same_reach s z u same)) h.fits }

values_as : (s : Scene) (u z : VarTy) (y : t.ExprTree) (ask : Blocks → Result core.Cell Stop) → is_pointer z ≡ is_pointer u → SameValues s u y ask → SameValues s z y ask
values_as s u z y ask same h st st' al = ev_weaken (IsValue s u) (IsValue s z) st (x.value_of y (context_of s) st) (ask st'.memory) (h st st' al) (λ g q is. value_as s u z g q same is)

-- a pointer as one to const, or the other way round
pointer_as : (s : Scene) (u : VarTy) (el : Elem) (g : Bool) (y : t.ExprTree) (ask : Blocks → Result core.Cell Stop) → is_pointer u ≡ true → SameValues s u y ask → SameValues s (v.Pointer el g) (to_pointer el g y) ask
unfolding to_pointer
pointer_as s u el g (typed sp o f) ask points h = go (is_of_pointer g o)
  where
    plain_one : SameValues s (v.Pointer el g) (typed sp o f) ask
    plain_one = values_as s u (v.Pointer el g) (typed sp o f) ask (sym points) h

    go : (z : Bool) → SameValues s (v.Pointer el g) (if z then typed sp o f else converted (v.Pointer el g) (typed sp o f)) ask
    go true = plain_one
    go false = λ st st' al.
        subst (λ r. Evaluates (IsValue s (v.Pointer el g)) st (x.value_of (converted (v.Pointer el g) (typed sp o f)) (context_of s) st) r) (ok_again (ask st'.memory))
        (ev_bind (IsValue s (v.Pointer el g)) (IsValue s (v.Pointer el g)) st (x.value_of (typed sp o f) (context_of s) st) (ask st'.memory) (λ u. gives (mv.converted (v.Pointer el g) u)) (λ q. Ok q) (plain_one st st' al)
        (λ u q is. (refl, record { cell = is.cell; is = ap (mv.converted (v.Pointer el g)) is.is; same = is.same; fits = is.fits })))
      where
        ok_again : (r : Result core.Cell Stop) → (r >>? λ q. Ok q) ≡ r
        ok_again (Ok q) = refl
        ok_again (Err stop) = refl

-- what is judged of an expression, as a value for an object of this type
pub integer_for : (s : Scene) (structs : Structs) (a : ExprTree) (j : Judged) (i : IntType) → ExpressionMeans s structs a j → type_of s.context a ≡ v.Int i → ValueFor s (v.Int i) j.operand (asked s a)
unfolding value_of fit_rule as_type
integer_for s structs a j i h is = record {
  good = good_value j.operand.ty j.operand.fixed (c_type s.context a) h.typed;
  fit = ap (λ z. is_wrong (fit_rule (ty.Int i) (record { ty = z; null = j.operand.null }))) (h.typed ∙ ap (λ z. type_as (with_const (points_const s.context a) z)) is);
  same = λ at. subst (λ z. SameValues s (v.Int i) z (asked s a)) (sym (to_int_same i (value_tree at j.operand) (h.tree at ∙ ap (λ z. Some (with_const (points_const s.context a) z)) is))) (subst (λ z. SameValues s z (value_tree at j.operand) (asked s a)) is (h.same at));
}

pub pointer_for : (s : Scene) (structs : Structs) (a : ExprTree) (j : Judged) (el : Elem) (f g : Bool) → ExpressionMeans s structs a j → type_of s.context a ≡ v.Pointer el f → (g || not (points_const s.context a)) ≡ true → ValueFor s (v.Pointer el g) j.operand (asked s a)
unfolding value_of fit_rule as_type
pointer_for s structs a j el f g h is keeps = record {
  good = good_value j.operand.ty j.operand.fixed (c_type s.context a) h.typed;
  fit =
      ap (λ z. is_wrong (fit_rule (ty.Pointer el g) (record { ty = z; null = j.operand.null }))) (h.typed ∙ ap (λ z. type_as (with_const (points_const s.context a) z)) is)
      ∙ ap (λ z. is_wrong (if z && (g || not (points_const s.context a)) then fit.Points else fit.Wrong)) (is_same_elem-self el)
      ∙ ap (λ z. is_wrong (if z then fit.Points else fit.Wrong)) keeps;
  same = λ at. subst (λ z. SameValues s (v.Pointer el g) (if z then to_null el g (value_tree at j.operand) else to_pointer el g (value_tree at j.operand)) (asked s a)) (sym (h.plain (ap is_pointer is)))
      (pointer_as s (type_of s.context a) el g (value_tree at j.operand) (asked s a) (ap is_pointer is) (h.same at));
}

pub null_for : (s : Scene) (el other : Elem) (g : Bool) → ValueFor s (v.Pointer el g) (literal (record { span = nowhere; value = pos 0; ty = i.Int })) (asked s (null other))
unfolding value_of fit_rule as_type literal value_tree read_tree
null_for s el other g = record {
  good = refl;
  fit = refl;
  same = λ at st st' al. (refl, record { cell = no_cell; is = refl; same = refl; fits = tt });
}
