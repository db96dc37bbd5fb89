-- The statements that store: assignments and copies of structs.
use Rattle.std.proofs.Common.{◌≡◌, ◌∙◌, ℕ, refl, sym, subst, Bool, true, false, not, Option, Some, None, [], ◌∷◌, ◌++◌, Ok}
use Rattle.std.specs.Prelude.{IsTrue}
use Rattle.pt_base.specs.declared.span.Span.{Span}
use Rattle.pt_base.proofs.Booleans.{true_not_false}
use Rattle.runs.specs.State.{gives, ◌>>=◌}
use Rattle.pt_tree.specs.declared.signature.Elem.{Elem}
use Rattle.pt_tree.specs.ExpressionTree as p
use Rattle.pt_tree.specs.StatementTree as e
use Rattle.type_rules.specs.Types.{is_bad}
use Rattle.type_rules.specs.Conversions.{fit_rule, is_wrong}
use Rattle.typed_tree.specs.declared.types.VarTy.{VarTy}
use Rattle.typed_tree.specs.declared.types.VarTy.TheVariants as v
use Rattle.typed_tree.specs.ExpressionTree as t
use Rattle.typed_tree.specs.ExpressionTree.{typed}
use Rattle.typed_tree.specs.TypeTests.{is_scalar}
use Rattle.check_declarations.specs.Structs.{Structs, has_const}
use Rattle.check_expressions.specs.Environment.{Env}
use Rattle.check_expressions.specs.Expressions.{Judged, over, judge}
use Rattle.check_expressions.specs.Conversions.{as_type}
use Rattle.check_expressions.specs.Operands.{Made, value_of, value_tree, place_of, span_of, var_type}
use Rattle.check_expressions.specs.Assignments.{assigned}
use Rattle.check_statements.specs.declared.context.Context as k
use Rattle.check_statements.specs.Outermost as o
use Rattle.check_statements.specs.Statements.{checked_all}
use Rattle.block_memory.specs.declared.cell.Cell as core
use Rattle.block_memory.specs.Blocks.{Blocks}
use Rattle.source_meaning.specs.State.{State}
use Rattle.source_meaning.specs.Values as mv
use Rattle.source_meaning.specs.Values.{holds}
use Rattle.source_meaning.specs.Expressions as x
use Rattle.source_meaning.specs.Statements as m
use Rattle.source_meaning.specs.Statements.{no_expr, all_of, statement}
use Rattle.pt_core.specs.CodeTree.{ExprTree, PlaceTree, assign}
use Rattle.pt_core.specs.Types.{type_of, place_type}
use Rattle.pt_core.specs.Values as w
use Rattle.pt_core.specs.Values.{Stop, ◌>>?◌, written}
use Rattle.pt_core.specs.Statements as c
use Rattle.pt_core.specs.Statements.{does, evaluated, with_blocks}
use Rattle.pt_core.specs.WellFormedExpression.{stands_for, expr_fits}
use Rattle.half_trees.specs.Names.{nowhere}
use Rattle.half_trees.specs.Expressions as h
use Rattle.half_meaning_law.specs.Relations.{Scene, context_of, frame_of, core_cell, CellFits, Alike, Same}
use Rattle.half_meaning_law.specs.CForms.{stands, is_stored}
use Rattle.half_meaning_law.specs.Known.{type_as}
use Rattle.half_meaning_law.specs.Expressions.{IsValue, IsPlace, SameValues, SamePlaces, asked, place_asked, IsFine, SceneFits}
use Rattle.half_meaning_law.specs.Statements.{GoesOn, SameRuns, StatementsMean}
use Rattle.half_meaning_law.proofs.Memories.{alike_written}
use Rattle.half_meaning_law.proofs.Judged.{no_faults}
use Rattle.half_meaning_law.proofs.Runs.{same_evaluated, evaluated_both, bind_assoc}
use Rattle.half_trees.specs.Statements as hs
use Rattle.half_meaning_law.specs.Relations.{name_of}
use Rattle.half_meaning_law.specs.Known.{Known as AllKnown}
use Rattle.pt_core.specs.Values.{cells_at, all_written}
use Rattle.pt_core.specs.WellFormedExpression.{place_fits}
use Rattle.half_meaning_law.specs.CForms.{is_const, place_stands}
use Rattle.half_meaning_law.proofs.Memories.{OneToOne}
use Rattle.half_meaning_law.proofs.PlaceLaw.{PlaceHeld}
use Rattle.half_meaning_law.proofs.ExpressionLaw.{place_held}
use Rattle.half_meaning_law.proofs.Steps.{evaluate_means}
use Rattle.half_meaning_law.proofs.Stores.{Stored, stored_held, Target, assigned_is, assigned_tree}

-- ---- what is written

stored_alike : (s : Scene) (u : VarTy) (st : State) (st' : c.State) (at : mv.Location) (at' : w.Location) (g : mv.Value) (q : core.Cell) → OneToOne s.global_number → Alike s st st' → IsPlace s u at at' → IsValue s u g q →
    Alike s (record st { memory = x.stored_in st.memory at g }) (with_blocks (written st'.memory at'.block at'.cell q) st')
stored_alike s u st st' at at' g q one al place value =
    subst (λ z. Alike s (record st { memory = x.stored_in st.memory at z }) (with_blocks (written st'.memory at'.block at'.cell q) st')) (sym value.is)
    (subst (λ z. Alike s (record st { memory = x.stored_in st.memory at (holds value.cell) }) (with_blocks (written st'.memory at'.block at'.cell z) st')) (sym value.same)
    (subst (λ z. Alike s (record st { memory = x.stored_in st.memory at (holds value.cell) }) (with_blocks (written st'.memory z at'.cell (core_cell s value.cell)) st')) (sym place.block)
    (subst (λ z. Alike s (record st { memory = x.stored_in st.memory at (holds value.cell) }) (with_blocks (written st'.memory (name_of s at.block) z (core_cell s value.cell)) st')) (sym place.cell)
    (alike_written s st st' at.block at.cell value.cell one al (subst (λ z. CellFits s z value.cell) (sym place.fits) value.fits)))))

-- a value goes to a place
pub assign_runs : (s : Scene) (u : VarTy) (q : PlaceTree) (a : ExprTree) (y : t.PlaceTree) (z : t.ExprTree) (sp : Span) (o : Option VarTy) → OneToOne s.global_number → SamePlaces s u y (place_asked s q) → SameValues s u z (asked s a) →
    SameRuns s (λ st. x.value_of (typed sp o (t.assign y z)) (context_of s) st >>= λ g. gives m.goes_on) (does (assign q a) (frame_of s) s.core_calls)
assign_runs s u q a y z sp o one places values st st' al =
    subst (λ r. Same s (GoesOn s) r (does (assign q a) (frame_of s) s.core_calls st')) (sym (bind_assoc (x.location_of y (context_of s) st) (λ at st1. x.value_of z (context_of s) st1 >>= x.store at) (λ g. gives m.goes_on)))
    (subst (λ r. Same s (GoesOn s) (x.location_of y (context_of s) st >>= λ at st1. (x.value_of z (context_of s) st1 >>= x.store at) >>= λ g. gives m.goes_on) r)
    (sym (evaluated_both (place_asked s q st'.memory) (λ at. asked s a st'.memory >>? λ g. Ok (written st'.memory at.block at.cell g)) st' next))
    (same_evaluated s (IsPlace s u) (GoesOn s) st st' (x.location_of y (context_of s) st) (place_asked s q st'.memory) (λ at st1. (x.value_of z (context_of s) st1 >>= x.store at) >>= λ g. gives m.goes_on)
    (λ at st1. evaluated (asked s a st'.memory >>? λ g. Ok (written st'.memory at.block at.cell g)) st1 next) al (places st st' al)
    (λ at at' place.
    subst (λ r. Same s (GoesOn s) r (evaluated (asked s a st'.memory >>? λ g. Ok (written st'.memory at'.block at'.cell g)) st' next)) (sym (bind_assoc (x.value_of z (context_of s) st) (x.store at) (λ g. gives m.goes_on)))
    (subst (λ r. Same s (GoesOn s) (x.value_of z (context_of s) st >>= λ g st1. x.store at g st1 >>= λ h. gives m.goes_on) r) (sym (evaluated_both (asked s a st'.memory) (λ g. Ok (written st'.memory at'.block at'.cell g)) st' next))
    (same_evaluated s (IsValue s u) (GoesOn s) st st' (x.value_of z (context_of s) st) (asked s a st'.memory) (λ g st1. x.store at g st1 >>= λ h. gives m.goes_on) (λ g st1. next (written st'.memory at'.block at'.cell g) st1) al (values st st' al)
    (λ g k value. record { alike = stored_alike s u st st' at at' g k one al place value; same = tt }))))))
  where
    next : Blocks → c.State → c.Outcome c.Flow
    next blocks st1 = gives c.goes_on (with_blocks blocks st1)

-- ---- what is judged

-- an assignment of what fits
pub assign_judged : (s : Scene) (env : Env) (structs : Structs) (u : VarTy) (tp ta : p.ExprTree) → IsFine structs (judge env structs tp) → Target s structs u (judge env structs tp).operand → IsFine structs (judge env structs ta) → is_bad (judge env structs ta).operand.ty ≡ false →
    is_wrong (fit_rule (type_as u) (value_of (judge env structs ta).operand)) ≡ false →
    IsFine structs (judge env structs (hs.stored tp ta)) × ((at : Span) → value_tree at (judge env structs (hs.stored tp ta)).operand ≡
    typed nowhere (var_type (type_as u)) (t.assign (place_of (judge env structs tp).operand.tree) (as_type (type_as u) (value_of (judge env structs ta).operand).null (value_tree (span_of ta) (judge env structs ta).operand))))
unfolding judge
assign_judged s env structs u tp ta left target right good fits =
    subst (λ z. Goal (made z)) (sym left.structs_stay)
    (subst (λ z. Goal (with_structs z)) (sym right.structs_stay)
    (subst (λ (z : Made). Goal (over (j.faults ++ q.faults) structs z)) (sym (assigned_is s structs u j.operand q.operand nowhere (span_of tp) (span_of ta) target good fits)) (
      record { faults = no_faults (j.faults ++ q.faults) [] (no_faults j.faults q.faults left.faults right.faults) refl; structs_stay = refl },
      λ at. assigned_tree s structs u j.operand q.operand nowhere at (span_of ta) target,
    )))
  where
    j : Judged
    j = judge env structs tp

    q : Judged
    q = judge env structs ta

    Goal : Judged → Type 0
    Goal r = IsFine structs r × ((at : Span) → value_tree at r.operand ≡ typed nowhere (var_type (type_as u)) (t.assign (place_of j.operand.tree) (as_type (type_as u) (value_of q.operand).null (value_tree (span_of ta) q.operand))))

    made : Structs → Judged
    made z =
        let r = judge env z ta in
        over (j.faults ++ r.faults) r.structs (assigned r.structs None nowhere (span_of tp) j.operand (span_of ta) r.operand)

    with_structs : Structs → Judged
    with_structs z = over (j.faults ++ q.faults) z (assigned z None nowhere (span_of tp) j.operand (span_of ta) q.operand)

-- a place that may be written
pub target_of : (s : Scene) (env : Env) (structs : Structs) (q : PlaceTree) (tree : p.ExprTree) → AllKnown s env structs → is_const s.context q ≡ false → ((el : Elem) (n : ℕ) → place_type s.context q ≡ v.Array el n → ⊥) → PlaceHeld s env structs q tree →
    Target s structs (place_type s.context q) (judge env structs tree).operand
target_of s env structs q tree known changes never held = record {
  typed = held.means.object.typed;
  designates = held.means.object.designates;
  changes = held.means.object.fixed ∙ changes;
  no_array = never;
  parts = go (place_type s.context q) never;
}
  where
    go : (z : VarTy) → ((el : Elem) (n : ℕ) → z ≡ v.Array el n → ⊥) → has_const structs (type_as z) ≡ false
    go (v.Int t) out = refl
    go (v.Struct n) out = known.no_const n
    go (v.Array el n) out = absurd (out el n refl)
    go (v.Pointer el g) out = refl

pub scalar_whole : (u : VarTy) → IsTrue (is_scalar (Some u)) → (el : Elem) (n : ℕ) → u ≡ v.Array el n → ⊥
scalar_whole u ok el n is = true_not_false (sym (subst (λ z. IsTrue (is_scalar (Some z))) is ok))

falsity : (b : Bool) → IsTrue (not b) → b ≡ false
falsity true h = true_not_false (sym h)
falsity false h = refl

pub assign_means : (s : Scene) (w : k.Context) (st : o.State) (q : PlaceTree) (a : ExprTree) → SceneFits s → AllKnown s st.env st.structs → IsTrue (place_fits s.context q) → IsTrue (is_scalar (Some (place_type s.context q))) → IsTrue (expr_fits s.context a) →
    IsTrue (stands_for (type_of s.context a) (place_type s.context q)) → IsTrue (place_stands q) → IsTrue (not (is_const s.context q)) → IsTrue (is_stored s.context (place_type s.context q) a) →
    StatementsMean s st (checked_all w st (e.stmt_trees (hs.evaluated (hs.stored (h.place_tree s.context q) (h.expression_tree s.context a)) ∷ []))) (does (assign q a) (frame_of s) s.core_calls)
unfolding span_of
assign_means s w st q a fits known placed scalar good into stands changes on =
    evaluate_means s w st (hs.stored (h.place_tree s.context q) (h.expression_tree s.context a)) (does (assign q a) (frame_of s) s.core_calls) judged.0
    (λ st1 st1' al. subst (λ z. Same s (GoesOn s) (x.value_of z (context_of s) st1 >>= λ g. gives m.goes_on) (does (assign q a) (frame_of s) s.core_calls st1')) (sym (judged.1 nowhere))
    (assign_runs s (place_type s.context q) q a (place_of (judge st.env st.structs (h.place_tree s.context q)).operand.tree)
    (as_type (type_as (place_type s.context q)) (value_of (judge st.env st.structs (h.expression_tree s.context a)).operand).null (value_tree (span_of (h.expression_tree s.context a)) (judge st.env st.structs (h.expression_tree s.context a)).operand))
    nowhere (var_type (type_as (place_type s.context q))) fits.numbers held.means.object.same (value.value.same (span_of (h.expression_tree s.context a))) st1 st1' al))
  where
    held : PlaceHeld s st.env st.structs q (h.place_tree s.context q)
    held = place_held s st.env st.structs q fits known placed stands

    value : Stored s st.structs (place_type s.context q) a (judge st.env st.structs (h.expression_tree s.context a))
    value = stored_held s st.env st.structs (place_type s.context q) a fits known scalar good into on

    judged : IsFine st.structs (judge st.env st.structs (hs.stored (h.place_tree s.context q) (h.expression_tree s.context a))) × ((at : Span) → value_tree at (judge st.env st.structs (hs.stored (h.place_tree s.context q) (h.expression_tree s.context a))).operand ≡
        typed nowhere (var_type (type_as (place_type s.context q))) (t.assign (place_of (judge st.env st.structs (h.place_tree s.context q)).operand.tree) (as_type (type_as (place_type s.context q)) (value_of (judge st.env st.structs (h.expression_tree s.context a)).operand).null (value_tree (span_of (h.expression_tree s.context a)) (judge st.env st.structs (h.expression_tree s.context a)).operand))))
    judged = assign_judged s st.env st.structs (place_type s.context q) (h.place_tree s.context q) (h.expression_tree s.context a) held.means.fine
        (target_of s st.env st.structs q (h.place_tree s.context q) known (falsity (is_const s.context q) changes) (scalar_whole (place_type s.context q) scalar) held) value.fine value.value.good value.value.fit
