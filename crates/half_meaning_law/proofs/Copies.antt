-- Copies of structs, checked places, and variables that are cleared.
use Rattle.std.proofs.Common.{◌≡◌, ◌∙◌, ℕ, pos, refl, ap, sym, subst, Bool, true, false, not, Option, Some, List, [], ◌∷◌, Result, Ok, if◌then◌else◌, None}
use Rattle.std.specs.Prelude.{IsTrue}
use Rattle.pt_base.specs.declared.span.Span.{Span}
use Rattle.runs.specs.State.{gives, ◌>>=◌}
use Rattle.pt_tree.specs.StatementTree as e
use Rattle.type_rules.specs.declared.types.Type.{«Type»}
use Rattle.type_rules.specs.declared.types.Type.TheVariants as ty
use Rattle.type_rules.specs.Types.{value_type, is_bad}
use Rattle.type_rules.specs.Conversions.{fit_rule, is_wrong}
use Rattle.type_rules.specs.declared.conversions.Fit.TheVariants as fit
use Rattle.typed_tree.specs.declared.types.VarTy.{VarTy}
use Rattle.typed_tree.specs.declared.types.VarTy.TheVariants as v
use Rattle.typed_tree.specs.ExpressionTree as t
use Rattle.typed_tree.specs.ExpressionTree.{typed}
use Rattle.typed_tree.specs.TypeTests.{same_type}
use Rattle.check_expressions.specs.Expressions.{Judged, judge}
use Rattle.check_expressions.specs.Conversions.{as_type}
use Rattle.check_expressions.specs.Operands.{Known, value_of, value_tree, read_tree, place_of, span_of, var_type}
use Rattle.check_statements.specs.declared.context.Context as k
use Rattle.check_statements.specs.Outermost as o
use Rattle.check_statements.specs.Statements.{checked_all}
use Rattle.block_memory.specs.Blocks.{Blocks}
use Rattle.source_meaning.specs.Memory.{Cell, number}
use Rattle.source_meaning.specs.State.{State, Outcome}
use Rattle.source_meaning.specs.Values as mv
use Rattle.source_meaning.specs.Values.{holds}
use Rattle.source_meaning.specs.Expressions as x
use Rattle.source_meaning.specs.Statements as m
use Rattle.source_meaning.specs.Statements.{no_expr, all_of, statement}
use Rattle.pt_core.specs.CodeTree.{PlaceTree}
use Rattle.pt_core.specs.Types.{place_type}
use Rattle.pt_core.specs.Values as w
use Rattle.pt_core.specs.Values.{Stop, ◌>>?◌, written}
use Rattle.pt_core.specs.Statements as c
use Rattle.pt_core.specs.Statements.{does, evaluated, with_blocks}
use Rattle.half_trees.specs.Names.{nowhere}
use Rattle.half_trees.specs.Expressions as h
use Rattle.half_meaning_law.specs.Relations.{Scene, context_of, frame_of, core_cell, CellFits, Alike, Same}
use Rattle.half_meaning_law.specs.CForms.{stands}
use Rattle.half_meaning_law.specs.Known.{type_as}
use Rattle.half_meaning_law.specs.Expressions.{IsPlace, SamePlaces, place_asked, IsFine, SceneFits}
use Rattle.half_meaning_law.specs.Statements.{GoesOn, SameRuns, StatementsMean}
use Rattle.typed_tree.proofs.SameTypes.{equal_types}
use Rattle.half_meaning_law.proofs.Runs.{same_evaluated, evaluated_both, bind_assoc}
use Rattle.typed_tree.specs.Sizes.{sizes_of, cells_by}
use Rattle.half_trees.specs.Statements as hs
use Rattle.pt_core.specs.CodeTree.{copy}
use Rattle.half_meaning_law.specs.Relations.{name_of}
use Rattle.half_meaning_law.specs.Known.{Known as AllKnown}
use Rattle.half_meaning_law.proofs.Memories.{AllCells, all_take, all_drop, map_take, map_drop, alike_all_written}
use Rattle.std.specs.Prelude.{map}
use Rattle.pt_core.specs.Values.{cells_at, all_written}
use Rattle.pt_core.specs.WellFormedExpression.{place_fits}
use Rattle.half_meaning_law.specs.CForms.{is_const, place_stands, is_struct}
use Rattle.half_meaning_law.proofs.Memories.{OneToOne}
use Rattle.half_meaning_law.proofs.PlaceLaw.{PlaceHeld}
use Rattle.half_meaning_law.proofs.ExpressionLaw.{place_held}
use Rattle.check_expressions.specs.Operands.{read_object, read_form}
use Rattle.half_meaning_law.proofs.Steps.{evaluate_means}
use Rattle.half_meaning_law.proofs.Stores.{Target}
use Rattle.half_meaning_law.proofs.Assigns.{assign_judged, target_of}
use Rattle.std.specs.Prelude.{slice_index_or, take, drop}
use Rattle.pt_base.proofs.Booleans.{true_not_false}
use Rattle.pt_base.proofs.Numbers.{nat_eq_true}

-- ---- structs

copied_alike : (s : Scene) (n : ℕ) (st : State) (st' : c.State) (at from : mv.Location) (at' from' : w.Location) → OneToOne s.global_number → Alike s st st' → IsPlace s (v.Struct n) at at' → IsPlace s (v.Struct n) from from' →
    Alike s (record st { memory = x.stored_in st.memory at (x.loaded (context_of s) from from.ty st) }) (with_blocks (all_written st'.memory at'.block at'.cell (cells_at st'.memory from' (cells_by (sizes_of s.context.structs) at'.ty))) st')
copied_alike s n st st' at from at' from' one al to of =
    subst (λ z. Alike s (record st { memory = x.stored_in st.memory at (x.loaded (context_of s) from z st) }) (with_blocks (all_written st'.memory at'.block at'.cell (cells_at st'.memory from' (cells_by (sizes_of s.context.structs) at'.ty))) st')) (sym of.typed)
    (subst (λ z. Alike s after (with_blocks (all_written st'.memory at'.block at'.cell (cells_at st'.memory from' (cells_by (sizes_of s.context.structs) z))) st')) (sym to.typed')
    (subst (λ z. Alike s after (with_blocks (all_written st'.memory at'.block at'.cell z) st')) (sym cells)
    (subst (λ z. Alike s after (with_blocks (all_written st'.memory z at'.cell (map (core_cell s) xs)) st')) (sym to.block)
    (subst (λ z. Alike s after (with_blocks (all_written st'.memory (name_of s at.block) z (map (core_cell s) xs)) st')) (sym to.cell)
    (alike_all_written s st st' at.block at.cell xs one al (λ k. subst (λ b. CellFits s b (slice_index_or xs k (number (pos 0)))) (sym to.fits) (numbers k)))))))
  where
    count : ℕ
    count = cells_by (sizes_of s.context.structs) (v.Struct n)

    xs : List Cell
    xs = x.cells_at st from count

    after : State
    after = record st { memory = x.stored_in st.memory at (mv.whole xs) }

    cells : cells_at st'.memory from' count ≡ map (core_cell s) xs
    cells =
        ap (λ z. take count (drop from'.cell (st'.memory z).cells)) of.block
        ∙ ap (λ z. take count (drop z (st'.memory (name_of s from.block)).cells)) of.cell
        ∙ ap (λ z. take count (drop from.cell z)) (al.blocks from.block)
        ∙ ap (take count) (sym (map_drop s from.cell (st.memory from.block)))
        ∙ sym (map_take s count (drop from.cell (st.memory from.block)))

    numbers : AllCells (CellFits s None) xs
    numbers = all_take (CellFits s None) count (drop from.cell (st.memory from.block)) tt (all_drop (CellFits s None) from.cell (st.memory from.block) tt (λ k. subst (λ b. CellFits s b (slice_index_or (st.memory from.block) k (number (pos 0)))) of.fits (al.fits from.block k)))

copy_runs : (s : Scene) (n : ℕ) (to of : PlaceTree) (y z : t.PlaceTree) (sp sp' : Span) (o o' : Option VarTy) → OneToOne s.global_number → SamePlaces s (v.Struct n) y (place_asked s to) → SamePlaces s (v.Struct n) z (place_asked s of) →
    SameRuns s (λ st. x.value_of (typed sp o (t.assign y (typed sp' o' (t.read z)))) (context_of s) st >>= λ g. gives m.goes_on) (does (copy to of) (frame_of s) s.core_calls)
copy_runs s n to of y z sp sp' o o' one left right st st' al =
    subst (λ r. Same s (GoesOn s) r (does (copy to of) (frame_of s) s.core_calls st')) (sym (bind_assoc (x.location_of y (context_of s) st) (λ at st1. read_it st1 >>= x.store at) (λ g. gives m.goes_on)))
    (subst (λ r. Same s (GoesOn s) (x.location_of y (context_of s) st >>= λ at st1. (read_it st1 >>= x.store at) >>= λ g. gives m.goes_on) r) (sym (evaluated_both (place_asked s to st'.memory) rest st' next))
    (same_evaluated s (IsPlace s (v.Struct n)) (GoesOn s) st st' (x.location_of y (context_of s) st) (place_asked s to st'.memory) (λ at st1. (read_it st1 >>= x.store at) >>= λ g. gives m.goes_on) (λ at st1. evaluated (rest at) st1 next) al (left st st' al)
    (λ at at' place.
    subst (λ r. Same s (GoesOn s) r (evaluated (rest at') st' next)) (sym (bind_assoc (read_it st) (x.store at) (λ g. gives m.goes_on) ∙ bind_assoc (x.location_of z (context_of s) st) (λ from st1. gives (x.loaded (context_of s) from from.ty st1) st1) (λ g st1. x.store at g st1 >>= λ h. gives m.goes_on)))
    (subst (λ r. Same s (GoesOn s) (x.location_of z (context_of s) st >>= λ from st1. x.store at (x.loaded (context_of s) from from.ty st1) st1 >>= λ h. gives m.goes_on) r) (sym (evaluated_both (place_asked s of st'.memory) (λ from. Ok (write at' from)) st' next))
    (same_evaluated s (IsPlace s (v.Struct n)) (GoesOn s) st st' (x.location_of z (context_of s) st) (place_asked s of st'.memory) (λ from st1. x.store at (x.loaded (context_of s) from from.ty st1) st1 >>= λ h. gives m.goes_on) (λ from st1. evaluated (Ok (write at' from)) st1 next) al (right st st' al)
    (λ from from' place'. record { alike = copied_alike s n st st' at from at' from' one al place place'; same = tt }))))))
  where
    read_it : State → Outcome mv.Value
    read_it st1 = x.location_of z (context_of s) st1 >>= λ from st2. gives (x.loaded (context_of s) from from.ty st2) st2

    write : w.Location → w.Location → Blocks
    write at from = all_written st'.memory at.block at.cell (cells_at st'.memory from (cells_by (sizes_of s.context.structs) at.ty))

    rest : w.Location → Result Blocks Stop
    rest at = place_asked s of st'.memory >>? λ from. Ok (write at from)

    next : Blocks → c.State → c.Outcome c.Flow
    next blocks st1 = gives c.goes_on (with_blocks blocks st1)

-- ---- what is judged of a struct's value

struct_tree : (n : ℕ) (k : Known) (at : Span) → k.ty ≡ ty.Struct n → ((sp : Span) (z : «Type») (f : Bool) → read_tree sp z f k.tree ≡ read_object sp z f (place_of k.tree)) → value_tree at k ≡ typed at (Some (v.Struct n)) (t.read (place_of k.tree))
unfolding value_tree read_form var_type
struct_tree n k at is reads = reads at k.ty k.fixed ∙ ap (λ z. read_object at z k.fixed (place_of k.tree)) is

struct_type : (u : VarTy) → IsTrue (is_struct u) → (n : ℕ) × (u ≡ v.Struct n)
struct_type (v.Int t) h = true_not_false (sym h)
struct_type (v.Struct n) h = (n, refl)
struct_type (v.Array el n) h = true_not_false (sym h)
struct_type (v.Pointer el g) h = true_not_false (sym h)

truth_of : (b : Bool) → IsTrue (not b) → b ≡ false
truth_of true h = true_not_false (sym h)
truth_of false h = refl

copy_held : (s : Scene) (w : k.Context) (st : o.State) (to of : PlaceTree) (n : ℕ) → SceneFits s → AllKnown s st.env st.structs → place_type s.context to ≡ v.Struct n → place_type s.context of ≡ v.Struct n → is_const s.context to ≡ false →
    PlaceHeld s st.env st.structs to (h.place_tree s.context to) → PlaceHeld s st.env st.structs of (h.place_tree s.context of) →
    StatementsMean s st (checked_all w st (e.stmt_trees (hs.evaluated (hs.stored (h.place_tree s.context to) (h.place_tree s.context of)) ∷ []))) (does (copy to of) (frame_of s) s.core_calls)
unfolding span_of fit_rule value_of as_type
copy_held s w st to of n fits known is is' changes left right =
    evaluate_means s w st (hs.stored (h.place_tree s.context to) (h.place_tree s.context of)) (does (copy to of) (frame_of s) s.core_calls) judged.0
    (λ st1 st1' al. subst (λ z. Same s (GoesOn s) (x.value_of z (context_of s) st1 >>= λ g. gives m.goes_on) (does (copy to of) (frame_of s) s.core_calls st1'))
    (sym (judged.1 nowhere ∙ ap (λ z. typed nowhere (var_type (ty.Struct n)) (t.assign (place_of j.operand.tree) z)) (struct_tree n q.operand (span_of (h.place_tree s.context of)) q_is right.means.object.reads)))
    (copy_runs s n to of (place_of j.operand.tree) (place_of q.operand.tree) nowhere (span_of (h.place_tree s.context of)) (var_type (ty.Struct n)) (Some (v.Struct n)) fits.numbers
    (subst (λ z. SamePlaces s z (place_of j.operand.tree) (place_asked s to)) is left.means.object.same) (subst (λ z. SamePlaces s z (place_of q.operand.tree) (place_asked s of)) is' right.means.object.same) st1 st1' al))
  where
    j : Judged
    j = judge st.env st.structs (h.place_tree s.context to)

    q : Judged
    q = judge st.env st.structs (h.place_tree s.context of)

    q_is : q.operand.ty ≡ ty.Struct n
    q_is = right.means.object.typed ∙ ap type_as is'

    target : Target s st.structs (v.Struct n) j.operand
    target = subst (λ z. Target s st.structs z j.operand) is (target_of s st.env st.structs to (h.place_tree s.context to) known changes (λ el k e. cc) left)

    fit_is : is_wrong (fit_rule (ty.Struct n) (value_of q.operand)) ≡ false
    fit_is = ap (λ z. is_wrong (fit_rule (ty.Struct n) (record { ty = value_type z q.operand.fixed; null = q.operand.null }))) q_is ∙ ap (λ z. is_wrong (if z then fit.Copies else fit.Wrong)) (nat_eq_true n n refl)

    judged : IsFine st.structs (judge st.env st.structs (hs.stored (h.place_tree s.context to) (h.place_tree s.context of))) × ((at : Span) → value_tree at (judge st.env st.structs (hs.stored (h.place_tree s.context to) (h.place_tree s.context of))).operand ≡
        typed nowhere (var_type (ty.Struct n)) (t.assign (place_of j.operand.tree) (value_tree (span_of (h.place_tree s.context of)) q.operand)))
    judged = assign_judged s st.env st.structs (v.Struct n) (h.place_tree s.context to) (h.place_tree s.context of) left.means.fine target right.means.fine (ap is_bad q_is) fit_is

pub copy_means : (s : Scene) (w : k.Context) (st : o.State) (to of : PlaceTree) → SceneFits s → AllKnown s st.env st.structs → IsTrue (place_fits s.context to) → IsTrue (place_fits s.context of) → IsTrue (same_type (place_type s.context to) (place_type s.context of)) →
    IsTrue (place_stands to) → IsTrue (place_stands of) → IsTrue (not (is_const s.context to)) → IsTrue (is_struct (place_type s.context to)) →
    StatementsMean s st (checked_all w st (e.stmt_trees (hs.copied (place_type s.context to) (h.place_tree s.context to) (h.place_tree s.context of)))) (does (copy to of) (frame_of s) s.core_calls)
copy_means s w st to of fits known placed placed' same stands stands' changes single =
    let n = struct_type (place_type s.context to) single in
    subst (λ z. StatementsMean s st (checked_all w st (e.stmt_trees (hs.copied z (h.place_tree s.context to) (h.place_tree s.context of)))) (does (copy to of) (frame_of s) s.core_calls)) (sym n.1)
    (copy_held s w st to of n.0 fits known n.1 (sym (equal_types (place_type s.context to) (place_type s.context of) same) ∙ n.1) (truth_of (is_const s.context to) changes)
    (place_held s st.env st.structs to fits known placed stands) (place_held s st.env st.structs of fits known placed' stands'))
