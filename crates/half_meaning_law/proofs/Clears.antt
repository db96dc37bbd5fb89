-- Places that are checked, and variables that are cleared.
use Rattle.std.proofs.Common.{◌≡◌, ◌∙◌, ℕ, pos, refl, ap, sym, subst, arith, Bool, true, false, Option, Some, List, [], ◌∷◌, length, Ok, if◌then◌else◌}
use Rattle.std.specs.Prelude.{IsTrue}
use Rattle.pt_base.specs.declared.int_type.IntType.{IntType}
use Rattle.pt_base.specs.declared.int_type.IntType.TheVariants as i
use Rattle.pt_base.specs.declared.span.Span.{Span}
use Rattle.runs.specs.State.{gives, trapped, spent, ◌>>=◌}
use Rattle.pt_tree.specs.declared.signature.Elem.{Elem}
use Rattle.pt_tree.specs.StatementTree as e
use Rattle.type_rules.specs.declared.types.Type.{«Type»}
use Rattle.type_rules.specs.declared.types.Type.TheVariants as ty
use Rattle.type_rules.specs.Types.{value_type}
use Rattle.type_rules.specs.Conversions.{fit_rule, is_wrong}
use Rattle.typed_tree.specs.declared.types.VarTy.{VarTy}
use Rattle.typed_tree.specs.declared.types.VarTy.TheVariants as v
use Rattle.typed_tree.specs.ExpressionTree as t
use Rattle.typed_tree.specs.ExpressionTree.{typed}
use Rattle.check_expressions.specs.Expressions.{judge, literal}
use Rattle.check_expressions.specs.Conversions.{as_type, to_int, is_of_int, converted}
use Rattle.check_expressions.specs.Operands.{Known, value_of, value_tree, read_tree, place_of, span_of, var_type}
use Rattle.check_statements.specs.declared.context.Context as k
use Rattle.check_statements.specs.Outermost as o
use Rattle.check_statements.specs.Statements.{checked_all}
use Rattle.block_memory.specs.Blocks.{Blocks}
use Rattle.source_meaning.specs.Memory.{Cell, number, null as no_cell}
use Rattle.source_meaning.specs.State.{State, Outcome}
use Rattle.source_meaning.specs.Values as mv
use Rattle.source_meaning.specs.Values.{holds}
use Rattle.source_meaning.specs.Expressions as x
use Rattle.source_meaning.specs.Statements as m
use Rattle.source_meaning.specs.Statements.{no_expr, all_of, statement}
use Rattle.pt_core.specs.CodeTree.{PlaceTree}
use Rattle.pt_core.specs.Types.{place_type}
use Rattle.pt_core.specs.Values as w
use Rattle.pt_core.specs.Values.{Stop, ◌>>?◌, written}
use Rattle.pt_core.specs.Statements as c
use Rattle.pt_core.specs.Statements.{does, evaluated, with_blocks}
use Rattle.half_trees.specs.Names.{nowhere}
use Rattle.half_trees.specs.Expressions as h
use Rattle.half_meaning_law.specs.Relations.{Scene, context_of, frame_of, core_cell, reach_in, CellFits, Alike, Same, reach_of}
use Rattle.half_meaning_law.specs.CForms.{stands}
use Rattle.half_meaning_law.specs.Known.{type_as}
use Rattle.half_meaning_law.specs.Expressions.{Evaluates, IsPlace, SamePlaces, place_asked, IsFine, SceneFits}
use Rattle.half_meaning_law.specs.Statements.{GoesOn, SameRuns, StatementsMean}
use Rattle.half_meaning_law.proofs.Memories.{own_live}
use Rattle.half_meaning_law.proofs.Runs.{same_evaluated, bind_assoc}
use Rattle.half_trees.specs.Statements as hs
use Rattle.half_meaning_law.specs.Relations.{name_of}
use Rattle.half_meaning_law.specs.Known.{Known as AllKnown}
use Rattle.std.specs.Prelude.{map}
use Rattle.pt_core.specs.CodeTree.{check}
use Rattle.pt_core.specs.Values.{cells_at, all_written}
use Rattle.pt_core.specs.WellFormedExpression.{place_fits}
use Rattle.half_meaning_law.specs.CForms.{place_stands}
use Rattle.half_meaning_law.proofs.Memories.{OneToOne}
use Rattle.half_meaning_law.proofs.PlaceLaw.{PlaceHeld}
use Rattle.half_meaning_law.proofs.ExpressionLaw.{place_held}
use Rattle.check_expressions.specs.Operands.{read_object, read_form}
use Rattle.half_meaning_law.proofs.Steps.{evaluate_means}
use Rattle.half_meaning_law.proofs.Assigns.{assign_judged, target_of}
use Rattle.std.specs.Prelude.{◌<◌, nat_lt, slice_set}
use Rattle.pt_base.proofs.Booleans.{both_hold, true_not_false}
use Rattle.pt_base.proofs.Numbers.{below_holds}
use Rattle.pt_int.specs.Conversion.{conv}
use Rattle.pt_int.proofs.Conversions.{conv-same}
use Rattle.pt_int.proofs.Ranges.{around_zero}
use Rattle.typed_tree.specs.Cells.{leaves_of}
use Rattle.half_trees.specs.Leaves as leaves
use Rattle.block_memory.specs.declared.cell.BlockName.{BlockName}
use Rattle.block_memory.specs.declared.cell.BlockName.TheVariants.{Local, Global, Received}
use Rattle.block_memory.specs.Block as bm
use Rattle.block_memory.specs.Blocks as bs
use Rattle.source_meaning.specs.Memory.{Block, local, global, write as write_cell}
use Rattle.pt_core.specs.CodeTree.{clear, place, local as local_root}
use Rattle.pt_core.specs.Types.{type_at, shape_of}
use Rattle.half_meaning_law.specs.Relations.{cells_in}
use Rattle.half_meaning_law.proofs.Memories.{alike_with, blocks_put, fits_put, all_set, live_written}

-- ---- checked places

-- the value of a place of any type
any_tree : (u : VarTy) (k : Known) (at : Span) → k.ty ≡ type_as u → ((sp : Span) (z : «Type») (f : Bool) → read_tree sp z f k.tree ≡ read_object sp z f (place_of k.tree)) →
    (o : Option VarTy) × (value_tree at k ≡ typed at o (read_form (type_as u) (place_of k.tree)))
unfolding value_tree
any_tree u k at is reads = (var_type (value_type k.ty k.fixed), reads at k.ty k.fixed ∙ ap (λ z. typed at (var_type (value_type k.ty k.fixed)) (read_form z (place_of k.tree))) is)

-- to read it is to find it
read_runs : (s : Scene) (u : VarTy) (q : PlaceTree) (y : t.PlaceTree) (sp : Span) (o : Option VarTy) → SamePlaces s u y (place_asked s q) →
    SameRuns s (λ st. x.value_of (typed sp o (t.read y)) (context_of s) st >>= λ g. gives m.goes_on) (does (check q) (frame_of s) s.core_calls)
read_runs s u q y sp o places st st' al =
    subst (λ r. Same s (GoesOn s) r (does (check q) (frame_of s) s.core_calls st')) (sym (bind_assoc (x.location_of y (context_of s) st) (λ at st1. gives (x.loaded (context_of s) at at.ty st1) st1) (λ g. gives m.goes_on)))
    (same_evaluated s (IsPlace s u) (GoesOn s) st st' (x.location_of y (context_of s) st) (place_asked s q st'.memory) (λ at. gives m.goes_on) (λ at. gives c.goes_on) al (places st st' al) (λ at at' is. record { alike = al; same = tt }))

decay_runs : (s : Scene) (u : VarTy) (q : PlaceTree) (y : t.PlaceTree) (sp : Span) (o : Option VarTy) → SamePlaces s u y (place_asked s q) →
    SameRuns s (λ st. x.value_of (typed sp o (t.decay y)) (context_of s) st >>= λ g. gives m.goes_on) (does (check q) (frame_of s) s.core_calls)
decay_runs s u q y sp o places st st' al =
    subst (λ r. Same s (GoesOn s) r (does (check q) (frame_of s) s.core_calls st')) (sym (bind_assoc (x.location_of y (context_of s) st) (λ at. gives (holds (x.decayed at at.ty))) (λ g. gives m.goes_on)))
    (same_evaluated s (IsPlace s u) (GoesOn s) st st' (x.location_of y (context_of s) st) (place_asked s q st'.memory) (λ at. gives m.goes_on) (λ at. gives c.goes_on) al (places st st' al) (λ at at' is. record { alike = al; same = tt }))

form_runs : (s : Scene) (u z : VarTy) (q : PlaceTree) (y : t.PlaceTree) (sp : Span) (o : Option VarTy) → SamePlaces s z y (place_asked s q) →
    SameRuns s (λ st. x.value_of (typed sp o (read_form (type_as u) y)) (context_of s) st >>= λ g. gives m.goes_on) (does (check q) (frame_of s) s.core_calls)
unfolding read_form
form_runs s (v.Int t) z q y sp o places = read_runs s z q y sp o places
form_runs s (v.Struct n) z q y sp o places = read_runs s z q y sp o places
form_runs s (v.Array el n) z q y sp o places = decay_runs s z q y sp o places
form_runs s (v.Pointer el g) z q y sp o places = read_runs s z q y sp o places

pub check_means : (s : Scene) (w : k.Context) (st : o.State) (q : PlaceTree) → SceneFits s → AllKnown s st.env st.structs → IsTrue (place_fits s.context q) → IsTrue (place_stands q) →
    StatementsMean s st (checked_all w st (e.stmt_trees (hs.evaluated (h.place_tree s.context q) ∷ []))) (does (check q) (frame_of s) s.core_calls)
check_means s w st q fits known placed stands =
    evaluate_means s w st (h.place_tree s.context q) (does (check q) (frame_of s) s.core_calls) held.means.fine
    (subst (λ z. SameRuns s (λ st1. x.value_of z (context_of s) st1 >>= λ g. gives m.goes_on) (does (check q) (frame_of s) s.core_calls)) (sym tree.1)
    (form_runs s (place_type s.context q) (place_type s.context q) q (place_of held_known.tree) (span_of (h.place_tree s.context q)) tree.0 held.means.object.same))
  where
    held : PlaceHeld s st.env st.structs q (h.place_tree s.context q)
    held = place_held s st.env st.structs q fits known placed stands

    held_known : Known
    held_known = (judge st.env st.structs (h.place_tree s.context q)).operand

    tree : (o : Option VarTy) × (value_tree (span_of (h.place_tree s.context q)) held_known ≡ typed (span_of (h.place_tree s.context q)) o (read_form (type_as (place_type s.context q)) (place_of held_known.tree)))
    tree = any_tree (place_type s.context q) held_known (span_of (h.place_tree s.context q)) held.means.object.typed held.means.object.reads

-- ---- cleared variables

-- an object of one cell
abbrev pub is_single : VarTy → Bool
is_single (v.Int t) = true
is_single (v.Struct n) = false
is_single (v.Array elem count) = false
is_single (v.Pointer elem fixed) = true

pub local_is : (s : Scene) (d n : ℕ) (a : Block) → Local d n ≡ name_of s a → a ≡ local d n
local_is s d n (local e k) h = ap (back (local e k)) (sym h)
  where
    back : Block → BlockName → Block
    back other (Local a b) = local a b
    back other (Global g) = other
    back other (Received g) = other
local_is s d n (global g) h = cc

one_cell : (xs : List Cell) (z : Cell) → length xs ≡ 1 → slice_set xs 0 z ≡ z ∷ []
one_cell [] z h = cc
one_cell (y ∷ []) z h = refl
one_cell (y ∷ (k ∷ ks)) z h = absurd (omega (arith, h))

-- what a variable of one cell is cleared to
clear_alike : (s : Scene) (n : ℕ) (z : Cell) (fresh_one : bm.Block) (st : State) (st' : c.State) → OneToOne s.global_number → Alike s st st' → length (st.memory (local s.frame.depth n)) ≡ 1 → fresh_one.cells ≡ core_cell s z ∷ [] → CellFits s (reach_in s (local s.frame.depth n)) z →
    Alike s (record st { memory = write_cell st.memory (local s.frame.depth n) 0 z }) (with_blocks (bs.put st'.memory (Local s.frame.depth n) fresh_one) st')
clear_alike s n z fresh_one st st' one al single is fits =
    alike_with s st st' (write_cell st.memory (local s.frame.depth n) 0 z) (bs.put st'.memory (Local s.frame.depth n) fresh_one) al
    (blocks_put s st.memory st'.memory (local s.frame.depth n) (slice_set (st.memory (local s.frame.depth n)) 0 z) fresh_one one al.blocks (is ∙ ap (map (core_cell s)) (sym (one_cell (st.memory (local s.frame.depth n)) z single))))
    (fits_put s st.memory (local s.frame.depth n) (slice_set (st.memory (local s.frame.depth n)) 0 z) al.fits (all_set (CellFits s (reach_in s (local s.frame.depth n))) (st.memory (local s.frame.depth n)) 0 z (al.fits (local s.frame.depth n)) fits))
    (live_written s st.memory (local s.frame.depth n) 0 z al.live)

-- where a variable lies
abbrev variable_at : Scene → ℕ → w.Location
variable_at s n = record { block = Local s.frame.depth n; cell = 0; ty = type_at s.context.variables n }

-- what is given goes on
pub same_given : {A B X Y : Type 0} (s : Scene) (Q : A → X → Type 0) (R : B → State → Y → c.State → Type 0) (st : State) (o : Outcome A) (z : X) (f : A → State → Outcome B) (o' : c.Outcome Y) → Evaluates Q st o (Ok z) → ((a : A) → Q a z → Same s R (f a st) o') → Same s R (o >>= f) o'
same_given s Q R st (gives a st1) z f o' h on = subst (λ k. Same s R (f a k) o') (sym h.0) (on a h.1)
same_given s Q R st (trapped trap span st1) z f o' h on = absurd h
same_given s Q R st (spent st1) z f o' h on = absurd h

clear_runs : (s : Scene) (n : ℕ) (z : Cell) (y : t.PlaceTree) (g : t.ExprTree) (sp : Span) (o : Option VarTy) → OneToOne s.global_number → s.frames s.frame.depth ≡ s.context.variables → n < length s.context.variables → cells_in s (type_at s.context.variables n) ≡ 1 →
    SamePlaces s (type_at s.context.variables n) y (place_asked s (place (local_root n) [])) → ((st : State) → x.value_of g (context_of s) st ≡ gives (holds z) st) → CellFits s (reach_of s (type_at s.context.variables n)) z →
    (bm.fresh (shape_of s.context.structs (type_at s.context.variables n))).cells ≡ core_cell s z ∷ [] →
    SameRuns s (λ st. x.value_of (typed sp o (t.assign y g)) (context_of s) st >>= λ k. gives m.goes_on) (does (clear n) (frame_of s) s.core_calls)
clear_runs s n z y g sp o one own near single places value fits is st st' al =
    subst (λ r. Same s (GoesOn s) r (does (clear n) (frame_of s) s.core_calls st')) (sym (bind_assoc (x.location_of y (context_of s) st) (λ at st1. x.value_of g (context_of s) st1 >>= x.store at) (λ k. gives m.goes_on)))
    (same_given s (IsPlace s (type_at s.context.variables n)) (GoesOn s) st (x.location_of y (context_of s) st) (variable_at s n) (λ at st1. (x.value_of g (context_of s) st1 >>= x.store at) >>= λ k. gives m.goes_on)
    (does (clear n) (frame_of s) s.core_calls st') (places st st' al) found)
  where
    fresh_one : bm.Block
    fresh_one = bm.fresh (shape_of s.context.structs (type_at s.context.variables n))

    found : (at : mv.Location) → IsPlace s (type_at s.context.variables n) at (variable_at s n) → Same s (GoesOn s) ((x.value_of g (context_of s) st >>= x.store at) >>= λ k. gives m.goes_on) (does (clear n) (frame_of s) s.core_calls st')
    found at here =
        let there : at.block ≡ local s.frame.depth n = local_is s s.frame.depth n at.block here.block in
        subst (λ r. Same s (GoesOn s) ((r >>= x.store at) >>= λ k. gives m.goes_on) (does (clear n) (frame_of s) s.core_calls st')) (sym (value st)) (record {
          alike =
              subst (λ b. Alike s (record st { memory = write_cell st.memory b at.cell z }) (with_blocks (bs.put st'.memory (Local s.frame.depth n) fresh_one) st')) (sym there)
              (subst (λ k. Alike s (record st { memory = write_cell st.memory (local s.frame.depth n) k z }) (with_blocks (bs.put st'.memory (Local s.frame.depth n) fresh_one) st')) here.cell
              (clear_alike s n z fresh_one st st' one al (own_live s st.memory n own al.live near ∙ single) is (subst (λ b. CellFits s b z) (sym (ap (reach_in s) (sym there) ∙ here.fits)) fits)));
          same = tt;
        })

-- 0 as a number of a type
zero_converted : (i : IntType) → conv i (pos 0) ≡ pos 0
zero_converted i = conv-same i (pos 0) (around_zero i)

-- the constant 0, for an object of one cell
pub zero_as_int : (s : Scene) (to : IntType) (at : Span) (st : State) → x.value_of (as_type (ty.Int to) true (value_tree at (literal (record { span = nowhere; value = pos 0; ty = i.Int })))) (context_of s) st ≡ gives (holds (number (pos 0))) st
unfolding as_type literal value_tree read_tree to_int
zero_as_int s to at st = go (is_of_int to (Some (v.Int i.Int)))
  where
    zero : t.ExprTree
    zero = typed nowhere (Some (v.Int i.Int)) (t.constant (pos 0))

    go : (z : Bool) → x.value_of (if z then zero else converted (v.Int to) zero) (context_of s) st ≡ gives (holds (number (pos 0))) st
    go true = refl
    go false = ap (λ k. gives (holds (number k)) st) (zero_converted to)

-- 0 fits
pub zero_fits : (u : VarTy) → IsTrue (is_single u) → is_wrong (fit_rule (type_as u) (value_of (literal (record { span = nowhere; value = pos 0; ty = i.Int })))) ≡ false
unfolding fit_rule value_of literal
zero_fits (v.Int to) ok = refl
zero_fits (v.Pointer el g) ok = refl
zero_fits (v.Struct n) ok = true_not_false (sym ok)
zero_fits (v.Array el n) ok = true_not_false (sym ok)

-- what a variable of one cell is cleared to, and how
pub record Cleared (s : Scene) (u : VarTy) : Type 0 where
  pub cell : Cell
  pub value : (at : Span) (st : State) → x.value_of (as_type (type_as u) true (value_tree at (literal (record { span = nowhere; value = pos 0; ty = i.Int })))) (context_of s) st ≡ gives (holds cell) st
  pub fits : CellFits s (reach_of s u) cell
  pub fresh : (bm.fresh (shape_of s.context.structs u)).cells ≡ core_cell s cell ∷ []
  pub single : cells_in s u ≡ 1
  pub tree : (n : ℕ) → hs.cleared s.context.structs u (hs.variable n) ≡ hs.evaluated (hs.stored (hs.variable n) h.zero_tree) ∷ []
  pub no_array : (el : Elem) (n : ℕ) → u ≡ v.Array el n → ⊥

cleared_to : (s : Scene) (u : VarTy) → IsTrue (is_single u) → Cleared s u
unfolding leaves_of leaves.leaves_of as_type literal value_tree read_tree
cleared_to s (v.Int to) ok = record {
  cell = number (pos 0);
  value = λ at st. zero_as_int s to at st;
  fits = tt;
  fresh = refl;
  single = refl;
  tree = λ n. refl;
  no_array = λ el n e. cc;
}
cleared_to s (v.Pointer el g) ok = record {
  cell = no_cell;
  value = λ at st. refl;
  fits = tt;
  fresh = refl;
  single = refl;
  tree = λ n. refl;
  no_array = λ el n e. cc;
}
cleared_to s (v.Struct n) ok = true_not_false (sym ok)
cleared_to s (v.Array el n) ok = true_not_false (sym ok)

pub clear_means : (s : Scene) (w : k.Context) (st : o.State) (n : ℕ) → SceneFits s → AllKnown s st.env st.structs → IsTrue (nat_lt n (length s.context.variables)) → IsTrue (is_single (type_at s.context.variables n)) →
    StatementsMean s st (checked_all w st (e.stmt_trees (hs.cleared s.context.structs (type_at s.context.variables n) (hs.variable n)))) (does (clear n) (frame_of s) s.core_calls)
unfolding judge span_of literal value_of
clear_means s w st n fits known near ok =
    subst (λ z. StatementsMean s st (checked_all w st (e.stmt_trees z)) (does (clear n) (frame_of s) s.core_calls)) (sym (to.tree n))
    (evaluate_means s w st (hs.stored (hs.variable n) h.zero_tree) (does (clear n) (frame_of s) s.core_calls) judged.0
    (subst (λ z. SameRuns s (λ st1. x.value_of z (context_of s) st1 >>= λ g. gives m.goes_on) (does (clear n) (frame_of s) s.core_calls)) (sym (judged.1 nowhere))
    (clear_runs s n to.cell (place_of (judge st.env st.structs (hs.variable n)).operand.tree) (as_type (type_as u) true (value_tree nowhere zero)) nowhere (var_type (type_as u)) fits.numbers fits.own (below_holds n (length s.context.variables) near) to.single held.means.object.same (to.value nowhere) to.fits to.fresh)))
  where
    u : VarTy
    u = type_at s.context.variables n

    zero : Known
    zero = literal (record { span = nowhere; value = pos 0; ty = i.Int })

    to : Cleared s u
    to = cleared_to s u ok

    held : PlaceHeld s st.env st.structs (place (local_root n) []) (hs.variable n)
    held = place_held s st.env st.structs (place (local_root n) []) fits known (both_hold (nat_lt n (length s.context.variables)) true near refl) refl

    judged : IsFine st.structs (judge st.env st.structs (hs.stored (hs.variable n) h.zero_tree)) × ((at : Span) → value_tree at (judge st.env st.structs (hs.stored (hs.variable n) h.zero_tree)).operand ≡
        typed nowhere (var_type (type_as u)) (t.assign (place_of (judge st.env st.structs (hs.variable n)).operand.tree) (as_type (type_as u) (value_of zero).null (value_tree nowhere zero))))
    judged = assign_judged s st.env st.structs u (hs.variable n) h.zero_tree held.means.fine (target_of s st.env st.structs (place (local_root n) []) (hs.variable n) known refl to.no_array held) (record { faults = refl; structs_stay = refl }) refl (zero_fits u ok)
