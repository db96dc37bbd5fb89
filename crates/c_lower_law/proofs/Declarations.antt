-- Declarations: what is stored in the variables that they reach.
use Rattle.std.proofs.Common.{◌≡◌, ◌∙◌, ◌≤◌, ◌<◌, ℕ, zero, suc, ◌+◌, pos, refl, ap, sym, subst, arith, Bool, true, false, Option, Some, None, List, [], ◌∷◌, ◌++◌, length, map, append_assoc, Result, Ok, Err, if◌then◌else◌}
use Rattle.std.specs.Prelude.{IsTrue, ◌&&◌, slice_get, get_or, option_map}
use Rattle.std.specs.List.{list_all}
use Rattle.pt_base.specs.declared.int_type.IntType.{IntType}
use Rattle.pt_base.specs.declared.span.Span.{Span}
use Rattle.pt_base.proofs.Booleans.{both_hold_first, both_hold_second, false_not_true}
use Rattle.pt_tree.specs.declared.signature.Elem.{Elem}
use Rattle.runs.specs.State.{gives, trapped, spent, ◌>>=◌}
use Rattle.typed_tree.specs.declared.ids.ExprId.{ExprId}
use Rattle.typed_tree.specs.declared.types.VarTy.{VarTy}
use Rattle.typed_tree.specs.declared.types.VarTy.TheVariants as ty
use Rattle.typed_tree.specs.declared.variable.Var.{Var}
use Rattle.typed_tree.specs.declared.statement.TypedInit.{TypedInit}
use Rattle.typed_tree.specs.declared.statement.TypedInit.TheVariants as n
use Rattle.typed_tree.specs.declared.statement.TypedDeclarator.{TypedDeclarator}
use Rattle.typed_tree.specs.ExpressionTree.{ExprTree}
use Rattle.typed_tree.specs.Cells.{leaves_of}
use Rattle.typed_tree.specs.Sizes.{cells_by, sizes_of}
use Rattle.typed_tree.specs.TypeTests.{same_types, is_value, is_scalar}
use Rattle.typed_tree.specs.WellFormedExpression.{is_typed, ty_of}
use Rattle.typed_tree.specs.WellFormedStatement.{expr_fits, item_types, items_fit, init_fits, declarator_fits, declaration_fits}
use Rattle.block_memory.specs.declared.cell.Cell as core
use Rattle.block_memory.specs.declared.cell.BlockName.{BlockName}
use Rattle.block_memory.specs.declared.cell.BlockName.TheVariants.{Local}
use Rattle.block_memory.specs.Blocks.{Blocks}
use Rattle.source_meaning.specs.Memory.{Cell, Memory, local, number}
use Rattle.source_meaning.specs.State.{State, Outcome}
use Rattle.source_meaning.specs.Values as sv
use Rattle.source_meaning.specs.Values.{Value, holds, whole, nothing, cell_of}
use Rattle.source_meaning.specs.Expressions as e
use Rattle.source_meaning.specs.Expressions.{value_of, store, stored_in}
use Rattle.source_meaning.specs.Statements as src
use Rattle.source_meaning.specs.Statements.{variable_at, items_stored, cleared_at}
use Rattle.source_soundness.specs.Worlds.{type_in, is_pointer, Fits, ValueFits, IsInteger, LocationFits}
use Rattle.source_soundness.specs.Sizes.{Sized, ValueSized}
use Rattle.typed_tree.proofs.SameTypes.{equal_options}
use Rattle.source_soundness.proofs.Objects.{stored_fits}
use Rattle.source_soundness.proofs.SizedObjects.{plain_stored, stored_sized}
use Rattle.source_soundness.proofs.StatementSoundness.{Entry, number_stored}
use Rattle.pt_core.specs.CodeTree as t
use Rattle.pt_core.specs.CodeTree.{StmtTree, PlaceTree, place, assign, copy, clear}
use Rattle.pt_core.specs.Types as types
use Rattle.pt_core.specs.Values as v
use Rattle.pt_core.specs.Values.{Stop, ◌>>?◌, written, all_written, cells_at}
use Rattle.pt_core.specs.Statements as c
use Rattle.pt_core.specs.Statements.{goes_on, after_flow, evaluated, with_blocks}
use Rattle.lowering.specs.Lowered.{Effects, past}
use Rattle.lowering.specs.Expressions.{is_struct, value_in, object_in, copied, given, place_effects}
use Rattle.lowering.specs.Statements as l
use Rattle.lowering.specs.Leaves.{leaf_places}
use Rattle.c_lower_law.proofs.Relations.{core_cell, Scene, world_of, context_of, frame_of, scope_of, sizes_in, variable_types, HasTemps, Kept, Alike, Same, After, below, all}
use Rattle.c_lower_law.proofs.Expressions.{run_all, cell_asked, place_asked, object_asked, Gives, IsValue, IsObject, SceneFits, ValuesAgree, EffectsAgree, ObjectsAgree}
use Rattle.c_lower_law.proofs.Statements.{code_of, tests_of, lowered_with, GoesOn, DeclarationsAgree}
use Rattle.c_lower_law.proofs.Runs.{Stops, stops_at, same_weaken, run_append, ran_run, asked_run}
use Rattle.c_lower_law.proofs.Memories.{kept_then, kept_less, kept_same, kept_object, kept_all, alike_written, alike_all_written}
use Rattle.c_lower_law.proofs.Held.{own_length, past_append, temps_first, temps_rest}
use Rattle.c_lower_law.proofs.Outermost.{Laws, Found, found, value_then, scalar_plain, expr_at, value_at}
use Rattle.c_lower_law.proofs.Variables.{Own, own, code_fits, with_cleared, cleared_after}
use Rattle.c_lower_law.proofs.Leaves.{LiesAt, LiesFrom, leaves_lie, leaves_enough}

-- ---- one after the other

abbrev pub Declares : Scene → ℕ → (State → Outcome src.Flow) → List StmtTree → Type 0
Declares s n source xs = (st : State) (st' : c.State) → Alike s st st' → Same (GoesOn s n st'.memory) (source st) (run_all s xs st')

goes_up : (s : Scene) (n m : ℕ) (x y : Blocks) (flow : src.Flow) (st : State) (flow' : c.Flow) (st' : c.State) → n ≤ m → Kept s (below n) x y → GoesOn s m y flow st flow' st' → GoesOn s n x flow st flow' st'
goes_up s n m x y flow st flow' st' le kept g = record {
  after = record { alike = g.after.alike; kept = kept_then s (below n) (below m) (below n) x y st'.memory kept g.after.kept (λ k h. h) (λ k h. omega (arith, le, h)) };
  same = g.same;
}

declares_then : (s : Scene) (n m : ℕ) (first second : State → Outcome src.Flow) (xs ys : List StmtTree) → n ≤ m → Declares s n first xs → Declares s m second ys → Declares s n (λ st. first st >>= λ flow. second) (xs ++ ys)
declares_then s n m first second xs ys le one two st st' al =
    subst (λ o. Same (GoesOn s n st'.memory) (first st >>= λ flow. second) o) (sym (run_append s xs ys st'))
    (ran_run (GoesOn s n st'.memory) (GoesOn s n st'.memory) (first st) (run_all s xs st') (λ flow. second) (run_all s ys) (one st st' al) (λ a st1 flow' st1' g. g.same.1)
    (λ a st1 st1' g. same_weaken (GoesOn s m st1'.memory) (GoesOn s n st'.memory) (second st1) (run_all s ys st1') (two st1 st1' g.after.alike) (λ flow st2 flow' st2' h. goes_up s n m st'.memory st1'.memory flow st2 flow' st2' le g.after.kept h)))

-- ---- a value is stored

abbrev assigning : Scene → List StmtTree → c.State → Result Blocks Stop → c.Outcome c.Flow
assigning s rest st r = evaluated r st (λ blocks st1. gives goes_on (with_blocks blocks st1)) >>= after_flow (run_all s rest)

assign_then : (s : Scene) (p : PlaceTree) (e1 : t.ExprTree) (rest : List StmtTree) (at : v.Location) (x : core.Cell) (st : c.State) → place_asked s p st.memory ≡ Ok at → cell_asked s e1 st.memory ≡ Ok x → run_all s (assign p e1 ∷ rest) st ≡ run_all s rest (with_blocks (written st.memory at.block at.cell x) st)
assign_then s p e1 rest at x st there is =
    ap (λ r. assigning s rest st (r >>? λ at1. cell_asked s e1 st.memory >>? λ x1. Ok (written st.memory at1.block at1.cell x1))) there
    ∙ ap (λ r. assigning s rest st (r >>? λ x1. Ok (written st.memory at.block at.cell x1))) is

assign_stops : (s : Scene) (p : PlaceTree) (e1 : t.ExprTree) (rest : List StmtTree) (at : v.Location) (stop : Stop) (st : c.State) → place_asked s p st.memory ≡ Ok at → cell_asked s e1 st.memory ≡ Err stop → Stops stop st (run_all s (assign p e1 ∷ rest) st)
assign_stops s p e1 rest at stop st there is =
    stops_at stop st (run_all s (assign p e1 ∷ rest) st)
    (ap (λ r. assigning s rest st (r >>? λ at1. cell_asked s e1 st.memory >>? λ x1. Ok (written st.memory at1.block at1.cell x1))) there
    ∙ ap (λ (r : Result core.Cell Stop). assigning s rest st (r >>? λ x1. Ok (written st.memory at.block at.cell x1))) is)

-- a value of a scalar type is what one cell holds
scalar_holds : (s : Scene) (u : VarTy) (w : Value) → IsTrue (is_scalar (Some u)) → ValueFits (world_of s) (Some u) w → w ≡ holds (cell_of w)
scalar_holds s (ty.Int t1) (holds y) h fit = refl
scalar_holds s (ty.Int t1) (whole cells) h fit = absurd fit
scalar_holds s (ty.Int t1) nothing h fit = absurd fit
scalar_holds s (ty.Pointer elem fixed) w h fit = fit.1 ∙ ap (λ z. holds (cell_of z)) (sym fit.1)
scalar_holds s (ty.Struct k) w h fit = false_not_true h
scalar_holds s (ty.Array elem count) w h fit = false_not_true h

-- a value of this type may be stored in this cell of the variable
abbrev Keeping : Scene → List ExprTree → ℕ → ℕ → VarTy → Type 0
Keeping s exprs x cell u = (w : Value) (st : State) → ValueFits (world_of s) (Some u) w → ValueSized (world_of s) (sizes_in s) (Some u) w → Fits (world_of s) st.memory → Sized (world_of s) (sizes_in s) st.memory →
    Fits (world_of s) (stored_in st.memory (variable_at (code_of s exprs) x cell) w) × Sized (world_of s) (sizes_in s) (stored_in st.memory (variable_at (code_of s exprs) x cell) w)

stored_after : (s : Scene) (exprs : List ExprTree) (x cell n : ℕ) (in_ u : VarTy) (before : Blocks) (w : Value) (y : core.Cell) (at : v.Location) (st : State) (st' : c.State) → SceneFits s → Own s exprs x in_ → Keeping s exprs x cell u → IsTrue (is_scalar (Some u)) → IsValue s (Some u) w y → at.block ≡ Local s.frame.depth x → at.cell ≡ cell → After s (below n) before st st' →
    After s (below n) before (record st { memory = stored_in st.memory (variable_at (code_of s exprs) x cell) w }) (with_blocks (written st'.memory at.block at.cell y) st')
stored_after s exprs x cell n in_ u before w y at st st' fits o keeps scalar q in_block in_cell h =
    subst (λ z. After s (below n) before (record st { memory = stored_in st.memory (variable_at (code_of s exprs) x cell) z }) (with_blocks (written st'.memory at.block at.cell y) st')) (sym (scalar_holds s u w scalar q.fits))
    (subst (λ z. After s (below n) before (record st { memory = stored_in st.memory (variable_at (code_of s exprs) x cell) (holds (cell_of w)) }) (with_blocks z st')) (sym written_is)
    (record {
      alike = alike_written s st st' (local s.frame.depth x) cell (cell_of w) in_ (own_length s fits) h.alike o.live good.0 good.1;
      kept = kept_then s (below n) all (below n) before st'.memory (written st'.memory (Local s.frame.depth x) cell (core_cell (cell_of w))) h.kept (kept_object s st'.memory (local s.frame.depth x) _ in_ o.live) (λ k less. less) (λ k less. tt);
    }))
  where
    written_is : written st'.memory at.block at.cell y ≡ written st'.memory (Local s.frame.depth x) cell (core_cell (cell_of w))
    written_is = ap (λ z. written st'.memory z at.cell y) in_block ∙ ap (λ z. written st'.memory (Local s.frame.depth x) z y) in_cell ∙ ap (λ z. written st'.memory (Local s.frame.depth x) cell z) q.same

    good : Fits (world_of s) (stored_in st.memory (variable_at (code_of s exprs) x cell) (holds (cell_of w))) × Sized (world_of s) (sizes_in s) (stored_in st.memory (variable_at (code_of s exprs) x cell) (holds (cell_of w)))
    good = subst (λ z. Fits (world_of s) (stored_in st.memory (variable_at (code_of s exprs) x cell) z) × Sized (world_of s) (sizes_in s) (stored_in st.memory (variable_at (code_of s exprs) x cell) z)) (scalar_holds s u w scalar q.fits) (keeps w st q.fits q.sized h.alike.fits h.alike.sized)

-- a value is stored, and what follows
stored_then : (laws : Laws) (s : Scene) (exprs : List ExprTree) (x cell n : ℕ) (in_ u : VarTy) (a : ExprTree) (p : PlaceTree) (next : State → Outcome src.Flow) (rest : List StmtTree) → SceneFits s → Own s exprs x in_ → Keeping s exprs x cell u → IsTrue (is_scalar (Some u)) → Found s (same_types (Some u)) a →
    LiesAt s x cell p → length s.names.vars ≤ n → HasTemps s.core_variables n (value_in (scope_of s) a n).temps → Declares s (past n (value_in (scope_of s) a n).temps) next rest →
    Declares s n (λ st. value_of a (context_of s) st >>= λ w st1. store (variable_at (code_of s exprs) x cell) w st1 >>= λ z. next) ((value_in (scope_of s) a n).stmts ++ assign p (value_in (scope_of s) a n).value ∷ rest)
stored_then laws s exprs x cell n in_ u a p next rest fits o keeps scalar is there from temps follows st st' al =
    value_then laws s (GoesOn s n st'.memory) a n (λ w st1. store (variable_at (code_of s exprs) x cell) w st1 >>= λ z. next) (assign p (value_in (scope_of s) a n).value ∷ rest) st st' fits is.typed (scalar_plain (ty_of a) (subst (λ z. IsTrue (is_scalar z)) type_is scalar)) from temps al
    (λ stop st1' no. assign_stops s p (value_in (scope_of s) a n).value rest there.at stop st1' (there.is st1'.memory) no)
    (λ w st1 y st1' g found_it.
    let h = stored_after s exprs x cell n in_ u st'.memory w y there.at st1 st1' fits o keeps scalar (subst (λ z. IsValue s z w y) (sym type_is) g.facts) there.block there.cell g.after in
    subst (λ z. Same (GoesOn s n st'.memory) (next (record st1 { memory = stored_in st1.memory (variable_at (code_of s exprs) x cell) w })) z) (sym (assign_then s p (value_in (scope_of s) a n).value rest there.at y st1' (there.is st1'.memory) found_it))
    (same_weaken (GoesOn s (past n (value_in (scope_of s) a n).temps) (written st1'.memory there.at.block there.at.cell y)) (GoesOn s n st'.memory) (next (record st1 { memory = stored_in st1.memory (variable_at (code_of s exprs) x cell) w })) (run_all s rest (with_blocks (written st1'.memory there.at.block there.at.cell y) st1'))
    (follows (record st1 { memory = stored_in st1.memory (variable_at (code_of s exprs) x cell) w }) (with_blocks (written st1'.memory there.at.block there.at.cell y) st1') h.alike)
    (λ flow st2 flow' st2' g2. goes_up s n (past n (value_in (scope_of s) a n).temps) st'.memory (written st1'.memory there.at.block there.at.cell y) flow st2 flow' st2' (omega arith) h.kept g2)))
  where
    type_is : Some u ≡ ty_of a
    type_is = equal_options (Some u) (ty_of a) is.passes

nothing_more : (s : Scene) (n : ℕ) → Declares s n (λ st. gives src.goes_on st) []
nothing_more s n st st' al = record { after = record { alike = al; kept = kept_same s (below n) st'.memory }; same = (refl, refl) }

-- ---- the items of a brace list

-- values of these types may be stored from this cell on
abbrev AllKeep : Scene → List ExprTree → ℕ → ℕ → List VarTy → Type 0
AllKeep s exprs x cell [] = Unit {0}
AllKeep s exprs x cell (u ∷ us) = (IsTrue (is_scalar (Some u)) × Keeping s exprs x cell u) × AllKeep s exprs x (cell + 1) us

items_declare : (es : List ExprId) (laws : Laws) (s : Scene) (exprs : List ExprTree) (result : Option IntType) (x cell n : ℕ) (in_ : VarTy) (us : List VarTy) (places : List PlaceTree) → SceneFits s → Own s exprs x in_ → AllKeep s exprs x cell us → IsTrue (items_fit (tests_of s exprs result) us es) → LiesFrom s x cell places → length us ≤ length places →
    length s.names.vars ≤ n → HasTemps s.core_variables n (l.items_in (lowered_with s exprs) places es n).temps → Declares s n (items_stored es x cell (code_of s exprs)) (l.items_in (lowered_with s exprs) places es n).stmts
items_declare [] laws s exprs result x cell n in_ us places fits o keep ok lie enough from temps = nothing_declared places
  where
    nothing_declared : (places : List PlaceTree) → Declares s n (items_stored [] x cell (code_of s exprs)) (l.items_in (lowered_with s exprs) places [] n).stmts
    nothing_declared [] = nothing_more s n
    nothing_declared (p ∷ places) = nothing_more s n
items_declare (e1 ∷ es) laws s exprs result x cell n in_ [] places fits o keep ok lie enough from temps = false_not_true ok
items_declare (e1 ∷ es) laws s exprs result x cell n in_ (u ∷ us) [] fits o keep ok lie enough from temps = absurd (none enough)
  where
    none : suc (length us) ≤ 0 → ⊥
    none h = omega (arith, h)
items_declare (e1 ∷ es) laws s exprs result x cell n in_ (u ∷ us) (p ∷ places) fits o keep ok lie enough from temps =
    let w = value_at s exprs e1 n in
    let rest = l.items_in (lowered_with s exprs) places es (past n w.temps) in
    subst (λ xs. Declares s n (items_stored (e1 ∷ es) x cell (code_of s exprs)) xs) (sym (append_assoc w.stmts (assign p w.value ∷ []) rest.stmts))
    (stored_then laws s exprs x cell n in_ u (expr_at exprs e1) p (items_stored es x (cell + 1) (code_of s exprs)) rest.stmts fits o keep.0.1 keep.0.0
    (found s exprs result (same_types (Some u)) e1 (both_hold_first (expr_fits (tests_of s exprs result) (same_types (Some u)) e1) (items_fit (tests_of s exprs result) us es) ok)) lie.0 from (temps_first s.core_variables n w.temps rest.temps temps)
    (items_declare es laws s exprs result x (cell + 1) (past n w.temps) in_ us places fits o keep.1 (both_hold_second (expr_fits (tests_of s exprs result) (same_types (Some u)) e1) (items_fit (tests_of s exprs result) us es) ok) lie.1 (omega (arith, enough)) (omega (arith, from)) (temps_rest s.core_variables n w.temps rest.temps temps)))

-- ---- objects

abbrev copying : Scene → ℕ → c.State → Result (List core.Cell) Stop → c.Outcome c.Flow
copying s x st r = evaluated (r >>? λ xs. Ok (all_written st.memory (Local s.frame.depth x) 0 xs)) st (λ blocks st1. gives goes_on (with_blocks blocks st1)) >>= after_flow (λ st1. gives goes_on st1)

abbrev moving : c.State → Result Blocks Stop → c.Outcome c.Flow
moving st r = evaluated r st (λ blocks st1. gives goes_on (with_blocks blocks st1)) >>= after_flow (λ st1. gives goes_on st1)

-- what is asked of the object, and then written
asked_first : (r : Result v.Location Stop) (f : v.Location → List core.Cell) (g : List core.Cell → Blocks) → (r >>? λ from. Ok (g (f from))) ≡ ((r >>? λ from. Ok (f from)) >>? λ xs. Ok (g xs))
asked_first (Ok from) f g = refl
asked_first (Err stop) f g = refl

copy_is : (s : Scene) (x k : ℕ) (of : PlaceTree) (st : c.State) → types.type_at s.core_variables x ≡ ty.Struct k → run_all s (copy (place (t.local x) []) of ∷ []) st ≡ copying s x st (object_asked s of k st.memory)
copy_is s x k of st is =
    ap (λ z. moving st (place_asked s of st.memory >>? λ from. Ok (all_written st.memory (Local s.frame.depth x) 0 (cells_at st.memory from (cells_by (sizes_in s) z))))) is
    ∙ ap (moving st) (asked_first (place_asked s of st.memory) (λ from. cells_at st.memory from (cells_by (sizes_in s) (ty.Struct k))) (λ xs. all_written st.memory (Local s.frame.depth x) 0 xs))

object_stored : (laws : Laws) (s : Scene) (exprs : List ExprTree) (x k n : ℕ) (a : ExprTree) → SceneFits s → Own s exprs x (ty.Struct k) → IsTrue (is_typed s.names a) → ty_of a ≡ Some (ty.Struct k) → length s.names.vars ≤ n → HasTemps s.core_variables n (object_in (scope_of s) a n).temps →
    Declares s n (λ st. value_of a (context_of s) st >>= λ w st1. store (variable_at (code_of s exprs) x 0) w st1 >>= λ z. gives src.goes_on) ((object_in (scope_of s) a n).stmts ++ copy (place (t.local x) []) (object_in (scope_of s) a n).place ∷ [])
object_stored laws s exprs x k n a fits o typed type_is from temps st st' al =
    subst (λ z. Same (GoesOn s n st'.memory) (value_of a (context_of s) st >>= λ w st1. store (variable_at (code_of s exprs) x 0) w st1 >>= λ z. gives src.goes_on) z) (sym (run_append s (object_in (scope_of s) a n).stmts (copy (place (t.local x) []) (object_in (scope_of s) a n).place ∷ []) st'))
    (asked_run (Kept s (below n) st'.memory) (Gives s (below n) st'.memory (IsObject s k)) (GoesOn s n st'.memory) (object_asked s (object_in (scope_of s) a n).place k) (value_of a (context_of s) st) (run_all s (object_in (scope_of s) a n).stmts st')
    (λ w st1. store (variable_at (code_of s exprs) x 0) w st1 >>= λ z. gives src.goes_on) (run_all s (copy (place (t.local x) []) (object_in (scope_of s) a n).place ∷ []))
    (laws.objects s a n k st st' fits typed type_is from temps al)
    (λ stop st1' kept no. stops_at stop st1' (run_all s (copy (place (t.local x) []) (object_in (scope_of s) a n).place ∷ []) st1') (copy_is s x k (object_in (scope_of s) a n).place st1' o.core_type ∙ ap (copying s x st1') no))
    (λ w st1 xs st1' g is.
    subst (λ z. Same (GoesOn s n st'.memory) (gives src.goes_on (record st1 { memory = stored_in st1.memory (variable_at (code_of s exprs) x 0) w })) z) (sym (copy_is s x k (object_in (scope_of s) a n).place st1' o.core_type ∙ ap (copying s x st1') is))
    (record { after = stored w xs st1 st1' g.facts g.after; same = (refl, refl) })))
  where
    stored : (w : Value) (xs : List core.Cell) (st1 : State) (st1' : c.State) → IsObject s k w xs → After s (below n) st'.memory st1 st1' →
        After s (below n) st'.memory (record st1 { memory = stored_in st1.memory (variable_at (code_of s exprs) x 0) w }) (with_blocks (all_written st1'.memory (Local s.frame.depth x) 0 xs) st1')
    stored w xs st1 st1' q h =
        subst (λ z. After s (below n) st'.memory (record st1 { memory = stored_in st1.memory (variable_at (code_of s exprs) x 0) z }) (with_blocks (all_written st1'.memory (Local s.frame.depth x) 0 xs) st1')) (sym q.is)
        (subst (λ z. After s (below n) st'.memory (record st1 { memory = stored_in st1.memory (variable_at (code_of s exprs) x 0) (whole q.cells) }) (with_blocks (all_written st1'.memory (Local s.frame.depth x) 0 z) st1')) (sym q.same)
        (record {
          alike = alike_all_written s st1 st1' (local s.frame.depth x) 0 q.cells (ty.Struct k) (own_length s fits) h.alike o.live
              (subst (λ z. Fits (world_of s) (stored_in st1.memory (variable_at (code_of s exprs) x 0) z)) q.is (stored_fits (world_of s) st1.memory (variable_at (code_of s exprs) x 0) w (ty.Struct k) o.lies_there q.fits h.alike.fits))
              (subst (λ z. Sized (world_of s) (sizes_in s) (stored_in st1.memory (variable_at (code_of s exprs) x 0) z)) q.is (stored_sized (world_of s) (sizes_in s) st1.memory (variable_at (code_of s exprs) x 0) w (ty.Struct k) o.lies_there q.fits q.sized h.alike.sized));
          kept = kept_then s (below n) all (below n) st'.memory st1'.memory (all_written st1'.memory (Local s.frame.depth x) 0 (map core_cell q.cells)) h.kept (kept_all s (map core_cell q.cells) st1'.memory (local s.frame.depth x) 0 (ty.Struct k) o.live) (λ j less. less) (λ j less. tt);
        }))

-- ---- initialisers

whole_keeps : (s : Scene) (exprs : List ExprTree) (x : ℕ) (u : VarTy) → Own s exprs x u → Keeping s exprs x 0 u
whole_keeps s exprs x u o w st fit size fits sized = (stored_fits (world_of s) st.memory (variable_at (code_of s exprs) x 0) w u o.lies_there fit fits, stored_sized (world_of s) (sizes_in s) st.memory (variable_at (code_of s exprs) x 0) w u o.lies_there fit size sized)

number_keeps : (s : Scene) (exprs : List ExprTree) (result : Option IntType) (x cell : ℕ) (u : VarTy) (t1 : IntType) → SceneFits s → Entry (tests_of s exprs result) x u → Own s exprs x u → is_pointer u ≡ false → Keeping s exprs x cell (ty.Int t1)
number_keeps s exprs result x cell u t1 fits en o plain w st fit size good sized = (
  number_stored (world_of s) (tests_of s exprs result) (code_of s exprs) x cell u t1 w st (code_fits s exprs result fits) en plain fit good,
  plain_stored (world_of s) (sizes_in s) st.memory (variable_at (code_of s exprs) x cell) w u sized o.live plain,
)

numbers_keep : (ts : List IntType) (s : Scene) (exprs : List ExprTree) (result : Option IntType) (x cell : ℕ) (u : VarTy) → SceneFits s → Entry (tests_of s exprs result) x u → Own s exprs x u → is_pointer u ≡ false → AllKeep s exprs x cell (map ty.Int ts)
numbers_keep [] s exprs result x cell u fits en o plain = tt
numbers_keep (t1 ∷ ts) s exprs result x cell u fits en o plain = ((refl, number_keeps s exprs result x cell u t1 fits en o plain), numbers_keep ts s exprs result x (cell + 1) u fits en o plain)

item_keeps : (s : Scene) (exprs : List ExprTree) (result : Option IntType) (x : ℕ) (u : VarTy) → SceneFits s → Entry (tests_of s exprs result) x u → Own s exprs x u → AllKeep s exprs x 0 (item_types s.names.structs u)
item_keeps s exprs result x (ty.Int t1) fits en o = numbers_keep (leaves_of s.names.structs (ty.Int t1)) s exprs result x 0 (ty.Int t1) fits en o refl
item_keeps s exprs result x (ty.Struct k) fits en o = numbers_keep (leaves_of s.names.structs (ty.Struct k)) s exprs result x 0 (ty.Struct k) fits en o refl
item_keeps s exprs result x (ty.Array elem count) fits en o = numbers_keep (leaves_of s.names.structs (ty.Array elem count)) s exprs result x 0 (ty.Array elem count) fits en o refl
item_keeps s exprs result x (ty.Pointer elem fixed) fits en o = ((refl, whole_keeps s exprs x (ty.Pointer elem fixed) o), tt)

-- the variable itself
variable_lies : (s : Scene) (x : ℕ) → LiesAt s x 0 (place (t.local x) [])
variable_lies s x = record { at = record { block = Local s.frame.depth x; cell = 0; ty = types.type_at s.core_variables x }; is = λ blocks. refl; block = refl; cell = refl }

-- a value is stored by its type
abbrev stored_by : Scene → ℕ → ExprTree → ℕ → VarTy → Effects
stored_by s x a n u =
    if is_struct (Some u) then place_effects (copied (l.variable_place (lowered_with s []) x) (object_in (scope_of s) a n))
    else place_effects (given (l.variable_place (lowered_with s []) x) (value_in (scope_of s) a n))

value_declares : (laws : Laws) (s : Scene) (exprs : List ExprTree) (x n : ℕ) (u : VarTy) (a : ExprTree) → SceneFits s → Own s exprs x u → IsTrue (is_value (Some u)) → Found s (same_types (Some u)) a → length s.names.vars ≤ n → HasTemps s.core_variables n (stored_by s x a n u).temps →
    Declares s n (λ st. value_of a (context_of s) st >>= λ w st1. store (variable_at (code_of s exprs) x 0) w st1 >>= λ z. gives src.goes_on) (stored_by s x a n u).stmts
value_declares laws s exprs x n (ty.Int t1) a fits o ok is from temps =
    stored_then laws s exprs x 0 n (ty.Int t1) (ty.Int t1) a (place (t.local x) []) (λ st. gives src.goes_on st) [] fits o (whole_keeps s exprs x (ty.Int t1) o) refl is (variable_lies s x) from temps (nothing_more s (past n (value_in (scope_of s) a n).temps))
value_declares laws s exprs x n (ty.Pointer elem fixed) a fits o ok is from temps =
    stored_then laws s exprs x 0 n (ty.Pointer elem fixed) (ty.Pointer elem fixed) a (place (t.local x) []) (λ st. gives src.goes_on st) [] fits o (whole_keeps s exprs x (ty.Pointer elem fixed) o) refl is (variable_lies s x) from temps (nothing_more s (past n (value_in (scope_of s) a n).temps))
value_declares laws s exprs x n (ty.Struct k) a fits o ok is from temps = object_stored laws s exprs x k n a fits o is.typed (sym (equal_options (Some (ty.Struct k)) (ty_of a) is.passes)) from temps
value_declares laws s exprs x n (ty.Array elem count) a fits o ok is from temps = false_not_true ok

init_declares : (init : TypedInit) (laws : Laws) (s : Scene) (exprs : List ExprTree) (result : Option IntType) (x n : ℕ) (u : VarTy) → SceneFits s → Entry (tests_of s exprs result) x u → Own s exprs x u → IsTrue (init_fits (tests_of s exprs result) (Some u) init) → length s.names.vars ≤ n →
    HasTemps s.core_variables n (l.initialised (lowered_with s exprs) init x n).temps → Declares s n (src.initialised init x (code_of s exprs)) (l.initialised (lowered_with s exprs) init x n).stmts
init_declares n.Nothing laws s exprs result x k u fits en o ok from temps = nothing_more s k
init_declares (n.Value e1) laws s exprs result x k u fits en o ok from temps =
    subst (λ (z : Effects). Declares s k (src.initialised (n.Value e1) x (code_of s exprs)) z.stmts) (ap (stored_by s x (expr_at exprs e1) k) (sym o.source_type))
    (value_declares laws s exprs x k u (expr_at exprs e1) fits o (both_hold_first (is_value (Some u)) (expr_fits (tests_of s exprs result) (same_types (Some u)) e1) ok) (found s exprs result (same_types (Some u)) e1 (both_hold_second (is_value (Some u)) (expr_fits (tests_of s exprs result) (same_types (Some u)) e1) ok)) from
    (subst (λ (z : Effects). HasTemps s.core_variables k z.temps) (ap (stored_by s x (expr_at exprs e1) k) o.source_type) temps))
init_declares (n.Items sp es) laws s exprs result x k u fits en o ok from temps =
    items_declare es laws s exprs result x 0 k u (item_types s.names.structs u) (leaf_places s.names.structs (types.type_at (variable_types s) x) sp (place (t.local x) [])) fits o (item_keeps s exprs result x u fits en o) ok
    (subst (λ z. LiesFrom s x 0 (leaf_places s.names.structs z sp (place (t.local x) []))) (sym o.source_type) (leaves_lie s exprs x u sp fits o))
    (subst (λ z. length (item_types s.names.structs u) ≤ length (leaf_places s.names.structs z sp (place (t.local x) []))) (sym o.source_type) (leaves_enough s u sp (place (t.local x) []) fits)) from temps

-- ---- declarations

one_declared : (laws : Laws) (s : Scene) (exprs : List ExprTree) (result : Option IntType) (d : TypedDeclarator) (k : ℕ) → SceneFits s → IsTrue (declarator_fits (tests_of s exprs result) d) → length s.names.vars ≤ k → HasTemps s.core_variables k (l.initialised (lowered_with s exprs) d.init d.var.0 k).temps →
    (next : State → Outcome src.Flow) (rest : List StmtTree) → Declares s (past k (l.initialised (lowered_with s exprs) d.init d.var.0 k).temps) next rest →
    Declares s k (λ st. src.initialised d.init d.var.0 (code_of s exprs) (cleared_at (code_of s exprs) d.var.0 st) >>= λ flow. next) (clear d.var.0 ∷ ((l.initialised (lowered_with s exprs) d.init d.var.0 k).stmts ++ rest))
one_declared laws s exprs result d k fits ok from temps next rest follows st st' al = go (option_map (λ (y : Var). y.ty) (slice_get s.names.vars d.var.0)) refl ok
  where
    go : (r : Option VarTy) → option_map (λ (y : Var). y.ty) (slice_get s.names.vars d.var.0) ≡ r → init_fits (tests_of s exprs result) r d.init ≡ true →
        Same (GoesOn s k st'.memory) (src.initialised d.init d.var.0 (code_of s exprs) (cleared_at (code_of s exprs) d.var.0 st) >>= λ flow. next) (run_all s ((l.initialised (lowered_with s exprs) d.init d.var.0 k).stmts ++ rest) (with_cleared s d.var.0 st'))
    go None is h = false_not_true h
    go (Some u) is h =
        let en : Entry (tests_of s exprs result) d.var.0 u = record { is = is } in
        let ready = cleared_after s exprs result d.var.0 k u st st' fits en al in
        same_weaken (GoesOn s k (with_cleared s d.var.0 st').memory) (GoesOn s k st'.memory) (src.initialised d.init d.var.0 (code_of s exprs) (cleared_at (code_of s exprs) d.var.0 st) >>= λ flow. next) (run_all s ((l.initialised (lowered_with s exprs) d.init d.var.0 k).stmts ++ rest) (with_cleared s d.var.0 st'))
        (declares_then s k (past k (l.initialised (lowered_with s exprs) d.init d.var.0 k).temps) (src.initialised d.init d.var.0 (code_of s exprs)) next (l.initialised (lowered_with s exprs) d.init d.var.0 k).stmts rest (omega arith)
        (init_declares d.init laws s exprs result d.var.0 k u fits en (own s exprs result d.var.0 u fits en) h from temps) follows (cleared_at (code_of s exprs) d.var.0 st) (with_cleared s d.var.0 st') ready.alike)
        (λ flow st2 flow' st2' g. goes_up s k k st'.memory (with_cleared s d.var.0 st').memory flow st2 flow' st2' (omega arith) ready.kept g)

declarations_run : (ds : List TypedDeclarator) (laws : Laws) (s : Scene) (exprs : List ExprTree) (result : Option IntType) (k : ℕ) → SceneFits s → IsTrue (declaration_fits (tests_of s exprs result) ds) → length s.names.vars ≤ k →
    HasTemps s.core_variables k (l.declared (lowered_with s exprs) ds k).temps → Declares s k (src.declared ds (code_of s exprs)) (l.declared (lowered_with s exprs) ds k).stmts
declarations_run [] laws s exprs result k fits ok from temps = nothing_more s k
declarations_run (d ∷ ds) laws s exprs result k fits ok from temps =
    let init = l.initialised (lowered_with s exprs) d.init d.var.0 k in
    let rest = l.declared (lowered_with s exprs) ds (past k init.temps) in
    one_declared laws s exprs result d k fits (both_hold_first (declarator_fits (tests_of s exprs result) d) (list_all (declarator_fits (tests_of s exprs result)) ds) ok) from (temps_first s.core_variables k init.temps rest.temps temps) (src.declared ds (code_of s exprs)) rest.stmts
    (declarations_run ds laws s exprs result (past k init.temps) fits (both_hold_second (declarator_fits (tests_of s exprs result) d) (list_all (declarator_fits (tests_of s exprs result)) ds) ok) (omega (arith, from)) (temps_rest s.core_variables k init.temps rest.temps temps))

pub declarations_agree : ValuesAgree → EffectsAgree → ObjectsAgree → DeclarationsAgree
declarations_agree values effects objects s exprs result ds k st st' fits ok from temps al = declarations_run ds (record { values = values; effects = effects; objects = objects }) s exprs result k fits ok from temps st st' al
