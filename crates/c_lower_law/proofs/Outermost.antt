-- Outermost expressions: what statements do with their values.
use Rattle.std.proofs.Common.{◌≡◌, ◌∙◌, ◌≤◌, ◌<◌, ℕ, ◌+◌, pos, refl, ap, sym, subst, arith, Bool, true, false, Option, Some, None, List, [], ◌∷◌, ◌++◌, length, append_assoc, Result, Ok, Err, if◌then◌else◌}
use Rattle.std.specs.Prelude.{IsTrue, ◌&&◌, slice_get, get_or}
use Rattle.std.proofs.lemmas.Option.{get_or_from_slice_get}
use Rattle.pt_base.specs.declared.int_type.IntType.{IntType}
use Rattle.pt_base.proofs.Booleans.{both_hold_first, both_hold_second, false_not_true}
use Rattle.runs.specs.State.{gives, trapped, spent, ◌>>=◌}
use Rattle.typed_tree.specs.declared.ids.ExprId.{ExprId}
use Rattle.typed_tree.specs.declared.types.VarTy.{VarTy}
use Rattle.typed_tree.specs.declared.types.VarTy.TheVariants.{Int, Struct, Array, Pointer}
use Rattle.typed_tree.specs.ExpressionTree.{ExprTree}
use Rattle.typed_tree.specs.TypeTests.{is_scalar}
use Rattle.typed_tree.specs.WellFormedExpression.{is_typed, ty_of}
use Rattle.typed_tree.specs.WellFormedStatement.{found_fits, expr_fits}
use Rattle.block_memory.specs.declared.cell.Cell as core
use Rattle.block_memory.specs.Blocks.{Blocks}
use Rattle.source_meaning.specs.Memory.{Cell, number, null, pointer}
use Rattle.source_meaning.specs.State.{State, Outcome}
use Rattle.source_meaning.specs.Values.{Value, cell_of, is_true}
use Rattle.source_meaning.specs.Values as sv
use Rattle.source_meaning.specs.Expressions.{value_of}
use Rattle.source_meaning.specs.Statements as src
use Rattle.pt_core.specs.CodeTree as t
use Rattle.pt_core.specs.CodeTree.{StmtTree, choose, stmt_trees}
use Rattle.pt_core.specs.Values as v
use Rattle.pt_core.specs.Values.{Stop}
use Rattle.pt_core.specs.Statements as c
use Rattle.pt_core.specs.Statements.{goes_on, after_flow, do_all, evaluated}
use Rattle.lowering.specs.Lowered.{Lowered}
use Rattle.lowering.specs.Expressions.{is_struct, value_in, effects_in}
use Rattle.c_lower_law.proofs.Relations.{core_cell, Scene, context_of, scope_of, frame_of, HasTemps, Kept, Alike, Same, After, below}
use Rattle.c_lower_law.proofs.Expressions.{run_all, cell_asked, Gives, SameCell, IsValue, SceneFits, ValuesAgree, EffectsAgree, ObjectsAgree}
use Rattle.c_lower_law.proofs.Statements.{tests_of}
use Rattle.c_lower_law.proofs.Runs.{run_append, Stops, stops_at, asked_run}
use Rattle.c_lower_law.proofs.Flows.{Passes}

-- what is known of expressions
pub record Laws : Type 0 where
  pub values : ValuesAgree
  pub effects : EffectsAgree
  pub objects : ObjectsAgree

-- ---- well formed ones

pub record Found (s : Scene) (test : Option VarTy → Bool) (a : ExprTree) : Type 0 where
  pub typed : IsTrue (is_typed s.names a)
  pub passes : IsTrue (test (ty_of a))

pub found : (s : Scene) (exprs : List ExprTree) (result : Option IntType) (test : Option VarTy → Bool) (e : ExprId) → IsTrue (expr_fits (tests_of s exprs result) test e) → Found s test (get_or exprs e.0 src.no_expr)
found s exprs result test e h = go (slice_get exprs e.0) refl h
  where
    go : (o : Option ExprTree) → slice_get exprs e.0 ≡ o → found_fits s.names test o ≡ true → Found s test (get_or exprs e.0 src.no_expr)
    go None is h = false_not_true h
    go (Some a) is h = subst (λ z. Found s test z) (sym (get_or_from_slice_get exprs e.0 a src.no_expr is)) (record { typed = both_hold_first (is_typed s.names a) (test (ty_of a)) h; passes = both_hold_second (is_typed s.names a) (test (ty_of a)) h })

pub scalar_plain : (ty : Option VarTy) → IsTrue (is_scalar ty) → is_struct ty ≡ false
scalar_plain None h = refl
scalar_plain (Some (Int u)) h = refl
scalar_plain (Some (Struct n)) h = false_not_true h
scalar_plain (Some (Array elem count)) h = refl
scalar_plain (Some (Pointer elem fixed)) h = refl

-- ---- values

pub value_then : {B : Type 0} (laws : Laws) (s : Scene) (R : B → State → c.Flow → c.State → Type 0) (a : ExprTree) (n : ℕ) (k : Value → State → Outcome B) (xs : List StmtTree) (st : State) (st' : c.State) → SceneFits s → IsTrue (is_typed s.names a) → is_struct (ty_of a) ≡ false →
    length s.names.vars ≤ n → HasTemps s.core_variables n (value_in (scope_of s) a n).temps → Alike s st st' →
    ((stop : Stop) (st1' : c.State) → cell_asked s (value_in (scope_of s) a n).value st1'.memory ≡ Err stop → Stops stop st1' (run_all s xs st1')) →
    ((w : Value) (st1 : State) (x : core.Cell) (st1' : c.State) → Gives s (below n) st'.memory (IsValue s (ty_of a)) w st1 x st1' → cell_asked s (value_in (scope_of s) a n).value st1'.memory ≡ Ok x → Same R (k w st1) (run_all s xs st1')) →
    Same R (value_of a (context_of s) st >>= k) (run_all s ((value_in (scope_of s) a n).stmts ++ xs) st')
value_then laws s R a n k xs st st' fits typed plain from temps al strict on =
    subst (λ o. Same R (value_of a (context_of s) st >>= k) o) (sym (run_append s (value_in (scope_of s) a n).stmts xs st'))
    (asked_run (Kept s (below n) st'.memory) (Gives s (below n) st'.memory (IsValue s (ty_of a))) R (cell_asked s (value_in (scope_of s) a n).value) (value_of a (context_of s) st) (run_all s (value_in (scope_of s) a n).stmts st') k (run_all s xs)
    (laws.values s a n st st' fits typed plain from temps al) (λ stop st1' kept second. strict stop st1' second) on)

-- ---- choices

abbrev choosing : Scene → List StmtTree → List StmtTree → List StmtTree → c.State → Result core.Cell Stop → c.Outcome c.Flow
choosing s xs ys rest st r =
    evaluated r st (λ z. if v.holds_in z then do_all (stmt_trees xs) (frame_of s) s.core_calls else do_all (stmt_trees ys) (frame_of s) s.core_calls) >>= after_flow (run_all s rest)

abbrev chosen_by : Scene → List StmtTree → List StmtTree → List StmtTree → c.State → Bool → c.Outcome c.Flow
chosen_by s xs ys rest st b = (if b then do_all (stmt_trees xs) (frame_of s) s.core_calls else do_all (stmt_trees ys) (frame_of s) s.core_calls) st >>= after_flow (run_all s rest)

pub choose_yes : (s : Scene) (e : t.ExprTree) (xs ys rest : List StmtTree) (x : core.Cell) (st : c.State) → cell_asked s e st.memory ≡ Ok x → v.holds_in x ≡ true → run_all s (choose e (stmt_trees xs) (stmt_trees ys) ∷ rest) st ≡ run_all s (xs ++ rest) st
choose_yes s e xs ys rest x st is first = ap (choosing s xs ys rest st) is ∙ ap (chosen_by s xs ys rest st) first ∙ sym (run_append s xs rest st)

pub choose_no : (s : Scene) (e : t.ExprTree) (xs ys rest : List StmtTree) (x : core.Cell) (st : c.State) → cell_asked s e st.memory ≡ Ok x → v.holds_in x ≡ false → run_all s (choose e (stmt_trees xs) (stmt_trees ys) ∷ rest) st ≡ run_all s (ys ++ rest) st
choose_no s e xs ys rest x st is second = ap (choosing s xs ys rest st) is ∙ ap (chosen_by s xs ys rest st) second ∙ sym (run_append s ys rest st)

pub choose_stops : (s : Scene) (e : t.ExprTree) (xs ys rest : List StmtTree) (stop : Stop) (st : c.State) → cell_asked s e st.memory ≡ Err stop → Stops stop st (run_all s (choose e (stmt_trees xs) (stmt_trees ys) ∷ rest) st)
choose_stops s e xs ys rest stop st is = stops_at stop st (run_all s (choose e (stmt_trees xs) (stmt_trees ys) ∷ rest) st) (ap (choosing s xs ys rest st) is)

-- the same numbers and pointers hold
pub holds_same : (y : Cell) → v.holds_in (core_cell y) ≡ sv.holds_in y
holds_same (number z) = refl
holds_same null = refl
holds_same (pointer block base count index) = refl

scalar_cell : (ty : Option VarTy) (w : Value) (x : core.Cell) → IsTrue (is_scalar ty) → SameCell ty w x → v.holds_in x ≡ is_true w
scalar_cell None w x h same = false_not_true h
scalar_cell (Some ty) w x h same = ap v.holds_in same ∙ holds_same (cell_of w)

-- what follows a test
pub tested_then : {B : Type 0} (laws : Laws) (s : Scene) (R : B → State → c.Flow → c.State → Type 0) (a : ExprTree) (n : ℕ) (first second : State → Outcome B) (xs ys rest : List StmtTree) (st : State) (st' : c.State) → SceneFits s → Found s is_scalar a →
    length s.names.vars ≤ n → HasTemps s.core_variables n (value_in (scope_of s) a n).temps → Alike s st st' →
    ((st1 : State) (st1' : c.State) → After s (below n) st'.memory st1 st1' → Same R (first st1) (run_all s (xs ++ rest) st1')) →
    ((st1 : State) (st1' : c.State) → After s (below n) st'.memory st1 st1' → Same R (second st1) (run_all s (ys ++ rest) st1')) →
    Same R (value_of a (context_of s) st >>= λ w. if is_true w then first else second) (run_all s ((value_in (scope_of s) a n).stmts ++ choose (value_in (scope_of s) a n).value (stmt_trees xs) (stmt_trees ys) ∷ rest) st')
tested_then {B} laws s R a n first second xs ys rest st st' fits is from temps al on_yes on_no =
    value_then laws s R a n (λ w. if is_true w then first else second) (choose (value_in (scope_of s) a n).value (stmt_trees xs) (stmt_trees ys) ∷ rest) st st' fits is.typed (scalar_plain (ty_of a) is.passes) from temps al
    (λ stop st1' e. choose_stops s (value_in (scope_of s) a n).value xs ys rest stop st1' e)
    (λ w st1 x st1' g e. go (is_true w) st1 x st1' g.after e (scalar_cell (ty_of a) w x is.passes g.facts.same))
  where
    go : (b : Bool) (st1 : State) (x : core.Cell) (st1' : c.State) → After s (below n) st'.memory st1 st1' → cell_asked s (value_in (scope_of s) a n).value st1'.memory ≡ Ok x → v.holds_in x ≡ b →
        Same R ((if b then first else second) st1) (run_all s (choose (value_in (scope_of s) a n).value (stmt_trees xs) (stmt_trees ys) ∷ rest) st1')
    go true st1 x st1' g e h = subst (λ o. Same R (first st1) o) (sym (choose_yes s (value_in (scope_of s) a n).value xs ys rest x st1' e h)) (on_yes st1 st1' g)
    go false st1 x st1' g e h = subst (λ o. Same R (second st1) o) (sym (choose_no s (value_in (scope_of s) a n).value xs ys rest x st1' e h)) (on_no st1 st1' g)

-- ---- dropped values

pub dropped_passes : (laws : Laws) (s : Scene) (a : ExprTree) (n : ℕ) → SceneFits s → IsTrue (is_typed s.names a) → length s.names.vars ≤ n → HasTemps s.core_variables n (effects_in (scope_of s) a n).temps → Passes s n (value_of a (context_of s)) (effects_in (scope_of s) a n).stmts
dropped_passes laws s a n fits typed from temps st st' al = laws.effects s a n st st' fits typed from temps al

-- ---- outermost expressions, lowered

abbrev pub expr_at : List ExprTree → ExprId → ExprTree
expr_at exprs e = get_or exprs e.0 src.no_expr

abbrev pub value_at : Scene → List ExprTree → ExprId → ℕ → Lowered
value_at s exprs e n = value_in (scope_of s) (expr_at exprs e) n
