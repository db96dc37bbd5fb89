-- Calls, behind their arguments.
use Rattle.std.proofs.Common.{◌≡◌, ◌∙◌, ◌≤◌, ◌<◌, ℕ, zero, suc, ◌+◌, pos, refl, ap, sym, subst, inr, arith, Bool, true, false, Option, Some, None, List, [], ◌∷◌, ◌++◌, map, length, Result, Ok, Err}
use Rattle.std.specs.Prelude.{IsTrue, not, slice_get, slice_index_or, option_map, unwrap_or}
use Rattle.pt_base.specs.declared.int_type.IntType.{IntType}
use Rattle.pt_base.specs.declared.int_type.IntType.TheVariants as i
use Rattle.pt_base.specs.declared.span.Span.{Span}
use Rattle.pt_tree.specs.declared.signature.Param.{Param}
use Rattle.pt_tree.specs.declared.signature.Signature.{Signature}
use Rattle.runs.specs.State.{gives, trapped, spent, ◌>>=◌}
use Rattle.typed_tree.specs.declared.types.VarTy.{VarTy}
use Rattle.typed_tree.specs.declared.types.VarTy.TheVariants.{Int}
use Rattle.typed_tree.specs.WellFormedExpression.{param_type, is_main}
use Rattle.block_memory.specs.declared.cell.Cell as core
use Rattle.block_memory.specs.declared.cell.Cell.TheVariants as cell
use Rattle.block_memory.specs.declared.cell.BlockName.TheVariants.{Local}
use Rattle.block_memory.specs.Block as b
use Rattle.block_memory.specs.Blocks.{Blocks}
use Rattle.source_meaning.specs.State.{State, Outcome}
use Rattle.source_meaning.specs.Values.{Value, holds, cell_of}
use Rattle.source_soundness.specs.Worlds.{ValueFits}
use Rattle.source_soundness.specs.Sizes.{ValueSized, ArgumentsSized}
use Rattle.source_soundness.specs.Laws.{ArgumentsFit}
use Rattle.pt_core.specs.CodeTree as t
use Rattle.pt_core.specs.CodeTree.{StmtTree, call, expr_trees}
use Rattle.pt_core.specs.Values as v
use Rattle.pt_core.specs.Values.{Stop, ◌>>?◌, written}
use Rattle.pt_core.specs.Statements as c
use Rattle.pt_core.specs.Statements.{Flow, goes_on, after_flow, evaluated, kept, kept_in, with_blocks}
use Rattle.lowering.specs.Lowered.{past, temp}
use Rattle.c_lower_law.proofs.Relations.{core_cell, Scene, world_of, frame_of, sizes_in, Kept, Alike, Same, After, below, all}
use Rattle.c_lower_law.proofs.Expressions.{run_all, cell_asked, cells_asked, SameAsked, SameCell, SameCells, SameResult, Gives, IsValue, AreArguments, CallsAlike, SceneFits}
use Rattle.c_lower_law.proofs.Runs.{run_append, ok_then, err_as, spent_as, Stops, stops_at, asked_run, asked_asked, asked_else}
use Rattle.c_lower_law.proofs.Memories.{kept_then, kept_less, kept_same}
use Rattle.c_lower_law.proofs.Held.{own_length, Holds, with_temp, temp_given, temp_read, joined, both, both_ok, asked_made, asked_as, IsNext, Both, pair_of}
use Rattle.c_lower_law.proofs.Places.{pair_then}
use Rattle.c_lower_law.proofs.Values.{near, GivesNear, IsNear, same_cell}

-- ---- arguments

-- one argument, and the others
values_pair : (s : Scene) (e1 : t.ExprTree) (es : List t.ExprTree) (blocks : Blocks) → cells_asked s (e1 ∷ es) blocks ≡ (both (cell_asked s e1) (cells_asked s es) blocks >>? λ q. Ok (q.0 ∷ q.1))
values_pair s e1 es blocks = go (cell_asked s e1 blocks) (cells_asked s es blocks)
  where
    go : (r1 : Result core.Cell Stop) (r2 : Result (List core.Cell) Stop) → (r1 >>? λ x. r2 >>? λ xs. Ok (x ∷ xs)) ≡ (joined r1 r2 >>? λ q. Ok (q.0 ∷ q.1))
    go (Ok x) (Ok xs) = refl
    go (Ok x) (Err stop) = refl
    go (Err stop) r2 = refl

pub arguments_and : (s : Scene) (n : ℕ) (p : Param) (ps : List Param) (ity : Option VarTy) (first : State → Outcome Value) (rest : State → Outcome (List Value)) (stmts : List StmtTree) (e1 : t.ExprTree) (es : List t.ExprTree) → ity ≡ Some (param_type p.kind) →
    IsNext s (Both (IsValue s ity) (AreArguments s ps)) n (pair_of first rest) stmts (both (cell_asked s e1) (cells_asked s es)) →
    IsNext s (AreArguments s (p ∷ ps)) n (λ st. first st >>= λ w st1. rest st1 >>= λ ws. gives (w ∷ ws)) stmts (cells_asked s (e1 ∷ es))
arguments_and s n p ps ity first rest stmts e1 es is h st st' al =
    subst (λ o. SameAsked (Kept s (below n) st'.memory) (Gives s (below n) st'.memory (AreArguments s (p ∷ ps))) (cells_asked s (e1 ∷ es)) o (run_all s stmts st')) (pair_then (first st) rest (λ w ws. gives (w ∷ ws)))
    (asked_as (Kept s (below n) st'.memory) (Gives s (below n) st'.memory (AreArguments s (p ∷ ps))) (λ blocks. both (cell_asked s e1) (cells_asked s es) blocks >>? λ q. Ok (q.0 ∷ q.1)) (cells_asked s (e1 ∷ es)) (pair_of first rest st >>= λ q. gives (q.0 ∷ q.1)) (run_all s stmts st')
    (asked_made (Kept s (below n) st'.memory) (Gives s (below n) st'.memory (Both (IsValue s ity) (AreArguments s ps))) (Gives s (below n) st'.memory (AreArguments s (p ∷ ps))) (both (cell_asked s e1) (cells_asked s es)) (pair_of first rest st) (run_all s stmts st') (λ q. q.0 ∷ q.1) (λ q. q.0 ∷ q.1) (h st st' al)
    (λ q st1 z st1' g. record { after = g.after; facts = joined q.0 q.1 z.0 z.1 g.facts.0 g.facts.1 }))
    (values_pair s e1 es))
  where
    joined : (w : Value) (ws : List Value) (x : core.Cell) (xs : List core.Cell) → IsValue s ity w x → AreArguments s ps ws xs → AreArguments s (p ∷ ps) (w ∷ ws) (x ∷ xs)
    joined w ws x xs g k = record {
      fit = (subst (λ z. ValueFits (world_of s) z w) is g.fits, k.fit);
      sized = (subst (λ z. ValueSized (world_of s) (sizes_in s) z w) is g.sized, k.sized);
      same = ap (λ z. z ∷ xs) (same_cell ity (param_type p.kind) w x is g.same) ∙ ap (λ zs. core_cell (cell_of w) ∷ zs) k.same;
    }

pub no_arguments : (s : Scene) (n : ℕ) → IsNext s (AreArguments s []) n (λ st. gives [] st) [] (cells_asked s [])
no_arguments s n st st' al = (refl, kept_same s (below n) st'.memory, record { after = record { alike = al; kept = kept_same s (below n) st'.memory }; facts = record { fit = tt; sized = tt; same = refl } })

-- ---- calls

abbrev calling : Scene → ℕ → Option ℕ → Span → c.State → Result (List core.Cell) Stop → c.Outcome Flow
calling s f result sp st r = (evaluated r st (λ xs st1. s.core_calls (frame_of s) sp f xs st1 >>= kept_in (frame_of s) result)) >>= after_flow (λ st1. gives goes_on st1)

call_ok : (s : Scene) (f : ℕ) (es : List t.ExprTree) (result : Option ℕ) (sp : Span) (xs : List core.Cell) (st : c.State) → cells_asked s es st.memory ≡ Ok xs →
    run_all s (call f (expr_trees es) result sp ∷ []) st ≡ ((s.core_calls (frame_of s) sp f xs st >>= kept_in (frame_of s) result) >>= after_flow (λ st1. gives goes_on st1))
call_ok s f es result sp xs st is = ap (calling s f result sp st) is

call_stops : (s : Scene) (f : ℕ) (es : List t.ExprTree) (result : Option ℕ) (sp : Span) (stop : Stop) (st : c.State) → cells_asked s es st.memory ≡ Err stop → Stops stop st (run_all s (call f (expr_trees es) result sp ∷ []) st)
call_stops s f es result sp stop st is = stops_at stop st (run_all s (call f (expr_trees es) result sp ∷ []) st) (ap (calling s f result sp st) is)

-- a call whose result is dropped
dropped_result : (s : Scene) (n : ℕ) (before at : Blocks) (result : Option IntType) (o : Outcome Value) (o' : c.Outcome (Option core.Cell)) → Kept s (below n) before at → Same (Gives s all at (SameResult result)) o o' →
    Same (GivesNear s (below n) before (λ w flow. flow ≡ goes_on)) o ((o' >>= kept_in (frame_of s) None) >>= after_flow (λ st1. gives goes_on st1))
dropped_result s n before at result (gives w st) (gives x st') k q = record { near = near s st st' q.after.alike; kept = kept_then s (below n) all (below n) before at st'.memory k q.after.kept (λ j h. h) (λ j h. tt); facts = refl }
dropped_result s n before at result (gives w st) (trapped trap span st') k q = q
dropped_result s n before at result (gives w st) (spent st') k q = q
dropped_result s n before at result (trapped trap span st) (gives x st') k q = q
dropped_result s n before at result (trapped trap span st) (trapped trap1 span1 st') k q = q
dropped_result s n before at result (trapped trap span st) (spent st') k q = q
dropped_result s n before at result (spent st) (gives x st') k q = q
dropped_result s n before at result (spent st) (trapped trap span st') k q = q
dropped_result s n before at result (spent st) (spent st') k q = q

pub call_dropped : (s : Scene) (n f : ℕ) (signature : Signature) (sp : Span) (args : State → Outcome (List Value)) (stmts : List StmtTree) (es : List t.ExprTree) → SceneFits s → slice_get s.names.signatures f ≡ Some signature → IsTrue (not (is_main signature)) →
    IsNext s (AreArguments s signature.params) n args stmts (cells_asked s es) → (st : State) (st' : c.State) → Alike s st st' →
    Same (GivesNear s (below n) st'.memory (λ w flow. flow ≡ goes_on)) (args st >>= s.calls s.frame sp f) (run_all s (stmts ++ call f (expr_trees es) None sp ∷ []) st')
call_dropped s n f signature sp args stmts es fits there not_main h st st' al =
    subst (λ o. Same (GivesNear s (below n) st'.memory (λ w flow. flow ≡ goes_on)) (args st >>= s.calls s.frame sp f) o) (sym (run_append s stmts (call f (expr_trees es) None sp ∷ []) st'))
    (asked_run (Kept s (below n) st'.memory) (Gives s (below n) st'.memory (AreArguments s signature.params)) (GivesNear s (below n) st'.memory (λ w flow. flow ≡ goes_on)) (cells_asked s es) (args st) (run_all s stmts st') (s.calls s.frame sp f) (run_all s (call f (expr_trees es) None sp ∷ []))
    (h st st' al) (λ stop st1' k no. call_stops s f es None sp stop st1' no)
    (λ ws st1 xs st1' q is.
    subst (λ o. Same (GivesNear s (below n) st'.memory (λ w flow. flow ≡ goes_on)) (s.calls s.frame sp f ws st1) o) (sym (call_ok s f es None sp xs st1' is))
    (dropped_result s n st'.memory st1'.memory signature.result (s.calls s.frame sp f ws st1) (s.core_calls (frame_of s) sp f xs st1') q.after.kept
    (fits.calls sp f ws xs st1 st1' signature there not_main q.facts.fit q.facts.sized q.facts.same q.after.alike))))

-- a call whose result is held in temporary k
kept_result : (k : ℕ) (depth : ℕ) (x : Option core.Cell) (blocks : Blocks) → kept depth (Some k) x blocks ≡ written blocks (Local depth k) 0 (unwrap_or x (cell.Int (pos 0)))
kept_result k depth (Some x) blocks = refl
kept_result k depth None blocks = refl

held_result : (s : Scene) (n k : ℕ) (before at : Blocks) (ty : VarTy) (u : IntType) (o : Outcome Value) (o' : c.Outcome (Option core.Cell)) → SceneFits s → length s.names.vars ≤ k → n ≤ k → slice_get s.core_variables k ≡ Some ty → Kept s (below n) before at → Same (Gives s all at (SameResult (Some u))) o o' →
    SameAsked (Kept s (below n) before) (GivesNear s (below n) before (SameCell (Some (Int u)))) (cell_asked s (temp k)) o ((o' >>= kept_in (frame_of s) (Some k)) >>= after_flow (λ st1. gives goes_on st1))
held_result s n k before at ty u (gives w st) (gives x st') fits far le there kb q =
    subst (λ z. SameAsked (Kept s (below n) before) (GivesNear s (below n) before (SameCell (Some (Int u)))) (cell_asked s (temp k)) (gives w st) (gives goes_on (with_blocks z st'))) (sym (kept_result k s.frame.depth x st'.memory))
    (holding_it (temp_given s k (unwrap_or x (cell.Int (pos 0))) ty st st' fits far there q.after.alike))
  where
    holding_it : Holds s k (unwrap_or x (cell.Int (pos 0))) st'.memory st (with_temp s k (unwrap_or x (cell.Int (pos 0))) st') →
        SameAsked (Kept s (below n) before) (GivesNear s (below n) before (SameCell (Some (Int u)))) (cell_asked s (temp k)) (gives w st) (gives goes_on (with_temp s k (unwrap_or x (cell.Int (pos 0))) st'))
    holding_it h =
        let all_kept : Kept s (below n) before (with_temp s k (unwrap_or x (cell.Int (pos 0))) st').memory =
        kept_then s (below n) (below k) (below n) before st'.memory (with_temp s k (unwrap_or x (cell.Int (pos 0))) st').memory (kept_then s (below n) all (below n) before at st'.memory kb q.after.kept (λ j g. g) (λ j g. tt)) h.kept (λ j g. g) (λ j g. omega (arith, le, g)) in (
          refl,
          all_kept,
          subst (λ r. Same (GivesNear s (below n) before (SameCell (Some (Int u)))) (gives w st) (evaluated r (with_temp s k (unwrap_or x (cell.Int (pos 0))) st') (λ z. gives z)))
              (sym (temp_read s k (unwrap_or x (cell.Int (pos 0))) (with_temp s k (unwrap_or x (cell.Int (pos 0))) st').memory h.cell))
              (record { near = near s st (with_temp s k (unwrap_or x (cell.Int (pos 0))) st') h.alike; kept = all_kept; facts = q.facts.3 ∙ ap (λ z. core_cell (cell_of z)) (sym q.facts.1) }),
        )
held_result s n k before at ty u (gives w st) (trapped trap span st') fits far le there kb q = absurd q
held_result s n k before at ty u (gives w st) (spent st') fits far le there kb q = absurd q
held_result s n k before at ty u (trapped trap span st) (gives x st') fits far le there kb q = absurd q
held_result s n k before at ty u (trapped trap span st) (trapped trap1 span1 st') fits far le there kb q = q
held_result s n k before at ty u (trapped trap span st) (spent st') fits far le there kb q = absurd q
held_result s n k before at ty u (spent st) (gives x st') fits far le there kb q = absurd q
held_result s n k before at ty u (spent st) (trapped trap span st') fits far le there kb q = absurd q
held_result s n k before at ty u (spent st) (spent st') fits far le there kb q = q

pub call_held : (s : Scene) (n k f : ℕ) (ty : VarTy) (signature : Signature) (u : IntType) (sp : Span) (args : State → Outcome (List Value)) (stmts : List StmtTree) (es : List t.ExprTree) → SceneFits s → length s.names.vars ≤ k → n ≤ k → slice_get s.core_variables k ≡ Some ty →
    slice_get s.names.signatures f ≡ Some signature → IsTrue (not (is_main signature)) → signature.result ≡ Some u → IsNext s (AreArguments s signature.params) n args stmts (cells_asked s es) →
    IsNear s (SameCell (Some (Int u))) n (λ st. args st >>= s.calls s.frame sp f) (stmts ++ call f (expr_trees es) (Some k) sp ∷ []) (cell_asked s (temp k))
call_held s n k f ty signature u sp args stmts es fits far le room there not_main gives_u h st st' al =
    subst (λ o. SameAsked (Kept s (below n) st'.memory) (GivesNear s (below n) st'.memory (SameCell (Some (Int u)))) (cell_asked s (temp k)) (args st >>= s.calls s.frame sp f) o) (sym (run_append s stmts (call f (expr_trees es) (Some k) sp ∷ []) st'))
    (asked_asked (Kept s (below n) st'.memory) (Kept s (below n) st'.memory) (Gives s (below n) st'.memory (AreArguments s signature.params)) (GivesNear s (below n) st'.memory (SameCell (Some (Int u)))) (cells_asked s es) (cell_asked s (temp k)) (args st) (run_all s stmts st') (s.calls s.frame sp f) (run_all s (call f (expr_trees es) (Some k) sp ∷ []))
    (h st st' al) (λ stop st1' g no. call_stops s f es (Some k) sp stop st1' no)
    (λ ws st1 xs st1' q is.
    subst (λ o. SameAsked (Kept s (below n) st'.memory) (GivesNear s (below n) st'.memory (SameCell (Some (Int u)))) (cell_asked s (temp k)) (s.calls s.frame sp f ws st1) o) (sym (call_ok s f es (Some k) sp xs st1' is))
    (held_result s n k st'.memory st1'.memory ty u (s.calls s.frame sp f ws st1) (s.core_calls (frame_of s) sp f xs st1') fits far le room q.after.kept
    (subst (λ z. Same (Gives s all st1'.memory (SameResult z)) (s.calls s.frame sp f ws st1) (s.core_calls (frame_of s) sp f xs st1')) gives_u
    (fits.calls sp f ws xs st1 st1' signature there not_main q.facts.fit q.facts.sized q.facts.same q.after.alike)))))
