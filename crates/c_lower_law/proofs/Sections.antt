-- The sections of a switch, and its end.
use Rattle.std.proofs.Common.{◌≡◌, ◌∙◌, ◌≤◌, ◌<◌, ◌⊎◌, inl, inr, ℕ, zero, suc, ◌+◌, ◌^◌, ℤ, pos, nat_eq, refl, ap, sym, subst, arith, Bool, true, false, Option, Some, None, List, [], ◌∷◌, ◌++◌, length, append_assoc, Result, Ok, Err, if◌then◌else◌}
use Rattle.std.specs.Prelude.{IsTrue, ◌&&◌, not, int_le, slice_get, slice_set, slice_index_or}
use Rattle.std.specs.List.{list_all}
use Rattle.std.proofs.lemmas.Bool.Decides.{nat_tests}
use Rattle.std.proofs.lemmas.Int.{ints}
use Rattle.pt_base.specs.declared.int_type.IntType.{IntType}
use Rattle.pt_base.specs.declared.int_type.IntType.TheVariants as i
use Rattle.pt_base.specs.declared.span.Span.{Span}
use Rattle.pt_base.proofs.Numbers.{nat_eq_same}
use Rattle.pt_int.specs.declared.operator.BinOp.TheVariants.{Le}
use Rattle.pt_int.specs.Conversion.{conv}
use Rattle.pt_int.specs.Operator.{truth}
use Rattle.runs.specs.State.{gives, trapped, spent, ◌>>=◌, take_turn}
use Rattle.typed_tree.specs.declared.types.VarTy.{VarTy}
use Rattle.typed_tree.specs.declared.types.VarTy.TheVariants as ty
use Rattle.typed_tree.specs.ExpressionTree.{ExprTree, typed}
use Rattle.typed_tree.specs.StatementTree.{SectionTrees}
use Rattle.typed_tree.specs.WellFormedExpression.{ty_of}
use Rattle.typed_tree.specs.WellFormedStatement.{promotes_to, labels_of, label_fits, labels_distinct, labels_fit}
use Rattle.block_memory.specs.declared.cell.Cell as core
use Rattle.block_memory.specs.declared.cell.Cell.TheVariants.{Int}
use Rattle.block_memory.specs.declared.cell.BlockName.TheVariants.{Local}
use Rattle.block_memory.specs.Block as b
use Rattle.block_memory.specs.Block.{with_cell}
use Rattle.block_memory.specs.Blocks as bs
use Rattle.block_memory.specs.Blocks.{Blocks}
use Rattle.source_meaning.specs.Memory as mem
use Rattle.source_meaning.specs.State.{State, Outcome}
use Rattle.source_meaning.specs.Values.{Value, holds, whole, nothing, number_of, cell_of}
use Rattle.source_meaning.specs.Expressions.{value_of, type_of}
use Rattle.source_meaning.specs.Statements as src
use Rattle.source_meaning.specs.Statements.{count_of, past_switch}
use Rattle.source_soundness.specs.Worlds.{IsInteger}
use Rattle.pt_core.specs.CodeTree as t
use Rattle.pt_core.specs.CodeTree.{StmtTree, binary, choose, repeat, break_out, stmt_trees}
use Rattle.pt_core.specs.Values as v
use Rattle.pt_core.specs.Values.{Stop, written}
use Rattle.pt_core.specs.Statements as c
use Rattle.pt_core.specs.Statements.{goes_on, broke, continues, returned, after_flow, do_all, with_blocks}
use Rattle.lowering.specs.Lowered.{Temp, Effects, Lowered, past, temp, hold, int, counting}
use Rattle.lowering.specs.Operators.{as_int}
use Rattle.lowering.specs.Expressions.{is_struct, value_in}
use Rattle.lowering.specs.Statements as l
use Rattle.lowering.specs.Statements.{Onward, nowhere, to_head, past_flag, number, onwards, inside, behind_switch, cases_from, otherwise_of, switch_temps, switched}
use Rattle.c_lower_law.proofs.Relations.{Scene, core_cell, context_of, frame_of, scope_of, HasTemps, Kept, Alike, Same, After, below, all}
use Rattle.c_lower_law.proofs.Expressions.{run_all, cell_asked, Gives, IsValue, SceneFits, SameResult}
use Rattle.c_lower_law.proofs.Statements.{is_flag, but_flag, FlagIs, Continues, SameFlow, GivesFlow}
use Rattle.c_lower_law.proofs.Runs.{Stops, same_bind, same_weaken, run_append}
use Rattle.c_lower_law.proofs.Memories.{put_there, put_apart, kept_then, kept_less, kept_same, alike_temp}
use Rattle.c_lower_law.proofs.Held.{own_length, past_append, temps_first, temps_rest, Holds, with_temp, temp_given, temp_read, hold_then, hold_then_stops}
use Rattle.c_lower_law.proofs.Flows.{turn_same, alike_left, temp_kept, flag_kept, flag_up, Runs, RunsWhere, flow_up, runs_then_where}
use Rattle.c_lower_law.proofs.Outermost.{Laws, Found, value_then, choose_yes, choose_no}
use Rattle.c_lower_law.proofs.Switches.{le_asked, le_tells, HeldAs, as_held, picked, chosen_is, chosen_small, Chosen, cases_run}

-- ---- the flag is set

kept_but : (s : Scene) (n k : ℕ) (blocks : Blocks) (x : b.Block) → Kept s (but_flag (past_flag k) n) blocks (bs.put blocks (Local s.frame.depth k) x)
kept_but s n k blocks x d j far own = put_apart blocks (Local s.frame.depth k) (Local d j) x (go (nat_eq s.frame.depth d) (nat_eq k j) refl refl)
  where
    none : s.frame.depth ≡ d → nat_eq k j ≡ true → (d < s.frame.depth) ⊎ ((d ≡ s.frame.depth) × but_flag (past_flag k) n j) → ⊥
    none p q (inl h) = omega (arith, p, h)
    none p q (inr h) = clash (sym h.1.1 ∙ q)
      where
        clash : false ≡ true → ⊥
        clash e = cc

    go : (a u : Bool) → nat_eq s.frame.depth d ≡ a → nat_eq k j ≡ u → (a && u) ≡ false
    go true true p q = absurd (none (nat_eq_same s.frame.depth d p) q own)
    go true false p q = refl
    go false u p q = refl

-- what `continue` does where it may stand
abbrev pub Stands : Onward → Type 0
Stands nowhere = ⊥
Stands to_head = Unit {0}
Stands (past_flag k) = Unit {0}

pub onwards_run : (s : Scene) (result : Option IntType) (mode : Onward) (n : ℕ) → SceneFits s → Stands mode → Runs s result mode n (λ st. gives src.continues st) (onwards mode)
onwards_run s result nowhere n fits stands st st' flag al = absurd stands
onwards_run s result to_head n fits stands st st' flag al = record { after = record { alike = al; kept = kept_same s (but_flag to_head n) st'.memory }; same = refl }
onwards_run s result (past_flag k) n fits stands st st' flag al =
    subst (λ o. Same (GivesFlow s result (past_flag k) n st'.memory) (gives src.continues st) o) (sym (hold_then s k (number 1) (break_out ∷ []) (Int (pos 1)) st' refl))
    (record {
      after = record { alike = alike_temp s st st' k (Int (pos 1)) (far (own_length s fits) flag.0) al; kept = kept_but s n k st'.memory (with_cell (st'.memory (Local s.frame.depth k)) 0 (Int (pos 1))) };
      same = (refl, (flag.0, flag.1, ap (λ (z : b.Block). z.cells) (put_there st'.memory (Local s.frame.depth k) (with_cell (st'.memory (Local s.frame.depth k)) 0 (Int (pos 1)))) ∙ ap (λ (cells : List core.Cell). slice_set cells 0 (Int (pos 1))) flag.2));
    })
  where
    far : length (s.frames s.frame.depth) ≡ length s.names.vars → length s.names.vars ≤ k → length (s.frames s.frame.depth) ≤ k
    far e h = omega (arith, e, h)

-- ---- sections

-- the chosen section's number is in the temporary k
abbrev pub Picks : Scene → ℕ → ℕ → Blocks → Type 0
Picks s k ch blocks = (blocks (Local s.frame.depth k)).cells ≡ Int (pos ch) ∷ []

picks_kept : (s : Scene) (mode : Onward) (n k ch : ℕ) → SceneFits s → length s.names.vars ≤ k → k < n → is_flag mode k ≡ false → (x y : Blocks) → Kept s (but_flag mode n) x y → Picks s k ch x → Picks s k ch y
picks_kept s mode n k ch fits from near other x y kept is = ap (λ (z : b.Block). z.cells) (kept s.frame.depth k (far (own_length s fits)) (inr (refl, (near, other)))) ∙ is
  where
    far : length (s.frames s.frame.depth) ≡ length s.names.vars → length (s.frames s.frame.depth) ≤ k
    far e = omega (arith, e, from)

-- a section before the chosen one
pub section_skipped : (s : Scene) (result : Option IntType) (mode : Onward) (n n' k m ch : ℕ) (sp : Span) (source : State → Outcome src.Flow) (body xs : List StmtTree) → n ≤ n' → m < ch → m ≤ 2 ^ 30 → ch ≤ 2 ^ 30 →
    RunsWhere (Picks s k ch) s result mode n' source xs → RunsWhere (Picks s k ch) s result mode n source (choose (binary Le i.Int (temp k) (number m) sp) (stmt_trees body) (stmt_trees []) ∷ xs)
section_skipped s result mode n n' k m ch sp source body xs le less small small' one st st' flag picks al =
    subst (λ o. Same (GivesFlow s result mode n st'.memory) (source st) o) (sym (choose_no s (binary Le i.Int (temp k) (number m) sp) body [] xs (Int (truth (int_le (conv i.Int (pos ch)) (conv i.Int (pos m))))) st' (le_asked s k m ch sp st'.memory picks) (le_tells ch m false small' small (more ch m less))))
    (same_weaken (GivesFlow s result mode n' st'.memory) (GivesFlow s result mode n st'.memory) (source st) (run_all s xs st') (one st st' (flag_up s mode n n' 0 st'.memory le flag) picks al)
    (λ flow st1 flow' st1' g. flow_up s result mode n n' st'.memory st'.memory flow st1 flow' st1' le flag (kept_same s (but_flag mode n) st'.memory) g))
  where
    more : (a c : ℕ) → c < a → int_le (pos a) (pos c) ≡ false
    more a c h = grind (arith, nat_tests, ints)

-- the chosen one, or one behind it
pub section_run : (s : Scene) (result : Option IntType) (mode : Onward) (n n' k m ch : ℕ) (sp : Span) (first second : State → Outcome src.Flow) (body xs : List StmtTree) → SceneFits s → length s.names.vars ≤ k → k < n → is_flag mode k ≡ false → n ≤ n' → ch ≤ m → m ≤ 2 ^ 30 → ch ≤ 2 ^ 30 →
    Runs s result mode n first body → RunsWhere (Picks s k ch) s result mode n' second xs →
    RunsWhere (Picks s k ch) s result mode n (λ st. first st >>= src.after_flow second) (choose (binary Le i.Int (temp k) (number m) sp) (stmt_trees body) (stmt_trees []) ∷ xs)
section_run s result mode n n' k m ch sp first second body xs fits from near other le least small small' one two st st' flag picks al =
    subst (λ o. Same (GivesFlow s result mode n st'.memory) (first st >>= src.after_flow second) o) (sym (choose_yes s (binary Le i.Int (temp k) (number m) sp) body [] xs (Int (truth (int_le (conv i.Int (pos ch)) (conv i.Int (pos m))))) st' (le_asked s k m ch sp st'.memory picks) (le_tells ch m true small' small (more ch m least))))
    (runs_then_where (Picks s k ch) s result mode n n' first second body xs le (picks_kept s mode n k ch fits from near other) one two st st' flag picks al)
  where
    more : (a c : ℕ) → a ≤ c → int_le (pos a) (pos c) ≡ true
    more a c h = grind (arith, nat_tests, ints)
