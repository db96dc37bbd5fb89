-- Switches whole: the value, the sections in a loop that takes one turn, and what comes behind.
use Rattle.std.proofs.Common.{◌≡◌, ◌∙◌, ◌≤◌, ◌<◌, ◌⊎◌, inl, inr, ℕ, zero, suc, ◌+◌, ◌^◌, ℤ, pos, nat_eq, refl, ap, sym, subst, arith, Bool, true, false, Option, Some, None, List, [], ◌∷◌, ◌++◌, length, append_assoc, Result, Ok, Err, if◌then◌else◌}
use Rattle.std.specs.Prelude.{IsTrue, ◌&&◌, not, int_le, slice_get, slice_set, slice_index_or}
use Rattle.std.specs.List.{list_all}
use Rattle.std.proofs.lemmas.Bool.Decides.{nat_tests}
use Rattle.std.proofs.lemmas.Int.{ints}
use Rattle.pt_base.specs.declared.int_type.IntType.{IntType}
use Rattle.pt_base.specs.declared.int_type.IntType.TheVariants as i
use Rattle.pt_base.specs.declared.span.Span.{Span}
use Rattle.pt_base.proofs.Booleans.{both_hold_first as left, both_hold_second, false_not_true}
use Rattle.pt_base.proofs.Lists.{append_nil}
use Rattle.pt_int.specs.declared.operator.BinOp.TheVariants.{Le}
use Rattle.pt_int.specs.Conversion.{conv}
use Rattle.pt_int.specs.Operator.{truth}
use Rattle.runs.specs.State.{gives, trapped, spent, ◌>>=◌, take_turn}
use Rattle.typed_tree.specs.declared.types.VarTy.{VarTy}
use Rattle.typed_tree.specs.declared.types.VarTy.TheVariants as ty
use Rattle.typed_tree.specs.ExpressionTree.{ExprTree, typed}
use Rattle.typed_tree.specs.StatementTree.{SectionTrees}
use Rattle.typed_tree.specs.TypeTests.{same_int}
use Rattle.typed_tree.specs.WellFormedExpression.{ty_of}
use Rattle.typed_tree.specs.WellFormedStatement.{promotes_to, labels_of, label_fits, labels_distinct, labels_fit}
use Rattle.block_memory.specs.declared.cell.Cell as core
use Rattle.block_memory.specs.declared.cell.Cell.TheVariants.{Int}
use Rattle.block_memory.specs.declared.cell.BlockName.TheVariants.{Local}
use Rattle.block_memory.specs.Block as b
use Rattle.block_memory.specs.Block.{with_cell}
use Rattle.block_memory.specs.Blocks as bs
use Rattle.block_memory.specs.Blocks.{Blocks}
use Rattle.source_meaning.specs.Memory as mem
use Rattle.source_meaning.specs.State.{State, Outcome}
use Rattle.source_meaning.specs.Values.{Value, holds, whole, nothing, number_of, cell_of}
use Rattle.source_meaning.specs.Expressions.{value_of, type_of}
use Rattle.source_meaning.specs.Statements as src
use Rattle.source_meaning.specs.Statements.{count_of, past_switch}
use Rattle.source_soundness.specs.Worlds.{IsInteger}
use Rattle.pt_core.specs.CodeTree as t
use Rattle.pt_core.specs.CodeTree.{StmtTree, binary, choose, repeat, break_out, stmt_trees}
use Rattle.pt_core.specs.Types as types
use Rattle.pt_core.specs.Values as v
use Rattle.pt_core.specs.Values.{Stop, ◌>>?◌, converted, is_type}
use Rattle.pt_core.specs.Statements as c
use Rattle.pt_core.specs.Statements.{goes_on, broke, continues, returned, after_flow, do_all, with_blocks}
use Rattle.lowering.specs.Lowered.{Temp, Effects, Lowered, past, temp, hold, int, counting}
use Rattle.lowering.specs.Operators.{as_int}
use Rattle.lowering.specs.Expressions.{is_struct, value_in}
use Rattle.lowering.specs.Statements as l
use Rattle.lowering.specs.Statements.{Onward, nowhere, to_head, past_flag, number, onwards, inside, behind_switch, cases_from, otherwise_of, switch_temps, switched}
use Rattle.c_lower_law.proofs.Relations.{Scene, core_cell, context_of, frame_of, scope_of, HasTemps, Kept, Alike, Same, After, below, all}
use Rattle.c_lower_law.proofs.Expressions.{run_all, cell_asked, Gives, IsValue, SceneFits, SameResult}
use Rattle.c_lower_law.proofs.Statements.{is_flag, but_flag, FlagIs, Continues, SameFlow, GivesFlow}
use Rattle.c_lower_law.proofs.Runs.{Stops, same_bind, same_weaken, run_append}
use Rattle.c_lower_law.proofs.Memories.{put_there, put_apart, kept_then, kept_less, kept_same, alike_temp}
use Rattle.c_lower_law.proofs.Held.{own_length, past_append, temps_first, temps_rest, Holds, with_temp, temp_given, temp_read, hold_then, hold_then_stops}
use Rattle.c_lower_law.proofs.Flows.{turn_same, alike_left, temp_kept, flag_kept, flag_up, Runs, RunsWhere, flow_up, runs_then_where}
use Rattle.c_lower_law.proofs.Outermost.{Laws, Found, value_then, choose_yes, choose_no}
use Rattle.c_lower_law.proofs.Sections.{Stands, onwards_run, Picks}
use Rattle.c_lower_law.proofs.Switches.{le_asked, le_tells, HeldAs, as_held, picked, chosen_is, chosen_small, Chosen, cases_run}

-- ---- the loop

abbrev before_it : ℕ → ℕ
before_it zero = zero
before_it (suc k) = k

-- a loop's first turn, and what follows the loop
first_turn : (k : ℕ) (round : c.State → c.Outcome c.Flow) (rest : c.State → c.Outcome c.Flow) (st : c.State) → k ≡ st.left →
    (c.looped k round st >>= after_flow rest) ≡ take_turn k st (λ st1. (round st1 >>= c.after_round (c.looped (before_it k) round)) >>= after_flow rest)
first_turn zero round rest st e = refl
first_turn (suc k) round rest st e = ap (λ j. take_turn j st (λ st1. round st1 >>= c.after_round (c.looped k round)) >>= after_flow rest) (sym e)

-- what follows is one part
joined : (o : c.Outcome c.Flow) (f g h : c.State → c.Outcome c.Flow) → (((o >>= after_flow f) >>= c.after_round g) >>= after_flow h) ≡ (o >>= λ flow st. (after_flow f flow st >>= c.after_round g) >>= after_flow h)
joined (gives flow st) f g h = refl
joined (trapped trap span st) f g h = refl
joined (spent st) f g h = refl

-- ---- behind the loop

behind_none : (s : Scene) (mode : Onward) (j n : ℕ) (st : c.State) → FlagIs s (inside mode j) n 0 st.memory → run_all s (behind_switch mode j) st ≡ gives goes_on st
behind_none s nowhere j n st flag = refl
behind_none s to_head j n st flag = choose_no s (temp j) (onwards to_head) [] [] (Int (pos 0)) st (temp_read s j (Int (pos 0)) st.memory flag.2) refl
behind_none s (past_flag k) j n st flag = choose_no s (temp j) (onwards (past_flag k)) [] [] (Int (pos 0)) st (temp_read s j (Int (pos 0)) st.memory flag.2) refl

behind_set : (s : Scene) (mode : Onward) (j : ℕ) (st : c.State) → Stands mode → (st.memory (Local s.frame.depth j)).cells ≡ Int (pos 1) ∷ [] → run_all s (behind_switch mode j) st ≡ run_all s (onwards mode) st
behind_set s nowhere j st stands flag = absurd stands
behind_set s to_head j st stands flag = choose_yes s (temp j) (onwards to_head) [] [] (Int (pos 1)) st (temp_read s j (Int (pos 1)) st.memory flag) refl ∙ ap (λ xs. run_all s xs st) (append_nil (onwards to_head))
behind_set s (past_flag k) j st stands flag = choose_yes s (temp j) (onwards (past_flag k)) [] [] (Int (pos 1)) st (temp_read s j (Int (pos 1)) st.memory flag) refl ∙ ap (λ xs. run_all s xs st) (append_nil (onwards (past_flag k)))

-- the switch's own flag is no temporary before it
pub other_flag : (mode : Onward) (n j i : ℕ) → n ≤ j → i < n → is_flag (inside mode j) i ≡ false
other_flag nowhere n j i le less = refl
other_flag to_head n j i le less = grind (arith, nat_tests)
other_flag (past_flag k) n j i le less = grind (arith, nat_tests)

abbrev Ended : c.Flow → c.State → (c.State → c.Outcome c.Flow) → (c.State → c.Outcome c.Flow) → (c.State → c.Outcome c.Flow) → c.Outcome c.Flow
Ended flow st f g h = (after_flow f flow st >>= c.after_round g) >>= after_flow h

switch_ends : (s : Scene) (result : Option IntType) (mode : Onward) (n k ch : ℕ) (sp : Span) (source : State → Outcome src.Flow) (body : List StmtTree) → SceneFits s → n ≤ k → RunsWhere (Picks s (k + 1) ch) s result (inside mode (k + 2)) (k + 3) source body →
    (st : State) (st' : c.State) → FlagIs s mode n 0 st'.memory → FlagIs s (inside mode (k + 2)) (k + 3) 0 st'.memory → Picks s (k + 1) ch st'.memory → Alike s st st' →
    Same (GivesFlow s result mode n st'.memory) (take_turn st.left st (λ st1. source st1 >>= past_switch)) (run_all s (repeat (stmt_trees (body ++ break_out ∷ [])) sp ∷ behind_switch mode (k + 2)) st')
switch_ends s result mode n k ch sp source body fits le one st st' flag own picks al =
    subst (λ o. Same (GivesFlow s result mode n st'.memory) (take_turn st.left st (λ st1. source st1 >>= past_switch)) o) (sym (first_turn st'.left (run_all s (body ++ break_out ∷ [])) (run_all s (behind_switch mode (k + 2))) st' refl))
    (turn_same (GivesFlow s result mode n st'.memory) st.left st'.left st st' (λ st1. source st1 >>= past_switch) (λ st1. (run_all s (body ++ break_out ∷ []) st1 >>= c.after_round (c.looped (before_it st'.left) (run_all s (body ++ break_out ∷ [])))) >>= after_flow (run_all s (behind_switch mode (k + 2)))) al.seen.left al.seen
    (λ rest is. in_turn (c.looped (before_it st'.left) (run_all s (body ++ break_out ∷ []))) (record st { left = rest }) (record st' { left = rest }) refl (alike_left s st st' rest al)))
  where
    kept_below : (st1' : c.State) → Kept s (but_flag (inside mode (k + 2)) (k + 3)) st'.memory st1'.memory → Kept s (below n) st'.memory st1'.memory
    kept_below st1' kept = kept_less s (but_flag (inside mode (k + 2)) (k + 3)) (below n) st'.memory st1'.memory kept (λ j less. (omega (arith, le, less), other_flag mode n (k + 2) j (omega (arith, le)) less))

    after_it : (st1 : State) (st1' : c.State) → After s (but_flag (inside mode (k + 2)) (k + 3)) st'.memory st1 st1' → After s (but_flag mode n) st'.memory st1 st1'
    after_it st1 st1' h = record { alike = h.alike; kept = kept_less s (below n) (but_flag mode n) st'.memory st1'.memory (kept_below st1' h.kept) (λ j h1. h1.0) }

    flag_then : (st1' : c.State) → Kept s (but_flag (inside mode (k + 2)) (k + 3)) st'.memory st1'.memory → FlagIs s mode n 0 st1'.memory
    flag_then st1' kept = flag_kept s mode n 0 st'.memory st1'.memory fits (kept_below st1' kept) flag

    ends : (st1 : State) (st1' : c.State) → After s (but_flag (inside mode (k + 2)) (k + 3)) st'.memory st1 st1' → FlagIs s (inside mode (k + 2)) (k + 3) 0 st1'.memory → Same (GivesFlow s result mode n st'.memory) (gives src.goes_on st1) (run_all s (behind_switch mode (k + 2)) st1')
    ends st1 st1' h own1 = subst (λ o. Same (GivesFlow s result mode n st'.memory) (gives src.goes_on st1) o) (sym (behind_none s mode (k + 2) (k + 3) st1' own1)) (record { after = after_it st1 st1' h; same = flag_then st1' h.kept })

    sets : (st1 : State) (st1' : c.State) → Stands mode → After s (but_flag (inside mode (k + 2)) (k + 3)) st'.memory st1 st1' → (st1'.memory (Local s.frame.depth (k + 2))).cells ≡ Int (pos 1) ∷ [] → Same (GivesFlow s result mode n st'.memory) (gives src.continues st1) (run_all s (behind_switch mode (k + 2)) st1')
    sets st1 st1' stands h cell =
        subst (λ o. Same (GivesFlow s result mode n st'.memory) (gives src.continues st1) o) (sym (behind_set s mode (k + 2) st1' stands cell))
        (same_weaken (GivesFlow s result mode n st1'.memory) (GivesFlow s result mode n st'.memory) (gives src.continues st1) (run_all s (onwards mode) st1') (onwards_run s result mode n fits stands st1 st1' (flag_then st1' h.kept) h.alike)
        (λ flow st2 flow' st2' g. flow_up s result mode n n st'.memory st1'.memory flow st2 flow' st2' (omega arith) flag (after_it st1 st1' h).kept g))

    goes_back : (mode1 : Onward) → mode ≡ mode1 → (more : c.State → c.Outcome c.Flow) (st1 : State) (flow' : c.Flow) (st1' : c.State) → After s (but_flag (inside mode (k + 2)) (k + 3)) st'.memory st1 st1' → Continues s (inside mode1 (k + 2)) (k + 3) st1'.memory flow' →
        Same (GivesFlow s result mode n st'.memory) (gives src.continues st1) (Ended flow' st1' (run_all s (break_out ∷ [])) more (run_all s (behind_switch mode (k + 2))))
    goes_back nowhere e more st1 flow' st1' h same = absurd same
    goes_back to_head e more st1 flow' st1' h same =
        subst (λ z. Same (GivesFlow s result mode n st'.memory) (gives src.continues st1) (Ended z st1' (run_all s (break_out ∷ [])) more (run_all s (behind_switch mode (k + 2))))) (sym same.0) (sets st1 st1' (subst Stands (sym e) tt) h same.1.2)
    goes_back (past_flag i) e more st1 flow' st1' h same =
        subst (λ z. Same (GivesFlow s result mode n st'.memory) (gives src.continues st1) (Ended z st1' (run_all s (break_out ∷ [])) more (run_all s (behind_switch mode (k + 2))))) (sym same.0) (sets st1 st1' (subst Stands (sym e) tt) h same.1.2)

    go : (more : c.State → c.Outcome c.Flow) (flow : src.Flow) (st1 : State) (flow' : c.Flow) (st1' : c.State) → After s (but_flag (inside mode (k + 2)) (k + 3)) st'.memory st1 st1' → SameFlow flow flow' s result (inside mode (k + 2)) (k + 3) st1'.memory →
        Same (GivesFlow s result mode n st'.memory) (past_switch flow st1) (Ended flow' st1' (run_all s (break_out ∷ [])) more (run_all s (behind_switch mode (k + 2))))
    go more src.goes_on st1 goes_on st1' h same = ends st1 st1' h same
    go more src.goes_on st1 broke st1' h same = absurd same
    go more src.goes_on st1 continues st1' h same = absurd same
    go more src.goes_on st1 (returned x) st1' h same = absurd same
    go more src.broke st1 goes_on st1' h same = absurd same
    go more src.broke st1 broke st1' h same = ends st1 st1' h same
    go more src.broke st1 continues st1' h same = absurd same
    go more src.broke st1 (returned x) st1' h same = absurd same
    go more src.continues st1 flow' st1' h same = goes_back mode refl more st1 flow' st1' h same
    go more (src.returned w) st1 goes_on st1' h same = absurd same
    go more (src.returned w) st1 broke st1' h same = absurd same
    go more (src.returned w) st1 continues st1' h same = absurd same
    go more (src.returned w) st1 (returned x) st1' h same = record { after = after_it st1 st1' h; same = same }

    in_turn : (more : c.State → c.Outcome c.Flow) (stl : State) (stl' : c.State) → stl'.memory ≡ st'.memory → Alike s stl stl' →
        Same (GivesFlow s result mode n st'.memory) (source stl >>= past_switch) ((run_all s (body ++ break_out ∷ []) stl' >>= c.after_round more) >>= after_flow (run_all s (behind_switch mode (k + 2))))
    in_turn more stl stl' e all =
        subst (λ o. Same (GivesFlow s result mode n st'.memory) (source stl >>= past_switch) o)
        (sym (ap (λ o. (o >>= c.after_round more) >>= after_flow (run_all s (behind_switch mode (k + 2)))) (run_append s body (break_out ∷ []) stl') ∙ joined (run_all s body stl') (run_all s (break_out ∷ [])) more (run_all s (behind_switch mode (k + 2)))))
        (same_bind (GivesFlow s result (inside mode (k + 2)) (k + 3) st'.memory) (GivesFlow s result mode n st'.memory) (source stl) (run_all s body stl') past_switch (λ flow1 st1. Ended flow1 st1 (run_all s (break_out ∷ [])) more (run_all s (behind_switch mode (k + 2))))
        (subst (λ z. Same (GivesFlow s result (inside mode (k + 2)) (k + 3) z) (source stl) (run_all s body stl')) e
        (one stl stl' (subst (λ z. FlagIs s (inside mode (k + 2)) (k + 3) 0 z) (sym e) own) (subst (λ z. Picks s (k + 1) ch z) (sym e) picks) all))
        (λ flow st1 flow' st1' g. go more flow st1 flow' st1' g.after g.same))

-- ---- the whole

record FromInt (a : ExprTree) : Type 0 where
  from : IntType
  is : ty_of a ≡ Some (ty.Int from)
  has : type_of a ≡ ty.Int from

from_int : (a : ExprTree) (u : IntType) → promotes_to u (ty_of a) ≡ true → FromInt a
from_int (typed at (Some (ty.Int w)) form) u h = record { from = w; is = refl; has = refl }
from_int (typed at None form) u h = false_not_true h
from_int (typed at (Some (ty.Struct n)) form) u h = false_not_true h
from_int (typed at (Some (ty.Array elem count)) form) u h = false_not_true h
from_int (typed at (Some (ty.Pointer elem fixed)) form) u h = false_not_true h

integer_cell : (w : Value) → IsInteger w → core_cell (cell_of w) ≡ Int (number_of w)
integer_cell (holds (mem.number z)) h = refl
integer_cell (holds mem.null) h = absurd h
integer_cell (holds (mem.pointer block base count index)) h = absurd h
integer_cell (whole cells) h = absurd h
integer_cell nothing h = absurd h

as_stops : (s : Scene) (from u : IntType) (e : t.ExprTree) (stop : Stop) (blocks : Blocks) → cell_asked s e blocks ≡ Err stop → cell_asked s (as_int (ty.Int from) u e) blocks ≡ Err stop
as_stops s from u e stop blocks is = go (same_int from u)
  where
    go : (a : Bool) → cell_asked s (if a then e else t.convert u e) blocks ≡ Err stop
    go true = is
    go false = ap (λ (r : Result core.Cell Stop). r >>? λ a. Ok (converted (is_type (types.type_of (frame_of s).context e) u) u a)) is

-- what stands behind the cases, and behind the value
abbrev behind_cases : Span → ℕ → Onward → List StmtTree → List StmtTree
behind_cases sp k mode body = hold (k + 2) (number 0) ∷ repeat (stmt_trees (body ++ break_out ∷ [])) sp ∷ behind_switch mode (k + 2)

abbrev behind_default : Span → IntType → ℕ → Onward → SectionTrees → List StmtTree → List StmtTree
behind_default sp u k mode sections body = hold (k + 1) (number (otherwise_of sections)) ∷ (cases_from sp u k 0 sections ++ behind_cases sp k mode body)

abbrev behind_value : Span → IntType → VarTy → ℕ → Onward → SectionTrees → t.ExprTree → List StmtTree → List StmtTree
behind_value sp u from k mode sections e body =
    hold k (as_int from u e) ∷ behind_default sp u k mode sections body

abbrev up_to_cases : Span → IntType → VarTy → ℕ → SectionTrees → t.ExprTree → List StmtTree
up_to_cases sp u from k sections e = hold k (as_int from u e) ∷ hold (k + 1) (number (otherwise_of sections)) ∷ cases_from sp u k 0 sections

flag_there : (s : Scene) (mode : Onward) (k : ℕ) (blocks : Blocks) → length s.names.vars ≤ k → (blocks (Local s.frame.depth (k + 2))).cells ≡ Int (pos 0) ∷ [] → FlagIs s (inside mode (k + 2)) (k + 3) 0 blocks
flag_there s nowhere k blocks from is = tt
flag_there s to_head k blocks from is = (omega (arith, from), omega arith, is)
flag_there s (past_flag j) k blocks from is = (omega (arith, from), omega arith, is)

-- the flag is cleared, and the loop follows
flagged_end : (s : Scene) (result : Option IntType) (mode : Onward) (n k ch : ℕ) (sp : Span) (source : State → Outcome src.Flow) (body : List StmtTree) (before : Blocks) → SceneFits s → length s.names.vars ≤ n → n ≤ k → slice_get s.core_variables (k + 2) ≡ Some int →
    RunsWhere (Picks s (k + 1) ch) s result (inside mode (k + 2)) (k + 3) source body → FlagIs s mode n 0 before → (st : State) (st' : c.State) → After s (below n) before st st' → Picks s (k + 1) ch st'.memory →
    Same (GivesFlow s result mode n before) (take_turn st.left st (λ st1. source st1 >>= past_switch)) (run_all s (behind_cases sp k mode body) st')
flagged_end s result mode n k ch sp source body before fits from le there one flag st st' h picks =
    let given = temp_given s (k + 2) (Int (pos 0)) int st st' fits (omega (arith, from, le)) there h.alike in
    let kept : Kept s (below n) before (with_temp s (k + 2) (Int (pos 0)) st').memory =
    kept_then s (below n) (below (k + 2)) (below n) before st'.memory (with_temp s (k + 2) (Int (pos 0)) st').memory h.kept given.kept (λ j less. less) (λ j less. omega (arith, le, less)) in
    subst (λ o. Same (GivesFlow s result mode n before) (take_turn st.left st (λ st1. source st1 >>= past_switch)) o) (sym (hold_then s (k + 2) (number 0) (repeat (stmt_trees (body ++ break_out ∷ [])) sp ∷ behind_switch mode (k + 2)) (Int (pos 0)) st' refl))
    (same_weaken (GivesFlow s result mode n (with_temp s (k + 2) (Int (pos 0)) st').memory) (GivesFlow s result mode n before) (take_turn st.left st (λ st1. source st1 >>= past_switch)) (run_all s (repeat (stmt_trees (body ++ break_out ∷ [])) sp ∷ behind_switch mode (k + 2)) (with_temp s (k + 2) (Int (pos 0)) st'))
    (switch_ends s result mode n k ch sp source body fits le one st (with_temp s (k + 2) (Int (pos 0)) st') (flag_kept s mode n 0 before (with_temp s (k + 2) (Int (pos 0)) st').memory fits kept flag)
    (flag_there s mode k (with_temp s (k + 2) (Int (pos 0)) st').memory (omega (arith, le, from)) given.cell)
    (temp_kept s (k + 2) (k + 1) st'.memory (with_temp s (k + 2) (Int (pos 0)) st').memory (Int (pos ch)) fits given.kept (omega (arith, le, from)) (omega arith) picks) given.alike)
    (λ flow st1 flow' st1' g. flow_up s result mode n n before (with_temp s (k + 2) (Int (pos 0)) st').memory flow st1 flow' st1' (omega arith) flag (kept_less s (below n) (but_flag mode n) before (with_temp s (k + 2) (Int (pos 0)) st').memory kept (λ j h1. h1.0)) g))

-- the cases choose, and the rest follows
cases_end : (s : Scene) (result : Option IntType) (mode : Onward) (n k : ℕ) (y value : ℤ) (u : IntType) (sections : SectionTrees) (sp : Span) (source : State → Outcome src.Flow) (body : List StmtTree) (before : Blocks) → SceneFits s → length s.names.vars ≤ n → n ≤ k →
    slice_get s.core_variables (k + 1) ≡ Some int → slice_get s.core_variables (k + 2) ≡ Some int → labels_fit u (labels_of sections) ≡ true → conv u y ≡ value →
    RunsWhere (Picks s (k + 1) (src.chosen sections value)) s result (inside mode (k + 2)) (k + 3) source body → FlagIs s mode n 0 before → (st : State) (st' : c.State) → After s (below n) before st st' →
    (st'.memory (Local s.frame.depth k)).cells ≡ Int y ∷ [] → Picks s (k + 1) (otherwise_of sections) st'.memory →
    Same (GivesFlow s result mode n before) (take_turn st.left st (λ st1. source st1 >>= past_switch))
    (run_all s (cases_from sp u k 0 sections ++ (behind_cases sp k mode body)) st')
cases_end s result mode n k y value u sections sp source body before fits from le there1 there2 labels is one flag st st' h at_k picks =
    let done = cases_run sections s sp u k 0 (otherwise_of sections) y (behind_cases sp k mode body) st st' fits (omega (arith, from, le)) there1
    (left (list_all (label_fits u) (labels_of sections)) (labels_distinct (labels_of sections)) labels) h.alike at_k picks in
    subst (λ o. Same (GivesFlow s result mode n before) (take_turn st.left st (λ st1. source st1 >>= past_switch)) o) (sym done.runs)
    (flagged_end s result mode n k (src.chosen sections value) sp source body before fits from le there2 one flag st done.later
    (record { alike = done.alike; kept = kept_then s (below n) (below k) (below n) before st'.memory done.later.memory h.kept done.kept (λ j less. less) (λ j less. omega (arith, le, less)) })
    (done.chosen ∙ ap (λ ch. Int (pos ch) ∷ []) (ap (λ q. picked 0 sections (otherwise_of sections) q) is ∙ chosen_is sections value (both_hold_second (list_all (label_fits u) (labels_of sections)) (labels_distinct (labels_of sections)) labels))))

-- the value and the section of `default` are held, and the rest follows
value_end : (s : Scene) (result : Option IntType) (mode : Onward) (n k : ℕ) (z : ℤ) (from u : IntType) (sections : SectionTrees) (sp : Span) (source : State → Outcome src.Flow) (e : t.ExprTree) (body : List StmtTree) (before : Blocks) → SceneFits s → length s.names.vars ≤ n → n ≤ k →
    slice_get s.core_variables k ≡ Some (ty.Int u) → slice_get s.core_variables (k + 1) ≡ Some int → slice_get s.core_variables (k + 2) ≡ Some int → labels_fit u (labels_of sections) ≡ true →
    RunsWhere (Picks s (k + 1) (src.chosen sections (conv u z))) s result (inside mode (k + 2)) (k + 3) source body → FlagIs s mode n 0 before → (st : State) (st' : c.State) → After s (below n) before st st' → cell_asked s e st'.memory ≡ Ok (Int z) →
    Same (GivesFlow s result mode n before) (take_turn st.left st (λ st1. source st1 >>= past_switch)) (run_all s (behind_value sp u (ty.Int from) k mode sections e body) st')
value_end s result mode n k z from u sections sp source e body before fits low le there there1 there2 labels one flag st st' h is =
    let own = as_held s from u z e st'.memory is in
    let given = temp_given s k (Int own.y) (ty.Int u) st st' fits (omega (arith, low, le)) there h.alike in
    let given1 = temp_given s (k + 1) (Int (pos (otherwise_of sections))) int st (with_temp s k (Int own.y) st') fits (omega (arith, low, le)) there1 given.alike in
    subst (λ o. Same (GivesFlow s result mode n before) (take_turn st.left st (λ st1. source st1 >>= past_switch)) o)
    (sym (hold_then s k (as_int (ty.Int from) u e) (behind_default sp u k mode sections body) (Int own.y) st' own.is ∙ hold_then s (k + 1) (number (otherwise_of sections)) (cases_from sp u k 0 sections ++ behind_cases sp k mode body) (Int (pos (otherwise_of sections))) (with_temp s k (Int own.y) st') refl))
    (cases_end s result mode n k own.y (conv u z) u sections sp source body before fits low le there1 there2 labels own.same one flag st (with_temp s (k + 1) (Int (pos (otherwise_of sections))) (with_temp s k (Int own.y) st'))
    (record {
      alike = given1.alike;
      kept = kept_then s (below n) (below k) (below n) before st'.memory (with_temp s (k + 1) (Int (pos (otherwise_of sections))) (with_temp s k (Int own.y) st')).memory h.kept
          (kept_then s (below k) (below (k + 1)) (below k) st'.memory (with_temp s k (Int own.y) st').memory (with_temp s (k + 1) (Int (pos (otherwise_of sections))) (with_temp s k (Int own.y) st')).memory given.kept given1.kept (λ j less. less) (λ j less. omega (arith, less)))
          (λ j less. less) (λ j less. omega (arith, le, less));
    })
    (temp_kept s (k + 1) k (with_temp s k (Int own.y) st').memory (with_temp s (k + 1) (Int (pos (otherwise_of sections))) (with_temp s k (Int own.y) st')).memory (Int own.y) fits given1.kept (omega (arith, low, le)) (omega arith) given.cell)
    given1.cell)

pub switch_runs : (laws : Laws) (s : Scene) (result : Option IntType) (a : ExprTree) (u : IntType) (mode : Onward) (n : ℕ) (sections : SectionTrees) (sp : Span) (source : ℕ → State → Outcome src.Flow) (body : Effects) → SceneFits s → Found s (promotes_to u) a → labels_fit u (labels_of sections) ≡ true →
    length s.names.vars ≤ n → HasTemps s.core_variables n ((value_in (scope_of s) a n).temps ++ switch_temps u ++ body.temps) →
    ((ch : ℕ) → ch ≤ count_of sections → RunsWhere (Picks s (past n (value_in (scope_of s) a n).temps + 1) ch) s result (inside mode (past n (value_in (scope_of s) a n).temps + 2)) (past n (value_in (scope_of s) a n).temps + 3) (source ch) body.stmts) →
    Runs s result mode n (λ st. value_of a (context_of s) st >>= λ w st1. take_turn st1.left st1 (λ st2. source (src.chosen sections (conv u (number_of w))) st2 >>= past_switch))
    (switched sp u (type_of a) (past n (value_in (scope_of s) a n).temps) mode sections (value_in (scope_of s) a n) body).stmts
switch_runs laws s result a u mode n sections sp source body fits found labels from temps one st st' flag al =
    subst (λ xs. Same (GivesFlow s result mode n st'.memory) (value_of a (context_of s) st >>= λ w st1. take_turn st1.left st1 (λ st2. source (src.chosen sections (conv u (number_of w))) st2 >>= past_switch)) (run_all s xs st'))
    (sym (append_assoc (value_in (scope_of s) a n).stmts (up_to_cases sp u (type_of a) (past n (value_in (scope_of s) a n).temps) sections (value_in (scope_of s) a n).value) (behind_cases sp (past n (value_in (scope_of s) a n).temps) mode body.stmts)))
    (value_then laws s (GivesFlow s result mode n st'.memory) a n (λ w st1. take_turn st1.left st1 (λ st2. source (src.chosen sections (conv u (number_of w))) st2 >>= past_switch))
    (behind_value sp u (type_of a) (past n (value_in (scope_of s) a n).temps) mode sections (value_in (scope_of s) a n).value body.stmts) st st' fits found.typed (ap is_struct (from_int a u found.passes).is) from
    (temps_first s.core_variables n (value_in (scope_of s) a n).temps (switch_temps u ++ body.temps) all_temps) al
    (λ stop st1' e. hold_then_stops s (past n (value_in (scope_of s) a n).temps) (as_int (type_of a) u (value_in (scope_of s) a n).value) (behind_default sp u (past n (value_in (scope_of s) a n).temps) mode sections body.stmts) stop st1'
    (ap (λ z. cell_asked s (as_int z u (value_in (scope_of s) a n).value) st1'.memory) (from_int a u found.passes).has ∙ as_stops s (from_int a u found.passes).from u (value_in (scope_of s) a n).value stop st1'.memory e))
    (λ w st1 x st1' g e. subst (λ z. Same (GivesFlow s result mode n st'.memory) (take_turn st1.left st1 (λ st2. source (src.chosen sections (conv u (number_of w))) st2 >>= past_switch)) (run_all s (behind_value sp u z (past n (value_in (scope_of s) a n).temps) mode sections (value_in (scope_of s) a n).value body.stmts) st1'))
    (sym (from_int a u found.passes).has)
    (value_end s result mode n (past n (value_in (scope_of s) a n).temps) (number_of w) (from_int a u found.passes).from u sections sp (source (src.chosen sections (conv u (number_of w)))) (value_in (scope_of s) a n).value body.stmts st'.memory fits from (omega arith)
    there.0 (subst (λ j. slice_get s.core_variables j ≡ Some int) (one_more (past n (value_in (scope_of s) a n).temps)) there.1.0) (subst (λ j. slice_get s.core_variables j ≡ Some int) (two_more (past n (value_in (scope_of s) a n).temps)) there.1.1.0) labels
    (one (src.chosen sections (conv u (number_of w))) (chosen_small sections (conv u (number_of w)))) flag st1 st1' g.after
    (e ∙ ap Ok (x_is w x (subst (λ z. IsValue s z w x) (from_int a u found.passes).is g.facts))))))
  where
    x_is : (w : Value) (x : core.Cell) → IsValue s (Some (ty.Int (from_int a u found.passes).from)) w x → x ≡ Int (number_of w)
    x_is w x q = q.same ∙ integer_cell w q.fits

    all_temps : HasTemps s.core_variables n ((value_in (scope_of s) a n).temps ++ (switch_temps u ++ body.temps))
    all_temps = subst (λ xs. HasTemps s.core_variables n xs) (append_assoc (value_in (scope_of s) a n).temps (switch_temps u) body.temps) temps

    there : HasTemps s.core_variables (past n (value_in (scope_of s) a n).temps) (switch_temps u ++ body.temps)
    there = temps_rest s.core_variables n (value_in (scope_of s) a n).temps (switch_temps u ++ body.temps) all_temps

    one_more : (k : ℕ) → suc k ≡ k + 1
    one_more k = omega arith

    two_more : (k : ℕ) → suc (suc k) ≡ k + 2
    two_more k = omega arith
