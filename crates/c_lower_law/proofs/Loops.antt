-- Loops: turn by turn.
use Rattle.std.proofs.Common.{◌≡◌, ◌∙◌, ◌≤◌, ◌<◌, ℕ, zero, suc, ◌+◌, pos, refl, ap, sym, subst, arith, Bool, true, false, Option, Some, None, List, [], ◌∷◌, ◌++◌, length, append_assoc, Result, Ok, Err, if◌then◌else◌}
use Rattle.std.specs.Prelude.{IsTrue, slice_get, get_or}
use Rattle.pt_base.specs.declared.int_type.IntType.{IntType}
use Rattle.pt_base.specs.declared.span.Span.{Span}
use Rattle.runs.specs.State.{gives, trapped, spent, ◌>>=◌, take_turn}
use Rattle.typed_tree.specs.declared.ids.ExprId.{ExprId}
use Rattle.typed_tree.specs.declared.types.VarTy.{VarTy}
use Rattle.typed_tree.specs.ExpressionTree.{ExprTree}
use Rattle.typed_tree.specs.TypeTests.{is_scalar}
use Rattle.typed_tree.specs.WellFormedStatement.{any_type, option_fits}
use Rattle.block_memory.specs.declared.cell.Cell as core
use Rattle.block_memory.specs.declared.cell.Cell.TheVariants.{Int}
use Rattle.block_memory.specs.declared.cell.BlockName.TheVariants.{Local}
use Rattle.block_memory.specs.Blocks.{Blocks}
use Rattle.source_meaning.specs.State.{State, Outcome}
use Rattle.source_meaning.specs.Values.{Value}
use Rattle.source_meaning.specs.Statements as src
use Rattle.source_meaning.specs.Statements.{Round, again, leaves, body_round}
use Rattle.pt_core.specs.CodeTree as t
use Rattle.pt_core.specs.CodeTree.{StmtTree, choose, repeat, break_out, stmt_trees}
use Rattle.pt_core.specs.Statements as c
use Rattle.pt_core.specs.Statements.{goes_on, broke, continues, returned, after_flow, do_all}
use Rattle.lowering.specs.Lowered.{past, temp, hold, int}
use Rattle.lowering.specs.Expressions.{value_in, effects_in}
use Rattle.lowering.specs.Statements as l
use Rattle.lowering.specs.Statements.{Onward, nowhere, to_head, past_flag, number}
use Rattle.c_lower_law.proofs.Relations.{Scene, frame_of, scope_of, HasTemps, Kept, Alike, Same, After, below, all}
use Rattle.c_lower_law.proofs.Expressions.{run_all, Gives, SceneFits, SameResult}
use Rattle.c_lower_law.proofs.Statements.{code_of, tests_of, lowered_with, but_flag, FlagIs, SameFlow, GivesFlow}
use Rattle.c_lower_law.proofs.Runs.{ok_then, err_as, spent_as, same_bind, same_weaken, run_append, ran_run}
use Rattle.c_lower_law.proofs.Memories.{kept_then, kept_less, kept_same}
use Rattle.c_lower_law.proofs.Held.{past_append, temps_first, temps_rest, Holds, with_temp, temp_given, temp_read, hold_then}
use Rattle.c_lower_law.proofs.Flows.{run_one, same_next, turn_same, alike_left, temp_kept, flag_kept, Runs, Passes, flow_up}
use Rattle.c_lower_law.proofs.Outermost.{Laws, Found, found, tested_then, choose_yes, choose_no, expr_at, value_at}

-- ---- what stands in no loop's way

-- what neither sets a flag nor goes on to a head, in any place
pub any_mode : (s : Scene) (result : Option IntType) (mode : Onward) (n : ℕ) (source : State → Outcome src.Flow) (xs : List StmtTree) → SceneFits s → Runs s result nowhere n source xs → Runs s result mode n source xs
any_mode s result mode n source xs fits one st st' flag a =
    same_weaken (GivesFlow s result nowhere n st'.memory) (GivesFlow s result mode n st'.memory) (source st) (run_all s xs st') (one st st' tt a)
    (λ flow st1 flow' st1' g.
    let kept : Kept s (below n) st'.memory st1'.memory = kept_less s (but_flag nowhere n) (below n) st'.memory st1'.memory g.after.kept (λ k h. (h, refl)) in
    record {
      after = record { alike = g.after.alike; kept = kept_less s (below n) (but_flag mode n) st'.memory st1'.memory kept (λ k h. h.0) };
      same = still flow flow' st1'.memory (flag_kept s mode n 0 st'.memory st1'.memory fits kept flag) g.same;
    })
  where
    still : (flow : src.Flow) (flow' : c.Flow) (blocks : Blocks) → FlagIs s mode n 0 blocks → SameFlow flow flow' s result nowhere n blocks → SameFlow flow flow' s result mode n blocks
    still src.goes_on goes_on blocks flag h = flag
    still src.goes_on broke blocks flag h = h
    still src.goes_on continues blocks flag h = h
    still src.goes_on (returned z) blocks flag h = h
    still src.broke goes_on blocks flag h = h
    still src.broke broke blocks flag h = flag
    still src.broke continues blocks flag h = h
    still src.broke (returned z) blocks flag h = h
    still src.continues flow' blocks flag h = absurd h
    still (src.returned w) goes_on blocks flag h = h
    still (src.returned w) broke blocks flag h = h
    still (src.returned w) continues blocks flag h = h
    still (src.returned w) (returned z) blocks flag h = h

-- what goes on, and control with it
pub passes_runs : {A : Type 0} (s : Scene) (result : Option IntType) (n : ℕ) (source : State → Outcome A) (xs : List StmtTree) → Passes s n source xs → Runs s result nowhere n (λ st. source st >>= λ a. gives src.goes_on) xs
passes_runs {A} s result n source xs one st st' flag al =
    same_next (Gives s (below n) st'.memory (λ a flow. flow ≡ goes_on)) (GivesFlow s result nowhere n st'.memory) (source st) (run_all s xs st') (λ a. gives src.goes_on) (one st st' al)
    (λ a st1 flow' st1' g. record {
      after = record { alike = g.after.alike; kept = kept_less s (below n) (but_flag nowhere n) st'.memory st1'.memory g.after.kept (λ k h. h.0) };
      same = subst (λ z. SameFlow src.goes_on z s result nowhere n st1'.memory) (sym g.facts) tt;
    })

-- and statements behind it
pub passes_then : {A : Type 0} (s : Scene) (result : Option IntType) (n m : ℕ) (source : State → Outcome A) (next : State → Outcome src.Flow) (xs ys : List StmtTree) → n ≤ m → Passes s n source xs → Runs s result nowhere m next ys → Runs s result nowhere n (λ st. source st >>= λ a. next) (xs ++ ys)
passes_then {A} s result n m source next xs ys le one two st st' flag al =
    subst (λ o. Same (GivesFlow s result nowhere n st'.memory) (source st >>= λ a. next) o) (sym (run_append s xs ys st'))
    (ran_run (Gives s (below n) st'.memory (λ a flow. flow ≡ goes_on)) (GivesFlow s result nowhere n st'.memory) (source st) (run_all s xs st') (λ a. next) (run_all s ys) (one st st' al) (λ a st1 flow' st1' g. g.facts)
    (λ a st1 st1' g. same_weaken (GivesFlow s result nowhere m st1'.memory) (GivesFlow s result nowhere n st'.memory) (next st1) (run_all s ys st1') (two st1 st1' tt g.after.alike)
    (λ flow st2 flow' st2' h. flow_up s result nowhere n m st'.memory st1'.memory flow st2 flow' st2' le tt (kept_less s (below n) (but_flag nowhere n) st'.memory st1'.memory g.after.kept (λ k h. h.0)) h)))

-- ---- rounds

abbrev pub Leaves : Option IntType → src.Flow → c.Flow → Type 0
Leaves result src.goes_on goes_on = ⊥
Leaves result src.goes_on broke = Unit {0}
Leaves result src.goes_on continues = ⊥
Leaves result src.goes_on (returned x) = ⊥
Leaves result src.broke flow' = ⊥
Leaves result src.continues flow' = ⊥
Leaves result (src.returned w) goes_on = ⊥
Leaves result (src.returned w) broke = ⊥
Leaves result (src.returned w) continues = ⊥
Leaves result (src.returned w) (returned x) = SameResult result w x

abbrev pub SameRound : Option IntType → Round → c.Flow → Type 0
SameRound result again goes_on = Unit {0}
SameRound result again broke = ⊥
SameRound result again continues = Unit {0}
SameRound result again (returned x) = ⊥
SameRound result (leaves flow) flow' = Leaves result flow flow'

pub record GivesRound (s : Scene) (result : Option IntType) (n : ℕ) (before : Blocks) (round : Round) (st : State) (flow' : c.Flow) (st' : c.State) : Type 0 where
  pub after : After s (below n) before st st'
  pub same : SameRound result round flow'

abbrev pub Rounds : Scene → Option IntType → ℕ → (State → Outcome Round) → List StmtTree → Type 0
Rounds s result n source xs = (st : State) (st' : c.State) → Alike s st st' → Same (GivesRound s result n st'.memory) (source st) (run_all s xs st')

pub round_up : (s : Scene) (result : Option IntType) (n m : ℕ) (x y : Blocks) (round : Round) (st : State) (flow' : c.Flow) (st' : c.State) → n ≤ m → Kept s (below n) x y → GivesRound s result m y round st flow' st' → GivesRound s result n x round st flow' st'
round_up s result n m x y round st flow' st' le kept g = record {
  after = record { alike = g.after.alike; kept = kept_then s (below n) (below m) (below n) x y st'.memory kept g.after.kept (λ k h. h) (λ k h. omega (arith, le, h)) };
  same = g.same;
}

pub body_rounds : (s : Scene) (result : Option IntType) (n : ℕ) (source : State → Outcome src.Flow) (xs : List StmtTree) → Runs s result to_head n source xs → Rounds s result n (λ st. source st >>= body_round) xs
body_rounds s result n source xs one st st' al =
    same_next (GivesFlow s result to_head n st'.memory) (GivesRound s result n st'.memory) (source st) (run_all s xs st') body_round (one st st' tt al) (λ flow st1 flow' st1' g. go flow st1 flow' st1' g.after g.same)
  where
    after_it : (st1 : State) (st1' : c.State) → After s (but_flag to_head n) st'.memory st1 st1' → After s (below n) st'.memory st1 st1'
    after_it st1 st1' h = record { alike = h.alike; kept = kept_less s (but_flag to_head n) (below n) st'.memory st1'.memory h.kept (λ k less. (less, refl)) }

    go : (flow : src.Flow) (st1 : State) (flow' : c.Flow) (st1' : c.State) → After s (but_flag to_head n) st'.memory st1 st1' → SameFlow flow flow' s result to_head n st1'.memory → Same (GivesRound s result n st'.memory) (body_round flow st1) (gives flow' st1')
    go src.goes_on st1 goes_on st1' h same = record { after = after_it st1 st1' h; same = tt }
    go src.goes_on st1 broke st1' h same = absurd same
    go src.goes_on st1 continues st1' h same = absurd same
    go src.goes_on st1 (returned x) st1' h same = absurd same
    go src.broke st1 goes_on st1' h same = absurd same
    go src.broke st1 broke st1' h same = record { after = after_it st1 st1' h; same = tt }
    go src.broke st1 continues st1' h same = absurd same
    go src.broke st1 (returned x) st1' h same = absurd same
    go src.continues st1 flow' st1' h same = record { after = after_it st1 st1' h; same = subst (λ z. SameRound result again z) (sym same) tt }
    go (src.returned w) st1 goes_on st1' h same = absurd same
    go (src.returned w) st1 broke st1' h same = absurd same
    go (src.returned w) st1 continues st1' h same = absurd same
    go (src.returned w) st1 (returned x) st1' h same = record { after = after_it st1 st1' h; same = same }

-- behind what goes on
pub passes_rounds : {A : Type 0} (s : Scene) (result : Option IntType) (n m : ℕ) (source : State → Outcome A) (next : State → Outcome Round) (xs ys : List StmtTree) → n ≤ m → Passes s n source xs → Rounds s result m next ys → Rounds s result n (λ st. source st >>= λ a. next) (xs ++ ys)
passes_rounds {A} s result n m source next xs ys le one two st st' al =
    subst (λ o. Same (GivesRound s result n st'.memory) (source st >>= λ a. next) o) (sym (run_append s xs ys st'))
    (ran_run (Gives s (below n) st'.memory (λ a flow. flow ≡ goes_on)) (GivesRound s result n st'.memory) (source st) (run_all s xs st') (λ a. next) (run_all s ys) (one st st' al) (λ a st1 flow' st1' g. g.facts)
    (λ a st1 st1' g. same_weaken (GivesRound s result m st1'.memory) (GivesRound s result n st'.memory) (next st1) (run_all s ys st1') (two st1 st1' g.after.alike)
    (λ round st2 flow' st2' h. round_up s result n m st'.memory st1'.memory round st2 flow' st2' le g.after.kept h)))

-- behind a test, if there is one
pub tested_rounds : (laws : Laws) (s : Scene) (exprs : List ExprTree) (result : Option IntType) (test : Option ExprId) (n : ℕ) (body : State → Outcome Round) (xs : List StmtTree) → SceneFits s → IsTrue (option_fits (tests_of s exprs result) is_scalar test) → length s.names.vars ≤ n →
    HasTemps s.core_variables n (l.tested (lowered_with s exprs) test n).temps → Rounds s result (past n (l.tested (lowered_with s exprs) test n).temps) body xs → Rounds s result n (src.tested test (code_of s exprs) body) ((l.tested (lowered_with s exprs) test n).stmts ++ xs)
tested_rounds laws s exprs result None n body xs fits ok from temps one st st' al =
    same_weaken (GivesRound s result (past n []) st'.memory) (GivesRound s result n st'.memory) (body st) (run_all s xs st') (one st st' al)
    (λ round st1 flow' st1' g. round_up s result n (past n []) st'.memory st'.memory round st1 flow' st1' (omega arith) (kept_same s (below n) st'.memory) g)
tested_rounds laws s exprs result (Some e) n body xs fits ok from temps one st st' al =
    subst (λ zs. Same (GivesRound s result n st'.memory) (src.tested (Some e) (code_of s exprs) body st) (run_all s zs st')) (sym (append_assoc (value_at s exprs e n).stmts (choose (value_at s exprs e n).value (stmt_trees []) (stmt_trees (break_out ∷ [])) ∷ []) xs))
    (tested_then laws s (GivesRound s result n st'.memory) (expr_at exprs e) n body (gives (leaves src.goes_on)) [] (break_out ∷ []) xs st st' fits (found s exprs result is_scalar e ok) from temps al
    (λ st1 st1' h. same_weaken (GivesRound s result (past n (value_at s exprs e n).temps) st1'.memory) (GivesRound s result n st'.memory) (body st1) (run_all s xs st1') (one st1 st1' h.alike)
    (λ round st2 flow' st2' g. round_up s result n (past n (value_at s exprs e n).temps) st'.memory st1'.memory round st2 flow' st2' (omega arith) h.kept g))
    (λ st1 st1' h. record { after = h; same = tt }))

-- ---- all turns

-- a round, and what is told of the turn behind it
abbrev Lap : Scene → Option IntType → ℕ → Blocks → (Bool → Blocks → Type 0) → Round → State → c.Flow → c.State → Type 0
Lap s result n before Told round st flow' st' = GivesRound s result n before round st flow' st' × Told false st'.memory

-- the way back to the head
after_lap : (s : Scene) (result : Option IntType) (n : ℕ) (before : Blocks) (Told : Bool → Blocks → Type 0) (more : State → Outcome src.Flow) (more' : c.State → c.Outcome c.Flow) (round : Round) (st : State) (flow' : c.Flow) (st' : c.State) → Lap s result n before Told round st flow' st' →
    (After s (below n) before st st' → Told false st'.memory → Same (GivesFlow s result nowhere n before) (more st) (more' st')) → Same (GivesFlow s result nowhere n before) (src.after_round more round st) (c.after_round more' flow' st')
after_lap s result n before Told more more' again st goes_on st' g on = on g.0.after g.1
after_lap s result n before Told more more' again st broke st' g on = absurd g.0.same
after_lap s result n before Told more more' again st continues st' g on = on g.0.after g.1
after_lap s result n before Told more more' again st (returned x) st' g on = absurd g.0.same
after_lap s result n before Told more more' (leaves src.goes_on) st goes_on st' g on = absurd g.0.same
after_lap s result n before Told more more' (leaves src.goes_on) st broke st' g on = record { after = record { alike = g.0.after.alike; kept = kept_less s (below n) (but_flag nowhere n) before st'.memory g.0.after.kept (λ k h. h.0) }; same = tt }
after_lap s result n before Told more more' (leaves src.goes_on) st continues st' g on = absurd g.0.same
after_lap s result n before Told more more' (leaves src.goes_on) st (returned x) st' g on = absurd g.0.same
after_lap s result n before Told more more' (leaves src.broke) st flow' st' g on = absurd g.0.same
after_lap s result n before Told more more' (leaves src.continues) st flow' st' g on = absurd g.0.same
after_lap s result n before Told more more' (leaves (src.returned w)) st goes_on st' g on = absurd g.0.same
after_lap s result n before Told more more' (leaves (src.returned w)) st broke st' g on = absurd g.0.same
after_lap s result n before Told more more' (leaves (src.returned w)) st continues st' g on = absurd g.0.same
after_lap s result n before Told more more' (leaves (src.returned w)) st (returned x) st' g on = record { after = record { alike = g.0.after.alike; kept = kept_less s (below n) (but_flag nowhere n) before st'.memory g.0.after.kept (λ k h. h.0) }; same = g.0.same }

looped_same : (rounds : ℕ) (s : Scene) (result : Option IntType) (n : ℕ) (before : Blocks) (Told : Bool → Blocks → Type 0) (source : Bool → State → Outcome Round) (xs : List StmtTree) →
    ((first : Bool) (st : State) (st' : c.State) → After s (below n) before st st' → Told first st'.memory → Same (Lap s result n before Told) (source first st) (run_all s xs st')) →
    (first : Bool) (st : State) (st' : c.State) → After s (below n) before st st' → Told first st'.memory → Same (GivesFlow s result nowhere n before) (src.looped rounds source first st) (c.looped rounds (do_all (stmt_trees xs) (frame_of s) s.core_calls) st')
looped_same zero s result n before Told source xs each first st st' h told = h.alike.seen
looped_same (suc rounds) s result n before Told source xs each first st st' h told =
    turn_same (GivesFlow s result nowhere n before) st.left st'.left st st' (λ st1. source first st1 >>= src.after_round (src.looped rounds source false)) (λ st1. run_all s xs st1 >>= c.after_round (c.looped rounds (run_all s xs))) h.alike.seen.left h.alike.seen
    (λ rest is. same_bind (Lap s result n before Told) (GivesFlow s result nowhere n before) (source first (record st { left = rest })) (run_all s xs (record st' { left = rest })) (src.after_round (src.looped rounds source false)) (c.after_round (c.looped rounds (run_all s xs)))
    (each first (record st { left = rest }) (record st' { left = rest }) (record { alike = alike_left s st st' rest h.alike; kept = h.kept }) told)
    (λ round st1 flow' st1' g. after_lap s result n before Told (src.looped rounds source false) (c.looped rounds (run_all s xs)) round st1 flow' st1' g
    (λ h1 told1. looped_same rounds s result n before Told source xs each false st1 st1' h1 told1)))

-- as many rounds as turns are left
whole_loop : (s : Scene) (result : Option IntType) (n : ℕ) (before : Blocks) (Told : Bool → Blocks → Type 0) (source : Bool → State → Outcome Round) (xs : List StmtTree) (sp : Span) →
    ((first : Bool) (st : State) (st' : c.State) → After s (below n) before st st' → Told first st'.memory → Same (Lap s result n before Told) (source first st) (run_all s xs st')) →
    (st : State) (st' : c.State) → After s (below n) before st st' → Told true st'.memory → Same (GivesFlow s result nowhere n before) (src.looped st.left source true st) (run_all s (repeat (stmt_trees xs) sp ∷ []) st')
whole_loop s result n before Told source xs sp each st st' h told =
    subst (λ o. Same (GivesFlow s result nowhere n before) (src.looped st.left source true st) o) (sym (run_one s (repeat (stmt_trees xs) sp) st' ∙ ap (λ k. c.looped k (run_all s xs) st') h.alike.seen.left))
    (looped_same st.left s result n before Told source xs each true st st' h told)

-- a loop whose first turn is as all others
pub plain_loop : (s : Scene) (result : Option IntType) (n : ℕ) (source : Bool → State → Outcome Round) (xs : List StmtTree) (sp : Span) → ((first : Bool) → Rounds s result n (source first) xs) →
    Runs s result nowhere n (λ st. src.looped st.left source true st) (repeat (stmt_trees xs) sp ∷ [])
plain_loop s result n source xs sp each st st' flag al =
    whole_loop s result n st'.memory (λ first blocks. Unit {0}) source xs sp
    (λ first st1 st1' h told. same_weaken (GivesRound s result n st1'.memory) (Lap s result n st'.memory (λ first blocks. Unit {0})) (source first st1) (run_all s xs st1') (each first st1 st1' h.alike)
    (λ round st2 flow' st2' g. (round_up s result n n st'.memory st1'.memory round st2 flow' st2' (omega arith) h.kept g, tt)))
    st st' (record { alike = al; kept = kept_same s (below n) st'.memory }) tt

-- a temporary tells the first turn
abbrev Tells : Scene → ℕ → Bool → Blocks → Type 0
Tells s k first blocks = (blocks (Local s.frame.depth k)).cells ≡ Int (pos (if first then 1 else 0)) ∷ []

-- what a turn does before what each turn does: the first takes back that it is the first
abbrev pub laps : ℕ → List StmtTree → List StmtTree → List StmtTree
laps k back xs = choose (temp k) (stmt_trees (hold k (number 0) ∷ [])) (stmt_trees back) ∷ xs

pub flagged_loop : (s : Scene) (result : Option IntType) (k : ℕ) (source : Bool → State → Outcome Round) (back xs : List StmtTree) (sp : Span) → SceneFits s → length s.names.vars ≤ k → slice_get s.core_variables k ≡ Some int →
    Rounds s result (k + 1) (source true) xs → Rounds s result (k + 1) (source false) (back ++ xs) →
    Runs s result nowhere k (λ st. src.looped st.left source true st) (hold k (number 1) ∷ repeat (stmt_trees (laps k back xs)) sp ∷ [])
flagged_loop s result k source back xs sp fits from there at_first later st st' flag al =
    let given = temp_given s k (Int (pos 1)) int st st' fits from there al in
    subst (λ o. Same (GivesFlow s result nowhere k st'.memory) (src.looped st.left source true st) o) (sym (hold_then s k (number 1) (repeat (stmt_trees (laps k back xs)) sp ∷ []) (Int (pos 1)) st' refl))
    (whole_loop s result k st'.memory (Tells s k) source (laps k back xs) sp (λ first. each first) st (with_temp s k (Int (pos 1)) st') (record { alike = given.alike; kept = given.kept }) given.cell)
  where
    each : (first : Bool) (st1 : State) (st1' : c.State) → After s (below k) st'.memory st1 st1' → Tells s k first st1'.memory → Same (Lap s result k st'.memory (Tells s k)) (source first st1) (run_all s (laps k back xs) st1')
    each true st1 st1' h told =
        let given = temp_given s k (Int (pos 0)) int st1 st1' fits from there h.alike in
        subst (λ o. Same (Lap s result k st'.memory (Tells s k)) (source true st1) o)
        (sym (choose_yes s (temp k) (hold k (number 0) ∷ []) back xs (Int (pos 1)) st1' (temp_read s k (Int (pos 1)) st1'.memory told) refl ∙ hold_then s k (number 0) xs (Int (pos 0)) st1' refl))
        (same_weaken (GivesRound s result (k + 1) (with_temp s k (Int (pos 0)) st1').memory) (Lap s result k st'.memory (Tells s k)) (source true st1) (run_all s xs (with_temp s k (Int (pos 0)) st1')) (at_first st1 (with_temp s k (Int (pos 0)) st1') given.alike)
        (λ round st2 flow' st2' g. (
          round_up s result k (k + 1) st'.memory (with_temp s k (Int (pos 0)) st1').memory round st2 flow' st2' (omega arith) (kept_then s (below k) (below k) (below k) st'.memory st1'.memory (with_temp s k (Int (pos 0)) st1').memory h.kept given.kept (λ j less. less) (λ j less. less)) g,
          temp_kept s (k + 1) k (with_temp s k (Int (pos 0)) st1').memory st2'.memory (Int (pos 0)) fits g.after.kept from (omega arith) given.cell,
        )))
    each false st1 st1' h told =
        subst (λ o. Same (Lap s result k st'.memory (Tells s k)) (source false st1) o) (sym (choose_no s (temp k) (hold k (number 0) ∷ []) back xs (Int (pos 0)) st1' (temp_read s k (Int (pos 0)) st1'.memory told) refl))
        (same_weaken (GivesRound s result (k + 1) st1'.memory) (Lap s result k st'.memory (Tells s k)) (source false st1) (run_all s (back ++ xs) st1') (later st1 st1' h.alike)
        (λ round st2 flow' st2' g.
        (round_up s result k (k + 1) st'.memory st1'.memory round st2 flow' st2' (omega arith) h.kept g, temp_kept s (k + 1) k st1'.memory st2'.memory (Int (pos 0)) fits g.after.kept from (omega arith) told)))
