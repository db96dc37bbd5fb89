-- Statements come to the same, by induction on them.
use Rattle.std.proofs.Common.{◌≡◌, ◌∙◌, ◌≤◌, ◌<◌, ℕ, zero, suc, ◌+◌, ◌^◌, ℤ, pos, refl, ap, sym, subst, arith, Bool, true, false, Option, Some, None, List, [], ◌∷◌, ◌++◌, length, append_assoc, Result, Ok, Err, if◌then◌else◌}
use Rattle.std.specs.Prelude.{IsTrue, ◌&&◌, is_none, slice_get, get_or, unwrap_or}
use Rattle.pt_base.specs.declared.int_type.IntType.{IntType}
use Rattle.pt_base.specs.declared.span.Span.{Span}
use Rattle.pt_base.proofs.Booleans.{both_hold_first, both_hold_second, false_not_true}
use Rattle.pt_base.proofs.Lists.{append_nil}
use Rattle.pt_base.proofs.Numbers.{as_plus_one}
use Rattle.runs.specs.State.{gives, trapped, spent, ◌>>=◌}
use Rattle.typed_tree.specs.declared.ids.ExprId.{ExprId}
use Rattle.typed_tree.specs.declared.types.VarTy.{VarTy}
use Rattle.typed_tree.specs.declared.types.VarTy.TheVariants as ty
use Rattle.typed_tree.specs.declared.statement.TypedDeclarator.{TypedDeclarator}
use Rattle.typed_tree.specs.declared.statement.TypedForInit.{TypedForInit}
use Rattle.typed_tree.specs.declared.statement.TypedForInit.TheVariants as f
use Rattle.typed_tree.specs.ExpressionTree.{ExprTree}
use Rattle.typed_tree.specs.StatementTree as b
use Rattle.typed_tree.specs.StatementTree.{BodyTree, ElseTree, no_else, otherwise, BodyTrees, no_bodies, body_and, SectionTree, section, SectionTrees, no_sections, section_and}
use Rattle.typed_tree.specs.Nodes.{body_nodes, else_nodes, bodies_nodes, section_nodes, for_init_nodes}
use Rattle.typed_tree.specs.TypeTests.{both_int, integer_of, same_int, is_scalar}
use Rattle.typed_tree.specs.WellFormedExpression.{ty_of}
use Rattle.typed_tree.specs.WellFormedStatement.{expr_fits, any_type, promotes_to, option_fits, declaration_fits, for_init_fits, labels_of, labels_fit, is_sound, else_sound, all_sound, sections_sound}
use Rattle.block_memory.specs.declared.cell.Cell as core
use Rattle.block_memory.specs.declared.cell.Cell.TheVariants.{Int}
use Rattle.block_memory.specs.Blocks.{Blocks}
use Rattle.source_meaning.specs.Memory as mem
use Rattle.source_meaning.specs.State.{State, Outcome}
use Rattle.source_meaning.specs.Values.{Value, holds, whole, nothing, cell_of, is_true}
use Rattle.source_meaning.specs.Expressions.{value_of}
use Rattle.source_meaning.specs.Statements as src
use Rattle.source_meaning.specs.Statements.{Round, body_round, count_of, statement, otherwise_of, all_of, sections_from}
use Rattle.pt_core.specs.CodeTree as t
use Rattle.pt_core.specs.CodeTree.{StmtTree, choose, repeat, give_back, stmt_trees}
use Rattle.pt_core.specs.Values.{Stop, ◌>>?◌}
use Rattle.pt_core.specs.Statements as c
use Rattle.pt_core.specs.Statements.{goes_on, broke, continues, returned, after_flow, evaluated}
use Rattle.lowering.specs.Lowered.{Temp, Effects, past, hold, counting, int}
use Rattle.lowering.specs.Expressions.{is_struct, value_in, effects_in}
use Rattle.lowering.specs.Statements as l
use Rattle.lowering.specs.Statements.{Onward, nowhere, to_head, past_flag, number, onwards, inside, switch_temps, statement_in, otherwise_in, all_in, sections_in}
use Rattle.c_lower_law.proofs.Relations.{Scene, context_of, frame_of, scope_of, HasTemps, Kept, Alike, Same, After, below}
use Rattle.c_lower_law.proofs.Expressions.{run_all, cell_asked, Gives, IsValue, SameCell, SceneFits, SameResult, ValuesAgree, EffectsAgree, ObjectsAgree}
use Rattle.c_lower_law.proofs.Statements.{code_of, tests_of, lowered_with, is_flag, but_flag, FlagIs, LeadsOn, SameFlow, GivesFlow, StatementsAgree, GoesOn, DeclarationsAgree}
use Rattle.c_lower_law.proofs.Runs.{Stops, stops_at, same_weaken}
use Rattle.c_lower_law.proofs.Memories.{kept_less, kept_same}
use Rattle.c_lower_law.proofs.Held.{past_append, temps_first, temps_rest}
use Rattle.c_lower_law.proofs.Flows.{run_one, same_next, flag_kept, flag_up, Runs, RunsWhere, Passes, flow_up, runs_then}
use Rattle.c_lower_law.proofs.Outermost.{Laws, Found, found, value_then, tested_then, dropped_passes, expr_at, value_at}
use Rattle.c_lower_law.proofs.Loops.{any_mode, passes_runs, passes_then, GivesRound, Rounds, round_up, body_rounds, passes_rounds, tested_rounds, plain_loop, laps, flagged_loop}
use Rattle.c_lower_law.proofs.Sections.{Stands, onwards_run, Picks, section_skipped, section_run}
use Rattle.c_lower_law.proofs.SwitchEnds.{other_flag, switch_runs}

-- what is known where statements of a function run
pub record Setup (s : Scene) : Type 0 where
  pub laws : Laws
  pub declares : DeclarationsAgree
  pub fits : SceneFits s

-- ---- declarations

same_goes : (s : Scene) (result : Option IntType) (n : ℕ) (flow : src.Flow) (flow' : c.Flow) (blocks : Blocks) → flow ≡ src.goes_on → flow' ≡ goes_on → SameFlow flow flow' s result nowhere n blocks
same_goes s result n flow flow' blocks e e' = subst (λ z. SameFlow z flow' s result nowhere n blocks) (sym e) (subst (λ z. SameFlow src.goes_on z s result nowhere n blocks) (sym e') tt)

declared_passes : (s : Scene) (exprs : List ExprTree) (result : Option IntType) (u : Setup s) (ds : List TypedDeclarator) (n : ℕ) → IsTrue (declaration_fits (tests_of s exprs result) ds) → length s.names.vars ≤ n → HasTemps s.core_variables n (l.declared (lowered_with s exprs) ds n).temps →
    Passes s n (src.declared ds (code_of s exprs)) (l.declared (lowered_with s exprs) ds n).stmts
declared_passes s exprs result u ds n ok from temps st st' al =
    same_weaken (GoesOn s n st'.memory) (Gives s (below n) st'.memory (λ a flow. flow ≡ goes_on)) (src.declared ds (code_of s exprs) st) (run_all s (l.declared (lowered_with s exprs) ds n).stmts st') (u.declares s exprs result ds n st st' u.fits ok from temps al)
    (λ flow st1 flow' st1' g. record { after = g.after; facts = g.same.1 })

declared_runs : (s : Scene) (exprs : List ExprTree) (result : Option IntType) (u : Setup s) (ds : List TypedDeclarator) (n : ℕ) → IsTrue (declaration_fits (tests_of s exprs result) ds) → length s.names.vars ≤ n → HasTemps s.core_variables n (l.declared (lowered_with s exprs) ds n).temps →
    Runs s result nowhere n (src.declared ds (code_of s exprs)) (l.declared (lowered_with s exprs) ds n).stmts
declared_runs s exprs result u ds n ok from temps st st' flag al =
    same_weaken (GoesOn s n st'.memory) (GivesFlow s result nowhere n st'.memory) (src.declared ds (code_of s exprs) st) (run_all s (l.declared (lowered_with s exprs) ds n).stmts st') (u.declares s exprs result ds n st st' u.fits ok from temps al)
    (λ flow st1 flow' st1' g. record {
      after = record { alike = g.after.alike; kept = kept_less s (below n) (but_flag nowhere n) st'.memory st1'.memory g.after.kept (λ k h. h.0) };
      same = same_goes s result n flow flow' st1'.memory g.same.0 g.same.1;
    })

-- how a `for` begins
begins_pass : (s : Scene) (exprs : List ExprTree) (result : Option IntType) (u : Setup s) (begin : TypedForInit) (n : ℕ) → IsTrue (for_init_fits (tests_of s exprs result) begin) → length s.names.vars ≤ n → HasTemps s.core_variables n (l.begun (lowered_with s exprs) begin n).temps →
    Passes s n (src.for_begins begin (code_of s exprs)) (l.begun (lowered_with s exprs) begin n).stmts
begins_pass s exprs result u f.Nothing n ok from temps = λ st st' al. record { after = record { alike = al; kept = kept_same s (below n) st'.memory }; facts = refl }
begins_pass s exprs result u (f.Declare d) n ok from temps = declared_passes s exprs result u d.declarators n ok from temps
begins_pass s exprs result u (f.Evaluate e) n ok from temps = λ st st' al.
    same_next (Gives s (below n) st'.memory (λ a flow. flow ≡ goes_on)) (Gives s (below n) st'.memory (λ a flow. flow ≡ goes_on)) (value_of (expr_at exprs e) (context_of s) st) (run_all s (effects_in (scope_of s) (expr_at exprs e) n).stmts st') (λ v. gives src.goes_on)
    (dropped_passes u.laws s (expr_at exprs e) n u.fits (found s exprs result any_type e ok).typed from temps st st' al) (λ a st1 flow' st1' g. record { after = g.after; facts = g.facts })

-- ---- choices

choice_runs : (laws : Laws) (s : Scene) (result : Option IntType) (mode : Onward) (a : ExprTree) (n m m' : ℕ) (first second : State → Outcome src.Flow) (xs ys : List StmtTree) → SceneFits s → Found s is_scalar a → length s.names.vars ≤ n → HasTemps s.core_variables n (value_in (scope_of s) a n).temps →
    n ≤ m → n ≤ m' → Runs s result mode m first xs → Runs s result mode m' second ys →
    Runs s result mode n (λ st. value_of a (context_of s) st >>= λ w. if is_true w then first else second) ((value_in (scope_of s) a n).stmts ++ choose (value_in (scope_of s) a n).value (stmt_trees xs) (stmt_trees ys) ∷ [])
choice_runs laws s result mode a n m m' first second xs ys fits is from temps le le' one two st st' flag al =
    tested_then laws s (GivesFlow s result mode n st'.memory) a n first second xs ys [] st st' fits is from temps al
    (λ st1 st1' h. branch m first xs le one st1 st1' h) (λ st1 st1' h. branch m' second ys le' two st1 st1' h)
  where
    branch : (m : ℕ) (next : State → Outcome src.Flow) (zs : List StmtTree) → n ≤ m → Runs s result mode m next zs → (st1 : State) (st1' : c.State) → After s (below n) st'.memory st1 st1' → Same (GivesFlow s result mode n st'.memory) (next st1) (run_all s (zs ++ []) st1')
    branch m next zs le1 runs st1 st1' h =
        subst (λ ws. Same (GivesFlow s result mode n st'.memory) (next st1) (run_all s ws st1')) (sym (append_nil zs))
        (same_weaken (GivesFlow s result mode m st1'.memory) (GivesFlow s result mode n st'.memory) (next st1) (run_all s zs st1') (runs st1 st1' (flag_up s mode n m 0 st1'.memory le1 (flag_kept s mode n 0 st'.memory st1'.memory fits h.kept flag)) h.alike)
        (λ flow st2 flow' st2' g. flow_up s result mode n m st'.memory st1'.memory flow st2 flow' st2' le1 flag (kept_less s (below n) (but_flag mode n) st'.memory st1'.memory h.kept (λ k h1. h1.0)) g))

-- ---- returns

no_result : (result : Option IntType) (w : Value) (x : Option core.Cell) → is_none result ≡ true → SameResult result w x
no_result None w x h = tt
no_result (Some u) w x h = false_not_true h

plain_int : (ty1 : Option VarTy) (result : Option IntType) → both_int (integer_of ty1) result ≡ true → is_struct ty1 ≡ false
plain_int None result h = refl
plain_int (Some (ty.Int u)) result h = refl
plain_int (Some (ty.Struct n)) result h = false_not_true h
plain_int (Some (ty.Array elem count)) result h = refl
plain_int (Some (ty.Pointer elem fixed)) result h = refl

int_result : (s : Scene) (ty1 : Option VarTy) (result : Option IntType) (w : Value) (x : core.Cell) → both_int (integer_of ty1) result ≡ true → IsValue s ty1 w x → SameResult result w (Some x)
int_result s None result w x h q = false_not_true h
int_result s (Some (ty.Struct n)) result w x h q = false_not_true h
int_result s (Some (ty.Array elem count)) result w x h q = false_not_true h
int_result s (Some (ty.Pointer elem fixed)) result w x h q = false_not_true h
int_result s (Some (ty.Int u)) None w x h q = tt
int_result s (Some (ty.Int u)) (Some r) (holds y) x h q = (y, refl, q.fits, q.same)
int_result s (Some (ty.Int u)) (Some r) (whole cells) x h q = absurd q.fits
int_result s (Some (ty.Int u)) (Some r) nothing x h q = absurd q.fits

abbrev giving : c.State → Result core.Cell Stop → c.Outcome c.Flow
giving st r = evaluated (r >>? λ z. Ok (Some z)) st (λ z. gives (returned z)) >>= after_flow (λ st1. gives goes_on st1)

returns_run : (laws : Laws) (s : Scene) (result : Option IntType) (a : ExprTree) (n : ℕ) → SceneFits s → Found s (λ t1. both_int (integer_of t1) result) a → length s.names.vars ≤ n → HasTemps s.core_variables n (value_in (scope_of s) a n).temps →
    Runs s result nowhere n (λ st. value_of a (context_of s) st >>= λ w. gives (src.returned w)) ((value_in (scope_of s) a n).stmts ++ give_back (Some (value_in (scope_of s) a n).value) ∷ [])
returns_run laws s result a n fits is from temps st st' flag al =
    value_then laws s (GivesFlow s result nowhere n st'.memory) a n (λ w. gives (src.returned w)) (give_back (Some (value_in (scope_of s) a n).value) ∷ []) st st' fits is.typed (plain_int (ty_of a) result is.passes) from temps al
    (λ stop st1' e. stops_at stop st1' (run_all s (give_back (Some (value_in (scope_of s) a n).value) ∷ []) st1') (ap (giving st1') e))
    (λ w st1 x st1' g e. subst (λ o. Same (GivesFlow s result nowhere n st'.memory) (gives (src.returned w) st1) o) (sym (ap (giving st1') e))
    (record {
      after = record { alike = g.after.alike; kept = kept_less s (below n) (but_flag nowhere n) st'.memory st1'.memory g.after.kept (λ k h. h.0) };
      same = int_result s (ty_of a) result w x is.passes g.facts;
    }))

-- ---- numbers

rounds_up : (s : Scene) (result : Option IntType) (n m : ℕ) (source : State → Outcome Round) (xs : List StmtTree) → n ≤ m → Rounds s result m source xs → Rounds s result n source xs
rounds_up s result n m source xs le one st st' al =
    same_weaken (GivesRound s result m st'.memory) (GivesRound s result n st'.memory) (source st) (run_all s xs st') (one st st' al) (λ round st1 flow' st1' g. round_up s result n m st'.memory st'.memory round st1 flow' st1' le (kept_same s (below n) st'.memory) g)

stands : (mode : Onward) → LeadsOn mode true → Stands mode
stands nowhere h = absurd h
stands to_head h = tt
stands (past_flag k) h = tt

leads_inside : (mode : Onward) (again : Bool) (k : ℕ) → LeadsOn mode again → LeadsOn (inside mode k) again
leads_inside nowhere again k h = h
leads_inside to_head true k h = tt
leads_inside to_head false k h = tt
leads_inside (past_flag j) true k h = tt
leads_inside (past_flag j) false k h = tt

count_small : (sections : SectionTrees) → count_of sections ≤ section_nodes sections
count_small no_sections = omega arith
count_small (section_and (section at label stmts) rest) = let less = count_small rest in omega (arith, less)

-- how far a section is from the chosen one
abbrev Skips : ℕ → ℕ → ℕ → Type 0
Skips ch m zero = ch ≤ m
Skips ch m (suc more) = ch ≡ m + suc more

skips_first : (ch : ℕ) → Skips ch 0 ch
skips_first zero = omega arith
skips_first (suc more) = omega arith

skips_next : (ch m more : ℕ) → Skips ch m (suc more) → Skips ch (m + 1) more
skips_next ch m zero h = omega (arith, h)
skips_next ch m (suc more) h = omega (arith, h)

-- the temporaries of three parts
record Three (variables : List VarTy) (n : ℕ) (xs ys zs : List Temp) : Type 0 where
  first : HasTemps variables n xs
  second : HasTemps variables (past n xs) ys
  third : HasTemps variables (past (past n xs) ys) zs

three : (variables : List VarTy) (n : ℕ) (xs ys zs : List Temp) → HasTemps variables n (xs ++ ys ++ zs) → Three variables n xs ys zs
three variables n xs ys zs h =
    let both = temps_first variables n (xs ++ ys) zs h in
    record {
      first = temps_first variables n xs ys both;
      second = temps_rest variables n xs ys both;
      third = subst (λ m. HasTemps variables m zs) (past_append n xs ys) (temps_rest variables n (xs ++ ys) zs h);
    }

low : (k n : ℕ) (xs : List Temp) → k ≤ n → k ≤ past n xs
low k n xs h = omega (arith, h)

-- a `for` without a step
no_step : (s : Scene) (exprs : List ExprTree) (result : Option IntType) (n : ℕ) (source : State → Outcome Round) (xs : List StmtTree) → Rounds s result n source xs → (first : Bool) → Rounds s result n (src.stepped_first first None (code_of s exprs) source) xs
no_step s exprs result n source xs one true = one
no_step s exprs result n source xs one false = one

-- ---- the induction

mutual
  statement_runs : (body : BodyTree) (s : Scene) (exprs : List ExprTree) (result : Option IntType) (u : Setup s) (out again : Bool) (mode : Onward) (n : ℕ) → IsTrue (is_sound (tests_of s exprs result) out again body) → body_nodes body ≤ 2 ^ 28 → LeadsOn mode again → length s.names.vars ≤ n →
      HasTemps s.core_variables n (statement_in (lowered_with s exprs) body mode n).temps → Runs s result mode n (statement body (code_of s exprs)) (statement_in (lowered_with s exprs) body mode n).stmts
  statement_runs (b.block sp statements) s exprs result u out again mode n ok small leads from temps = all_run statements s exprs result u out again mode n ok (omega (arith, small)) leads from temps
  statement_runs (b.nothing sp) s exprs result u out again mode n ok small leads from temps = λ st st' flag al. record { after = record { alike = al; kept = kept_same s (but_flag mode n) st'.memory }; same = flag }
  statement_runs (b.evaluate sp e) s exprs result u out again mode n ok small leads from temps =
      any_mode s result mode n (statement (b.evaluate sp e) (code_of s exprs)) (effects_in (scope_of s) (expr_at exprs e) n).stmts u.fits
      (passes_runs s result n (value_of (expr_at exprs e) (context_of s)) (effects_in (scope_of s) (expr_at exprs e) n).stmts (dropped_passes u.laws s (expr_at exprs e) n u.fits (found s exprs result any_type e ok).typed from temps))
  statement_runs (b.declare d) s exprs result u out again mode n ok small leads from temps =
      any_mode s result mode n (src.declared d.declarators (code_of s exprs)) (l.declared (lowered_with s exprs) d.declarators n).stmts u.fits (declared_runs s exprs result u d.declarators n ok from temps)
  statement_runs (b.choose sp e x y) s exprs result u out again mode n ok small leads from temps =
      let v = value_at s exprs e n in
      let first = statement_in (lowered_with s exprs) x mode (past n v.temps) in
      let second = otherwise_in (lowered_with s exprs) y mode (past (past n v.temps) first.temps) in
      let parts = three s.core_variables n v.temps first.temps second.temps temps in
      let sound = both_hold_second (expr_fits (tests_of s exprs result) is_scalar e) (is_sound (tests_of s exprs result) out again x && else_sound (tests_of s exprs result) out again y) ok in
      choice_runs u.laws s result mode (expr_at exprs e) n (past n v.temps) (past (past n v.temps) first.temps) (statement x (code_of s exprs)) (otherwise_of y (code_of s exprs)) first.stmts second.stmts u.fits
      (found s exprs result is_scalar e (both_hold_first (expr_fits (tests_of s exprs result) is_scalar e) (is_sound (tests_of s exprs result) out again x && else_sound (tests_of s exprs result) out again y) ok)) from parts.first (omega arith) (omega arith)
      (statement_runs x s exprs result u out again mode (past n v.temps) (both_hold_first (is_sound (tests_of s exprs result) out again x) (else_sound (tests_of s exprs result) out again y) sound) (omega (arith, small)) leads (low (length s.names.vars) n v.temps from) parts.second)
      (else_runs y s exprs result u out again mode (past (past n v.temps) first.temps) (both_hold_second (is_sound (tests_of s exprs result) out again x) (else_sound (tests_of s exprs result) out again y) sound) (omega (arith, small)) leads (low (length s.names.vars) (past n v.temps) first.temps (low (length s.names.vars) n v.temps from)) parts.third)
  statement_runs (b.while_true sp e x) s exprs result u out again mode n ok small leads from temps =
      let test = l.tested (lowered_with s exprs) (Some e) n in
      let body = statement_in (lowered_with s exprs) x to_head (past n test.temps) in
      any_mode s result mode n (statement (b.while_true sp e x) (code_of s exprs)) (statement_in (lowered_with s exprs) (b.while_true sp e x) mode n).stmts u.fits
      (plain_loop s result n (λ first. src.tested (Some e) (code_of s exprs) (λ st1. statement x (code_of s exprs) st1 >>= body_round)) (test.stmts ++ body.stmts) sp
      (λ first. tested_rounds u.laws s exprs result (Some e) n (λ st1. statement x (code_of s exprs) st1 >>= body_round) body.stmts u.fits (both_hold_first (expr_fits (tests_of s exprs result) is_scalar e) (is_sound (tests_of s exprs result) true true x) ok) from (temps_first s.core_variables n test.temps body.temps temps)
      (body_rounds s result (past n test.temps) (statement x (code_of s exprs)) body.stmts
      (statement_runs x s exprs result u true true to_head (past n test.temps) (both_hold_second (expr_fits (tests_of s exprs result) is_scalar e) (is_sound (tests_of s exprs result) true true x) ok) (omega (arith, small)) tt (low (length s.names.vars) n test.temps from) (temps_rest s.core_variables n test.temps body.temps temps)))))
  statement_runs (b.do_while sp x e) s exprs result u out again mode n ok small leads from temps =
      let test = l.tested (lowered_with s exprs) (Some e) (n + 1) in
      let body = statement_in (lowered_with s exprs) x to_head (past (n + 1) test.temps) in
      let behind = subst (λ k. HasTemps s.core_variables k (test.temps ++ body.temps)) (as_plus_one n) temps.1 in
      let above : length s.names.vars ≤ n + 1 = omega (arith, from) in
      let runs = body_rounds s result (past (n + 1) test.temps) (statement x (code_of s exprs)) body.stmts
      (statement_runs x s exprs result u true true to_head (past (n + 1) test.temps) (both_hold_first (is_sound (tests_of s exprs result) true true x) (expr_fits (tests_of s exprs result) is_scalar e) ok) (omega (arith, small)) tt (low (length s.names.vars) (n + 1) test.temps above) (temps_rest s.core_variables (n + 1) test.temps body.temps behind)) in
      any_mode s result mode n (statement (b.do_while sp x e) (code_of s exprs)) (statement_in (lowered_with s exprs) (b.do_while sp x e) mode n).stmts u.fits
      (flagged_loop s result n (λ first. src.tested_later first e (code_of s exprs) (λ st1. statement x (code_of s exprs) st1 >>= body_round)) test.stmts body.stmts sp u.fits from temps.0
      (rounds_up s result (n + 1) (past (n + 1) test.temps) (λ st1. statement x (code_of s exprs) st1 >>= body_round) body.stmts (omega arith) runs)
      (tested_rounds u.laws s exprs result (Some e) (n + 1) (λ st1. statement x (code_of s exprs) st1 >>= body_round) body.stmts u.fits (both_hold_second (is_sound (tests_of s exprs result) true true x) (expr_fits (tests_of s exprs result) is_scalar e) ok) above (temps_first s.core_variables (n + 1) test.temps body.temps behind) runs))
  statement_runs (b.for_each sp begin test None x) s exprs result u out again mode n ok small leads from temps =
      let first = l.begun (lowered_with s exprs) begin n in
      let k = past n first.temps in
      let t1 = l.tested (lowered_with s exprs) test k in
      let body = statement_in (lowered_with s exprs) x to_head (past k t1.temps) in
      let behind = temps_rest s.core_variables n first.temps (t1.temps ++ body.temps) temps in
      let rest = both_hold_second (for_init_fits (tests_of s exprs result) begin) (option_fits (tests_of s exprs result) is_scalar test && (true && is_sound (tests_of s exprs result) true true x)) ok in
      let above = low (length s.names.vars) n first.temps from in
      let rounds = tested_rounds u.laws s exprs result test k (λ st1. statement x (code_of s exprs) st1 >>= body_round) body.stmts u.fits (both_hold_first (option_fits (tests_of s exprs result) is_scalar test) (true && is_sound (tests_of s exprs result) true true x) rest) above (temps_first s.core_variables k t1.temps body.temps behind)
      (body_rounds s result (past k t1.temps) (statement x (code_of s exprs)) body.stmts
      (statement_runs x s exprs result u true true to_head (past k t1.temps) (both_hold_second true (is_sound (tests_of s exprs result) true true x) (both_hold_second (option_fits (tests_of s exprs result) is_scalar test) (true && is_sound (tests_of s exprs result) true true x) rest)) (omega (arith, small)) tt (low (length s.names.vars) k t1.temps above) (temps_rest s.core_variables k t1.temps body.temps behind))) in
      any_mode s result mode n (statement (b.for_each sp begin test None x) (code_of s exprs)) (statement_in (lowered_with s exprs) (b.for_each sp begin test None x) mode n).stmts u.fits
      (passes_then s result n k (src.for_begins begin (code_of s exprs)) (λ st1. src.looped st1.left (λ first. src.stepped_first first None (code_of s exprs) (src.tested test (code_of s exprs) (λ st2. statement x (code_of s exprs) st2 >>= body_round))) true st1)
      first.stmts (repeat (stmt_trees (t1.stmts ++ body.stmts)) sp ∷ []) (omega arith)
      (begins_pass s exprs result u begin n (both_hold_first (for_init_fits (tests_of s exprs result) begin) (option_fits (tests_of s exprs result) is_scalar test && (true && is_sound (tests_of s exprs result) true true x)) ok) from (temps_first s.core_variables n first.temps (t1.temps ++ body.temps) temps))
      (plain_loop s result k (λ first. src.stepped_first first None (code_of s exprs) (src.tested test (code_of s exprs) (λ st2. statement x (code_of s exprs) st2 >>= body_round))) (t1.stmts ++ body.stmts) sp
      (no_step s exprs result k (src.tested test (code_of s exprs) (λ st2. statement x (code_of s exprs) st2 >>= body_round)) (t1.stmts ++ body.stmts) rounds)))
  statement_runs (b.for_each sp begin test (Some step) x) s exprs result u out again mode n ok small leads from temps =
      let first = l.begun (lowered_with s exprs) begin n in
      let k = past n first.temps in
      let back = l.stepped (lowered_with s exprs) (Some step) (k + 1) in
      let t1 = l.tested (lowered_with s exprs) test (past (k + 1) back.temps) in
      let body = statement_in (lowered_with s exprs) x to_head (past (past (k + 1) back.temps) t1.temps) in
      let told = temps_rest s.core_variables n first.temps (counting int ∷ (back.temps ++ (t1.temps ++ body.temps))) temps in
      let all_behind = subst (λ j. HasTemps s.core_variables j (back.temps ++ (t1.temps ++ body.temps))) (as_plus_one k) told.1 in
      let behind = temps_rest s.core_variables (k + 1) back.temps (t1.temps ++ body.temps) all_behind in
      let rest = both_hold_second (for_init_fits (tests_of s exprs result) begin) (option_fits (tests_of s exprs result) is_scalar test && (expr_fits (tests_of s exprs result) any_type step && is_sound (tests_of s exprs result) true true x)) ok in
      let last = both_hold_second (option_fits (tests_of s exprs result) is_scalar test) (expr_fits (tests_of s exprs result) any_type step && is_sound (tests_of s exprs result) true true x) rest in
      let above = low (length s.names.vars) n first.temps from in
      let above1 : length s.names.vars ≤ k + 1 = omega (arith, above) in
      let above2 = low (length s.names.vars) (k + 1) back.temps above1 in
      let rounds = tested_rounds u.laws s exprs result test (past (k + 1) back.temps) (λ st1. statement x (code_of s exprs) st1 >>= body_round) body.stmts u.fits (both_hold_first (option_fits (tests_of s exprs result) is_scalar test) (expr_fits (tests_of s exprs result) any_type step && is_sound (tests_of s exprs result) true true x) rest) above2 (temps_first s.core_variables (past (k + 1) back.temps) t1.temps body.temps behind)
      (body_rounds s result (past (past (k + 1) back.temps) t1.temps) (statement x (code_of s exprs)) body.stmts
      (statement_runs x s exprs result u true true to_head (past (past (k + 1) back.temps) t1.temps) (both_hold_second (expr_fits (tests_of s exprs result) any_type step) (is_sound (tests_of s exprs result) true true x) last) (omega (arith, small)) tt (low (length s.names.vars) (past (k + 1) back.temps) t1.temps above2) (temps_rest s.core_variables (past (k + 1) back.temps) t1.temps body.temps behind))) in
      any_mode s result mode n (statement (b.for_each sp begin test (Some step) x) (code_of s exprs)) (statement_in (lowered_with s exprs) (b.for_each sp begin test (Some step) x) mode n).stmts u.fits
      (passes_then s result n k (src.for_begins begin (code_of s exprs)) (λ st1. src.looped st1.left (λ first. src.stepped_first first (Some step) (code_of s exprs) (src.tested test (code_of s exprs) (λ st2. statement x (code_of s exprs) st2 >>= body_round))) true st1)
      first.stmts (hold k (number 1) ∷ repeat (stmt_trees (laps k back.stmts (t1.stmts ++ body.stmts))) sp ∷ []) (omega arith)
      (begins_pass s exprs result u begin n (both_hold_first (for_init_fits (tests_of s exprs result) begin) (option_fits (tests_of s exprs result) is_scalar test && (expr_fits (tests_of s exprs result) any_type step && is_sound (tests_of s exprs result) true true x)) ok) from (temps_first s.core_variables n first.temps (counting int ∷ (back.temps ++ (t1.temps ++ body.temps))) temps))
      (flagged_loop s result k (λ first. src.stepped_first first (Some step) (code_of s exprs) (src.tested test (code_of s exprs) (λ st2. statement x (code_of s exprs) st2 >>= body_round))) back.stmts (t1.stmts ++ body.stmts) sp u.fits above told.0
      (rounds_up s result (k + 1) (past (k + 1) back.temps) (src.tested test (code_of s exprs) (λ st2. statement x (code_of s exprs) st2 >>= body_round)) (t1.stmts ++ body.stmts) (omega arith) rounds)
      (passes_rounds s result (k + 1) (past (k + 1) back.temps) (value_of (expr_at exprs step) (context_of s)) (src.tested test (code_of s exprs) (λ st2. statement x (code_of s exprs) st2 >>= body_round)) back.stmts (t1.stmts ++ body.stmts) (omega arith)
      (dropped_passes u.laws s (expr_at exprs step) (k + 1) u.fits (found s exprs result any_type step (both_hold_first (expr_fits (tests_of s exprs result) any_type step) (is_sound (tests_of s exprs result) true true x) last)).typed above1 (temps_first s.core_variables (k + 1) back.temps (t1.temps ++ body.temps) all_behind)) rounds)))
  statement_runs (b.give_back sp None) s exprs result u out again mode n ok small leads from temps =
      any_mode s result mode n (statement (b.give_back sp None) (code_of s exprs)) (give_back None ∷ []) u.fits
      (λ st st' flag al. record { after = record { alike = al; kept = kept_same s (but_flag nowhere n) st'.memory }; same = no_result result nothing None ok })
  statement_runs (b.give_back sp (Some e)) s exprs result u out again mode n ok small leads from temps =
      any_mode s result mode n (statement (b.give_back sp (Some e)) (code_of s exprs)) (statement_in (lowered_with s exprs) (b.give_back sp (Some e)) mode n).stmts u.fits
      (returns_run u.laws s result (expr_at exprs e) n u.fits (found s exprs result (λ t1. both_int (integer_of t1) result) e ok) from temps)
  statement_runs (b.stop_loop sp) s exprs result u out again mode n ok small leads from temps = λ st st' flag al. record { after = record { alike = al; kept = kept_same s (but_flag mode n) st'.memory }; same = flag }
  statement_runs (b.next_turn sp) s exprs result u out again mode n ok small leads from temps = onwards_run s result mode n u.fits (stands mode (subst (λ z. LeadsOn mode z) ok leads))
  statement_runs (b.switch sp e u1 sections) s exprs result u out again mode n ok small leads from temps =
      let v = value_at s exprs e n in
      let k = past n v.temps in
      let body = sections_in (lowered_with s exprs) sp sections (inside mode (k + 2)) k 0 (k + 3) in
      let rest = both_hold_second (expr_fits (tests_of s exprs result) (promotes_to u1) e) (labels_fit u1 (labels_of sections) && sections_sound (tests_of s exprs result) again sections) ok in
      let few = count_small sections in
      switch_runs u.laws s result (expr_at exprs e) u1 mode n sections sp (λ ch. sections_from sections ch (code_of s exprs)) body u.fits
      (found s exprs result (promotes_to u1) e (both_hold_first (expr_fits (tests_of s exprs result) (promotes_to u1) e) (labels_fit u1 (labels_of sections) && sections_sound (tests_of s exprs result) again sections) ok))
      (both_hold_first (labels_fit u1 (labels_of sections)) (sections_sound (tests_of s exprs result) again sections) rest) from temps
      (λ ch less. sections_run sections s exprs result u again (inside mode (k + 2)) sp k 0 (k + 3) ch ch (both_hold_second (labels_fit u1 (labels_of sections)) (sections_sound (tests_of s exprs result) again sections) rest) (omega (arith, small)) (leads_inside mode again (k + 2) leads)
      (low (length s.names.vars) n v.temps from) (omega arith) (other_flag mode (k + 2) (k + 2) (k + 1) (omega arith) (omega arith))
      (three s.core_variables n v.temps (switch_temps u1) body.temps temps).third (omega (arith, few, small)) (omega (arith, less, few, small)) (skips_first ch))

  else_runs : (body : ElseTree) (s : Scene) (exprs : List ExprTree) (result : Option IntType) (u : Setup s) (out again : Bool) (mode : Onward) (n : ℕ) → IsTrue (else_sound (tests_of s exprs result) out again body) → else_nodes body ≤ 2 ^ 28 → LeadsOn mode again → length s.names.vars ≤ n →
      HasTemps s.core_variables n (otherwise_in (lowered_with s exprs) body mode n).temps → Runs s result mode n (otherwise_of body (code_of s exprs)) (otherwise_in (lowered_with s exprs) body mode n).stmts
  else_runs no_else s exprs result u out again mode n ok small leads from temps = λ st st' flag al. record { after = record { alike = al; kept = kept_same s (but_flag mode n) st'.memory }; same = flag }
  else_runs (otherwise x) s exprs result u out again mode n ok small leads from temps = statement_runs x s exprs result u out again mode n ok small leads from temps

  all_run : (bodies : BodyTrees) (s : Scene) (exprs : List ExprTree) (result : Option IntType) (u : Setup s) (out again : Bool) (mode : Onward) (n : ℕ) → IsTrue (all_sound (tests_of s exprs result) out again bodies) → bodies_nodes bodies ≤ 2 ^ 28 → LeadsOn mode again → length s.names.vars ≤ n →
      HasTemps s.core_variables n (all_in (lowered_with s exprs) bodies mode n).temps → Runs s result mode n (all_of bodies (code_of s exprs)) (all_in (lowered_with s exprs) bodies mode n).stmts
  all_run no_bodies s exprs result u out again mode n ok small leads from temps = λ st st' flag al. record { after = record { alike = al; kept = kept_same s (but_flag mode n) st'.memory }; same = flag }
  all_run (body_and x rest) s exprs result u out again mode n ok small leads from temps =
      let first = statement_in (lowered_with s exprs) x mode n in
      let second = all_in (lowered_with s exprs) rest mode (past n first.temps) in
      runs_then s result mode n (past n first.temps) (statement x (code_of s exprs)) (all_of rest (code_of s exprs)) first.stmts second.stmts (omega arith)
      (statement_runs x s exprs result u out again mode n (both_hold_first (is_sound (tests_of s exprs result) out again x) (all_sound (tests_of s exprs result) out again rest) ok) (omega (arith, small)) leads from (temps_first s.core_variables n first.temps second.temps temps))
      (all_run rest s exprs result u out again mode (past n first.temps) (both_hold_second (is_sound (tests_of s exprs result) out again x) (all_sound (tests_of s exprs result) out again rest) ok) (omega (arith, small)) leads (low (length s.names.vars) n first.temps from) (temps_rest s.core_variables n first.temps second.temps temps))

  sections_run : (sections : SectionTrees) (s : Scene) (exprs : List ExprTree) (result : Option IntType) (u : Setup s) (again : Bool) (mode : Onward) (sp : Span) (k m n skipped ch : ℕ) → IsTrue (sections_sound (tests_of s exprs result) again sections) → section_nodes sections ≤ 2 ^ 28 → LeadsOn mode again →
      length s.names.vars ≤ k → k + 1 < n → is_flag mode (k + 1) ≡ false → HasTemps s.core_variables n (sections_in (lowered_with s exprs) sp sections mode k m n).temps → m + count_of sections ≤ 2 ^ 30 → ch ≤ 2 ^ 30 → Skips ch m skipped →
      RunsWhere (Picks s (k + 1) ch) s result mode n (sections_from sections skipped (code_of s exprs)) (sections_in (lowered_with s exprs) sp sections mode k m n).stmts
  sections_run no_sections s exprs result u again mode sp k m n skipped ch ok small leads from near other temps few few' skips = λ st st' flag picks al. record { after = record { alike = al; kept = kept_same s (but_flag mode n) st'.memory }; same = flag }
  sections_run (section_and (section at label stmts) rest) s exprs result u again mode sp k m n zero ch ok small leads from near other temps few few' skips =
      let body = all_in (lowered_with s exprs) stmts mode n in
      let others = sections_in (lowered_with s exprs) sp rest mode k (m + 1) (past n body.temps) in
      section_run s result mode n (past n body.temps) (k + 1) m ch sp (all_of stmts (code_of s exprs)) (sections_from rest zero (code_of s exprs)) body.stmts others.stmts u.fits (omega (arith, from)) near other (omega arith) skips (omega (arith, few)) few'
      (all_run stmts s exprs result u true again mode n (both_hold_first (all_sound (tests_of s exprs result) true again stmts) (sections_sound (tests_of s exprs result) again rest) ok) (omega (arith, small)) leads (omega (arith, from, near)) (temps_first s.core_variables n body.temps others.temps temps))
      (sections_run rest s exprs result u again mode sp k (m + 1) (past n body.temps) zero ch (both_hold_second (all_sound (tests_of s exprs result) true again stmts) (sections_sound (tests_of s exprs result) again rest) ok) (omega (arith, small)) leads from (omega (arith, near)) other (temps_rest s.core_variables n body.temps others.temps temps) (omega (arith, few)) few' (omega (arith, skips)))
  sections_run (section_and (section at label stmts) rest) s exprs result u again mode sp k m n (suc skipped) ch ok small leads from near other temps few few' skips =
      let body = all_in (lowered_with s exprs) stmts mode n in
      let others = sections_in (lowered_with s exprs) sp rest mode k (m + 1) (past n body.temps) in
      section_skipped s result mode n (past n body.temps) (k + 1) m ch sp (sections_from rest skipped (code_of s exprs)) body.stmts others.stmts (omega arith) (omega (arith, skips)) (omega (arith, few)) few'
      (sections_run rest s exprs result u again mode sp k (m + 1) (past n body.temps) skipped ch (both_hold_second (all_sound (tests_of s exprs result) true again stmts) (sections_sound (tests_of s exprs result) again rest) ok) (omega (arith, small)) leads from (omega (arith, near)) other (temps_rest s.core_variables n body.temps others.temps temps) (omega (arith, few)) few' (skips_next ch m skipped skips))

pub statements_agree : ValuesAgree → EffectsAgree → ObjectsAgree → DeclarationsAgree → StatementsAgree
statements_agree values effects objects declares s exprs result body out again mode n st st' fits ok small leads from temps flag al =
    statement_runs body s exprs result (record { laws = record { values = values; effects = effects; objects = objects }; declares = declares; fits = fits }) out again mode n ok small leads from temps st st' flag al
