-- What is held behind statements, and choices between statements: `&&`, `||` and `?:`.
use Rattle.std.proofs.Common.{◌≡◌, ◌∙◌, ◌≤◌, ◌<◌, ℕ, zero, suc, ◌+◌, pos, refl, ap, sym, subst, arith, Bool, true, false, not, Option, Some, None, List, [], ◌∷◌, ◌++◌, length, Result, Ok, Err, if◌then◌else◌}
use Rattle.std.specs.Prelude.{slice_get, slice_index_or}
use Rattle.std.specs.Ordering.{int_eq}
use Rattle.pt_base.specs.declared.int_type.IntType.TheVariants as i
use Rattle.pt_base.specs.declared.span.Span.{Span}
use Rattle.pt_int.specs.Operator.{truth}
use Rattle.runs.specs.State.{gives, trapped, spent, ◌>>=◌}
use Rattle.typed_tree.specs.declared.types.VarTy.{VarTy}
use Rattle.typed_tree.specs.declared.types.VarTy.TheVariants.{Int}
use Rattle.typed_tree.specs.declared.link.LogicalOp.{LogicalOp}
use Rattle.typed_tree.specs.declared.link.LogicalOp.TheVariants.{And, Or}
use Rattle.typed_tree.specs.ExpressionTree.{OperandTree, OperandTrees, no_operands, operand_and}
use Rattle.block_memory.specs.declared.cell.Cell as core
use Rattle.block_memory.specs.declared.cell.Cell.TheVariants as cell
use Rattle.block_memory.specs.declared.cell.BlockName.TheVariants.{Local}
use Rattle.block_memory.specs.Blocks.{Blocks}
use Rattle.source_meaning.specs.State.{State, Outcome}
use Rattle.source_meaning.specs.Values as m
use Rattle.source_meaning.specs.Values.{Value, cell_of, is_true, truth_value}
use Rattle.source_meaning.specs.Expressions as e
use Rattle.source_meaning.specs.Expressions.{is_decided, operands_value}
use Rattle.pt_core.specs.CodeTree as t
use Rattle.pt_core.specs.CodeTree.{StmtTree, choose, stmt_trees}
use Rattle.pt_core.specs.Values as v
use Rattle.pt_core.specs.Values.{Stop, ◌>>?◌, holds_in}
use Rattle.pt_core.specs.Statements as c
use Rattle.pt_core.specs.Statements.{Flow, goes_on, broke, continues, returned, after_flow, evaluated, do_all}
use Rattle.lowering.specs.Lowered.{Temp, Lowered, Effects, past, temp, hold}
use Rattle.lowering.specs.Operators.{truth_of}
use Rattle.lowering.specs.Expressions.{where_open}
use Rattle.c_lower_law.proofs.Relations.{core_cell, Scene, world_of, context_of, frame_of, Kept, Alike, Same, After, below}
use Rattle.c_lower_law.proofs.Expressions.{run_all, cell_asked, SameAsked, SameCell, Gives, IsValue, SceneFits}
use Rattle.c_lower_law.proofs.Runs.{bind_bind, run_append, Stops, stops_at, asked_run, asked_asked}
use Rattle.c_lower_law.proofs.Memories.{kept_then}
use Rattle.c_lower_law.proofs.Held.{Holds, with_temp, temp_given, temp_read, hold_then, hold_then_stops, asked_kept, asked_up, not_both, IsNext}
use Rattle.c_lower_law.proofs.Operators.{holds_same, truth_same, truth_stops}
use Rattle.c_lower_law.proofs.Values.{IsNear, GivesNear, Scalar, scalar_cell}

-- ---- a value is held behind statements

pub hold_after : {A B X : Type 0} (s : Scene) (n l k : ℕ) (ty : VarTy) (F : A → X → Type 0) (G : B → core.Cell → Type 0) (source : State → Outcome A) (stmts : List StmtTree) (ask : Blocks → Result X Stop) (e1 : t.ExprTree) (f : A → B) →
    SceneFits s → length s.names.vars ≤ k → l ≤ n → l ≤ k → slice_get s.core_variables k ≡ Some ty → IsNext s F n source stmts ask → ((stop : Stop) (blocks : Blocks) → ask blocks ≡ Err stop → cell_asked s e1 blocks ≡ Err stop) →
    ((a : A) (x : X) (blocks : Blocks) → F a x → ask blocks ≡ Ok x → (y : core.Cell) × (cell_asked s e1 blocks ≡ Ok y) × G (f a) y) →
    IsNext s G l (λ st. source st >>= λ a. gives (f a)) (stmts ++ hold k e1 ∷ []) (cell_asked s (temp k))
hold_after {A} {B} {X} s n l k ty F G source stmts ask e1 f fits far le le1 there h strict make st st' al =
    subst (λ z. SameAsked (Kept s (below l) st'.memory) (Gives s (below l) st'.memory G) (cell_asked s (temp k)) (source st >>= λ a. gives (f a)) z) (sym (run_append s stmts (hold k e1 ∷ []) st'))
    (asked_asked (Kept s (below n) st'.memory) (Kept s (below l) st'.memory) (Gives s (below n) st'.memory F) (Gives s (below l) st'.memory G) ask (cell_asked s (temp k)) (source st) (run_all s stmts st') (λ a. gives (f a)) (run_all s (hold k e1 ∷ []))
    (h st st' al) (λ stop st1' p no. hold_then_stops s k e1 [] stop st1' (strict stop st1'.memory no))
    (λ a st1 x st1' q is. held a st1 st1' q.after (make a x st1'.memory q.facts is)))
  where
    held : (a : A) (st1 : State) (st1' : c.State) → After s (below n) st'.memory st1 st1' → (y : core.Cell) × (cell_asked s e1 st1'.memory ≡ Ok y) × G (f a) y →
        SameAsked (Kept s (below l) st'.memory) (Gives s (below l) st'.memory G) (cell_asked s (temp k)) (gives (f a) st1) (run_all s (hold k e1 ∷ []) st1')
    held a st1 st1' q made =
        let w : Holds s k made.0 st1'.memory st1 (with_temp s k made.0 st1') = temp_given s k made.0 ty st1 st1' fits far there q.alike in
        let kept : Kept s (below l) st'.memory (with_temp s k made.0 st1').memory = kept_then s (below n) (below k) (below l) st'.memory st1'.memory (with_temp s k made.0 st1').memory q.kept w.kept (λ j h. omega (arith, le, h)) (λ j h. omega (arith, le1, h)) in
        subst (λ o. SameAsked (Kept s (below l) st'.memory) (Gives s (below l) st'.memory G) (cell_asked s (temp k)) (gives (f a) st1) o) (sym (hold_then s k e1 [] made.0 st1' made.1)) (
          refl,
          kept,
          subst (λ r. Same (Gives s (below l) st'.memory G) (gives (f a) st1) (evaluated r (with_temp s k made.0 st1') (λ z. gives z))) (sym (temp_read s k made.0 (with_temp s k made.0 st1').memory w.cell))
              (record { after = record { alike = w.alike; kept = kept }; facts = made.2 }),
        )

-- the same behind an expression that stays as it is
pub hold_value : {A : Type 0} (s : Scene) (n l k : ℕ) (ty : VarTy) (F : A → core.Cell → Type 0) (source : State → Outcome A) (stmts : List StmtTree) (e1 : t.ExprTree) →
    SceneFits s → length s.names.vars ≤ k → l ≤ n → l ≤ k → slice_get s.core_variables k ≡ Some ty → IsNext s F n source stmts (cell_asked s e1) → IsNext s F l (λ st. source st >>= λ a. gives a) (stmts ++ hold k e1 ∷ []) (cell_asked s (temp k))
hold_value s n l k ty F source stmts e1 fits far le le1 there h =
    hold_after s n l k ty F F source stmts (cell_asked s e1) e1 (λ a. a) fits far le le1 there h (λ stop blocks no. no) (λ a x blocks f is. (x, is, f))

-- ---- choices between statements

-- nothing comes behind
behind_nothing : (o : c.Outcome Flow) → (o >>= after_flow (λ st. gives goes_on st)) ≡ o
behind_nothing (gives goes_on st) = refl
behind_nothing (gives broke st) = refl
behind_nothing (gives continues st) = refl
behind_nothing (gives (returned x) st) = refl
behind_nothing (trapped trap span st) = refl
behind_nothing (spent st) = refl

-- what a choice does, by the value of its condition
abbrev choosing : Scene → List StmtTree → List StmtTree → c.State → Result core.Cell Stop → c.Outcome Flow
choosing s first second st r =
    (evaluated r st (λ x. if holds_in x then do_all (stmt_trees first) (frame_of s) s.core_calls else do_all (stmt_trees second) (frame_of s) s.core_calls)) >>= after_flow (λ st1. gives goes_on st1)

pub choose_then : (s : Scene) (e1 : t.ExprTree) (first second : List StmtTree) (x : core.Cell) (z : Bool) (st : c.State) → cell_asked s e1 st.memory ≡ Ok x → holds_in x ≡ z →
    run_all s (choose e1 (stmt_trees first) (stmt_trees second) ∷ []) st ≡ (if z then run_all s first st else run_all s second st)
choose_then s e1 first second x z st is holds =
    ap (choosing s first second st) is
    ∙ ap (λ (q : Bool). ((if q then do_all (stmt_trees first) (frame_of s) s.core_calls else do_all (stmt_trees second) (frame_of s) s.core_calls) st) >>= after_flow (λ st1. gives goes_on st1)) holds
    ∙ go z
  where
    go : (q : Bool) → (((if q then do_all (stmt_trees first) (frame_of s) s.core_calls else do_all (stmt_trees second) (frame_of s) s.core_calls) st) >>= after_flow (λ st1. gives goes_on st1)) ≡ (if q then run_all s first st else run_all s second st)
    go true = behind_nothing (run_all s first st)
    go false = behind_nothing (run_all s second st)

pub choose_stops : (s : Scene) (e1 : t.ExprTree) (first second : List StmtTree) (stop : Stop) (st : c.State) → cell_asked s e1 st.memory ≡ Err stop → Stops stop st (run_all s (choose e1 (stmt_trees first) (stmt_trees second) ∷ []) st)
choose_stops s e1 first second stop st is = stops_at stop st (run_all s (choose e1 (stmt_trees first) (stmt_trees second) ∷ []) st) (ap (choosing s first second st) is)

-- ---- `?:`

-- either arm holds the value in temporary k
pub choice_near : (s : Scene) (n l : ℕ) (u : VarTy) (ty : Option VarTy) (k : ℕ) (source one two : State → Outcome Value) (stmts first second : List StmtTree) (e1 : t.ExprTree) → Scalar u → n ≤ l → IsNext s (IsValue s (Some u)) n source stmts (cell_asked s e1) →
    IsNext s (SameCell ty) l one first (cell_asked s (temp k)) → IsNext s (SameCell ty) l two second (cell_asked s (temp k)) →
    IsNext s (SameCell ty) n (λ st. source st >>= λ w. if is_true w then one else two) (stmts ++ choose e1 (stmt_trees first) (stmt_trees second) ∷ []) (cell_asked s (temp k))
choice_near s n l u ty k source one two stmts first second e1 scalar le h h1 h2 st st' al =
    subst (λ z. SameAsked (Kept s (below n) st'.memory) (Gives s (below n) st'.memory (SameCell ty)) (cell_asked s (temp k)) (source st >>= λ w. if is_true w then one else two) z) (sym (run_append s stmts (choose e1 (stmt_trees first) (stmt_trees second) ∷ []) st'))
    (asked_asked (Kept s (below n) st'.memory) (Kept s (below n) st'.memory) (Gives s (below n) st'.memory (IsValue s (Some u))) (Gives s (below n) st'.memory (SameCell ty)) (cell_asked s e1) (cell_asked s (temp k)) (source st) (run_all s stmts st') (λ w. if is_true w then one else two) (run_all s (choose e1 (stmt_trees first) (stmt_trees second) ∷ []))
    (h st st' al) (λ stop st1' p no. choose_stops s e1 first second stop st1' no)
    (λ w st1 x st1' q is.
    subst (λ o. SameAsked (Kept s (below n) st'.memory) (Gives s (below n) st'.memory (SameCell ty)) (cell_asked s (temp k)) ((if is_true w then one else two) st1) o)
    (sym (choose_then s e1 first second x (is_true w) st1' is (ap holds_in q.facts.same ∙ holds_same (cell_of w))))
    (either (is_true w) st1 st1' q.after)))
  where
    more : (source1 : State → Outcome Value) (stmts1 : List StmtTree) → IsNext s (SameCell ty) l source1 stmts1 (cell_asked s (temp k)) → (st1 : State) (st1' : c.State) → After s (below n) st'.memory st1 st1' →
        SameAsked (Kept s (below n) st'.memory) (Gives s (below n) st'.memory (SameCell ty)) (cell_asked s (temp k)) (source1 st1) (run_all s stmts1 st1')
    more source1 stmts1 g st1 st1' q =
        asked_up s n l st'.memory st1'.memory (SameCell ty) (cell_asked s (temp k)) (source1 st1) (run_all s stmts1 st1') le q.kept (g st1 st1' q.alike)

    either : (z : Bool) (st1 : State) (st1' : c.State) → After s (below n) st'.memory st1 st1' →
        SameAsked (Kept s (below n) st'.memory) (Gives s (below n) st'.memory (SameCell ty)) (cell_asked s (temp k)) ((if z then one else two) st1) (if z then run_all s first st1' else run_all s second st1')
    either true st1 st1' q = more one first h1 st1 st1' q
    either false st1 st1' q = more two second h2 st1 st1' q

-- ---- `&&` and `||`

-- the truth so far is in a temporary
abbrev pub IsTruth : Bool → core.Cell → Type 0
IsTruth z x = x ≡ cell.Int (truth z)

pub truth_held : (s : Scene) (n l k : ℕ) (u ty : VarTy) (sp : Span) (source : State → Outcome Value) (stmts : List StmtTree) (e1 : t.ExprTree) → SceneFits s → length s.names.vars ≤ k → l ≤ n → l ≤ k → slice_get s.core_variables k ≡ Some ty → Scalar u →
    IsNext s (IsValue s (Some u)) n source stmts (cell_asked s e1) → IsNext s IsTruth l (λ st. source st >>= λ w. gives (is_true w)) (stmts ++ hold k (truth_of u e1 sp) ∷ []) (cell_asked s (temp k))
truth_held s n l k u ty sp source stmts e1 fits far le le1 there scalar h =
    hold_after s n l k ty (IsValue s (Some u)) IsTruth source stmts (cell_asked s e1) (truth_of u e1 sp) is_true fits far le le1 there h (λ stop blocks no. truth_stops s u e1 sp blocks stop no)
    (λ w x blocks q is. (cell.Int (truth (is_true w)), truth_same s u e1 sp blocks (cell_of w) (scalar_cell (world_of s) u w scalar q.fits) (is ∙ ap (λ z. Ok z) q.same), refl))

-- the next operand, where the truth so far leaves it open
abbrev pub next_truth : LogicalOp → (State → Outcome Bool) → Bool → State → Outcome Bool
next_truth op next z st = if is_decided op z then gives z st else next st

truth_holds : (z : Bool) → holds_in (cell.Int (truth z)) ≡ z
truth_holds true = refl
truth_holds false = refl

pub operand_near : (s : Scene) (n k : ℕ) (op : LogicalOp) (source next : State → Outcome Bool) (stmts inner : List StmtTree) → n ≤ k → IsNext s IsTruth n source stmts (cell_asked s (temp k)) → IsNext s IsTruth k next inner (cell_asked s (temp k)) →
    IsNext s IsTruth n (λ st. source st >>= next_truth op next) (stmts ++ where_open op k inner ∷ []) (cell_asked s (temp k))
operand_near s n k op source next stmts inner le h h1 st st' al =
    subst (λ z. SameAsked (Kept s (below n) st'.memory) (Gives s (below n) st'.memory IsTruth) (cell_asked s (temp k)) (source st >>= next_truth op next) z) (sym (run_append s stmts (where_open op k inner ∷ []) st'))
    (asked_asked (Kept s (below n) st'.memory) (Kept s (below n) st'.memory) (Gives s (below n) st'.memory IsTruth) (Gives s (below n) st'.memory IsTruth) (cell_asked s (temp k)) (cell_asked s (temp k)) (source st) (run_all s stmts st') (next_truth op next) (run_all s (where_open op k inner ∷ []))
    (h st st' al) (λ stop st1' p no. not_both (cell_asked s (temp k) st1'.memory) (slice_index_or (st1'.memory (Local s.frame.depth k)).cells 0 (cell.Int (pos 0))) stop refl no) (λ z st1 x st1' q is. step op z st1 x st1' q is))
  where
    stays : (z : Bool) (st1 : State) (x : core.Cell) (st1' : c.State) → Gives s (below n) st'.memory IsTruth z st1 x st1' → cell_asked s (temp k) st1'.memory ≡ Ok x →
        SameAsked (Kept s (below n) st'.memory) (Gives s (below n) st'.memory IsTruth) (cell_asked s (temp k)) (gives z st1) (gives goes_on st1')
    stays z st1 x st1' q is = (refl, q.after.kept, subst (λ r. Same (Gives s (below n) st'.memory IsTruth) (gives z st1) (evaluated r st1' (λ y. gives y))) (sym is) q)

    goes : (st1 : State) (st1' : c.State) → After s (below n) st'.memory st1 st1' → SameAsked (Kept s (below n) st'.memory) (Gives s (below n) st'.memory IsTruth) (cell_asked s (temp k)) (next st1) (run_all s inner st1')
    goes st1 st1' q = asked_up s n k st'.memory st1'.memory IsTruth (cell_asked s (temp k)) (next st1) (run_all s inner st1') le q.kept (h1 st1 st1' q.alike)

    step : (op1 : LogicalOp) (z : Bool) (st1 : State) (x : core.Cell) (st1' : c.State) → Gives s (below n) st'.memory IsTruth z st1 x st1' → cell_asked s (temp k) st1'.memory ≡ Ok x →
        SameAsked (Kept s (below n) st'.memory) (Gives s (below n) st'.memory IsTruth) (cell_asked s (temp k)) (next_truth op1 next z st1) (run_all s (where_open op1 k inner ∷ []) st1')
    step And true st1 x st1' q is = subst (λ o. SameAsked (Kept s (below n) st'.memory) (Gives s (below n) st'.memory IsTruth) (cell_asked s (temp k)) (next st1) o) (sym (choose_then s (temp k) inner [] x true st1' is (ap holds_in q.facts ∙ truth_holds true))) (goes st1 st1' q.after)
    step And false st1 x st1' q is = subst (λ o. SameAsked (Kept s (below n) st'.memory) (Gives s (below n) st'.memory IsTruth) (cell_asked s (temp k)) (gives false st1) o) (sym (choose_then s (temp k) inner [] x false st1' is (ap holds_in q.facts ∙ truth_holds false))) (stays false st1 x st1' q is)
    step Or true st1 x st1' q is = subst (λ o. SameAsked (Kept s (below n) st'.memory) (Gives s (below n) st'.memory IsTruth) (cell_asked s (temp k)) (gives true st1) o) (sym (choose_then s (temp k) [] inner x true st1' is (ap holds_in q.facts ∙ truth_holds true))) (stays true st1 x st1' q is)
    step Or false st1 x st1' q is = subst (λ o. SameAsked (Kept s (below n) st'.memory) (Gives s (below n) st'.memory IsTruth) (cell_asked s (temp k)) (next st1) o) (sym (choose_then s (temp k) [] inner x false st1' is (ap holds_in q.facts ∙ truth_holds false))) (goes st1 st1' q.after)

-- a decided truth stays
decided_stays : (rest : OperandTrees) (op : LogicalOp) (z : Bool) (cx : e.Context) (st : State) → is_decided op z ≡ true → operands_value rest op z cx st ≡ gives (truth_value z) st
decided_stays no_operands op z cx st h = refl
decided_stays (operand_and o rest) op z cx st h = ap (λ (q : Bool). if q then gives (truth_value z) st else (e.operand_value o cx st >>= λ w. operands_value rest op (is_true w) cx)) h

-- the operands behind one
pub operands_split : (rest : OperandTrees) (op : LogicalOp) (o : OperandTree) (cx : e.Context) (r : Outcome Bool) →
    (r >>= λ z. operands_value (operand_and o rest) op z cx) ≡ ((r >>= next_truth op (λ st. e.operand_value o cx st >>= λ w. gives (is_true w))) >>= λ z. operands_value rest op z cx)
operands_split rest op o cx (gives z st) = go (is_decided op z) refl
  where
    go : (q : Bool) → is_decided op z ≡ q → (if q then gives (truth_value z) st else (e.operand_value o cx st >>= λ w. operands_value rest op (is_true w) cx)) ≡
        ((if q then gives z st else (e.operand_value o cx st >>= λ w. gives (is_true w))) >>= λ z1. operands_value rest op z1 cx)
    go true h = sym (decided_stays rest op z cx st h)
    go false h = sym (bind_bind (e.operand_value o cx st) (λ w. gives (is_true w)) (λ z1. operands_value rest op z1 cx))
operands_split rest op o cx (trapped trap span st) = refl
operands_split rest op o cx (spent st) = refl

-- where no operand is left
pub truth_value_near : (s : Scene) (n k : ℕ) (source : State → Outcome Bool) (stmts : List StmtTree) → IsNext s IsTruth n source stmts (cell_asked s (temp k)) → IsNext s (SameCell (Some (Int i.Int))) n (λ st. source st >>= λ z. gives (truth_value z)) stmts (cell_asked s (temp k))
truth_value_near s n k source stmts h st st' al =
    asked_kept (Kept s (below n) st'.memory) (Gives s (below n) st'.memory IsTruth) (Gives s (below n) st'.memory (SameCell (Some (Int i.Int)))) (cell_asked s (temp k)) (source st) (run_all s stmts st') truth_value (h st st' al)
    (λ z st1 x st1' q. record { after = q.after; facts = q.facts })
