-- Statements one after the other, however control goes on.
use Rattle.std.proofs.Common.{◌≡◌, ◌∙◌, ◌≤◌, ◌<◌, inr, ℕ, zero, suc, ◌+◌, pos, refl, ap, sym, subst, arith, Bool, true, false, Option, Some, None, List, [], ◌∷◌, ◌++◌, length, Result, Ok, Err, if◌then◌else◌}
use Rattle.std.specs.Prelude.{IsTrue, slice_get}
use Rattle.pt_base.specs.declared.int_type.IntType.{IntType}
use Rattle.runs.specs.State.{gives, trapped, spent, ◌>>=◌, take_turn}
use Rattle.typed_tree.specs.declared.types.VarTy.{VarTy}
use Rattle.block_memory.specs.declared.cell.Cell as core
use Rattle.block_memory.specs.declared.cell.Cell.TheVariants.{Int}
use Rattle.block_memory.specs.declared.cell.BlockName.TheVariants.{Local}
use Rattle.block_memory.specs.Block as b
use Rattle.block_memory.specs.Blocks.{Blocks}
use Rattle.source_meaning.specs.State.{State, Outcome}
use Rattle.source_meaning.specs.Statements as src
use Rattle.pt_core.specs.CodeTree as t
use Rattle.pt_core.specs.CodeTree.{StmtTree, stmt_trees}
use Rattle.pt_core.specs.Values.{Stop}
use Rattle.pt_core.specs.Statements as c
use Rattle.pt_core.specs.Statements.{goes_on, broke, continues, returned, after_flow, does, evaluated}
use Rattle.lowering.specs.Lowered.{hold, temp}
use Rattle.lowering.specs.Statements.{Onward, nowhere, to_head, past_flag}
use Rattle.c_lower_law.proofs.Relations.{Scene, frame_of, SameSeen, Kept, Alike, Same, After, below}
use Rattle.c_lower_law.proofs.Expressions.{run_all, cell_asked, Gives, SceneFits, SameResult}
use Rattle.c_lower_law.proofs.Statements.{is_flag, but_flag, FlagIs, LeadsOn, Continues, SameFlow, GivesFlow}
use Rattle.c_lower_law.proofs.Runs.{ok_then, err_as, spent_as, same_bind, same_weaken, run_append}
use Rattle.c_lower_law.proofs.Memories.{kept_then, kept_less, kept_same}
use Rattle.c_lower_law.proofs.Held.{own_length}

-- ---- equations

flow_itself : (o : c.Outcome c.Flow) → (o >>= after_flow (λ st. gives goes_on st)) ≡ o
flow_itself (gives goes_on st) = refl
flow_itself (gives broke st) = refl
flow_itself (gives continues st) = refl
flow_itself (gives (returned v) st) = refl
flow_itself (trapped trap span st) = refl
flow_itself (spent st) = refl

-- one statement
pub run_one : (s : Scene) (x : StmtTree) (st : c.State) → run_all s (x ∷ []) st ≡ does x (frame_of s) s.core_calls st
run_one s x st = flow_itself (does x (frame_of s) s.core_calls st)

-- the source goes on with what comes to something at once
pub same_next : {A B X : Type 0} (Q : A → State → X → c.State → Type 0) (R : B → State → X → c.State → Type 0) (o : Outcome A) (o' : c.Outcome X) (k : A → State → Outcome B) →
    Same Q o o' → ((a : A) (st : State) (x : X) (st' : c.State) → Q a st x st' → Same R (k a st) (gives x st')) → Same R (o >>= k) o'
same_next Q R o (gives x st') k h on = ok_then Q (λ z. Same R z (gives x st')) o k x st' h (λ a st q. on a st x st' q)
same_next Q R o (trapped trap span st') k h on = err_as Q R o k trap span st' h
same_next Q R o (spent st') k h on = spent_as Q R o k st' h

-- a turn is taken in both
pub turn_same : {A X : Type 0} (Q : A → State → X → c.State → Type 0) (left left' : ℕ) (st : State) (st' : c.State) (k : State → Outcome A) (k' : c.State → c.Outcome X) → left' ≡ left → SameSeen st st' →
    ((rest : ℕ) → left ≡ suc rest → Same Q (k (record st { left = rest })) (k' (record st' { left = rest }))) → Same Q (take_turn left st k) (take_turn left' st' k')
turn_same Q zero zero st st' k k' e seen on = seen
turn_same Q zero (suc left') st st' k k' e seen on = cc
turn_same Q (suc left) zero st st' k k' e seen on = cc
turn_same {A} {X} Q (suc left) (suc left') st st' k k' e seen on = subst (λ l. Same Q (k (record st { left = left })) (k' (record st' { left = l }))) (same e) (on left refl)
  where
    same : suc left' ≡ suc left → left ≡ left'
    same e = cc

-- fewer turns are left in both
pub alike_left : (s : Scene) (st : State) (st' : c.State) (left : ℕ) → Alike s st st' → Alike s (record st { left = left }) (record st' { left = left })
alike_left s st st' left a = record {
  objects = a.objects;
  room = a.room;
  fits = a.fits;
  sized = a.sized;
  hosts = a.hosts;
  input = a.input;
  seen = record { events = a.seen.events; left = refl };
}

-- ---- the flag of a switch

-- a temporary that is kept
pub temp_kept : (s : Scene) (n k : ℕ) (x y : Blocks) (cell : core.Cell) → SceneFits s → Kept s (below n) x y → length s.names.vars ≤ k → k < n → (x (Local s.frame.depth k)).cells ≡ cell ∷ [] → (y (Local s.frame.depth k)).cells ≡ cell ∷ []
temp_kept s n k x y cell fits kept far near is =
    let own = own_length s fits in
    ap (λ (z : b.Block). z.cells) (kept s.frame.depth k (omega (arith, own, far)) (inr (refl, near))) ∙ is

pub flag_kept : (s : Scene) (mode : Onward) (n v : ℕ) (x y : Blocks) → SceneFits s → Kept s (below n) x y → FlagIs s mode n v x → FlagIs s mode n v y
flag_kept s nowhere n v x y fits kept h = tt
flag_kept s to_head n v x y fits kept h = tt
flag_kept s (past_flag k) n v x y fits kept h = (h.0, h.1, temp_kept s n k x y (Int (pos v)) fits kept h.0 h.1 h.2)

pub flag_up : (s : Scene) (mode : Onward) (n m v : ℕ) (x : Blocks) → n ≤ m → FlagIs s mode n v x → FlagIs s mode m v x
flag_up s nowhere n m v x le h = tt
flag_up s to_head n m v x le h = tt
flag_up s (past_flag k) n m v x le h = let near = h.1 in (h.0, omega (arith, le, near), h.2)

-- it lies as far down as it did
pub flag_down : (s : Scene) (mode : Onward) (n m v w : ℕ) (x y : Blocks) → FlagIs s mode n v x → FlagIs s mode m w y → FlagIs s mode n w y
flag_down s nowhere n m v w x y before h = tt
flag_down s to_head n m v w x y before h = tt
flag_down s (past_flag k) n m v w x y before h = (h.0, before.1, h.2)

continues_down : (s : Scene) (mode : Onward) (n m v : ℕ) (x y : Blocks) (flow : c.Flow) → FlagIs s mode n v x → Continues s mode m y flow → Continues s mode n y flow
continues_down s nowhere n m v x y flow before h = h
continues_down s to_head n m v x y flow before h = h
continues_down s (past_flag k) n m v x y flow before h = (h.0, flag_down s (past_flag k) n m v 1 x y before h.1)

flow_down : (s : Scene) (result : Option IntType) (mode : Onward) (n m v : ℕ) (x y : Blocks) (flow : src.Flow) (flow' : c.Flow) → FlagIs s mode n v x → SameFlow flow flow' s result mode m y → SameFlow flow flow' s result mode n y
flow_down s result mode n m v x y src.goes_on goes_on before h = flag_down s mode n m v 0 x y before h
flow_down s result mode n m v x y src.goes_on broke before h = h
flow_down s result mode n m v x y src.goes_on continues before h = h
flow_down s result mode n m v x y src.goes_on (returned z) before h = h
flow_down s result mode n m v x y src.broke goes_on before h = h
flow_down s result mode n m v x y src.broke broke before h = flag_down s mode n m v 0 x y before h
flow_down s result mode n m v x y src.broke continues before h = h
flow_down s result mode n m v x y src.broke (returned z) before h = h
flow_down s result mode n m v x y src.continues flow' before h = continues_down s mode n m v x y flow' before h
flow_down s result mode n m v x y (src.returned w) goes_on before h = h
flow_down s result mode n m v x y (src.returned w) broke before h = h
flow_down s result mode n m v x y (src.returned w) continues before h = h
flow_down s result mode n m v x y (src.returned w) (returned z) before h = h

-- ---- statements of the source, lowered with temporaries from n on

abbrev pub Runs : Scene → Option IntType → Onward → ℕ → (State → Outcome src.Flow) → List StmtTree → Type 0
Runs s result mode n source stmts = (st : State) (st' : c.State) → FlagIs s mode n 0 st'.memory → Alike s st st' → Same (GivesFlow s result mode n st'.memory) (source st) (run_all s stmts st')

-- from states alone of which this is told
abbrev pub RunsWhere : (Blocks → Type 0) → Scene → Option IntType → Onward → ℕ → (State → Outcome src.Flow) → List StmtTree → Type 0
RunsWhere Told s result mode n source stmts = (st : State) (st' : c.State) → FlagIs s mode n 0 st'.memory → Told st'.memory → Alike s st st' → Same (GivesFlow s result mode n st'.memory) (source st) (run_all s stmts st')

-- what goes on, whatever it gives
abbrev pub Passes : {A : Type 0} → Scene → ℕ → (State → Outcome A) → List StmtTree → Type 0
Passes s n source stmts = (st : State) (st' : c.State) → Alike s st st' → Same (Gives s (below n) st'.memory (λ a flow. flow ≡ goes_on)) (source st) (run_all s stmts st')

-- what is kept from a later memory on
pub flow_up : (s : Scene) (result : Option IntType) (mode : Onward) (n m : ℕ) (x y : Blocks) (flow : src.Flow) (st : State) (flow' : c.Flow) (st' : c.State) → n ≤ m → FlagIs s mode n 0 x → Kept s (but_flag mode n) x y →
    GivesFlow s result mode m y flow st flow' st' → GivesFlow s result mode n x flow st flow' st'
flow_up s result mode n m x y flow st flow' st' le before kept g = record {
  after = record { alike = g.after.alike; kept = kept_then s (but_flag mode n) (but_flag mode m) (but_flag mode n) x y st'.memory kept g.after.kept (λ k h. h) (λ k h. let less = h.0 in (omega (arith, le, less), h.1)) };
  same = flow_down s result mode n m 0 x st'.memory flow flow' before g.same;
}

-- at `continue` no statement behind it is run
continues_past : (s : Scene) (mode : Onward) (n : ℕ) (y : Blocks) (flow : c.Flow) (rest : c.State → c.Outcome c.Flow) (st : c.State) → Continues s mode n y flow → gives flow st ≡ after_flow rest flow st
continues_past s nowhere n y flow rest st h = absurd h
continues_past s to_head n y goes_on rest st h = cc
continues_past s to_head n y broke rest st h = refl
continues_past s to_head n y continues rest st h = refl
continues_past s to_head n y (returned x) rest st h = refl
continues_past s (past_flag k) n y goes_on rest st h = never h.0
  where
    never : goes_on ≡ broke → gives goes_on st ≡ rest st
    never e = cc
continues_past s (past_flag k) n y broke rest st h = refl
continues_past s (past_flag k) n y continues rest st h = refl
continues_past s (past_flag k) n y (returned x) rest st h = refl

-- one after the other; what is told lasts
pub runs_then_where : (Told : Blocks → Type 0) (s : Scene) (result : Option IntType) (mode : Onward) (n m : ℕ) (first second : State → Outcome src.Flow) (xs ys : List StmtTree) → n ≤ m → ((x y : Blocks) → Kept s (but_flag mode n) x y → Told x → Told y) →
    Runs s result mode n first xs → RunsWhere Told s result mode m second ys → RunsWhere Told s result mode n (λ st. first st >>= src.after_flow second) (xs ++ ys)
runs_then_where Told s result mode n m first second xs ys le lasts one two st st' flag told a =
    subst (λ o. Same (GivesFlow s result mode n st'.memory) (first st >>= src.after_flow second) o) (sym (run_append s xs ys st'))
    (same_bind (GivesFlow s result mode n st'.memory) (GivesFlow s result mode n st'.memory) (first st) (run_all s xs st') (src.after_flow second) (after_flow (run_all s ys)) (one st st' flag a) go)
  where
    go : (flow : src.Flow) (st1 : State) (flow' : c.Flow) (st1' : c.State) → GivesFlow s result mode n st'.memory flow st1 flow' st1' → Same (GivesFlow s result mode n st'.memory) (src.after_flow second flow st1) (after_flow (run_all s ys) flow' st1')
    go src.goes_on st1 goes_on st1' g =
        same_weaken (GivesFlow s result mode m st1'.memory) (GivesFlow s result mode n st'.memory) (second st1) (run_all s ys st1') (two st1 st1' (flag_up s mode n m 0 st1'.memory le g.same) (lasts st'.memory st1'.memory g.after.kept told) g.after.alike)
        (λ flow st2 flow' st2' h. flow_up s result mode n m st'.memory st1'.memory flow st2 flow' st2' le flag g.after.kept h)
    go src.goes_on st1 broke st1' g = absurd g.same
    go src.goes_on st1 continues st1' g = absurd g.same
    go src.goes_on st1 (returned x) st1' g = absurd g.same
    go src.broke st1 goes_on st1' g = absurd g.same
    go src.broke st1 broke st1' g = g
    go src.broke st1 continues st1' g = absurd g.same
    go src.broke st1 (returned x) st1' g = absurd g.same
    go src.continues st1 flow' st1' g = subst (λ o. Same (GivesFlow s result mode n st'.memory) (gives src.continues st1) o) (continues_past s mode n st1'.memory flow' (run_all s ys) st1' g.same) g
    go (src.returned v) st1 goes_on st1' g = absurd g.same
    go (src.returned v) st1 broke st1' g = absurd g.same
    go (src.returned v) st1 continues st1' g = absurd g.same
    go (src.returned v) st1 (returned x) st1' g = g

pub runs_then : (s : Scene) (result : Option IntType) (mode : Onward) (n m : ℕ) (first second : State → Outcome src.Flow) (xs ys : List StmtTree) → n ≤ m → Runs s result mode n first xs → Runs s result mode m second ys →
    Runs s result mode n (λ st. first st >>= src.after_flow second) (xs ++ ys)
runs_then s result mode n m first second xs ys le one two st st' flag a =
    runs_then_where (λ blocks. Unit {0}) s result mode n m first second xs ys le (λ x y kept told. told) one (λ st1 st1' flag1 told a1. two st1 st1' flag1 a1) st st' flag tt a
