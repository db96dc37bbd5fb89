-- The meaning of statements by recursion: one equation for each form.
use Rattle.std.specs.Prelude.{ℕ, zero, suc, pos, Bool, List, Option, Some, None, Result, Ok, Err, if◌then◌else◌}
use Rattle.pt_base.specs.declared.span.Span.{Span}
use Rattle.typed_tree.specs.Sizes.{sizes_of, cells_by}
use Rattle.runs.specs.State as r
use Rattle.runs.specs.State.{gives, trapped, spent, ◌>>=◌, take_turn}
use Rattle.block_memory.specs.declared.cell.Cell.{Cell}
use Rattle.block_memory.specs.declared.cell.Cell.TheVariants as cell
use Rattle.block_memory.specs.declared.cell.BlockName.TheVariants.{Local}
use Rattle.block_memory.specs.Block.{fresh}
use Rattle.block_memory.specs.Blocks.{Blocks, put}
use Rattle.pt_core.specs.CodeTree.{PlaceTree, ExprTree, StmtTree, clear, check, assign, copy, call, choose, repeat, break_out, continue_on, give_back, StmtTrees, no_stmts, stmt_and}
use Rattle.pt_core.specs.Types.{Context, type_at, shape_of}
use Rattle.pt_core.specs.Values.{Stop, ◌>>?◌, holds_in, value_of, values_of, location_of, cells_at, written, all_written}

abbrev pub State : Type 0
State = r.State Blocks

abbrev pub Outcome : Type 0 → Type 0
Outcome A = r.Outcome Blocks A

-- What a function's code runs in: its types, the depth at which it was entered, and whether a privileged
-- function is active, itself or one that called it.
pub record Frame : Type 0 where
  pub context : Context
  pub depth : ℕ
  pub privileged : Bool

-- what a call does: from which frame, at which place of the text, which function, with which cells
abbrev pub Calls : Type 0
Calls = Frame → Span → ℕ → List Cell → State → Outcome (Option Cell)

-- ---- what one statement does to the blocks

-- the variable as it is when its declaration is reached
abbrev pub cleared : Context → ℕ → ℕ → Blocks → Blocks
cleared c depth v blocks = put blocks (Local depth v) (fresh (shape_of c.structs (type_at c.variables v)))

-- the value goes to the place, which is found first
abbrev pub assigned : Context → ℕ → PlaceTree → ExprTree → Blocks → Result Blocks Stop
assigned c depth p e blocks = location_of c depth p blocks >>? λ at. value_of c depth e blocks >>? λ v. Ok (written blocks at.block at.cell v)

-- all cells of one object go to another of its type
abbrev pub copied : Context → ℕ → PlaceTree → PlaceTree → Blocks → Result Blocks Stop
copied c depth to of blocks =
    location_of c depth to blocks >>? λ at. location_of c depth of blocks >>? λ from.
    Ok (all_written blocks at.block at.cell (cells_at blocks from (cells_by (sizes_of c.structs) at.ty)))

-- what a call gave goes to a variable, if there is one for it; 0 where the call gave nothing
abbrev pub kept : ℕ → Option ℕ → Option Cell → Blocks → Blocks
kept depth (Some v) (Some c) blocks = written blocks (Local depth v) 0 c
kept depth (Some v) None blocks = written blocks (Local depth v) 0 (cell.Int (pos 0))
kept depth None result blocks = blocks

abbrev pub returned_value : Context → ℕ → Option ExprTree → Blocks → Result (Option Cell) Stop
returned_value c depth None blocks = Ok None
returned_value c depth (Some e) blocks = value_of c depth e blocks >>? λ v. Ok (Some v)

-- ---- runs

-- goes on with what was evaluated, or ends in its trap
abbrev pub evaluated : {A B : Type 0} → Result A Stop → State → (A → State → Outcome B) → Outcome B
evaluated (Ok a) st next = next a st
evaluated (Err stop) st next = trapped stop.trap stop.span st

abbrev pub with_blocks : Blocks → State → State
with_blocks blocks st = record st { memory = blocks }

-- how control goes on past a statement
pub data Flow : Type 0 where
  goes_on : Flow
  broke : Flow
  continues : Flow
  returned : Option Cell → Flow

abbrev pub after_flow : (State → Outcome Flow) → Flow → State → Outcome Flow
after_flow rest goes_on st = rest st
after_flow rest broke st = gives broke st
after_flow rest continues st = gives continues st
after_flow rest (returned v) st = gives (returned v) st

-- `break` leaves the loop, `continue` goes back to its head
abbrev pub after_round : (State → Outcome Flow) → Flow → State → Outcome Flow
after_round more goes_on st = more st
after_round more continues st = more st
after_round more broke st = gives goes_on st
after_round more (returned v) st = gives (returned v) st

-- each round of a loop, the first and those that control comes back for, takes a turn; with as many
-- rounds as turns are left, none is missed
abbrev pub looped : ℕ → (State → Outcome Flow) → State → Outcome Flow
looped zero round st = spent st
looped (suc rounds) round st = take_turn st.left st (λ st1. round st1 >>= after_round (looped rounds round))

-- the blocks are changed so, and control goes on
abbrev pub moves : Result Blocks Stop → State → Outcome Flow
moves r st = evaluated r st (λ blocks st1. gives goes_on (with_blocks blocks st1))

abbrev pub kept_in : Frame → Option ℕ → Option Cell → State → Outcome Flow
kept_in frame result v st = gives goes_on (with_blocks (kept frame.depth result v st.memory) st)

abbrev mutual
  pub does : StmtTree → Frame → Calls → State → Outcome Flow
  does (clear v) f calls st = gives goes_on (with_blocks (cleared f.context f.depth v st.memory) st)
  does (check p) f calls st = evaluated (location_of f.context f.depth p st.memory) st (λ at. gives goes_on)
  does (assign p e) f calls st = moves (assigned f.context f.depth p e st.memory) st
  does (copy to of) f calls st = moves (copied f.context f.depth to of st.memory) st
  does (call callee args result s) f calls st =
      evaluated (values_of f.context f.depth args st.memory) st (λ vs st1. calls f s callee vs st1 >>= kept_in f result)
  does (choose e first second) f calls st =
      evaluated (value_of f.context f.depth e st.memory) st (λ v. if holds_in v then do_all first f calls else do_all second f calls)
  does (repeat body s) f calls st = looped st.left (do_all body f calls) st
  does break_out f calls st = gives broke st
  does continue_on f calls st = gives continues st
  does (give_back e) f calls st = evaluated (returned_value f.context f.depth e st.memory) st (λ v. gives (returned v))

  -- a list of statements, one after the other
  pub do_all : StmtTrees → Frame → Calls → State → Outcome Flow
  do_all no_stmts f calls st = gives goes_on st
  do_all (stmt_and s rest) f calls st = does s f calls st >>= after_flow (do_all rest f calls)
