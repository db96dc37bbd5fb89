-- The laws tried on a program, and on what they would say without a premise.
--     void w(int b);                                the host writes a byte
--     priv void p(int x) { w(x); }                  guarded
--     int main(void) { p(7); p(8); for (;;) ; }
use Rattle.std.proofs.Common.{◌≡◌, ℕ, ◌+◌, ◌-◌, ◌*◌, pos, refl, Bool, true, false, List, [], ◌∷◌, Option, Some, None, codes}
use Rattle.std.specs.Prelude.{nat_eq, if◌then◌else◌}
use Rattle.pt_base.specs.declared.span.Span.{Span}
use Rattle.pt_base.specs.declared.int_type.IntType.{IntType}
use Rattle.pt_base.specs.declared.int_type.IntType.TheVariants as i
use Rattle.pt_base.specs.declared.end.End.TheVariants.{Refused, Spent}
use Rattle.pt_tree.specs.declared.host_model.HostModel.TheVariants as h
use Rattle.pt_tree.specs.declared.signature.ParamKind.TheVariants as k
use Rattle.pt_tree.specs.declared.signature.Signature.{Signature}
use Rattle.typed_tree.specs.declared.types.VarTy.TheVariants as ty
use Rattle.typed_tree.specs.Cells as cells
use Rattle.runs.specs.State.{Hosts}
use Rattle.runs.specs.Run.{Answers, Expected, expected}
use Rattle.block_memory.specs.declared.cell.Cell.TheVariants as cell
use Rattle.block_memory.specs.Blocks.{no_blocks}
use Rattle.pt_core.specs.CodeTree.{local, place, constant, read, no_exprs, expr_and, call, repeat, clear, no_stmts, stmt_and, StmtTrees, ProgramTree}
use Rattle.pt_core.specs.CoreRun.{core_run}
use Rattle.pt_core.specs.Steps.{head, Machine, moved, ended, spent, at_rest, started}
use Rattle.core_steps_law.specs.WholeRun.{after_steps, begun_machine, steps_run, whole_gate, begun_outside}
use Rattle.core_steps_law.specs.Laws.{machine_at}
use Rattle.core_steps_law.specs.GatesWritten.{bytes_gate, begun_written}
use Rattle.core_steps_law.specs.MachinesRoom.{largest_function, steps_left, room}
use Rattle.core_steps_law.specs.MachinesBounded.{longest_run}
use Rattle.core_steps_law.specs.MachinesBodies.{body_state}
use Rattle.core_steps_law.specs.MachinesJudged.{judged_after}
use Rattle.core_steps_law.proofs.MachinesJudging.{refused_runs_are_expected}

-- ---- the program

abbrev anywhere : Span
anywhere = record { from = 0; to = 0 }

abbrev signed : List ℕ → Option IntType → Bool → Bool → Bool → Signature
signed name result takes host privileged = record {
  name = name;
  result = result;
  params = if takes then record { kind = k.Int i.Int; marked = false; declassify = false } ∷ [] else [];
  host = host;
  privileged = privileged;
  declassify = false;
}

abbrev main_body : StmtTrees
main_body = stmt_and (call 2 (expr_and (constant i.Int (pos 7)) no_exprs) None anywhere)
    (stmt_and (call 2 (expr_and (constant i.Int (pos 8)) no_exprs) None anywhere) (stmt_and (repeat no_stmts anywhere) no_stmts))

abbrev p_body : StmtTrees
p_body = stmt_and (call 1 (expr_and (read (place (local 0) [])) no_exprs) None anywhere) no_stmts

abbrev program : ProgramTree
program = record {
  structs = [];
  signatures = (0, signed (codes "main") (Some i.Int) false false false) ∷ (1, signed (codes "w") None true true false) ∷ (2, signed (codes "p") None true false true) ∷ [];
  functions = record { id = 0; params = 0; vars = []; body = main_body; end = anywhere }
      ∷ record { id = 2; params = 1; vars = record { name = []; span = anywhere; ty = ty.Int i.Int; marked = false; unpriv = false; holds = None } ∷ []; body = p_body; end = anywhere } ∷ [];
  globals = [];
}

abbrev hosts : Hosts
hosts f = h.Bytes

-- ---- the number of steps

-- six turns for two calls of each and two rounds, and the ninth step wants a seventh
length_of_run : longest_run program 6 ≡ 29
length_of_run = refl

moves_still : (after_steps program hosts [] 6 8).answer ≡ moved
moves_still = refl

stops_there : (after_steps program hosts [] 6 9).answer ≡ spent
stops_there = refl

-- by the functions alone the bound is wrong for a machine that has other code to do: a loop of five statements,
-- and no function
abbrev five : StmtTrees
five = stmt_and (clear 0) (stmt_and (clear 0) (stmt_and (clear 0) (stmt_and (clear 0) (stmt_and (clear 0) no_stmts))))

abbrev empty : ProgramTree
empty = record { structs = []; signatures = []; functions = []; globals = [] }

abbrev other_code : Machine
other_code = record { active = record { function = 0; depth = 1; privileged = false; result = None; work = head five ∷ [] } ∷ []; blocks = no_blocks; turns = 0; budget = 1; awaits = None }

by_functions : (other_code.budget - other_code.turns) * (largest_function empty.functions + 1) + steps_left other_code.active ≡ 3
by_functions = refl

goes_further : (steps_run empty (whole_gate empty) 6 other_code (begun_outside hosts [])).answer ≡ moved
goes_further = refl

has_room : room empty other_code ≡ 8
has_room = refl

-- a return is a step of its own: three calls of a function of three statements, in three turns, are fifteen
-- steps, and without one more in each turn there would be room for thirteen
abbrev three : StmtTrees
three = stmt_and (clear 0) (stmt_and (clear 0) (stmt_and (clear 0) no_stmts))

abbrev three_calls : StmtTrees
three_calls = stmt_and (call 1 no_exprs None anywhere) (stmt_and (call 1 no_exprs None anywhere) (stmt_and (call 1 no_exprs None anywhere) no_stmts))

abbrev calling : ProgramTree
calling = record {
  structs = [];
  signatures = (0, signed (codes "main") None false false false) ∷ (1, signed (codes "f") None false false false) ∷ [];
  functions = record { id = 0; params = 0; vars = []; body = three_calls; end = anywhere } ∷ record { id = 1; params = 0; vars = []; body = three; end = anywhere } ∷ [];
  globals = [];
}

without_returns : 3 * largest_function calling.functions + steps_left (begun_machine calling 3).active ≡ 13
without_returns = refl

with_returns : room calling (begun_machine calling 3) ≡ 16
with_returns = refl

fifteen : (after_steps calling hosts [] 3 15).answer ≡ moved
fifteen = refl

then_ended : (after_steps calling hosts [] 3 16).answer ≡ ended None
then_ended = refl

-- ---- a body

abbrev started_p : Machine
started_p = started program true 2 5 (cell.Int (pos 7) ∷ []) (at_rest program 9)

body_ends : (steps_run program (bytes_gate program) 2 started_p (begun_written hosts [])).answer ≡ ended None
body_ends = refl

body_writes : (steps_run program (bytes_gate program) 2 started_p (begun_written hosts [])).gate.bytes ≡ 7 ∷ []
unfolding cells.leaves_of
body_writes = refl

body_turns : (steps_run program (bytes_gate program) 2 started_p (begun_written hosts [])).machine.turns ≡ 1
body_turns = refl

-- a machine that has taken more turns than it may: the recursion has none left, and forgets how many they were
abbrev late : Machine
late = record (at_rest program 3) { turns = 5 }

late_turns : (steps_run program (bytes_gate program) 9 (started program false 0 1 [] late) (begun_written hosts [])).machine.turns ≡ 5
late_turns = refl

late_left : (machine_at late [] (body_state late (begun_written hosts []))).turns ≡ 3
late_left = refl

-- ---- a policy that allows one call

abbrev once : Answers ℕ
once = record { first = 0; next = λ s f vs. if nat_eq s 0 then Some 1 else None; name = λ s. s ∷ [] }

abbrev refusal : Expected
refusal = record { bytes = 7 ∷ []; end = Refused 2 (record { 0 = 2 }) (1 ∷ []) }

-- the fourth step enters p again
refused_there : (judged_after once program hosts [] 6 4).gate.judgement.refused ≡ Some refusal.end
refused_there = refl

-- the whole run goes on, writes 8 and is spent
run_ends : (core_run program hosts [] 6).end ≡ Spent
run_ends = refl

-- by the law, from the fourth step; and by computing
by_law : expected once (core_run program hosts [] 6) ≡ refusal
unfolding cells.leaves_of
by_law = refused_runs_are_expected once program hosts [] 6 4 refusal.end refused_there

by_hand : expected once (core_run program hosts [] 6) ≡ refusal
unfolding cells.leaves_of
by_hand = refl
