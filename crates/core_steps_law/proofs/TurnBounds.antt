-- What a step takes of the budget.
use Rattle.std.proofs.Common.{◌≡◌, ℕ, suc, ◌+◌, ◌<◌, List, [], ◌∷◌, Option, Some, None, Bool, true, false, refl, arith}
use Rattle.std.specs.Prelude.{Result, Ok, Err, if◌then◌else◌, ◌||◌, nat_lt, nat_le, map}
use Rattle.std.proofs.lemmas.Bool.{ltb-true}
use Rattle.pt_base.specs.declared.int_type.IntType.{IntType}
use Rattle.pt_base.specs.declared.span.Span.{Span}
use Rattle.pt_base.specs.declared.trap.Trap.TheVariants.{Depth}
use Rattle.runs.specs.Run.{deepest}
use Rattle.block_memory.specs.declared.cell.Cell.{Cell}
use Rattle.pt_core.specs.CodeTree.{StmtTree, clear, check, assign, copy, call, choose, repeat, break_out, continue_on, give_back, StmtTrees, no_stmts, stmt_and, ProgramTree}
use Rattle.pt_core.specs.Values.{Stop, holds_in, number_in, value_of, values_of, location_of}
use Rattle.pt_core.specs.Statements.{assigned, copied, returned_value}
use Rattle.pt_core.specs.Calls.{signature_in, function_in, context_in, entered}
use Rattle.pt_core.specs.Steps.{Work, run, head, Active, Machine, Way, enters, here, away, Gate, asked, moved, spent, trapped, Step, answers, settled, working, with_blocks, with_turn, turned, on_value, returned, at_end, is_active, just_entered, awaiting, begins, made, by_way, act, works, stepped}
use Rattle.core_steps_law.specs.Laws.{TakesATurn, StepsTakeATurn}

still : {G : Type 0} (turns budget : ℕ) (s : Step G) → s.machine.turns ≡ turns → s.machine.budget ≡ budget → TakesATurn turns budget s
still turns budget s e f = record { same_budget = f; none_back = omega arith; one = omega arith; within = λ h. omega arith }

on_either : {G : Type 0} (turns budget : ℕ) (b : Bool) (x y : Step G) → TakesATurn turns budget x → TakesATurn turns budget y → TakesATurn turns budget (if b then x else y)
on_either turns budget true x y h k = h
on_either turns budget false x y h k = k

record Keeps {G : Type 0} (m : Machine) (s : Step G) : Type 0 where
  turns : s.machine.turns ≡ m.turns
  budget : s.machine.budget ≡ m.budget

turned_by : {G : Type 0} (m : Machine) (g : G) (next : Machine → Step G) → ((m1 : Machine) → Keeps m1 (next m1)) → (b : Bool) → nat_lt m.turns m.budget ≡ b → TakesATurn m.turns m.budget (if b then next (with_turn m) else answers spent m g)
turned_by m g next k true e =
    let keeps : Keeps (with_turn m) (next (with_turn m)) = k (with_turn m) in
    let t : (next (with_turn m)).machine.turns ≡ suc m.turns = keeps.turns in
    let less : m.turns < m.budget = ltb-true m.turns m.budget e in
    record { same_budget = keeps.budget; none_back = omega arith; one = omega arith; within = λ h. omega arith }
turned_by m g next k false e = still m.turns m.budget (answers spent m g) refl refl

takes_turned : {G : Type 0} (m : Machine) (g : G) (next : Machine → Step G) → ((m1 : Machine) → Keeps m1 (next m1)) → TakesATurn m.turns m.budget (turned m g next)
takes_turned m g next k = turned_by m g next k (nat_lt m.turns m.budget) refl

takes_value : {G A : Type 0} (r : Result A Stop) (m : Machine) (g : G) (next : A → Step G) → ((a : A) → TakesATurn m.turns m.budget (next a)) → TakesATurn m.turns m.budget (on_value r m g next)
takes_value (Ok a) m g next k = k a
takes_value (Err stop) m g next k = still m.turns m.budget (answers (trapped stop.trap stop.span) m g) refl refl

takes_returned : {G : Type 0} (m : Machine) (g : G) (a : Active) (rest : List Active) (v : Option Cell) → TakesATurn m.turns m.budget (returned m g a rest v)
takes_returned m g a [] v = still m.turns m.budget (returned m g a [] v) refl refl
takes_returned m g a (caller ∷ rest) v = still m.turns m.budget (returned m g a (caller ∷ rest) v) refl refl

takes_end : {G : Type 0} (t : Option IntType) (s : Span) (m : Machine) (g : G) (a : Active) (rest : List Active) → TakesATurn m.turns m.budget (at_end t s m g a rest)
takes_end None s m g a rest = takes_returned m g a rest None
takes_end (Some t) s m g a rest = still m.turns m.budget (at_end (Some t) s m g a rest) refl refl

takes_begins : {G : Type 0} (m : Machine) (g : G) (a : Active) (rest : List Active) (body : StmtTrees) (work : List Work) → TakesATurn m.turns m.budget (begins m g a rest body work)
takes_begins m g a rest body work = takes_turned m g (λ m1. answers moved (working m1 a rest (run body ∷ head body ∷ work)) g) (λ m1. record { turns = refl; budget = refl })

takes_way : {G : Type 0} (program : ProgramTree) (gate : Gate G) (m : Machine) (g : G) (s : Span) (f : ℕ) (args : List Cell) (result : Option ℕ) (depth : ℕ) (way : Way) → TakesATurn m.turns m.budget (by_way program gate m g s f args result depth way)
takes_way program gate m g s f args result depth enters =
    on_either m.turns m.budget (nat_le (depth + 1) deepest) _ _
    (takes_turned m g
    (λ m1. answers moved
    (record m1 {
      active = just_entered program (is_active m.active || (signature_in program f).privileged) f (depth + 1) result ∷ m1.active;
      blocks = entered program f (depth + 1) args m1.blocks;
    })
    (gate.noted (is_active m.active) f args g))
    (λ m1. record { turns = refl; budget = refl }))
    (still m.turns m.budget (answers (trapped Depth s) m g) refl refl)
takes_way program gate m g s f args result depth here =
    takes_turned m g (λ m1. made m1 depth result (gate.answer f (map number_in args) (gate.noted (is_active m.active) f args g))) (λ m1. record { turns = refl; budget = refl })
takes_way program gate m g s f args result depth away =
    on_either m.turns m.budget (signature_in program f).host _ _
    (still m.turns m.budget (answers (asked f args 0) (awaiting f result m) g) refl refl)
    (on_either m.turns m.budget (nat_le (depth + 1) deepest) _ _
    (still m.turns m.budget (answers (asked f args (depth + 1)) (awaiting f result m) g) refl refl)
    (still m.turns m.budget (answers (trapped Depth s) m g) refl refl))

takes_act : {G : Type 0} (program : ProgramTree) (gate : Gate G) (m : Machine) (g : G) (a : Active) (rest : List Active) (work : List Work) (s : StmtTree) → TakesATurn m.turns m.budget (act program gate m g a rest work s)
takes_act program gate m g a rest work (clear v) = still m.turns m.budget (act program gate m g a rest work (clear v)) refl refl
takes_act program gate m g a rest work (check p) =
    takes_value (location_of (context_in program a.function) a.depth p m.blocks) m g (λ at. answers moved (working m a rest work) g) (λ at. still m.turns m.budget (answers moved (working m a rest work) g) refl refl)
takes_act program gate m g a rest work (assign p e) =
    takes_value (assigned (context_in program a.function) a.depth p e m.blocks) m g (λ blocks. answers moved (with_blocks blocks (working m a rest work)) g) (λ blocks. still m.turns m.budget (answers moved (with_blocks blocks (working m a rest work)) g) refl refl)
takes_act program gate m g a rest work (copy to of) =
    takes_value (copied (context_in program a.function) a.depth to of m.blocks) m g (λ blocks. answers moved (with_blocks blocks (working m a rest work)) g) (λ blocks. still m.turns m.budget (answers moved (with_blocks blocks (working m a rest work)) g) refl refl)
takes_act program gate m g a rest work (call f args result s) =
    takes_value (values_of (context_in program a.function) a.depth args m.blocks) m g (λ vs. by_way program gate (working m a rest work) g s f vs result a.depth (gate.way g f vs))
    (λ vs. takes_way program gate (working m a rest work) g s f vs result a.depth (gate.way g f vs))
takes_act program gate m g a rest work (choose e first second) =
    takes_value (value_of (context_in program a.function) a.depth e m.blocks) m g (λ v. answers moved (working m a rest (run (if holds_in v then first else second) ∷ work)) g)
    (λ v. still m.turns m.budget (answers moved (working m a rest (run (if holds_in v then first else second) ∷ work)) g) refl refl)
takes_act program gate m g a rest work (repeat body s) = takes_begins m g a rest body work
takes_act program gate m g a rest work break_out = still m.turns m.budget (act program gate m g a rest work break_out) refl refl
takes_act program gate m g a rest work continue_on = still m.turns m.budget (act program gate m g a rest work continue_on) refl refl
takes_act program gate m g a rest work (give_back e) =
    takes_value (returned_value (context_in program a.function) a.depth e m.blocks) m g (λ v. returned m g a rest v) (λ v. takes_returned m g a rest v)

takes_works : {G : Type 0} (program : ProgramTree) (gate : Gate G) (m : Machine) (g : G) (a : Active) (rest : List Active) (work : List Work) → TakesATurn m.turns m.budget (works program gate m g a rest work)
takes_works program gate m g a rest [] = takes_end (signature_in program a.function).result (function_in program a.function).end m g a rest
takes_works program gate m g a rest (run no_stmts ∷ work) = still m.turns m.budget (answers moved (working m a rest work) g) refl refl
takes_works program gate m g a rest (run (stmt_and s more) ∷ work) = takes_act program gate m g a rest (run more ∷ work) s
takes_works program gate m g a rest (head body ∷ work) = takes_begins m g a rest body work

takes_stepped : {G : Type 0} (program : ProgramTree) (gate : Gate G) (m : Machine) (g : G) (active : List Active) → TakesATurn m.turns m.budget (stepped program gate m g active)
takes_stepped program gate m g [] = still m.turns m.budget (stepped program gate m g []) refl refl
takes_stepped program gate m g (a ∷ rest) = takes_works program gate m g a rest (settled a.work)

pub steps_take_a_turn : (G : Type 0) → StepsTakeATurn G
steps_take_a_turn G program gate m g = takes_stepped program gate m g m.active
