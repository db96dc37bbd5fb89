-- What a step asks for is what the gate sends away.
use Rattle.std.proofs.Common.{◌≡◌, ℕ, ◌+◌, refl, Bool, true, false, Option, None, Some, List, [], ◌∷◌, Result, Ok, Err, map, if◌then◌else◌}
use Rattle.std.specs.Prelude.{◌||◌, nat_lt, nat_le}
use Rattle.pt_base.specs.declared.int_type.IntType.{IntType}
use Rattle.pt_base.specs.declared.span.Span.{Span}
use Rattle.pt_base.specs.declared.trap.Trap.TheVariants.{Depth}
use Rattle.runs.specs.Run.{deepest}
use Rattle.block_memory.specs.declared.cell.Cell.{Cell}
use Rattle.pt_core.specs.CodeTree.{StmtTree, clear, check, assign, copy, call, choose, repeat, break_out, continue_on, give_back, StmtTrees, no_stmts, stmt_and, ProgramTree}
use Rattle.pt_core.specs.Values.{Stop, value_of, values_of, location_of, holds_in, number_in}
use Rattle.pt_core.specs.Statements.{assigned, copied, returned_value}
use Rattle.pt_core.specs.Calls.{signature_in, function_in, context_in, entered}
use Rattle.pt_core.specs.Steps.{Work, run, head, Active, Machine, Gate, Way, enters, here, away, Answer, moved, asked, ended, trapped, spent, idle, Step, answers, settled, with_blocks, with_turn, working, turned, on_value, returned, at_end, begins, is_active, just_entered, made, awaiting, goes_away, by_way, act, works, stepped, step}

-- what is asked for goes away
abbrev pub IsAway : {G : Type 0} → Gate G → G → Answer → Type 0
IsAway gate g moved = Unit {0}
IsAway gate g (asked f args depth) = gate.way g f args ≡ away
IsAway gate g (ended v) = Unit {0}
IsAway gate g (trapped trap span) = Unit {0}
IsAway gate g spent = Unit {0}
IsAway gate g idle = Unit {0}

turned_away : {G : Type 0} (gate : Gate G) (h : G) (m : Machine) (g : G) (next : Machine → Step G) → IsAway gate h (next (with_turn m)).answer → IsAway gate h (turned m g next).answer
turned_away {G} gate h m g next k = go (nat_lt m.turns m.budget)
  where
    go : (b : Bool) → IsAway gate h (if b then next (with_turn m) else answers spent m g).answer
    go true = k
    go false = tt

value_away : {G A : Type 0} (gate : Gate G) (h : G) (m : Machine) (g : G) (r : Result A Stop) (next : A → Step G) → ((x : A) → IsAway gate h (next x).answer) → IsAway gate h (on_value r m g next).answer
value_away gate h m g (Ok x) next k = k x
value_away gate h m g (Err stop) next k = tt

returned_away : {G : Type 0} (gate : Gate G) (h : G) (m : Machine) (g : G) (a : Active) (rest : List Active) (v : Option Cell) → IsAway gate h (returned m g a rest v).answer
returned_away gate h m g a [] v = tt
returned_away gate h m g a (caller ∷ rest) v = tt

end_away : {G : Type 0} (gate : Gate G) (h : G) (o : Option IntType) (s : Span) (m : Machine) (g : G) (a : Active) (rest : List Active) → IsAway gate h (at_end o s m g a rest).answer
end_away gate h None s m g a rest = returned_away gate h m g a rest None
end_away gate h (Some t) s m g a rest = tt

round_away : {G : Type 0} (gate : Gate G) (h : G) (m : Machine) (g : G) (a : Active) (rest : List Active) (body : StmtTrees) (work : List Work) → IsAway gate h (begins m g a rest body work).answer
round_away gate h m g a rest body work = turned_away gate h m g (λ m1. answers moved (working m1 a rest (run body ∷ head body ∷ work)) g) tt

goes_there : {G : Type 0} (program : ProgramTree) (gate : Gate G) (m : Machine) (g : G) (s : Span) (f : ℕ) (vs : List Cell) (result : Option ℕ) (depth : ℕ) → gate.way g f vs ≡ away → IsAway gate g (goes_away program m g s f vs result depth).answer
goes_there program gate m g s f vs result depth is = go (signature_in program f).host (nat_le depth deepest)
  where
    go : (host fits : Bool) → IsAway gate g (if host then answers (asked f vs 0) (awaiting f result m) g else (if fits then answers (asked f vs depth) (awaiting f result m) g else answers (trapped Depth s) m g)).answer
    go true fits = is
    go false true = is
    go false false = tt

-- a step that takes a turn where the depth allows it
deep_away : {G : Type 0} (gate : Gate G) (h : G) (b : Bool) (s : Span) (m : Machine) (g : G) (next : Machine → Step G) → IsAway gate h (next (with_turn m)).answer → IsAway gate h (if b then turned m g next else answers (trapped Depth s) m g).answer
deep_away gate h true s m g next k = turned_away gate h m g next k
deep_away gate h false s m g next k = tt

by_away : {G : Type 0} (program : ProgramTree) (gate : Gate G) (m : Machine) (g : G) (s : Span) (f : ℕ) (vs : List Cell) (result : Option ℕ) (depth : ℕ) (way : Way) → gate.way g f vs ≡ way → IsAway gate g (by_way program gate m g s f vs result depth way).answer
by_away program gate m g s f vs result depth enters is =
    deep_away gate g (nat_le (depth + 1) deepest) s m g (λ m1. answers moved
    (record m1 {
      active = just_entered program (is_active m.active || (signature_in program f).privileged) f (depth + 1) result ∷ m1.active;
      blocks = entered program f (depth + 1) vs m1.blocks;
    })
    (gate.noted (is_active m.active) f vs g)) tt
by_away program gate m g s f vs result depth here is =
    turned_away gate g m g (λ m1. made m1 depth result (gate.answer f (map number_in vs) (gate.noted (is_active m.active) f vs g))) tt
by_away program gate m g s f vs result depth away is = goes_there program gate m g s f vs result (depth + 1) is

act_away : {G : Type 0} (program : ProgramTree) (gate : Gate G) (m : Machine) (g : G) (a : Active) (rest : List Active) (work : List Work) (s : StmtTree) → IsAway gate g (act program gate m g a rest work s).answer
act_away program gate m g a rest work (clear v) = tt
act_away program gate m g a rest work (check p) = value_away gate g m g (location_of (context_in program a.function) a.depth p m.blocks) (λ at. answers moved (working m a rest work) g) (λ at. tt)
act_away program gate m g a rest work (assign p e) = value_away gate g m g (assigned (context_in program a.function) a.depth p e m.blocks) (λ blocks. answers moved (with_blocks blocks (working m a rest work)) g) (λ blocks. tt)
act_away program gate m g a rest work (copy to of) = value_away gate g m g (copied (context_in program a.function) a.depth to of m.blocks) (λ blocks. answers moved (with_blocks blocks (working m a rest work)) g) (λ blocks. tt)
act_away program gate m g a rest work (call f args result s) =
    value_away gate g m g (values_of (context_in program a.function) a.depth args m.blocks) (λ vs. by_way program gate (working m a rest work) g s f vs result a.depth (gate.way g f vs))
    (λ vs. by_away program gate (working m a rest work) g s f vs result a.depth (gate.way g f vs) refl)
act_away program gate m g a rest work (choose e first second) =
    value_away gate g m g (value_of (context_in program a.function) a.depth e m.blocks) (λ v. answers moved (working m a rest (run (if holds_in v then first else second) ∷ work)) g) (λ v. tt)
act_away program gate m g a rest work (repeat body s) = round_away gate g m g a rest body work
act_away program gate m g a rest work break_out = tt
act_away program gate m g a rest work continue_on = tt
act_away program gate m g a rest work (give_back e) =
    value_away gate g m g (returned_value (context_in program a.function) a.depth e m.blocks) (λ v. returned m g a rest v) (λ v. returned_away gate g m g a rest v)

works_away : {G : Type 0} (program : ProgramTree) (gate : Gate G) (m : Machine) (g : G) (a : Active) (rest : List Active) (work : List Work) → IsAway gate g (works program gate m g a rest work).answer
works_away program gate m g a rest [] = end_away gate g (signature_in program a.function).result (function_in program a.function).end m g a rest
works_away program gate m g a rest (run no_stmts ∷ work) = tt
works_away program gate m g a rest (run (stmt_and s more) ∷ work) = act_away program gate m g a rest (run more ∷ work) s
works_away program gate m g a rest (head body ∷ work) = round_away gate g m g a rest body work

stepped_away : {G : Type 0} (program : ProgramTree) (gate : Gate G) (m : Machine) (g : G) (active : List Active) → IsAway gate g (stepped program gate m g active).answer
stepped_away program gate m g [] = tt
stepped_away program gate m g (a ∷ rest) = works_away program gate m g a rest (settled a.work)

pub steps_ask_away : {G : Type 0} (program : ProgramTree) (gate : Gate G) (m : Machine) (g : G) → IsAway gate g (step program gate m g).answer
steps_ask_away program gate m g = stepped_away program gate m g m.active
