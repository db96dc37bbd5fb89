-- A slave that goes on has a function active, and what ends it is an end.
use Rattle.std.proofs.Common.{◌≡◌, ℕ, ◌+◌, List, [], ◌∷◌, Bool, true, false, Option, Some, None, Result, Ok, Err, refl, sym, ◌∙◌, inl, inr}
use Rattle.std.specs.Prelude.{◌⊎◌, if◌then◌else◌, nat_le, nat_lt}
use Rattle.pt_base.specs.declared.int_type.IntType.{IntType}
use Rattle.pt_base.specs.declared.span.Span.{Span}
use Rattle.runs.specs.Run.{deepest}
use Rattle.block_memory.specs.declared.cell.Cell.{Cell}
use Rattle.wire.specs.declared.message.Message.{Message}
use Rattle.wire.specs.declared.message.Message.TheVariants as message
use Rattle.wire.specs.declared.message.ReplyBody.{ReplyBody}
use Rattle.pt_core.specs.CodeTree.{StmtTree, clear, check, assign, copy, call, choose, repeat, break_out, continue_on, give_back, StmtTrees, no_stmts, stmt_and, ProgramTree}
use Rattle.pt_core.specs.Calls.{context_in, signature_in}
use Rattle.pt_core.specs.Statements.{assigned, copied, returned_value}
use Rattle.pt_core.specs.Values.{Stop, holds_in, location_of, value_of, values_of}
use Rattle.pt_core.specs.Steps as s
use Rattle.pt_core.specs.Steps.{Work, run, head, Active, Machine, Way, enters, here, away, Gate, Answer, moved, asked, ended, trapped, spent, idle, Step, answers, act, at_end, begins, by_way, enters_at, goes_away, made_here, on_value, returned, settled, step, turned, works}
use Rattle.pair_protocol.specs.Sides.{Moved}
use Rattle.pair_meaning.specs.SlaveRun.{Slave, Doing, goes, waits_for, is_over, after_step, awaits_reply, heard_by, is_reply_to, machine_step, may_take, moves_with, must_wait, parks, posts, says_call, slave_gate, slave_step, stepped, take, taken_by, with_reply}
use Rattle.slave_runner.specs.Laws.{IsEnd}

-- some function is active
abbrev pub IsFilled : List Active → Type 0
IsFilled [] = ⊥
IsFilled (a ∷ rest) = Unit {0}

-- so it is behind a step that goes on, and none is idle
abbrev IsStep : Answer → List Active → Type 0
IsStep moved active = IsFilled active
IsStep (asked f args depth) active = IsFilled active
IsStep (ended v) active = Unit {0}
IsStep (trapped trap span) active = Unit {0}
IsStep spent active = Unit {0}
IsStep idle active = ⊥

abbrev Goes : {G : Type 0} → Step G → Type 0
Goes x = IsStep x.answer x.machine.active

either_goes : {G : Type 0} (b : Bool) (x y : Step G) → Goes x → Goes y → Goes (if b then x else y)
either_goes true x y h k = h
either_goes false x y h k = k

turned_goes : {G : Type 0} (m : Machine) (g : G) (next : Machine → Step G) → Goes (next (s.with_turn m)) → Goes (turned m g next)
turned_goes m g next h = either_goes (nat_lt m.turns m.budget) (next (s.with_turn m)) (answers spent m g) h (tt {0})

value_goes : {G A : Type 0} (r : Result A Stop) (m : Machine) (g : G) (next : A → Step G) → ((a : A) → Goes (next a)) → Goes (on_value r m g next)
value_goes (Ok a) m g next h = h a
value_goes (Err stop) m g next h = tt {0}

returned_goes : {G : Type 0} (m : Machine) (g : G) (a : Active) (rest : List Active) (v : Option Cell) → Goes (returned m g a rest v)
returned_goes m g a [] v = tt {0}
returned_goes m g a (caller ∷ rest) v = tt {0}

end_goes : {G : Type 0} (t : Option IntType) (sp : Span) (m : Machine) (g : G) (a : Active) (rest : List Active) → Goes (at_end t sp m g a rest)
end_goes None sp m g a rest = returned_goes m g a rest None
end_goes (Some t) sp m g a rest = tt {0}

begins_goes : {G : Type 0} (m : Machine) (g : G) (a : Active) (rest : List Active) (body : StmtTrees) (work : List Work) → Goes (begins m g a rest body work)
begins_goes m g a rest body work = turned_goes m g (λ m1. answers moved (s.working m1 a rest (run body ∷ head body ∷ work)) g) (tt {0})

way_goes : {G : Type 0} (program : ProgramTree) (gate : Gate G) (m : Machine) (g : G) (sp : Span) (f : ℕ) (args : List Cell) (result : Option ℕ) (depth : ℕ) (way : Way) → IsFilled m.active → Goes (by_way program gate m g sp f args result depth way)
way_goes program gate m g sp f args result depth enters h =
    either_goes (nat_le (depth + 1) deepest) _ _ (either_goes (nat_lt m.turns m.budget) _ _ (tt {0}) (tt {0})) (tt {0})
way_goes program gate m g sp f args result depth here h = either_goes (nat_lt m.turns m.budget) _ _ h (tt {0})
way_goes program gate m g sp f args result depth away h =
    either_goes (signature_in program f).host _ _ h (either_goes (nat_le (depth + 1) deepest) _ _ h (tt {0}))

act_goes : {G : Type 0} (program : ProgramTree) (gate : Gate G) (m : Machine) (g : G) (a : Active) (rest : List Active) (work : List Work) (st : StmtTree) → Goes (act program gate m g a rest work st)
act_goes program gate m g a rest work (clear v) = tt {0}
act_goes program gate m g a rest work (check p) = value_goes (location_of (context_in program a.function) a.depth p m.blocks) m g (λ at. answers moved (s.working m a rest work) g) (λ at. tt {0})
act_goes program gate m g a rest work (assign p e) =
    value_goes (assigned (context_in program a.function) a.depth p e m.blocks) m g (λ blocks. answers moved (s.with_blocks blocks (s.working m a rest work)) g) (λ blocks. tt {0})
act_goes program gate m g a rest work (copy to of) =
    value_goes (copied (context_in program a.function) a.depth to of m.blocks) m g (λ blocks. answers moved (s.with_blocks blocks (s.working m a rest work)) g) (λ blocks. tt {0})
act_goes program gate m g a rest work (call f args result sp) =
    value_goes (values_of (context_in program a.function) a.depth args m.blocks) m g (λ vs. by_way program gate (s.working m a rest work) g sp f vs result a.depth (gate.way g f vs)) (λ vs. way_goes program gate (s.working m a rest work) g sp f vs result a.depth (gate.way g f vs) (tt {0}))
act_goes program gate m g a rest work (choose e first second) =
    value_goes (value_of (context_in program a.function) a.depth e m.blocks) m g (λ v. answers moved (s.working m a rest (run (if holds_in v then first else second) ∷ work)) g) (λ v. tt {0})
act_goes program gate m g a rest work (repeat body sp) = begins_goes m g a rest body work
act_goes program gate m g a rest work break_out = tt {0}
act_goes program gate m g a rest work continue_on = tt {0}
act_goes program gate m g a rest work (give_back e) = value_goes (returned_value (context_in program a.function) a.depth e m.blocks) m g (λ v. returned m g a rest v) (λ v. returned_goes m g a rest v)

works_goes : {G : Type 0} (program : ProgramTree) (gate : Gate G) (m : Machine) (g : G) (a : Active) (rest : List Active) (work : List Work) → Goes (works program gate m g a rest work)
works_goes program gate m g a rest [] = end_goes _ _ m g a rest
works_goes program gate m g a rest (run no_stmts ∷ work) = tt {0}
works_goes program gate m g a rest (run (stmt_and st more) ∷ work) = act_goes program gate m g a rest (run more ∷ work) st
works_goes program gate m g a rest (head body ∷ work) = begins_goes m g a rest body work

stepped_goes : {G : Type 0} (program : ProgramTree) (gate : Gate G) (m : Machine) (g : G) (active : List Active) → IsFilled active → Goes (s.stepped program gate m g active)
stepped_goes program gate m g [] h = absurd h
stepped_goes program gate m g (a ∷ rest) h = works_goes program gate m g a rest (settled a.work)

-- ---- a slave

-- it isn't over, and has a function active
pub record IsLive (x : Slave) : Type 0 where
  pub open_still : x.doing ≡ is_over → ⊥
  pub filled : IsFilled x.machine.active

-- it said its end
pub record HasSaidEnd (m : Moved Slave Message) : Type 0 where
  pub over_now : m.slave.doing ≡ is_over
  pub said : Message
  pub is_said : m.said ≡ Some said
  pub is_end : IsEnd said

abbrev pub LivesOrEnds : Moved Slave Message → Type 0
LivesOrEnds m = IsLive m.slave ⊎ HasSaidEnd m

goes_over : goes ≡ is_over → ⊥
goes_over e = cc

waits_over : (f : ℕ) (args : List Cell) → waits_for f args ≡ is_over → ⊥
waits_over f args e = cc

either_lives : (b : Bool) (y z : Moved Slave Message) → LivesOrEnds y → LivesOrEnds z → LivesOrEnds (if b then y else z)
either_lives true y z h k = h
either_lives false y z h k = k

moves_lives : (x : Slave) (wrote : Option (List ℕ)) → IsLive x → LivesOrEnds (moves_with x wrote)
moves_lives x None h = inl h
moves_lives x (Some bytes) h = inl h

parks_end : (x : Slave) → LivesOrEnds (parks x)
parks_end x = inr (record { over_now = refl; said = message.Park (x.machine.budget + 1); is_said = refl; is_end = tt {0} })

call_lives : (x : Slave) (f : ℕ) (args : List Cell) (depth : ℕ) → IsFilled x.machine.active → LivesOrEnds (says_call x f args depth)
call_lives x f args depth h =
    either_lives (must_wait x f args) (awaits_reply x f args depth) (posts x f args depth)
    (inl (record { open_still = waits_over f args; filled = h })) (inl (record { open_still = goes_over; filled = h }))

after_lives : (x : Slave) (a : Answer) (wrote : Option (List ℕ)) → x.doing ≡ goes → IsStep a x.machine.active → LivesOrEnds (after_step x a wrote)
after_lives x moved wrote e h = moves_lives x wrote (record { open_still = λ z. goes_over (sym e ∙ z); filled = h })
after_lives x (asked f args depth) wrote e h = either_lives (nat_le x.machine.budget (x.machine.turns + x.calls)) (parks x) (says_call x f args depth) (parks_end x) (call_lives x f args depth h)
after_lives x (ended v) wrote e h = inr (record { over_now = refl; said = _; is_said = refl; is_end = tt {0} })
after_lives x (trapped trap span) wrote e h = inr (record { over_now = refl; said = _; is_said = refl; is_end = tt {0} })
after_lives x spent wrote e h = parks_end x
after_lives x idle wrote e h = absurd h

pub steps_live : (x : Slave) → IsLive x → x.doing ≡ goes → LivesOrEnds (slave_step x)
steps_live x live e =
    let y = machine_step x in
    after_lives (stepped x y) y.answer y.gate.wrote e (stepped_goes x.program (slave_gate x.program) x.machine (heard_by x) x.machine.active live.filled)

taken_lives : (x : Slave) (d : Doing) (reply : ReplyBody) → IsFilled x.machine.active → may_take x d reply ≡ true → IsLive (taken_by x d reply)
taken_lives x goes reply h e = cc
taken_lives x is_over reply h e = cc
taken_lives x (waits_for f args) reply h e = by_test (is_reply_to x f args reply) e
  where
    by_test : (b : Bool) → b ≡ true → IsLive (if b then with_reply x f args reply else record x { doing = is_over })
    by_test true e = record { open_still = goes_over; filled = h }
    by_test false e = cc

pub takes_live : (x : Slave) (reply : ReplyBody) → IsLive x → may_take x x.doing reply ≡ true → IsLive (take reply x)
takes_live x reply live e = taken_lives x x.doing reply live.filled e
