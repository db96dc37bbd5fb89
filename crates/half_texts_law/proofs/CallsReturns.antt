-- A function with a result returns with a value.
use Rattle.std.proofs.Common.{◌≡◌, ℕ, zero, suc, Bool, true, false, Option, Some, None, is_none, Result, Ok, Err, if◌then◌else◌}
use Rattle.std.specs.Prelude.{◌&&◌}
use Rattle.pt_base.specs.declared.int_type.IntType.{IntType}
use Rattle.pt_base.proofs.Booleans.{and_parts}
use Rattle.runs.specs.State.{gives, trapped, spent, ◌>>=◌, take_turn}
use Rattle.block_memory.specs.declared.cell.Cell as core
use Rattle.pt_core.specs.CodeTree.{StmtTree, clear, check, assign, copy, call, choose, repeat, break_out, continue_on, give_back, StmtTrees, no_stmts, stmt_and, ExprTree}
use Rattle.pt_core.specs.Values.{Stop, ◌>>?◌, holds_in, value_of, values_of, location_of}
use Rattle.pt_core.specs.Statements as c
use Rattle.pt_core.specs.Statements.{Frame, Calls, Flow, goes_on, broke, continues, returned, State, Outcome, evaluated, moves, kept_in, after_flow, after_round, looped, does, do_all, assigned, copied, returned_value}
use Rattle.pt_core.specs.WellFormedStatement.{Scope, stmt_fits, stmts_fit}
use Rattle.pt_core.specs.WellFormedExpression.{expr_fits}
use Rattle.typed_tree.specs.TypeTests.{is_scalar}
use Rattle.pt_core.specs.Types.{type_of}

-- where there is a result, a value is returned
abbrev pub FlowFits : Option IntType → Flow → Type 0
FlowFits result goes_on = Unit {0}
FlowFits result broke = Unit {0}
FlowFits result continues = Unit {0}
FlowFits result (returned (Some x)) = Unit {0}
FlowFits None (returned None) = Unit {0}
FlowFits (Some t) (returned None) = ⊥

abbrev pub RunFits : Option IntType → Outcome Flow → Type 0
RunFits result (gives flow st) = FlowFits result flow
RunFits result (trapped trap span st) = Unit {0}
RunFits result (spent st) = Unit {0}

-- what goes on with what was evaluated
evaluated_fits : {A : Type 0} (result : Option IntType) (r : Result A Stop) (st : State) (next : A → State → Outcome Flow) → ((a : A) → RunFits result (next a st)) → RunFits result (evaluated r st next)
evaluated_fits result (Ok a) st next on = on a
evaluated_fits result (Err stop) st next on = tt {0}

bind_fits : {A : Type 0} (result : Option IntType) (o : Outcome A) (next : A → State → Outcome Flow) → ((a : A) (st : State) → RunFits result (next a st)) → RunFits result (o >>= next)
bind_fits result (gives a st) next on = on a st
bind_fits result (trapped trap span st) next on = tt {0}
bind_fits result (spent st) next on = tt {0}

after_fits : (result : Option IntType) (o : Outcome Flow) (rest : State → Outcome Flow) → RunFits result o → ((st : State) → RunFits result (rest st)) → RunFits result (o >>= after_flow rest)
after_fits result (gives goes_on st) rest h on = on st
after_fits result (gives broke st) rest h on = tt {0}
after_fits result (gives continues st) rest h on = tt {0}
after_fits result (gives (returned v) st) rest h on = h
after_fits result (trapped trap span st) rest h on = tt {0}
after_fits result (spent st) rest h on = tt {0}

round_fits : (result : Option IntType) (o : Outcome Flow) (more : State → Outcome Flow) → RunFits result o → ((st : State) → RunFits result (more st)) → RunFits result (o >>= after_round more)
round_fits result (gives goes_on st) more h on = on st
round_fits result (gives broke st) more h on = tt {0}
round_fits result (gives continues st) more h on = on st
round_fits result (gives (returned v) st) more h on = h
round_fits result (trapped trap span st) more h on = tt {0}
round_fits result (spent st) more h on = tt {0}

turn_fits : (result : Option IntType) (n : ℕ) (st : State) (next : State → Outcome Flow) → ((st : State) → RunFits result (next st)) → RunFits result (take_turn n st next)
turn_fits result zero st next on = tt {0}
turn_fits result (suc n) st next on = on _

looped_fits : (result : Option IntType) (n : ℕ) (round : State → Outcome Flow) (st : State) → ((st : State) → RunFits result (round st)) → RunFits result (looped n round st)
looped_fits result zero round st on = tt {0}
looped_fits result (suc n) round st on = turn_fits result st.left st (λ st1. round st1 >>= after_round (looped n round)) (λ st1. round_fits result (round st1) (looped n round) (on st1) (λ st2. looped_fits result n round st2 on))

given_fits : (k : Scope) (e : Option ExprTree) (f : Frame) (st : State) → stmt_fits k false (give_back e) ≡ true → RunFits k.result (evaluated (returned_value f.context f.depth e st.memory) st (λ v. gives (returned v)))
given_fits k None f st h = go k.result h
  where
    go : (o : Option IntType) → is_none o ≡ true → FlowFits o (returned None)
    go None h = tt {0}
    go (Some t) h = absurd (never h)
      where
        never : false ≡ true → ⊥
        never e = cc
given_fits k (Some a) f st h = go (value_of f.context f.depth a st.memory)
  where
    go : (r : Result core.Cell Stop) → RunFits k.result (evaluated (r >>? λ v. Ok (Some v)) st (λ v. gives (returned v)))
    go (Ok x) = tt {0}
    go (Err stop) = tt {0}

chosen_fits : (result : Option IntType) (b : Bool) (first second : State → Outcome Flow) (st : State) → RunFits result (first st) → RunFits result (second st) → RunFits result ((if b then first else second) st)
chosen_fits result true first second st h g = h
chosen_fits result false first second st h g = g

mutual
  pub does_fit : (a : StmtTree) (k : Scope) (in_loop : Bool) (f : Frame) (calls : Calls) (st : State) → stmt_fits k in_loop a ≡ true → RunFits k.result (does a f calls st)
  does_fit (clear v) k in_loop f calls st h = tt {0}
  does_fit (check p) k in_loop f calls st h = evaluated_fits k.result (location_of f.context f.depth p st.memory) st (λ at. gives goes_on) (λ at. tt)
  does_fit (assign p e) k in_loop f calls st h = evaluated_fits k.result (assigned f.context f.depth p e st.memory) st (λ blocks st1. gives goes_on (c.with_blocks blocks st1)) (λ blocks. tt)
  does_fit (copy to of) k in_loop f calls st h = evaluated_fits k.result (copied f.context f.depth to of st.memory) st (λ blocks st1. gives goes_on (c.with_blocks blocks st1)) (λ blocks. tt)
  does_fit (call callee args result s) k in_loop f calls st h =
      evaluated_fits k.result (values_of f.context f.depth args st.memory) st (λ vs st1. calls f s callee vs st1 >>= kept_in f result) (λ vs. bind_fits k.result (calls f s callee vs st) (kept_in f result) (λ v st1. tt))
  does_fit (choose e first second) k in_loop f calls st h =
      let parts = and_parts (expr_fits k.context e && is_scalar (Some (type_of k.context e))) (stmts_fit k in_loop first && stmts_fit k in_loop second) h in
      let lists = and_parts (stmts_fit k in_loop first) (stmts_fit k in_loop second) parts.1 in
      evaluated_fits k.result (value_of f.context f.depth e st.memory) st (λ v. if holds_in v then do_all first f calls else do_all second f calls)
      (λ v. chosen_fits k.result (holds_in v) (do_all first f calls) (do_all second f calls) st (all_fit first k in_loop f calls st lists.0) (all_fit second k in_loop f calls st lists.1))
  does_fit (repeat body s) k in_loop f calls st h = looped_fits k.result st.left (do_all body f calls) st (λ st1. all_fit body k true f calls st1 h)
  does_fit break_out k in_loop f calls st h = tt {0}
  does_fit continue_on k in_loop f calls st h = tt {0}
  does_fit (give_back e) k in_loop f calls st h = given_fits k e f st h

  pub all_fit : (xs : StmtTrees) (k : Scope) (in_loop : Bool) (f : Frame) (calls : Calls) (st : State) → stmts_fit k in_loop xs ≡ true → RunFits k.result (do_all xs f calls st)
  all_fit no_stmts k in_loop f calls st h = tt {0}
  all_fit (stmt_and a rest) k in_loop f calls st h =
      let parts = and_parts (stmt_fits k in_loop a) (stmts_fit k in_loop rest) h in
      after_fits k.result (does a f calls st) (do_all rest f calls) (does_fit a k in_loop f calls st parts.0) (λ st1. all_fit rest k in_loop f calls st1 parts.1)
