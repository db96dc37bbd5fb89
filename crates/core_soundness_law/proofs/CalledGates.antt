-- What holds of a gate goes on holding where what is noted and what called hosts answer keep it.
use Rattle.std.proofs.Common.{◌≡◌, ℕ, ◌+◌, ℤ, List, [], ◌∷◌, ◌++◌, Option, Some, None, Bool, true, false, refl}
use Rattle.std.specs.Prelude.{Result, Ok, Err, IsTrue, if◌then◌else◌, ◌||◌, nat_lt, nat_le, map}
use Rattle.std.specs.List.{list_all}
use Rattle.pt_base.specs.declared.int_type.IntType.{IntType}
use Rattle.pt_base.specs.declared.span.Span.{Span}
use Rattle.pt_base.proofs.Booleans.{both_hold_first}
use Rattle.runs.specs.Run.{deepest}
use Rattle.block_memory.specs.declared.cell.Cell.{Cell}
use Rattle.pt_core.specs.CodeTree.{StmtTree, clear, check, assign, copy, call, choose, repeat, break_out, continue_on, give_back, StmtTrees, no_stmts, stmt_and, ProgramTree}
use Rattle.pt_core.specs.Values.{Stop, number_in, value_of, values_of, location_of}
use Rattle.pt_core.specs.Statements.{assigned, copied, returned_value}
use Rattle.pt_core.specs.Calls.{signature_in, function_in, context_in, entered}
use Rattle.pt_core.specs.Steps.{Work, run, head, Active, Machine, Way, enters, here, away, Gate, moved, spent, Step, answers, settled, working, with_blocks, with_turn, turned, on_value, returned, at_end, is_active, just_entered, begins, made, by_way, act, works, stepped, step}
use Rattle.pt_core.specs.WellFormedStatement.{callees_in, callees_of}
use Rattle.core_soundness_law.specs.Called.{is_called, calls_left, CallOwn}
use Rattle.core_soundness_law.proofs.CalledSteps.{first_holds, settled_calls}

module _ {G : Type 0} (program : ProgramTree) (gate : Gate G) (g : G) (P : G → Type 0) (p : P g) (noted : (active : Bool) (f : ℕ) (args : List Cell) → P (gate.noted active f args g))
    (answered : (active : Bool) (f : ℕ) (args : List Cell) → IsTrue (is_called program f) → gate.way g f args ≡ here → P (gate.answer f (map number_in args) (gate.noted active f args g)).1) where
  stays_each : {A : Type 0} (r : Result A Stop) (m : Machine) (next : A → Step G) → ((a : A) → P (next a).gate) → P (on_value r m g next).gate
  stays_each (Ok a) m next k = k a
  stays_each (Err stop) m next k = p

  stays_turn : (m : Machine) (next : Machine → Step G) → P (next (with_turn m)).gate → P (turned m g next).gate
  stays_turn m next k = go (nat_lt m.turns m.budget)
    where
      go : (c : Bool) → P (if c then next (with_turn m) else answers spent m g).gate
      go true = k
      go false = p

  stays_either : (c : Bool) (x y : Step G) → P x.gate → P y.gate → P (if c then x else y).gate
  stays_either true x y h k = h
  stays_either false x y h k = k

  stays_return : (m : Machine) (a : Active) (rest : List Active) (v : Option Cell) → P (returned m g a rest v).gate
  stays_return m a [] v = p
  stays_return m a (caller ∷ rest) v = p

  stays_end : (t : Option IntType) (span : Span) (m : Machine) (a : Active) (rest : List Active) → P (at_end t span m g a rest).gate
  stays_end None span m a rest = stays_return m a rest None
  stays_end (Some t) span m a rest = p

  stays_begin : (m : Machine) (a : Active) (rest : List Active) (body : StmtTrees) (work : List Work) → P (begins m g a rest body work).gate
  stays_begin m a rest body work = stays_turn m (λ m1. answers moved (working m1 a rest (run body ∷ head body ∷ work)) g) p

  stays_way : (m : Machine) (a : Active) (rest : List Active) (work : List Work) (span : Span) (f : ℕ) (args : List Cell) (result : Option ℕ) (depth : ℕ) (way : Way) → IsTrue (is_called program f) → gate.way g f args ≡ way →
      P (by_way program gate (working m a rest work) g span f args result depth way).gate
  stays_way m a rest work span f args result depth enters own e =
      let m1 : Machine = working m a rest work in
      stays_either (nat_le (depth + 1) deepest) _ _
      (stays_turn m1
      (λ m2. answers moved
      (record m2 {
        active = just_entered program (is_active m1.active || (signature_in program f).privileged) f (depth + 1) result ∷ m2.active;
        blocks = entered program f (depth + 1) args m2.blocks;
      })
      (gate.noted (is_active m1.active) f args g))
      (noted (is_active m1.active) f args))
      p
  stays_way m a rest work span f args result depth here own e =
      let m1 : Machine = working m a rest work in
      stays_turn m1 (λ m2. made m2 depth result (gate.answer f (map number_in args) (gate.noted (is_active m1.active) f args g))) (answered (is_active m1.active) f args own e)
  stays_way m a rest work span f args result depth away own e =
      stays_either (signature_in program f).host _ _ p (stays_either (nat_le (depth + 1) deepest) _ _ p p)

  stays_act : (m : Machine) (a : Active) (rest : List Active) (work : List Work) (s : StmtTree) → IsTrue (list_all (is_called program) (callees_in s)) → P (act program gate m g a rest work s).gate
  stays_act m a rest work (clear v) c = p
  stays_act m a rest work (check q) c = stays_each (location_of (context_in program a.function) a.depth q m.blocks) m _ (λ at. p)
  stays_act m a rest work (assign q x) c = stays_each (assigned (context_in program a.function) a.depth q x m.blocks) m _ (λ blocks. p)
  stays_act m a rest work (copy to of) c = stays_each (copied (context_in program a.function) a.depth to of m.blocks) m _ (λ blocks. p)
  stays_act m a rest work (call f args result span) c =
      stays_each (values_of (context_in program a.function) a.depth args m.blocks) m _
      (λ vs. stays_way m a rest work span f vs result a.depth (gate.way g f vs) (both_hold_first (is_called program f) true c) refl)
  stays_act m a rest work (choose x first second) c = stays_each (value_of (context_in program a.function) a.depth x m.blocks) m _ (λ v. p)
  stays_act m a rest work (repeat body span) c = stays_begin m a rest body work
  stays_act m a rest work break_out c = p
  stays_act m a rest work continue_on c = p
  stays_act m a rest work (give_back x) c = stays_each (returned_value (context_in program a.function) a.depth x m.blocks) m _ (λ v. stays_return m a rest v)

  stays_works : (m : Machine) (a : Active) (rest : List Active) (work : List Work) → IsTrue (list_all (is_called program) (calls_left work)) → P (works program gate m g a rest work).gate
  stays_works m a rest [] h = stays_end (signature_in program a.function).result (function_in program a.function).end m a rest
  stays_works m a rest (run no_stmts ∷ work) h = p
  stays_works m a rest (run (stmt_and s more) ∷ work) h =
      stays_act m a rest (run more ∷ work) s (first_holds (is_called program) (callees_in s) (callees_of more) (first_holds (is_called program) (callees_in s ++ callees_of more) (calls_left work) h))
  stays_works m a rest (head body ∷ work) h = stays_begin m a rest body work

  stays_stepped : (m : Machine) (active : List Active) → CallOwn program active → P (stepped program gate m g active).gate
  stays_stepped m [] own = p
  stays_stepped m (a ∷ rest) own = stays_works m a rest (settled a.work) (settled_calls (is_called program) a.work own.0)

  pub gate_keeps : (m : Machine) → CallOwn program m.active → P (step program gate m g).gate
  gate_keeps m own = stays_stepped m m.active own
