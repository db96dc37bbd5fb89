-- The outermost function stays at its depth while a machine moves.
use Rattle.std.proofs.Common.{◌≡◌, ℕ, ◌+◌, List, [], ◌∷◌, map, refl, subst, Bool, true, false, Option, Some, None, Result, Ok, Err, nat_lt, nat_le, ◌||◌, if◌then◌else◌}
use Rattle.pt_base.specs.declared.int_type.IntType.{IntType}
use Rattle.pt_base.specs.declared.span.Span.{Span}
use Rattle.runs.specs.Run.{deepest}
use Rattle.block_memory.specs.declared.cell.Cell.{Cell}
use Rattle.pt_core.specs.CodeTree.{ProgramTree, StmtTree, clear, check, assign, copy, call, choose, repeat, break_out, continue_on, give_back, StmtTrees, no_stmts, stmt_and}
use Rattle.pt_core.specs.Values.{Stop, holds_in, location_of, number_in, value_of, values_of}
use Rattle.pt_core.specs.Statements.{assigned, copied, returned_value}
use Rattle.pt_core.specs.Calls.{context_in, entered, function_in, signature_in}
use Rattle.pt_core.specs.Steps.{Active, Answer, Gate, Machine, Step, Way, Work, act, answers, asked, at_end, at_head, away, begins, by_way, ended, enters, head, here, idle, is_active, just_entered, made, moved, on_value, past_loop, returned, run, settled, spent, step, stepped, trapped, turned, with_turn, working, works}

-- the outermost of them is at this depth
abbrev pub HasDepth : ℕ → List Active → Type 0
HasDepth d [] = ⊥
HasDepth d (a ∷ []) = a.depth ≡ d
HasDepth d (a ∷ b ∷ rest) = HasDepth d (b ∷ rest)

pub one_deep : (d : ℕ) (a : Active) → HasDepth d (a ∷ []) → a.depth ≡ d
one_deep d a h = h

working_deep : (d : ℕ) (a : Active) (rest : List Active) (work : List Work) → HasDepth d (a ∷ rest) → HasDepth d (record a { work = work } ∷ rest)
working_deep d a [] work h = h
working_deep d a (b ∷ rest) work h = h

entered_deep : (d : ℕ) (a new : Active) (rest : List Active) (work : List Work) → HasDepth d (a ∷ rest) → HasDepth d (new ∷ record a { work = work } ∷ rest)
entered_deep d a new [] work h = h
entered_deep d a new (b ∷ rest) work h = h

-- So it is where the machine moved. Where the outermost function ended, the gate's state is as it was.
abbrev Deep : {G : Type 0} → ℕ → G → Answer → List Active → G → Type 0
Deep d g moved active after = HasDepth d active
Deep d g (asked f args depth) active after = Unit {0}
Deep d g (ended v) active after = after ≡ g
Deep d g (trapped trap span) active after = Unit {0}
Deep d g spent active after = Unit {0}
Deep d g idle active after = Unit {0}

module _ {G : Type 0} (program : ProgramTree) (gate : Gate G) (d : ℕ) (g : G) where
  abbrev StaysDeep : Step G → Type 0
  StaysDeep s = Deep d g s.answer s.machine.active s.gate

  on_each : {A : Type 0} (r : Result A Stop) (m : Machine) (next : A → Step G) → ((a : A) → StaysDeep (next a)) → StaysDeep (on_value r m g next)
  on_each (Ok a) m next k = k a
  on_each (Err stop) m next k = tt {0}

  on_turn : (m : Machine) (next : Machine → Step G) → StaysDeep (next (with_turn m)) → StaysDeep (turned m g next)
  on_turn m next k = go (nat_lt m.turns m.budget)
    where
      go : (c : Bool) → StaysDeep (if c then next (with_turn m) else answers spent m g)
      go true = k
      go false = tt {0}

  on_either : (c : Bool) (x y : Step G) → StaysDeep x → StaysDeep y → StaysDeep (if c then x else y)
  on_either true x y h k = h
  on_either false x y h k = k

  on_return : (m : Machine) (a : Active) (rest : List Active) (v : Option Cell) → HasDepth d (a ∷ rest) → StaysDeep (returned m g a rest v)
  on_return m a [] v h = refl
  on_return m a (caller ∷ rest) v h = h

  on_end : (t : Option IntType) (span : Span) (m : Machine) (a : Active) (rest : List Active) → HasDepth d (a ∷ rest) → StaysDeep (at_end t span m g a rest)
  on_end None span m a rest h = on_return m a rest None h
  on_end (Some t) span m a rest h = tt {0}

  on_begin : (m : Machine) (a : Active) (rest : List Active) (body : StmtTrees) (work : List Work) → HasDepth d (a ∷ rest) → StaysDeep (begins m g a rest body work)
  on_begin m a rest body work h = on_turn m (λ m1. answers moved (working m1 a rest (run body ∷ head body ∷ work)) g) (working_deep d a rest (run body ∷ head body ∷ work) h)

  on_way : (m : Machine) (a : Active) (rest : List Active) (work : List Work) (span : Span) (f : ℕ) (args : List Cell) (result : Option ℕ) (depth : ℕ) (way : Way) → HasDepth d (a ∷ rest) →
      StaysDeep (by_way program gate (working m a rest work) g span f args result depth way)
  on_way m a rest work span f args result depth enters h =
      let m1 : Machine = working m a rest work in
      on_either (nat_le (depth + 1) deepest) _ _
      (on_turn m1
      (λ m2. answers moved
      (record m2 {
        active = just_entered program (is_active m1.active || (signature_in program f).privileged) f (depth + 1) result ∷ m2.active;
        blocks = entered program f (depth + 1) args m2.blocks;
      })
      (gate.noted (is_active m1.active) f args g))
      (entered_deep d a (just_entered program (is_active m1.active || (signature_in program f).privileged) f (depth + 1) result) rest work h))
      (tt {0})
  on_way m a rest work span f args result depth here h =
      let m1 : Machine = working m a rest work in
      on_turn m1 (λ m2. made m2 depth result (gate.answer f (map number_in args) (gate.noted (is_active m1.active) f args g))) (working_deep d a rest work h)
  on_way m a rest work span f args result depth away h =
      on_either (signature_in program f).host _ _ (tt {0}) (on_either (nat_le (depth + 1) deepest) _ _ (tt {0}) (tt {0}))

  on_act : (m : Machine) (a : Active) (rest : List Active) (work : List Work) (s : StmtTree) → HasDepth d (a ∷ rest) → StaysDeep (act program gate m g a rest work s)
  on_act m a rest work (clear v) h = working_deep d a rest work h
  on_act m a rest work (check p) h = on_each (location_of (context_in program a.function) a.depth p m.blocks) m _ (λ at. working_deep d a rest work h)
  on_act m a rest work (assign p x) h = on_each (assigned (context_in program a.function) a.depth p x m.blocks) m _ (λ blocks. working_deep d a rest work h)
  on_act m a rest work (copy to of) h = on_each (copied (context_in program a.function) a.depth to of m.blocks) m _ (λ blocks. working_deep d a rest work h)
  on_act m a rest work (call f args result span) h =
      on_each (values_of (context_in program a.function) a.depth args m.blocks) m _ (λ vs. on_way m a rest work span f vs result a.depth (gate.way g f vs) h)
  on_act m a rest work (choose x first second) h =
      on_each (value_of (context_in program a.function) a.depth x m.blocks) m _ (λ v. working_deep d a rest (run (if holds_in v then first else second) ∷ work) h)
  on_act m a rest work (repeat body span) h = on_begin m a rest body work h
  on_act m a rest work break_out h = working_deep d a rest (past_loop work) h
  on_act m a rest work continue_on h = working_deep d a rest (at_head work) h
  on_act m a rest work (give_back x) h = on_each (returned_value (context_in program a.function) a.depth x m.blocks) m _ (λ v. on_return m a rest v h)

  on_works : (m : Machine) (a : Active) (rest : List Active) (work : List Work) → HasDepth d (a ∷ rest) → StaysDeep (works program gate m g a rest work)
  on_works m a rest [] h = on_end (signature_in program a.function).result (function_in program a.function).end m a rest h
  on_works m a rest (run no_stmts ∷ work) h = working_deep d a rest work h
  on_works m a rest (run (stmt_and s more) ∷ work) h = on_act m a rest (run more ∷ work) s h
  on_works m a rest (head body ∷ work) h = on_begin m a rest body work h

  on_step : (m : Machine) (active : List Active) → HasDepth d active → StaysDeep (stepped program gate m g active)
  on_step m [] h = tt {0}
  on_step m (a ∷ rest) h = on_works m a rest (settled a.work) h

  pub deep_on : (m : Machine) → HasDepth d m.active → (step program gate m g).answer ≡ moved → HasDepth d (step program gate m g).machine.active
  deep_on m h e = subst (λ (a : Answer). Deep d g a (step program gate m g).machine.active (step program gate m g).gate) e (on_step m m.active h)

  -- the step that ends the outermost function leaves the gate as it is
  pub ends_still : (m : Machine) (v : Option Cell) → HasDepth d m.active → (step program gate m g).answer ≡ ended v → (step program gate m g).gate ≡ g
  ends_still m v h e = subst (λ (a : Answer). Deep d g a (step program gate m g).machine.active (step program gate m g).gate) e (on_step m m.active h)
