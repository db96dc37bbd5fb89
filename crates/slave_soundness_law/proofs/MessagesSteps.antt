-- Code with numbers of the fields stays such, and so is the span of a trap in it.
use Rattle.std.proofs.Common.{ℕ, ◌+◌, ◌<◌, ◌^◌, List, [], ◌∷◌, Option, Some, None, Bool, true, false, nat_eq, arith, if◌then◌else◌}
use Rattle.std.specs.Prelude.{Result, Ok, Err, ◌||◌, nat_lt, nat_le, map, unwrap_or}
use Rattle.std.specs.List.{AllByRecursion, find}
use Rattle.pt_base.specs.declared.int_type.IntType.{IntType}
use Rattle.pt_base.specs.declared.span.Span.{Span}
use Rattle.pt_base.specs.declared.trap.Trap.TheVariants.{Depth, NoReturn}
use Rattle.runs.specs.Run.{deepest}
use Rattle.block_memory.specs.declared.cell.Cell.{Cell}
use Rattle.block_memory.specs.Blocks.{Blocks}
use Rattle.boot_fields.specs.Limits.{FitsEach, FitsFunction, FitsSpan, FitsStmt}
use Rattle.pt_core.specs.CodeTree.{FunctionTree, ProgramTree, StmtTree, clear, check, assign, copy, call, choose, repeat, break_out, continue_on, give_back, StmtTrees, no_stmts, stmt_and}
use Rattle.pt_core.specs.Values.{Stop, holds_in, number_in, value_of, values_of, location_of}
use Rattle.pt_core.specs.Statements.{assigned, copied, returned_value}
use Rattle.pt_core.specs.Calls.{signature_in, function_in, no_function, context_in, entered}
use Rattle.pt_core.specs.Steps.{Work, run, head, Active, Machine, Way, enters, here, away, Gate, Answer, moved, asked, ended, trapped, spent, idle, Step, answers, settled, past_loop, at_head, working, with_blocks, with_turn, turned, on_value, returned, at_end, is_active, just_entered, begins, made, awaiting, by_way, act, works, stepped, step}
use Rattle.slave_soundness_law.specs.MessagesFormat.{AllWorkFits, WorkFits}
use Rattle.slave_soundness_law.proofs.MessagesSpans.{StopFits, arguments_fit, assigned_fit, copied_fit, places_fit, returned_fit, values_fit}

abbrev pub TrapFits : Answer → Type 0
TrapFits moved = Unit {0}
TrapFits (asked f args depth) = Unit {0}
TrapFits (ended v) = Unit {0}
TrapFits (trapped trap span) = FitsSpan span
TrapFits spent = Unit {0}
TrapFits idle = Unit {0}

-- what is left to do fits, and so does a trap
pub record KeepsCode {G : Type 0} (s : Step G) : Type 0 where
  pub left : AllWorkFits s.machine.active
  pub trap : TrapFits s.answer

-- ---- functions

pub record FitsBody (f : FunctionTree) : Type 0 where
  pub body : FitsEach f.body
  pub end : FitsSpan f.end

no_body : FitsBody no_function
no_body = record { body = tt {0}; end = (no_number, no_number) }
  where
    no_number : 0 < 2 ^ 32
    no_number = omega arith

body_found : (functions : List FunctionTree) (f : ℕ) → AllByRecursion FitsFunction functions → FitsBody (unwrap_or (find (λ (g : FunctionTree). nat_eq f g.id) functions) no_function)
body_found [] f h = no_body
body_found (g ∷ rest) f h = go (body_found rest f h.1) (nat_eq f g.id)
  where
    go : FitsBody (unwrap_or (find (λ (x : FunctionTree). nat_eq f x.id) rest) no_function) → (b : Bool) → FitsBody (unwrap_or (if b then Some g else find (λ (x : FunctionTree). nat_eq f x.id) rest) no_function)
    go more true = record { body = h.0.1.1.1.0.1; end = h.0.1.1.1.1 }
    go more false = more

pub body_fits : (program : ProgramTree) (f : ℕ) → AllByRecursion FitsFunction program.functions → FitsBody (function_in program f)
body_fits program f code = body_found program.functions f code

-- ---- work

settled_fits : (work : List Work) → WorkFits work → WorkFits (settled work)
settled_fits [] h = h
settled_fits (run no_stmts ∷ work) h = settled_fits work h.1
settled_fits (run (stmt_and s rest) ∷ work) h = h
settled_fits (head body ∷ work) h = h

past_fits : (work : List Work) → WorkFits work → WorkFits (past_loop work)
past_fits [] h = h
past_fits (run stmts ∷ work) h = past_fits work h.1
past_fits (head body ∷ work) h = h.1

head_fits : (work : List Work) → WorkFits work → WorkFits (at_head work)
head_fits [] h = h
head_fits (run stmts ∷ work) h = head_fits work h.1
head_fits (head body ∷ work) h = h

-- ---- a step

module _ {G : Type 0} (program : ProgramTree) (gate : Gate G) (code : AllByRecursion FitsFunction program.functions) where
  goes_on : (m : Machine) (g : G) (a : Active) (rest : List Active) (work : List Work) (blocks : Blocks) → WorkFits work → AllWorkFits rest → KeepsCode (answers moved (with_blocks blocks (working m a rest work)) g)
  goes_on m g a rest work blocks h k = record { left = (h, k); trap = tt {0} }

  stays : (m : Machine) (g : G) (answer : Answer) → TrapFits answer → AllWorkFits m.active → KeepsCode (answers answer m g)
  stays m g answer t k = record { left = k; trap = t }

  on_each : {A : Type 0} (r : Result A Stop) (m : Machine) (g : G) (next : A → Step G) → AllWorkFits m.active → StopFits r → ((a : A) → KeepsCode (next a)) → KeepsCode (on_value r m g next)
  on_each (Ok a) m g next own t k = k a
  on_each (Err stop) m g next own t k = stays m g (trapped stop.trap stop.span) t own

  on_turn : (m : Machine) (g : G) (next : Machine → Step G) → AllWorkFits m.active → KeepsCode (next (with_turn m)) → KeepsCode (turned m g next)
  on_turn m g next own k = go (nat_lt m.turns m.budget)
    where
      go : (b : Bool) → KeepsCode (if b then next (with_turn m) else answers spent m g)
      go true = k
      go false = stays m g spent (tt {0}) own

  on_either : (b : Bool) (x y : Step G) → KeepsCode x → KeepsCode y → KeepsCode (if b then x else y)
  on_either true x y h k = h
  on_either false x y h k = k

  on_return : (m : Machine) (g : G) (a : Active) (rest : List Active) (v : Option Cell) → AllWorkFits rest → KeepsCode (returned m g a rest v)
  on_return m g a [] v k = record { left = k; trap = tt {0} }
  on_return m g a (caller ∷ rest) v k = record { left = k; trap = tt {0} }

  on_end : (t : Option IntType) (span : Span) (m : Machine) (g : G) (a : Active) (rest : List Active) → FitsSpan span → AllWorkFits m.active → AllWorkFits rest → KeepsCode (at_end t span m g a rest)
  on_end None span m g a rest s own k = on_return m g a rest None k
  on_end (Some t) span m g a rest s own k = stays m g (trapped NoReturn span) s own

  on_begin : (m : Machine) (g : G) (a : Active) (rest : List Active) (body : StmtTrees) (work : List Work) → AllWorkFits m.active → FitsEach body → WorkFits work → AllWorkFits rest → KeepsCode (begins m g a rest body work)
  on_begin m g a rest body work own b h k =
      on_turn m g (λ m1. answers moved (working m1 a rest (run body ∷ head body ∷ work)) g) own (record { left = ((b, (b, h)), k); trap = tt {0} })

  on_way : (m : Machine) (g : G) (a : Active) (rest : List Active) (work : List Work) (span : Span) (f : ℕ) (args : List Cell) (result : Option ℕ) (depth : ℕ) (way : Way) → FitsSpan span → WorkFits work → AllWorkFits rest →
      KeepsCode (by_way program gate (working m a rest work) g span f args result depth way)
  on_way m g a rest work span f args result depth enters s h k =
      let m1 : Machine = working m a rest work in
      on_either (nat_le (depth + 1) deepest) _ _
      (on_turn m1 g
      (λ m2. answers moved
      (record m2 {
        active = just_entered program (is_active m1.active || (signature_in program f).privileged) f (depth + 1) result ∷ m2.active;
        blocks = entered program f (depth + 1) args m2.blocks;
      })
      (gate.noted (is_active m1.active) f args g))
      (h, k)
      (record { left = (((body_fits program f code).body, tt {0}), (h, k)); trap = tt {0} }))
      (stays m1 g (trapped Depth span) s (h, k))
  on_way m g a rest work span f args result depth here s h k =
      let m1 : Machine = working m a rest work in
      on_turn m1 g
      (λ m2. made m2 depth result (gate.answer f (map number_in args) (gate.noted (is_active m1.active) f args g)))
      (h, k)
      (record { left = (h, k); trap = tt {0} })
  on_way m g a rest work span f args result depth away s h k =
      let asks : (d : ℕ) → KeepsCode (answers (asked f args d) (awaiting f result (working m a rest work)) g) = λ d. record { left = (h, k); trap = tt {0} } in
      on_either (signature_in program f).host _ _ (asks 0)
      (on_either (nat_le (depth + 1) deepest) _ _ (asks (depth + 1)) (stays (working m a rest work) g (trapped Depth span) s (h, k)))

  on_act : (m : Machine) (g : G) (a : Active) (rest : List Active) (work : List Work) (s : StmtTree) → AllWorkFits m.active → FitsStmt s → WorkFits work → AllWorkFits rest → KeepsCode (act program gate m g a rest work s)
  on_act m g a rest work (clear v) own c h k = goes_on m g a rest work _ h k
  on_act m g a rest work (check p) own c h k =
      on_each (location_of (context_in program a.function) a.depth p m.blocks) m g _ own (places_fit (context_in program a.function) a.depth p m.blocks c) (λ at. goes_on m g a rest work m.blocks h k)
  on_act m g a rest work (assign p x) own c h k =
      on_each (assigned (context_in program a.function) a.depth p x m.blocks) m g _ own (assigned_fit (context_in program a.function) a.depth p x m.blocks c.0 c.1) (λ blocks. goes_on m g a rest work blocks h k)
  on_act m g a rest work (copy to of) own c h k =
      on_each (copied (context_in program a.function) a.depth to of m.blocks) m g _ own (copied_fit (context_in program a.function) a.depth to of m.blocks c.0 c.1) (λ blocks. goes_on m g a rest work blocks h k)
  on_act m g a rest work (call f args result span) own c h k =
      on_each (values_of (context_in program a.function) a.depth args m.blocks) m g _ own (arguments_fit (context_in program a.function) a.depth args m.blocks c.1.0.1)
      (λ vs. on_way m g a rest work span f vs result a.depth (gate.way g f vs) c.1.1.1 h k)
  on_act m g a rest work (choose x first second) own c h k =
      on_each (value_of (context_in program a.function) a.depth x m.blocks) m g _ own (values_fit (context_in program a.function) a.depth x m.blocks c.0) (λ v. chosen (holds_in v))
    where
      chosen : (b : Bool) → KeepsCode (answers moved (working m a rest (run (if b then first else second) ∷ work)) g)
      chosen true = goes_on m g a rest (run first ∷ work) m.blocks (c.1.0.1, h) k
      chosen false = goes_on m g a rest (run second ∷ work) m.blocks (c.1.1.1, h) k
  on_act m g a rest work (repeat body span) own c h k = on_begin m g a rest body work own c.0.1 h k
  on_act m g a rest work break_out own c h k = goes_on m g a rest (past_loop work) m.blocks (past_fits work h) k
  on_act m g a rest work continue_on own c h k = goes_on m g a rest (at_head work) m.blocks (head_fits work h) k
  on_act m g a rest work (give_back x) own c h k =
      on_each (returned_value (context_in program a.function) a.depth x m.blocks) m g _ own (returned_fit (context_in program a.function) a.depth x m.blocks c) (λ v. on_return m g a rest v k)

  on_work : (m : Machine) (g : G) (a : Active) (rest : List Active) (work : List Work) → AllWorkFits m.active → WorkFits work → AllWorkFits rest → KeepsCode (works program gate m g a rest work)
  on_work m g a rest [] own h k = on_end (signature_in program a.function).result (function_in program a.function).end m g a rest (body_fits program a.function code).end own k
  on_work m g a rest (run no_stmts ∷ work) own h k = goes_on m g a rest work m.blocks h.1 k
  on_work m g a rest (run (stmt_and s more) ∷ work) own h k = on_act m g a rest (run more ∷ work) s own h.0.0 (h.0.1, h.1) k
  on_work m g a rest (head body ∷ work) own h k = on_begin m g a rest body work own h.0 h.1 k

  on_step : (m : Machine) (g : G) (active : List Active) → AllWorkFits m.active → AllWorkFits active → KeepsCode (stepped program gate m g active)
  on_step m g [] own k = stays m g idle (tt {0}) own
  on_step m g (a ∷ rest) own k = on_work m g a rest (settled a.work) own (settled_fits a.work k.0) k.1

  pub steps_keep_code : (m : Machine) (g : G) → AllWorkFits m.active → KeepsCode (step program gate m g)
  steps_keep_code m g own = on_step m g m.active own own
