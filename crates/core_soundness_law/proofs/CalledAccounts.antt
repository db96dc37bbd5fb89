-- A step takes no turn that the budget doesn't have, and awaits nothing but what it asks for.
use Rattle.std.proofs.Common.{◌≡◌, ◌≤◌, ◌<◌, ℕ, suc, ◌+◌, List, [], ◌∷◌, Option, Some, None, Bool, true, false, refl, sym, ap, arith}
use Rattle.std.specs.Prelude.{Result, Ok, Err, if◌then◌else◌, ◌||◌, nat_lt, nat_le, map}
use Rattle.std.proofs.lemmas.Bool.{ltb-true}
use Rattle.pt_base.specs.declared.int_type.IntType.{IntType}
use Rattle.pt_base.specs.declared.span.Span.{Span}
use Rattle.pt_base.specs.declared.trap.Trap.TheVariants.{Depth, NoReturn}
use Rattle.runs.specs.Run.{deepest}
use Rattle.block_memory.specs.declared.cell.Cell.{Cell}
use Rattle.block_memory.specs.Blocks.{Blocks}
use Rattle.pt_core.specs.CodeTree.{StmtTree, clear, check, assign, copy, call, choose, repeat, break_out, continue_on, give_back, StmtTrees, no_stmts, stmt_and, ProgramTree}
use Rattle.pt_core.specs.Values.{Stop, holds_in, number_in, value_of, values_of, location_of}
use Rattle.pt_core.specs.Statements.{assigned, copied, returned_value}
use Rattle.pt_core.specs.Calls.{signature_in, function_in, context_in, entered}
use Rattle.pt_core.specs.Steps.{Work, run, head, Active, Machine, Way, enters, here, away, Gate, Answer, moved, asked, ended, trapped, spent, idle, Step, answers, settled, past_loop, at_head, working, with_blocks, with_turn, turned, on_value, returned, at_end, is_active, just_entered, begins, made, awaiting, by_way, act, works, stepped}
use Rattle.core_soundness_law.specs.Called.{SameOutermost, GoesBy, GoOnWith, KeepsAccount, StepsKeepAccount}

-- ---- the outermost function

alike_working : (a : Active) (rest : List Active) (work : List Work) → SameOutermost (a ∷ rest) (record a { work = work } ∷ rest)
alike_working a [] work f h = h
alike_working a (b ∷ rest) work f h = h

alike_entered : (a new : Active) (rest : List Active) (work : List Work) → SameOutermost (a ∷ rest) (new ∷ record a { work = work } ∷ rest)
alike_entered a new [] work f h = h
alike_entered a new (b ∷ rest) work f h = h

alike_left : (a caller : Active) (rest : List Active) → SameOutermost (a ∷ caller ∷ rest) (caller ∷ rest)
alike_left a caller rest f h = h

-- ---- a step

module _ {G : Type 0} (program : ProgramTree) (gate : Gate G) where
  -- a machine with the turns and the budget of the first one
  same : (active : List Active) (m : Machine) (answer : Answer) (x : Machine) (g : G) → x.turns ≡ m.turns → x.budget ≡ m.budget → GoesBy active m answer x → KeepsAccount active m (answers answer x g)
  same active m answer x g t b w = record { budget = b; turns = λ h. omega (arith, t, h); goes = w }

  -- one that has taken a turn more
  one_more : (active : List Active) (m : Machine) (x : Machine) (g : G) → m.turns < m.budget → x.turns ≡ suc m.turns → x.budget ≡ m.budget → GoesBy active m moved x → KeepsAccount active m (answers moved x g)
  one_more active m x g less t b w = record { budget = b; turns = λ h. omega (arith, t, less); goes = w }

  on_each : {A : Type 0} (active : List Active) (r : Result A Stop) (m : Machine) (g : G) (next : A → Step G) → ((a : A) → KeepsAccount active m (next a)) → KeepsAccount active m (on_value r m g next)
  on_each active (Ok a) m g next k = k a
  on_each active (Err stop) m g next k = same active m (trapped stop.trap stop.span) m g refl refl (tt {0})

  on_turn : (active : List Active) (m x : Machine) (g : G) (next : Machine → Step G) → x.turns ≡ m.turns → x.budget ≡ m.budget → (m.turns < m.budget → KeepsAccount active m (next (with_turn x))) → KeepsAccount active m (turned x g next)
  on_turn active m x g next t b k = go (nat_lt x.turns x.budget) refl
    where
      less : x.turns < x.budget → m.turns < m.budget
      less h = omega (arith, t, b, h)

      go : (c : Bool) → nat_lt x.turns x.budget ≡ c → KeepsAccount active m (if c then next (with_turn x) else answers spent x g)
      go true e = k (less (ltb-true x.turns x.budget e))
      go false e = same active m spent x g t b (tt {0})

  on_either : (active : List Active) (m : Machine) (c : Bool) (x y : Step G) → KeepsAccount active m x → KeepsAccount active m y → KeepsAccount active m (if c then x else y)
  on_either active m true x y h k = h
  on_either active m false x y h k = k

  on_return : (m : Machine) (g : G) (a : Active) (rest : List Active) (v : Option Cell) → KeepsAccount (a ∷ rest) m (returned m g a rest v)
  on_return m g a [] v = same (a ∷ []) m (ended v) _ g refl refl (a, refl)
  on_return m g a (caller ∷ rest) v = same (a ∷ caller ∷ rest) m moved _ g refl refl (refl, alike_left a caller rest)

  on_end : (t : Option IntType) (span : Span) (m : Machine) (g : G) (a : Active) (rest : List Active) → KeepsAccount (a ∷ rest) m (at_end t span m g a rest)
  on_end None span m g a rest = on_return m g a rest None
  on_end (Some t) span m g a rest = same (a ∷ rest) m (trapped NoReturn span) m g refl refl (tt {0})

  on_begin : (m : Machine) (g : G) (a : Active) (rest : List Active) (body : StmtTrees) (work : List Work) → KeepsAccount (a ∷ rest) m (begins m g a rest body work)
  on_begin m g a rest body work =
      on_turn (a ∷ rest) m m g (λ m1. answers moved (working m1 a rest (run body ∷ head body ∷ work)) g) refl refl (λ less. one_more (a ∷ rest) m _ g less refl refl (refl, alike_working a rest (run body ∷ head body ∷ work)))

  on_way : (m : Machine) (g : G) (a : Active) (rest : List Active) (work : List Work) (span : Span) (f : ℕ) (args : List Cell) (result : Option ℕ) (depth : ℕ) (way : Way) →
      KeepsAccount (a ∷ rest) m (by_way program gate (working m a rest work) g span f args result depth way)
  on_way m g a rest work span f args result depth enters =
      let m1 : Machine = working m a rest work in
      on_either (a ∷ rest) m (nat_le (depth + 1) deepest) _ _
      (on_turn (a ∷ rest) m m1 g
      (λ m2. answers moved
      (record m2 {
        active = just_entered program (is_active m1.active || (signature_in program f).privileged) f (depth + 1) result ∷ m2.active;
        blocks = entered program f (depth + 1) args m2.blocks;
      })
      (gate.noted (is_active m1.active) f args g))
      refl refl (λ less. one_more (a ∷ rest) m _ _ less refl refl (refl, alike_entered a (just_entered program (is_active m1.active || (signature_in program f).privileged) f (depth + 1) result) rest work)))
      (same (a ∷ rest) m (trapped Depth span) m1 g refl refl (tt {0}))
  on_way m g a rest work span f args result depth here =
      let m1 : Machine = working m a rest work in
      on_turn (a ∷ rest) m m1 g
      (λ m2. made m2 depth result (gate.answer f (map number_in args) (gate.noted (is_active m1.active) f args g)))
      refl refl (λ less. one_more (a ∷ rest) m _ _ less refl refl (refl, alike_working a rest work))
  on_way m g a rest work span f args result depth away =
      let asks : (d : ℕ) → KeepsAccount (a ∷ rest) m (answers (asked f args d) (awaiting f result (working m a rest work)) g) =
      λ d. same (a ∷ rest) m (asked f args d) _ g refl refl (record { result = result; awaits = refl; goes_on = (work, refl) }) in
      on_either (a ∷ rest) m (signature_in program f).host _ _ (asks 0)
      (on_either (a ∷ rest) m (nat_le (depth + 1) deepest) _ _ (asks (depth + 1)) (same (a ∷ rest) m (trapped Depth span) _ g refl refl (tt {0})))

  on_act : (m : Machine) (g : G) (a : Active) (rest : List Active) (work : List Work) (s : StmtTree) → KeepsAccount (a ∷ rest) m (act program gate m g a rest work s)
  on_act m g a rest work (clear v) = same (a ∷ rest) m moved _ g refl refl (refl, alike_working a rest work)
  on_act m g a rest work (check p) = on_each (a ∷ rest) (location_of (context_in program a.function) a.depth p m.blocks) m g _ (λ at. same (a ∷ rest) m moved _ g refl refl (refl, alike_working a rest work))
  on_act m g a rest work (assign p x) = on_each (a ∷ rest) (assigned (context_in program a.function) a.depth p x m.blocks) m g _ (λ blocks. same (a ∷ rest) m moved _ g refl refl (refl, alike_working a rest work))
  on_act m g a rest work (copy to of) = on_each (a ∷ rest) (copied (context_in program a.function) a.depth to of m.blocks) m g _ (λ blocks. same (a ∷ rest) m moved _ g refl refl (refl, alike_working a rest work))
  on_act m g a rest work (call f args result span) =
      on_each (a ∷ rest) (values_of (context_in program a.function) a.depth args m.blocks) m g _ (λ vs. on_way m g a rest work span f vs result a.depth (gate.way g f vs))
  on_act m g a rest work (choose x first second) = on_each (a ∷ rest) (value_of (context_in program a.function) a.depth x m.blocks) m g _ (λ v. same (a ∷ rest) m moved _ g refl refl (refl, alike_working a rest (run (if holds_in v then first else second) ∷ work)))
  on_act m g a rest work (repeat body span) = on_begin m g a rest body work
  on_act m g a rest work break_out = same (a ∷ rest) m moved _ g refl refl (refl, alike_working a rest (past_loop work))
  on_act m g a rest work continue_on = same (a ∷ rest) m moved _ g refl refl (refl, alike_working a rest (at_head work))
  on_act m g a rest work (give_back x) = on_each (a ∷ rest) (returned_value (context_in program a.function) a.depth x m.blocks) m g _ (λ v. on_return m g a rest v)

  on_works : (m : Machine) (g : G) (a : Active) (rest : List Active) (work : List Work) → KeepsAccount (a ∷ rest) m (works program gate m g a rest work)
  on_works m g a rest [] = on_end (signature_in program a.function).result (function_in program a.function).end m g a rest
  on_works m g a rest (run no_stmts ∷ work) = same (a ∷ rest) m moved _ g refl refl (refl, alike_working a rest work)
  on_works m g a rest (run (stmt_and s more) ∷ work) = on_act m g a rest (run more ∷ work) s
  on_works m g a rest (head body ∷ work) = on_begin m g a rest body work

  on_step : (m : Machine) (g : G) (active : List Active) → KeepsAccount active m (stepped program gate m g active)
  on_step m g [] = same [] m idle m g refl refl (tt {0})
  on_step m g (a ∷ rest) = on_works m g a rest (settled a.work)

pub steps_keep_account : {G : Type 0} → StepsKeepAccount G
steps_keep_account program gate m g = on_step program gate m g m.active
