-- What a step leaves of the room.
use Rattle.std.proofs.Common.{◌≡◌, ◌∙◌, ℕ, suc, ◌+◌, ◌-◌, ◌*◌, ◌≤◌, ◌<◌, List, [], ◌∷◌, Option, Some, None, Bool, true, false, refl, ap, arith}
use Rattle.std.specs.Prelude.{Result, Ok, Err, if◌then◌else◌, ◌||◌, nat_lt, nat_le, nat_eq, map, unwrap_or}
use Rattle.std.specs.List.{find}
use Rattle.std.proofs.lemmas.Bool.{ltb-true, leb-true, leb-false}
use Rattle.pt_base.specs.declared.int_type.IntType.{IntType}
use Rattle.pt_base.specs.declared.span.Span.{Span}
use Rattle.pt_base.proofs.Booleans.{false_not_true}
use Rattle.runs.specs.Run.{deepest}
use Rattle.block_memory.specs.declared.cell.Cell.{Cell}
use Rattle.block_memory.specs.Blocks.{Blocks}
use Rattle.pt_core.specs.CodeTree.{StmtTree, clear, check, assign, copy, call, choose, repeat, break_out, continue_on, give_back, StmtTrees, no_stmts, stmt_and, FunctionTree, ProgramTree}
use Rattle.pt_core.specs.Values.{Stop, holds_in, number_in, value_of, values_of, location_of}
use Rattle.pt_core.specs.Statements.{assigned, copied, returned_value}
use Rattle.pt_core.specs.Calls.{signature_in, function_in, no_function, context_in, entered}
use Rattle.pt_core.specs.Steps.{Work, run, head, Active, Machine, Way, enters, here, away, Gate, moved, spent, Step, answers, settled, past_loop, at_head, working, with_blocks, with_turn, turned, on_value, returned, at_end, is_active, just_entered, begins, made, by_way, act, works, stepped}
use Rattle.core_steps_law.specs.MachinesRoom.{stmt_size, stmts_size, all_steps, steps_left, larger, largest_function, largest_work, largest_active, room_by}
use Rattle.core_steps_law.specs.MachinesBounded.{goes, IsUsed, StepsUseRoom}

-- ---- the larger of two

larger_by : (c : Bool) (a b : ℕ) → nat_le a b ≡ c → (a ≤ (if c then b else a)) × (b ≤ (if c then b else a))
larger_by true a b e = let h : a ≤ b = leb-true a b e in (omega arith, omega arith)
larger_by false a b e = let h : b < a = leb-false a b e in (omega arith, omega arith)

both_less : (a b : ℕ) → (a ≤ larger a b) × (b ≤ larger a b)
both_less a b = larger_by (nat_le a b) a b refl

pub first_less : (a b n : ℕ) → larger a b ≤ n → a ≤ n
first_less a b n h = let p : a ≤ larger a b = (both_less a b).0 in omega arith

pub second_less : (a b n : ℕ) → larger a b ≤ n → b ≤ n
second_less a b n h = let p : b ≤ larger a b = (both_less a b).1 in omega arith

larger_than : (c : Bool) (a b n : ℕ) → a ≤ n → b ≤ n → (if c then b else a) ≤ n
larger_than true a b n h k = k
larger_than false a b n h k = h

pub larger_less : (a b n : ℕ) → a ≤ n → b ≤ n → larger a b ≤ n
larger_less a b n h k = larger_than (nat_le a b) a b n h k

-- ---- the code of functions

pub body_by : (c : Bool) (f : FunctionTree) (o : Option FunctionTree) (n : ℕ) → stmts_size f.body ≤ n → stmts_size (unwrap_or o no_function).body ≤ n →
    stmts_size (unwrap_or (if c then Some f else o) no_function).body ≤ n
body_by true f o n h k = h
body_by false f o n h k = k

pub body_found : (functions : List FunctionTree) (f n : ℕ) → largest_function functions ≤ n → stmts_size (unwrap_or (find (λ (g : FunctionTree). nat_eq f g.id) functions) no_function).body ≤ n
body_found [] f n h = omega arith
body_found (g ∷ rest) f n h =
    body_by (nat_eq f g.id) g (find (λ (g : FunctionTree). nat_eq f g.id) rest) n (first_less (stmts_size g.body) (largest_function rest) n h)
    (body_found rest f n (second_less (stmts_size g.body) (largest_function rest) n h))

-- ---- work

settled_steps : (work : List Work) → all_steps (settled work) ≡ all_steps work
settled_steps [] = refl
settled_steps (run no_stmts ∷ work) = let h : all_steps (settled work) ≡ all_steps work = settled_steps work in omega arith
settled_steps (run (stmt_and s rest) ∷ work) = refl
settled_steps (head body ∷ work) = refl

settled_size : (work : List Work) (n : ℕ) → largest_work work ≤ n → largest_work (settled work) ≤ n
settled_size [] n h = h
settled_size (run no_stmts ∷ work) n h = settled_size work n (second_less 0 (largest_work work) n h)
settled_size (run (stmt_and s rest) ∷ work) n h = h
settled_size (head body ∷ work) n h = h

-- it doesn't begin with a list that is at its end
empty_first : (s : StmtTree) (rest : StmtTrees) (work more : List Work) → run (stmt_and s rest) ∷ work ≡ run no_stmts ∷ more → ⊥
empty_first s rest work more e = cc

never_empty : (work more : List Work) → settled work ≡ run no_stmts ∷ more → ⊥
never_empty [] more e = cc
never_empty (run no_stmts ∷ work) more e = never_empty work more e
never_empty (run (stmt_and s rest) ∷ work) more e = empty_first s rest work more e
never_empty (head body ∷ work) more e = cc

past_steps : (work : List Work) → all_steps (past_loop work) ≤ all_steps work
past_steps [] = omega arith
past_steps (run stmts ∷ work) = let h : all_steps (past_loop work) ≤ all_steps work = past_steps work in omega arith
past_steps (head body ∷ work) = omega arith

past_size : (work : List Work) (n : ℕ) → largest_work work ≤ n → largest_work (past_loop work) ≤ n
past_size [] n h = h
past_size (run stmts ∷ work) n h = past_size work n (second_less (stmts_size stmts) (largest_work work) n h)
past_size (head body ∷ work) n h = second_less (stmts_size body) (largest_work work) n h

head_steps : (work : List Work) → all_steps (at_head work) ≤ all_steps work
head_steps [] = omega arith
head_steps (run stmts ∷ work) = let h : all_steps (at_head work) ≤ all_steps work = head_steps work in omega arith
head_steps (head body ∷ work) = omega arith

head_size : (work : List Work) (n : ℕ) → largest_work work ≤ n → largest_work (at_head work) ≤ n
head_size [] n h = h
head_size (run stmts ∷ work) n h = head_size work n (second_less (stmts_size stmts) (largest_work work) n h)
head_size (head body ∷ work) n h = h

-- ---- a step's room

-- one turn less
a_turn : (budget turns wide : ℕ) → turns < budget → (budget - turns) * (wide + 1) ≡ (wide + 1) + (budget - suc turns) * (wide + 1)
a_turn budget turns wide h =
    let e : budget - turns ≡ suc (budget - suc turns) = omega arith in
    ap (λ k. k * (wide + 1)) e ∙ suc_times (budget - suc turns) (wide + 1)
  where
    suc_times : (k w : ℕ) → suc k * w ≡ w + k * w
    suc_times k w = omega arith

-- where it goes on, less than so much is left
abbrev Uses : {G : Type 0} → ProgramTree → ℕ → ℕ → Step G → Type 0
Uses program wide n x = goes x.answer ≡ true → IsUsed program wide n x.machine

abbrev turns_room : ℕ → Machine → ℕ
turns_room wide m = (m.budget - m.turns) * (wide + 1)

module _ {G : Type 0} (program : ProgramTree) (gate : Gate G) (wide n : ℕ) (code : largest_function program.functions ≤ wide) where
  -- the active functions fit where the innermost does and the others do
  fits_by : (work : List Work) (rest : List Active) → largest_work work ≤ wide → largest_active rest ≤ wide → larger (largest_function program.functions) (larger (largest_work work) (largest_active rest)) ≤ wide
  fits_by work rest h k =
      larger_less (largest_function program.functions) (larger (largest_work work) (largest_active rest)) wide code
      (larger_less (largest_work work) (largest_active rest) wide h k)

  -- the innermost function has less to do, at the same turns
  uses_working : (m : Machine) (g : G) (a : Active) (rest : List Active) (work : List Work) (blocks : Blocks) →
      turns_room wide m + (suc (all_steps work) + steps_left rest) < n → largest_work work ≤ wide → largest_active rest ≤ wide →
      Uses program wide n (answers moved (with_blocks blocks (working m a rest work)) g)
  uses_working m g a rest work blocks less h k e = record { less = less; fits = fits_by work rest h k }

  uses_value : {A : Type 0} (r : Result A Stop) (m : Machine) (g : G) (next : A → Step G) → ((a : A) → Uses program wide n (next a)) → Uses program wide n (on_value r m g next)
  uses_value (Ok a) m g next k = k a
  uses_value (Err stop) m g next k = λ e. false_not_true e

  uses_turned : (m : Machine) (g : G) (next : Machine → Step G) → (turns_room wide m ≡ (wide + 1) + turns_room wide (with_turn m) → Uses program wide n (next (with_turn m))) → Uses program wide n (turned m g next)
  uses_turned m g next k = by_test (nat_lt m.turns m.budget) refl
    where
      by_test : (b : Bool) → nat_lt m.turns m.budget ≡ b → Uses program wide n (if b then next (with_turn m) else answers spent m g)
      by_test true e = k (a_turn m.budget m.turns wide (ltb-true m.turns m.budget e))
      by_test false e = λ e1. false_not_true e1

  uses_either : (b : Bool) (x y : Step G) → Uses program wide n x → Uses program wide n y → Uses program wide n (if b then x else y)
  uses_either true x y h k = h
  uses_either false x y h k = k

  uses_returned : (m : Machine) (g : G) (a : Active) (rest : List Active) (v : Option Cell) →
      turns_room wide m + steps_left rest < n → largest_active rest ≤ wide → Uses program wide n (returned m g a rest v)
  uses_returned m g a [] v less k = λ e. false_not_true e
  uses_returned m g a (caller ∷ rest) v less k = λ e. record {
    less = less;
    fits = larger_less (largest_function program.functions) (largest_active (caller ∷ rest)) wide code k;
  }

  uses_end : (t : Option IntType) (span : Span) (m : Machine) (g : G) (a : Active) (rest : List Active) →
      turns_room wide m + steps_left rest < n → largest_active rest ≤ wide → Uses program wide n (at_end t span m g a rest)
  uses_end None span m g a rest less k = uses_returned m g a rest None less k
  uses_end (Some t) span m g a rest less k = λ e. false_not_true e

  uses_begins : (m : Machine) (g : G) (a : Active) (rest : List Active) (body : StmtTrees) (work : List Work) →
      turns_room wide m + (suc (all_steps work) + steps_left rest) < n → stmts_size body ≤ wide → largest_work work ≤ wide → largest_active rest ≤ wide →
      Uses program wide n (begins m g a rest body work)
  uses_begins m g a rest body work room small h k =
      uses_turned m g (λ m1. answers moved (working m1 a rest (run body ∷ head body ∷ work)) g)
      (λ turn e. record {
        less = omega arith;
        fits = fits_by (run body ∷ head body ∷ work) rest (larger_less (stmts_size body) (larger (stmts_size body) (largest_work work)) wide small (larger_less (stmts_size body) (largest_work work) wide small h)) k;
      })

  -- a call, behind which this work is left
  uses_way : (m : Machine) (g : G) (a : Active) (rest : List Active) (work : List Work) (span : Span) (f : ℕ) (args : List Cell) (result : Option ℕ) (depth : ℕ) (way : Way) →
      turns_room wide m + (suc (all_steps work) + steps_left rest) < n → largest_work work ≤ wide → largest_active rest ≤ wide →
      Uses program wide n (by_way program gate (working m a rest work) g span f args result depth way)
  uses_way m g a rest work span f args result depth enters less h k =
      let m1 : Machine = working m a rest work in
      let small : stmts_size (function_in program f).body ≤ wide = body_found program.functions f wide code in
      uses_either (nat_le (depth + 1) deepest) _ _
      (uses_turned m1 g
      (λ m2. answers moved
      (record m2 {
        active = just_entered program (is_active m1.active || (signature_in program f).privileged) f (depth + 1) result ∷ m2.active;
        blocks = entered program f (depth + 1) args m2.blocks;
      })
      (gate.noted (is_active m1.active) f args g))
      (λ turn e. record {
        less = omega arith;
        fits = fits_by (run (function_in program f).body ∷ []) (record a { work = work } ∷ rest) (larger_less (stmts_size (function_in program f).body) 0 wide small (omega arith)) (larger_less (largest_work work) (largest_active rest) wide h k);
      }))
      (λ e. false_not_true e)
  uses_way m g a rest work span f args result depth here less h k =
      let m1 : Machine = working m a rest work in
      uses_turned m1 g
      (λ m2. made m2 depth result (gate.answer f (map number_in args) (gate.noted (is_active m1.active) f args g)))
      (λ turn e. record { less = omega arith; fits = fits_by work rest h k })
  uses_way m g a rest work span f args result depth away less h k =
      let m1 : Machine = working m a rest work in
      uses_either (signature_in program f).host _ _
      (λ e. record { less = less; fits = fits_by work rest h k })
      (uses_either (nat_le (depth + 1) deepest) _ _
      (λ e. record { less = less; fits = fits_by work rest h k })
      (λ e. false_not_true e))

  uses_act : (m : Machine) (g : G) (a : Active) (rest : List Active) (work : List Work) (s : StmtTree) →
      turns_room wide m + (suc (stmt_size s + all_steps work) + steps_left rest) ≤ n → stmt_size s ≤ wide → largest_work work ≤ wide → largest_active rest ≤ wide →
      Uses program wide n (act program gate m g a rest work s)
  uses_act m g a rest work (clear v) room small h k = uses_working m g a rest work _ (omega arith) h k
  uses_act m g a rest work (check p) room small h k =
      uses_value (location_of (context_in program a.function) a.depth p m.blocks) m g _ (λ at. uses_working m g a rest work m.blocks (omega arith) h k)
  uses_act m g a rest work (assign p x) room small h k =
      uses_value (assigned (context_in program a.function) a.depth p x m.blocks) m g _ (λ blocks. uses_working m g a rest work blocks (omega arith) h k)
  uses_act m g a rest work (copy to of) room small h k =
      uses_value (copied (context_in program a.function) a.depth to of m.blocks) m g _ (λ blocks. uses_working m g a rest work blocks (omega arith) h k)
  uses_act m g a rest work (call f args result span) room small h k =
      uses_value (values_of (context_in program a.function) a.depth args m.blocks) m g _
      (λ vs. uses_way m g a rest work span f vs result a.depth (gate.way g f vs) (omega arith) h k)
  uses_act m g a rest work (choose x first second) room small h k =
      uses_value (value_of (context_in program a.function) a.depth x m.blocks) m g _ (λ v. chosen (holds_in v))
    where
      chosen : (b : Bool) → Uses program wide n (answers moved (working m a rest (run (if b then first else second) ∷ work)) g)
      chosen true = uses_working m g a rest (run first ∷ work) m.blocks (omega arith) (larger_less (stmts_size first) (largest_work work) wide (omega arith) h) k
      chosen false = uses_working m g a rest (run second ∷ work) m.blocks (omega arith) (larger_less (stmts_size second) (largest_work work) wide (omega arith) h) k
  uses_act m g a rest work (repeat body span) room small h k = uses_begins m g a rest body work (omega arith) (omega arith) h k
  uses_act m g a rest work break_out room small h k =
      let less : all_steps (past_loop work) ≤ all_steps work = past_steps work in
      uses_working m g a rest (past_loop work) m.blocks (omega arith) (past_size work wide h) k
  uses_act m g a rest work continue_on room small h k =
      let less : all_steps (at_head work) ≤ all_steps work = head_steps work in
      uses_working m g a rest (at_head work) m.blocks (omega arith) (head_size work wide h) k
  uses_act m g a rest work (give_back x) room small h k =
      uses_value (returned_value (context_in program a.function) a.depth x m.blocks) m g _ (λ v. uses_returned m g a rest v (omega arith) k)

  uses_works : (m : Machine) (g : G) (a : Active) (rest : List Active) (from work : List Work) → settled from ≡ work →
      turns_room wide m + (suc (all_steps work) + steps_left rest) ≤ n → largest_work work ≤ wide → largest_active rest ≤ wide →
      Uses program wide n (works program gate m g a rest work)
  uses_works m g a rest from [] e room h k = uses_end (signature_in program a.function).result (function_in program a.function).end m g a rest (omega arith) k
  uses_works m g a rest from (run no_stmts ∷ work) e room h k = absurd (never_empty from work e)
  uses_works m g a rest from (run (stmt_and s more) ∷ work) e room h k =
      let size : stmt_size s + stmts_size more ≤ wide = first_less (stmt_size s + stmts_size more) (largest_work work) wide h in
      uses_act m g a rest (run more ∷ work) s (omega arith) (omega arith) (larger_less (stmts_size more) (largest_work work) wide (omega arith) (second_less (stmt_size s + stmts_size more) (largest_work work) wide h)) k
  uses_works m g a rest from (head body ∷ work) e room h k =
      uses_begins m g a rest body work (omega arith) (first_less (stmts_size body) (largest_work work) wide h) (second_less (stmts_size body) (largest_work work) wide h) k

  uses_stepped : (m : Machine) (g : G) (active : List Active) → turns_room wide m + steps_left active ≤ n → largest_active active ≤ wide → Uses program wide n (stepped program gate m g active)
  uses_stepped m g [] room k = λ e. false_not_true e
  uses_stepped m g (a ∷ rest) room k =
      let same : all_steps (settled a.work) ≡ all_steps a.work = settled_steps a.work in
      uses_works m g a rest a.work (settled a.work) refl (omega arith)
      (settled_size a.work wide (first_less (largest_work a.work) (largest_active rest) wide k)) (second_less (largest_work a.work) (largest_active rest) wide k)

pub steps_use_room : {G : Type 0} → StepsUseRoom G
steps_use_room program gate m g wide fits e =
    uses_stepped program gate wide (room_by wide m) (first_less (largest_function program.functions) (largest_active m.active) wide fits) m g m.active (omega arith)
    (second_less (largest_function program.functions) (largest_active m.active) wide fits) e
