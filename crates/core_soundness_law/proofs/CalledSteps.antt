-- A step leaves nothing to do but calls of what the program's functions call.
use Rattle.std.proofs.Common.{◌≡◌, ◌∙◌, ◌≤◌, ℕ, ◌+◌, List, [], ◌∷◌, ◌++◌, Option, Some, None, Bool, true, false, refl, ap, subst, arith}
use Rattle.std.specs.Prelude.{Result, Ok, Err, IsTrue, if◌then◌else◌, ◌&&◌, ◌||◌, nat_lt, nat_le, nat_eq, map, unwrap_or}
use Rattle.std.specs.List.{find, flat_map, list_all, list_any}
use Rattle.pt_base.specs.declared.int_type.IntType.{IntType}
use Rattle.pt_base.specs.declared.span.Span.{Span}
use Rattle.std.proofs.lemmas.Bool.{leb-true}
use Rattle.pt_base.specs.declared.trap.Trap.TheVariants.{Depth}
use Rattle.pt_base.proofs.Booleans.{both_hold as and_both, both_hold_first, both_hold_second}
use Rattle.runs.specs.Run.{deepest}
use Rattle.block_memory.specs.declared.cell.Cell.{Cell}
use Rattle.block_memory.specs.Blocks.{Blocks}
use Rattle.pt_core.specs.CodeTree.{StmtTree, clear, check, assign, copy, call, choose, repeat, break_out, continue_on, give_back, StmtTrees, no_stmts, stmt_and, FunctionTree, ProgramTree}
use Rattle.pt_core.specs.Values.{Stop, holds_in, number_in, value_of, values_of, location_of}
use Rattle.pt_core.specs.Statements.{assigned, copied, returned_value}
use Rattle.pt_core.specs.Calls.{signature_in, function_in, no_function, context_in, entered}
use Rattle.pt_core.specs.Steps.{Work, run, head, Active, Machine, Way, enters, here, away, Gate, Answer, moved, asked, ended, trapped, spent, idle, Step, answers, settled, past_loop, at_head, working, with_blocks, with_turn, turned, on_value, returned, at_end, is_active, just_entered, begins, made, awaiting, by_way, act, works, stepped}
use Rattle.pt_core.specs.WellFormed.{callees}
use Rattle.pt_core.specs.WellFormedStatement.{callees_in, callees_of}
use Rattle.core_soundness_law.specs.Called.{is_called, calls_left, CallOwn, AllAreCalled, StepsCallOwn, StartedCallOwn}

-- ---- lists

abbrev Holds : (ℕ → Bool) → List ℕ → Type 0
Holds own fs = IsTrue (list_all own fs)

pub first_holds : (own : ℕ → Bool) (xs ys : List ℕ) → Holds own (xs ++ ys) → Holds own xs
first_holds own [] ys h = refl
first_holds own (x ∷ xs) ys h =
    and_both (own x) (list_all own xs) (both_hold_first (own x) (list_all own (xs ++ ys)) h) (first_holds own xs ys (both_hold_second (own x) (list_all own (xs ++ ys)) h))

pub second_holds : (own : ℕ → Bool) (xs ys : List ℕ) → Holds own (xs ++ ys) → Holds own ys
second_holds own [] ys h = h
second_holds own (x ∷ xs) ys h = second_holds own xs ys (both_hold_second (own x) (list_all own (xs ++ ys)) h)

both_hold : (own : ℕ → Bool) (xs ys : List ℕ) → Holds own xs → Holds own ys → Holds own (xs ++ ys)
both_hold own [] ys h k = k
both_hold own (x ∷ xs) ys h k =
    and_both (own x) (list_all own (xs ++ ys)) (both_hold_first (own x) (list_all own xs) h) (both_hold own xs ys (both_hold_second (own x) (list_all own xs) h) k)

-- each of them is among these
among_more : (f x : ℕ) (xs : List ℕ) → IsTrue (list_any (nat_eq f) xs) → IsTrue (list_any (nat_eq f) (x ∷ xs))
among_more f x xs h = go (nat_eq f x)
  where
    go : (b : Bool) → IsTrue (b || list_any (nat_eq f) xs)
    go true = refl
    go false = h

among_itself : (f : ℕ) (xs : List ℕ) → IsTrue (list_any (nat_eq f) (f ∷ xs))
among_itself f xs = go (nat_eq f f) (same f)
  where
    same : (n : ℕ) → nat_eq n n ≡ true
    same n = grind arith

    go : (b : Bool) → b ≡ true → IsTrue (b || list_any (nat_eq f) xs)
    go true e = refl
    go false e = cc

among_behind : (f : ℕ) (xs ys : List ℕ) → IsTrue (list_any (nat_eq f) ys) → IsTrue (list_any (nat_eq f) (xs ++ ys))
among_behind f [] ys h = h
among_behind f (x ∷ xs) ys h = among_more f x (xs ++ ys) (among_behind f xs ys h)

all_wider : (p q : ℕ → Bool) (xs : List ℕ) → ((f : ℕ) → IsTrue (p f) → IsTrue (q f)) → Holds p xs → Holds q xs
all_wider p q [] more h = refl
all_wider p q (x ∷ xs) more h = and_both (q x) (list_all q xs) (more x (both_hold_first (p x) (list_all p xs) h)) (all_wider p q xs more (both_hold_second (p x) (list_all p xs) h))

-- the first part of a list is in it
all_among : (xs ys : List ℕ) → Holds (λ f. list_any (nat_eq f) (xs ++ ys)) xs
all_among [] ys = refl
all_among (x ∷ xs) ys =
    and_both (list_any (nat_eq x) (x ∷ xs ++ ys)) (list_all (λ f. list_any (nat_eq f) (x ∷ xs ++ ys)) xs) (among_itself x (xs ++ ys))
    (all_wider (λ f. list_any (nat_eq f) (xs ++ ys)) (λ f. list_any (nat_eq f) (x ∷ xs ++ ys)) xs (λ f h. among_more f x (xs ++ ys) h) (all_among xs ys))

-- ---- the code of functions

abbrev called_by : List FunctionTree → List ℕ
called_by functions = flat_map (λ (f : FunctionTree). callees_of f.body) functions

body_found : (functions : List FunctionTree) (f : ℕ) → Holds (λ n. list_any (nat_eq n) (called_by functions)) (callees_of (unwrap_or (find (λ (g : FunctionTree). nat_eq f g.id) functions) no_function).body)
body_found [] f = refl
body_found (g ∷ rest) f = go (body_found rest f) (nat_eq f g.id)
  where
    go : Holds (λ n. list_any (nat_eq n) (called_by rest)) (callees_of (unwrap_or (find (λ (h : FunctionTree). nat_eq f h.id) rest) no_function).body) → (b : Bool) →
        Holds (λ n. list_any (nat_eq n) (callees_of g.body ++ called_by rest)) (callees_of (unwrap_or (if b then Some g else find (λ (h : FunctionTree). nat_eq f h.id) rest) no_function).body)
    go more true = all_among (callees_of g.body) (called_by rest)
    go more false =
        all_wider (λ n. list_any (nat_eq n) (called_by rest)) (λ n. list_any (nat_eq n) (callees_of g.body ++ called_by rest))
        (callees_of (unwrap_or (find (λ (h : FunctionTree). nat_eq f h.id) rest) no_function).body) (λ n h. among_behind n (callees_of g.body) (called_by rest) h) more

body_calls : (program : ProgramTree) (f : ℕ) → Holds (is_called program) (callees_of (function_in program f).body)
body_calls program f = body_found program.functions f

-- ---- work

pub settled_calls : (own : ℕ → Bool) (work : List Work) → Holds own (calls_left work) → Holds own (calls_left (settled work))
settled_calls own [] h = h
settled_calls own (run no_stmts ∷ work) h = settled_calls own work h
settled_calls own (run (stmt_and s rest) ∷ work) h = h
settled_calls own (head body ∷ work) h = h

past_calls : (own : ℕ → Bool) (work : List Work) → Holds own (calls_left work) → Holds own (calls_left (past_loop work))
past_calls own [] h = h
past_calls own (run stmts ∷ work) h = past_calls own work (second_holds own (callees_of stmts) (calls_left work) h)
past_calls own (head body ∷ work) h = second_holds own (callees_of body) (calls_left work) h

head_calls : (own : ℕ → Bool) (work : List Work) → Holds own (calls_left work) → Holds own (calls_left (at_head work))
head_calls own [] h = h
head_calls own (run stmts ∷ work) h = head_calls own work (second_holds own (callees_of stmts) (calls_left work) h)
head_calls own (head body ∷ work) h = h

-- ---- a step

module _ {G : Type 0} (program : ProgramTree) (gate : Gate G) where
  abbrev Calls : List ℕ → Type 0
  Calls fs = Holds (is_called program) fs

  calls_working : (m : Machine) (g : G) (a : Active) (rest : List Active) (work : List Work) (blocks : Blocks) → Calls (calls_left work) → CallOwn program rest →
      AllAreCalled program (answers moved (with_blocks blocks (working m a rest work)) g)
  calls_working m g a rest work blocks h k = record { left = (h, k); asks = λ f args depth e. cc }

  -- nothing is moved: the machine has to do what it had
  calls_stopped : (m : Machine) (g : G) (answer : Answer) → ((f : ℕ) (args : List Cell) (depth : ℕ) → answer ≡ asked f args depth → IsTrue (is_called program f) × (depth ≤ deepest)) → CallOwn program m.active → AllAreCalled program (answers answer m g)
  calls_stopped m g answer asks k = record { left = k; asks = asks }

  calls_value : {A : Type 0} (r : Result A Stop) (m : Machine) (g : G) (next : A → Step G) → CallOwn program m.active → ((a : A) → AllAreCalled program (next a)) → AllAreCalled program (on_value r m g next)
  calls_value (Ok a) m g next own k = k a
  calls_value (Err stop) m g next own k = calls_stopped m g (trapped stop.trap stop.span) (λ f args depth e. cc) own

  calls_turned : (m : Machine) (g : G) (next : Machine → Step G) → CallOwn program m.active → AllAreCalled program (next (with_turn m)) → AllAreCalled program (turned m g next)
  calls_turned m g next own k = go (nat_lt m.turns m.budget)
    where
      go : (b : Bool) → AllAreCalled program (if b then next (with_turn m) else answers spent m g)
      go true = k
      go false = calls_stopped m g spent (λ f args depth e. cc) own

  calls_either : (b : Bool) (x y : Step G) → AllAreCalled program x → AllAreCalled program y → AllAreCalled program (if b then x else y)
  calls_either true x y h k = h
  calls_either false x y h k = k

  calls_returned : (m : Machine) (g : G) (a : Active) (rest : List Active) (v : Option Cell) → CallOwn program rest → AllAreCalled program (returned m g a rest v)
  calls_returned m g a [] v k = record { left = k; asks = λ f args depth e. cc }
  calls_returned m g a (caller ∷ rest) v k = record { left = k; asks = λ f args depth e. cc }

  calls_end : (t : Option IntType) (span : Span) (m : Machine) (g : G) (a : Active) (rest : List Active) → CallOwn program m.active → CallOwn program rest → AllAreCalled program (at_end t span m g a rest)
  calls_end None span m g a rest own k = calls_returned m g a rest None k
  calls_end (Some t) span m g a rest own k = record { left = own; asks = λ f args depth e. cc }

  calls_begins : (m : Machine) (g : G) (a : Active) (rest : List Active) (body : StmtTrees) (work : List Work) → CallOwn program m.active → Calls (callees_of body) → Calls (calls_left work) → CallOwn program rest →
      AllAreCalled program (begins m g a rest body work)
  calls_begins m g a rest body work own b h k =
      calls_turned m g (λ m1. answers moved (working m1 a rest (run body ∷ head body ∷ work)) g) own
      (record {
        left = (both_hold (is_called program) (callees_of body) (calls_left (head body ∷ work)) b (both_hold (is_called program) (callees_of body) (calls_left work) b h), k);
        asks = λ f args depth e. cc;
      })

  -- a call of this function, behind which this work is left
  calls_way : (m : Machine) (g : G) (a : Active) (rest : List Active) (work : List Work) (span : Span) (f : ℕ) (args : List Cell) (result : Option ℕ) (depth : ℕ) (way : Way) →
      IsTrue (is_called program f) → Calls (calls_left work) → CallOwn program rest → AllAreCalled program (by_way program gate (working m a rest work) g span f args result depth way)
  calls_way m g a rest work span f args result depth enters own h k =
      let m1 : Machine = working m a rest work in
      calls_either (nat_le (depth + 1) deepest) _ _
      (calls_turned m1 g
      (λ m2. answers moved
      (record m2 {
        active = just_entered program (is_active m1.active || (signature_in program f).privileged) f (depth + 1) result ∷ m2.active;
        blocks = entered program f (depth + 1) args m2.blocks;
      })
      (gate.noted (is_active m1.active) f args g))
      (h, k)
      (record { left = (both_hold (is_called program) (callees_of (function_in program f).body) [] (body_calls program f) refl, (h, k)); asks = λ f1 args1 depth1 e. cc }))
      (record { left = (h, k); asks = λ f1 args1 depth1 e. cc })
  calls_way m g a rest work span f args result depth here own h k =
      let m1 : Machine = working m a rest work in
      calls_turned m1 g
      (λ m2. made m2 depth result (gate.answer f (map number_in args) (gate.noted (is_active m1.active) f args g)))
      (h, k)
      (record { left = (h, k); asks = λ f1 args1 depth1 e. cc })
  calls_way m g a rest work span f args result depth away own h k =
      calls_either (signature_in program f).host _ _
      (record { left = (h, k); asks = λ f1 args1 depth1 e. is_it f1 args1 0 depth1 (omega arith) e })
      (by_depth (nat_le (depth + 1) deepest) refl)
    where
      same : (f1 : ℕ) (args1 : List Cell) (d depth1 : ℕ) → asked f args d ≡ asked f1 args1 depth1 → (f ≡ f1) × (d ≡ depth1)
      same f1 args1 d depth1 e = (cc, cc)

      is_it : (f1 : ℕ) (args1 : List Cell) (d depth1 : ℕ) → d ≤ deepest → asked f args d ≡ asked f1 args1 depth1 → IsTrue (is_called program f1) × (depth1 ≤ deepest)
      is_it f1 args1 d depth1 low e = let both = same f1 args1 d depth1 e in (subst (λ n. IsTrue (is_called program n)) both.0 own, subst (λ n. n ≤ deepest) both.1 low)

      by_depth : (b : Bool) → nat_le (depth + 1) deepest ≡ b → AllAreCalled program (if b then answers (asked f args (depth + 1)) (awaiting f result (working m a rest work)) g else answers (trapped Depth span) (working m a rest work) g)
      by_depth true e = record { left = (h, k); asks = λ f1 args1 depth1 e1. is_it f1 args1 (depth + 1) depth1 (leb-true (depth + 1) deepest e) e1 }
      by_depth false e = record { left = (h, k); asks = λ f1 args1 depth1 e1. cc }

  calls_act : (m : Machine) (g : G) (a : Active) (rest : List Active) (work : List Work) (s : StmtTree) → CallOwn program m.active → Calls (callees_in s) → Calls (calls_left work) → CallOwn program rest →
      AllAreCalled program (act program gate m g a rest work s)
  calls_act m g a rest work (clear v) own c h k = calls_working m g a rest work _ h k
  calls_act m g a rest work (check p) own c h k =
      calls_value (location_of (context_in program a.function) a.depth p m.blocks) m g _ own (λ at. calls_working m g a rest work m.blocks h k)
  calls_act m g a rest work (assign p x) own c h k =
      calls_value (assigned (context_in program a.function) a.depth p x m.blocks) m g _ own (λ blocks. calls_working m g a rest work blocks h k)
  calls_act m g a rest work (copy to of) own c h k =
      calls_value (copied (context_in program a.function) a.depth to of m.blocks) m g _ own (λ blocks. calls_working m g a rest work blocks h k)
  calls_act m g a rest work (call f args result span) own c h k =
      calls_value (values_of (context_in program a.function) a.depth args m.blocks) m g _ own
      (λ vs. calls_way m g a rest work span f vs result a.depth (gate.way g f vs) (both_hold_first (is_called program f) true c) h k)
  calls_act m g a rest work (choose x first second) own c h k =
      calls_value (value_of (context_in program a.function) a.depth x m.blocks) m g _ own (λ v. chosen (holds_in v))
    where
      chosen : (b : Bool) → AllAreCalled program (answers moved (working m a rest (run (if b then first else second) ∷ work)) g)
      chosen true = calls_working m g a rest (run first ∷ work) m.blocks (both_hold (is_called program) (callees_of first) (calls_left work) (first_holds (is_called program) (callees_of first) (callees_of second) c) h) k
      chosen false = calls_working m g a rest (run second ∷ work) m.blocks (both_hold (is_called program) (callees_of second) (calls_left work) (second_holds (is_called program) (callees_of first) (callees_of second) c) h) k
  calls_act m g a rest work (repeat body span) own c h k = calls_begins m g a rest body work own c h k
  calls_act m g a rest work break_out own c h k = calls_working m g a rest (past_loop work) m.blocks (past_calls (is_called program) work h) k
  calls_act m g a rest work continue_on own c h k = calls_working m g a rest (at_head work) m.blocks (head_calls (is_called program) work h) k
  calls_act m g a rest work (give_back x) own c h k =
      calls_value (returned_value (context_in program a.function) a.depth x m.blocks) m g _ own (λ v. calls_returned m g a rest v k)

  calls_works : (m : Machine) (g : G) (a : Active) (rest : List Active) (work : List Work) → CallOwn program m.active → Calls (calls_left work) → CallOwn program rest → AllAreCalled program (works program gate m g a rest work)
  calls_works m g a rest [] own h k = calls_end (signature_in program a.function).result (function_in program a.function).end m g a rest own k
  calls_works m g a rest (run no_stmts ∷ work) own h k = calls_working m g a rest work m.blocks h k
  calls_works m g a rest (run (stmt_and s more) ∷ work) own h k =
      let both : Calls (callees_in s ++ callees_of more) = first_holds (is_called program) (callees_in s ++ callees_of more) (calls_left work) h in
      calls_act m g a rest (run more ∷ work) s own (first_holds (is_called program) (callees_in s) (callees_of more) both)
      (both_hold (is_called program) (callees_of more) (calls_left work) (second_holds (is_called program) (callees_in s) (callees_of more) both) (second_holds (is_called program) (callees_in s ++ callees_of more) (calls_left work) h)) k
  calls_works m g a rest (head body ∷ work) own h k =
      calls_begins m g a rest body work own (first_holds (is_called program) (callees_of body) (calls_left work) h) (second_holds (is_called program) (callees_of body) (calls_left work) h) k

  calls_stepped : (m : Machine) (g : G) (active : List Active) → CallOwn program m.active → CallOwn program active → AllAreCalled program (stepped program gate m g active)
  calls_stepped m g [] own k = record { left = own; asks = λ f args depth e. cc }
  calls_stepped m g (a ∷ rest) own k = calls_works m g a rest (settled a.work) own (settled_calls (is_called program) a.work k.0) k.1

pub steps_call_own : {G : Type 0} → StepsCallOwn G
steps_call_own program gate m g own = calls_stepped program gate m g m.active own own

pub started_call_own : StartedCallOwn
started_call_own program privileged f depth args m = (both_hold (is_called program) (callees_of (function_in program f).body) [] (body_calls program f) refl, tt {0})
