-- What holds of a gate goes on holding where what a host answers keeps it that is called with arguments of its parameters.
use Rattle.std.proofs.Common.{◌≡◌, ℕ, ◌+◌, List, [], ◌∷◌, ◌++◌, Option, Some, None, Bool, true, false, refl, sym, subst, if◌then◌else◌}
use Rattle.std.specs.Prelude.{Result, Ok, Err, IfOk, IsTrue, ◌&&◌, ◌||◌, not, nat_lt, nat_le, map}
use Rattle.std.specs.List.{list_all}
use Rattle.pt_base.specs.declared.int_type.IntType.{IntType}
use Rattle.pt_base.specs.declared.span.Span.{Span}
use Rattle.pt_base.proofs.Booleans.{both_hold_first, both_hold_second, false_not_true}
use Rattle.pt_tree.specs.declared.signature.Signature.{Signature}
use Rattle.typed_tree.specs.WellFormedExpression.{is_main}
use Rattle.runs.specs.Run.{deepest}
use Rattle.block_memory.specs.declared.cell.Cell.{Cell}
use Rattle.pt_core.specs.CodeTree.{ExprTrees, StmtTree, clear, check, assign, copy, call, choose, repeat, break_out, continue_on, give_back, StmtTrees, no_stmts, stmt_and, ProgramTree}
use Rattle.pt_core.specs.Types.{Context}
use Rattle.pt_core.specs.Values.{Stop, number_in, value_of, values_of, location_of}
use Rattle.pt_core.specs.Statements.{assigned, copied, returned_value}
use Rattle.pt_core.specs.Calls.{signature_in, function_in, context_in, entered}
use Rattle.pt_core.specs.Steps.{Work, run, head, Active, Machine, Way, enters, here, away, Gate, moved, spent, Step, answers, settled, working, with_turn, turned, on_value, returned, at_end, is_active, just_entered, begins, made, by_way, act, works, stepped, step}
use Rattle.pt_core.specs.WellFormed.{called_signature, is_sound}
use Rattle.pt_core.specs.WellFormedStatement.{arguments_fit, call_fits, result_fits, callees_in, callees_of, stmt_fits, stmts_fit}
use Rattle.core_soundness_law.specs.Kept.{Kept}
use Rattle.core_soundness_law.specs.Fits.{MemoryFits, scope_in, is_looped, work_fits, AllFit, Fits}
use Rattle.core_soundness_law.specs.Outside.{ArgumentsFit}
use Rattle.core_soundness_law.specs.StepLaws.{called_params, params_of}
use Rattle.core_soundness_law.proofs.Objects.{Setting}
use Rattle.core_soundness_law.proofs.Programs.{ProgramFacts, facts_of, function_facts}
use Rattle.core_soundness_law.proofs.Settings.{setting}
use Rattle.core_soundness_law.proofs.Steps.{settled_fits, values_fit_params}
use Rattle.core_soundness_law.specs.Called.{is_called, calls_left, CallOwn}
use Rattle.core_soundness_law.proofs.CalledSteps.{first_holds, settled_calls}

-- what a step begins with, and that what holds of its gate is kept by each answer to a call of its innermost function
module _ {G : Type 0} (kept : Kept) (monitor : Bool) (program : ProgramTree) (gate : Gate G) (m : Machine) (g : G) (sound : IsTrue (is_sound monitor program)) (P : G → Type 0) (p : P g) (noted : (active : Bool) (f : ℕ) (args : List Cell) → P (gate.noted active f args g))
    (answered : (active : Bool) (depth f : ℕ) (args : List Cell) → IsTrue (is_called program f) → gate.way g f args ≡ here → ArgumentsFit kept program.structs m.blocks depth (called_params monitor program f) args → P (gate.answer f (map number_in args) (gate.noted active f args g)).1) where
  stays_each : {A : Type 0} (r : Result A Stop) (next : A → Step G) (Q : A → Type 0) → IfOk r Q → ((a : A) → Q a → P (next a).gate) → P (on_value r m g next).gate
  stays_each (Ok a) next Q h k = k a h
  stays_each (Err stop) next Q h k = p

  stays_value : {A : Type 0} (r : Result A Stop) (next : A → Step G) → ((a : A) → P (next a).gate) → P (on_value r m g next).gate
  stays_value (Ok a) next k = k a
  stays_value (Err stop) next k = p

  stays_turn : (x : Machine) (next : Machine → Step G) → P (next (with_turn x)).gate → P (turned x g next).gate
  stays_turn x next k = go (nat_lt x.turns x.budget)
    where
      go : (c : Bool) → P (if c then next (with_turn x) else answers spent x g).gate
      go true = k
      go false = p

  stays_either : (c : Bool) (x y : Step G) → P x.gate → P y.gate → P (if c then x else y).gate
  stays_either true x y h k = h
  stays_either false x y h k = k

  stays_return : (a : Active) (rest : List Active) (v : Option Cell) → P (returned m g a rest v).gate
  stays_return a [] v = p
  stays_return a (caller ∷ rest) v = p

  stays_end : (t : Option IntType) (span : Span) (a : Active) (rest : List Active) → P (at_end t span m g a rest).gate
  stays_end None span a rest = stays_return a rest None
  stays_end (Some t) span a rest = p

  stays_begin : (a : Active) (rest : List Active) (body : StmtTrees) (work : List Work) → P (begins m g a rest body work).gate
  stays_begin a rest body work = stays_turn m (λ m1. answers moved (working m1 a rest (run body ∷ head body ∷ work)) g) p

  stays_way : (a : Active) (rest : List Active) (work : List Work) (span : Span) (f : ℕ) (args : List Cell) (result : Option ℕ) (way : Way) → IsTrue (is_called program f) → gate.way g f args ≡ way →
      ArgumentsFit kept program.structs m.blocks a.depth (called_params monitor program f) args → P (by_way program gate (working m a rest work) g span f args result a.depth way).gate
  stays_way a rest work span f args result enters own e given =
      let m1 : Machine = working m a rest work in
      stays_either (nat_le (a.depth + 1) deepest) _ _
      (stays_turn m1
      (λ m2. answers moved
      (record m2 {
        active = just_entered program (is_active m1.active || (signature_in program f).privileged) f (a.depth + 1) result ∷ m2.active;
        blocks = entered program f (a.depth + 1) args m2.blocks;
      })
      (gate.noted (is_active m1.active) f args g))
      (noted (is_active m1.active) f args))
      p
  stays_way a rest work span f args result here own e given =
      let m1 : Machine = working m a rest work in
      stays_turn m1 (λ m2. made m2 a.depth result (gate.answer f (map number_in args) (gate.noted (is_active m1.active) f args g))) (answered (is_active m1.active) a.depth f args own e given)
  stays_way a rest work span f args result away own e given =
      stays_either (signature_in program f).host _ _ p (stays_either (nat_le (a.depth + 1) deepest) _ _ p p)

  stays_call : (a : Active) (rest : List Active) → Setting kept (context_in program a.function) a.depth m.blocks → (work : List Work) (span : Span) (f : ℕ) (args : ExprTrees) (result : Option ℕ) → IsTrue (is_called program f) →
      (o : Option Signature) → called_signature monitor program f ≡ o → IsTrue (call_fits (context_in program a.function) o args result) → P (act program gate m g a rest work (call f args result span)).gate
  stays_call a rest s work span f args result own None is h = false_not_true h
  stays_call a rest s work span f args result own (Some t) is h =
      let c : Context = context_in program a.function in
      let both : IsTrue (arguments_fit c t.params args && result_fits c t.result result) = both_hold_second (not (is_main t)) (arguments_fit c t.params args && result_fits c t.result result) h in
      stays_each (values_of c a.depth args m.blocks) (λ vs. by_way program gate (working m a rest work) g span f vs result a.depth (gate.way g f vs)) (ArgumentsFit kept program.structs m.blocks a.depth t.params)
      (values_fit_params kept c a.depth m.blocks s t.params args (both_hold_first (arguments_fit c t.params args) (result_fits c t.result result) both))
      (λ vs given. stays_way a rest work span f vs result (gate.way g f vs) own refl (subst (λ o. ArgumentsFit kept program.structs m.blocks a.depth (params_of o) vs) (sym is) given))

  stays_act : (a : Active) (rest : List Active) → Setting kept (context_in program a.function) a.depth m.blocks → (work : List Work) (s : StmtTree) (looped : Bool) → IsTrue (stmt_fits (scope_in monitor program a.function) looped s) →
      IsTrue (list_all (is_called program) (callees_in s)) → P (act program gate m g a rest work s).gate
  stays_act a rest seen work (clear v) looped h c = p
  stays_act a rest seen work (check q) looped h c = stays_value (location_of (context_in program a.function) a.depth q m.blocks) _ (λ at. p)
  stays_act a rest seen work (assign q x) looped h c = stays_value (assigned (context_in program a.function) a.depth q x m.blocks) _ (λ blocks. p)
  stays_act a rest seen work (copy to of) looped h c = stays_value (copied (context_in program a.function) a.depth to of m.blocks) _ (λ blocks. p)
  stays_act a rest seen work (call f args result span) looped h c =
      stays_call a rest seen work span f args result (both_hold_first (is_called program f) true c) (called_signature monitor program f) refl h
  stays_act a rest seen work (choose x first second) looped h c = stays_value (value_of (context_in program a.function) a.depth x m.blocks) _ (λ v. p)
  stays_act a rest seen work (repeat body span) looped h c = stays_begin a rest body work
  stays_act a rest seen work break_out looped h c = p
  stays_act a rest seen work continue_on looped h c = p
  stays_act a rest seen work (give_back x) looped h c = stays_value (returned_value (context_in program a.function) a.depth x m.blocks) _ (λ v. stays_return a rest v)

  stays_works : (a : Active) (rest : List Active) → Setting kept (context_in program a.function) a.depth m.blocks → (work : List Work) → IsTrue (work_fits (scope_in monitor program a.function) work) → IsTrue (list_all (is_called program) (calls_left work)) →
      P (works program gate m g a rest work).gate
  stays_works a rest seen [] w h = stays_end (signature_in program a.function).result (function_in program a.function).end a rest
  stays_works a rest seen (run no_stmts ∷ work) w h = p
  stays_works a rest seen (run (stmt_and s more) ∷ work) w h =
      let k = scope_in monitor program a.function in
      let both : IsTrue (stmt_fits k (is_looped work) s && stmts_fit k (is_looped work) more) = both_hold_first (stmt_fits k (is_looped work) s && stmts_fit k (is_looped work) more) (work_fits k work) w in
      stays_act a rest seen (run more ∷ work) s (is_looped work) (both_hold_first (stmt_fits k (is_looped work) s) (stmts_fit k (is_looped work) more) both)
      (first_holds (is_called program) (callees_in s) (callees_of more) (first_holds (is_called program) (callees_in s ++ callees_of more) (calls_left work) h))
  stays_works a rest seen (head body ∷ work) w h = stays_begin a rest body work

  stays_stepped : (active : List Active) → MemoryFits kept program active m.blocks → AllFit monitor program active → CallOwn program active → P (stepped program gate m g active).gate
  stays_stepped [] mem all own = p
  stays_stepped (a ∷ rest) mem all own =
      let facts : ProgramFacts monitor program = facts_of monitor program sound in
      stays_works a rest (setting kept monitor program a rest m.blocks facts (function_facts monitor program facts a.function all.0.known) mem) (settled a.work)
      (settled_fits monitor program a.function a.work all.0.work) (settled_calls (is_called program) a.work own.0)

  pub given_gate_keeps : Fits kept monitor program m → CallOwn program m.active → P (step program gate m g).gate
  given_gate_keeps fits own = stays_stepped m.active fits.memory fits.active own
