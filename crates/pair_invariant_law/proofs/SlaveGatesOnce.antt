-- A step makes at most one call.
use Rattle.std.proofs.Common.{◌≡◌, ◌⊎◌, inl, inr, ℕ, ◌+◌, List, [], ◌∷◌, Option, Some, None, Bool, true, false, refl}
use Rattle.std.specs.Prelude.{Result, Ok, Err, if◌then◌else◌, ◌||◌, nat_lt, nat_le, map}
use Rattle.pt_base.specs.declared.int_type.IntType.{IntType}
use Rattle.pt_base.specs.declared.span.Span.{Span}
use Rattle.runs.specs.Run.{deepest}
use Rattle.block_memory.specs.declared.cell.Cell.{Cell}
use Rattle.pt_core.specs.CodeTree.{StmtTree, clear, check, assign, copy, call, choose, repeat, break_out, continue_on, give_back, StmtTrees, no_stmts, stmt_and, ProgramTree}
use Rattle.pt_core.specs.Values.{Stop, number_in, value_of, values_of, location_of}
use Rattle.pt_core.specs.Statements.{assigned, copied, returned_value}
use Rattle.pt_core.specs.Calls.{signature_in, function_in, context_in, entered}
use Rattle.pt_core.specs.Steps.{Work, run, head, Active, Machine, Way, enters, here, away, Gate, moved, spent, Step, answers, settled, working, with_turn, turned, on_value, returned, at_end, is_active, just_entered, begins, made, by_way, act, works, stepped}
use Rattle.pair_invariant_law.specs.SlaveGatesOnce.{CalledOnce, StepsCallOnce}

module _ {G : Type 0} (program : ProgramTree) (gate : Gate G) (m : Machine) (g : G) where
  abbrev Once : Step G → Type 0
  Once s = (s.gate ≡ g) ⊎ CalledOnce gate m g s

  once_each : {A : Type 0} (r : Result A Stop) (m1 : Machine) (next : A → Step G) → ((a : A) → Once (next a)) → Once (on_value r m1 g next)
  once_each (Ok a) m1 next k = k a
  once_each (Err stop) m1 next k = inl refl

  once_turn : (m1 : Machine) (next : Machine → Step G) → Once (next (with_turn m1)) → Once (turned m1 g next)
  once_turn m1 next k = go (nat_lt m1.turns m1.budget)
    where
      go : (c : Bool) → Once (if c then next (with_turn m1) else answers spent m1 g)
      go true = k
      go false = inl refl

  once_either : (c : Bool) (x y : Step G) → Once x → Once y → Once (if c then x else y)
  once_either true x y h k = h
  once_either false x y h k = k

  once_return : (m1 : Machine) (a : Active) (rest : List Active) (v : Option Cell) → Once (returned m1 g a rest v)
  once_return m1 a [] v = inl refl
  once_return m1 a (caller ∷ rest) v = inl refl

  once_end : (t : Option IntType) (span : Span) (a : Active) (rest : List Active) → Once (at_end t span m g a rest)
  once_end None span a rest = once_return m a rest None
  once_end (Some t) span a rest = inl refl

  once_begin : (a : Active) (rest : List Active) (body : StmtTrees) (work : List Work) → Once (begins m g a rest body work)
  once_begin a rest body work = once_turn m (λ m1. answers moved (working m1 a rest (run body ∷ head body ∷ work)) g) (inl refl)

  once_way : (a : Active) (rest : List Active) (work : List Work) (span : Span) (f : ℕ) (args : List Cell) (result : Option ℕ) (depth : ℕ) (way : Way) → gate.way g f args ≡ way →
      Once (by_way program gate (working m a rest work) g span f args result depth way)
  once_way a rest work span f args result depth enters e =
      let m1 : Machine = working m a rest work in
      once_either (nat_le (depth + 1) deepest) _ _
      (once_turn m1
      (λ m2. answers moved
      (record m2 {
        active = just_entered program (is_active m1.active || (signature_in program f).privileged) f (depth + 1) result ∷ m2.active;
        blocks = entered program f (depth + 1) args m2.blocks;
      })
      (gate.noted (is_active m1.active) f args g))
      (inr (record { moves = refl; turn = refl; active = is_active m1.active; function = f; args = args; left = inl refl })))
      (inl refl)
  once_way a rest work span f args result depth here e =
      let m1 : Machine = working m a rest work in
      once_turn m1 (λ m2. made m2 depth result (gate.answer f (map number_in args) (gate.noted (is_active m1.active) f args g)))
      (inr (record { moves = refl; turn = refl; active = is_active m1.active; function = f; args = args; left = inr (e, refl) }))
  once_way a rest work span f args result depth away e =
      once_either (signature_in program f).host _ _ (inl refl) (once_either (nat_le (depth + 1) deepest) _ _ (inl refl) (inl refl))

  once_act : (a : Active) (rest : List Active) (work : List Work) (s : StmtTree) → Once (act program gate m g a rest work s)
  once_act a rest work (clear v) = inl refl
  once_act a rest work (check q) = once_each (location_of (context_in program a.function) a.depth q m.blocks) m _ (λ at. inl refl)
  once_act a rest work (assign q x) = once_each (assigned (context_in program a.function) a.depth q x m.blocks) m _ (λ blocks. inl refl)
  once_act a rest work (copy to of) = once_each (copied (context_in program a.function) a.depth to of m.blocks) m _ (λ blocks. inl refl)
  once_act a rest work (call f args result span) =
      once_each (values_of (context_in program a.function) a.depth args m.blocks) m _ (λ vs. once_way a rest work span f vs result a.depth (gate.way g f vs) refl)
  once_act a rest work (choose x first second) = once_each (value_of (context_in program a.function) a.depth x m.blocks) m _ (λ v. inl refl)
  once_act a rest work (repeat body span) = once_begin a rest body work
  once_act a rest work break_out = inl refl
  once_act a rest work continue_on = inl refl
  once_act a rest work (give_back x) = once_each (returned_value (context_in program a.function) a.depth x m.blocks) m _ (λ v. once_return m a rest v)

  once_works : (a : Active) (rest : List Active) (work : List Work) → Once (works program gate m g a rest work)
  once_works a rest [] = once_end (signature_in program a.function).result (function_in program a.function).end a rest
  once_works a rest (run no_stmts ∷ work) = inl refl
  once_works a rest (run (stmt_and s more) ∷ work) = once_act a rest (run more ∷ work) s
  once_works a rest (head body ∷ work) = once_begin a rest body work

  once_stepped : (active : List Active) → Once (stepped program gate m g active)
  once_stepped [] = inl refl
  once_stepped (a ∷ rest) = once_works a rest (settled a.work)

pub steps_call_once : {G : Type 0} → StepsCallOnce G
steps_call_once program gate m g = once_stepped program gate m g m.active
