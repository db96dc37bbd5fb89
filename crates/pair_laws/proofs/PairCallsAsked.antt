-- What a step asks for: it goes away, at the depth of a call of the innermost function.
use Rattle.std.proofs.Common.{◌≡◌, ℕ, ◌+◌, ◌≤◌, refl, subst, sym, arith, Bool, true, false, Option, None, Some, List, [], ◌∷◌, Result, Ok, Err, map, if◌then◌else◌}
use Rattle.std.specs.Prelude.{◌||◌, nat_lt, nat_le}
use Rattle.std.proofs.lemmas.Bool.Decides.{nat_tests}
use Rattle.pt_base.specs.declared.int_type.IntType.{IntType}
use Rattle.pt_base.specs.declared.span.Span.{Span}
use Rattle.pt_base.specs.declared.trap.Trap.TheVariants.{Depth}
use Rattle.pt_base.proofs.Booleans.{true_and_false}
use Rattle.runs.specs.Run.{deepest}
use Rattle.block_memory.specs.declared.cell.Cell.{Cell}
use Rattle.pt_core.specs.CodeTree.{StmtTree, clear, check, assign, copy, call, choose, repeat, break_out, continue_on, give_back, StmtTrees, no_stmts, stmt_and, ProgramTree}
use Rattle.pt_core.specs.Values.{Stop, value_of, values_of, location_of, holds_in, number_in}
use Rattle.pt_core.specs.Statements.{assigned, copied, returned_value}
use Rattle.pt_core.specs.Calls.{signature_in, function_in, context_in, entered}
use Rattle.pt_core.specs.Steps.{Work, run, head, Active, Machine, Gate, Way, enters, here, away, Answer, moved, asked, ended, trapped, spent, idle, Step, answers, settled, with_blocks, with_turn, working, turned, on_value, returned, at_end, begins, is_active, just_entered, made, awaiting, goes_away, by_way, act, works, stepped, step}

-- The gate sends the call away, and its state is as it was. A host is asked for at depth 0, a function one deeper than its caller.
pub record IsAsked {G : Type 0} (program : ProgramTree) (gate : Gate G) (g : G) (d f : ℕ) (args : List Cell) (depth : ℕ) (left : G) : Type 0 where
  pub way : gate.way g f args ≡ away
  pub host : (signature_in program f).host ≡ true → depth ≡ 0
  pub deeper : (signature_in program f).host ≡ false → (depth ≡ d + 1) × (d + 1 ≤ deepest)
  pub same : left ≡ g

abbrev pub Asks : {G : Type 0} → ProgramTree → Gate G → G → ℕ → Answer → G → Type 0
Asks program gate g d moved left = Unit {0}
Asks program gate g d (asked f args depth) left = IsAsked program gate g d f args depth left
Asks program gate g d (ended v) left = Unit {0}
Asks program gate g d (trapped trap span) left = Unit {0}
Asks program gate g d spent left = Unit {0}
Asks program gate g d idle left = Unit {0}

within : (d : ℕ) → nat_le d deepest ≡ true → d ≤ deepest
within d h = grind (arith, nat_tests, h)

module _ {G : Type 0} (program : ProgramTree) (gate : Gate G) (g : G) (d : ℕ) where
  abbrev Fine : Step G → Type 0
  Fine s = Asks program gate g d s.answer s.gate

  turned_fine : (m : Machine) (next : Machine → Step G) → Fine (next (with_turn m)) → Fine (turned m g next)
  turned_fine m next k = go (nat_lt m.turns m.budget)
    where
      go : (b : Bool) → Fine (if b then next (with_turn m) else answers spent m g)
      go true = k
      go false = tt {0}

  value_fine : {A : Type 0} (m : Machine) (r : Result A Stop) (next : A → Step G) → ((x : A) → Fine (next x)) → Fine (on_value r m g next)
  value_fine m (Ok x) next k = k x
  value_fine m (Err stop) next k = tt {0}

  returned_fine : (m : Machine) (a : Active) (rest : List Active) (v : Option Cell) → Fine (returned m g a rest v)
  returned_fine m a [] v = tt {0}
  returned_fine m a (caller ∷ rest) v = tt {0}

  end_fine : (o : Option IntType) (s : Span) (m : Machine) (a : Active) (rest : List Active) → Fine (at_end o s m g a rest)
  end_fine None s m a rest = returned_fine m a rest None
  end_fine (Some t) s m a rest = tt {0}

  round_fine : (m : Machine) (a : Active) (rest : List Active) (body : StmtTrees) (work : List Work) → Fine (begins m g a rest body work)
  round_fine m a rest body work = turned_fine m (λ m1. answers moved (working m1 a rest (run body ∷ head body ∷ work)) g) (tt {0})

  goes_fine : (m : Machine) (s : Span) (f : ℕ) (vs : List Cell) (result : Option ℕ) → gate.way g f vs ≡ away → Fine (goes_away program m g s f vs result (d + 1))
  goes_fine m s f vs result is = go (signature_in program f).host refl (nat_le (d + 1) deepest) refl
    where
      go : (host : Bool) → (signature_in program f).host ≡ host → (fits : Bool) → nat_le (d + 1) deepest ≡ fits →
          Fine (if host then answers (asked f vs 0) (awaiting f result m) g else (if fits then answers (asked f vs (d + 1)) (awaiting f result m) g else answers (trapped Depth s) m g))
      go true e fits k = record { way = is; host = λ h. refl; deeper = λ h. true_and_false (signature_in program f).host e h; same = refl }
      go false e true k = record { way = is; host = λ h. true_and_false (signature_in program f).host h e; deeper = λ h. (refl, within (d + 1) k); same = refl }
      go false e false k = tt {0}

  deep_fine : (b : Bool) (s : Span) (m : Machine) (next : Machine → Step G) → Fine (next (with_turn m)) → Fine (if b then turned m g next else answers (trapped Depth s) m g)
  deep_fine true s m next k = turned_fine m next k
  deep_fine false s m next k = tt {0}

  by_fine : (m : Machine) (s : Span) (f : ℕ) (vs : List Cell) (result : Option ℕ) (way : Way) → gate.way g f vs ≡ way → Fine (by_way program gate m g s f vs result d way)
  by_fine m s f vs result enters is =
      deep_fine (nat_le (d + 1) deepest) s m (λ m1. answers moved
      (record m1 {
        active = just_entered program (is_active m.active || (signature_in program f).privileged) f (d + 1) result ∷ m1.active;
        blocks = entered program f (d + 1) vs m1.blocks;
      })
      (gate.noted (is_active m.active) f vs g)) (tt {0})
  by_fine m s f vs result here is = turned_fine m (λ m1. made m1 d result (gate.answer f (map number_in vs) (gate.noted (is_active m.active) f vs g))) (tt {0})
  by_fine m s f vs result away is = goes_fine m s f vs result is

  act_fine : (m : Machine) (a : Active) (rest : List Active) (work : List Work) (s : StmtTree) → a.depth ≡ d → Fine (act program gate m g a rest work s)
  act_fine m a rest work (clear v) same = tt {0}
  act_fine m a rest work (check p) same = value_fine m (location_of (context_in program a.function) a.depth p m.blocks) (λ at. answers moved (working m a rest work) g) (λ at. tt {0})
  act_fine m a rest work (assign p e) same = value_fine m (assigned (context_in program a.function) a.depth p e m.blocks) (λ blocks. answers moved (with_blocks blocks (working m a rest work)) g) (λ blocks. tt {0})
  act_fine m a rest work (copy to of) same = value_fine m (copied (context_in program a.function) a.depth to of m.blocks) (λ blocks. answers moved (with_blocks blocks (working m a rest work)) g) (λ blocks. tt {0})
  act_fine m a rest work (call f args result s) same =
      value_fine m (values_of (context_in program a.function) a.depth args m.blocks) (λ vs. by_way program gate (working m a rest work) g s f vs result a.depth (gate.way g f vs))
      (λ vs. subst (λ n. Fine (by_way program gate (working m a rest work) g s f vs result n (gate.way g f vs))) (sym same) (by_fine (working m a rest work) s f vs result (gate.way g f vs) refl))
  act_fine m a rest work (choose e first second) same =
      value_fine m (value_of (context_in program a.function) a.depth e m.blocks) (λ v. answers moved (working m a rest (run (if holds_in v then first else second) ∷ work)) g) (λ v. tt {0})
  act_fine m a rest work (repeat body s) same = round_fine m a rest body work
  act_fine m a rest work break_out same = tt {0}
  act_fine m a rest work continue_on same = tt {0}
  act_fine m a rest work (give_back e) same =
      value_fine m (returned_value (context_in program a.function) a.depth e m.blocks) (λ v. returned m g a rest v) (λ v. returned_fine m a rest v)

  works_fine : (m : Machine) (a : Active) (rest : List Active) (work : List Work) → a.depth ≡ d → Fine (works program gate m g a rest work)
  works_fine m a rest [] same = end_fine (signature_in program a.function).result (function_in program a.function).end m a rest
  works_fine m a rest (run no_stmts ∷ work) same = tt {0}
  works_fine m a rest (run (stmt_and s more) ∷ work) same = act_fine m a rest (run more ∷ work) s same
  works_fine m a rest (head body ∷ work) same = round_fine m a rest body work

-- where this function is the innermost
pub steps_ask : {G : Type 0} (program : ProgramTree) (gate : Gate G) (m : Machine) (g : G) (a : Active) (rest : List Active) → m.active ≡ a ∷ rest → Asks program gate g a.depth (step program gate m g).answer (step program gate m g).gate
steps_ask {G} program gate m g a rest is =
    subst (λ (active : List Active). Asks program gate g a.depth (stepped program gate m g active).answer (stepped program gate m g active).gate) (sym is) (works_fine program gate g a.depth m a rest (settled a.work) refl)

-- ---- a machine with nothing to do

-- it asks for nothing
abbrev AsksNone : Answer → Type 0
AsksNone moved = ⊥
AsksNone (asked f args depth) = ⊥
AsksNone (ended v) = Unit {0}
AsksNone (trapped trap span) = Unit {0}
AsksNone spent = Unit {0}
AsksNone idle = Unit {0}

ends_none : {G : Type 0} (o : Option IntType) (s : Span) (m : Machine) (g : G) (a : Active) → AsksNone (at_end o s m g a []).answer
ends_none None s m g a = tt {0}
ends_none (Some t) s m g a = tt {0}

pub bare_asks_none : {G : Type 0} (program : ProgramTree) (gate : Gate G) (m : Machine) (g : G) (a : Active) (f : ℕ) (args : List Cell) (depth : ℕ) → m.active ≡ a ∷ [] → a.work ≡ run no_stmts ∷ [] →
    (step program gate m g).answer ≡ asked f args depth → ⊥
bare_asks_none {G} program gate m g a f args depth is work asks = subst AsksNone asks none
  where
    none : AsksNone (step program gate m g).answer
    none =
        subst (λ (active : List Active). AsksNone (stepped program gate m g active).answer) (sym is)
        (subst (λ (w : List Work). AsksNone (works program gate m g a [] (settled w)).answer) (sym work) (ends_none (signature_in program a.function).result (function_in program a.function).end m g a))
