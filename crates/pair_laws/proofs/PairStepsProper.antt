-- What a step answers of a machine that has a function active and computes with no handle.
use Rattle.std.proofs.Common.{◌≡◌, ℕ, ◌+◌, List, [], ◌∷◌, Option, Some, None, Bool, true, false, refl, sym, subst}
use Rattle.std.specs.Prelude.{Result, Ok, Err, if◌then◌else◌, ◌||◌, nat_lt, nat_le, map}
use Rattle.std.specs.Option.{option_map}
use Rattle.std.proofs.lemmas.Bool.{or_parts}
use Rattle.pt_base.specs.declared.int_type.IntType.{IntType}
use Rattle.pt_base.specs.declared.span.Span.{Span}
use Rattle.runs.specs.Run.{deepest}
use Rattle.block_memory.specs.declared.cell.Cell.{Cell}
use Rattle.block_memory.specs.declared.cell.Cell.TheVariants as cell
use Rattle.block_memory.specs.declared.cell.Pointer.TheVariants.{Null, At}
use Rattle.pt_core.specs.CodeTree.{ExprTree, StmtTree, clear, check, assign, copy, call, choose, repeat, break_out, continue_on, give_back, StmtTrees, no_stmts, stmt_and, ProgramTree}
use Rattle.pt_core.specs.Values.{Stop, ◌>>?◌, number_in, value_of, values_of, location_of}
use Rattle.pt_core.specs.Statements.{assigned, copied, returned_value}
use Rattle.pt_core.specs.Calls.{signature_in, function_in, context_in, entered}
use Rattle.pt_core.specs.CoreRun.{status_of}
use Rattle.pt_core.specs.Steps.{Work, run, head, Active, Answer, Machine, Way, enters, here, away, Gate, asked, ended, idle, moved, spent, trapped, Step, answers, settled, step, working, with_turn, turned, on_value, returned, at_end, is_active, just_entered, begins, made, by_way, act, works, stepped}
use Rattle.handle_classes.specs.Computes.{computes, computes_in, computes_next, computes_return, computes_status, computes_work, is_sealed, meets}
use Rattle.part_views_law.specs.Views.{View, seen_cell}

-- no handle
abbrev pub PlainEnd : Option Cell → Type 0
PlainEnd None = Unit {0}
PlainEnd (Some c) = is_sealed c ≡ false

-- it isn't idle, and ends with no handle
abbrev pub Proper : Answer → Type 0
Proper moved = Unit {0}
Proper (asked f args depth) = Unit {0}
Proper (ended o) = PlainEnd o
Proper (trapped trap span) = Unit {0}
Proper spent = Unit {0}
Proper idle = ⊥

module _ {G : Type 0} (marked : ℕ → ℕ → Bool) (program : ProgramTree) (gate : Gate G) (m : Machine) (g : G) where
  proper_each : {A : Type 0} (r : Result A Stop) (m1 : Machine) (next : A → Step G) → ((a : A) → Proper (next a).answer) → Proper (on_value r m1 g next).answer
  proper_each (Ok a) m1 next k = k a
  proper_each (Err stop) m1 next k = tt {0}

  proper_turn : (m1 : Machine) (next : Machine → Step G) → Proper (next (with_turn m1)).answer → Proper (turned m1 g next).answer
  proper_turn m1 next k = go (nat_lt m1.turns m1.budget)
    where
      go : (c : Bool) → Proper (if c then next (with_turn m1) else answers spent m1 g).answer
      go true = k
      go false = tt {0}

  proper_either : (c : Bool) (x y : Step G) → Proper x.answer → Proper y.answer → Proper (if c then x else y).answer
  proper_either true x y h k = h
  proper_either false x y h k = k

  proper_end : (t : Option IntType) (span : Span) (a : Active) (rest : List Active) → Proper (at_end t span m g a rest).answer
  proper_end None span a [] = tt {0}
  proper_end None span a (caller ∷ rest) = tt {0}
  proper_end (Some t) span a rest = tt {0}

  proper_begin : (a : Active) (rest : List Active) (body : StmtTrees) (work : List Work) → Proper (begins m g a rest body work).answer
  proper_begin a rest body work = proper_turn m (λ m1. answers moved (working m1 a rest (run body ∷ head body ∷ work)) g) (tt {0})

  proper_way : (a : Active) (rest : List Active) (work : List Work) (span : Span) (f : ℕ) (args : List Cell) (result : Option ℕ) (depth : ℕ) (way : Way) → Proper (by_way program gate (working m a rest work) g span f args result depth way).answer
  proper_way a rest work span f args result depth enters =
      let m1 : Machine = working m a rest work in
      proper_either (nat_le (depth + 1) deepest) _ _
      (proper_turn m1
      (λ m2. answers moved
      (record m2 {
        active = just_entered program (is_active m1.active || (signature_in program f).privileged) f (depth + 1) result ∷ m2.active;
        blocks = entered program f (depth + 1) args m2.blocks;
      })
      (gate.noted (is_active m1.active) f args g))
      (tt {0}))
      (tt {0})
  proper_way a rest work span f args result depth here =
      let m1 : Machine = working m a rest work in
      proper_turn m1 (λ m2. made m2 depth result (gate.answer f (map number_in args) (gate.noted (is_active m1.active) f args g))) (tt {0})
  proper_way a rest work span f args result depth away =
      proper_either (signature_in program f).host _ _ (tt {0}) (proper_either (nat_le (depth + 1) deepest) _ _ (tt {0}) (tt {0}))

  -- the outermost function gives no handle
  proper_value : (a : Active) (rest : List Active) (r : Result Cell Stop) → computes_status rest r ≡ false → Proper (on_value (r >>? λ v. Ok (Some v)) m g (λ v. returned m g a rest v)).answer
  proper_value a [] (Ok c) plain = plain
  proper_value a (caller ∷ rest) (Ok c) plain = tt {0}
  proper_value a rest (Err stop) plain = tt {0}

  proper_return : (a : Active) (rest : List Active) (e : Option ExprTree) → computes_return (context_in program a.function) a.depth e rest m.blocks ≡ false →
      Proper (on_value (returned_value (context_in program a.function) a.depth e m.blocks) m g (λ v. returned m g a rest v)).answer
  proper_return a [] None plain = tt {0}
  proper_return a (caller ∷ rest) None plain = tt {0}
  proper_return a rest (Some e) plain =
      let c = context_in program a.function in
      let both = or_parts (meets c a.depth e m.blocks) (computes_status rest (value_of c a.depth e m.blocks)) plain in
      proper_value a rest (value_of c a.depth e m.blocks) both.1

  proper_act : (a : Active) (rest : List Active) (work : List Work) (s : StmtTree) → computes marked gate g (context_in program a.function) a.depth rest s m.blocks ≡ false → Proper (act program gate m g a rest work s).answer
  proper_act a rest work (clear v) plain = tt {0}
  proper_act a rest work (check q) plain = proper_each (location_of (context_in program a.function) a.depth q m.blocks) m _ (λ at. tt {0})
  proper_act a rest work (assign q x) plain = proper_each (assigned (context_in program a.function) a.depth q x m.blocks) m _ (λ blocks. tt {0})
  proper_act a rest work (copy to of) plain = proper_each (copied (context_in program a.function) a.depth to of m.blocks) m _ (λ blocks. tt {0})
  proper_act a rest work (call f args result span) plain =
      proper_each (values_of (context_in program a.function) a.depth args m.blocks) m _ (λ vs. proper_way a rest work span f vs result a.depth (gate.way g f vs))
  proper_act a rest work (choose x first second) plain = proper_each (value_of (context_in program a.function) a.depth x m.blocks) m _ (λ v. tt {0})
  proper_act a rest work (repeat body span) plain = proper_begin a rest body work
  proper_act a rest work break_out plain = tt {0}
  proper_act a rest work continue_on plain = tt {0}
  proper_act a rest work (give_back x) plain = proper_return a rest x plain

  proper_works : (a : Active) (rest : List Active) (work : List Work) → computes_work marked gate g (context_in program a.function) a.depth rest work m.blocks ≡ false → Proper (works program gate m g a rest work).answer
  proper_works a rest [] plain = proper_end (signature_in program a.function).result (function_in program a.function).end a rest
  proper_works a rest (run no_stmts ∷ work) plain = tt {0}
  proper_works a rest (run (stmt_and s more) ∷ work) plain = proper_act a rest (run more ∷ work) s plain
  proper_works a rest (head body ∷ work) plain = proper_begin a rest body work

pub steps_are_proper : {G : Type 0} (marked : ℕ → ℕ → Bool) (program : ProgramTree) (gate : Gate G) (m : Machine) (g : G) (a : Active) (rest : List Active) → m.active ≡ a ∷ rest → computes_next marked program gate m g ≡ false →
    Proper (step program gate m g).answer
steps_are_proper {G} marked program gate m g a rest is plain =
    subst (λ active. Proper (stepped program gate m g active).answer) (sym is)
    (proper_works marked program gate m g a rest (settled a.work) (subst (λ active. computes_in marked program gate g active m.blocks ≡ false) is plain))

-- what is seen of an end without a handle is the same status
pub status_seen : (v : View) (o : Option Cell) → PlainEnd o → status_of (option_map (seen_cell v) o) ≡ status_of o
status_seen v None plain = refl
status_seen v (Some (cell.Int n)) plain = refl
status_seen v (Some (cell.Ptr Null)) plain = refl
status_seen v (Some (cell.Ptr (At block base count index))) plain = refl
status_seen v (Some (cell.Sealed handle)) plain = cc
