-- Steps under a gate that shows another one.
use Rattle.std.proofs.Common.{◌≡◌, ℕ, zero, suc, ◌+◌, List, [], ◌∷◌, Option, Some, None, Bool, true, false, map, refl, sym, ap, ◌∙◌, subst}
use Rattle.std.specs.Prelude.{ℤ, Result, Ok, Err, ◌||◌, if◌then◌else◌, nat_lt, nat_le}
use Rattle.pt_base.specs.declared.int_type.IntType.{IntType}
use Rattle.pt_base.specs.declared.span.Span.{Span}
use Rattle.pt_base.specs.declared.trap.Trap.TheVariants.{Depth}
use Rattle.runs.specs.Run.{deepest}
use Rattle.block_memory.specs.declared.cell.Cell.{Cell}
use Rattle.pt_core.specs.CodeTree.{StmtTree, clear, check, assign, copy, call, choose, repeat, break_out, continue_on, give_back, StmtTrees, no_stmts, stmt_and, ProgramTree}
use Rattle.pt_core.specs.Values.{Stop, number_in, value_of, values_of, location_of}
use Rattle.pt_core.specs.Statements.{assigned, copied, returned_value}
use Rattle.pt_core.specs.Calls.{signature_in, function_in, context_in}
use Rattle.pt_core.specs.Calls as c
use Rattle.pt_core.specs.Steps as s
use Rattle.pt_core.specs.Steps.{Work, run, head, Active, Machine, Way, enters, here, away, Gate, Answer, moved, asked, ended, trapped, spent, idle, Step, answers, settled, is_active, just_entered, on_value, turned, working, works, step}
use Rattle.core_steps_law.specs.WholeRun.{further, steps_run}
use Rattle.core_steps_law.specs.GatesShown.{Shows, step_shown}
use Rattle.core_steps_law.specs.GatesLaws.{GatesAgree}

module _ {G H K : Type 0} (shown : G → H) (stays : G → K) (k : K) where
  -- a step of the second gate is what is shown of one of the first, in which this has stayed
  abbrev Agrees : Step H → Step G → Type 0
  Agrees y x = (y ≡ step_shown shown x) × (stays x.gate ≡ k)

  -- ---- parts of steps

  by_result : {A : Type 0} (r : Result A Stop) (m : Machine) (g : G) (next : A → Step H) (go : A → Step G) → stays g ≡ k → ((a : A) → Agrees (next a) (go a)) → Agrees (on_value r m (shown g) next) (on_value r m g go)
  by_result (Ok a) m g next go e each = each a
  by_result (Err stop) m g next go e each = (refl, e)

  either : (b : Bool) (x y : Step H) (u v : Step G) → Agrees x u → Agrees y v → Agrees (if b then x else y) (if b then u else v)
  either true x y u v h k' = h
  either false x y u v h k' = k'

  in_turn : (m : Machine) (g : G) (next : Machine → Step H) (go : Machine → Step G) → stays g ≡ k → ((m1 : Machine) → Agrees (next m1) (go m1)) → Agrees (turned m (shown g) next) (turned m g go)
  in_turn m g next go e each = either (nat_lt m.turns m.budget) (next (s.with_turn m)) (answers spent m (shown g)) (go (s.with_turn m)) (answers spent m g) (each (s.with_turn m)) (refl, e)

  returns : (m : Machine) (g : G) (a : Active) (rest : List Active) (v : Option Cell) → stays g ≡ k → Agrees (s.returned m (shown g) a rest v) (s.returned m g a rest v)
  returns m g a [] v e = (refl, e)
  returns m g a (caller ∷ rest) v e = (refl, e)

  ends : (result : Option IntType) (span : Span) (m : Machine) (g : G) (a : Active) (rest : List Active) → stays g ≡ k → Agrees (s.at_end result span m (shown g) a rest) (s.at_end result span m g a rest)
  ends None span m g a rest e = returns m g a rest None e
  ends (Some t) span m g a rest e = (refl, e)

  begins : (m : Machine) (g : G) (a : Active) (rest : List Active) (body : StmtTrees) (work : List Work) → stays g ≡ k → Agrees (s.begins m (shown g) a rest body work) (s.begins m g a rest body work)
  begins m g a rest body work e = in_turn m g (λ m1. answers moved (working m1 a rest (run body ∷ head body ∷ work)) (shown g)) (λ m1. answers moved (working m1 a rest (run body ∷ head body ∷ work)) g) e (λ m1. (refl, e))

  goes_same : (program : ProgramTree) (m : Machine) (g : G) (span : Span) (f : ℕ) (args : List Cell) (result : Option ℕ) (depth : ℕ) → stays g ≡ k →
      Agrees (s.goes_away program m (shown g) span f args result depth) (s.goes_away program m g span f args result depth)
  goes_same program m g span f args result depth e =
      let asks : ℕ → Step G = λ d. answers (asked f args d) (s.awaiting f result m) g in
      let asks' : ℕ → Step H = λ d. answers (asked f args d) (s.awaiting f result m) (shown g) in
      let traps : Step G = answers (trapped Depth span) m g in
      let traps' : Step H = answers (trapped Depth span) m (shown g) in
      either (signature_in program f).host
      (asks' 0) (if nat_le depth deepest then asks' depth else traps') (asks 0) (if nat_le depth deepest then asks depth else traps)
      (refl, e) (either (nat_le depth deepest) (asks' depth) traps' (asks depth) traps (refl, e) (refl, e))

  goes_further : (y : Step H) (answer : Answer) (m : Machine) (g : G) (next : Machine → H → Step H) (go : Machine → G → Step G) → Agrees y (answers answer m g) → ((m1 : Machine) (g1 : G) → stays g1 ≡ k → Agrees (next m1 (shown g1)) (go m1 g1)) →
      Agrees (further y next) (further (answers answer m g) go)
  goes_further y answer m g next go (same, e) each = subst (λ (z : Step H). Agrees (further z next) (further (answers answer m g) go)) (sym same) (of_shown answer)
    where
      of_shown : (b : Answer) → Agrees (further (step_shown shown (answers b m g)) next) (further (answers b m g) go)
      of_shown moved = each m g e
      of_shown (asked f args depth) = (refl, e)
      of_shown (ended v) = (refl, e)
      of_shown (trapped trap span) = (refl, e)
      of_shown spent = (refl, e)
      of_shown idle = (refl, e)

  -- ---- steps through the gates

  module _ (from : Gate G) (to : Gate H) (same : Shows shown stays k from to) where
    enters_same : (program : ProgramTree) (m : Machine) (g : G) (span : Span) (f : ℕ) (args : List Cell) (result : Option ℕ) (depth : ℕ) → stays g ≡ k →
        Agrees (s.enters_at program to m (shown g) span f args result depth) (s.enters_at program from m g span f args result depth)
    enters_same program m g span f args result depth e =
        let inside : Machine → Machine = λ m1. record m1 {
          active = just_entered program (is_active m.active || (signature_in program f).privileged) f depth result ∷ m1.active;
          blocks = c.entered program f depth args m1.blocks;
        } in
        let next : Machine → Step H = λ m1. answers moved (inside m1) (to.noted (is_active m.active) f args (shown g)) in
        let go : Machine → Step G = λ m1. answers moved (inside m1) (from.noted (is_active m.active) f args g) in
        either (nat_le depth deepest)
        (turned m (shown g) next) (answers (trapped Depth span) m (shown g)) (turned m g go) (answers (trapped Depth span) m g)
        (in_turn m g next go e (λ m1. (ap (λ (h : H). answers moved (inside m1) h) (same.noted (is_active m.active) f args g e), same.noted_stays (is_active m.active) f args g ∙ e)))
        (refl, e)

    made_same : (program : ProgramTree) (m : Machine) (g : G) (f : ℕ) (args : List Cell) (result : Option ℕ) (depth : ℕ) → stays g ≡ k →
        Agrees (s.made_here program to m (shown g) f args result depth) (s.made_here program from m g f args result depth)
    made_same program m g f args result depth e =
        let noted : G = from.noted (is_active m.active) f args g in
        let e1 : stays noted ≡ k = same.noted_stays (is_active m.active) f args g ∙ e in
        let next : Machine → Step H = λ m1. s.made m1 depth result (to.answer f (map number_in args) (to.noted (is_active m.active) f args (shown g))) in
        let go : Machine → Step G = λ m1. s.made m1 depth result (from.answer f (map number_in args) noted) in
        in_turn m g next go e (λ m1. (
          ap (λ (h : H). s.made m1 depth result (to.answer f (map number_in args) h)) (same.noted (is_active m.active) f args g e)
              ∙ ap (λ (reply : Option ℤ × H). s.made m1 depth result reply) (same.answer f (map number_in args) noted e1),
          same.answer_stays f (map number_in args) noted ∙ e1,
        ))

    ways_same : (program : ProgramTree) (m : Machine) (g : G) (span : Span) (f : ℕ) (args : List Cell) (result : Option ℕ) (depth : ℕ) (way : Way) → stays g ≡ k →
        Agrees (s.by_way program to m (shown g) span f args result depth way) (s.by_way program from m g span f args result depth way)
    ways_same program m g span f args result depth enters e = enters_same program m g span f args result (depth + 1) e
    ways_same program m g span f args result depth here e = made_same program m g f args result depth e
    ways_same program m g span f args result depth away e = goes_same program m g span f args result (depth + 1) e

    call_same : (program : ProgramTree) (m : Machine) (g : G) (span : Span) (f : ℕ) (args : List Cell) (result : Option ℕ) (depth : ℕ) → stays g ≡ k →
        Agrees (s.by_way program to m (shown g) span f args result depth (to.way (shown g) f args)) (s.by_way program from m g span f args result depth (from.way g f args))
    call_same program m g span f args result depth e =
        let r = ways_same program m g span f args result depth (from.way g f args) e in
        (ap (λ way. s.by_way program to m (shown g) span f args result depth way) (same.way f args g e) ∙ r.0, r.1)

    act_same : (program : ProgramTree) (m : Machine) (g : G) (a : Active) (rest : List Active) (work : List Work) (x : StmtTree) → stays g ≡ k →
        Agrees (s.act program to m (shown g) a rest work x) (s.act program from m g a rest work x)
    act_same program m g a rest work (clear v) e = (refl, e)
    act_same program m g a rest work (check p) e = by_result (location_of (context_in program a.function) a.depth p m.blocks) m g _ _ e (λ at. (refl, e))
    act_same program m g a rest work (assign p x) e = by_result (assigned (context_in program a.function) a.depth p x m.blocks) m g _ _ e (λ blocks. (refl, e))
    act_same program m g a rest work (copy to' of) e = by_result (copied (context_in program a.function) a.depth to' of m.blocks) m g _ _ e (λ blocks. (refl, e))
    act_same program m g a rest work (call f args result span) e =
        by_result (values_of (context_in program a.function) a.depth args m.blocks) m g _ _ e (λ vs. call_same program (working m a rest work) g span f vs result a.depth e)
    act_same program m g a rest work (choose x first second) e = by_result (value_of (context_in program a.function) a.depth x m.blocks) m g _ _ e (λ v. (refl, e))
    act_same program m g a rest work (repeat body span) e = begins m g a rest body work e
    act_same program m g a rest work break_out e = (refl, e)
    act_same program m g a rest work continue_on e = (refl, e)
    act_same program m g a rest work (give_back x) e = by_result (returned_value (context_in program a.function) a.depth x m.blocks) m g _ _ e (λ v. returns m g a rest v e)

    works_same : (program : ProgramTree) (m : Machine) (g : G) (a : Active) (rest : List Active) (work : List Work) → stays g ≡ k →
        Agrees (works program to m (shown g) a rest work) (works program from m g a rest work)
    works_same program m g a rest [] e = ends (signature_in program a.function).result (function_in program a.function).end m g a rest e
    works_same program m g a rest (run no_stmts ∷ work) e = (refl, e)
    works_same program m g a rest (run (stmt_and x more) ∷ work) e = act_same program m g a rest (run more ∷ work) x e
    works_same program m g a rest (head body ∷ work) e = begins m g a rest body work e

    stepped_same : (program : ProgramTree) (m : Machine) (g : G) (active : List Active) → stays g ≡ k →
        Agrees (s.stepped program to m (shown g) active) (s.stepped program from m g active)
    stepped_same program m g [] e = (refl, e)
    stepped_same program m g (a ∷ rest) e = works_same program m g a rest (settled a.work) e

    steps_same : (program : ProgramTree) (n : ℕ) (m : Machine) (g : G) → stays g ≡ k → Agrees (steps_run program to n m (shown g)) (steps_run program from n m g)
    steps_same program zero m g e = (refl, e)
    steps_same program (suc n) m g e =
        let x : Step G = step program from m g in
        goes_further (step program to m (shown g)) x.answer x.machine x.gate (steps_run program to n) (steps_run program from n) (stepped_same program m g m.active e) (steps_same program n)

pub gates_agree : {G H K : Type 0} → GatesAgree G H K
gates_agree shown stays k from to same program n m g e = (steps_same shown stays k from to same program n m g e).0
