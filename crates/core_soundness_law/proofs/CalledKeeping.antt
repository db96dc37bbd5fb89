-- A gate that lets go away what no function of the program calls makes the same steps, and fits for all.
use Rattle.std.proofs.Common.{◌≡◌, ◌∙◌, ℕ, ◌+◌, ℤ, List, [], ◌∷◌, ◌++◌, Option, Some, None, Bool, true, false, refl, ap, sym, subst}
use Rattle.std.specs.Prelude.{Result, Ok, Err, IsTrue, is_some, if◌then◌else◌, ◌&&◌, map}
use Rattle.std.specs.List.{list_all}
use Rattle.block_memory.specs.declared.cell.Cell.{Cell}
use Rattle.pt_base.specs.declared.span.Span.{Span}
use Rattle.pt_base.proofs.Booleans.{both_hold_first}
use Rattle.pt_core.specs.CodeTree.{StmtTree, clear, check, assign, copy, call, choose, repeat, break_out, continue_on, give_back, StmtTrees, no_stmts, stmt_and, ProgramTree}
use Rattle.pt_core.specs.Values.{Stop, number_in, values_of}
use Rattle.pt_core.specs.Calls.{signature_in, context_in}
use Rattle.pt_core.specs.Steps.{Work, run, head, Active, Machine, Way, enters, here, away, Gate, Step, settled, working, on_value, by_way, act, works, stepped}
use Rattle.pt_core.specs.WellFormed.{function_at}
use Rattle.pt_core.specs.WellFormedStatement.{callees_in, callees_of}
use Rattle.core_soundness_law.proofs.Steps.{step_keeps}
use Rattle.core_soundness_law.specs.StepLaws.{NumberFits, GateFits, StepFits}
use Rattle.core_soundness_law.specs.Called.{is_called, calls_left, CallOwn}
use Rattle.core_soundness_law.specs.CalledKeeping.{FitsCalls, StepsKeepCalled}
use Rattle.core_soundness_law.proofs.CalledSteps.{first_holds, settled_calls}

-- what isn't called goes away
abbrev way_if : Bool → Way → Way
way_if true w = w
way_if false w = away

abbrev limited : {G : Type 0} → ProgramTree → Gate G → Gate G
limited program gate = record { way = λ g f args. way_if (is_called program f) (gate.way g f args); noted = gate.noted; answer = gate.answer }

true_way : (b : Bool) (w : Way) → IsTrue b → way_if b w ≡ w
true_way true w h = refl
true_way false w h = cc

-- a way that is another than away is one of what is called
called_way : (b : Bool) (w to : Way) → way_if b w ≡ to → (away ≡ to → ⊥) → IsTrue b × (w ≡ to)
called_way true w to e not_away = (refl, e)
called_way false w to e not_away = absurd (not_away e)

module _ {G : Type 0} (program : ProgramTree) (gate : Gate G) where
  -- the ways of a call are the same but for the choice
  same_way : (m : Machine) (g : G) (span : Span) (f : ℕ) (args : List Cell) (result : Option ℕ) (depth : ℕ) (w : Way) →
      by_way program (limited program gate) m g span f args result depth w ≡ by_way program gate m g span f args result depth w
  same_way m g span f args result depth enters = refl
  same_way m g span f args result depth here = refl
  same_way m g span f args result depth away = refl

  same_value : {A : Type 0} (r : Result A Stop) (m : Machine) (g : G) (p q : A → Step G) → ((a : A) → p a ≡ q a) → on_value r m g p ≡ on_value r m g q
  same_value (Ok a) m g p q h = h a
  same_value (Err stop) m g p q h = refl

  same_act : (m : Machine) (g : G) (a : Active) (rest : List Active) (work : List Work) (s : StmtTree) → IsTrue (list_all (is_called program) (callees_in s)) →
      act program (limited program gate) m g a rest work s ≡ act program gate m g a rest work s
  same_act m g a rest work (clear v) c = refl
  same_act m g a rest work (check p) c = refl
  same_act m g a rest work (assign p x) c = refl
  same_act m g a rest work (copy to of) c = refl
  same_act m g a rest work (call f args result span) c =
      same_value (values_of (context_in program a.function) a.depth args m.blocks) m g _ _
      (λ vs. ap (λ w. by_way program (limited program gate) (working m a rest work) g span f vs result a.depth w) (true_way (is_called program f) (gate.way g f vs) (both_hold_first (is_called program f) true c))
      ∙ same_way (working m a rest work) g span f vs result a.depth (gate.way g f vs))
  same_act m g a rest work (choose x first second) c = refl
  same_act m g a rest work (repeat body span) c = refl
  same_act m g a rest work break_out c = refl
  same_act m g a rest work continue_on c = refl
  same_act m g a rest work (give_back x) c = refl

  same_works : (m : Machine) (g : G) (a : Active) (rest : List Active) (work : List Work) → IsTrue (list_all (is_called program) (calls_left work)) →
      works program (limited program gate) m g a rest work ≡ works program gate m g a rest work
  same_works m g a rest [] h = refl
  same_works m g a rest (run no_stmts ∷ work) h = refl
  same_works m g a rest (run (stmt_and s more) ∷ work) h =
      same_act m g a rest (run more ∷ work) s (first_holds (is_called program) (callees_in s) (callees_of more) (first_holds (is_called program) (callees_in s ++ callees_of more) (calls_left work) h))
  same_works m g a rest (head body ∷ work) h = refl

  same_stepped : (m : Machine) (g : G) (active : List Active) → CallOwn program active → stepped program (limited program gate) m g active ≡ stepped program gate m g active
  same_stepped m g [] own = refl
  same_stepped m g (a ∷ rest) own = same_works m g a rest (settled a.work) (settled_calls (is_called program) a.work own.0)

  fits_all : (g : G) → FitsCalls program gate g → GateFits program (limited program gate) g
  fits_all g fits = record {
    entered = λ f args e. let h = called_way (is_called program f) (gate.way g f args) enters e (λ k. cc) in fits.entered f args h.0 h.1;
    made = λ f args e. let h = called_way (is_called program f) (gate.way g f args) here e (λ k. cc) in fits.made f args h.0 h.1;
    answered = λ privileged f args e. let h = called_way (is_called program f) (gate.way g f args) here e (λ k. cc) in fits.answered privileged f args h.0 h.1;
  }

pub steps_keep_called : {G : Type 0} → StepsKeepCalled G
steps_keep_called kept monitor program gate m g sound fits own machine free =
    subst (λ s. StepFits kept monitor program m.active s) (same_stepped program gate m g m.active own)
    (step_keeps kept monitor program (limited program gate) m g sound (fits_all program gate g fits) machine free)
