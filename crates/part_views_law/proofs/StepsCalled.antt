-- A machine that fits calls what the part has a signature for, so a gate matters for such calls alone.
use Rattle.std.proofs.Common.{◌≡◌, ◌∙◌, ℕ, List, [], ◌∷◌, refl, sym, ap, subst, Bool, true, false, if◌then◌else◌, Option, None, Result, Ok, Err}
use Rattle.std.specs.Prelude.{IsTrue, is_some}
use Rattle.pt_base.specs.declared.span.Span.{Span}
use Rattle.pt_base.proofs.Booleans.{both_hold_first}
use Rattle.block_memory.specs.declared.cell.Cell.{Cell}
use Rattle.pt_core.specs.CodeTree.{ProgramTree, StmtTree, clear, check, assign, copy, call, choose, repeat, break_out, continue_on, give_back, no_stmts, stmt_and}
use Rattle.pt_core.specs.Values.{Stop, values_of}
use Rattle.pt_core.specs.Calls.{context_in}
use Rattle.pt_core.specs.Steps.{Active, Gate, Machine, Step, Way, Work, act, away, by_way, enters, head, here, on_value, run, settled, step, stepped, working, works}
use Rattle.pt_core.specs.WellFormed.{is_sound, signature_at}
use Rattle.pt_core.specs.WellFormedStatement.{Scope, stmt_fits, stmts_fit}
use Rattle.core_soundness_law.specs.Fits.{AllFit, Fits, is_looped, scope_in, work_fits}
use Rattle.core_soundness_law.specs.Kept.{Kept}
use Rattle.core_soundness_law.specs.StepLaws.{GateFits, StepFits}
use Rattle.core_soundness_law.proofs.Steps.{settled_fits, step_keeps}
use Rattle.part_views_law.specs.StepsParts.{CallsFit, HasSignature}
use Rattle.part_views_law.proofs.StepLemmas.{call_signed}

-- the same gate, but what the part has no signature for goes away
abbrev pub narrowed : {G : Type 0} → ProgramTree → Gate G → Gate G
narrowed part gate = record gate { way = λ g f args. if is_some (signature_at part f) then gate.way g f args else away }

-- what goes through has a signature
pub narrowed_way : {G : Type 0} (part : ProgramTree) (gate : Gate G) (g : G) (f : ℕ) (args : List Cell) (way : Way) → (away ≡ way → ⊥) → (narrowed part gate).way g f args ≡ way → HasSignature part f × (gate.way g f args ≡ way)
narrowed_way {G} part gate g f args way other e = go (is_some (signature_at part f)) refl e
  where
    go : (t : Bool) → is_some (signature_at part f) ≡ t → (if t then gate.way g f args else away) ≡ way → HasSignature part f × (gate.way g f args ≡ way)
    go true signed e' = (signed, e')
    go false signed e' = absurd (other e')

pub not_enters : away ≡ enters → ⊥
not_enters e = cc

not_here : away ≡ here → ⊥
not_here e = cc

narrowed_fits : {G : Type 0} (part : ProgramTree) (gate : Gate G) (g : G) → CallsFit part gate g → GateFits part (narrowed part gate) g
narrowed_fits {G} part gate g fits = record {
  entered = λ f args e. let goes = narrowed_way part gate g f args enters not_enters e in fits.entered f args goes.0 goes.1;
  made = λ f args e. let goes = narrowed_way part gate g f args here not_here e in fits.made f args goes.0 goes.1;
  answered = λ privileged f args e. let goes = narrowed_way part gate g f args here not_here e in fits.answered privileged f args goes.0 goes.1;
}

-- ---- steps

by_way_same : {G : Type 0} (part : ProgramTree) (gate : Gate G) (m : Machine) (g : G) (span : Span) (f : ℕ) (args : List Cell) (result : Option ℕ) (depth : ℕ) (way : Way) → by_way part gate m g span f args result depth way ≡ by_way part (narrowed part gate) m g span f args result depth way
by_way_same part gate m g span f args result depth enters = refl
by_way_same part gate m g span f args result depth here = refl
by_way_same part gate m g span f args result depth away = refl

call_same : {G : Type 0} (part : ProgramTree) (gate : Gate G) (m x : Machine) (g : G) (span : Span) (f : ℕ) (result : Option ℕ) (depth : ℕ) (r : Result (List Cell) Stop) → HasSignature part f →
    on_value r m g (λ vs. by_way part gate x g span f vs result depth (gate.way g f vs)) ≡ on_value r m g (λ vs. by_way part (narrowed part gate) x g span f vs result depth ((narrowed part gate).way g f vs))
call_same {G} part gate m x g span f result depth (Err stop) signed = refl
call_same {G} part gate m x g span f result depth (Ok vs) signed =
    by_way_same part gate x g span f vs result depth (gate.way g f vs)
    ∙ ap (λ (t : Bool). by_way part (narrowed part gate) x g span f vs result depth (if t then gate.way g f vs else away)) (sym signed)

act_same : {G : Type 0} (monitor : Bool) (part : ProgramTree) (gate : Gate G) (m : Machine) (g : G) (a : Active) (rest : List Active) (work : List Work) (looped : Bool) (t : StmtTree) → IsTrue (stmt_fits (scope_in monitor part a.function) looped t) →
    act part gate m g a rest work t ≡ act part (narrowed part gate) m g a rest work t
act_same monitor part gate m g a rest work looped (clear k) fits = refl
act_same monitor part gate m g a rest work looped (check p) fits = refl
act_same monitor part gate m g a rest work looped (assign p e) fits = refl
act_same monitor part gate m g a rest work looped (copy to from) fits = refl
act_same monitor part gate m g a rest work looped (call f args result span) fits =
    call_same part gate m (working m a rest work) g span f result a.depth (values_of (context_in part a.function) a.depth args m.blocks) (call_signed monitor part (context_in part a.function) f args result fits)
act_same monitor part gate m g a rest work looped (choose e first second) fits = refl
act_same monitor part gate m g a rest work looped (repeat body span) fits = refl
act_same monitor part gate m g a rest work looped break_out fits = refl
act_same monitor part gate m g a rest work looped continue_on fits = refl
act_same monitor part gate m g a rest work looped (give_back e) fits = refl

works_same : {G : Type 0} (monitor : Bool) (part : ProgramTree) (gate : Gate G) (m : Machine) (g : G) (a : Active) (rest : List Active) (work : List Work) → IsTrue (work_fits (scope_in monitor part a.function) work) →
    works part gate m g a rest work ≡ works part (narrowed part gate) m g a rest work
works_same monitor part gate m g a rest [] fits = refl
works_same monitor part gate m g a rest (run no_stmts ∷ work) fits = refl
works_same monitor part gate m g a rest (run (stmt_and t more) ∷ work) fits =
    let scope : Scope = scope_in monitor part a.function in
    act_same monitor part gate m g a rest (run more ∷ work) (is_looped work) t
    (both_hold_first (stmt_fits scope (is_looped work) t) (stmts_fit scope (is_looped work) more) (both_hold_first (stmts_fit scope (is_looped work) (stmt_and t more)) (work_fits scope work) fits))
works_same monitor part gate m g a rest (head body ∷ work) fits = refl

pub step_same : {G : Type 0} (monitor : Bool) (part : ProgramTree) (gate : Gate G) (m : Machine) (g : G) → AllFit monitor part m.active → step part gate m g ≡ step part (narrowed part gate) m g
step_same {G} monitor part gate m g all = go m.active all
  where
    go : (active : List Active) → AllFit monitor part active → stepped part gate m g active ≡ stepped part (narrowed part gate) m g active
    go [] fit = refl
    go (a ∷ rest) fit = works_same monitor part gate m g a rest (settled a.work) (settled_fits monitor part a.function a.work fit.0.work)

-- a step keeps what fits, where the gate fits for what has signatures
pub called_step_keeps : {G : Type 0} (kept : Kept) (monitor : Bool) (part : ProgramTree) (gate : Gate G) (m : Machine) (g : G) → IsTrue (is_sound monitor part) → CallsFit part gate g → Fits kept monitor part m → m.awaits ≡ None → StepFits kept monitor part m.active (step part gate m g)
called_step_keeps {G} kept monitor part gate m g sound calls fits free =
    subst (λ (s : Step G). StepFits kept monitor part m.active s) (sym (step_same monitor part gate m g fits.active))
    (step_keeps kept monitor part (narrowed part gate) m g sound (narrowed_fits part gate g calls) fits free)
