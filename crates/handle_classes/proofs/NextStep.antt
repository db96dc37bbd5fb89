-- The next step computes with no handle.
use Rattle.std.proofs.Common.{◌≡◌, ◌∙◌, ℕ, suc, refl, sym, Bool, true, false, ◌&&◌, not, List, [], ◌∷◌, Option, Some, None, Result, Ok, Err, inl, inr}
use Rattle.std.specs.Prelude.{◌⊎◌}
use Rattle.std.proofs.lemmas.Bool.{or_from}
use Rattle.block_memory.specs.declared.cell.Cell.{Cell}
use Rattle.block_memory.specs.declared.cell.Cell.TheVariants as cell
use Rattle.block_memory.specs.Blocks.{Blocks}
use Rattle.pt_core.specs.CodeTree.{ExprTree, StmtTree, clear, check, assign, copy, call, choose, repeat, break_out, continue_on, give_back, no_stmts, stmt_and, ProgramTree}
use Rattle.pt_core.specs.Values.{Stop, value_of, values_of}
use Rattle.pt_core.specs.Calls.{context_in}
use Rattle.pt_core.specs.Steps.{Work, run, head, Active, Gate, Way, enters, here, away, settled}
use Rattle.handle_classes.specs.Classes.{Class, World, scope_in, integer_class, class_of}
use Rattle.handle_classes.specs.Judgment.{Flows, IsFineResult, IsFineStatement, IsFineProgram}
use Rattle.handle_classes.specs.Invariant.{Fits, AllFit, MemoryFits, IsFineWork, ResultFits, ActiveFit}
use Rattle.handle_classes.specs.Computes.{is_sealed, is_handle, has_handle, has_unmarked, computes_call, if_given, computes_return, computes, computes_work, computes_in}
use Rattle.handle_classes.specs.Laws.{FitsIf, ValueFits, FitsGate, NoHandleIsComputedWith}
use Rattle.handle_classes.proofs.Values.{Here, values, places, plain_is_no_handle, pointer_is_no_handle}
use Rattle.handle_classes.proofs.Memory.{flows_fit}
use Rattle.handle_classes.proofs.Arguments.{AllFitIf, ArgumentsFit, arguments}

pub sealed_may : (w : World) (active : List Active) (c : Class) (v : Cell) → Fits w active c v → is_sealed v ≡ true → c.may 0 ≡ true
sealed_may w active c (cell.Int n) f h = cc
sealed_may w active c (cell.Ptr p) f h = cc
sealed_may w active c (cell.Sealed n) f h = f.1

pub sealed_flows : (w : World) (active : List Active) (v k : Class) (c : Cell) → Flows v k → Fits w active v c → is_sealed c ≡ true → k.may 0 ≡ true
sealed_flows w active v k c flows f = sealed_may w active k c (flows_fit w active v k c flows f)

-- ---- arguments

marked_or_not : (s m : Bool) → (s ≡ true → m ≡ true) → (s && not m) ≡ false
marked_or_not false m h = refl
marked_or_not true true h = refl
marked_or_not true false h = sym (h refl)

none_unmarked : (w : World) (active : List Active) (into : ℕ → Class) (vs : List Cell) → AllFit w active into vs →
    has_unmarked (λ n. (into n).may 0) vs ≡ false
none_unmarked w active into [] fit = refl
none_unmarked w active into (v ∷ vs) fit = or_from _ _ (marked_or_not (is_sealed v) ((into 0).may 0) (sealed_may w active (into 0) v fit.0))
    (none_unmarked w active (λ n. into (suc n)) vs fit.1)

pub not_sealed : (s m : Bool) → m ≡ false → (s ≡ true → m ≡ true) → s ≡ false
not_sealed false m p h = refl
not_sealed true m p h = sym (h refl) ∙ p

none_sealed : (w : World) (active : List Active) (into : ℕ → Class) (vs : List Cell) → ((n : ℕ) → (into n).may 0 ≡ false) → AllFit w active into vs →
    has_handle vs ≡ false
none_sealed w active into [] plain fit = refl
none_sealed w active into (v ∷ vs) plain fit =
    or_from _ _ (not_sealed (is_sealed v) ((into 0).may 0) (plain 0) (sealed_may w active (into 0) v fit.0))
    (none_sealed w active (λ n. into (suc n)) vs (λ n. plain (suc n)) fit.1)

run_here_plain : (w : World) (active : List Active) (into : ℕ → Class) (vs : List Cell) → AllFit w active into vs →
    (has_handle vs ≡ false) ⊎ ((n : ℕ) → (into n).may 0 ≡ false) → has_handle vs ≡ false
run_here_plain w active into vs fit (inl none) = none
run_here_plain w active into vs fit (inr plain) = none_sealed w active into vs plain fit

call_unmet : {G : Type 0} (w : World) (active : List Active) (gate : Gate G) → FitsGate w gate → (g : G) (f : ℕ) (vs : List Cell) →
    AllFit w active (w.param f) vs → (way : Way) → gate.way g f vs ≡ way → computes_call (λ n. (w.param f n).may 0) vs way ≡ false
call_unmet w active gate ok g f vs fit enters same = refl
call_unmet w active gate ok g f vs fit here same = run_here_plain w active (w.param f) vs fit (ok.run_here g f vs same)
call_unmet w active gate ok g f vs fit away same = none_unmarked w active (w.param f) vs fit

calls_unmet : {G : Type 0} (w : World) (active : List Active) (gate : Gate G) → FitsGate w gate → (g : G) (f : ℕ) (r : Result (List Cell) Stop) →
    AllFitIf w active (w.param f) r →
    if_given r (λ vs. computes_call (λ n. (w.param f n).may 0) vs (gate.way g f vs)) ≡ false
calls_unmet w active gate ok g f (Err stop) fit = refl
calls_unmet w active gate ok g f (Ok vs) fit = call_unmet w active gate ok g f vs fit (gate.way g f vs) refl

-- ---- results and conditions

status_unmet : (w : World) (active : List Active) (c : Class) (sealed : Bool) (r : Result Cell Stop) → sealed ≡ false →
    Flows c (integer_class sealed) → FitsIf w active c r → is_handle r ≡ false
status_unmet w active c sealed (Err stop) none flows f = refl
status_unmet w active c sealed (Ok v) none flows f = not_sealed (is_sealed v) sealed none (sealed_flows w active c (integer_class sealed) v flows f)

return_unmet : (program : ProgramTree) (w : World) (a : Active) (rest : List Active) (blocks : Blocks) → Here program w a rest blocks →
    ResultFits program w a rest → (e : Option ExprTree) → IsFineResult w (scope_in program w a.function) a.function e →
    computes_return (context_in program a.function) a.depth e rest blocks ≡ false
return_unmet program w a rest blocks at result None fine = refl
return_unmet program w a [] blocks at result (Some e) fine =
    let of : ValueFits program w a [] blocks e = values program w a [] blocks at e fine.0 in
    or_from _ _ of.unmet (status_unmet w (a ∷ []) (class_of (scope_in program w a.function) e) (w.result a.function)
    (value_of (context_in program a.function) a.depth e blocks) result fine.1 of.fits)
return_unmet program w a (caller ∷ rest) blocks at result (Some e) fine =
    let of : ValueFits program w a (caller ∷ rest) blocks e = values program w a (caller ∷ rest) blocks at e fine.0 in
    or_from _ _ of.unmet refl

condition_unmet : (w : World) (active : List Active) (c : Class) (r : Result Cell Stop) → (c.pointer ≡ false → c.may 0 ≡ false) →
    FitsIf w active c r → is_handle r ≡ false
condition_unmet w active c r plain f = go c.pointer refl
  where
    go : (b : Bool) → c.pointer ≡ b → is_handle r ≡ false
    go true p = pointer_is_no_handle w active c r p f
    go false p = plain_is_no_handle w active c r (record { integer = p; number = plain p }) f

-- ---- statements

statement_unmet : {G : Type 0} (program : ProgramTree) (w : World) (gate : Gate G) (g : G) (a : Active) (rest : List Active) (blocks : Blocks) →
    FitsGate w gate → Here program w a rest blocks → ResultFits program w a rest →
    (s : StmtTree) → IsFineStatement w (scope_in program w a.function) a.function s →
    computes (λ f n. (w.param f n).may 0) gate g (context_in program a.function) a.depth rest s blocks ≡ false
statement_unmet program w gate g a rest blocks ok at result (clear v) fine = refl
statement_unmet program w gate g a rest blocks ok at result (check p) fine = (places program w a rest blocks at p fine).unmet
statement_unmet program w gate g a rest blocks ok at result (assign p e) fine = or_from _ _ (places program w a rest blocks at p fine.0).unmet
    (values program w a rest blocks at e fine.1).unmet
statement_unmet program w gate g a rest blocks ok at result (copy to from) fine = or_from _ _ (places program w a rest blocks at to fine.0).unmet
    (places program w a rest blocks at from fine.1).unmet
statement_unmet program w gate g a rest blocks ok at result (call f args v span) fine =
    let known : ArgumentsFit program w a rest blocks (w.param f) args = arguments program w a rest blocks at args (w.param f) fine.0 in
    or_from _ _ known.unmet (calls_unmet w (a ∷ rest) gate ok g f (values_of (context_in program a.function) a.depth args blocks) known.fit)
statement_unmet program w gate g a rest blocks ok at result (choose e first second) fine =
    let of : ValueFits program w a rest blocks e = values program w a rest blocks at e fine.0 in
    or_from _ _ of.unmet (condition_unmet w (a ∷ rest) (class_of (scope_in program w a.function) e)
    (value_of (context_in program a.function) a.depth e blocks) fine.1 of.fits)
statement_unmet program w gate g a rest blocks ok at result (repeat body span) fine = refl
statement_unmet program w gate g a rest blocks ok at result break_out fine = refl
statement_unmet program w gate g a rest blocks ok at result continue_on fine = refl
statement_unmet program w gate g a rest blocks ok at result (give_back e) fine = return_unmet program w a rest blocks at result e fine

pub settled_fine : (program : ProgramTree) (w : World) (f : ℕ) (work : List Work) → IsFineWork program w f work →
    IsFineWork program w f (settled work)
settled_fine program w f [] fine = fine
settled_fine program w f (run no_stmts ∷ work) fine = settled_fine program w f work fine.1
settled_fine program w f (run (stmt_and s more) ∷ work) fine = fine
settled_fine program w f (head body ∷ work) fine = fine

work_unmet : {G : Type 0} (program : ProgramTree) (w : World) (gate : Gate G) (g : G) (a : Active) (rest : List Active) (blocks : Blocks) →
    FitsGate w gate → Here program w a rest blocks → ResultFits program w a rest →
    (work : List Work) → IsFineWork program w a.function work →
    computes_work (λ f n. (w.param f n).may 0) gate g (context_in program a.function) a.depth rest work blocks ≡ false
work_unmet program w gate g a rest blocks ok at result [] fine = refl
work_unmet program w gate g a rest blocks ok at result (run no_stmts ∷ work) fine = refl
work_unmet program w gate g a rest blocks ok at result (run (stmt_and s more) ∷ work) fine =
    statement_unmet program w gate g a rest blocks ok at result s fine.0.0
work_unmet program w gate g a rest blocks ok at result (head body ∷ work) fine = refl

active_unmet : {G : Type 0} (program : ProgramTree) (w : World) (gate : Gate G) (g : G) (active : List Active) (blocks : Blocks) →
    IsFineProgram program w → FitsGate w gate → MemoryFits w active blocks → ActiveFit program w active →
    computes_in (λ f n. (w.param f n).may 0) program gate g active blocks ≡ false
active_unmet program w gate g [] blocks fine ok mem fit = refl
active_unmet program w gate g (a ∷ rest) blocks fine ok mem fit = work_unmet program w gate g a rest blocks ok (fine, mem) fit.1 (settled a.work)
    (settled_fine program w a.function a.work fit.0)

pub no_handle_is_computed_with : {G : Type 0} → NoHandleIsComputedWith G
no_handle_is_computed_with program w gate m g fine ok st = active_unmet program w gate g m.active m.blocks fine ok st.memory st.active
