-- By which marks it is tested whether the next step computes with a handle makes a difference for requests alone.
use Rattle.std.proofs.Common.{◌≡◌, ℕ, refl, Bool, false, List, [], ◌∷◌, Result, Ok, Err}
use Rattle.std.proofs.lemmas.Bool.{or_from}
use Rattle.pt_base.proofs.Booleans.{or_false_second}
use Rattle.block_memory.specs.declared.cell.Cell.{Cell}
use Rattle.block_memory.specs.Blocks.{Blocks}
use Rattle.pt_core.specs.CodeTree.{StmtTree, clear, check, assign, copy, call, choose, repeat, break_out, continue_on, give_back, no_stmts, stmt_and, ProgramTree}
use Rattle.pt_core.specs.Values.{Stop, values_of}
use Rattle.pt_core.specs.Calls.{context_in}
use Rattle.pt_core.specs.Steps.{Work, run, head, Active, Machine, Gate, Way, enters, here, away, settled}
use Rattle.handle_classes.specs.Classes.{World, scope_in}
use Rattle.handle_classes.specs.Judgment.{IsFineStatement, IsFineProgram}
use Rattle.handle_classes.specs.Invariant.{AllFit, MemoryFits, IsFineWork, ActiveFit, Fine}
use Rattle.handle_classes.specs.Computes.{has_unmarked, computes_call, if_given, meet_any, computes, computes_work, computes_in, computes_next}
use Rattle.handle_classes.specs.Laws.{FitsGate}
use Rattle.handle_classes.proofs.Values.{Here}
use Rattle.handle_classes.proofs.Arguments.{AllFitIf, ArgumentsFit, arguments}
use Rattle.handle_classes.proofs.NextStep.{settled_fine, no_handle_is_computed_with}

-- a request has no handle for what isn't marked, where its arguments are of their classes
abbrev pub AsksMarked : {G : Type 0} → World → Gate G → (ℕ → ℕ → Bool) → Type 0
AsksMarked {G} w gate marked = (g : G) (active : List Active) (f : ℕ) (vs : List Cell) → gate.way g f vs ≡ away → AllFit w active (w.param f) vs → has_unmarked (marked f) vs ≡ false

call_marked : {G : Type 0} (w : World) (gate : Gate G) (marked : ℕ → ℕ → Bool) → AsksMarked w gate marked → (g : G) (active : List Active) (f : ℕ) (r : Result (List Cell) Stop) → AllFitIf w active (w.param f) r →
    if_given r (λ vs. computes_call (λ n. (w.param f n).may 0) vs (gate.way g f vs)) ≡ false → if_given r (λ vs. computes_call (marked f) vs (gate.way g f vs)) ≡ false
call_marked w gate marked asks g active f (Err stop) fit h = refl
call_marked w gate marked asks g active f (Ok vs) fit h = go (gate.way g f vs) refl h
  where
    go : (way : Way) → gate.way g f vs ≡ way → computes_call (λ n. (w.param f n).may 0) vs way ≡ false → computes_call (marked f) vs way ≡ false
    go enters is k = k
    go here is k = k
    go away is k = asks g active f vs is fit

statement_marked : {G : Type 0} (program : ProgramTree) (w : World) (gate : Gate G) (marked : ℕ → ℕ → Bool) → AsksMarked w gate marked → (g : G) (a : Active) (rest : List Active) (blocks : Blocks) → Here program w a rest blocks →
    (s : StmtTree) → IsFineStatement w (scope_in program w a.function) a.function s → computes (λ f n. (w.param f n).may 0) gate g (context_in program a.function) a.depth rest s blocks ≡ false →
    computes marked gate g (context_in program a.function) a.depth rest s blocks ≡ false
statement_marked program w gate marked asks g a rest blocks at (clear v) fine h = refl
statement_marked program w gate marked asks g a rest blocks at (check p) fine h = h
statement_marked program w gate marked asks g a rest blocks at (assign p e) fine h = h
statement_marked program w gate marked asks g a rest blocks at (copy to from) fine h = h
statement_marked program w gate marked asks g a rest blocks at (call f args v span) fine h =
    let known : ArgumentsFit program w a rest blocks (w.param f) args = arguments program w a rest blocks at args (w.param f) fine.0 in
    let r = values_of (context_in program a.function) a.depth args blocks in
    or_from (meet_any (context_in program a.function) a.depth args blocks) (if_given r (λ vs. computes_call (marked f) vs (gate.way g f vs))) known.unmet
    (call_marked w gate marked asks g (a ∷ rest) f r known.fit (or_false_second (meet_any (context_in program a.function) a.depth args blocks) (if_given r (λ vs. computes_call (λ n. (w.param f n).may 0) vs (gate.way g f vs))) h))
statement_marked program w gate marked asks g a rest blocks at (choose e first second) fine h = h
statement_marked program w gate marked asks g a rest blocks at (repeat body span) fine h = refl
statement_marked program w gate marked asks g a rest blocks at break_out fine h = refl
statement_marked program w gate marked asks g a rest blocks at continue_on fine h = refl
statement_marked program w gate marked asks g a rest blocks at (give_back e) fine h = h

work_marked : {G : Type 0} (program : ProgramTree) (w : World) (gate : Gate G) (marked : ℕ → ℕ → Bool) → AsksMarked w gate marked → (g : G) (a : Active) (rest : List Active) (blocks : Blocks) → Here program w a rest blocks →
    (work : List Work) → IsFineWork program w a.function work → computes_work (λ f n. (w.param f n).may 0) gate g (context_in program a.function) a.depth rest work blocks ≡ false →
    computes_work marked gate g (context_in program a.function) a.depth rest work blocks ≡ false
work_marked program w gate marked asks g a rest blocks at [] fine h = refl
work_marked program w gate marked asks g a rest blocks at (run no_stmts ∷ work) fine h = refl
work_marked program w gate marked asks g a rest blocks at (run (stmt_and s more) ∷ work) fine h = statement_marked program w gate marked asks g a rest blocks at s fine.0.0 h
work_marked program w gate marked asks g a rest blocks at (head body ∷ work) fine h = refl

active_marked : {G : Type 0} (program : ProgramTree) (w : World) (gate : Gate G) (marked : ℕ → ℕ → Bool) → AsksMarked w gate marked → IsFineProgram program w → (g : G) (active : List Active) (blocks : Blocks) →
    MemoryFits w active blocks → ActiveFit program w active → computes_in (λ f n. (w.param f n).may 0) program gate g active blocks ≡ false → computes_in marked program gate g active blocks ≡ false
active_marked program w gate marked asks code g [] blocks mem fit h = refl
active_marked program w gate marked asks code g (a ∷ rest) blocks mem fit h =
    work_marked program w gate marked asks g a rest blocks (code, mem) (settled a.work) (settled_fine program w a.function a.work fit.0) h

-- so a step of fine code computes with no handle by other marks too, where requests have handles for these alone
pub unmet_by : {G : Type 0} (program : ProgramTree) (w : World) (gate : Gate G) (marked : ℕ → ℕ → Bool) (m : Machine) (g : G) → IsFineProgram program w → FitsGate w gate → AsksMarked w gate marked → Fine program w m → computes_next marked program gate m g ≡ false
unmet_by program w gate marked m g code ok asks fine =
    active_marked program w gate marked asks code g m.active m.blocks fine.memory fine.active (no_handle_is_computed_with program w gate m g code ok fine)
