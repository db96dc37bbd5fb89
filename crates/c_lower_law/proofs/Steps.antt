-- `++` and `--`, whose value is that of before or that of after.
use Rattle.std.proofs.Common.{◌≡◌, ◌∙◌, ◌≤◌, ◌<◌, ℕ, zero, suc, ◌+◌, pos, refl, ap, sym, subst, inr, length-append, arith, Bool, true, false, Option, Some, None, List, [], ◌∷◌, ◌++◌, length, append_assoc, Result, Ok, Err, if◌then◌else◌}
use Rattle.std.specs.Prelude.{IsTrue, slice_get, slice_index_or}
use Rattle.pt_base.specs.declared.int_type.IntType.{IntType}
use Rattle.pt_base.specs.declared.int_type.IntType.TheVariants as i
use Rattle.pt_base.specs.IntTypes.{usual}
use Rattle.pt_base.specs.declared.span.Span.{Span}
use Rattle.pt_base.specs.declared.trap.Trap.{Trap}
use Rattle.runs.specs.State.{gives, trapped, spent, ◌>>=◌}
use Rattle.runs.specs.Pointers.{if_ok}
use Rattle.typed_tree.specs.declared.types.VarTy.{VarTy}
use Rattle.typed_tree.specs.declared.types.VarTy.TheVariants.{Int, Struct, Array, Pointer}
use Rattle.typed_tree.specs.declared.link.LinkStep.{LinkStep}
use Rattle.block_memory.specs.declared.cell.Cell as core
use Rattle.block_memory.specs.declared.cell.Cell.TheVariants as cell
use Rattle.block_memory.specs.declared.cell.BlockName.TheVariants.{Local}
use Rattle.block_memory.specs.Block as b
use Rattle.block_memory.specs.Blocks.{Blocks}
use Rattle.source_meaning.specs.Memory.{Cell, number, read, write}
use Rattle.source_meaning.specs.State.{State, Outcome}
use Rattle.source_meaning.specs.Values as m
use Rattle.source_meaning.specs.Values.{Value, holds, cell_of, Location}
use Rattle.source_meaning.specs.Expressions as e
use Rattle.source_meaning.specs.Expressions.{or_trap, store, compounded, counted, loaded}
use Rattle.pt_core.specs.CodeTree as t
use Rattle.pt_core.specs.CodeTree.{StmtTree, PlaceTree, assign}
use Rattle.pt_core.specs.Values as v
use Rattle.pt_core.specs.Values.{Stop, ◌>>?◌, written}
use Rattle.pt_core.specs.Statements as c
use Rattle.pt_core.specs.Statements.{Flow, goes_on, after_flow, evaluated}
use Rattle.lowering.specs.Lowered.{Temp, past, temp, hold}
use Rattle.lowering.specs.Operators as l
use Rattle.lowering.specs.Operators.{unit_of}
use Rattle.c_lower_law.proofs.Relations.{core_cell, Scene, world_of, context_of, sizes_in, Kept, Alike, Same, After, below, all}
use Rattle.c_lower_law.proofs.Expressions.{run_all, cell_asked, place_asked, SameAsked, SameCell, Gives, IsValue, IsPlace, SceneFits}
use Rattle.c_lower_law.proofs.Runs.{bind_bind, bind_gives, run_append, stops_same_asked, asked_asked}
use Rattle.c_lower_law.proofs.Memories.{kept_then}
use Rattle.c_lower_law.proofs.Held.{own_length, Holds, with_temp, temp_given, temp_read, hold_then, hold_then_stops, both, both_ok, IsNext}
use Rattle.c_lower_law.proofs.Operators.{told_as, Computes}
use Rattle.c_lower_law.proofs.Places.{some_same}
use Rattle.c_lower_law.proofs.Values.{Near, GivesNear, IsNear, Scalar, read_same, loaded_cell}
use Rattle.c_lower_law.proofs.Stores.{with_written, near_written, kept_after, OnTemps, assign_ok, assign_stops, computed, step_facts, computed_cell, compounded_as}

-- 1 is added or subtracted
pub unit_same : (u : VarTy) (back : Bool) → m.unit_step u back ≡ l.unit_step u back
unit_same (Int u) back = refl
unit_same (Struct n) back = refl
unit_same (Array elem count) back = refl
unit_same (Pointer elem fixed) back = refl

-- the operand of a step is 1
abbrev pub one : State → Outcome Value
one st = gives (holds (number (pos 1))) st

pub unit_value : (s : Scene) (u : VarTy) (blocks : Blocks) → Scalar u → cell_asked s (unit_of u) blocks ≡ Ok (core_cell (number (pos 1)))
unit_value s (Int u) blocks h = refl
unit_value s (Pointer elem fixed) blocks h = refl
unit_value s (Struct n) blocks h = absurd h
unit_value s (Array elem count) blocks h = absurd h

pub one_runs : (s : Scene) (n : ℕ) (u : VarTy) → Scalar u → IsNext s (IsValue s (Some (Int i.Int))) n one [] (cell_asked s (unit_of u))
one_runs s n u scalar st st' a = (
  refl,
  (λ d k far own. refl),
  subst (λ r. Same (Gives s (below n) st'.memory (IsValue s (Some (Int i.Int)))) (one st) (evaluated r st' (λ x. gives x))) (sym (unit_value s u st'.memory scalar))
      (record { after = record { alike = a; kept = λ d k far own. refl }; facts = record { fits = tt; sized = tt; same = refl } }),
)

-- pointwise equal continuations
pub bind_same : {A B : Type 0} (o : Outcome A) (f g : A → State → Outcome B) → ((a : A) (st : State) → f a st ≡ g a st) → (o >>= f) ≡ (o >>= g)
bind_same (gives a st) f g e1 = e1 a st
bind_same (trapped trap span st) f g e1 = refl
bind_same (spent st) f g e1 = refl

-- ---- behind its operand

-- what is computed is stored; temporary k holds the old value
keep_old : (s : Scene) (n k : ℕ) (before : Blocks) (u : VarTy) (sp : Span) (at : Location) (at' : v.Location) (old : Cell) (r : Result Cell Trap) (p : PlaceTree) (e1 : t.ExprTree) (st : State) (st' : c.State) → SceneFits s → length s.names.vars ≤ k → After s (below n) before st st' → IsPlace s u at at' →
    place_asked s p st'.memory ≡ Ok at' → cell_asked s e1 st'.memory ≡ told_as sp r → (st'.memory (Local s.frame.depth k)).cells ≡ core_cell old ∷ [] →
    SameAsked (Kept s (below n) before) (GivesNear s (below n) before (SameCell (Some u))) (cell_asked s (temp k)) ((or_trap sp r st >>= λ y. store at (holds y)) >>= λ w. gives (holds old)) (run_all s (assign p e1 ∷ []) st')
keep_old s n k before u sp at at' old (Ok y) p e1 st st' fits far a q there is held =
    subst (λ o. SameAsked (Kept s (below n) before) (GivesNear s (below n) before (SameCell (Some u))) (cell_asked s (temp k)) (gives (holds old) (record st { memory = write st.memory at.block at.cell y })) o)
    (sym (assign_ok s p e1 at' (core_cell y) st' (both_ok (place_asked s p) (cell_asked s e1) st'.memory at' there ∙ ap (λ z. z >>? λ x. Ok (at', x)) is))) (
      refl,
      kept_after s n u at at' before st'.memory (core_cell y) q a.kept,
      subst (λ z. Same (GivesNear s (below n) before (SameCell (Some u))) (gives (holds old) (record st { memory = write st.memory at.block at.cell y })) (evaluated z (with_written at' (core_cell y) st') (λ x. gives x)))
          (sym (temp_read s k (core_cell old) (written st'.memory at'.block at'.cell (core_cell y)) (ap (λ (bl : b.Block). bl.cells) (kept_after s (suc k) u at at' st'.memory st'.memory (core_cell y) q (λ d j f1 o. refl) s.frame.depth k (own_far k far) (inr (refl, omega arith))) ∙ held)))
          (record { near = near_written s u at at' y st st' fits a.alike q; kept = kept_after s n u at at' before st'.memory (core_cell y) q a.kept; facts = refl }),
    )
  where
    own_far : (k : ℕ) → length s.names.vars ≤ k → length (s.frames s.frame.depth) ≤ k
    own_far k far = let own = own_length s fits in omega (arith, own, far)
keep_old s n k before u sp at at' old (Err trap) p e1 st st' fits far a q there is held =
    stops_same_asked (Kept s (below n) before) (GivesNear s (below n) before (SameCell (Some u))) (cell_asked s (temp k)) trap sp st st' (run_all s (assign p e1 ∷ []) st') a.alike.seen
    (assign_stops s p e1 (record { trap = trap; span = sp }) st' (both_ok (place_asked s p) (cell_asked s e1) st'.memory at' there ∙ ap (λ z. z >>? λ x. Ok (at', x)) is))

pub postfix_near : (s : Scene) (n k : ℕ) (u : VarTy) (x : Temp) (back : Bool) (sp : Span) (locs : State → Outcome Location) (xs : List StmtTree) (p : PlaceTree) → SceneFits s → length s.names.vars ≤ k → n ≤ k → slice_get s.core_variables k ≡ Some x.ty → Computes u (l.unit_step u back) → OnTemps s k p →
    IsNext s (IsPlace s u) n locs xs (place_asked s p) →
    IsNear s (SameCell (Some u)) n (λ st. locs st >>= counted (context_of s) sp back true) (xs ++ (hold k (t.read p) ∷ assign p (computed u (l.unit_step u back) p (unit_of u) sp) ∷ [])) (cell_asked s (temp k))
postfix_near s n k u x back sp locs xs p fits far le there h0 on h st st' al =
    subst (λ z. SameAsked (Kept s (below n) st'.memory) (GivesNear s (below n) st'.memory (SameCell (Some u))) (cell_asked s (temp k)) (locs st >>= counted (context_of s) sp back true) z) (sym (run_append s xs (hold k (t.read p) ∷ assign p (computed u (l.unit_step u back) p (unit_of u) sp) ∷ []) st'))
    (asked_asked (Kept s (below n) st'.memory) (Kept s (below n) st'.memory) (Gives s (below n) st'.memory (IsPlace s u)) (GivesNear s (below n) st'.memory (SameCell (Some u))) (place_asked s p) (cell_asked s (temp k)) (locs st) (run_all s xs st') (counted (context_of s) sp back true)
    (run_all s (hold k (t.read p) ∷ assign p (computed u (l.unit_step u back) p (unit_of u) sp) ∷ [])) (h st st' al)
    (λ stop st1' g no. hold_then_stops s k (t.read p) (assign p (computed u (l.unit_step u back) p (unit_of u) sp) ∷ []) stop st1' (ap (λ r. r >>? λ l1. Ok (v.cell_in st1'.memory l1)) no))
    (λ at st1 at' st1' q is. stepped_on at st1 at' st1' q is (temp_given s k (core_cell (read st1.memory at.block at.cell)) x.ty st1 st1' fits far there q.after.alike)))
  where
    scalar : Scalar u
    scalar = (step_facts s u (l.unit_step u back) (t.read p) h0).scalar

    stepped_on : (at : Location) (st1 : State) (at' : v.Location) (st1' : c.State) → Gives s (below n) st'.memory (IsPlace s u) at st1 at' st1' → place_asked s p st1'.memory ≡ Ok at' →
        Holds s k (core_cell (read st1.memory at.block at.cell)) st1'.memory st1 (with_temp s k (core_cell (read st1.memory at.block at.cell)) st1') →
        SameAsked (Kept s (below n) st'.memory) (GivesNear s (below n) st'.memory (SameCell (Some u))) (cell_asked s (temp k)) (counted (context_of s) sp back true at st1)
        (run_all s (hold k (t.read p) ∷ assign p (computed u (l.unit_step u back) p (unit_of u) sp) ∷ []) st1')
    stepped_on at st1 at' st1' q is w =
        subst (λ o. SameAsked (Kept s (below n) st'.memory) (GivesNear s (below n) st'.memory (SameCell (Some u))) (cell_asked s (temp k)) (counted (context_of s) sp back true at st1) o)
        (sym (hold_then s k (t.read p) (assign p (computed u (l.unit_step u back) p (unit_of u) sp) ∷ []) (core_cell (read st1.memory at.block at.cell)) st1' (ap (λ r. r >>? λ l1. Ok (v.cell_in st1'.memory l1)) is ∙ ap (λ z. Ok z) (read_same s u at at' st1 st1' q.after.alike q.facts))))
        (subst (λ o. SameAsked (Kept s (below n) st'.memory) (GivesNear s (below n) st'.memory (SameCell (Some u))) (cell_asked s (temp k)) o (run_all s (assign p (computed u (l.unit_step u back) p (unit_of u) sp) ∷ []) (with_temp s k (core_cell (read st1.memory at.block at.cell)) st1')))
        (sym (source_is at st1 (some_same u at.ty q.facts.fits.has)))
        (keep_old s n k st'.memory u sp at at' (read st1.memory at.block at.cell) (if_ok (m.stepped (sizes_in s) u (l.unit_step u back) (read st1.memory at.block at.cell) (number (pos 1))) (m.converted_cell u)) p (computed u (l.unit_step u back) p (unit_of u) sp) st1 (with_temp s k (core_cell (read st1.memory at.block at.cell)) st1') fits far
        (record { alike = w.alike; kept = kept_then s (below n) (below k) (below n) st'.memory st1'.memory (with_temp s k (core_cell (read st1.memory at.block at.cell)) st1').memory q.after.kept w.kept (λ j g. g) (λ j g. omega (arith, le, g)) })
        q.facts (again at' st1' at st1 w is)
        (computed_cell s u (l.unit_step u back) p (unit_of u) sp at at' (number (pos 1)) st1 (with_temp s k (core_cell (read st1.memory at.block at.cell)) st1') h0 w.alike q.facts (again at' st1' at st1 w is) (unit_value s u (with_temp s k (core_cell (read st1.memory at.block at.cell)) st1').memory scalar))
        w.cell))
      where
        again : (at' : v.Location) (st1' : c.State) (at : Location) (st1 : State) → Holds s k (core_cell (read st1.memory at.block at.cell)) st1'.memory st1 (with_temp s k (core_cell (read st1.memory at.block at.cell)) st1') → place_asked s p st1'.memory ≡ Ok at' →
            place_asked s p (with_temp s k (core_cell (read st1.memory at.block at.cell)) st1').memory ≡ Ok at'
        again at' st1' at st1 w is = on st1'.memory (with_temp s k (core_cell (read st1.memory at.block at.cell)) st1').memory (λ j f1 less. w.kept s.frame.depth j f1 (inr (refl, less))) ∙ is

        source_is : (at : Location) (st1 : State) → u ≡ at.ty → counted (context_of s) sp back true at st1 ≡
            ((or_trap sp (if_ok (m.stepped (sizes_in s) u (l.unit_step u back) (read st1.memory at.block at.cell) (number (pos 1))) (m.converted_cell u)) st1 >>= λ y. store at (holds y)) >>= λ w. gives (holds (read st1.memory at.block at.cell)))
        source_is at st1 same =
            ap (λ z. compounded (context_of s) sp at (m.unit_step z back) (holds (number (pos 1))) st1 >>= λ w. gives (loaded (context_of s) at at.ty st1)) (sym same)
            ∙ ap (λ z. compounded (context_of s) sp at z (holds (number (pos 1))) st1 >>= λ w. gives (loaded (context_of s) at at.ty st1)) (unit_same u back)
            ∙ ap (λ o. o >>= λ w. gives (loaded (context_of s) at at.ty st1)) (compounded_as s u sp at (l.unit_step u back) (holds (number (pos 1))) st1 same)
            ∙ ap (λ z. (or_trap sp (if_ok (m.stepped (sizes_in s) u (l.unit_step u back) (read st1.memory at.block at.cell) (number (pos 1))) (m.converted_cell u)) st1 >>= λ y. store at (holds y)) >>= λ w. gives z)
            (ap (λ z. loaded (context_of s) at z st1) (sym same) ∙ loaded_cell s at u st1 scalar)
