-- A step with further arguments computes with a handle where that without them does.
use Rattle.std.proofs.Common.{◌≡◌, ◌∙◌, ℕ, suc, List, [], ◌∷◌, ◌++◌, map, refl, ap, Bool, false, ◌&&◌, ◌||◌, Option, Some, None, Result, Ok, Err}
use Rattle.std.specs.Prelude.{not}
use Rattle.std.proofs.lemmas.Bool.{or_parts}
use Rattle.pt_tree.specs.declared.signature.Param.{Param}
use Rattle.typed_tree.specs.declared.types.VarTy.{VarTy}
use Rattle.typed_tree.specs.declared.types.VarTy.TheVariants.{Int, Struct, Array, Pointer}
use Rattle.block_memory.specs.declared.cell.Cell.{Cell}
use Rattle.block_memory.specs.Blocks.{Blocks}
use Rattle.pt_core.specs.CodeTree.{ExprTree, ExprTrees, no_exprs, expr_and, expr_trees, StmtTree, clear, check, assign, copy, call, choose, repeat, break_out, continue_on, give_back, no_stmts, stmt_and, ProgramTree}
use Rattle.pt_core.specs.Types.{Context, global_type}
use Rattle.pt_core.specs.Values.{Stop, value_of, values_of}
use Rattle.pt_core.specs.Calls.{context_in}
use Rattle.pt_core.specs.Steps.{Active, Gate, Way, Work, away, enters, head, here, run, settled}
use Rattle.handle_classes.specs.Computes.{computes, computes_call, computes_in, computes_return, computes_status, computes_work, has_handle, has_unmarked, if_given, is_sealed, meet_any, meets}
use Rattle.core_steps_law.specs.ArgumentsAdded.{More, active_with, exprs_and, extended, with_more, work_with}
use Rattle.core_steps_law.specs.ArgumentsLaws.{GatesAdd, HaveValues}
use Rattle.core_steps_law.proofs.ArgumentsSteps.{context_is, settled_with, values_with, with_cells}
use Rattle.core_steps_law.specs.ArgumentsPointers.{pointed, pointed_by, pointer_by, pointer_to}
use Rattle.part_views_law.specs.StepsAdded.{AddedComputeAlike, ArePlain, PointersArePlain}

-- ---- handles among arguments

pub none_unmarked : (marked : ℕ → Bool) (vs : List Cell) → has_handle vs ≡ false → has_unmarked marked vs ≡ false
none_unmarked marked [] none = refl
none_unmarked marked (v ∷ vs) none =
    let parts = or_parts (is_sealed v) (has_handle vs) none in
    ap (λ b. (b && not (marked 0)) || has_unmarked (λ n. marked (suc n)) vs) parts.0 ∙ none_unmarked (λ n. marked (suc n)) vs parts.1

handles_with : (vs more : List Cell) → has_handle more ≡ false → has_handle (vs ++ more) ≡ has_handle vs
handles_with [] more none = none
handles_with (v ∷ vs) more none = ap (λ b. is_sealed v || b) (handles_with vs more none)

unmarked_with : (marked : ℕ → Bool) (vs more : List Cell) → has_handle more ≡ false → has_unmarked marked (vs ++ more) ≡ has_unmarked marked vs
unmarked_with marked [] more none = none_unmarked marked more none
unmarked_with marked (v ∷ vs) more none = ap (λ b. (is_sealed v && not (marked 0)) || b) (unmarked_with (λ n. marked (suc n)) vs more none)

call_alike : (marked : ℕ → Bool) (vs more : List Cell) (way : Way) → has_handle more ≡ false → computes_call marked (vs ++ more) way ≡ computes_call marked vs way
call_alike marked vs more enters none = refl
call_alike marked vs more here none = handles_with vs more none
call_alike marked vs more away none = unmarked_with marked vs more none

met_with : (c : Context) (depth : ℕ) (more : List ExprTree) (blocks : Blocks) → meet_any c depth (expr_trees more) blocks ≡ false → (args : ExprTrees) → meet_any c depth (exprs_and args more) blocks ≡ meet_any c depth args blocks
met_with c depth more blocks unmet no_exprs = unmet
met_with c depth more blocks unmet (expr_and e rest) = ap (λ b. meets c depth e blocks || b) (met_with c depth more blocks unmet rest)

-- ---- steps

status_alike : (more : More) (rest : List Active) (v : Result Cell Stop) → computes_status (map (active_with more) rest) v ≡ computes_status rest v
status_alike more [] v = refl
status_alike more (caller ∷ rest) v = refl

return_alike : (more : More) (c : Context) (depth : ℕ) (e : Option ExprTree) (rest : List Active) (blocks : Blocks) → computes_return c depth e (map (active_with more) rest) blocks ≡ computes_return c depth e rest blocks
return_alike more c depth None rest blocks = refl
return_alike more c depth (Some e) rest blocks = ap (λ b. meets c depth e blocks || b) (status_alike more rest (value_of c depth e blocks))

module _ {G : Type 0} (marked : ℕ → ℕ → Bool) (more : More) (params : ℕ → List Param) (cells : ℕ → List Cell) (p : ProgramTree) (plain added : Gate G) (values : HaveValues more cells p) (gates : GatesAdd cells plain added) (no_handles : ArePlain more cells p) (g : G) where
  given_alike : (f : ℕ) (r : Result (List Cell) Stop) →
      if_given (with_cells (cells f) r) (λ vs. computes_call (marked f) vs (added.way g f vs)) ≡ if_given r (λ vs. computes_call (marked f) vs (plain.way g f vs))
  given_alike f (Ok vs) = ap (computes_call (marked f) (vs ++ cells f)) (gates.way g f vs) ∙ call_alike (marked f) vs (cells f) (plain.way g f vs) (no_handles.plain f)
  given_alike f (Err stop) = refl

  computes_alike : (n depth : ℕ) (rest : List Active) (s : StmtTree) (blocks : Blocks) →
      computes marked added g (context_in p n) depth (map (active_with more) rest) (with_more more s) blocks ≡ computes marked plain g (context_in p n) depth rest s blocks
  computes_alike n depth rest (clear v) blocks = refl
  computes_alike n depth rest (check q) blocks = refl
  computes_alike n depth rest (assign q e) blocks = refl
  computes_alike n depth rest (copy to from) blocks = refl
  computes_alike n depth rest (call f args result span) blocks =
      (λ i. met_with (context_in p n) depth (more f) blocks (no_handles.unmet n depth f blocks) args i
      || if_given (values_with (context_in p n) depth (more f) (cells f) blocks (values n depth f blocks) args i) (λ vs. computes_call (marked f) vs (added.way g f vs)))
      ∙ ap (λ b. meet_any (context_in p n) depth args blocks || b) (given_alike f (values_of (context_in p n) depth args blocks))
  computes_alike n depth rest (choose e first second) blocks = refl
  computes_alike n depth rest (repeat body span) blocks = refl
  computes_alike n depth rest break_out blocks = refl
  computes_alike n depth rest continue_on blocks = refl
  computes_alike n depth rest (give_back e) blocks = return_alike more (context_in p n) depth e rest blocks

  work_alike : (n depth : ℕ) (rest : List Active) (work : List Work) (blocks : Blocks) →
      computes_work marked added g (context_in p n) depth (map (active_with more) rest) (map (work_with more) work) blocks ≡ computes_work marked plain g (context_in p n) depth rest work blocks
  work_alike n depth rest [] blocks = refl
  work_alike n depth rest (run no_stmts ∷ work) blocks = refl
  work_alike n depth rest (run (stmt_and s further) ∷ work) blocks = computes_alike n depth rest s blocks
  work_alike n depth rest (head body ∷ work) blocks = refl

  pub in_alike : (active : List Active) (blocks : Blocks) → computes_in marked (extended more params p) added g (map (active_with more) active) blocks ≡ computes_in marked p plain g active blocks
  in_alike [] blocks = refl
  in_alike (a ∷ rest) blocks =
      (λ i. computes_work marked added g (context_is more params p a.function i) a.depth (map (active_with more) rest) (settled_with more a.work i) blocks)
      ∙ work_alike a.function a.depth rest (settled a.work) blocks

pub added_compute_alike : {G : Type 0} → AddedComputeAlike G
added_compute_alike {G} marked more params cells p plain added m g values gates no_handles = in_alike marked more params cells p plain added values gates no_handles g m.active m.blocks

-- ---- pointers to globals

pub pointers_are_plain : PointersArePlain
pointers_are_plain p globals = record { unmet = λ n depth f blocks. unmet n depth blocks (globals f); plain = λ f. plain (globals f) }
  where
    unmet_by : (c : Context) (depth g : ℕ) (blocks : Blocks) (t : VarTy) → meets c depth (pointer_by t g) blocks ≡ false
    unmet_by c depth g blocks (Int t) = refl
    unmet_by c depth g blocks (Struct n) = refl
    unmet_by c depth g blocks (Array elem count) = refl
    unmet_by c depth g blocks (Pointer elem fixed) = refl

    plain_by : (t : VarTy) (g : ℕ) → is_sealed (pointed_by t g) ≡ false
    plain_by (Int t) g = refl
    plain_by (Struct n) g = refl
    plain_by (Array elem count) g = refl
    plain_by (Pointer elem fixed) g = refl

    unmet : (n depth : ℕ) (blocks : Blocks) (gs : List ℕ) → meet_any (context_in p n) depth (expr_trees (map (pointer_to p) gs)) blocks ≡ false
    unmet n depth blocks [] = refl
    unmet n depth blocks (g ∷ gs) = ap (λ b. b || meet_any (context_in p n) depth (expr_trees (map (pointer_to p) gs)) blocks) (unmet_by (context_in p n) depth g blocks (global_type (context_in p 0) g)) ∙ unmet n depth blocks gs

    plain : (gs : List ℕ) → has_handle (map (pointed p) gs) ≡ false
    plain [] = refl
    plain (g ∷ gs) = ap (λ b. b || has_handle (map (pointed p) gs)) (plain_by (global_type (context_in p 0) g) g) ∙ plain gs
