-- What computes with a handle where calls have further arguments.
use Rattle.std.specs.Prelude.{◌≡◌, ℕ, Bool, false, List, map}
use Rattle.pt_tree.specs.declared.signature.Param.{Param}
use Rattle.block_memory.specs.declared.cell.Cell.{Cell}
use Rattle.block_memory.specs.Blocks.{Blocks}
use Rattle.pt_core.specs.CodeTree.{ProgramTree, expr_trees}
use Rattle.pt_core.specs.Calls.{context_in}
use Rattle.pt_core.specs.Steps.{Gate, Machine}
use Rattle.handle_classes.specs.Computes.{computes_next, has_handle, meet_any}
use Rattle.core_steps_law.specs.ArgumentsAdded.{More, extended, machine_with}
use Rattle.core_steps_law.specs.ArgumentsLaws.{GatesAdd, HaveValues}
use Rattle.core_steps_law.specs.ArgumentsPointers.{pointed, pointer_to}

-- The further arguments meet no handle, and none is one.
pub record ArePlain (more : More) (cells : ℕ → List Cell) (p : ProgramTree) : Type 0 where
  pub unmet : (n depth f : ℕ) (blocks : Blocks) → meet_any (context_in p n) depth (expr_trees (more f)) blocks ≡ false
  pub plain : (f : ℕ) → has_handle (cells f) ≡ false

-- Then a step of the program with further arguments computes with a handle where that without them does.
abbrev pub AddedComputeAlike : Type 0 → Type 0
AddedComputeAlike G = (marked : ℕ → ℕ → Bool) (more : More) (params : ℕ → List Param) (cells : ℕ → List Cell) (p : ProgramTree) (plain added : Gate G) (m : Machine) (g : G) →
    HaveValues more cells p → GatesAdd cells plain added → ArePlain more cells p →
    computes_next marked (extended more params p) added (machine_with more m) g ≡ computes_next marked p plain m g

-- Pointers to globals are so.
abbrev pub PointersArePlain : Type 0
PointersArePlain = (p : ProgramTree) (globals : ℕ → List ℕ) → ArePlain (λ f. map (pointer_to p) (globals f)) (λ f. map (pointed p) (globals f)) p
