-- What the further arguments of calls change.
use Rattle.std.specs.Prelude.{◌≡◌, ℕ, ◌⊎◌, Bool, List, [], ◌++◌, Option, Ok}
use Rattle.pt_tree.specs.declared.signature.Param.{Param}
use Rattle.block_memory.specs.declared.cell.Cell.{Cell}
use Rattle.block_memory.specs.Blocks.{Blocks}
use Rattle.pt_core.specs.CodeTree.{ProgramTree, expr_trees}
use Rattle.pt_core.specs.Values.{values_of}
use Rattle.pt_core.specs.Calls.{context_in}
use Rattle.pt_core.specs.Steps.{Gate, Machine, at_rest, away, resumed, started, step}
use Rattle.core_steps_law.specs.ArgumentsAdded.{More, extended, machine_with, step_with}

-- In each function of the program the further arguments have these values, whatever the memory is.
abbrev pub HaveValues : More → (ℕ → List Cell) → ProgramTree → Type 0
HaveValues more cells p = (n depth f : ℕ) (blocks : Blocks) → values_of (context_in p n) depth (expr_trees (more f)) blocks ≡ Ok (cells f)

-- The second gate lets a call with its further arguments go the way of the first's without them, notes and answers alike, and what
-- has further arguments goes away.
pub record GatesAdd {G : Type 0} (cells : ℕ → List Cell) (plain added : Gate G) : Type 0 where
  pub way : (g : G) (f : ℕ) (args : List Cell) → added.way g f (args ++ cells f) ≡ plain.way g f args
  pub noted : added.noted ≡ plain.noted
  pub answer : added.answer ≡ plain.answer
  pub goes : (g : G) (f : ℕ) (args : List Cell) → (cells f ≡ []) ⊎ (plain.way g f args ≡ away)

-- A program with further arguments steps as without them, but that it asks for calls with their values.
abbrev pub StepsAreAdded : Type 0 → Type 0
StepsAreAdded G = (more : More) (params : ℕ → List Param) (cells : ℕ → List Cell) (p : ProgramTree) (plain added : Gate G) (m : Machine) (g : G) →
    HaveValues more cells p → GatesAdd cells plain added → step (extended more params p) added (machine_with more m) g ≡ step_with more cells (step p plain m g)

-- So it begins, is started where what is entered has no further arguments, and goes on with the result of a call.
pub record BeginsAdded (more : More) (params : ℕ → List Param) (p : ProgramTree) : Type 0 where
  pub rests : (budget : ℕ) → at_rest (extended more params p) budget ≡ machine_with more (at_rest p budget)
  pub starts : (privileged : Bool) (f depth : ℕ) (args : List Cell) (m : Machine) →
      started (extended more params p) privileged f depth args (machine_with more m) ≡ machine_with more (started p privileged f depth args m)
  pub resumes : (v : Option Cell) (m : Machine) → resumed v (machine_with more m) ≡ machine_with more (resumed v m)

abbrev pub OutsideIsAdded : Type 0
OutsideIsAdded = (more : More) (params : ℕ → List Param) (p : ProgramTree) → BeginsAdded more params p
