-- What a machine still calls.
use Rattle.std.specs.Prelude.{◌≡◌, ◌≤◌, ℕ, Bool, List, [], ◌∷◌, ◌++◌, Option, Some, IsTrue, nat_eq}
use Rattle.std.specs.List.{list_all, list_any}
use Rattle.runs.specs.Run.{deepest}
use Rattle.block_memory.specs.declared.cell.Cell.{Cell}
use Rattle.pt_core.specs.CodeTree.{ProgramTree}
use Rattle.pt_core.specs.Steps.{Work, run, head, Active, Machine, Gate, Answer, moved, asked, ended, trapped, spent, idle, Step, step, started}
use Rattle.pt_core.specs.WellFormed.{callees}
use Rattle.pt_core.specs.WellFormedStatement.{callees_of}

-- the program's functions call this one
abbrev pub is_called : ProgramTree → ℕ → Bool
is_called program f = list_any (nat_eq f) (callees program)

-- what is called in all that a function has still to do
abbrev pub calls_left : List Work → List ℕ
calls_left [] = []
calls_left (run stmts ∷ work) = callees_of stmts ++ calls_left work
calls_left (head body ∷ work) = callees_of body ++ calls_left work

-- what the active functions have still to do calls only what the program's functions call
abbrev pub CallOwn : ProgramTree → List Active → Type 0
CallOwn program [] = Unit {0}
CallOwn program (a ∷ rest) = IsTrue (list_all (is_called program) (calls_left a.work)) × CallOwn program rest

-- so it is behind a step; and what the step asks for is such a call, at a depth that calls may have
pub record AllAreCalled {G : Type 0} (program : ProgramTree) (s : Step G) : Type 0 where
  pub left : CallOwn program s.machine.active
  pub asks : (f : ℕ) (args : List Cell) (depth : ℕ) → s.answer ≡ asked f args depth → IsTrue (is_called program f) × (depth ≤ deepest)

abbrev pub StepsCallOwn : Type 0 → Type 0
StepsCallOwn G = (program : ProgramTree) (gate : Gate G) (m : Machine) (g : G) → CallOwn program m.active → AllAreCalled program (step program gate m g)

-- A function is started where none is active. With no function active there is nothing to call.
abbrev pub StartedCallOwn : Type 0
StartedCallOwn = (program : ProgramTree) (privileged : Bool) (f depth : ℕ) (args : List Cell) (m : Machine) → CallOwn program (started program privileged f depth args m).active

-- ---- what else a step keeps

-- these are active, but the innermost one has other work
abbrev pub GoOnWith : List Active → List Active → Type 0
GoOnWith [] active = ⊥
GoOnWith (a ∷ rest) active = (work : List Work) × (active ≡ record a { work = work } ∷ rest)

-- the function that was innermost awaits the result of a call of this one
pub record HasAsked (active : List Active) (x : Machine) (f : ℕ) : Type 0 where
  pub result : Option ℕ
  pub awaits : x.awaits ≡ Some (record { callee = f; result = result })
  pub goes_on : GoOnWith active x.active

-- the outermost of them is this one
abbrev pub HasOutermost : ℕ → List Active → Type 0
HasOutermost f [] = ⊥
HasOutermost f (a ∷ []) = a.function ≡ f
HasOutermost f (a ∷ b ∷ rest) = HasOutermost f (b ∷ rest)

-- the outermost function stays
abbrev pub SameOutermost : List Active → List Active → Type 0
SameOutermost active after = (f : ℕ) → HasOutermost f active → HasOutermost f after

-- what goes on behind a step with this answer: what was awaited still is, or the call that it asks for; the outermost function
-- stays, and it alone is active where it ends
abbrev pub GoesBy : List Active → Machine → Answer → Machine → Type 0
GoesBy active m moved x = (x.awaits ≡ m.awaits) × SameOutermost active x.active
GoesBy active m (asked f args depth) x = HasAsked active x f
GoesBy active m (ended v) x = (a : Active) × (active ≡ a ∷ [])
GoesBy active m (trapped trap span) x = Unit {0}
GoesBy active m spent x = Unit {0}
GoesBy active m idle x = Unit {0}

-- A step leaves the budget as it is, takes no turn that the budget doesn't have, awaits nothing but what it asks for, and goes on with the same outermost
-- function.
pub record KeepsAccount {G : Type 0} (active : List Active) (m : Machine) (s : Step G) : Type 0 where
  pub budget : s.machine.budget ≡ m.budget
  pub turns : m.turns ≤ m.budget → s.machine.turns ≤ m.budget
  pub goes : GoesBy active m s.answer s.machine

abbrev pub StepsKeepAccount : Type 0 → Type 0
StepsKeepAccount G = (program : ProgramTree) (gate : Gate G) (m : Machine) (g : G) → KeepsAccount m.active m (step program gate m g)
