-- What holds of a slave whose boot has a spelling: its numbers are those of the format's fields.
use Rattle.std.specs.Prelude.{◌^◌, ◌⊎◌, ℕ, false, List, [], ◌∷◌, nat_lt}
use Rattle.std.specs.List.{AllByRecursion}
use Rattle.boot_fields.specs.Limits.{FitsEach, FitsFunction, FitsNumbered, FitsSignature}
use Rattle.pt_core.specs.CodeTree.{ProgramTree}
use Rattle.pt_core.specs.Steps.{Active, Machine, Work, run, head}
use Rattle.core_soundness_law.specs.Fits.{Fits}
use Rattle.core_soundness_law.specs.Kept.{Kept}
use Rattle.marshalling_law.specs.CallsSpelled.{HasBytes}
use Rattle.pair_meaning.specs.SlaveRun.{Slave, Doing, goes, waits_for, is_over}
use Rattle.slave_soundness_law.specs.Sound.{IsBare, IsSound}

-- ---- handles

-- every handle with a number of 64 bits stands for a number of every type
abbrev pub numbered : Kept
numbered t handle = nat_lt handle (2 ^ 64)

-- all handles in its memory have such numbers, unless it has nothing to do
abbrev pub HandlesFit : ProgramTree → Machine → Doing → Type 0
HandlesFit program m goes = Fits numbered false program m ⊎ IsBare m
HandlesFit program m (waits_for f args) = Fits numbered false program m
HandlesFit program m is_over = Unit {0}

-- ---- code

-- the numbers of what a function has still to do are those of the fields
abbrev pub WorkFits : List Work → Type 0
WorkFits [] = Unit {0}
WorkFits (run stmts ∷ work) = FitsEach stmts × WorkFits work
WorkFits (head body ∷ work) = FitsEach body × WorkFits work

abbrev pub AllWorkFits : List Active → Type 0
AllWorkFits [] = Unit {0}
AllWorkFits (a ∷ rest) = WorkFits a.work × AllWorkFits rest

-- so are those of a program
pub record CodeFits (program : ProgramTree) : Type 0 where
  pub signatures : AllByRecursion (FitsNumbered FitsSignature) program.signatures
  pub functions : AllByRecursion FitsFunction program.functions

-- ---- slaves

pub record IsInFormat (x : Slave) : Type 0 where
  pub sound : IsSound x
  pub code : CodeFits x.program
  pub left : AllWorkFits x.machine.active
  pub hosts : (f : ℕ) → HasBytes (x.hosts f)
  pub handles : HandlesFit x.program x.machine x.doing
