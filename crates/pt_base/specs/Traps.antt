-- How reports spell the traps.
use Rattle.std.specs.Prelude.{ℕ, List, codes}
use Rattle.pt_base.specs.declared.trap.Trap.{Trap}
use Rattle.pt_base.specs.declared.trap.Trap.TheVariants.{Overflow, DivZero, Shift, Bounds, Null, PtrRange, PtrCompare, Depth, NoReturn}

abbrev pub trap_name : Trap → List ℕ
trap_name Overflow = codes "Overflow"
trap_name DivZero = codes "DivZero"
trap_name Shift = codes "Shift"
trap_name Bounds = codes "Bounds"
trap_name Null = codes "Null"
trap_name PtrRange = codes "PtrRange"
trap_name PtrCompare = codes "PtrCompare"
trap_name Depth = codes "Depth"
trap_name NoReturn = codes "NoReturn"
