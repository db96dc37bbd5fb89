use Rattle.std.proofs.Common.{◌≡◌, ◌++◌, map, drop}
use Rattle.pt_core.specs.CodeTree.{view_global}
use Rattle.lowering.specs.Functions.{globals_from}
use Rattle.c_lower.proofs.program.globals.Given as goal

-- those so far, and then the others, are all of them
abbrev pub invariant-loop-global : goal.invariant-loop-global
invariant-loop-global l =
    map view_global l.all.items ++ globals_from l.number (drop l.global-index l.globals)
    ≡ globals_from 0 l.globals
