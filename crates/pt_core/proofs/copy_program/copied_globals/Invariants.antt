use Rattle.std.proofs.Common.{◌≡◌, ◌++◌, drop, map}
use Rattle.pt_core.specs.CodeTree.{view_global}
use Rattle.pt_core.proofs.copy_program.copied_globals.Given as goal

-- the copies so far, and then the others, are all of them
abbrev pub invariant-loop-global : goal.invariant-loop-global
invariant-loop-global l = map view_global l.copies.items ++ map view_global (drop l.global-index l.globals) ≡ map view_global l.globals
