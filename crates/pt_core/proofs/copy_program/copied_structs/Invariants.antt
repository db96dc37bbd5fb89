use Rattle.std.proofs.Common.{◌≡◌, ◌++◌, drop}
use Rattle.pt_core.proofs.copy_program.copied_structs.Given as goal

-- the copies so far, and then the others, are all of them
abbrev pub invariant-loop-info : goal.invariant-loop-info
invariant-loop-info l = l.copies.items ++ drop l.info-index l.structs ≡ l.structs
