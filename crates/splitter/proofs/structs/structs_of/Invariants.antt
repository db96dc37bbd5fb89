use Rattle.std.proofs.Common.{◌≡◌, ◌++◌, drop}
use Rattle.splitter.proofs.structs.structs_of.Given as goal

-- the copies so far, and then the others, are all of them
abbrev pub invariant-loop-info : goal.invariant-loop-info
invariant-loop-info l = l.all.items ++ drop l.info-index l.structs ≡ l.structs
