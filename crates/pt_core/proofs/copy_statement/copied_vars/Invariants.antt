use Rattle.std.proofs.Common.{◌≡◌, ◌++◌, drop}
use Rattle.pt_core.proofs.copy_statement.copied_vars.Given as goal

-- the copies so far, and then the others, are all of them
abbrev pub invariant-loop-var : goal.invariant-loop-var
invariant-loop-var l = l.copies.items ++ drop l.var-index l.vars ≡ l.vars
