use Rattle.std.proofs.Common.{◌≡◌, ◌≤◌, length, reverse, take}
use Rattle.check_expressions.specs.Environment.{find_through, find}
use Rattle.check_expressions.specs.EnvOf.{env_of}
use Rattle.check_expressions.proofs.names.Names.find.Given as goal

abbrev pub invariant-loop-depth : goal.invariant-loop-depth
invariant-loop-depth l = record {
  within : l.depth ≤ length l.self.scopes.items;
  rest : find_through (reverse (take l.depth l.self.scopes.items)) l.self.file l.name ≡ find (env_of l.self) l.name;
}

abbrev pub decreases-loop-depth : goal.decreases-loop-depth
decreases-loop-depth l = l.depth
