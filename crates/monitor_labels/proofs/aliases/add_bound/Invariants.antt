use Rattle.std.proofs.Common.{◌≡◌, ◌++◌, drop, map}
use Rattle.monitor_labels.specs.Nodes.{of_global, slot_of}
use Rattle.monitor_labels.specs.Scopes.{program_of}
use Rattle.monitor_labels.proofs.aliases.add_bound.Given as goal

-- the slots so far, and then those of the globals that are left
abbrev pub invariant-loop-bind : goal.invariant-loop-bind
invariant-loop-bind l =
    l.slots.items ++ map (λ n. slot_of (program_of l.scope) n) (map (λ b. of_global b.global.0) (drop l.bind-index l.binds))
    ≡ l.fn.slots.items ++ map (λ n. slot_of (program_of l.scope) n) (map (λ b. of_global b.global.0) l.entry.shared)
