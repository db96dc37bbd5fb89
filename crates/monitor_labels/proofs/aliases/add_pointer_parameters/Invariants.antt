use Rattle.std.proofs.Common.{◌≡◌, ◌++◌, drop, map}
use Rattle.monitor_labels.specs.Arrows.{is_pointer, pointer_parameters}
use Rattle.monitor_labels.specs.Nodes.{slot_of}
use Rattle.monitor_labels.specs.Scopes.{function_of, program_of}
use Rattle.monitor_labels.specs.Seeds.{variables_with}
use Rattle.monitor_labels.proofs.aliases.add_pointer_parameters.Given as goal

-- the slots so far, and then those of the variables that are left
abbrev pub invariant-loop-var : goal.invariant-loop-var
invariant-loop-var l =
    l.slots.items ++ map (λ n. slot_of (program_of l.scope) n) (variables_with is_pointer (function_of l.scope).id l.number (drop l.var-index l.vars))
    ≡ l.fn.slots.items ++ map (λ n. slot_of (program_of l.scope) n) (pointer_parameters (function_of l.scope))
