use Rattle.std.proofs.Common.{◌≡◌, drop}
use Rattle.lowering.specs.Leaves.{leaf_places}
use Rattle.lowering.specs.Names.{code_in}
use Rattle.lowering.specs.Output.{output_of, next}
use Rattle.lowering.specs.Statements.{variable, items_in}
use Rattle.lowering.specs.Walks.{ways_left}
use Rattle.pt_core.specs.Types.{type_at}
use Rattle.c_lower.proofs.LeafLemmas.{ends}
use Rattle.c_lower.proofs.LoopLemmas.{Leads}
use Rattle.c_lower.proofs.items.store.Given as goal

-- what is stored so far, and then the other items in the places that are left, are all
abbrev pub invariant-loop-item : goal.invariant-loop-item
invariant-loop-item l =
    let code = code_in l.names in
    Leads (output_of l.lowering) (items_in code (ends l.span (variable code l.var.0) (ways_left code.scope.structs l.walk)) (drop l.item-index l.items) (next (output_of l.lowering)))
    (output_of l.fn.lowering) (items_in code (leaf_places code.scope.structs (type_at code.scope.variables l.var.0) l.span (variable code l.var.0)) l.items (next (output_of l.fn.lowering)))
