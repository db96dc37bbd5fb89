use Rattle.std.proofs.Common.{◌≡◌, ◌++◌, map, drop}
use Rattle.typed_tree.specs.declared.part.Role.TheVariants.{Init}
use Rattle.typed_tree.specs.Parts.{part_of}
use Rattle.typed_tree.proofs.walk.add_items.Given as goal

abbrev pub invariant-loop-expr : goal.invariant-loop-expr
invariant-loop-expr l =
    l.parts.items ++ map (part_of (Init l.fn.var)) (drop l.expr-index l.items)
    ≡ l.fn.parts.items ++ map (part_of (Init l.fn.var)) l.fn.items
