use Rattle.std.proofs.Common.{◌≡◌, ◌++◌, drop}
use Rattle.typed_tree.specs.Parts.{declaration_parts}
use Rattle.typed_tree.proofs.walk.add_declaration.Given as goal

abbrev pub invariant-loop-declarator : goal.invariant-loop-declarator
invariant-loop-declarator l =
    l.parts.items ++ declaration_parts (drop l.declarator-index l.declarators)
    ≡ l.fn.parts.items ++ declaration_parts l.fn.declarators
