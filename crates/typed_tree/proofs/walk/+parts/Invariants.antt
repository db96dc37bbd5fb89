use Rattle.std.proofs.Common.{◌≡◌, ◌++◌, ◌∷◌, map, drop}
use Rattle.typed_tree.specs.StatementTree.{view_body, view_section, body_trees, section_trees}
use Rattle.typed_tree.specs.declared.part.Role.TheVariants.{Condition}
use Rattle.typed_tree.specs.Parts.{part_of, all_parts, section_parts}
use Rattle.typed_tree.proofs.walk.+parts.Given as goal

-- what is so far, and then the parts of the rest, is all
abbrev pub invariant-add_all-loop-statement : goal.invariant-add_all-loop-statement
invariant-add_all-loop-statement l =
    l.parts.items ++ all_parts (body_trees (map view_body (drop l.statement-index l.statements)))
    ≡ l.fn.parts.items ++ all_parts (body_trees (map view_body l.fn.statements))

abbrev pub invariant-add_switch-loop-section : goal.invariant-add_switch-loop-section
invariant-add_switch-loop-section l =
    l.parts.items ++ section_parts (section_trees (map view_section (drop l.section-index l.sections)))
    ≡ l.fn.parts.items ++ part_of Condition l.fn.on ∷ section_parts (section_trees (map view_section l.fn.sections))
