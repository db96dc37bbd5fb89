use Rattle.std.proofs.Common.{◌≡◌, [], map, drop}
use Rattle.typed_tree.specs.StatementTree.{section_trees, view_section}
use Rattle.lowering.specs.Output.{output_of, added}
use Rattle.lowering.specs.Statements.{cases_from}
use Rattle.lowering.proofs.switches.choose_sections.Given as goal

-- what is made so far, and then the other cases, are all
abbrev pub invariant-loop-m : goal.invariant-loop-m
invariant-loop-m l =
    added (output_of l.lowering) (cases_from l.choosing.span l.choosing.ty l.choosing.value.0 l.m (section_trees (map view_section (drop l.m l.sections)))) []
    ≡ added (output_of l.fn.lowering) (cases_from l.choosing.span l.choosing.ty l.choosing.value.0 0 (section_trees (map view_section l.fn.sections))) []
