use Rattle.std.proofs.Common.{◌≡◌, ◌+◌, map, drop}
use Rattle.std.specs.Prelude.{option_map}
use Rattle.typed_tree.specs.StatementTree.{section_trees, view_section}
use Rattle.source_meaning.specs.Statements as meaning
use Rattle.lowering.proofs.switches.default_place.Given as goal

abbrev pub invariant-loop-m : goal.invariant-loop-m
invariant-loop-m l =
    option_map (λ k. l.m + k) (meaning.section_with meaning.is_default (section_trees (map view_section (drop l.m l.sections))))
    ≡ meaning.section_with meaning.is_default (section_trees (map view_section l.fn.sections))
