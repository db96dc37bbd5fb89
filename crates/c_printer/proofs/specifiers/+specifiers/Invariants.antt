use Rattle.std.proofs.Common.{◌≡◌, drop, map}
use Rattle.pt_tree.specs.SpecifierTree.{view_specs, view_field, field_trees}
use Rattle.c_printer.specs.Gaps.{view_gap}
use Rattle.c_printer.specs.Sheets.{lay}
use Rattle.c_printer.specs.Specifiers as words
use Rattle.c_printer.proofs.specifiers.+specifiers.Given as goal

abbrev pub invariant-specifiers-loop-spec : goal.invariant-specifiers-loop-spec
invariant-specifiers-loop-spec l =
    lay (words.specifiers (view_specs (drop l.spec-index l.specs)) (view_gap l.gap)) l.sheet ≡ lay (words.specifiers (view_specs l.fn.specs) (view_gap l.fn.gap)) l.fn.sheet

abbrev pub invariant-each_field-loop-f : goal.invariant-each_field-loop-f
invariant-each_field-loop-f l =
    lay (words.more_fields (field_trees (map view_field (drop l.f-index l.fields)))) l.sheet ≡ lay (words.more_fields (field_trees (map view_field l.fn.fields))) l.fn.sheet
