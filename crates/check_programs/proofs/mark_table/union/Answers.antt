use Rattle.std.proofs.Common.{arith, ◌≡◌, ◌∙◌, map}
use Rattle.std.proofs.lemmas.Grind.{common_steps}
use Rattle.pt_tree.specs.ProgramTree.{view_param}
use Rattle.check_programs.specs.MarkTables.{with_marks_from}
use Rattle.check_programs.specs.Unions.{params_marks}
use Rattle.check_programs.proofs.MarkTableLemmas.{position_by_position}
use Rattle.check_programs.proofs.mark_table.union.Goals as goal

pub returns : goal.returns
returns c =
    let whole : c.loop-position.marks.items ≡ with_marks_from c.args.known.items 0 (params_marks (map view_param c.args.params.now)) = grind (arith, common_steps) in
    whole ∙ position_by_position c.args.known.items (params_marks (map view_param c.args.params.now))
