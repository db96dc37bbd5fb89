use Rattle.std.proofs.Common.{arith, ◌≡◌, ◌∙◌, map}
use Rattle.std.proofs.lemmas.Grind.{common_steps}
use Rattle.pt_tree.specs.ProgramTree.{view_item}
use Rattle.check_programs.specs.MarkTables.{marks_in, with_items, nothing_known}
use Rattle.check_programs.proofs.MarkTableLemmas.{all_items}
use Rattle.check_programs.proofs.mark_table.mark_table.Goals as goal

pub returns : goal.returns
returns c =
    let whole : marks_in c.loop-item.table.entries ≡ with_items nothing_known (map view_item c.args.items.now) = grind (arith, common_steps) in
    whole ∙ all_items (map view_item c.args.items.now)
