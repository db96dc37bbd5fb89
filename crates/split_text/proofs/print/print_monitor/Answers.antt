use Rattle.std.proofs.Common.{◌≡◌, ◌∙◌, IfOk, IsTrue, List, ap, refl, true, subst}
use Rattle.pt_tree.specs.ProgramTree.{ItemTree}
use Rattle.pt_core.specs.CodeTree.{view_monitor}
use Rattle.c_printer.specs.Items.{text_of}
use Rattle.c_printer.specs.Plain.{items_plain}
use Rattle.c_printer.specs.ReadsBack.{ReadsBack}
use Rattle.half_trees.specs.Halves.{half_tree, monitor_tree}
use Rattle.half_trees.specs.Views.{view_half}
use Rattle.split_text.specs.Texts.{monitor_heading}
use Rattle.split_text.proofs.ReadingBack.{answers_read_back}
use Rattle.split_text.proofs.print.print_monitor.Goals as goal

pub returns-clause-text : goal.returns-clause-text
unfolding monitor_tree
returns-clause-text c =
    let is = c.in_ok-half.ensures in
    subst (λ t. IfOk c.print_half.result (λ text. text.items ≡ text_of monitor_heading t)) (ap (λ m. half_tree m (view_half c.in_ok-half.half)) is.1 ∙ ap (half_tree true) is.0) c.print_half.ensures

pub returns-clause-reads_back : goal.returns-clause-reads_back
returns-clause-reads_back c = λ well.
    let tree : List ItemTree = monitor_tree (view_monitor c.args.program.now) in
    let plain : IsTrue (items_plain tree) = c.monitor_trees_are_plain.ensures (view_monitor c.args.program.now) well in
    let reads : ReadsBack (text_of monitor_heading tree) tree = c.what_is_printed_reads_back.ensures monitor_heading tree refl plain in
    answers_read_back c.print_half.result monitor_heading tree reads (returns-clause-text c)
