use Rattle.std.proofs.Common.{◌≡◌, ◌∙◌, IfOk, IsTrue, List, ap, false, refl, subst}
use Rattle.pt_tree.specs.ProgramTree.{ItemTree}
use Rattle.pt_core.specs.CodeTree.{view_slave}
use Rattle.c_printer.specs.Items.{text_of}
use Rattle.c_printer.specs.Plain.{items_plain}
use Rattle.c_printer.specs.ReadsBack.{ReadsBack}
use Rattle.half_trees.specs.Halves.{half_tree, slave_tree}
use Rattle.half_trees.specs.Views.{view_half}
use Rattle.split_text.specs.Texts.{slave_heading}
use Rattle.split_text.proofs.ReadingBack.{answers_read_back}
use Rattle.split_text.proofs.print.print_slave.Goals as goal

pub returns-clause-text : goal.returns-clause-text
unfolding slave_tree
returns-clause-text c =
    let is = c.in_ok-half.ensures in
    subst (λ t. IfOk c.print_half.result (λ text. text.items ≡ text_of slave_heading t)) (ap (λ m. half_tree m (view_half c.in_ok-half.half)) is.1 ∙ ap (half_tree false) is.0) c.print_half.ensures

pub returns-clause-reads_back : goal.returns-clause-reads_back
returns-clause-reads_back c = λ well.
    let tree : List ItemTree = slave_tree (view_slave c.args.program.now) in
    let plain : IsTrue (items_plain tree) = c.slave_trees_are_plain.ensures (view_slave c.args.program.now) well in
    let reads : ReadsBack (text_of slave_heading tree) tree = c.what_is_printed_reads_back.ensures slave_heading tree refl plain in
    answers_read_back c.print_half.result slave_heading tree reads (returns-clause-text c)
