use Rattle.std.proofs.Common.{◌∙◌, ◌++◌, Bool, ap}
use Rattle.pt_tree.specs.declared.signature.Elem.{Elem}
use Rattle.pt_core.specs.CodeTree.{view_monitor, view_slave}
use Rattle.typed_tree.specs.TypedView.{view_typed}
use Rattle.outlining.specs.EntryTexts.{has_marked_field}
use Rattle.outlining.specs.OutlineTexts.{monitor_part, slave_part}
use Rattle.outlining.specs.StructCells.{cells_of}
use Rattle.outlining.proofs.AppendLemmas.{two_parts}
use Rattle.outlining.proofs.StructCellLemmas.{marked_alike}
use Rattle.outlining.proofs.halves.push_halves.Goals as goal

pub returns : goal.returns
returns c =
    let t = view_typed c.args.t.now in
    let slave = view_slave c.args.slave.now in
    let monitor = view_monitor c.args.monitor.now in
    let alike = marked_alike t.structs _ (c.as_slice-cells.ensures.value ∙ c.in_ok-known.ensures ∙ ap cells_of c.as_slice-structs.ensures) in
    two_parts c.args.text.now.items (slave_part t slave) (monitor_part (has_marked_field t.structs) t monitor) _ _ c.in_ok-push_slave.ensures
    (c.in_ok-push_monitor.ensures ∙ ap (λ (marked : Elem → Bool). c.push_slave.new.text.items ++ monitor_part marked t monitor) alike)
