use Rattle.std.proofs.Common.{map}
use Rattle.typed_tree.specs.TypedView.{view_typed}
use Rattle.pt_core.specs.CodeTree.{view_function, view_global}
use Rattle.splitter.specs.Sets.{function_numbers}
use Rattle.splitter.proofs.ProgramLemmas.{monitor_joined}
use Rattle.splitter.proofs.halves.monitor_program.Goals as goal

pub returns : goal.returns
returns c =
    monitor_joined (view_typed c.args.t.now) c.args.called c.add_functions.new.set c.add_entries.new.set (function_numbers c.args.monitor.now) (map view_function c.args.functions.items) (map view_global c.args.globals) c.args.entries c.as_slice.result.now _ _
    c.in_ok-structs_of.ensures c.in_ok-signatures_in.ensures c.add_entries.ensures c.as_slice.ensures c.add_functions.ensures
