use Rattle.std.proofs.Common.{IsSome, sym, subst}
use Rattle.typed_tree.specs.TypedView.{view_typed}
use Rattle.original.proofs.MachineRunEndLemmas.{main_is_there}
use Rattle.original.proofs.machine_run.lowered.main_of.Goals as goal

pub unwrap-requires : goal.unwrap-requires
unwrap-requires c = subst IsSome (sym c.function_of.ensures.is) (main_is_there (view_typed c.args.program.now) c.args.program.now.well_formed)
