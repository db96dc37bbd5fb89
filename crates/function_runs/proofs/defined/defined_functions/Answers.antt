use Rattle.typed_tree.specs.TypedView.{view_typed}
use Rattle.function_runs.proofs.DefinedLemmas.{all_defined}
use Rattle.function_runs.proofs.defined.defined_functions.Goals as goal

pub returns-clause-defined : goal.returns-clause-defined
returns-clause-defined c = rw c.in_ok-list.ensures (all_defined (view_typed c.args.t.now))
