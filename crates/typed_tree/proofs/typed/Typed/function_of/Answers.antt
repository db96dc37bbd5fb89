use Rattle.typed_tree.specs.TypedView.{view_typed}
use Rattle.typed_tree.proofs.NameLemmas.{named_is}
use Rattle.typed_tree.proofs.typed.Typed.function_of.Goals as goal

pub returns-clause-only : goal.returns-clause-only
returns-clause-only c = rw c.find.ensures (λ f. named_is (view_typed c.args.self.now) c.args.name.now f c.args.self.now.well_formed)
