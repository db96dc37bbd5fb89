use Rattle.typed_tree.specs.TypedView.{view_typed}
use Rattle.typed_tree.proofs.NumberLemmas.{parts_known}
use Rattle.typed_tree.proofs.typed.Typed.parts.Goals as goal

pub returns-clause-known : goal.returns-clause-known
returns-clause-known c =
    let t = view_typed c.args.self.now in
    rw c.in_ok-parts.ensures (parts_known t c.args.f c.args.self.now.well_formed)
