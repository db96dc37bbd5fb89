use Rattle.std.specs.Int.{w128}
use Rattle.std.proofs.Common.{FitsSigned}
use Rattle.std.proofs.lemmas.Int.{to_z-of_z}
use Rattle.std.proofs.lemmas.List.Elements.{All-push}
use Rattle.pt_base.specs.IntTypes.{InRange}
use Rattle.handle_store.proofs.store.Store.add.Goals as goal

pub invariant_of-self-2 : goal.invariant_of-self-2
invariant_of-self-2 c =
    let fits : FitsSigned w128 c.args.v = c.ranges.v in
    rw c.in_ok-push.ensures.items (simp to_z-of_z (All-push (λ entry. InRange entry.0 entry.1) _ _ c.self.invariant c.requires))
