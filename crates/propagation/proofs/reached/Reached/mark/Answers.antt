use Rattle.std.proofs.Common.{◌∙◌, ap, sym, List, Bool, true, slice_set}
use Rattle.std.proofs.lemmas.List.{map-set}
use Rattle.std.specs.Prelude.{is_some}
use Rattle.propagation.proofs.reached.Reached.mark.Goals as goal

pub invariant_of-self-then-not-index-clause-agreed : goal.invariant_of-self-then-not-index-clause-agreed
invariant_of-self-then-not-index-clause-agreed c = ap (λ (xs : List Bool). slice_set xs c.args.slot.0 true) c.args.self.now.agreed ∙ sym (map-set is_some c.args.self.now.places.items c.args.slot.0 _)
