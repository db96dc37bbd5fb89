use Rattle.std.proofs.Common.{◌++◌, [], ap, append-nil, sym, ◌∙◌}
use Rattle.std.specs.Prelude.{unwrap_or}
use Rattle.std.proofs.lemmas.Bool.{ltb-false}
use Rattle.std.proofs.lemmas.Option.{slice_get_past}
use Rattle.core_machine.proofs.leaves.add_struct.Goals as goal

pub returns-in-None : goal.returns-in-None
returns-in-None c =
    sym (ap (λ o. c.args.leaves.now.items ++ unwrap_or o []) (slice_get_past c.args.known.now c.args.n (ltb-false _ _ (sym c.in-None.ensures.lookup.0))) ∙ append-nil c.args.leaves.now.items)
