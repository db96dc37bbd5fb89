use Rattle.std.proofs.Common.{◌∙◌, ap}
use Rattle.marshalling.specs.Crossings.{crossing_of}
use Rattle.marshalling.specs.Packing.{packed_arguments}
use Rattle.marshalling.proofs.taking.plan_of.Goals as goal

pub returns-clause-ranges : goal.returns-clause-ranges
returns-clause-ranges c =
    c.in_ok-ranges.ensures
    ∙ ap (crossing_of c.args.structs.now c.args.params.now)
    (c.as_slice-2.ensures.value ∙ c.in_ok-sent.ensures ∙ ap (λ ns. packed_arguments ns c.args.params.now c.args.args.now)
    (c.as_slice.ensures.value ∙ c.in_ok-targets.ensures.names))
