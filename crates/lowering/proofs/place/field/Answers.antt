use Rattle.lowering.specs.Names.{scope_of}
use Rattle.lowering.proofs.PieceLemmas.{field_is}
use Rattle.lowering.proofs.place.field.Goals as goal

pub returns : goal.returns
returns c = λ low h. field_is (scope_of c.args.names.now) _ _ low _ _ h c.in_ok-with_field.ensures c.field_type-ty.ensures
