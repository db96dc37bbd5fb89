use Rattle.std.proofs.Common.{arith, subst}
use Rattle.std.proofs.lemmas.List.{length-map}
use Rattle.typed_tree.proofs.WellFormedLemmas.{facts_of, functions_few}
use Rattle.typed_tree.specs.TypedTree.{view_function}
use Rattle.typed_tree.specs.TypedView.{view_typed}
use Rattle.host_table.specs.Found.{signatures_in}
use Rattle.host_table.proofs.ProgramLemmas.{same_signatures, short_at}
use Rattle.host_table.proofs.WholeLemmas.{HaveShortNames, readings_have}
use Rattle.host_table.proofs.reading.read_host.Goals as goal

pub host_of-requires : goal.host_of-requires
host_of-requires c =
    rw c.as_slice.ensures.value (grind (arith, functions_few (view_typed c.args.t.now) c.args.t.now.well_formed, length-map c.args.t.now.functions.items view_function))

pub returns-clause-reading : goal.returns-clause-reading
returns-clause-reading c =
    rw (same_signatures c.args.t.now.functions.items, ← c.as_slice.ensures.value) c.host_of.ensures

pub returns-clause-hosts : goal.returns-clause-hosts
returns-clause-hosts c =
    let names : HaveShortNames (signatures_in c.args.t.now.functions.items)
    = subst HaveShortNames (same_signatures c.args.t.now.functions.items) (λ f s at. short_at (view_typed c.args.t.now).functions f s (facts_of (view_typed c.args.t.now) c.args.t.now.well_formed).short at) in
    rw (same_signatures c.args.t.now.functions.items, ← c.as_slice.ensures.value)
    (readings_have c.args.text.now (signatures_in c.as_slice.result.now) c.host_of.result (rw c.as_slice.ensures.value names) c.host_of.ensures)
