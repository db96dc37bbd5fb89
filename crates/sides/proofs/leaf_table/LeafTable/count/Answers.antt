use Rattle.std.proofs.Common.{◌∙◌, ap}
use Rattle.sides.specs.LeafTables.{type_count}
use Rattle.sides.proofs.LeafLemmas.{counts_alike}
use Rattle.sides.proofs.leaf_table.LeafTable.count.Goals as goal

pub returns : goal.returns
returns c = λ structs h.
    let alike = counts_alike structs c.args.self.now.counts.items h.counts in
    c.count_of.ensures ∙ ap (λ xs. type_count xs c.args.ty) c.as_slice.ensures.value ∙ (λ i. alike i c.args.ty)
