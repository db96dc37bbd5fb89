use Rattle.std.proofs.Common.{◌∙◌, ap, map, ℕ}
use Rattle.typed_tree.specs.declared.types.VarTy.{VarTy}
use Rattle.sides.specs.Leaves.{field_starts}
use Rattle.sides.proofs.LeafLemmas.{counts_alike}
use Rattle.sides.proofs.leaf_table.LeafTable.new.Goals as goal

pub returns : goal.returns
returns c = record {
  counts = c.in_ok-counts.ensures;
  starts = c.in_ok-starts.ensures ∙ ap (λ (count : VarTy → ℕ). map (λ s. field_starts count 0 s.fields) c.args.structs.now) (counts_alike c.args.structs.now _ (c.as_slice.ensures.value ∙ c.in_ok-counts.ensures));
  cells = c.in_ok-cells.ensures;
}
