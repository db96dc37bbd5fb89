use Rattle.pt_core.specs.CodeTree.{view_place}
use Rattle.lowering.specs.Names.{code_in}
use Rattle.lowering.specs.Output.{output_of}
use Rattle.lowering.proofs.OutputLemmas.{also}
use Rattle.c_lower.proofs.LeafLemmas.{item_is}
use Rattle.c_lower.proofs.items.store_item.Goals as goal

pub returns : goal.returns
returns c = also _ _ _ (λ e. item_is (code_in c.args.names.now) (view_place c.args.place) c.args.item.now (output_of c.args.lowering.now) _ _ _ c.in_ok-value.ensures e) c.add.ensures
