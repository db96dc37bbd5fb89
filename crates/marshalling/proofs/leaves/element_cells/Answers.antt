use Rattle.std.proofs.Common.{◌++◌, ◌∙◌, ap, false, map}
use Rattle.marshalling.specs.Leaves.{leaves_of, under}
use Rattle.marshalling.proofs.LeafLemmas.{under_none}
use Rattle.marshalling.proofs.leaves.element_cells.Goals as goal

pub returns : goal.returns
returns c =
    c.in_ok-add_element.ensures ∙ ap (λ xs. xs ++ map (under false) (leaves_of c.args.structs.now c.args.elem)) c.new-leaves.ensures.items
    ∙ under_none (leaves_of c.args.structs.now c.args.elem)
