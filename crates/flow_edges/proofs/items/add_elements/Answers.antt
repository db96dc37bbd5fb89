use Rattle.std.proofs.Common.{arith}
use Rattle.flow_edges.specs.Items.{elem_items, struct_items}
use Rattle.flow_edges.proofs.PartLemmas.{elements_left, no_elements}
use Rattle.flow_edges.proofs.items.add_elements.Goals as goal

pub returns-then-count-eq0 : goal.returns-then-count-eq0
returns-then-count-eq0 c = λ structs zs long. no_elements structs c.args.parts.now.items zs (elem_items (struct_items structs c.args.depth) c.args.start c.args.elem) c.args.count (grind arith)

pub returns : goal.returns
returns c = λ structs zs long.
    elements_left structs _ _ _ zs c.args.elem _ c.args.count c.args.start c.args.depth c.args.from c.type_of_elem.ensures (grind arith) long c.in_ok-push.ensures.items c.in_ok-push-2.ensures.items
