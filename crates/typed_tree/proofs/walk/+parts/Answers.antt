use Rattle.std.proofs.Common.{◌≡◌, ◌∙◌, ap, ◌∷◌, map}
use Rattle.typed_tree.specs.declared.part.Role.TheVariants.{Condition}
use Rattle.typed_tree.specs.Parts.{part_of, parts_of, section_parts}
use Rattle.typed_tree.specs.StatementTree.{view_body, section_trees, view_section}
use Rattle.typed_tree.proofs.Rows.{view_block, view_switch}
use Rattle.typed_tree.proofs.walk.+parts.Goals as goal

pub add_parts-returns-in-Block : goal.add_parts-returns-in-Block
add_parts-returns-in-Block t c =
    rw c.in-Block.is (rw (view_block c.in-Block.field-0 c.in-Block.statements) (rw c.deref.ensures.value at c.add_all.ensures))

pub add_parts-returns-in-Switch : goal.add_parts-returns-in-Switch
add_parts-returns-in-Switch t c =
    let ss = c.in-Switch.sections in
    let parts : parts_of (view_body c.args.body.now) ≡ part_of Condition c.in-Switch.on ∷ section_parts (section_trees (map view_section ss.items)) =
    ap (λ b. parts_of (view_body b)) c.in-Switch.is ∙ ap parts_of (view_switch c.in-Switch.field-0 c.in-Switch.on c.in-Switch.field-2 ss) in
    rw parts (rw c.deref-in-Switch.ensures.value at c.add_switch.ensures)
