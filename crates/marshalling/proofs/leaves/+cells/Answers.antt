use Rattle.std.proofs.Common.{◌≡◌, ◌<◌, ◌+◌, ◌*◌, ◌++◌, ◌∙◌, ap, suc, arith}
use Rattle.marshalling.specs.Leaves.{leaves_of}
use Rattle.marshalling.proofs.LeafLemmas.{element_more, field_more, field_object, int_cells, known_struct, rank, struct_starts}
use Rattle.marshalling.proofs.leaves.+cells.Goals as goal

pub add_element-loop-field-init : goal.add_element-loop-field-init
add_element-loop-field-init t c =
    struct_starts c.args.structs.now c.args.marked c.in-Struct.number c.args.elem c.index-structs-number.result _ c.args.leaves.now.items
    c.requires.earlier
    (known_struct _ c.in-Struct.number c.args.elem c.requires.known c.in-Struct.is) c.index-structs-number.is c.in-Struct.is
    c.as_slice-field-items.ensures

pub add_element-add_object-requires : goal.add_element-add_object-requires
add_element-add_object-requires t c =
    let below = known_struct _ c.in-Struct.number c.args.elem c.requires.known c.in-Struct.is in
    let deep : rank c.args.elem ≡ suc c.in-Struct.number = ap rank c.in-Struct.is in
    let less : 2 * c.in-Struct.number + 1 < t = omega (arith, deep, c.decreases) in
    let object = field_object c.args.structs.now c.in-Struct.number c.index-structs-number.result _ c.loop-field.field-index c.field-item.result
    c.requires.earlier below c.index-structs-number.is
    c.as_slice-field-items.ensures c.loop-field-test.true c.field-item.is in
    (less, (below, (object, c.requires.earlier)))

pub add_element-loop-field-preserved : goal.add_element-loop-field-preserved
add_element-loop-field-preserved t c =
    field_more c.args.structs.now c.args.marked _ c.loop-field.field-index c.field-item.result c.is_secret-secret.result
    c.loop-field.leaves.items _ _ c.loop-field-test.true c.field-item.is
    c.loop-field.invariant c.is_secret-secret.ensures c.in_ok-add_object-in-Struct.ensures

pub add_element-returns-in_ok-push-in-Int : goal.add_element-returns-in_ok-push-in-Int
add_element-returns-in_ok-push-in-Int t c =
    c.in_ok-push-in-Int.ensures.items
    ∙ ap (λ xs. c.args.leaves.now.items ++ xs) (int_cells c.args.structs.now c.args.marked c.in-Int.ty c.args.elem c.in-Int.is)

pub add_object-loop-preserved : goal.add_object-loop-preserved
add_object-loop-preserved t c =
    element_more c.args.marked (leaves_of c.args.structs.now c.in-Array.elem) c.in-Array.count c.loop.counter c.loop.leaves.items _ _
    c.loop-test.true c.loop.invariant c.in_ok-add_element-in-Array.ensures
