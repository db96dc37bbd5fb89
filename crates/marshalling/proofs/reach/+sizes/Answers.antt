use Rattle.std.proofs.Common.{◌≡◌, ◌<◌, ◌+◌, ◌*◌, ◌∙◌, ap, suc, sym, arith}
use Rattle.marshalling.specs.Shape.{up_to}
use Rattle.marshalling.proofs.LeafLemmas.{field_object, known_struct, rank}
use Rattle.marshalling.proofs.ReachLemmas.{int_size, several_elements, size_fails, size_more, size_starts}
use Rattle.marshalling.proofs.reach.+sizes.Goals as goal

pub element_size-loop-field-init : goal.element_size-loop-field-init
element_size-loop-field-init t c = (
  size_starts c.args.structs.now c.in-Struct.number c.args.elem c.index-structs-number.result _ c.requires.earlier
      (known_struct _ c.in-Struct.number c.args.elem c.requires.known c.in-Struct.is) c.index-structs-number.is c.in-Struct.is
      c.as_slice-field-items.ensures,
  omega arith,
)

pub element_size-object_size-requires : goal.element_size-object_size-requires
element_size-object_size-requires t c =
    let below = known_struct _ c.in-Struct.number c.args.elem c.requires.known c.in-Struct.is in
    let deep : rank c.args.elem ≡ suc c.in-Struct.number = ap rank c.in-Struct.is in
    let less : 2 * c.in-Struct.number + 1 < t = omega (arith, deep, c.decreases) in
    let object = field_object c.args.structs.now c.in-Struct.number c.index-structs-number.result _ c.loop-field.field-index c.field-item.result
    c.requires.earlier below c.index-structs-number.is
    c.as_slice-field-items.ensures c.loop-field-test.true c.field-item.is in
    (less, (below, (object, c.requires.earlier)))

pub element_size-loop-field-preserved : goal.element_size-loop-field-preserved
element_size-loop-field-preserved t c =
    size_more c.args.structs.now _ c.loop-field.field-index c.field-item.result c.loop-field.size c.in-Some.more c.args.most _
    c.loop-field-test.true c.field-item.is c.loop-field.invariant.1 c.in-Some.ensures c.loop-field.invariant.0

pub element_size-returns-in-None : goal.element_size-returns-in-None
element_size-returns-in-None t c =
    size_fails c.args.structs.now _ c.loop-field.field-index c.field-item.result c.loop-field.size c.args.most _
    c.loop-field-test.true c.field-item.is c.loop-field.invariant.1 c.in-None.ensures c.loop-field.invariant.0

pub element_size-returns-in-Int : goal.element_size-returns-in-Int
element_size-returns-in-Int t c =
    c.at_most.ensures ∙ ap (up_to c.args.most) (sym (int_size c.args.structs.now c.in-Int.field-0 c.args.elem c.in-Int.is))

pub object_size-returns-in-Some : goal.object_size-returns-in-Some
object_size-returns-in-Some t c =
    several_elements c.args.structs.now c.args.most c.in-Array.elem c.in-Array.count c.in-Some.size c.args.ty c.several.result c.in-Array.is
    c.in-Some.ensures c.several.ensures
