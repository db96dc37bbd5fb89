use Rattle.std.proofs.Common.{◌∙◌, ap, sym}
use Rattle.std.specs.List.{flat_map}
use Rattle.typed_tree.specs.Cells.{leaves_of, repeated}
use Rattle.typed_tree.specs.declared.types.Field.{Field}
use Rattle.typed_tree.proofs.LeavesLemmas.{leaves_of_array, leaves_of_int, leaves_of_pointer}
use Rattle.boot_rules.specs.Walks.{past}
use Rattle.boot_rules.proofs.WalkLemmas.{item_goes, item_stops, part_goes, part_stops}
use Rattle.boot_rules.proofs.WholeLemmas.{struct_by_fields}
use Rattle.boot_rules.proofs.objects.+walk.Goals as goal

pub past_object-returns-in-Int : goal.past_object-returns-in-Int
past_object-returns-in-Int t c =
    let structs = c.args.candidate.now.boot.now.structs in
    c.past_integer.ensures ∙ ap (λ ts. past ts c.args.cells.now) (sym (leaves_of_int structs c.in-Int.t) ∙ ap (leaves_of structs) (sym c.in-Int.is))

pub past_object-returns-in-Pointer : goal.past_object-returns-in-Pointer
past_object-returns-in-Pointer t c =
    let structs = c.args.candidate.now.boot.now.structs in
    ap (λ ts. past ts c.args.cells.now) (sym (leaves_of_pointer structs c.in-Pointer.elem c.in-Pointer.fixed) ∙ ap (leaves_of structs) (sym c.in-Pointer.is))

pub past_object-returns-in-Array : goal.past_object-returns-in-Array
past_object-returns-in-Array t c =
    let structs = c.args.candidate.now.boot.now.structs in
    c.past_items.ensures
    ∙ ap (λ item. past (repeated c.in-Array.count (leaves_of structs item)) c.args.cells.now) c.type_of_elem.ensures
    ∙ ap (λ ts. past ts c.args.cells.now) (sym (leaves_of_array structs c.in-Array.elem c.in-Array.count) ∙ ap (leaves_of structs) (sym c.in-Array.is))

pub past_fields-loop-field-init : goal.past_fields-loop-field-init
past_fields-loop-field-init t c =
    let structs = c.args.candidate.now.boot.now.structs in
    ap (λ ts. past ts c.args.cells.now) (ap (flat_map (λ (f : Field). leaves_of structs f.ty)) c.fields_at-fields.ensures.is ∙ sym (struct_by_fields structs c.args.n c.args.candidate.now.sound))

pub past_fields-loop-field-preserved : goal.past_fields-loop-field-preserved
past_fields-loop-field-preserved t c =
    part_goes (λ (f : Field). leaves_of c.args.candidate.now.boot.now.structs f.ty) c.fields_at-fields.result.now c.loop-field.field-index c.field-item.result c.loop-field.rest.now c.in-Some.after.now _
    c.loop-field-test.true c.field-item.is (sym c.in-Some.ensures) c.loop-field.invariant

pub past_fields-returns-in-None : goal.past_fields-returns-in-None
past_fields-returns-in-None t c =
    sym (part_stops (λ (f : Field). leaves_of c.args.candidate.now.boot.now.structs f.ty) c.fields_at-fields.result.now c.loop-field.field-index c.field-item.result c.loop-field.rest.now _
    c.loop-field-test.true c.field-item.is (sym c.in-None.ensures) c.loop-field.invariant)

pub past_items-loop-preserved : goal.past_items-loop-preserved
past_items-loop-preserved t c =
    item_goes (leaves_of c.args.candidate.now.boot.now.structs c.args.item) c.args.count c.loop.counter c.loop.rest.now c.in-Some.after.now _ c.loop-test.true (sym c.in-Some.ensures) c.loop.invariant

pub past_items-returns-in-None : goal.past_items-returns-in-None
past_items-returns-in-None t c =
    sym (item_stops (leaves_of c.args.candidate.now.boot.now.structs c.args.item) c.args.count c.loop.counter c.loop.rest.now _ c.loop-test.true (sym c.in-None.ensures) c.loop.invariant)
