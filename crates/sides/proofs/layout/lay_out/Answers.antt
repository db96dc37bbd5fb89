use Rattle.std.proofs.Common.{◌≡◌, ◌∙◌, ◌++◌, ap, arith, length, map, sym}
use Rattle.typed_tree.specs.TypedTree.{view_function}
use Rattle.typed_tree.specs.TypedView.{view_typed}
use Rattle.sides.specs.Slots.{results_slots}
use Rattle.sides.proofs.LayoutLemmas.{Steps, layout_is, slots_are}
use Rattle.sides.proofs.RoomLemmas.{slots_few}
use Rattle.sides.proofs.layout.lay_out.Goals as goal

pub returns-clause-layout : goal.returns-clause-layout
returns-clause-layout c =
    let steps : Steps (view_typed c.args.t.now) c.as_slice-structs.result.now c.as_slice.result.now (map view_function c.deref.result.now) c.new-slots.result.items c.add_globals.new.slots.items c.add_functions.new.slots.items = record {
      structs_are = c.as_slice-structs.ensures;
      globals_are = c.as_slice.ensures;
      functions_are = ap (map view_function) c.deref.ensures.value;
      none = c.new-slots.ensures.items;
      first = c.in_ok-globals.ensures.slots;
      second = c.in_ok-variables.ensures.slots;
    } in
    let results : c.len-results.result ≡ length c.add_functions.new.slots.items = omega (arith, c.len-results.ensures, c.add_functions.new.slots.ok.0) in
    layout_is (view_typed c.args.t.now) _ _ _ _ _ _ steps _ c.in_ok-table.ensures c.in_ok-globals.ensures.objects c.in_ok-variables.ensures.objects results

pub returns-clause-slots : goal.returns-clause-slots
returns-clause-slots c =
    let steps : Steps (view_typed c.args.t.now) c.as_slice-structs.result.now c.as_slice.result.now (map view_function c.deref.result.now) c.new-slots.result.items c.add_globals.new.slots.items c.add_functions.new.slots.items = record {
      structs_are = c.as_slice-structs.ensures;
      globals_are = c.as_slice.ensures;
      functions_are = ap (map view_function) c.deref.ensures.value;
      none = c.new-slots.ensures.items;
      first = c.in_ok-globals.ensures.slots;
      second = c.in_ok-variables.ensures.slots;
    } in
    slots_are (view_typed c.args.t.now) _ _ _ _ _ _ steps _ (c.in_ok-add_results.ensures ∙ ap (λ xs. c.add_functions.new.slots.items ++ results_slots 0 (map view_function xs)) (c.deref-2.ensures.value ∙ sym c.deref.ensures.value))

pub returns-clause-few : goal.returns-clause-few
returns-clause-few c =
    let steps : Steps (view_typed c.args.t.now) c.as_slice-structs.result.now c.as_slice.result.now (map view_function c.deref.result.now) c.new-slots.result.items c.add_globals.new.slots.items c.add_functions.new.slots.items = record {
      structs_are = c.as_slice-structs.ensures;
      globals_are = c.as_slice.ensures;
      functions_are = ap (map view_function) c.deref.ensures.value;
      none = c.new-slots.ensures.items;
      first = c.in_ok-globals.ensures.slots;
      second = c.in_ok-variables.ensures.slots;
    } in
    slots_few (view_typed c.args.t.now) _ (slots_are (view_typed c.args.t.now) _ _ _ _ _ _ steps _ (c.in_ok-add_results.ensures ∙ ap (λ xs. c.add_functions.new.slots.items ++ results_slots 0 (map view_function xs)) (c.deref-2.ensures.value ∙ sym c.deref.ensures.value))) c.in_ok-room_for_slots.ensures
