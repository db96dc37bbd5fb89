use Rattle.std.proofs.Common.{◌≡◌, ◌∙◌, ◌∷◌, ◌++◌, [], add-one, ap, arith, length, map, sym, vec_len}
use Rattle.std.proofs.lemmas.List.{drop_all}
use Rattle.pt_base.proofs.Places.{drop_step_at}
use Rattle.sides.specs.Leaves.{fields_leaves}
use Rattle.sides.specs.LeafTables.{leaves_below, named_leaves, slot_behind}
use Rattle.sides.proofs.LeafLemmas.{field_behind, none_behind, fields_done, popped}
use Rattle.sides.proofs.leaves.+add_behind.Goals as goal

pub returns-then-inner-bound-clause-slots : goal.returns-then-inner-bound-clause-slots
returns-then-inner-bound-clause-slots t c = none_behind c.args.structs.now c.args.owner c.args.path.now.items c.args.marked c.in-Some.n c.args.bound c.args.of c.args.slots.now.items c.in-Some.is (omega arith)

pub loop-field-preserved : goal.loop-field-preserved
loop-field-preserved t c =
    let split = drop_step_at c.fields_of-fields.result.now c.loop-field.field-index c.field-item.result c.loop-field-test.true c.field-item.is in
    let pushed = c.in_ok-push.ensures.items ∙ ap (λ xs. xs ++ c.loop-field.number ∷ []) c.loop-field.invariant.path in
    let under = c.is_under-under.ensures in
    let of = c.struct_of.ensures in
    let long : vec_len c.add_behind.new.path ≡ length c.add_behind.new.path.items = omega (arith, c.add_behind.new.path.ok.0) in
    record {
      path = popped c.args.path.now.items c.add_behind.new.path.items c.pop.new.self.items c.loop-field.number (vec_len c.add_behind.new.path) (c.in_ok-add_behind.ensures.path ∙ pushed) long c.pop.ensures.rest;
      slots = rw (c.in_ok-number.ensures, add-one) (field_behind c.args.owner c.args.path.now.items c.args.marked (leaves_below c.args.structs.now c.in-Some.n) c.loop-field.number c.field-item.result _ c.loop-field.slots.items _ _
          (c.in_ok-add_behind.ensures.slots ∙ (λ i. c.loop-field.slots.items ++ map (slot_behind c.args.owner (pushed i) (under i)) (named_leaves (leaves_below c.args.structs.now c.in-Some.n) (of i))))
          (ap (λ fs. c.loop-field.slots.items ++ map (slot_behind c.args.owner c.args.path.now.items c.args.marked) (fields_leaves (leaves_below c.args.structs.now c.in-Some.n) c.loop-field.number fs)) (sym split) ∙ c.loop-field.invariant.slots));
    }

pub returns-clause-slots : goal.returns-clause-slots
returns-clause-slots t c =
    fields_done c.args.structs.now c.args.owner c.args.path.now.items c.args.marked c.in-Some.n c.args.bound c.loop-field.number c.args.of _ _ c.args.slots.now.items _ c.in-Some.is (omega arith) c.fields_of-fields.ensures
    (drop_all c.loop-field.field-index c.fields_of-fields.result.now c.loop-field-test.false) c.loop-field.invariant.slots
