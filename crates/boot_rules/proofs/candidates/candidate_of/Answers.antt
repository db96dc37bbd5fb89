use Rattle.std.proofs.Common.{◌∙◌, [], ap, sym}
use Rattle.pt_core.specs.CodeTree.{view_boot}
use Rattle.boot_rules.specs.Shapes.{shapes_from}
use Rattle.boot_rules.proofs.TestLemmas.{not_earlier, not_small, out_of_order, sound_by}
use Rattle.boot_rules.proofs.candidates.candidate_of.Goals as goal

pub returns-then-not-is_in_order : goal.returns-then-not-is_in_order
returns-then-not-is_in_order c = out_of_order (view_boot c.args.boot.now) (sym c.is_in_order.ensures ∙ c.if-not-is_in_order.true)

pub returns-then-not-all_name_earlier : goal.returns-then-not-all_name_earlier
returns-then-not-all_name_earlier c = not_earlier (view_boot c.args.boot.now) c.as_slice-structs.result.now c.as_slice-structs.ensures (sym c.all_name_earlier.ensures ∙ c.if-not-all_name_earlier.true)

pub returns-then-not-have_small_fields : goal.returns-then-not-have_small_fields
returns-then-not-have_small_fields c =
    not_small (view_boot c.args.boot.now) c.as_slice-structs.result.now c.as_slice.result.now c.as_slice-structs.ensures (c.as_slice.ensures.value ∙ c.in_ok-shapes.ensures)
    (sym c.have_small_fields.ensures ∙ c.if-not-have_small_fields.true)

pub invariant_of-result : goal.invariant_of-result
invariant_of-result c =
    record {
      in_order = sym c.is_in_order.ensures ∙ c.if-not-is_in_order.false;
      sound = sound_by (view_boot c.args.boot.now) c.as_slice-structs.result.now c.as_slice.result.now c.as_slice-structs.ensures (c.as_slice.ensures.value ∙ c.in_ok-shapes.ensures)
          (sym c.all_name_earlier.ensures ∙ c.if-not-all_name_earlier.false) (sym c.have_small_fields.ensures ∙ c.if-not-have_small_fields.false);
      known = c.in_ok-shapes.ensures ∙ ap (shapes_from []) c.as_slice-structs.ensures;
    }
