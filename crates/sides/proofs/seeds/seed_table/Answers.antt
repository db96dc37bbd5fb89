use Rattle.std.proofs.Common.{◌∙◌, arith, Bool, List, ap, get_or, length, subst, sym}
use Rattle.std.specs.List.{flat_map}
use Rattle.std.proofs.lemmas.List.{with_items_is}
use Rattle.pt_base.proofs.Places.{drop_step}
use Rattle.typed_tree.specs.TypedView.{view_typed}
use Rattle.sides.specs.Outs.{Remembers}
use Rattle.sides.specs.Seeds.{sealed_in}
use Rattle.reach.specs.Tables.{set_all}
use Rattle.sides.proofs.LastLemmas.{remembers_nothing}
use Rattle.reach.proofs.WalkLemmas.{item_on, kept_items, long_all}
use Rattle.sides.proofs.seeds.seed_table.Goals as goal

pub loop-f-init : goal.loop-f-init
loop-f-init c = record {
  table = ap (λ xs. set_all xs (flat_map (sealed_in (view_typed c.args.t.now)) c.args.functions.now)) c.in_ok-table.ensures;
  seen = remembers_nothing c.args.slots.now c.in_ok-table.table.items c.new-seen.result.keys (grind arith);
}

pub loop-f-preserved : goal.loop-f-preserved
loop-f-preserved c =
    let long = ap length c.in_ok-add_body.ensures.table ∙ long_all c.deref_mut.result.now (sealed_in (view_typed c.args.t.now) (get_or c.args.functions.now c.loop-f.f-index (record { 0 = 0 }))) ∙ c.deref_mut.ensures.len in
    record {
      table = item_on (sealed_in (view_typed c.args.t.now)) _ _ _ _ _ _ (drop_step c.args.functions.now c.loop-f.f-index (record { 0 = 0 }) c.loop-f-test.true)
          (kept_items c.loop-f.table _ _ (sealed_in (view_typed c.args.t.now) (get_or c.args.functions.now c.loop-f.f-index (record { 0 = 0 }))) c.in_ok-add_body.ensures.table c.deref_mut.ensures.value c.deref_mut.ensures.len) c.loop-f.invariant.table;
      seen = subst (λ (xs : List Bool). Remembers c.args.slots.now xs c.add_body.new.seen.keys) (sym (with_items_is c.loop-f.table c.add_body.new.table long)) c.in_ok-add_body.ensures.seen;
    }
