use Rattle.std.proofs.Common.{◌≡◌, drop}
use Rattle.std.specs.List.{flat_map}
use Rattle.typed_tree.specs.TypedView.{view_typed}
use Rattle.sides.specs.Marking as marking
use Rattle.sides.specs.Outs.{Remembers}
use Rattle.sides.specs.Seeds.{sealed_in}
use Rattle.reach.specs.Tables.{set_all}
use Rattle.sides.proofs.seeds.seed_table.Given as goal

abbrev pub invariant-loop-f : goal.invariant-loop-f
invariant-loop-f l = record {
  table : set_all l.table.items (flat_map (sealed_in (view_typed l.t)) (drop l.f-index l.functions)) ≡ marking.seed_table (view_typed l.fn.t) l.fn.in_slave l.fn.owned l.fn.slots l.fn.functions;
  seen : Remembers l.slots l.table.items l.seen.keys;
}
