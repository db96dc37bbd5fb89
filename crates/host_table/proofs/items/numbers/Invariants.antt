use Rattle.std.proofs.Common.{◌≡◌, ◌++◌, drop, map, option_map}
use Rattle.serde_json.specs.View.{view}
use Rattle.host_table.specs.Entries.{each, number_in}
use Rattle.host_table.proofs.items.numbers.Given as goal

abbrev pub invariant-loop-item : goal.invariant-loop-item
invariant-loop-item l =
    each number_in (map view l.list) ≡ option_map (λ rest. l.numbers.items ++ rest) (each number_in (map view (drop l.item-index l.list)))
