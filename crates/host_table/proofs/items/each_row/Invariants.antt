use Rattle.std.proofs.Common.{◌≡◌, ◌++◌, drop, map, option_map}
use Rattle.serde_json.specs.View.{view}
use Rattle.host_table.specs.Entries.{each, row_in}
use Rattle.host_table.proofs.items.each_row.Given as goal

abbrev pub invariant-loop-value : goal.invariant-loop-value
invariant-loop-value l =
    each row_in (map view l.list) ≡ option_map (λ rest. l.rows.items ++ rest) (each row_in (map view (drop l.value-index l.list)))
