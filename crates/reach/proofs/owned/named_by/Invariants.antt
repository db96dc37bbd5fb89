use Rattle.std.proofs.Common.{◌≡◌, drop}
use Rattle.std.specs.List.{flat_map}
use Rattle.typed_tree.specs.TypedView.{view_typed}
use Rattle.reach.specs.Owned.{global_numbers, owned_table}
use Rattle.reach.specs.Tables.{set_all}
use Rattle.reach.proofs.owned.named_by.Given as goal

abbrev pub invariant-loop-f : goal.invariant-loop-f
invariant-loop-f l = set_all l.table.items (flat_map (global_numbers (view_typed l.t)) (drop l.f-index l.functions)) ≡ owned_table (view_typed l.fn.t) l.fn.functions
