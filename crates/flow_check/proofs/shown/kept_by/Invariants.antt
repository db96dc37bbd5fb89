use Rattle.std.proofs.Common.{◌≡◌, ◌++◌, ◌-◌, map}
use Rattle.std.specs.List.{filter, range_with_len}
use Rattle.typed_tree.specs.TypedView.{view_typed}
use Rattle.flow_check.specs.Kept.{is_kept, kept, kept_by}
use Rattle.flow_check.proofs.shown.kept_by.Given as goal

abbrev pub invariant-loop-slot : goal.invariant-loop-slot
invariant-loop-slot l =
    l.list.items ++ map (kept (view_typed l.t) l.accepted.sides.slots) (filter (is_kept l.accepted l.globals) (range_with_len l.slot (l.count - l.slot)))
    ≡ kept_by (view_typed l.fn.t) l.fn.accepted l.fn.globals l.fn.count
