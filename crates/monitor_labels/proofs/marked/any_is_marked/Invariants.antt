use Rattle.std.proofs.Common.{◌≡◌, drop}
use Rattle.std.specs.List.{list_any}
use Rattle.monitor_labels.specs.Seeds.{field_is_marked}
use Rattle.monitor_labels.proofs.marked.any_is_marked.Given as goal

-- the rest decides
abbrev pub invariant-loop-field : goal.invariant-loop-field
invariant-loop-field l = list_any (field_is_marked l.known) (drop l.field-index l.fields) ≡ list_any (field_is_marked l.known) l.fn.fields
