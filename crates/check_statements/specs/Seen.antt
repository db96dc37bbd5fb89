-- The table of labels as a list.
use Rattle.check_statements.specs.declared.seen.SeenLabels.{SeenLabels}
use Rattle.check_statements.specs.Labels.{Seen}

abbrev pub seen_of : SeenLabels → Seen
seen_of s = record { cases = s.cases.keys; has_default = s.has_default }
