-- The two programs of a program that breaks no rule.
use Rattle.std.specs.Prelude.{◌≡◌}
use Rattle.typed_tree.specs.TypedTree.{TypedTree}
use Rattle.flow_rules.specs.declared.accepted.Accepted.{Accepted}
use Rattle.pt_core.specs.CodeTree.{SlaveTree, MonitorTree}
pub use Rattle.splitter.specs.Accepted.{monitor_half, slave_half}

-- these are both
abbrev pub AreHalves : TypedTree → Accepted → SlaveTree → MonitorTree → Type 0
AreHalves t a slave monitor = (slave ≡ slave_half t a) × (monitor ≡ monitor_half t a)
