-- What the parts of a split come to together.
use Rattle.std.proofs.Common.{◌≡◌, ◌∙◌, ap, ℕ, List}
use Rattle.front_end.specs.Reading.{HasTypedTree}
use Rattle.typed_tree.specs.TypedTree.{TypedTree}
use Rattle.pt_core.specs.CodeTree.{SlaveTree, MonitorTree}
use Rattle.flow_rules.specs.declared.accepted.Accepted.{Accepted}
use Rattle.flow_rules.specs.Faults.{IsAccepted}
use Rattle.split_text.specs.Texts.{slave_text, monitor_text}
use Rattle.program_halves.specs.ProgramHalves.{AreHalves}
use Rattle.stages.specs.Climb.{Texts}
use Rattle.program_split.specs.Split.{IsSplit}

pub is_split : (texts : Texts) (t : TypedTree) (a : Accepted) (slave : SlaveTree) (monitor : MonitorTree) (slave_bytes monitor_bytes : List ℕ)
    → HasTypedTree texts.program t → IsAccepted t a → AreHalves t a slave monitor → slave_bytes ≡ slave_text slave → monitor_bytes ≡ monitor_text monitor
    → IsSplit texts (record { slave = slave_bytes; monitor = monitor_bytes })
is_split texts t a slave monitor slave_bytes monitor_bytes has is are s m =
    (t, has, record { accepted = a; is = is; slave_is = s ∙ ap slave_text are.0; monitor_is = m ∙ ap monitor_text are.1 })
