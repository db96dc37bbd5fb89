use Rattle.std.proofs.Common.{◌≡◌, ◌++◌, drop}
use Rattle.flow_picture.specs.Labels.{label_bytes}
use Rattle.flow_picture.proofs.labels.push_label_bytes.Given as goal

abbrev pub invariant-loop-byte : goal.invariant-loop-byte
invariant-loop-byte l = l.text.items ++ label_bytes (drop l.byte-index l.bytes) ≡ l.fn.text.items ++ label_bytes l.fn.bytes
