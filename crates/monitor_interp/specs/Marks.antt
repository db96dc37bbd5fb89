-- The mark of a signature.
use Rattle.std.specs.Prelude.{ℕ}
use Rattle.pt_tree.specs.declared.signature.Signature.{Signature}
use Rattle.monitor_interp.specs.declared.marks.Mark.{Mark}

abbrev pub mark_of : ℕ × Signature → Mark
mark_of s = record { number = s.0; host = s.1.host }
