use Rattle.std.proofs.Common.{length}
use Rattle.memory_link.specs.Reading.{IsReading}
use Rattle.memory_link.proofs.Cuts.{Hearing}
use Rattle.memory_link.proofs.hearing.hear_all.Given as goal

abbrev pub invariant-loop-message : goal.invariant-loop-message
invariant-loop-message l = IsReading l.fn.reader → Hearing l.fn.half l.fn.reader l.half l.reader

abbrev pub decreases-loop-message : goal.decreases-loop-message
decreases-loop-message l = length l.reader.unread
