use Rattle.std.proofs.Common.{◌∙◌, sym}
use Rattle.memory_link.proofs.Ends.{some_bytes}
use Rattle.memory_link.proofs.slave_end.begin.Goals as goal

pub returns-clause-some : goal.returns-clause-some
returns-clause-some c = c.in_ok-piece.ensures.some (λ none. some_bytes c.args.message (sym c.in_ok-bytes.ensures.are ∙ sym c.of.ensures ∙ none))
