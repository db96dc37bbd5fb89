use Rattle.std.proofs.Common.{◌∙◌, sym}
use Rattle.memory_link.proofs.Ends.{gives_more, some_left}
use Rattle.memory_link.proofs.slave_end.SlaveEnd.give.Goals as goal

pub returns-clause-given : goal.returns-clause-given
returns-clause-given g c = gives_more _ _ _ _ _ c.in_ok-piece-2.ensures.all (c.in_ok-piece-2.ensures.some (some_left _ (sym c.is_none.ensures ∙ c.if-is_none.false)))
