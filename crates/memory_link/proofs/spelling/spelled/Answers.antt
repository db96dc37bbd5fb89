use Rattle.std.proofs.Common.{sym, ◌∙◌}
use Rattle.memory_link.proofs.Counting.{within}
use Rattle.memory_link.proofs.spelling.spelled.Goals as goal

pub write_message-requires : goal.write_message-requires
write_message-requires c = within c.args.message.now (sym c.is_within.ensures ∙ c.if-not-is_within.false)
