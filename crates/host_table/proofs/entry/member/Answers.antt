use Rattle.host_table.proofs.TextLemmas.{get-no_text}
use Rattle.host_table.proofs.entry.member.Goals as goal

pub returns-in-Err : goal.returns-in-Err
returns-in-Err c = get-no_text c.args.name.now c.args.table.now c.in-Err.ensures.cases.0
