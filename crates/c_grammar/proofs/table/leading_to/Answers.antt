use Rattle.std.proofs.Common.{rules}
use Rattle.std.proofs.lemmas.Option.{unwrap_or-slice_get}
use Rattle.c_grammar.specs.Table.{leading}
use Rattle.c_grammar.proofs.table.leading_to.Goals as goal

pub returns : goal.returns
returns c = search (rules, unwrap_or-slice_get leading c.args.rule 0)
