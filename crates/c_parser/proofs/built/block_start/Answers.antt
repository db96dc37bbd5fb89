use Rattle.c_parser.proofs.Ends.{block_starts}
use Rattle.c_parser.proofs.built.block_start.Goals as goal

pub returns-clause-starts : goal.returns-clause-starts
returns-clause-starts c = block_starts c.args.tokens.now c.args.at _ c.in_ok-begin.ensures c.expect.ensures.expects
