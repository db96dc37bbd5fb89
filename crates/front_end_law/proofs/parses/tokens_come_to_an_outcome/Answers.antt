use Rattle.front_end_law.proofs.ParsesOutcomes.{tokens_come}
use Rattle.front_end_law.proofs.parses.tokens_come_to_an_outcome.Goals as goal

pub returns : goal.returns
returns c = tokens_come
