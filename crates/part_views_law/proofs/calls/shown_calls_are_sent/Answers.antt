use Rattle.part_views_law.proofs.CallsShown.{shown_calls_are_sent}
use Rattle.part_views_law.proofs.calls.shown_calls_are_sent.Goals as goal

pub returns : goal.returns
returns c = shown_calls_are_sent
