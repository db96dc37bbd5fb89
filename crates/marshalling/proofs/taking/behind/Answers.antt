use Rattle.std.proofs.Common.{sym}
use Rattle.std.proofs.lemmas.List.{drop-drop}
use Rattle.marshalling.proofs.taking.behind.Goals as goal

pub returns-then-at-cells : goal.returns-then-at-cells
returns-then-at-cells c = sym (drop-drop 1 c.args.at c.args.cells.now)
