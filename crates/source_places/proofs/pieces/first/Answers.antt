use Rattle.std.proofs.Common.{◌≤◌, arith, length, sym}
use Rattle.std.proofs.lemmas.List.{take_all}
use Rattle.source_places.proofs.pieces.first.Goals as goal

pub returns-else-count-bytes : goal.returns-else-count-bytes
returns-else-count-bytes c = let le : length c.args.bytes.now ≤ c.args.count = grind arith in sym (take_all c.args.count c.args.bytes.now le)
