use Rattle.std.proofs.Common.{◌<◌, ℕ, List, length, subst, arith}
use Rattle.std.specs.Prelude.{All}
use Rattle.pair_running.proofs.ServedPairsBeginning.{bytes_end, bytes_on}
use Rattle.pair_running.proofs.ServedPairsPlaces.{item_at}
use Rattle.pair_running.proofs.served_pairs.beginning.of_bytes.Goals as goal

pub loop-input-preserved : goal.loop-input-preserved
loop-input-preserved c = λ rest.
    let within : c.loop-input.input-index < length c.args.all.now = grind arith in
    let bytes : All (λ b. b < 256) c.input-item.result = subst (λ (xs : List ℕ). All (λ b. b < 256) xs) c.as_slice.ensures c.are_bytes.ensures in
    c.loop-input.invariant (bytes_on c.args.all.now c.loop-input.input-index c.input-item.result (item_at c.args.all.now c.loop-input.input-index c.input-item.result within c.input-item.is) bytes rest)

pub returns : goal.returns
returns c = c.loop-input.invariant (bytes_end c.args.all.now c.loop-input.input-index (grind arith))
