use Rattle.std.proofs.Common.{◌≡◌, ◌∙◌, ◌<◌, ◌+◌, ◌++◌, ap, arith, drop, length, List, replicate, set, suc, ℕ}
use Rattle.block_memory.specs.declared.cell.Cell.{Cell}
use Rattle.machine_memory.proofs.ClearLemmas.{fill-step}
use Rattle.machine_memory.proofs.cells.Cells.fill.Goals as goal

pub loop-at-preserved : goal.loop-at-preserved
loop-at-preserved c =
    let at = c.loop-at.at in
    let v : Cell = c.args.value.now in
    let old : List Cell = c.args.self.now in
    let lt : at < length old = omega (arith, c.loop-at-test.true, c.len-at-end.ensures, ap (λ (cs : List Cell). length cs) c.self.view_is, c.self.inside.cells.ok.0) in
    let next : suc at ≡ at + 1 = omega arith in
    ap (λ (cs : List Cell). set cs at v) c.loop-at.invariant ∙ fill-step old at v lt ∙ ap (λ (k : ℕ). replicate k v ++ drop k old) next
