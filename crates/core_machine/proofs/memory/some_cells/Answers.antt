use Rattle.std.proofs.Common.{◌≡◌, ◌∙◌, ◌++◌, ◌+◌, ◌-◌, ◌<◌, ◌∷◌, [], List, ap, arith, drop, get_or, length, pos, rules, take}
use Rattle.block_memory.specs.declared.cell.Cell.{Cell}
use Rattle.block_memory.specs.declared.cell.Cell.TheVariants as cell
use Rattle.machine_memory.specs.Memory.{blocks_of}
use Rattle.core_machine.proofs.CopyLemmas.{copied_more}
use Rattle.core_machine.proofs.memory.some_cells.Goals as goal

pub loop-left-preserved : goal.loop-left-preserved
loop-left-preserved c =
    let xs : List Cell = (blocks_of c.args.memory.now c.args.of.block).cells in
    let next : c.in_ok-at.at ≡ c.loop-left.at + 1 = search rules in
    let read : c.cell.result ≡ get_or xs c.loop-left.at (cell.Int (pos 0)) = c.cell.ensures in
    let all : c.push.new.self.items ≡ c.loop-left.cells.items ++ c.cell.result ∷ [] = c.in_ok-push.ensures.items in
    let count : c.count-there.result ≡ length xs = c.count-there.ensures in
    let within : c.loop-left.at < length xs = grind arith in
    ap (λ ys. ys ++ take (c.loop-left.left - 1) (drop c.in_ok-at.at xs)) all
    ∙ ap (λ k. (c.loop-left.cells.items ++ c.cell.result ∷ []) ++ take (c.loop-left.left - 1) (drop k xs)) next
    ∙ ap (λ v. (c.loop-left.cells.items ++ v ∷ []) ++ take (c.loop-left.left - 1) (drop (c.loop-left.at + 1) xs)) read
    ∙ copied_more xs c.loop-left.cells.items c.loop-left.at c.loop-left.left (cell.Int (pos 0)) (grind arith) within
    ∙ c.loop-left.invariant
