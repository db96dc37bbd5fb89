use Rattle.std.proofs.Common.{◌≡◌, ◌+◌, ◌-◌, map}
use Rattle.std.specs.List.{filter, range_with_len}
use Rattle.sides.specs.Outs.{is_back, behind_start}
use Rattle.reach.specs.Tables.{set_all}
use Rattle.sides.proofs.outs.add_all.Given as goal

abbrev pub invariant-loop-leaf : goal.invariant-loop-leaf
invariant-loop-leaf l =
    set_all l.table (map (λ j. l.start + j) (filter (is_back l.out.all l.out.first l.slots) (range_with_len l.leaf (l.out.count - l.leaf))))
    ≡ set_all l.fn.table (behind_start l.fn.slots l.fn.out l.fn.start)
