use Rattle.std.proofs.Common.{◌≡◌, ◌-◌, length, map}
use Rattle.std.specs.List.{range_with_len}
use Rattle.half_trees.specs.Declarations.{struct_item}
use Rattle.split_text.specs.Texts.{printed}
use Rattle.split_text.proofs.print.print_structs.Given as goal

-- with the structs that are left, the sheet has all of them
abbrev pub invariant-loop-n : goal.invariant-loop-n
invariant-loop-n l =
    printed (map (struct_item l.half.structs.now) (range_with_len l.n (length l.half.structs.now - l.n))) l.sheet
    ≡ printed (map (struct_item l.half.structs.now) (range_with_len 0 (length l.half.structs.now))) l.fn.sheet
