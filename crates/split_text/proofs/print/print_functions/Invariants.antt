use Rattle.std.proofs.Common.{◌≡◌, drop, map}
use Rattle.half_trees.specs.Functions.{function_item}
use Rattle.pt_core.specs.CodeTree.{view_function}
use Rattle.half_trees.specs.Views.{view_half}
use Rattle.split_text.specs.Texts.{printed}
use Rattle.split_text.proofs.print.print_functions.Given as goal

-- with those that are left, the sheet has all of them
abbrev pub invariant-loop-function : goal.invariant-loop-function
invariant-loop-function l =
    printed (map (function_item (view_half l.half)) (map view_function (drop l.function-index l.function-items))) l.sheet
    ≡ printed (map (function_item (view_half l.half)) (view_half l.half).functions) l.fn.sheet
