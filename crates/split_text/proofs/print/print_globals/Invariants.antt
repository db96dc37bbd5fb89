use Rattle.std.proofs.Common.{◌≡◌, drop, map}
use Rattle.half_trees.specs.Declarations.{global_item}
use Rattle.pt_core.specs.CodeTree.{view_global}
use Rattle.half_trees.specs.Views.{view_half}
use Rattle.split_text.specs.Texts.{printed}
use Rattle.split_text.proofs.print.print_globals.Given as goal

-- with those that are left, the sheet has all of them
abbrev pub invariant-loop-global : goal.invariant-loop-global
invariant-loop-global l =
    printed (map (global_item (view_half l.half).structs) (map view_global (drop l.global-index l.global-items))) l.sheet
    ≡ printed (map (global_item (view_half l.half).structs) (view_half l.half).globals) l.fn.sheet
