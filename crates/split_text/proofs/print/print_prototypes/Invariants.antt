use Rattle.std.proofs.Common.{◌≡◌, drop, map}
use Rattle.half_trees.specs.Halves.{prototype_of}
use Rattle.pt_core.specs.CodeTree.{numbered}
use Rattle.half_trees.specs.Views.{view_half}
use Rattle.split_text.specs.Texts.{printed}
use Rattle.split_text.proofs.print.print_prototypes.Given as goal

-- with those that are left, the sheet has all of them
abbrev pub invariant-loop-entry : goal.invariant-loop-entry
invariant-loop-entry l =
    printed (map (prototype_of l.half.monitor (view_half l.half)) (numbered (drop l.entry-index l.entry-items))) l.sheet
    ≡ printed (map (prototype_of l.half.monitor (view_half l.half)) (view_half l.half).signatures) l.fn.sheet
