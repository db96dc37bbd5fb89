use Rattle.std.proofs.Common.{codes}
use Rattle.pt_base.proofs.Lists.{joined_three}
use Rattle.typed_tree.specs.TypedView.{view_typed}
use Rattle.outlining.specs.OutlineTexts.{name_of}
use Rattle.outlining.proofs.starting.push_unfit.Goals as goal

pub returns : goal.returns
returns c =
    joined_three c.args.text.now.items (codes "no host table fits ") (name_of (view_typed c.args.t.now) c.args.host.0) (codes ", which takes secrets, isn't priv and gives nothing back\n") _ _ _
    c.in_ok-extend_from_slice.ensures.items c.in_ok-push_name.ensures c.in_ok-extend_from_slice-2.ensures.items
