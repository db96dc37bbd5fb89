use Rattle.std.proofs.Common.{codes}
use Rattle.pt_base.proofs.Lists.{joined_three}
use Rattle.explaining.proofs.origins.push_returned.Goals as goal

pub returns : goal.returns
returns c =
    joined_three c.args.text.now.items (codes ": what `") c.args.name.now (codes "` returns is privileged") _ _ _
    c.in_ok-extend_from_slice.ensures.items c.in_ok-extend_from_slice-2.ensures.items c.in_ok-extend_from_slice-3.ensures.items
