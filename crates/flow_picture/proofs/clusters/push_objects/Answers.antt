use Rattle.flow_picture.proofs.AppendLemmas.{joined_four}
use Rattle.flow_picture.proofs.clusters.push_objects.Goals as goal

pub returns : goal.returns
returns c =
    joined_four c.args.text.now.items _ _ _ _ _ _ _ _ c.in_ok-extend_from_slice.ensures.items c.in_ok-push_note.ensures c.in_ok-push_cluster.ensures c.in_ok-push_cluster-2.ensures
